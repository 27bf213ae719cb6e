-- The bytes of contents, a part and a line at a time.
use Rattle.std.proofs.Common.{◌≡◌, ℕ, List, [], ◌∷◌, ◌++◌, length, map, refl, sym, ap, ◌∙◌}
use Rattle.std.proofs.Common.{append-nil, append_assoc, arith, ◌≤◌, take}
use Rattle.std.proofs.lemmas.List.{length-append, length-map, take-take, take_all}
use Rattle.std.proofs.Math.Seq.{take-append_seam}
use Rattle.std.specs.Prelude.{Result, Ok, Err, IfOk, OnErr}
use Rattle.std.specs.Option.{option_map}
use Rattle.std.specs.Result.{result_ok}
use Rattle.std.specs.Io.{StartsWith}
use Rattle.typed_fields.specs.declared.dec.Dec.{Dec}
use Rattle.typed_fields.specs.declared.fault.FieldFault.{FieldFault}
use Rattle.typed_fields.specs.Dec.{dec_text}
use Rattle.std.specs.List.{flat_map}
use Rattle.std.specs.Fmt.{decimal}
use Rattle.field_groups.specs.Field.{Field, body_of, field_bytes}
use Rattle.field_groups.proofs.Front.{field_apart}
use Rattle.message_tables.specs.Tables.{Cell, Tag}
use Rattle.message_tables.specs.Content.{cell_fields, line_fields, group_fields}
use Rattle.row_values.specs.Writing.{count_fields}

pub body-append : (xs ys : List Field) → body_of (xs ++ ys) ≡ body_of xs ++ body_of ys
body-append [] ys = refl
body-append (x ∷ xs) ys =
    ap (λ (bytes : List ℕ). field_bytes x ++ bytes) (body-append xs ys)
    ∙ sym (append_assoc (field_bytes x) (body_of xs) (body_of ys))

lines_mapped : {L : Type 0} (cells : L → List Cell) (lines : List L)
    → flat_map (λ line. line_fields (cells line)) lines ≡ flat_map line_fields (map cells lines)
lines_mapped cells [] = refl
lines_mapped cells (line ∷ lines) =
    ap (λ (fs : List Field). line_fields (cells line) ++ fs) (lines_mapped cells lines)

-- a group is its count, and then its lines
pub group_written : {L : Type 0} (cells : L → List Cell) (tag : ℕ) (lines : List L)
    → body_of (count_fields tag (length lines))
    ++ body_of (flat_map (λ line. line_fields (cells line)) lines)
    ≡ body_of (group_fields tag (map cells lines))
group_written cells tag [] = refl
group_written cells tag (line ∷ lines) =
    let all = line ∷ lines in
    let count : List Field → List Field = λ fs. (tag, decimal (length all)) ∷ fs in
    sym (body-append ((tag, decimal (length all)) ∷ []) (flat_map (λ l. line_fields (cells l)) all))
    ∙ ap (λ (fs : List Field). body_of (count fs)) (lines_mapped cells all)
    ∙ ap (λ (n : ℕ). body_of ((tag, decimal n) ∷ flat_map line_fields (map cells all)))
    (sym (length-map all cells))

-- all lines of a group are written
pub group_done : {L : Type 0} (cells : L → List Cell) (tag : ℕ) (old out : List ℕ)
    (lines now : List L) (i : ℕ)
    → out ≡ (old ++ body_of (count_fields tag (length lines)))
    ++ body_of (flat_map (λ line. line_fields (cells line)) (take i lines))
    → length lines ≤ i → lines ≡ now → out ≡ old ++ body_of (group_fields tag (map cells now))
group_done {L} cells tag old out lines now i h le same =
    let count = body_of (count_fields tag (length lines)) in
    let written : List L → List ℕ =
    λ ls. body_of (flat_map (λ line. line_fields (cells line)) ls) in
    h ∙ ap (λ (ls : List L). (old ++ count) ++ written ls) (take_all i lines le)
    ∙ append_assoc old count (written lines)
    ∙ ap (λ (bytes : List ℕ). old ++ bytes) (group_written cells tag lines)
    ∙ ap (λ (ls : List L). old ++ body_of (group_fields tag (map cells ls))) same

-- the field of a number that was read, once its tag, its spelling and SOH are appended, or, where
-- none was read, once it is cut off
pub dec_ended : (tag start : ℕ) (read : Result Dec FieldFault) (before tagged out : List ℕ)
    → start ≡ length before → tagged ≡ before ++ decimal tag ++ 61 ∷ []
    → IfOk read (λ dec. out ≡ (tagged ++ dec_text dec) ++ 1 ∷ [])
    → OnErr read (out ≡ take start tagged)
    → out ≡ before ++ body_of (cell_fields (Tag tag, option_map dec_text (result_ok read)))
dec_ended tag start (Ok dec) before tagged out from begun ended cut =
    let text = dec_text dec in
    let last = text ++ 1 ∷ [] in
    ended ∙ ap (λ (l : List ℕ). (l ++ text) ++ 1 ∷ []) begun
    ∙ append_assoc (before ++ decimal tag ++ 61 ∷ []) text (1 ∷ [])
    ∙ append_assoc (before ++ decimal tag) (61 ∷ []) last
    ∙ append_assoc before (decimal tag) (61 ∷ last)
    ∙ ap (λ (l : List ℕ). before ++ l) (sym (field_apart (tag, text) []))
dec_ended tag start (Err fault) before tagged out from begun ended cut =
    cut ∙ ap (λ (n : ℕ). take n tagged) from
    ∙ ap (take (length before)) (begun ∙ append_assoc before (decimal tag) (61 ∷ []))
    ∙ take-append_seam before (decimal tag ++ 61 ∷ []) ∙ sym (append-nil before)

-- what stood in front is kept where all that stood before a later step is
pub still_kept : (old more new : List ℕ)
    → StartsWith new (old ++ more) → StartsWith new old
still_kept old more new kept =
    let le : length old ≤ length (old ++ more) = rw (length-append old more) (omega arith) in
    sym (take-take (length old) (length (old ++ more)) new le)
    ∙ ap (λ (bytes : List ℕ). take (length old) bytes) kept ∙ take-append_seam old more
