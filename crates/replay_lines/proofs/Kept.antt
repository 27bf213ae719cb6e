-- What is kept of calls, one more at a time, and how it is shown.
use Rattle.std.proofs.Common.{◌≡◌, ◌∙◌, ℕ, ◌+◌, ◌==◌, ◌≤◌, ◌<◌, Bool, true, false, List, [], ◌∷◌}
use Rattle.std.proofs.Common.{◌++◌, length, drop, get_or, map, refl, sym, ap, append-nil}
use Rattle.std.proofs.Common.{append_assoc, codes}
use Rattle.std.specs.Prelude.{if◌then◌else◌}
use Rattle.std.specs.List.{concat}
use Rattle.std.proofs.lemmas.Grind.{flat_map-append}
use Rattle.std.proofs.lemmas.List.{at_drop_more, at_drop_all}
use Rattle.std.proofs.lemmas.List.Folds.{concat-append}
use Rattle.wires.specs.Wire.{WireCall, Poll, Send, HangUp, Nothing, Opened, Bytes, Closed, Broken}
use Rattle.replay_lines.specs.CallLog.{kept_line, kept_lines, opened_by, opened_in}
use Rattle.replay_lines.specs.CallLog.{shown_byte, shown}
use Rattle.replay_lines.specs.Pieces.{pieces_of}
use Rattle.replay_lines.specs.ReplayLines.{printed, piece_line, numbered, side_lines}
use Rattle.replay_lines.proofs.OneMore.{lines_from, lines_are}

pub one_more : (calls : List WireCall) (call : WireCall)
    → kept_lines (calls ++ call ∷ []) ≡ kept_lines calls ++ kept_line call
one_more calls call = flat_map-append kept_line calls (call ∷ [])
    ∙ ap (λ (l : List ℕ). kept_lines calls ++ l) (append-nil (kept_line call))

-- ---- bytes that are kept, in two parts

pub shown_parts : (side : List ℕ) (n : ℕ) (kept more : List ℕ)
    → shown side n (kept ++ more) ≡ shown side n kept ++ shown side (opened_in n kept) more
shown_parts side n [] more = refl
shown_parts side n (byte ∷ kept) more =
    ap (λ (l : List ℕ). shown_byte side n byte ++ l)
    (shown_parts side (opened_by n byte) kept more)
    ∙ sym (append_assoc (shown_byte side n byte) (shown side (opened_by n byte) kept)
    (shown side (opened_in (opened_by n byte) kept) more))

-- ---- a line without SOH

abbrev Plain : List ℕ → Type 0
Plain [] = Unit {0}
Plain (byte ∷ line) = (byte == 1 ≡ false) × Plain line

plain_parts : (line more : List ℕ) → Plain line → Plain more → Plain (line ++ more)
plain_parts [] more plain next = next
plain_parts (byte ∷ line) more (is, plain) next = (is, plain_parts line more plain next)

no_mark : (byte : ℕ) (mark : Bool) → byte == 1 ≡ mark
    → (if mark then 124 else byte) == 1 ≡ false
no_mark byte true is = refl
no_mark byte false is = is

printed_plain : (piece : List ℕ) → Plain (map printed piece)
printed_plain [] = tt
printed_plain (byte ∷ piece) = (no_mark byte (byte == 1) refl, printed_plain piece)

line_plain : (piece : List ℕ) → Plain (piece_line piece)
line_plain piece = plain_parts (codes "> " ++ map printed piece) (codes "\n")
    (plain_parts (codes "> ") (map printed piece) (refl, (refl, tt)) (printed_plain piece))
    (refl, tt)

opens_none : (n byte : ℕ) → byte == 1 ≡ false → opened_by n byte ≡ n
opens_none n byte is = ap (λ (mark : Bool). if mark then n + 1 else n) is

-- nothing before the first connection
none : (before : Bool) (line : List ℕ) → line ≡ [] → line ≡ (if before then [] else line)
none true line is = is
none false line is = refl

first_in : (before : Bool) (byte : ℕ) (line : List ℕ)
    → (if before then [] else byte ∷ []) ++ (if before then [] else line)
    ≡ (if before then [] else byte ∷ line)
first_in true byte line = refl
first_in false byte line = refl

opened_plain : (n : ℕ) (line : List ℕ) → Plain line → opened_in n line ≡ n
opened_plain n [] plain = refl
opened_plain n (byte ∷ line) (is, plain) =
    ap (λ m. opened_in m line) (opens_none n byte is) ∙ opened_plain n line plain

shown_plain : (side : List ℕ) (n : ℕ) (line : List ℕ) → Plain line
    → shown side n line ≡ (if n == 0 then [] else line)
shown_plain side n [] plain = none (n == 0) [] refl
shown_plain side n (byte ∷ line) (is, plain) =
    ap (λ (mark : Bool). (if mark then numbered side (n + 1)
    else (if n == 0 then [] else byte ∷ [])) ++ shown side (opened_by n byte) line) is
    ∙ ap (λ m. (if n == 0 then [] else byte ∷ []) ++ shown side m line) (opens_none n byte is)
    ∙ ap (λ (l : List ℕ). (if n == 0 then [] else byte ∷ []) ++ l)
    (shown_plain side n line plain)
    ∙ first_in (n == 0) byte line

-- ---- what is kept of calls is shown as their lines

pub kept_shown : (side : List ℕ) (n : ℕ) (calls : List WireCall)
    → shown side n (kept_lines calls) ≡ lines_from side n calls
kept_shown side n [] = refl
kept_shown side n (Poll Opened ∷ calls) =
    ap (λ (l : List ℕ). numbered side (n + 1) ++ l) (kept_shown side (n + 1) calls)
kept_shown side n (Poll Nothing ∷ calls) = kept_shown side n calls
kept_shown side n (Poll (Bytes bytes) ∷ calls) = kept_shown side n calls
kept_shown side n (Poll Closed ∷ calls) = kept_shown side n calls
kept_shown side n (Poll Broken ∷ calls) = kept_shown side n calls
kept_shown side n (Send piece wrote done ∷ calls) =
    shown_parts side n (piece_line wrote) (kept_lines calls)
    ∙ ap (λ (l : List ℕ). l ++ shown side (opened_in n (piece_line wrote)) (kept_lines calls))
    (shown_plain side n (piece_line wrote) (line_plain wrote))
    ∙ ap (λ m. (if n == 0 then [] else piece_line wrote) ++ shown side m (kept_lines calls))
    (opened_plain n (piece_line wrote) (line_plain wrote))
    ∙ ap (λ (l : List ℕ). (if n == 0 then [] else piece_line wrote) ++ l)
    (kept_shown side n calls)
kept_shown side n (HangUp ∷ calls) = kept_shown side n calls

-- ---- the parts of what is kept

pub side_shown : (side : List ℕ) (calls : List WireCall) (kept : List ℕ) → kept ≡ kept_lines calls
    → shown side 0 kept ≡ side_lines side 1 (pieces_of calls)
side_shown side calls kept is = ap (shown side 0) is ∙ kept_shown side 0 calls
    ∙ lines_are side calls

-- the first part that is left, and the rest
pub part_first : (side : List ℕ) (parts : List (List ℕ)) (i : ℕ) (part kept end : List ℕ)
    (n next : ℕ) → i < length parts → part ≡ get_or parts i part → kept ≡ part
    → next ≡ opened_in n kept
    → shown side n (concat (drop i parts) ++ end)
    ≡ shown side n kept ++ shown side next (concat (drop (i + 1) parts) ++ end)
part_first side parts i part kept end n next within at is opens =
    let rest : List ℕ = concat (drop (i + 1) parts) in
    at_drop_more (λ (l : List (List ℕ)). shown side n (concat l ++ end)) parts i part within
    ∙ ap (λ (p : List ℕ). shown side n ((p ++ rest) ++ end)) (sym at ∙ sym is)
    ∙ ap (shown side n) (append_assoc kept rest end)
    ∙ shown_parts side n kept (rest ++ end)
    ∙ ap (λ m. shown side n kept ++ shown side m (rest ++ end)) (sym opens)

-- the end is left
pub end_first : (side : List ℕ) (parts : List (List ℕ)) (i : ℕ) (end : List ℕ) (n : ℕ)
    → length parts ≤ i
    → shown side n (concat (drop i parts) ++ end) ≡ shown side n end ++ []
end_first side parts i end n all =
    at_drop_all (λ (l : List (List ℕ)). shown side n (concat l ++ end)) parts i all
    ∙ sym (append-nil (shown side n end))

-- the end is packed
pub packed_more : (parts all : List (List ℕ)) (end left : List ℕ) → all ≡ parts ++ end ∷ []
    → left ≡ [] → concat all ++ left ≡ concat parts ++ end
packed_more parts all end left is none =
    ap (λ (l : List ℕ). concat all ++ l) none
    ∙ append-nil (concat all)
    ∙ ap (λ (l : List (List ℕ)). concat l) is
    ∙ concat-append parts (end ∷ [])
    ∙ ap (λ (l : List ℕ). concat parts ++ l) (append-nil end)
