-- The lines of entries, one entry more at a time.
use Rattle.std.proofs.Common.{◌≡◌, ℕ, zero, suc, ◌+◌, ◌<◌, ◌≤◌, List, [], ◌∷◌, ◌++◌, length, take}
use Rattle.std.proofs.Common.{drop, refl, sym, ◌∙◌, ap, subst, Some, append_assoc, append-nil, arith}
use Rattle.std.proofs.Common.{Result, Ok, Err}
use Rattle.std.specs.Prelude.{IsErr}
use Rattle.std.specs.List.{slice_get}
use Rattle.std.specs.Option.{ForSome}
use Rattle.std.specs.declared.option.Option.{Option}
use Rattle.std.specs.Io.KnownBytes.{Appends}
use Rattle.std.proofs.KnownBytes.{Appends-nil, Appends-trans}
use Rattle.std.proofs.lemmas.List.{length_push, take_all, take_more, take-append-drop}
use Rattle.std.proofs.lemmas.Option.{get_or_from_slice_get, slice_get_within}
use Rattle.outside.specs.Bytes.{AppendsFront, PutAppends}
use Rattle.outside.proofs.Fronts.{appended_front, front_on}
use Rattle.pair_entries.specs.declared.entry.Entry.{Entry}
use Rattle.entry_lines.specs.EntryLine.{entry_line}
use Rattle.journal_show.specs.JournalLines.{lines_from}

-- the entry of an index
pub entry_at : (entries : List Entry) (i : ℕ) → i < length entries
    → (entry : Entry) × (slice_get entries i ≡ Some entry)
entry_at [] i within = absurd (omega (arith, within))
entry_at (e ∷ entries) zero within = (e, refl)
entry_at (e ∷ entries) (suc i) within = entry_at entries i (omega (arith, within))

-- the entries up to one, and it
front_more : (entries : List Entry) (i : ℕ) (entry : Entry) → slice_get entries i ≡ Some entry
    → take i entries ++ entry ∷ [] ≡ take (i + 1) entries
front_more entries i entry at =
    sym (take_more entries i entry (slice_get_within entries i entry at)
    ∙ ap (λ (e : Entry). take i entries ++ e ∷ []) (get_or_from_slice_get entries i entry entry at))

-- the lines of entries, and of those behind them
lines_append : (xs ys : List Entry) (number : ℕ)
    → lines_from number (xs ++ ys)
    ≡ lines_from number xs ++ lines_from (number + length xs) ys
lines_append [] ys number = ap (λ (n : ℕ). lines_from n ys) (omega arith)
lines_append (x ∷ xs) ys number =
    ap (λ (bytes : List ℕ). entry_line number x ++ bytes) (lines_append xs ys (number + 1))
    ∙ ap (λ (n : ℕ). entry_line number x
    ++ (lines_from (number + 1) xs ++ lines_from n ys)) (omega arith)
    ∙ sym (append_assoc (entry_line number x) (lines_from (number + 1) xs)
    (lines_from (number + suc (length xs)) ys))

lines_more : (read : List Entry) (entry : Entry) (index : ℕ) → length read ≡ index
    → lines_from 1 (read ++ entry ∷ []) ≡ lines_from 1 read ++ entry_line (1 + index) entry
lines_more read entry index count = lines_append read (entry ∷ []) 1
    ∙ ap (λ (n : ℕ). lines_from 1 read ++ lines_from (1 + n) (entry ∷ [])) count
    ∙ ap (λ (l : List ℕ). lines_from 1 read ++ l) (append-nil (entry_line (1 + index) entry))

-- a call that failed put nothing
pub nothing_put : {T E : Type 0} (result : Result T E) (old : Option (List ℕ)) (line : List ℕ)
    → IsErr result → PutAppends old old result line
nothing_put (Ok value) old line failed = absurd (cc failed)
nothing_put (Err error) old line failed = (0, Appends-nil old)

-- So many lines were put, of the entries that were read: the first of the journal, where the disk
-- tells it.
pub record ArePut (told : Option (List ℕ)) (entries : List Entry) (index : ℕ)
    (old new : Option (List ℕ)) : Type 0 where
  pub read : List Entry
  pub count : length read ≡ index
  pub are : ForSome told (λ b. read ≡ take index entries)
  pub put : Appends old new (lines_from 1 read)

module _ (told : Option (List ℕ)) (entries : List Entry) (old : Option (List ℕ)) where
  pub none_put : ArePut told entries 0 old old
  none_put = record { read = []; count = refl; are = λ b e. refl; put = Appends-nil old }

  pub all_put : (index : ℕ) (new : Option (List ℕ)) → ArePut told entries index old new
      → length entries ≤ index → (read : List Entry) × Appends old new (lines_from 1 read)
      × ForSome told (λ b. read ≡ entries)
  all_put index new put all =
      (put.read, put.put, λ b e. put.are b e ∙ take_all index entries all)

  module _ (index : ℕ) (now new : Option (List ℕ)) (before : ArePut told entries index old now)
      (entry : Entry) (at : ForSome told (λ b. slice_get entries index ≡ Some entry)) where
    abbrev longer : List Entry
    longer = before.read ++ entry ∷ []

    are_longer : ForSome told (λ b. longer ≡ take (index + 1) entries)
    are_longer b e = ap (λ (es : List Entry). es ++ entry ∷ []) (before.are b e)
        ∙ front_more entries index entry (at b e)

    text_longer : lines_from 1 longer ≡ lines_from 1 before.read ++ entry_line (1 + index) entry
    text_longer = lines_more before.read entry index before.count

    -- the line of one entry more was put
    pub one_put : Appends now new (entry_line (1 + index) entry)
        → ArePut told entries (index + 1) old new
    one_put put = record {
      read = longer;
      count = length_push before.read entry ∙ ap (λ (n : ℕ). n + 1) before.count;
      are = are_longer;
      put = subst (λ (l : List ℕ). Appends old new l) (sym text_longer)
          (Appends-trans old now new (lines_from 1 before.read) (entry_line (1 + index) entry)
          before.put put);
    }

    -- a front of it was, and no more is
    pub front_put : {T E : Type 0} (result : Result T E) → IsErr result
        → AppendsFront now new (entry_line (1 + index) entry)
        → (read : List Entry) × PutAppends old new result (lines_from 1 read)
        × ForSome told (λ b. read ≡ entries)
    front_put (Ok value) failed put = absurd (cc failed)
    front_put (Err error) failed put = (
      longer ++ drop (index + 1) entries,
      front_on old new (lines_from 1 longer)
          (lines_from (1 + length longer) (drop (index + 1) entries))
          (lines_from 1 (longer ++ drop (index + 1) entries))
          (lines_append longer (drop (index + 1) entries) 1)
          (subst (λ (l : List ℕ). AppendsFront old new l) (sym text_longer)
          (appended_front old now new (lines_from 1 before.read) (entry_line (1 + index) entry)
          before.put put)),
      λ b e. ap (λ (es : List Entry). es ++ drop (index + 1) entries) (are_longer b e)
          ∙ take-append-drop (index + 1) entries,
    )
