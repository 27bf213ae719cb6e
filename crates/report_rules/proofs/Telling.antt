-- A text that tells something is the text that is written of it.
use Rattle.std.proofs.Common.{◌≡◌, ◌≤◌, ℕ, List, [], ◌∷◌, ◌++◌, Some, sym, ap, ◌∙◌, arith, length}
use Rattle.std.proofs.Common.{take}
use Rattle.std.specs.Prelude.{OnOk, Result, Ok, Err}
use Rattle.std.proofs.lemmas.List.{append-nil}
use Rattle.field_groups.specs.Field.{body_of, field_bytes}
use Rattle.message_tables.specs.Content.{cell_fields}
use Rattle.message_tables.specs.Tables.{Said, Tag}
use Rattle.reports_fix50.specs.Sense.{telling}

pub joined : {E : Type 0} (r : Result (Unit {0}) E) (tag : ℕ) (said : Said)
    (text told front old new : List ℕ) → said ≡ Some text → 1 ≤ length told
    → front ≡ take 2000 text → OnOk r (new ≡ old ++ field_bytes (tag, front ++ told))
    → OnOk r (new ≡ old ++ body_of (cell_fields (Tag tag, telling said told)))
joined (Err e) tag said text told front old new at some cut h = tt
joined (Ok u) tag said text [] front old new at some cut h = absurd (omega (arith, some))
joined (Ok u) tag said text (b ∷ bs) front old new at some cut h =
    h ∙ ap (λ (l : List ℕ). old ++ l)
    (ap (λ (l : List ℕ). field_bytes (tag, l ++ (b ∷ bs))) cut
    ∙ sym (append-nil (field_bytes (tag, take 2000 text ++ (b ∷ bs))))
    ∙ ap (λ (s : Said). body_of (cell_fields (Tag tag, telling s (b ∷ bs)))) (sym at))
