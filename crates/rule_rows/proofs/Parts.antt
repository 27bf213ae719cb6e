-- One part of a content, appended.
use Rattle.std.proofs.Common.{◌≡◌, ◌++◌, ℕ, List, [], ◌∷◌, refl, ap, ◌∙◌, arith, length, take}
use Rattle.std.specs.Prelude.{OnErr, OnOk, Result, Ok, Err}
use Rattle.std.specs.Io.{StartsWith}
use Rattle.std.specs.List.{flat_map}
use Rattle.std.proofs.lemmas.List.{append-nil, take_all, take_at}
use Rattle.field_groups.specs.Field.{body_of}
use Rattle.row_values.specs.declared.writing.Part.{Part}
use Rattle.row_values.specs.Writing.{part_fields}

pub one_part : (part : Part)
    → body_of (flat_map part_fields (part ∷ [])) ≡ body_of (part_fields part)
one_part part = ap body_of (append-nil (part_fields part))

-- what stood there is kept, where a part is appended or nothing is
pub one_kept : {E : Type 0} (r : Result (Unit {0}) E) (before more after : List ℕ)
    → OnOk r (after ≡ before ++ more) → OnErr r (after ≡ before) → StartsWith after before
one_kept (Ok u) before more after ok err =
    ap (λ (l : List ℕ). take (length before) l) ok ∙ take_at before more (length before) refl
one_kept (Err e) before more after ok err =
    ap (λ (l : List ℕ). take (length before) l) err ∙ take_all (length before) before (omega arith)

pub ruleset of_parts = (one_part, one_kept)
