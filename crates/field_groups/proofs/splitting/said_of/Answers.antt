use Rattle.std.proofs.Common.{◌≡◌, ◌-◌, ◌<◌, ◌∙◌, ℕ, Option, Some, None, List, false, length, refl}
use Rattle.std.proofs.Common.{sym, ap, option_map}
use Rattle.std.specs.Borrow.{Bor}
use Rattle.std.specs.List.{slice_get}
use Rattle.field_groups.specs.Field.{Field, is_data}
use Rattle.field_groups.specs.Index.{last_field}
use Rattle.field_groups.proofs.DataTags.{below}
use Rattle.field_groups.proofs.Places.{last_seen}
use Rattle.field_groups.proofs.splitting.said_of.Goals as goal
use Rattle.field_groups.proofs.splitting.said_of.Goals.{in_default-via-in-Some+else-is_data_pair}
use Rattle.field_groups.proofs.splitting.said_of.Goals.{in_default-via-in_default}

-- what stands last is what a look at it answers
last_is : (parts : List (ℕ × Bor (List ℕ))) (part : Option (ℕ × Bor (List ℕ)))
    → part ≡ slice_get parts (length parts - 1)
    → last_field parts ≡ option_map (λ p. (p.0, p.1.now)) part
last_is parts part is =
    sym (last_seen {Y = Field} (λ p. (p.0, p.1.now)) parts)
    ∙ ap (option_map {U = Field} (λ p. (p.0, p.1.now))) (sym is)

low : (before : Option Field) (tag : ℕ) → tag < 89 → is_data before tag ≡ false
low None tag few = refl
low (Some field) tag few = sym (below field.0 tag few)

pub returns-then-tag-lt-LEAST_DATA-clause-none : goal.returns-then-tag-lt-LEAST_DATA-clause-none
returns-then-tag-lt-LEAST_DATA-clause-none c =
    low (last_field c.args.before.now) c.args.tag c.if-tag-lt-LEAST_DATA.true

pub returns-in-Some-clause-data : goal.returns-in-Some-clause-data
returns-in-Some-clause-data c =
    rw (last_is c.args.before.now (Some c.in-Some.field.now) c.in-Some.ensures.value)
    (sym c.is_data_pair.ensures ∙ c.if-is_data_pair.true)

pub returns-in-Some-clause-len : goal.returns-in-Some-clause-len
returns-in-Some-clause-len c =
    rw (last_is c.args.before.now (Some c.in-Some.field.now) c.in-Some.ensures.value) refl

pub returns-in_default-clause-none : goal.returns-in_default-clause-none
returns-in_default-clause-none c =
    elim c.in_default.branch [
      | in_default-via-in-Some+else-is_data_pair w ↦
          rw (last_is c.args.before.now (Some w.in-Some.field.now) w.in-Some.ensures.value)
          (sym w.is_data_pair.ensures ∙ w.if-is_data_pair.false)
      | in_default-via-in_default w ↦
          rw (last_is c.args.before.now None w.in_default.ensures.value) refl
    ]
