-- Own: how a field's value is read, whatever its type.
use Rattle.std.specs.Prelude.{ℕ, List, length, Bool, Result, Ok, Err, ◌==◌, if◌then◌else◌}
use Rattle.typed_fields.specs.declared.fault.FieldFault.{FieldFault}
use Rattle.typed_fields.specs.declared.fault.FieldFault.TheVariants.{Empty, Form, Range}

-- what reading some bytes gives, where it is known whether the form of their type holds, whether
-- its bound holds, and what value they spell: Empty for no bytes, Form where the form is broken,
-- Range where the form holds and the bound does not
abbrev pub judged : {A : Type 0} → List ℕ → Bool → Bool → A → Result A FieldFault
judged bytes form bound value =
    if length bytes == 0
    then Err Empty else (if form then (if bound then Ok value else Err Range) else Err Form)
