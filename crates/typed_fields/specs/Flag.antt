-- Standard: Boolean (FIX 4.2, Data Types): Y for yes or true, N for no or false.
use Rattle.std.specs.Prelude.{ℕ, Bool, true, List, [], ◌∷◌, Result, ◌==◌, ◌||◌, ◌&&◌, length}
use Rattle.std.specs.Prelude.{slice_index, if◌then◌else◌, ⊤}
use Rattle.typed_fields.specs.declared.fault.FieldFault.{FieldFault}
use Rattle.typed_fields.specs.declared.flag.Flag.{Flag}
use Rattle.typed_fields.specs.Reading.{judged}

-- the form: Y or N
abbrev pub is_flag_form : List ℕ → Bool
is_flag_form bytes = (length bytes == 1) && (slice_index bytes 0 == 89 || slice_index bytes 0 == 78)

-- the reading of a flag, which has no bound
abbrev pub read_flag : List ℕ → Result Flag FieldFault
read_flag bytes =
    judged bytes (is_flag_form bytes) true (record { yes = slice_index bytes 0 == 89 })

-- each flag can be read
abbrev pub IsFlag : Flag → Type 0
IsFlag flag = ⊤

-- the one spelling of a flag
abbrev pub flag_text : Flag → List ℕ
flag_text flag = (if flag.yes then 89 else 78) ∷ []
