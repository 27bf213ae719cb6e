-- Standard: FIX 4.2, "Logon"; FIXT 1.1, "Logon", which adds DefaultApplVerID(1137).
-- Own: HeartBtInt(108) up to a day; only EncryptMethod(98) 0 and DefaultApplVerID(1137) 9.
--
-- The Logon that a session accepts.
use Rattle.std.specs.Prelude.{ℕ, Bool, true, false, List, codes, Some, None, Ok, Err, is_ok}
use Rattle.std.specs.Prelude.{if◌then◌else◌}
use Rattle.std.specs.declared.option.Option.{Option}
use Rattle.std.specs.declared.result.Result.{Result}
use Rattle.std.specs.Str.{bytes_eq}
use Rattle.order_meaning.specs.declared.Side.{Side}
use Rattle.order_meaning.specs.declared.Side.TheVariants.{Client, Venue}
use Rattle.typed_fields.specs.declared.fault.FieldFault.{FieldFault}
use Rattle.typed_fields.specs.declared.flag.Flag.{Flag}
use Rattle.typed_fields.specs.Flag.{read_flag}
use Rattle.field_groups.specs.Field.{Field}
use Rattle.session_core.specs.declared.tag.TheConstants.{ENCRYPT_METHOD, HEART_BT_INT}
use Rattle.session_core.specs.declared.tag.TheConstants.{DEFAULT_APPL_VER_ID, RESET_SEQ_NUM_FLAG}
use Rattle.session_logon.specs.declared.logon.TheConstants.{MAX_HEART}
use Rattle.session_logon.specs.declared.logon.LogonFault.{LogonFault}
use Rattle.session_logon.specs.declared.logon.LogonFault.TheVariants.{Tag}
use Rattle.message_tables.specs.Tables.{value_at}
use Rattle.session_logon.specs.Reasons.{required, read_between}

-- the field is there and has just this value
abbrev pub is_text : List ℕ → Option (List ℕ) → Bool
is_text text None = false
is_text text (Some value) = bytes_eq value text

-- the field is there and is `Y`
abbrev pub is_said : Result Flag FieldFault → Bool
is_said (Ok flag) = flag.yes
is_said (Err fault) = false

abbrev pub is_yes : Option (List ℕ) → Bool
is_yes None = false
is_yes (Some value) = is_said (read_flag value)

-- the field is missing, or is `Y` or `N`
abbrev pub is_flag_or_none : Option (List ℕ) → Bool
is_flag_or_none None = true
is_flag_or_none (Some value) = is_ok (read_flag value)

-- HeartBtInt(108), in seconds
abbrev pub heart_in : List Field → Result ℕ ℕ
heart_in fields = required (read_between 0 MAX_HEART) (value_at HEART_BT_INT fields)

-- the venue's Logon says which version of the application it speaks: 9 is FIX 5.0 SP2
abbrev pub is_version : Side → List Field → Bool
is_version Client fields = true
is_version Venue fields = is_text (codes "9") (value_at DEFAULT_APPL_VER_ID fields)

-- What a Logon says: HeartBtInt(108), and whether ResetSeqNumFlag(141) is `Y`. Else the first tag
-- whose field is wrong, in the order 98, 108, 1137, 141.
abbrev pub logon_of : Side → List Field → Result (ℕ × Bool) LogonFault
logon_of side fields =
    if is_text (codes "0") (value_at ENCRYPT_METHOD fields) then with_heart (heart_in fields)
    side fields
    else Err (Tag ENCRYPT_METHOD)
  where
    with_heart : Result ℕ ℕ → Side → List Field → Result (ℕ × Bool) LogonFault
    with_heart (Err reason) side fields = Err (Tag HEART_BT_INT)
    with_heart (Ok heart) side fields =
        if is_version side fields then
        (if is_flag_or_none (value_at RESET_SEQ_NUM_FLAG fields)
        then Ok (heart, is_yes (value_at RESET_SEQ_NUM_FLAG fields)) else Err
        (Tag RESET_SEQ_NUM_FLAG))
        else Err (Tag DEFAULT_APPL_VER_ID)
