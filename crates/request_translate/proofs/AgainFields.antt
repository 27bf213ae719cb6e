-- What a request asks for; and that what is written of it is split again into its fields.
use Rattle.std.proofs.Common.{◌≡◌, ◌≤◌, List, true, Some, None, refl, sym, subst, arith}
use Rattle.std.specs.Option.{option_map}
use Rattle.std.specs.List.{list_all}
use Rattle.field_groups.specs.Data.{is_data_tag}
use Rattle.field_groups.specs.Field.{Field, AreFields, body_of}
use Rattle.field_groups.specs.Fields.{SplitsInto}
use Rattle.message_tables.specs.Tables.{Message}
use Rattle.order_meaning.specs.Request.{Request, RequestKind, New}
use Rattle.row_values.specs.Asked.{letter_of}
use Rattle.row_values.specs.Kinds.{judge}
use Rattle.dict_fix50.specs.Requests.{asked50, items50}
use Rattle.dict_fix50.specs.Sense.{request50}
use Rattle.translation.specs.Header.{type_of, with_content}
use Rattle.request_translate.specs.Translation.{IsRequest}
use Rattle.sound_laws.proofs.PlainFields.{has_good_tags, most_of, times, AreFew, few_of}
use Rattle.translation.proofs.SplitAgain.{fields_again}
use Rattle.translation.specs.Going.{IsType}

-- ---- what a request asks for

pub asks : (r : Message) (kind : RequestKind) → r.letter ≡ letter_of kind
    → option_map (λ (q : Request). q.kind) (request50 r) ≡ Some kind
asks r New is = rw is refl
asks r kind is = rw is refl

-- ---- its fields

good_tags : (kind : RequestKind) → list_all has_good_tags (items50 kind) ≡ true
unfolding is_data_tag
good_tags New = refl
good_tags kind = refl

few_asked : (kind : RequestKind) → most_of (items50 kind) ≤ 240
unfolding times
few_asked New = omega arith
few_asked kind = omega arith

pub request_few : (m : Message) (written : List Field) → IsRequest m written → AreFew written
request_few m written r =
    subst (λ (fs : List Field). AreFew fs) (sym r.is) (few_of judge (asked50 r.kind) m
    (good_tags r.kind) (few_asked r.kind) r.canonical.sound)

-- WHAT IS WRITTEN IS SPLIT AGAIN.
pub split_again : (fields written : List Field) (m : Message)
    → AreFields None fields → IsType (type_of fields) → IsRequest m written →
    SplitsInto (body_of (with_content fields written)) (with_content fields written) None
split_again fields written m good is request =
    fields_again fields written good is (request_few m written request)
