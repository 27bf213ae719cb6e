-- The content of what goes on: fields that are no raw data, not too many, and none of them of the
-- header.
use Rattle.std.proofs.Common.{◌≡◌, ◌≤◌, ℕ, not, Bool, true, false, List, [], ◌∷◌}
use Rattle.std.proofs.Common.{length, Option, Some, None, IfSome, refl, sym, ap, subst, arith, lit≤}
use Rattle.std.specs.List.{flat_map, list_all, list_any}
use Rattle.field_groups.specs.Data.{is_data_tag}
use Rattle.field_groups.specs.Field.{Field, AreFields}
use Rattle.field_groups.proofs.Plain.{plain_are}
use Rattle.message_tables.specs.Tables.{Message, Table, is_one_of}
use Rattle.message_tables.specs.Content.{content}
use Rattle.order_meaning.specs.Request.{RequestKind, New}
use Rattle.row_values.specs.Kinds.{Kind, judge}
use Rattle.dict_fix50.specs.Requests.{asked50}
use Rattle.reports_fix42.specs.Message.{cancel_reject_table, execution_report_table}
use Rattle.sound_laws.specs.Sound.{IsSound}
use Rattle.sound_laws.proofs.Each.{neither, not_true}
use Rattle.sound_laws.proofs.Found.{items_of}
use Rattle.sound_laws.proofs.PlainFields.{all_of, few_of, has_good_tags, most_of, times}
use Rattle.sound_laws.proofs.Stages.{AreOf, item_tags}
use Rattle.request_rules.specs.Canonical.{IsRequest}
use Rattle.report_rules.specs.Down.{IsId, IsReport42, IsReport50, Rejects42, Reports42, StandsFor}
use Rattle.report_rules.specs.Rules.{table_at, written}
use Rattle.report_rules.proofs.GoDown.{goes_down}
use Rattle.message_answers.specs.Laws.{header_tags, is_in_header}
use Rattle.message_answers.specs.Translated.{GoesDown}
use Rattle.message_answers.proofs.Letters.{among}
use Rattle.message_answers.proofs.SaidTexts.{IsShortId}

-- the fields of a content that can be sent
pub record AreGiven (fields : List Field) : Type 0 where
  pub good : AreFields None fields
  pub few : length fields ≤ 248
  pub apart : list_any is_in_header fields ≡ false

abbrev is_behind : ℕ → Bool
is_behind tag = not (is_one_of header_tags tag)

-- fields of tags that are not of the header
pub apart_of : (tags : List ℕ) (fields : List Field) → list_all is_behind tags ≡ true
    → AreOf tags fields → list_any is_in_header fields ≡ false
apart_of tags [] behind of = refl
apart_of tags (f ∷ fs) behind of =
    neither (is_one_of header_tags f.0) (list_any is_in_header fs)
    (not_true _ (among is_behind tags f.0 behind of.0)) (apart_of tags fs behind of.1)

-- THE CONTENT OF A SOUND MESSAGE
sound_given : (t : Table Kind) (m : Message) → list_all has_good_tags t.items ≡ true
    → most_of t.items ≤ 240 → list_all is_behind (flat_map item_tags t.items) ≡ true
    → IsSound judge t m → AreGiven (content t m)
sound_given t m good most behind sound =
    let few = few_of judge t m good most sound in record {
      good = plain_are None (content t m) (all_of (content t m) few.plain);
      few = omega (arith, few.few);
      apart = apart_of (flat_map item_tags t.items) (content t m) behind
          (items_of judge (content t m) m t.items sound.items);
    }

-- ---- requests

kind_given : (kind : RequestKind) (m : Message) → IsSound judge (asked50 kind) m
    → AreGiven (content (asked50 kind) m)
unfolding is_data_tag times
kind_given New m = sound_given (asked50 New) m refl (lit≤ tt) refl
kind_given kind m = sound_given (asked50 kind) m refl (lit≤ tt) refl

pub request_given : (m : Message) (fields : List Field) → IsRequest m fields → AreGiven fields
request_given m fields r = subst AreGiven (sym r.is) (kind_given r.kind m r.canonical.sound)

-- ---- reports

-- A REPORT that goes on stands for what it was, and can be sent, where this is known of its order.
module _ (m : Message) (report : IsReport50 m) (known : Option (List ℕ))
    (short : IfSome known IsShortId) (text : List Field) (goes : GoesDown known m text) where
  pub stands : StandsFor known m goes.client
  stands = goes_down known (by known short) m goes.client report goes.down
    where
      by : (id : Option (List ℕ)) → IfSome id IsShortId → IfSome id IsId
      by None h = tt
      by (Some id) h = h.is

  pub report_given : AreGiven text
  unfolding is_data_tag times
  report_given = subst AreGiven (sym goes.content) (by stands.sound)
    where
      by : IsReport42 goes.client → AreGiven (written goes.client)
      by (Reports42 sound) =
          let P : Table Kind → Type 0 = λ t. AreGiven (content t goes.client) in
          subst P (sym (ap table_at sound.letter))
          (sound_given execution_report_table goes.client refl (lit≤ tt) refl sound)
      by (Rejects42 sound) =
          let P : Table Kind → Type 0 = λ t. AreGiven (content t goes.client) in
          subst P (sym (ap table_at sound.letter))
          (sound_given cancel_reject_table goes.client refl (lit≤ tt) refl sound)
