-- What is answered to a request of the client.
use Rattle.std.proofs.Common.{◌≡◌, ℕ, Bool, true, false, not, List, [], ◌∷◌, Option, None, Result}
use Rattle.std.proofs.Common.{Ok, Err, refl, sym, ap, subst, ◌∙◌, ◌==◌, ◌||◌, if◌then◌else◌}
use Rattle.std.specs.Prelude.{IfOk}
use Rattle.std.proofs.lemmas.Result.{IfOk-weaker}
use Rattle.field_groups.specs.declared.fault.SplitFault.{SplitFault}
use Rattle.field_groups.specs.Field.{Field, AreFields}
use Rattle.message_tables.specs.Tables.{Message}
use Rattle.order_meaning.specs.declared.Side.{Side}
use Rattle.order_meaning.specs.declared.Side.TheVariants.{Client}
use Rattle.order_meaning.specs.declared.fault.Fault.{Fault}
use Rattle.order_meaning.specs.declared.fault.Lack.{Lack}
use Rattle.order_meaning.specs.declared.fault.Lack.TheVariants as lacking
use Rattle.order_chains.specs.declared.item.ChainItem.{ChainItem}
use Rattle.first_faults.specs.Gives.{Tells}
use Rattle.order_meaning.specs.Request.{RequestKind, New}
use Rattle.row_values.specs.Asked.{letter_of}
use Rattle.row_values.specs.Kinds.{judge}
use Rattle.dict_fix42.specs.Message.{message42}
use Rattle.reports_fix42.specs.Message as reports42
use Rattle.reject_rules.specs.Refusals.{away_refusal}
use Rattle.request_rules.specs.Good.{IsRead}
use Rattle.request_rules.specs.Lack.{lack42}
use Rattle.request_rules.specs.Put.{IsPut, Lacks as IsLacked}
use Rattle.request_rules.specs.Rules.{up_content}
use Rattle.request_rules.specs.Up.{IsRequest42}
use Rattle.request_rules.proofs.GoUp.{read_go_up}
use Rattle.request_rules.proofs.Sound42.{read_is_sound}
use Rattle.sound_laws.proofs.PlainFields.{clear_fields}
use Rattle.first_faults.proofs.Given.{tells}
use Rattle.event_decisions.specs.Body.{type_of}
use Rattle.event_decisions.proofs.Bodies.{bodies_are_read}
use Rattle.message_answers.specs.declared.answer.Answer.{Answer as GivenAnswer}
use Rattle.message_answers.specs.declared.asking.Asked.{Asked as GivenAsked}
use Rattle.message_answers.specs.declared.asking.Known.{Known as GivenKnown}
use Rattle.message_answers.specs.Answer.{Answer, Near, Gives, in_order, is_used, spelled, used}
use Rattle.message_answers.specs.Message.{is_refusal, is_refusal_type}
use Rattle.message_answers.specs.Message.{message_of as message_of_side, said_by}
use Rattle.message_answers.specs.Seen.{IsSplit, IsAnswer, IsForwarded, IsLacking, IsSpelled, Lacks}
use Rattle.message_answers.specs.Seen.{Goes, Joins, asked_in, joined}
use Rattle.message_answers.specs.Seen.{known_in, message_in, words_in}
use Rattle.message_answers.proofs.Answered.{answers_message, gives_spelled, message_is}
use Rattle.message_answers.proofs.Joins.{joins_request}
use Rattle.message_answers.proofs.ReadShapes.{of_request, type_by}

no_refusal : (m : Message) → IsRequest42 m → is_refusal m ≡ false
no_refusal m r = ap (λ (l : ℕ). l == 51 || l == 106) r.sound.letter ∙ by r.kind
  where
    by : (kind : RequestKind) → (letter_of kind == 51 || letter_of kind == 106) ≡ false
    by New = refl
    by kind = refl

-- the fields of a split body
good_fields : (a : GivenAsked) → IsSplit a → AreFields None a.split.now.fields
good_fields a split = subst (λ (fields : List Field). AreFields None fields) (sym split.fields)
    (bodies_are_read a.body.now).good

module _ (k : GivenKnown) (a : GivenAsked) (split : IsSplit a) (of_client : a.side ≡ Client)
    (plain : is_refusal_type a.msg_type.now ≡ false) where
  -- what is asked is a request
  asked_is : message_in a
      ≡ message42 a.msg_type.now a.split.now.fields a.split.now.fault
  asked_is =
      ap (λ (side : Side).
      said_by side a.msg_type.now a.split.now.fields a.split.now.fault) of_client
      ∙ ap (λ (b : Bool). if b
      then reports42.message42 a.msg_type.now a.split.now.fields a.split.now.fault
      else message42 a.msg_type.now a.split.now.fields a.split.now.fault) plain

  pub faulty_is : (fault : Fault)
      → message42 a.msg_type.now a.split.now.fields a.split.now.fault ≡ Err fault
      → Tells fault (message_in a)
  faulty_is fault is = tells fault (message_in a) (asked_is ∙ is)

  module _ (m : Message)
      (is : IsRead a.msg_type.now a.split.now.fields a.split.now.fault m) where
    read : message42 a.msg_type.now a.split.now.fields a.split.now.fault ≡ Ok m
    read = ap (λ (f : Option SplitFault). message42 a.msg_type.now a.split.now.fields f) is.whole
        ∙ is.read

    asked_for : IsRequest42 m
    asked_for = read_is_sound a.split.now.fields
        (clear_fields judge None a.split.now.fields (good_fields a split)) a.msg_type.now m is.read

    -- it goes on, or lacks a counterpart
    pub tried_answers : {E : Type 0} (result : Result GivenAnswer E)
        → is_used (known_in k) m ≡ false → k.active ≡ true
        → IfOk result (IsSpelled a Client None m (lack42 m) (joined a.number m))
        → IfOk result (IsAnswer k a)
    tried_answers result new active =
        let order : in_order a.side (known_in k) k.active (asked_in a) m
        ≡ spelled (asked_in a) None m (lack42 m) =
        ap (λ (side : Side). in_order side (known_in k) k.active (asked_in a) m) of_client
        ∙ (λ i. if new i then used (asked_in a) m.resend else
        (if not (active i) then Near (away_refusal a.number (type_of a.body.now)) else
        spelled (asked_in a) None m (lack42 m))) in
        IfOk-weaker result (IsSpelled a Client None m (lack42 m) (joined a.number m)) (IsAnswer k a)
        (λ answer tried. answers_message k a split m answer (asked_is ∙ read)
        (no_refusal m asked_for)
        (subst (λ (x : Answer). Gives (asked_in a) x (words_in answer)) (sym order)
        (gives_spelled a split.msg_type Client None m (lack42 m) (joined a.number m) answer
        of_client tried)))

    pub tried_joins : {E : Type 0} (result : Result GivenAnswer E) → is_used (known_in k) m ≡ false
        → IfOk result (IsSpelled a Client None m (lack42 m) (joined a.number m))
        → IfOk result (Joins k a)
    tried_joins result new =
        IfOk-weaker result (IsSpelled a Client None m (lack42 m) (joined a.number m)) (Joins k a)
        (joins_request k a split of_client m
        (ap (λ (side : Side). message_of_side side a.body.now) (sym of_client)
        ∙ message_is a split ∙ asked_is ∙ read)
        (type_by (of_request a.msg_type.now) a.split.now.fields a.split.now.fault m read) new
        (lack42 m))

-- ---- a request that goes on

pub request_sent : {E : Type 0} (a : GivenAsked) (m : Message) (content : List ℕ)
    (item : Option ChainItem) (result : Result GivenAnswer E) → IsSplit a
    → IsRead a.msg_type.now a.split.now.fields a.split.now.fault m → IsPut m [] content
    → IfOk result (IsForwarded a (m.letter ∷ []) m.resend content item)
    → IfOk result (IsSpelled a Client None m (lack42 m) item)
request_sent a m content item (Ok answer) split is put forwarded =
    let stands = read_go_up a.msg_type.now a.split.now.fields m (good_fields a split) is.read
    put.said in
    Goes (up_content m) put.said
    (record { by_rules = refl; canonical = stands.request; means = stands.means })
    (subst (λ (bytes : List ℕ). IsForwarded a (m.letter ∷ []) m.resend bytes item answer) put.bytes
    forwarded)
request_sent a m content item (Err error) split is put forwarded = tt

pub request_refused : {E : Type 0} (a : GivenAsked) (m : Message) (lack : Lack)
    (item : Option ChainItem) (result : Result GivenAnswer E) → IsLacked m lack
    → IfOk result (IsLacking a lack) → IfOk result (IsSpelled a Client None m (lack42 m) item)
request_refused a m lacking.NoMemory item (Ok answer) is refused = absurd refused
request_refused a m (lacking.Tag tag) item (Ok answer) is refused = Lacks tag is refused
request_refused a m lack item (Err error) is refused = tt
