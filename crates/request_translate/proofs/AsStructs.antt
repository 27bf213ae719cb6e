-- A request as a struct: its content is split and read again, and so is that of what goes up.
use Rattle.std.proofs.Common.{◌≡◌, ◌≤◌, ℕ, List, [], ◌∷◌, Bool, true, Option, None, Ok, Err, refl}
use Rattle.std.proofs.Common.{sym, ap, ◌∙◌, subst, arith}
use Rattle.std.specs.List.{list_all}
use Rattle.field_groups.specs.declared.fault.SplitFault.{SplitFault}
use Rattle.field_groups.specs.Data.{is_data_tag}
use Rattle.field_groups.specs.Field.{Field, body_of}
use Rattle.field_groups.specs.Fields.{SplitsInto}
use Rattle.field_groups.proofs.Determined.{determined}
use Rattle.field_groups.proofs.Plain.{plain_again}
use Rattle.message_tables.specs.Content.{content}
use Rattle.message_tables.specs.Tables.{Message, Table}
use Rattle.order_meaning.specs.declared.fault.Fault.{Fault}
use Rattle.order_meaning.specs.declared.fault.Lack.{Lack}
use Rattle.order_meaning.specs.declared.fault.Lack.TheVariants as reasons
use Rattle.order_meaning.specs.Request.{New, Cancel, Replace, Status}
use Rattle.row_values.specs.Kinds.{Kind, judge}
use Rattle.sound_laws.specs.Sound.{IsSound, without_resend}
use Rattle.sound_laws.proofs.ContentAgain.{content_again, read_again}
use Rattle.sound_laws.proofs.PlainFields.{AreFew, all_of, few_of, has_good_tags, most_of, times}
use Rattle.dict_fix42.specs.Content.{content42, table42}
use Rattle.dict_fix42.specs.Message.{message42}
use Rattle.dict_fix42.specs.Said.{says as says42}
use Rattle.dict_fix42.specs.Sense.{request42}
use Rattle.dict_fix42.specs.declared.requests.Msg42.{Msg42}
use Rattle.dict_fix42.specs.declared.requests.Msg42.TheVariants as messages
use Rattle.dict_fix50.specs.Content.{table50}
use Rattle.dict_fix50.specs.Message.{message50}
use Rattle.dict_fix50.specs.Said.{says as says50}
use Rattle.dict_fix50.specs.Sense.{request50}
use Rattle.dict_fix50.specs.declared.requests.Msg50.{Msg50}
use Rattle.dict_fix50.specs.declared.requests.Msg50.TheVariants as messages50
use Rattle.request_rules.specs.Canonical.{IsRequest}
use Rattle.request_rules.specs.Good.{IsRead}
use Rattle.request_rules.specs.Lack.{lack42}
use Rattle.request_rules.specs.Put.{IsPut, Lacks}
use Rattle.request_rules.specs.Rules.{up_content, up_message}
use Rattle.request_rules.specs.Up.{IsRequest42}
use Rattle.request_rules.proofs.GoUp.{go_up}
use Rattle.request_translate.specs.Laws.{IsReadAgain42, IsReadAgain50}
use Rattle.request_translate.specs.Up.{IsSound42}
use Rattle.request_translate.proofs.AgainFields.{request_few}

-- few fields are split again
pub few_again : (fields : List Field) → AreFew fields → SplitsInto (body_of fields) fields None
few_again fields few = plain_again fields (all_of fields few.plain) (omega (arith, few.few))

few42 : (t : Table Kind) (m : Message) → list_all has_good_tags t.items ≡ true
    → most_of t.items ≤ 240 → IsSound judge t m
    → SplitsInto (body_of (content t m)) (content t m) None
few42 t m good most sound = few_again (content t m) (few_of judge t m good most sound)

split42 : (msg : Msg42) → IsSound42 msg → SplitsInto (body_of (content42 msg)) (content42 msg) None
unfolding is_data_tag times
split42 (messages.New m) s =
    few42 (table42 (messages.New m)) (says42 (messages.New m)) refl (omega arith) s
split42 msg s = few42 (table42 msg) (says42 msg) refl (omega arith) s

-- what is written of a sound request is read again, but for PossResend, which its content does not
-- have
pub again42 : (m : Msg42) → IsReadAgain42 m
unfolding message42
again42 (messages.New m) s =
    read_again (table42 (messages.New m)) (says42 (messages.New m)) refl refl s
again42 m s = read_again (table42 m) (says42 m) refl refl s

pub again50 : (m : Msg50) → IsReadAgain50 m
unfolding message50
again50 (messages50.New m) s =
    content_again (table50 (messages50.New m)) (says50 (messages50.New m)) refl refl s.sound s.month
again50 m s = content_again (table50 m) (says50 m) refl refl s.sound s.month

asked : (msg : Msg42) → IsSound42 msg → IsRequest42 (says42 msg)
asked (messages.New m) s = record { kind = New; sound = s }
asked (messages.Cancel m) s = record { kind = Cancel; sound = s }
asked (messages.Replace m) s = record { kind = Replace; sound = s }
asked (messages.Status m) s = record { kind = Status; sound = s }

-- PossResend is no lack
lack_again : (msg : Msg42) → lack42 (without_resend (says42 msg)) ≡ lack42 (says42 msg)
lack_again (messages.New m) = refl
lack_again other = refl

-- a body that is these fields is split into them
pub split_is : (body : List ℕ) (written fields : List Field) (fault : Option SplitFault)
    → body ≡ body_of written → SplitsInto (body_of written) written None
    → SplitsInto body fields fault → (fields ≡ written) × (fault ≡ None)
split_is body written fields fault is again split =
    let P : List ℕ → Type 0 = λ b. SplitsInto b fields fault in
    determined (body_of written) fields written fault None (subst P is split) again

module _ (msg : Msg42) (sound : IsSound42 msg) (type body : List ℕ)
    (typed : type ≡ (says42 msg).letter ∷ []) (fields : List Field) (fault : Option SplitFault)
    (split : SplitsInto body fields fault) where
  abbrev m : Message
  m = says42 msg

  -- ---- its content

  module _ (is : body ≡ body_of (content42 msg)) where
    reads : message42 type fields fault ≡ Ok (without_resend m)
    reads =
        let same = split_is body (content42 msg) fields fault is (split42 msg sound) split in
        (λ i. message42 (typed i) (same.0 i) (same.1 i)) ∙ again42 msg sound

    pub no_fault : (told : Fault) → message42 type fields fault ≡ Err told → ⊥
    no_fault told h = absurd (let no = sym reads ∙ h in cc)

    message_is : (n : Message) → IsRead type fields fault n → n ≡ without_resend m
    message_is n read =
        let e = sym read.read ∙ ap (λ (f : Option SplitFault). message42 type fields f)
        (sym read.whole) ∙ reads in cc

    module _ (n : Message) (read : IsRead type fields fault n) where
      pub put_is : (before after : List ℕ) → IsPut n before after → IsPut m before after
      put_is before after put =
          let P : Message → Type 0 = λ x. IsPut x before after in
          let q = subst P (message_is n read) put in
          record { said = sym (lack_again msg) ∙ q.said; bytes = q.bytes }

      pub lacks : (lack : Lack) → Lacks n lack → Lacks m lack
      lacks reasons.NoMemory h = tt
      lacks (reasons.Tag tag) h = sym (lack_again msg)
          ∙ ap lack42 (sym (message_is n read)) ∙ h

  -- ---- and that of what goes up

  module _ (is : body ≡ body_of (up_content m)) (said : lack42 m ≡ None) where
    reads_up : message50 type fields fault ≡ Ok (without_resend (up_message m))
    reads_up =
        let stands = go_up m (asked msg sound) said in
        let again = few_again (up_content m)
        (request_few (up_message m) (up_content m) stands.request) in
        let same = split_is body (up_content m) fields fault is again split in
        (λ i. message50 (typed i) (same.0 i) (same.1 i)) ∙ stands.again

    module _ (read written : Msg50) (resend : Bool)
        (reads_as : message50 type fields fault ≡ Ok (says50 read))
        (resent : says50 written ≡ record (says50 read) { resend = resend })
        (mine : resend ≡ m.resend) where
      pub up_is : says50 written ≡ up_message m
      up_is =
          let same : says50 read ≡ without_resend (up_message m) =
          let e = sym reads_as ∙ reads_up in cc in
          resent ∙ (λ i. record (same i) { resend = mine i })

-- what goes up means what the request means, and is canonical
module _ (msg : Msg42) (sound : IsSound42 msg) (said : lack42 (says42 msg) ≡ None) (w : Message)
    (is : w ≡ up_message (says42 msg)) where
  pub means : request50 w ≡ request42 (says42 msg)
  means = ap request50 is ∙ (go_up (says42 msg) (asked msg sound) said).means

  pub canonical : IsRequest w (up_content (says42 msg))
  canonical =
      let P : Message → Type 0 = λ x. IsRequest x (up_content (says42 msg)) in
      subst P (sym is) (go_up (says42 msg) (asked msg sound) said).request
