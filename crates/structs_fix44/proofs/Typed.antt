-- A request or report as a struct: its content is split and read again behind its MsgType, and what
-- is known of these fields is so of what the struct says.
use Rattle.std.proofs.Common.{◌≡◌, ◌++◌, ◌∙◌, ℕ, List, [], ◌∷◌, Bool, false, true, Option, None}
use Rattle.std.proofs.Common.{Ok, Err, Some, refl, sym, ap, subst, arith, ◌==◌, ◌||◌}
use Rattle.field_groups.specs.Data.{is_data_tag}
use Rattle.field_groups.specs.declared.fault.SplitFault.{SplitFault}
use Rattle.field_groups.specs.Field.{Field, body_of, field_bytes}
use Rattle.field_groups.specs.Fields.{SplitsInto}
use Rattle.message_tables.specs.FirstFault.{message_of}
use Rattle.message_tables.specs.Content.{content}
use Rattle.message_tables.specs.Tables.{Item, Message, Table}
use Rattle.value_kinds.specs.ValueKind.{spelling}
use Rattle.row_values.specs.Kinds.{Kind, judge}
use Rattle.first_faults.specs.Faults.{told}
use Rattle.rows_fix42.specs.Header.{table as table44}
use Rattle.rows_fix50.specs.Header.{completed_by}
use Rattle.dict_fix44.specs.Message.{request_message44}
use Rattle.dict_fix44.specs.Requests.{new_order}
use Rattle.order_meaning.specs.Request.{New, Cancel, Replace, Status}
use Rattle.dict_fix50.specs.Message.{message50}
use Rattle.dict_fix50.specs.Said.{says as says50}
use Rattle.dict_fix50.specs.declared.requests.Msg50.{Msg50}
use Rattle.requests_fix44.specs.Content.{content44, table44 as table_of44}
use Rattle.requests_fix44.specs.Said.{says}
use Rattle.requests_fix44.specs.declared.requests.Msg44.{Msg44}
use Rattle.requests_fix44.specs.declared.requests.Msg44.TheVariants as messages
use Rattle.sound_laws.specs.Complete.{IsComplete}
use Rattle.sound_laws.specs.Sound.{IsClear, without_resend}
use Rattle.sound_laws.proofs.Completed.{completed_again}
use Rattle.sound_laws.proofs.Each.{◌&◌}
use Rattle.sound_laws.proofs.Lookups.{places_apart}
use Rattle.sound_laws.proofs.PlainFields.{AreFew, few_of, times}
use Rattle.sound_laws.proofs.ReadSound.{IsClearField}
use Rattle.sound_laws.proofs.TableFits as fits
use Rattle.sound_laws.proofs.TableFits.{table_fits}
use Rattle.rule_rows.specs.ByRules.{by_rules, or_lack}
use Rattle.translation.specs.Bodies.{Direction}
use Rattle.translation.specs.Going.{Appends, AreRead, IsType, One, StayBack}
use Rattle.translation.specs.Header.{type_of}
use Rattle.translation.specs.declared.error.TranslateError.TheVariants as errors
use Rattle.translation.proofs.BehindHeader.{front, items_behind, whole}
use Rattle.translation.proofs.CarriedHeader.{IsOwnHead, head_value}
use Rattle.translation.proofs.SplitAgain.{clear_again}
use Rattle.request_translate.proofs.AgainFields.{request_few}
use Rattle.request_translate.proofs.AsStructs.{few_again, split_is}
use Rattle.report_translate.proofs.DownAgain.{message_again}
use Rattle.translate_fix44.specs.Laws.{IsRequest44, StandsUp}
use Rattle.translate_fix44.specs.Rules.{kinds, up_content, up_lack, up_message, up_rules}
use Rattle.structs_fix44.specs.Down.{Says}
use Rattle.structs_fix44.specs.Up.{IsSound44, IsUp}
use Rattle.translate_fix44.specs.Translation.{up}
use Rattle.translate_fix44.proofs.Go.{go_up}

-- ---- a content behind its MsgType

-- MsgType alone as a header
abbrev pub typed : ℕ → List Field
typed letter = (35, letter ∷ []) ∷ []

pub record IsTyped (letter : ℕ) : Type 0 where
  pub own : IsOwnHead (letter ∷ []) (typed letter)
  pub type : IsType (letter ∷ [])
  pub clear : (IsClearField judge) (35, letter ∷ [])

pub typed_as : (letter : ℕ) → IsClear (letter ∷ []) → IsTyped letter
unfolding spelling
typed_as letter clear = record {
  own = record { kind = (refl, clear); carried = tt & tt & tt & tt & tt & tt & tt & tt };
  type = One letter (λ is. absurd (let no = sym (ap (λ (n : ℕ). n == 1 || false) is) ∙ clear in
      cc)) refl;
  clear = λ h. clear;
}

module _ (letter : ℕ) (is : IsTyped letter) (written : List Field) (few : AreFew written) where
  pub behind_type : SplitsInto (body_of (typed letter ++ written)) (typed letter ++ written) None
  behind_type = clear_again (typed letter) written (is.clear, tt) is.type few

module _ (letter : ℕ) (items : List (Item Kind)) (r : Message) (is : IsTyped letter) where
  abbrev t : Table Kind
  t = table44 letter items

  abbrev values : ℕ → Option (List ℕ)
  values = head_value (letter ∷ []) (typed letter)

  reads_typed : items_behind t values r ≡ true → table_fits t (front t values r) ≡ true
      → IsComplete t r → false ≡ r.resend
      → completed_by (told (message_of judge t (typed letter ++ content t r))) ≡ Ok r
  reads_typed behind fit c flag =
      let places = fits.places_are_apart t (whole t values r) (front t values r) fit in
      ap completed_by (message_again letter items (letter ∷ []) (typed letter) r is.own behind fit
      c.sound flag)
      ∙ ap (λ (x : Message). Ok x) (completed_again r c.month (ap places_apart c.sound.places
      ∙ places) r.resend)

-- ---- what is known of such fields in a direction

module _ {d : Direction} {body : List ℕ} {m : Message} (said : Says d body m) {fields : List Field}
    {stopped : Option SplitFault} (split : SplitsInto body fields stopped) where
  message_is : (n : Message) → AreRead d fields stopped n → n ≡ m
  message_is n read =
      let same = (split_is body said.fields fields stopped said.bytes said.again split).0 in
      let e = sym read.read ∙ ap (λ (fs : List Field). d.source (type_of fs) fs None) same
      ∙ said.reads in cc

  -- what is appended, and what becomes of the message
  pub record Puts (before after : List ℕ) : Type 0 where
    pub w : Message
    pub goes : d.goes m ≡ Ok w
    pub put : after ≡ before ++ body_of (d.content m w)

  pub puts : (before after : List ℕ) → Appends d fields stopped before after → Puts before after
  puts before after h =
      let is = message_is h.gone.m h.gone.read in record {
        w = h.gone.w;
        goes = ap d.goes (sym is) ∙ h.gone.goes;
        put = h.bytes ∙ ap (λ (x : Message). before ++ body_of (d.content x h.gone.w)) is;
      }

  -- or the tag that it lacks
  pub lacks : (tag : ℕ) → StayBack d fields stopped (errors.Lacking tag) → d.goes m ≡ Err tag
  lacks tag h = ap d.goes (sym (message_is h.0 h.1)) ∙ h.2

-- ---- a request

is_typed : (msg : Msg44) → IsTyped (says msg).letter
is_typed (messages.New m) = typed_as 68 refl
is_typed (messages.Cancel m) = typed_as 70 refl
is_typed (messages.Replace m) = typed_as 71 refl
is_typed (messages.Status m) = typed_as 72 refl

few44 : (msg : Msg44) → IsSound44 msg → AreFew (content44 msg)
unfolding is_data_tag times
few44 (messages.New m) c =
    few_of judge (table_of44 (messages.New m)) (says (messages.New m)) refl (omega arith) c.sound
few44 msg c = few_of judge (table_of44 msg) (says msg) refl (omega arith) c.sound

-- a message without its PossResend is complete, too
once44 : (msg : Msg44) → IsSound44 msg → IsComplete (table_of44 msg) (without_resend (says msg))
once44 (messages.New m) c = record {
  sound = record {
    letter = refl;
    places = c.sound.places;
    counts = c.sound.counts;
    items = c.sound.items;
  };
  month = c.month;
}
once44 msg c = record {
  sound = record {
    letter = refl;
    places = c.sound.places;
    counts = c.sound.counts;
    items = c.sound.items;
  };
  month = c.month;
}

reads44 : (msg : Msg44) → IsSound44 msg → request_message44 ((says msg).letter ∷ [])
    (typed (says msg).letter ++ content44 msg) None ≡ Ok (without_resend (says msg))
unfolding request_message44
reads44 (messages.New m) c =
    let msg = messages.New m in
    reads_typed 68 new_order (without_resend (says msg)) (is_typed msg) refl refl (once44 msg c)
    refl
reads44 msg c =
    let t = table_of44 msg in
    reads_typed t.letter t.items (without_resend (says msg)) (is_typed msg) refl refl (once44 msg c)
    refl

asked : (msg : Msg44) → IsSound44 msg → IsRequest44 (says msg)
asked (messages.New m) c = record { kind = New; complete = c }
asked (messages.Cancel m) c = record { kind = Cancel; complete = c }
asked (messages.Replace m) c = record { kind = Replace; complete = c }
asked (messages.Status m) c = record { kind = Status; complete = c }

pub same_lack : (lack : Option ℕ) (x y : Message) (tag : ℕ) → or_lack lack x ≡ Err tag
    → or_lack lack y ≡ Err tag
same_lack None x y tag h = absurd cc
same_lack (Some other) x y tag h = h

has_none : (lack : Option ℕ) (x w : Message) → or_lack lack x ≡ Ok w → lack ≡ None
has_none None x w h = refl
has_none (Some tag) x w h = absurd cc

module _ (msg : Msg44) (c : IsSound44 msg) {type none first written body : List ℕ}
    (is : type ≡ (says msg).letter ∷ []) (empty : none ≡ [])
    (put : first ≡ none ++ field_bytes (35, type))
    (wrote : written ≡ first ++ body_of (content44 msg)) (copied : body ≡ written)
    {fields : List Field} {stopped : Option SplitFault} (split : SplitsInto body fields stopped)
  where
    said : Says up body (without_resend (says msg))
    said = record {
      fields = typed (says msg).letter ++ content44 msg;
      bytes = copied ∙ wrote ∙ ap (λ (b : List ℕ). b ++ body_of (content44 msg)) (put
          ∙ (λ i. empty i ++ field_bytes (35, is i)));
      again = behind_type (says msg).letter (is_typed msg) (content44 msg) (few44 msg c);
      reads = reads44 msg c;
    }

    pub is_up : (before after : List ℕ) → before ≡ [] → Appends up fields stopped before after
        → IsUp (says msg) after
    is_up before after start h =
        let p = puts said split before after h in
        let m = without_resend (says msg) in record {
          said = has_none (up_lack m) (by_rules kinds up_rules m) p.w p.goes;
          bytes = p.put ∙ ap (λ (b : List ℕ). b ++ body_of (up_content m)) start;
        }

    pub up_lacks : (tag : ℕ) → StayBack up fields stopped (errors.Lacking tag)
        → up_message (says msg) ≡ Err tag
    up_lacks tag h =
        let m = without_resend (says msg) in
        same_lack (up_lack m) (by_rules kinds up_rules m) (by_rules kinds up_rules (says msg)) tag
        (lacks said split tag h)

-- ---- and what goes up of it

module _ (msg : Msg44) (c : IsSound44 msg) {text : List ℕ} (up : IsUp (says msg) text)
    {type body : List ℕ} (copied : body ≡ text) (is : type ≡ (says msg).letter ∷ [])
    {fields : List Field} {stopped : Option SplitFault} (split : SplitsInto body fields stopped)
  where
    abbrev w : Message
    w = by_rules kinds up_rules (says msg)

    goes : up_message (says msg) ≡ Ok w
    goes = ap (λ (l : Option ℕ). or_lack l w) up.said

    stands : StandsUp (says msg) w
    stands = go_up (says msg) w (asked msg c) goes

    reads_up : message50 type fields stopped ≡ Ok (without_resend w)
    reads_up =
        let again = few_again (up_content (says msg))
        (request_few w (up_content (says msg)) stands.request) in
        let same = split_is body (up_content (says msg)) fields stopped (copied ∙ up.bytes) again
        split in
        (λ i. message50 (is i) (same.0 i) (same.1 i)) ∙ stands.again

    module _ (read written : Msg50) (resend : Bool)
        (reads_as : message50 type fields stopped ≡ Ok (says50 read))
        (resent : says50 written ≡ record (says50 read) { resend = resend })
        (mine : resend ≡ (says msg).resend) where
      written_is : says50 written ≡ w
      written_is =
          let same : says50 read ≡ without_resend w = let e = sym reads_as ∙ reads_up in cc in
          resent ∙ (λ i. record (same i) { resend = mine i })

      pub by_the_rules : up_message (says msg) ≡ Ok (says50 written)
      by_the_rules = goes ∙ ap (λ (x : Message). Ok x) (sym written_is)

      pub stands_up : StandsUp (says msg) (says50 written)
      stands_up = subst (λ (x : Message). StandsUp (says msg) x) (sym written_is) stands
