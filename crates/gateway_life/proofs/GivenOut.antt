-- Each out of a lawful journal can be sent, and its content says nothing that its header says.
use Rattle.std.proofs.Common.{◌≡◌, ℕ, zero, suc, ◌+◌, ◌-◌, ◌≤◌, Bool, true, false, List, [], ◌∷◌}
use Rattle.std.proofs.Common.{◌/◌, ◌%◌, ◌++◌, length, take, drop, refl, sym, ◌∙◌, ap, subst, arith}
use Rattle.std.proofs.Common.{Some, None, Ok, Err, IfSome, codes}
use Rattle.std.specs.Prelude.{Result, ◌==◌, not, nat_le, map, if◌then◌else◌, cond, slice_get}
use Rattle.std.specs.Prelude.{unwrap_or}
use Rattle.std.specs.declared.option.Option.{Option}
use Rattle.std.specs.Option.{option_map}
use Rattle.std.specs.Fmt.{decimal, digit_glyph, digits, digits_onto}
use Rattle.std.specs.List.{list_any, find}
use Rattle.std.specs.Str.{bytes_eq}
use Rattle.std.proofs.lemmas.Bool.{or_from, or_parts}
use Rattle.std.proofs.lemmas.Bool.Decides.{nat_tests}
use Rattle.std.proofs.lemmas.List.{take-append-drop}
use Rattle.std.proofs.lemmas.List.Folds.{list_any-append}
use Rattle.order_meaning.specs.declared.Side.{Side}
use Rattle.order_meaning.specs.declared.Side.TheVariants.{Client, Venue}
use Rattle.order_meaning.specs.declared.names.Names.{Names}
use Rattle.order_meaning.specs.declared.reasons.TheConstants.{MAX_REASON42}
use Rattle.order_meaning.specs.Reasons.{later_reason_words}
use Rattle.field_groups.specs.Data.{is_data_tag}
use Rattle.field_groups.specs.Field.{Field, AreFields, IsPlainField, body_of, is_soh}
use Rattle.field_groups.proofs.Plain.{plain_is, is_plain}
use Rattle.message_tables.specs.Tables.{value_at}
use Rattle.session_core.specs.declared.act.Act.{Act}
use Rattle.session_core.specs.declared.act.Act.TheVariants.{Say}
use Rattle.session_core.specs.declared.act.Admin.{Admin}
use Rattle.session_core.specs.declared.act.Admin.TheVariants as admin
use Rattle.session_core.specs.declared.act.Why.{Why}
use Rattle.session_core.specs.declared.act.Why.TheVariants as why
use Rattle.session_core.specs.declared.session.Session.{Session}
use Rattle.session_core.specs.declared.session.Spent.{Spent}
use Rattle.session_core.specs.declared.session.Step.{Step}
use Rattle.session_core.specs.declared.said.TheConstants.{MAX_REF_MSG_TYPE}
use Rattle.session_core.specs.declared.tag.TheConstants.{TEST_REQ_ID}
use Rattle.session_core.specs.Reason.{session_reason, session_text}
use Rattle.session_core.specs.Table as session
use Rattle.session_logon.specs.Content.{said, fields_of, logon_fields, logout_fields, logout_text}
use Rattle.session_logon.specs.Content.{rejected_fields, reason_field, text_field}
use Rattle.session_logon.specs.Head.{our, peer}
use Rattle.session_frames.specs.Laws.{IsShown}
use Rattle.pair_entries.specs.declared.TheConstants.{MAX_NUMBER, MAX_CONTENT}
use Rattle.pair_entries.specs.declared.entry.Took.{Took}
use Rattle.pair_entries.specs.declared.entry.Out.{Out}
use Rattle.pair_entries.specs.declared.entry.Entry.{Entry}
use Rattle.pair_entries.specs.Payload.{Next, IsEntry, IsOut, IsTook, AreOuts}
use Rattle.kept_entries.specs.Numbers.{first_numbers, is_side, outs_to}
use Rattle.kept_entries.specs.Entries.{AreEntries}
use Rattle.event_decisions.specs.Body.{first_value, reading_of}
use Rattle.event_decisions.specs.Event.{Event, Opened, Frame, Closed, Tick, End, side_of}
use Rattle.event_decisions.specs.Decide.{Asked, Words, Sessions, Heard, Given, Decision}
use Rattle.event_decisions.specs.Decide.{session_of, heard_in, input_of, stepped, says_of, out_of}
use Rattle.event_decisions.specs.Decide.{took_of, asks, asked_if, asked_by, numbered, give}
use Rattle.event_decisions.specs.Decide.{concluded, decide_by, with_session, is_active, IsDecided}
use Rattle.event_decisions.specs.Decide.{LawfulAfter, IsLawful}
use Rattle.event_decisions.specs.Laws.{BodiesAreRead}
use Rattle.message_answers.specs.Answer.{Answers}
use Rattle.message_answers.specs.Laws.{AnswersAreGivenOut, AreNumbered, IsNumbered, IsGivenOut}
use Rattle.life_laws.specs.Forms.{Placed, placed_at, all_placed}
use Rattle.life_laws.specs.Receiver.{is_in_header, is_administrative, AreSent}
use Rattle.life_laws.specs.Standing.{NumberedFrom}
use Rattle.gateway_life.specs.Laws.{AreShown}

-- ---- bytes without SOH

abbrev IsClear : List ℕ → Type 0
IsClear bytes = list_any is_soh bytes ≡ false

both_clear : (a b : List ℕ) → IsClear a → IsClear b → IsClear (a ++ b)
both_clear a b ha hb = list_any-append is_soh a b
    ∙ or_from (list_any is_soh a) (list_any is_soh b) ha hb

take_clear : (n : ℕ) (bytes : List ℕ) → IsClear bytes → IsClear (take n bytes)
take_clear n bytes h = (or_parts (list_any is_soh (take n bytes)) (list_any is_soh (drop n bytes))
    (sym (list_any-append is_soh (take n bytes) (drop n bytes))
    ∙ ap (list_any is_soh) (take-append-drop n bytes) ∙ h)).0

glyph_clear : (d : ℕ) → is_soh (digit_glyph false d) ≡ false
glyph_clear d = grind (arith, nat_tests)

onto_clear : (k n : ℕ) (acc : List ℕ) → IsClear acc → IsClear (digits_onto k 10 false n acc)
onto_clear zero n acc h = h
onto_clear (suc k) n acc h = by (n / 10 == 0)
    (onto_clear k (n / 10) (digit_glyph false (n % 10) ∷ acc) more)
  where
    more : IsClear (digit_glyph false (n % 10) ∷ acc)
    more = or_from (is_soh (digit_glyph false (n % 10))) (list_any is_soh acc)
        (glyph_clear (n % 10)) h

    by : (b : Bool)
        → IsClear (digits_onto k 10 false (n / 10) (digit_glyph false (n % 10) ∷ acc))
        → IsClear (if b then digit_glyph false (n % 10) ∷ acc
        else digits_onto k 10 false (n / 10) (digit_glyph false (n % 10) ∷ acc))
    by true later = more
    by false later = later

decimal_clear : (n : ℕ) → IsClear (decimal n)
unfolding digits
decimal_clear n = onto_clear 64 n [] refl

-- ---- fields of a content

-- a field of no raw bytes, which stands in no header
record IsInContent (f : Field) : Type 0 where
  plain : IsPlainField f
  apart : is_in_header f ≡ false

abbrev AreInContent : List Field → Type 0
AreInContent [] = Unit {0}
AreInContent (f ∷ fs) = IsInContent f × AreInContent fs

content_good : (before : Option Field) (fs : List Field) → AreInContent fs → AreFields before fs
content_good before [] are = tt
content_good before (f ∷ fs) are =
    (plain_is before f are.0.plain, content_good (Some f) fs are.1)

content_apart : (fs : List Field) → AreInContent fs → list_any is_in_header fs ≡ false
content_apart [] are = refl
content_apart (f ∷ fs) are =
    or_from (is_in_header f) (list_any is_in_header fs) are.0.apart (content_apart fs are.1)

-- few fields of a content
record IsContent (fs : List Field) : Type 0 where
  are : AreInContent fs
  few : length fs ≤ 5

field_is : (tag : ℕ) (value : List ℕ) → 1 ≤ tag → tag ≤ 999_999_999 → is_data_tag tag ≡ false
    → is_in_header (tag, value) ≡ false → IsClear value → IsInContent (tag, value)
field_is tag value low high bare apart clear = record {
  plain = record { positive = low; nine_digits = high; no_data = bare; no_soh = clear };
  apart = apart;
}

content_none : IsContent []
content_none = record { are = tt; few = omega arith }

content_one : (f : Field) → IsInContent f → IsContent (f ∷ [])
content_one f is = record { are = (is, tt); few = omega arith }

content_two : (f g : Field) → IsInContent f → IsInContent g → IsContent (f ∷ g ∷ [])
content_two f g is also = record { are = (is, (also, tt)); few = omega arith }

content_three : (f g h : Field) → IsInContent f → IsInContent g → IsInContent h
    → IsContent (f ∷ g ∷ h ∷ [])
content_three f g h is also too = record { are = (is, (also, (too, tt))); few = omega arith }

-- ---- what a session says

logon_is : (side : Side) (reset : Bool) (heart : ℕ) → IsContent (logon_fields side reset heart)
unfolding is_data_tag
logon_is Client true heart = content_three _ _ _
    (field_is 98 (codes "0") (omega arith) (omega arith) refl refl refl)
    (field_is 108 (decimal heart) (omega arith) (omega arith) refl refl (decimal_clear heart))
    (field_is 141 (codes "Y") (omega arith) (omega arith) refl refl refl)
logon_is Client false heart = content_two _ _
    (field_is 98 (codes "0") (omega arith) (omega arith) refl refl refl)
    (field_is 108 (decimal heart) (omega arith) (omega arith) refl refl (decimal_clear heart))
logon_is Venue reset heart = content_three _ _ _
    (field_is 98 (codes "0") (omega arith) (omega arith) refl refl refl)
    (field_is 108 (decimal heart) (omega arith) (omega arith) refl refl (decimal_clear heart))
    (field_is 1137 (codes "9") (omega arith) (omega arith) refl refl refl)

text_is : (text : List ℕ) → IsClear text → IsInContent (58, text)
unfolding is_data_tag
text_is text clear = field_is 58 text (omega arith) (omega arith) refl refl clear

low_clear : (expected got : ℕ) → IsClear (logout_text (why.TooLow expected got))
low_clear expected got =
    both_clear (codes "MsgSeqNum too low, expecting " ++ decimal expected ++ codes " but received ")
    (decimal got)
    (both_clear (codes "MsgSeqNum too low, expecting " ++ decimal expected)
    (codes " but received ")
    (both_clear (codes "MsgSeqNum too low, expecting ") (decimal expected) refl
    (decimal_clear expected)) refl) (decimal_clear got)

logout_clear : (reason : Why) → IsClear (logout_text reason)
logout_clear (why.TooLow expected got) = low_clear expected got
logout_clear (why.Logon tag) =
    both_clear (codes "Logon refused, tag ") (decimal tag) refl (decimal_clear tag)
logout_clear reason = refl

logout_is : (text : List ℕ) → IsClear text → IsContent (logout_fields text)
logout_is text clear = by (length text == 0)
  where
    by : (b : Bool) → IsContent (if b then [] else (58, text) ∷ [])
    by true = content_none
    by false = content_one (58, text) (text_is text clear)

words_clear : (reason : ℕ) → IfSome (later_reason_words reason) IsClear
unfolding later_reason_words
words_clear reason = by (reason == 13) (reason == 15) (reason == 16)
  where
    by : (a b c : Bool) → IfSome (if a then Some (codes "tag appears more than once") else
        (if b then Some (codes "group fields out of order") else
        (if c then Some (codes "wrong group count") else None))) IsClear
    by true b c = refl
    by false true c = refl
    by false false true = refl
    by false false false = tt

told_clear : (side : Side) (reason : ℕ) → IfSome (session_text side reason) IsClear
told_clear Client reason = by (nat_le reason MAX_REASON42)
  where
    by : (b : Bool) → IfSome (if b then None else later_reason_words reason) IsClear
    by true = tt
    by false = words_clear reason
told_clear Venue reason = tt

reason_is : (r : ℕ) → IsInContent (373, decimal r)
unfolding is_data_tag
reason_is r = field_is 373 (decimal r) (omega arith) (omega arith) refl refl (decimal_clear r)

told_are : (r : Option ℕ) (t : Option (List ℕ)) → IfSome t IsClear
    → AreInContent (reason_field r ++ text_field t)
told_are None None h = tt
told_are None (Some t) h = (text_is t h, tt)
told_are (Some r) None h = (reason_is r, tt)
told_are (Some r) (Some t) h = (reason_is r, (text_is t h, tt))

told_few : (r : Option ℕ) (t : Option (List ℕ)) → length (reason_field r ++ text_field t) ≤ 2
told_few None None = omega arith
told_few None (Some t) = omega arith
told_few (Some r) None = omega arith
told_few (Some r) (Some t) = omega arith

reject_is : (tag number : ℕ) (msg_type : List ℕ) (reason : Option ℕ) (text : Option (List ℕ))
    → IsClear msg_type → IfSome text IsClear
    → IsContent (rejected_fields tag number msg_type ++ reason_field reason ++ text_field text)
unfolding is_data_tag
reject_is tag number msg_type reason text clear told = record {
  are = (
    field_is 45 (decimal number) (omega arith) (omega arith) refl refl (decimal_clear number),
    (
      field_is 371 (decimal tag) (omega arith) (omega arith) refl refl (decimal_clear tag),
      (
        field_is 372 (take MAX_REF_MSG_TYPE msg_type) (omega arith) (omega arith) refl refl
            (take_clear MAX_REF_MSG_TYPE msg_type clear),
        told_are reason text told,
      ),
    ),
  );
  few = let most = told_few reason text in omega (arith, most);
}

content_is : (side : Side) (a : Admin) (heart n number : ℕ) (msg_type echo : List ℕ)
    → IsClear msg_type → IsClear echo → IsContent (fields_of side a heart n number msg_type echo)
unfolding is_data_tag
content_is side (admin.Logon reset) heart n number msg_type echo clear also =
    logon_is side reset heart
content_is side (admin.Logout reason) heart n number msg_type echo clear also =
    logout_is (logout_text reason) (logout_clear reason)
content_is side (admin.Heartbeat true) heart n number msg_type echo clear also =
    content_one (112, echo) (field_is 112 echo (omega arith) (omega arith) refl refl also)
content_is side (admin.Heartbeat false) heart n number msg_type echo clear also = content_none
content_is side admin.TestRequest heart n number msg_type echo clear also =
    content_one (112, codes "T" ++ decimal n)
    (field_is 112 (codes "T" ++ decimal n) (omega arith) (omega arith) refl refl
    (both_clear (codes "T") (decimal n) refl (decimal_clear n)))
content_is side (admin.ResendRequest from) heart n number msg_type echo clear also = content_two _ _
    (field_is 7 (decimal from) (omega arith) (omega arith) refl refl (decimal_clear from))
    (field_is 16 (codes "0") (omega arith) (omega arith) refl refl refl)
content_is side (admin.Reject tag reason) heart n number msg_type echo clear also =
    reject_is tag number msg_type (session_reason side reason) (session_text side reason) clear
    (told_clear side reason)

-- ---- an out that can be sent, where it is within its bounds

record IsSaid (out : Out) : Type 0 where
  fields : List Field
  content : out.content ≡ body_of fields
  good : AreFields None fields
  few : length fields ≤ 248
  plain : IsClear out.msg_type
  no_header : list_any is_in_header fields ≡ false
  no_reset : bytes_eq out.msg_type (codes "4") ≡ false
  admin : out.admin ≡ is_administrative out.msg_type

abbrev AreSaid : List Out → Type 0
AreSaid [] = Unit {0}
AreSaid (out ∷ outs) = IsSaid out × AreSaid outs

record IsAdminType (a : Admin) : Type 0 where
  plain : IsClear (said Client a 0 0 0 [] []).msg_type
  no_reset : bytes_eq (said Client a 0 0 0 [] []).msg_type (codes "4") ≡ false
  admin : (said Client a 0 0 0 [] []).admin
      ≡ is_administrative (said Client a 0 0 0 [] []).msg_type

admin_type : (a : Admin) → IsAdminType a
admin_type (admin.Logon reset) = record { plain = refl; no_reset = refl; admin = refl }
admin_type a = record { plain = refl; no_reset = refl; admin = refl }

session_said : (side : Side) (a : Admin) (heart n number : ℕ) (msg_type echo : List ℕ)
    → IsClear msg_type → IsClear echo
    → IsSaid (out_of side n false (said side a heart n number msg_type echo))
session_said side a heart n number msg_type echo clear also =
    let is = content_is side a heart n number msg_type echo clear also in
    let typed = admin_type a in
    record {
      fields = fields_of side a heart n number msg_type echo;
      content = refl;
      good = content_good None (fields_of side a heart n number msg_type echo) is.are;
      few = omega (arith, is.few);
      plain = typed.plain;
      no_header = content_apart (fields_of side a heart n number msg_type echo) is.are;
      no_reset = typed.no_reset;
      admin = typed.admin;
    }

says_said : (side : Side) (heart : ℕ) (h : Heard) (n : ℕ) (acts : List Act) → IsClear h.msg_type
    → IsClear h.echo → AreSaid (says_of side heart h n acts)
says_said side heart h n [] clear also = tt
says_said side heart h n (Say a ∷ acts) clear also = (
  session_said side a heart n h.number h.msg_type h.echo clear also,
  says_said side heart h (n + 1) acts clear also,
)
says_said side heart h n (act ∷ acts) clear also = says_said side heart h n acts clear also

both_said : (xs ys : List Out) → AreSaid xs → AreSaid ys → AreSaid (xs ++ ys)
both_said [] ys a b = b
both_said (x ∷ xs) ys a b = (a.0, both_said xs ys a.1 b)

given_said : (words : Words) (n : ℕ) → IsGivenOut words.said
    → IsSaid (out_of words.to n words.resend words.said)
given_said words n is = record {
  fields = is.fields;
  content = is.content;
  good = is.good;
  few = is.few;
  plain = is.msg_type.plain;
  no_header = is.no_header;
  no_reset = is.msg_type.no_reset;
  admin = is.plain ∙ sym is.msg_type.no_session;
}

-- ---- what a session answers to

first_clear : (fields : List Field) → AreFields None fields → IsClear (first_value fields)
first_clear [] good = refl
first_clear (f ∷ fs) good = by (list_any is_soh f.1) good.0.value
  where
    by : (b : Bool) → not b ≡ true → b ≡ false
    by false e = refl
    by true e = absurd cc

value_clear : (tag : ℕ) → is_data_tag tag ≡ false → (before : Option Field) (fields : List Field)
    → AreFields before fields → IsClear (unwrap_or (value_at tag fields) [])
value_clear tag bare before [] good = refl
value_clear tag bare before (f ∷ fs) good =
    by (f.0 == tag) refl (value_clear tag bare (Some f) fs good.1)
  where
    by : (b : Bool) → (f.0 == tag) ≡ b → IsClear (unwrap_or (value_at tag fs) [])
        → IsClear (unwrap_or (option_map (λ (g : Field). g.1)
        (cond b (Some f) (find (λ g. g.0 == tag) fs))) [])
    by true e later =
        let same : f.0 ≡ tag = grind (arith, nat_tests) in
        (is_plain before f good.0 (ap is_data_tag same ∙ bare)).no_soh
    by false e later = later

record IsHeard (h : Heard) : Type 0 where
  msg_type : IsClear h.msg_type
  echo : IsClear h.echo

module _ (read : BodiesAreRead) where
  heard_clear : (event : Event) (input : session.Input) → IsHeard (heard_in event input)
  unfolding is_data_tag
  heard_clear (Frame side body) input = record {
    msg_type = first_clear (reading_of body).fields (read body).good;
    echo = value_clear TEST_REQ_ID refl None (reading_of body).fields (read body).good;
  }
  heard_clear (Opened side) input = record { msg_type = refl; echo = refl }
  heard_clear (Closed side) input = record { msg_type = refl; echo = refl }
  heard_clear (Tick side) input = record { msg_type = refl; echo = refl }
  heard_clear (End side) input = record { msg_type = refl; echo = refl }

  -- ---- an entry that is decided

  outs_in : Result Given Side → List Out
  outs_in (Ok given) = given.outs
  outs_in (Err side) = []

  entry_in : Result Decision Side → Option Entry
  entry_in (Ok decision) = decision.entry
  entry_in (Err side) = None

  numbered_said : (s : Sessions) (words : Words) (r : Result (ℕ × Session) Spent) (g : Given)
      → IsGivenOut words.said → numbered s words r ≡ Ok g → AreSaid g.outs
  unfolding outs_in
  numbered_said s words (Err spent) g is made = absurd (cc made)
  numbered_said s words (Ok next) g is made =
      subst AreSaid (ap outs_in made) (given_said words next.0 is, tt)

  give_said : (now : ℕ) (s : Sessions) (words : Option Words) (g : Given)
      → IfSome words (λ w. IsGivenOut w.said) → give now s words ≡ Ok g → AreSaid g.outs
  unfolding outs_in
  give_said now s None g is made = subst AreSaid (ap outs_in made) tt
  give_said now s (Some words) g is made =
      numbered_said s words (session.given (session_of words.to s) now) g is made

  from_if : (b : Bool) (x e : Entry) → (if b then None else Some x) ≡ Some e → x ≡ e
  from_if true x e is = absurd (cc is)
  from_if false x e is = cc is

  record IsMadeOf (event : Event) (input : session.Input) (step : Step) (e : Entry)
      (words : Option Words) : Type 0 where
    took : e.took ≡ took_of event input step.acts
    outs : IfSome words (λ w. IsGivenOut w.said) → AreSaid e.outs

  concluded_is : (names : Names) (window : ℕ) (s t : Sessions) (event : Event) (now : ℕ)
      (words : Option Words) (step : Step) (r : Result Given Side) (d : Decision) (e : Entry)
      → give now t words ≡ r → concluded names window s event now step r ≡ Ok d
      → d.entry ≡ Some e → IsMadeOf event (input_of names window event now) step e words
  unfolding entry_in
  concluded_is names window s t event now words step (Err side) d e gives made is =
      absurd (cc made)
  concluded_is names window s t event now words step (Ok g) d e gives made is =
      let side = side_of event in
      let input = input_of names window event now in
      let h = heard_in event input in
      let n = (session_of side s).numbers.next_out in
      let own = says_of side step.next.heart h n step.acts in
      let same = from_if _ _ e (ap entry_in made ∙ is) in
      let heard = heard_clear event input in
      record {
        took = ap (λ (x : Entry). x.took) (sym same);
        outs = λ given. subst AreSaid (ap (λ (x : Entry). x.outs) same)
            (both_said own g.outs
            (says_said side step.next.heart h n step.acts heard.msg_type heard.echo)
            (give_said now t words g given gives));
      }

  asked_bound : (b : Bool) (took : Option Took) → IfSome took IsTook
      → IfSome (asked_if b took) (λ a. a.number ≤ MAX_NUMBER)
  asked_bound true (Some took) is = is.below
  asked_bound true None is = tt
  asked_bound false took is = tt

  module _ (given_out : AnswersAreGivenOut) (names : Names) where
    words_given : (before : List Entry) (active : Bool) (asked : Option Asked)
        (words : Option Words) → AreNumbered before → IfSome asked (λ a. a.number ≤ MAX_NUMBER)
        → Answers before active asked words → IfSome words (λ w. IsGivenOut w.said)
    words_given before active asked None numbered bound answer = tt
    words_given before active asked (Some words) numbered bound answer =
        given_out before active asked words numbered bound answer

    decided_by : (window : ℕ) (s : Sessions) (event : Event) (now : ℕ) (before : List Entry)
        (active : Bool) (words : Option Words) (r : Result Step Spent) (d : Decision) (e : Entry)
        → AreNumbered before → IsEntry e
        → Answers before active (asked_by event (input_of names window event now) r) words
        → decide_by names window s event now words r ≡ Ok d → d.entry ≡ Some e → AreSaid e.outs
    decided_by window s event now before active words (Err spent) d e numbered is answer made here =
        absurd (cc made)
    decided_by window s event now before active words (Ok step) d e numbered is answer made here =
        let input = input_of names window event now in
        let t = with_session (side_of event) step.next s in
        let of = concluded_is names window s t event now words step (give now t words) d e refl
        made here in
        let bound = asked_bound (asks input step.acts) (took_of event input step.acts)
        (subst (λ t. IfSome t IsTook) of.took is.took) in
        of.outs (words_given before active _ words numbered bound answer)

    entry_said : (before : List Entry) (e : Entry) → AreNumbered before → IsEntry e
        → IsDecided Answers names before e → AreSaid e.outs
    entry_said before e numbered is decided =
        decided_by decided.window decided.sessions decided.event e.at before
        (is_active decided.sessions.venue.link) decided.decides.words
        (stepped names decided.window decided.sessions decided.event e.at) decided.decision e
        numbered is decided.decides.answer decided.decides.decided decided.is

    -- ---- the entries of a journal

    number_of : (took : Option Took) → IfSome took IsTook
        → IfSome took (λ t. t.number ≤ MAX_NUMBER)
    number_of None is = tt
    number_of (Some took) is = is.below

    numbered_more : (before : List Entry) (e : Entry) → AreNumbered before → IsNumbered e
        → AreNumbered (before ++ e ∷ [])
    numbered_more [] e are is = (is, tt)
    numbered_more (x ∷ before) e are is = (are.0, numbered_more before e are.1 is)

    -- an out that was said, within its bounds
    record IsOne (out : Out) : Type 0 where
      says : IsSaid out
      bounds : IsOut out

    abbrev AreOnes : List Placed → Type 0
    AreOnes [] = Unit {0}
    AreOnes (p ∷ ps) = IsOne p.out × AreOnes ps

    both_ones : (xs ys : List Placed) → AreOnes xs → AreOnes ys → AreOnes (xs ++ ys)
    both_ones [] ys a b = b
    both_ones (x ∷ xs) ys a b = (a.0, both_ones xs ys a.1 b)

    outs_ones : (side : Side) (at : ℕ) (outs : List Out) → AreSaid outs → AreOuts outs
        → AreOnes (map (placed_at at) (outs_to side outs))
    outs_ones side at [] says bounds = tt
    outs_ones side at (o ∷ outs) says bounds =
        by (is_side side o.side) (outs_ones side at outs says.1 bounds.1)
      where
        by : (b : Bool) → AreOnes (map (placed_at at) (outs_to side outs))
            → AreOnes (map (placed_at at) (cond b (o ∷ outs_to side outs) (outs_to side outs)))
        by true rest = (record { says = says.0; bounds = bounds.0 }, rest)
        by false rest = rest

    all_ones : (side : Side) (next : Next) (before entries : List Entry) → AreNumbered before
        → AreEntries next entries → LawfulAfter Answers names before entries
        → AreOnes (all_placed side entries)
    all_ones side next before [] numbered sound lawful = tt
    all_ones side next before (e ∷ entries) numbered sound lawful =
        both_ones (map (placed_at e.at) (outs_to side e.outs)) (all_placed side entries)
        (outs_ones side e.at e.outs (entry_said before e numbered sound.0 lawful.0) sound.0.outs)
        (all_ones side e.next (before ++ e ∷ []) entries
        (numbered_more before e numbered (number_of e.took sound.0.took)) sound.2 lawful.1)

    one_at : (ps : List Placed) (i : ℕ) (p : Placed) → slice_get ps i ≡ Some p → AreOnes ps
        → IsOne p.out
    one_at [] i p at are = absurd (cc at)
    one_at (q ∷ ps) zero p at are =
        let same : q ≡ p = cc at in subst (λ (x : Placed). IsOne x.out) same are.0
    one_at (q ∷ ps) (suc i) p at are = one_at ps i p at are.1

    low_at : (k : ℕ) (ps : List Placed) (i : ℕ) (p : Placed) → slice_get ps i ≡ Some p
        → NumberedFrom k ps → k ≤ p.out.number
    low_at k [] i p at numbered = absurd (cc at)
    low_at k (q ∷ ps) zero p at numbered =
        let same : q ≡ p = cc at in
        let number = ap (λ (x : Placed). x.out.number) same in omega (arith, numbered.0, number)
    low_at k (q ∷ ps) (suc i) p at numbered =
        let more = low_at (k + 1) ps i p at numbered.1 in omega (arith, more)

    get_of : (b : Bool) (o : Option Placed) (p : Placed) → (if b then None else o) ≡ Some p
        → o ≡ Some p
    get_of true o p is = absurd (cc is)
    get_of false o p is = is

    shown_our : AreShown names → (side : Side) → IsShown (our side names)
    shown_our shown Client = shown.client_our
    shown_our shown Venue = shown.venue_our

    shown_peer : AreShown names → (side : Side) → IsShown (peer side names)
    shown_peer shown Client = shown.client_peer
    shown_peer shown Venue = shown.venue_peer

    -- EACH OUT OF A LAWFUL JOURNAL within its bounds can be sent.
    pub are_sent : AreShown names → (side : Side) (entries : List Entry)
        → IsLawful Answers names entries → AreEntries first_numbers entries
        → NumberedFrom 1 (all_placed side entries) → AreSent names side entries
    are_sent shown side entries lawful sound numbered = λ n p at.
        let here = get_of (n == 0) (slice_get (all_placed side entries) (n - 1)) p at in
        let is = one_at (all_placed side entries) (n - 1) p here
        (all_ones side first_numbers [] entries tt sound lawful) in
        let out = is.says in
        record {
          fields = out.fields;
          content = out.content;
          sendable = record {
            our = shown_our shown side;
            peer = shown_peer shown side;
            numbered = is.bounds.below;
            typed = is.bounds.typed;
            short = is.bounds.short;
            plain = out.plain;
            good = out.good;
            few = out.few;
            bounded = subst (λ c. length c ≤ MAX_CONTENT) out.content is.bounds.bounded;
          };
          number = low_at 1 (all_placed side entries) (n - 1) p here numbered;
          no_header = out.no_header;
          no_reset = out.no_reset;
          admin = out.admin;
        }
