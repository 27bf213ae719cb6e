-- What is given out for a message, by cases: a refusal of it, a refusal that is told, what goes on,
-- or nothing.
use Rattle.std.proofs.Common.{◌≡◌, ◌≤◌, ◌<◌, ◌^◌, ◌⊎◌, ℕ, not, Bool, true, false, List, ◌∷◌, []}
use Rattle.std.proofs.Common.{length, nat_lt, Option, Some, None, Result, Ok, Err, IfSome, refl}
use Rattle.std.proofs.Common.{arith, lit<, inl, inr, if◌then◌else◌}
use Rattle.std.specs.Prelude.{is_none}
use Rattle.std.proofs.lemmas.Bool.Decides.{nat_tests}
use Rattle.field_groups.specs.Field.{Field, body_of}
use Rattle.message_tables.specs.Tables.{Message, ◌>>=◌}
use Rattle.order_meaning.specs.declared.Side.{Side}
use Rattle.order_meaning.specs.declared.Side.TheVariants.{Client, Venue}
use Rattle.order_meaning.specs.declared.fault.Fault.{Fault}
use Rattle.order_meaning.specs.declared.fault.Fault.TheVariants.{NoCounterpart}
use Rattle.order_meaning.specs.Request.{Request}
use Rattle.session_core.specs.declared.said.Said.{Said}
use Rattle.pair_entries.specs.declared.TheConstants.{MAX_CONTENT}
use Rattle.reject_rules.specs.Refusals.{away_refusal, refusal_of, used_refusal}
use Rattle.reject_rules.specs.Renumbered.{renumbered}
use Rattle.dict_fix42.specs.Sense.{request42}
use Rattle.reports_fix50.specs.Sense.{report50}
use Rattle.request_rules.specs.Lack.{lack42, lack_of, lacks_capacity, lacks_time}
use Rattle.event_decisions.specs.Body.{type_of}
use Rattle.event_decisions.specs.Decide.{Asked, Words}
use Rattle.message_answers.specs.Answer.{Gives, Near, answer_to, answered, forwarded}
use Rattle.message_answers.specs.Answer.{in_order, is_used, lack_of_report, lacks_original, near_if}
use Rattle.message_answers.specs.Answer.{near_words, original_of, other, refused}
use Rattle.message_answers.specs.Answer.{spelled, to_near, told, too_long, used}
use Rattle.message_answers.specs.Known.{Known, named}
use Rattle.message_answers.specs.Message.{is_business, is_refusal, message_of, refusal_in}
use Rattle.message_answers.specs.Translated.{GoesOn}

-- a message's own fault, or a tag that has no counterpart
abbrev pub IsFault : Asked → Fault → Type 0
IsFault asked fault = (message_of asked.side asked.body ≡ Err fault)
    ⊎ ((tag : ℕ) × (tag < 2 ^ 32) × (NoCounterpart tag ≡ fault))

-- it was read, and is a refusal or none
pub record IsRead (asked : Asked) (refuses : Bool) (m : Message) : Type 0 where
  pub reads : message_of asked.side asked.body ≡ Ok m
  pub is : is_refusal m ≡ refuses

module _ (known : Known) (active : Bool) (asked : Asked) (words : Option Words) where
  -- The message is refused: for its fault, for an id that was used, or while the venue is away. Or
  -- it repeats a request that went on. A refusal names nothing, or is told. Or the message goes on.
  pub data IsGiven : Type 0 where
    Faulty : (fault : Fault) → IsFault asked fault → words ≡ near_words asked
        (refusal_of asked.side asked.number (type_of asked.body) fault) → IsGiven
    Used : words ≡ to_near asked (used_refusal asked.number (type_of asked.body)) → IsGiven
    Repeats : (m : Message) → IsRead asked false m → asked.side ≡ Client → m.resend ≡ true
        → words ≡ None → IsGiven
    Away : words ≡ to_near asked (away_refusal asked.number (type_of asked.body)) → IsGiven
    NamesNone : (m : Message) → IsRead asked true m
        → named known asked.side (refusal_in m) ≡ None → words ≡ None → IsGiven
    Tells : (m : Message) → IsRead asked true m → (number letter : ℕ)
        → named known asked.side (refusal_in m) ≡ Some (number, letter)
        → words ≡ Some (record {
          to = other asked.side;
          said = renumbered (other asked.side) (is_business m) (refusal_in m) number (letter ∷ []);
          resend = false;
        }) → IsGiven
    Goes : (m : Message) → IsRead asked false m
        → (asked.side ≡ Client → is_used known m ≡ false) → (original : Option (List ℕ))
        → (original ≡ None) ⊎ (original ≡ original_of known m) → (written : List Field)
        → GoesOn asked.side original m written → length (body_of written) ≤ MAX_CONTENT
        → words ≡ forwarded asked m written → IsGiven

  faulty : (fault : Fault) → IsFault asked fault → Gives asked (refused asked fault) words → IsGiven
  faulty fault of is =
      Faulty fault of (by (refusal_of asked.side asked.number (type_of asked.body) fault) is)
    where
      by : (said : Option Said) → Gives asked (near_if said) words → words ≡ near_words asked said
      by None is = is
      by (Some said) is = is

  module _ (m : Message) where
    tells : IsRead asked true m → (at : Option (ℕ × ℕ))
        → named known asked.side (refusal_in m) ≡ at → Gives asked (told asked m at) words → IsGiven
    tells read None e is = NamesNone m read e is
    tells read (Some (number, letter)) e is = Tells m read number letter e is

    module _ (read : IsRead asked false m) where
      -- what goes on, or has no counterpart
      goes : (asked.side ≡ Client → is_used known m ≡ false) → (original : Option (List ℕ))
          → (original ≡ None) ⊎ (original ≡ original_of known m)
          → (lack : Option ℕ) → IfSome lack (λ tag. tag < 2 ^ 32)
          → Gives asked (spelled asked original m lack) words → IsGiven
      goes unused original from (Some tag) small is =
          faulty (NoCounterpart tag) (inr (tag, small, refl)) is
      goes unused original from None small (written, on, is) =
          by (nat_lt MAX_CONTENT (length (body_of written))) refl is
        where
          within : (n : ℕ) → nat_lt MAX_CONTENT n ≡ false → n ≤ MAX_CONTENT
          within n fits = grind (arith, nat_tests)

          by : (long : Bool) → nat_lt MAX_CONTENT (length (body_of written)) ≡ long
              → words ≡ (if long then near_words asked (refusal_of asked.side asked.number
              (type_of asked.body) (NoCounterpart too_long)) else forwarded asked m written)
              → IsGiven
          by true e is = Faulty (NoCounterpart too_long) (inr (too_long, lit< tt, refl)) is
          by false e is =
              Goes m read unused original from written on (within (length (body_of written)) e) is

      -- a tag that lacks, as one of two
      small : (a b : Bool) (one two : ℕ) → one < 2 ^ 32 → two < 2 ^ 32
          → IfSome (if a then Some one else (if b then Some two else None)) (λ tag. tag < 2 ^ 32)
      small true b one two first second = first
      small false true one two first second = second
      small false false one two first second = tt

      lack_small : (request : Option Request) → IfSome (request >>= lack_of) (λ tag. tag < 2 ^ 32)
      lack_small None = tt
      lack_small (Some r) = small (lacks_time r.ord_type r.time_in_force)
          (lacks_capacity r.capacity) 59 47 (lit< tt) (lit< tt)

      orders : (side : Side) → asked.side ≡ side
          → Gives asked (in_order side known active asked m) words → IsGiven
      orders Client client is = by (is_used known m) m.resend active refl refl is
        where
          by : (a b c : Bool) → is_used known m ≡ a → m.resend ≡ b
              → Gives asked (if a then used asked b else
              (if not c then Near (away_refusal asked.number (type_of asked.body)) else
              spelled asked None m (lack42 m))) words → IsGiven
          by true true c used again is = Repeats m read client again is
          by true false c used again is = Used is
          by false b false new again is = Away is
          by false b true new again is =
              goes (λ client. new) None (inl refl) (lack42 m) (lack_small (request42 m)) is
      orders Venue venue is = goes (λ client. absurd (cc (client, venue)))
          (original_of known m) (inr refl) (lack_of_report known m)
          (small (is_none (report50 m)) (lacks_original known m) 150 41 (lit< tt) (lit< tt)) is

    message : message_of asked.side asked.body ≡ Ok m
        → Gives asked (answered known active asked (Ok m)) words → IsGiven
    message reads is = by (is_refusal m) refl is
      where
        by : (b : Bool) → is_refusal m ≡ b → Gives asked (if b
            then told asked m (named known asked.side (refusal_in m)) else
            in_order asked.side known active asked m) words → IsGiven
        by true e is = tells (record { reads = reads; is = e })
            (named known asked.side (refusal_in m)) refl is
        by false e is = orders (record { reads = reads; is = e }) asked.side refl is

  -- WHAT IS GIVEN OUT for a message
  pub given : Gives asked (answer_to known active asked) words → IsGiven
  given is = by (message_of asked.side asked.body) refl is
    where
      by : (r : Result Message Fault) → message_of asked.side asked.body ≡ r
          → Gives asked (answered known active asked r) words → IsGiven
      by (Ok m) reads is = message m reads is
      by (Err fault) reads is = faulty fault (inl reads) is
