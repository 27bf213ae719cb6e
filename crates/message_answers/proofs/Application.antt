-- No answer is a message of a session.
use Rattle.std.proofs.Common.{◌≡◌, ℕ, Bool, true, false, List, [], ◌∷◌, Option, Some, None, refl}
use Rattle.std.proofs.Common.{sym, subst, IfSome}
use Rattle.order_meaning.specs.declared.Side.{Side}
use Rattle.order_meaning.specs.declared.fault.Fault.{Fault}
use Rattle.order_meaning.specs.declared.fault.Fault.TheVariants as faults
use Rattle.order_meaning.specs.declared.refusal.Refusal.{Refusal}
use Rattle.reject_rules.specs.Content.{reject, business_reject}
use Rattle.reject_rules.specs.Refusals.{refusal_of}
use Rattle.reject_rules.specs.Renumbered.{renumbered}
use Rattle.event_decisions.specs.Body.{type_of}
use Rattle.event_decisions.specs.Decide.{Asked, Words}
use Rattle.message_answers.specs.Answer.{AnswersBy, near_words, other}
use Rattle.message_answers.specs.Known.{Known}
use Rattle.message_answers.specs.Message.{is_business, refusal_in}
use Rattle.message_answers.proofs.AnswerCases.{IsGiven, Away, Faulty, Goes, NamesNone, Repeats}
use Rattle.message_answers.proofs.AnswerCases.{Tells, Used, given}

abbrev IsOfApplication : Option Words → Type 0
IsOfApplication words = IfSome words (λ w. w.said.admin ≡ false)

refusal : (asked : Asked) (fault : Fault) → IsOfApplication
    (near_words asked (refusal_of asked.side asked.number (type_of asked.body) fault))
unfolding reject business_reject
refusal asked faults.NoMemory = tt
refusal asked fault = refl

told_plain : (side : Side) (business : Bool) (r : Refusal) (number : ℕ) (msg_type : List ℕ)
    → (renumbered side business r number msg_type).admin ≡ false
unfolding business_reject
told_plain side true r number msg_type = refl
told_plain side false r number msg_type = refl

plain : (known : Known) (active : Bool) (asked : Asked) (words : Option Words)
    → IsGiven known active asked words → IsOfApplication words
unfolding business_reject
plain known active asked words (Faulty fault of is) =
    subst IsOfApplication (sym is) (refusal asked fault)
plain known active asked words (Used is) = subst IsOfApplication (sym is) refl
plain known active asked words (Repeats m read client again is) =
    subst IsOfApplication (sym is) tt
plain known active asked words (Away is) = subst IsOfApplication (sym is) refl
plain known active asked words (NamesNone m read none is) = subst IsOfApplication (sym is) tt
plain known active asked words (Tells m read number letter source is) =
    subst IsOfApplication (sym is)
    (told_plain (other asked.side) (is_business m) (refusal_in m) number (letter ∷ []))
plain known active asked words (Goes m read unused original from written on short is) =
    subst IsOfApplication (sym is) refl

pub of_application : (known : Known) (active : Bool) (asked : Option Asked)
    (words : Option Words) → AnswersBy known active asked words → IsOfApplication words
of_application known active None words is = subst IsOfApplication (sym is) tt
of_application known active (Some asked) words gives =
    plain known active asked words (given known active asked words gives)
