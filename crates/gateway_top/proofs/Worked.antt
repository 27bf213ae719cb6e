-- Worked examples, by computation.
use Rattle.std.specs.Prelude.{◌≡◌, ℕ, ◌==◌, if◌then◌else◌, List, [], ◌∷◌, ◌++◌, map, codes, refl}
use Rattle.std.specs.Fmt.{digits}
use Rattle.std.specs.Prelude.{true, false, Some, None}
use Rattle.frame_grammar.specs.declared.frame.Garble.TheVariants.{TooLong}
use Rattle.gateway_top.specs.declared.status.Status.TheVariants.{Done, Refused, Usage, InputTooLong}
use Rattle.whole_input.specs.declared.reading.TheConstants.{MAX_INPUT, MAX_READ}
use Rattle.gateway_top.specs.MsgType.{type_in}
use Rattle.gateway_top.specs.Finding.{is_session, is_refusal}
use Rattle.gateway_top.specs.Line.{LF, finding_words, no_counterpart, cause_name}
use Rattle.gateway_top.specs.declared.finding.Finding.TheVariants.{Reason, NoCounterpart}
use Rattle.gateway_top.specs.Status.{code_of, last_words}

max_input : MAX_INPUT ≡ 67108864
max_input = refl

max_read : MAX_READ ≡ 4096
max_read = refl

done : last_words Done ≡ []
done = refl

usage : last_words Usage ≡ codes "fixgate: usage" ++ LF ∷ []
usage = refl

refused : code_of (Refused 143) ≡ 1
refused = refl

too_long : code_of InputTooLong ≡ 12
too_long = refl

-- `|` stands for SOH
abbrev wire : List ℕ → List ℕ
wire text = map (λ b. if b == 124 then 1 else b) text

msg_type : type_in (wire (codes "35=D|49=CLNT|")) ≡ codes "D"
msg_type = refl

test_request : is_session (codes "1") ≡ true
test_request = refl

reject : is_refusal (codes "3") ≡ true
reject = refl

report : is_refusal (codes "8") ≡ false
report = refl

reason : finding_words (Reason (Some 54) 5) ≡ codes " tag 54 reason 5"
unfolding digits
reason = refl

no_tag : finding_words (Reason None 0) ≡ codes " tag 0 reason 0"
unfolding digits
no_tag = refl

lacks_59 : finding_words (NoCounterpart 59) ≡ codes " tag 59 no counterpart"
unfolding digits no_counterpart
lacks_59 = refl

cause : cause_name (TooLong 8193) ≡ codes "TooLong"
cause = refl
