use Rattle.std.proofs.Common.{◌≡◌, ℕ, decimal, sym, ap, subst, ◌∙◌, Ok, Err}
use Rattle.std.specs.declared.result.Result.{Result}
use Rattle.std.proofs.lemmas.Fmt.{parse-decimal, IsAscii-decimal}
use Rattle.std.proofs.lemmas.Str.{IsUtf8-from_ascii}
use Rattle.std.specs.Cmp.Lexicographic.{other_text}
use Rattle.std.specs.Str.{IsAscii}
use Rattle.capture_text.proofs.number.number.Goals as goal

value_or : {E : Type 0} → Result ℕ E → ℕ
value_or (Ok value) = value
value_or (Err error) = 0

one_value : {E : Type 0} (r : Result ℕ E) (m n : ℕ) → r ≡ Ok m → r ≡ Ok n → m ≡ n
unfolding value_or
one_value r m n is also = ap value_or (sym is ∙ also)

pub returns-in_default-clause-none : goal.returns-in_default-clause-none
returns-in_default-clause-none c = λ none n fits same.
    c.in_default.ensures.cases.0 (IsUtf8-from_ascii c.args.digits.now
    (subst IsAscii (sym same) (IsAscii-decimal n fits)))

pub returns-in_default-parse-2-clause-none : goal.returns-in_default-parse-2-clause-none
returns-in_default-parse-2-clause-none c = λ none n fits same.
    let text : c.in-Ok.text.now ≡ decimal n = c.in-Ok.ensures.cases.0 ∙ same in
    let ok : c.parse.result ≡ Ok n
    = parse-decimal 64 n c.in-Ok.text.now c.parse.result fits fits text c.parse.ensures.value.0 in
    absurd (cc (ok, c.in_default-parse.is))

pub returns-in_default-parse-clause-none : goal.returns-in_default-parse-clause-none
returns-in_default-parse-clause-none c = λ none n fits same.
    let text : c.in-Ok.text.now ≡ decimal n = c.in-Ok.ensures.cases.0 ∙ same in
    let ok : c.parse.result ≡ Ok n
    = parse-decimal 64 n c.in-Ok.text.now c.parse.result fits fits text c.parse.ensures.value.0 in
    let one : c.in-Ok-parse.value ≡ n = one_value _ _ _ c.in-Ok-parse.is ok in
    other_text c.as_bytes.result.now c.args.digits.now (sym c.if-eq.false ∙ c.eq.ensures)
    (c.as_bytes.ensures.value ∙ c.format.ensures.text ∙ ap (λ m. decimal m) one ∙ sym same)
