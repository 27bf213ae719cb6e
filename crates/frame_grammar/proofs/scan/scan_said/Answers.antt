use Rattle.std.proofs.Common.{◌≡◌, ◌+◌, ◌≤◌, ◌++◌, [], ◌∷◌, length, take, drop, sym, ◌∙◌, ap, subst}
use Rattle.std.proofs.Common.{arith, length-take, length-drop, append_assoc, true, false}
use Rattle.std.specs.Prelude.{nat_lt}
use Rattle.std.proofs.Math.Seq.{take-add}
use Rattle.std.proofs.lemmas.List.{drop-drop}
use Rattle.std.proofs.lemmas.Bool.Decides.{nat_tests}
use Rattle.frame_grammar.specs.Found.{found_said, found_body}
use Rattle.frame_grammar.specs.Scan.{IsFound}
use Rattle.frame_grammar.proofs.Scanned.{if_true, if_false, said_some, front_of}
use Rattle.frame_grammar.proofs.scan.scan_said.Goals as goal

pub returns-then-field-eq0 : goal.returns-then-field-eq0
returns-then-field-eq0 c =
    let bytes = c.args.buffer.now.unread in
    let rest = drop c.args.start bytes in
    let count = c.args.field.digits in (
      drop (count + 1) rest,
      ap (λ k. found_said (take c.args.start bytes)
          (take k rest) c.args.field.said (drop (count + 1) rest)) c.if-field-eq0.true,
    )

pub returns-then-said-gt-MAX_BODY : goal.returns-then-said-gt-MAX_BODY
returns-then-said-gt-MAX_BODY c =
    let bytes = c.args.buffer.now.unread in
    let rest = drop c.args.start bytes in
    let count = c.args.field.digits in
    let said = c.args.field.said in
    let some : 1 ≤ length (take count rest) =
    omega (arith, length-take count rest, c.requires.digits.0, c.if-field-eq0.false) in
    let long = c.if-said-gt-MAX_BODY.true in
    let test : nat_lt 8192 said ≡ true = grind (arith, nat_tests, long) in (
      drop (count + 1) rest,
      said_some (take c.args.start bytes)
          (take count rest) said (drop (count + 1) rest) some ∙ if_true (nat_lt 8192 said) _ _ test,
    )

pub returns-then-said-lt-MIN_BODY : goal.returns-then-said-lt-MIN_BODY
returns-then-said-lt-MIN_BODY c =
    let bytes = c.args.buffer.now.unread in
    let rest = drop c.args.start bytes in
    let count = c.args.field.digits in
    let said = c.args.field.said in
    let some : 1 ≤ length (take count rest) =
    omega (arith, length-take count rest, c.requires.digits.0, c.if-field-eq0.false) in
    let long = c.if-said-gt-MAX_BODY.false in
    let test : nat_lt 8192 said ≡ false = grind (arith, nat_tests, long) in
    let short = c.if-said-lt-MIN_BODY.true in
    let test2 : nat_lt said 5 ≡ true = grind (arith, nat_tests, short) in (
      drop (count + 1) rest,
      said_some (take c.args.start bytes) (take count rest) said (drop (count + 1) rest) some
          ∙ if_false (nat_lt 8192 said) _ _ test ∙ if_true (nat_lt said 5) _ _ test2,
    )

pub overflow_add-start : goal.overflow_add-start
overflow_add-start c = omega (
  arith,
  c.requires.digits.0,
  c.requires.start,
  c.requires.most,
  length-drop c.args.start c.args.buffer.now.unread,
)

pub overflow_add-start-2 : goal.overflow_add-start-2
overflow_add-start-2 c = omega (
  arith,
  c.requires.digits.0,
  c.requires.start,
  c.requires.most,
  length-drop c.args.start c.args.buffer.now.unread,
)

pub returns : goal.returns
returns c =
    let bytes = c.args.buffer.now.unread in
    let start = c.args.start in
    let count = c.args.field.digits in
    let said = c.args.field.said in
    let rest = drop start bytes in
    let digits = c.requires.digits in
    let some : 1 ≤ length (take count rest) =
    omega (arith, length-take count rest, digits.0, c.if-field-eq0.false) in
    let long = c.if-said-gt-MAX_BODY.false in
    let test : nat_lt 8192 said ≡ false = grind (arith, nat_tests, long) in
    let short = c.if-said-lt-MIN_BODY.false in
    let test2 : nat_lt said 5 ≡ false = grind (arith, nat_tests, short) in
    let place : start + (count + 1) ≡ start + count + 1 = omega arith in
    let before : take start bytes ++ take count rest ++ 1 ∷ [] ≡ take (start + count + 1) bytes =
    append_assoc (take start bytes) (take count rest) (1 ∷ [])
    ∙ ap (λ l. take start bytes ++ l) (sym (front_of rest count digits.0 digits.1))
    ∙ sym (take-add start (count + 1) bytes) ∙ ap (λ k. take k bytes) place in
    let after : drop (count + 1) rest ≡ drop (start + count + 1) bytes =
    drop-drop (count + 1) start bytes ∙ ap (λ k. drop k bytes) place in
    let is : found_said (take start bytes) (take count rest) said (drop (count + 1) rest)
    ≡ found_body (take (start + count + 1) bytes) said (drop (start + count + 1) bytes) =
    said_some (take start bytes) (take count rest) said (drop (count + 1) rest) some
    ∙ if_false (nat_lt 8192 said) _ _ test ∙ if_false (nat_lt said 5) _ _ test2
    ∙ ap (λ l. found_body l said (drop (count + 1) rest)) before
    ∙ ap (found_body (take (start + count + 1) bytes) said) after in
    subst (λ f. IsFound c.scan_body.result bytes f) (sym is) c.scan_body.ensures
