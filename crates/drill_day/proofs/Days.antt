-- Messages and orders, one more at a time.
use Rattle.std.proofs.Common.{◌≡◌, ℕ, ◌+◌, ◌*◌, ◌≤◌, ◌<◌, List, [], ◌∷◌, ◌++◌, length, refl, sym}
use Rattle.std.proofs.Common.{◌∙◌, ap, subst, append_assoc, length-append, arith, suc, get_or, drop}
use Rattle.std.proofs.lemmas.List.{drop_more}
use Rattle.drill_day.specs.declared.order.Drawn.{Drawn}
use Rattle.drill_day.specs.declared.report.Report.{Report}
use Rattle.drill_day.specs.declared.day.Day.{Day}
use Rattle.drill_day.specs.declared.order.OrderKind.{OrderKind}
use Rattle.drill_day.specs.declared.order.OrderKind.TheVariants.{Filled, Busted, Corrected}
use Rattle.drill_day.specs.declared.order.OrderKind.TheVariants.{Rejected}
use Rattle.drill_day.specs.Drill.{Message, order_message, report_message, report_messages}
use Rattle.drill_day.specs.Drill.{reports_by, reports_of, messages_from}
use Rattle.drill_day.specs.Day.{with_messages, with_orders, IsUpTo, Adds, Plays}

pub adds_both : (xs ys : List Message) (m n : ℕ) (a b c : Day)
    → Adds xs m a b → Adds ys n b c → Adds (xs ++ ys) (m + n) a c
adds_both xs ys m n a b c one two = record {
  sent = λ rest. two.sent rest ∙ one.sent (ys ++ rest)
      ∙ ap (λ (l : List Message). with_messages a l) (sym (append_assoc xs ys rest));
  count = let e = one.count in let f = two.count in omega (arith, e, f);
  up_to = λ limit up. subst (λ n. IsUpTo n c)
      (let e = length-append xs ys in omega (arith, e))
      (two.up_to (limit + length xs) (one.up_to limit up));
}

-- reports on an order, and one more
messages_more : (number before : ℕ) (order : Drawn) (xs : List Report) (report : Report)
    → report_messages number before order (xs ++ report ∷ [])
    ≡ report_messages number before order xs
    ++ report_message number (before + length xs) order report ∷ []
messages_more number before order [] report =
    ap (λ n. report_message number n order report ∷ []) (omega arith)
messages_more number before order (x ∷ xs) report =
    ap (λ (l : List Message). report_message number before order x ∷ l)
    (messages_more number (before + 1) order xs report
    ∙ ap (λ n. report_messages number (before + 1) order xs
    ++ report_message number n order report ∷ []) (omega arith))

-- the reports of these were sent
abbrev pub Reports : (number : ℕ) → Drawn → List Report → Day → Day → Type 0
Reports number order reports old new =
    Adds (report_messages number old.reports order reports) (length reports) old new

pub reports_on : (number : ℕ) (order : Drawn) (xs : List Report) (report : Report) (a b c : Day)
    → Reports number order xs a b
    → Adds (report_message number b.reports order report ∷ []) 1 b c
    → Reports number order (xs ++ report ∷ []) a c
reports_on number order xs report a b c one two =
    let count = length-append xs (report ∷ []) in
    subst (λ n. Adds (report_messages number a.reports order (xs ++ report ∷ [])) n a c)
    (sym count)
    (subst (λ (l : List Message). Adds l (length xs + 1) a c)
    (ap (λ n. report_messages number a.reports order xs
    ++ report_message number n order report ∷ []) one.count
    ∙ sym (messages_more number a.reports order xs report))
    (adds_both (report_messages number a.reports order xs)
    (report_message number b.reports order report ∷ []) (length xs) 1 a b c one two))

-- two, and three
abbrev One : (number : ℕ) → Drawn → Report → Day → Day → Type 0
One number order report old new =
    Adds (report_message number old.reports order report ∷ []) 1 old new

pub reports_two : (number : ℕ) (order : Drawn) (r s first second : Report) (a b c : Day)
    → r ≡ first → s ≡ second
    → Adds (report_message number a.reports order r ∷ []) 1 a b
    → Adds (report_message number b.reports order s ∷ []) 1 b c
    → Reports number order (first ∷ second ∷ []) a c
reports_two number order r s first second a b c is_r is_s one two =
    reports_on number order (first ∷ []) second a b c
    (subst (λ (x : Report). One number order x a b) is_r one)
    (subst (λ (x : Report). One number order x b c) is_s two)

pub reports_three : (number : ℕ) (order : Drawn) (r s t first second third : Report)
    (a b c d : Day) → r ≡ first → s ≡ second → t ≡ third
    → Adds (report_message number a.reports order r ∷ []) 1 a b
    → Adds (report_message number b.reports order s ∷ []) 1 b c
    → Adds (report_message number c.reports order t ∷ []) 1 c d
    → Reports number order (first ∷ second ∷ third ∷ []) a d
reports_three number order r s t first second third a b c d is_r is_s is_t one two three =
    reports_on number order (first ∷ second ∷ []) third a c d
    (reports_two number order r s first second a b c is_r is_s one two)
    (subst (λ (x : Report). One number order x c d) is_t three)

-- by the kind of the order
pub reports_are : (number : ℕ) (order : Drawn) (kind : OrderKind) (old new : Day)
    → order.kind ≡ kind → Reports number order (reports_by kind order) old new
    → Reports number order (reports_of order) old new
reports_are number order kind old new is reports =
    subst (λ (k : OrderKind). Reports number order (reports_by k order) old new) (sym is) reports

-- at most three
few_reports : (kind : OrderKind) (order : Drawn) → length (reports_by kind order) ≤ 3
few_reports Filled order = omega arith
few_reports Busted order = omega arith
few_reports Corrected order = omega arith
few_reports Rejected order = omega arith

messages_few : (number before : ℕ) (order : Drawn) (reports : List Report)
    → length (report_messages number before order reports) ≡ length reports
messages_few number before order [] = refl
messages_few number before order (report ∷ reports) =
    ap suc (messages_few number (before + 1) order reports)

up_more : (limit more most : ℕ) (day : Day) → more ≤ most
    → IsUpTo (limit + more) day → IsUpTo (limit + most) day
up_more limit more most day few up = record {
  client = omega (arith, few, up.client);
  venue = omega (arith, few, up.venue);
  reports = omega (arith, few, up.reports);
}

pub plays : (number : ℕ) (order : Drawn) (a b c : Day)
    → Adds (order_message number order ∷ []) 0 a b
    → Reports number order (reports_of order) b c → Plays number order a c
plays number order a b c one two = record {
  played = λ rest.
      ap (λ n. with_messages c (messages_from (number + 1) n rest)) both.count
      ∙ both.sent (messages_from (number + 1) (a.reports + length (reports_of order)) rest)
      ∙ ap (λ n. with_messages a (order_message number order
      ∷ report_messages number n order (reports_of order)
      ++ messages_from (number + 1) (a.reports + length (reports_of order)) rest)) same;
  up_to = λ limit up. up_more limit _ 4 c (omega (arith, few, few_reports order.kind order))
      (both.up_to limit up);
}
  where
    same : b.reports ≡ a.reports
    same = let e = one.count in omega (arith, e)

    few : length (order_message number order
        ∷ report_messages number b.reports order (reports_of order))
        ≡ suc (length (reports_of order))
    few = ap suc (messages_few number b.reports order (reports_of order))

    both : Adds (order_message number order
        ∷ report_messages number b.reports order (reports_of order)) (length (reports_of order)) a c
    both = subst (λ n. Adds (order_message number order
        ∷ report_messages number b.reports order (reports_of order)) n a c) (omega arith)
        (adds_both (order_message number order ∷ [])
        (report_messages number b.reports order (reports_of order)) 0
        (length (reports_of order)) a b c one two)

-- one order more of a list
pub played_more : (orders : List Drawn) (i number : ℕ) (order : Drawn) (start a b : Day)
    → i < length orders → order ≡ get_or orders i order
    → Plays number order a b
    → with_orders number a (drop i orders) ≡ with_orders 1 start orders
    → with_orders (number + 1) b (drop (i + 1) orders) ≡ with_orders 1 start orders
played_more orders i number order start a b within there plays is =
    plays.played (drop (i + 1) orders)
    ∙ ap (λ (l : List Drawn). with_orders number a l)
    (ap (λ (o : Drawn). o ∷ drop (i + 1) orders) there ∙ sym (drop_more orders i order within))
    ∙ is

pub four_more : (i : ℕ) (day : Day) → IsUpTo (2 + 4 * i + 4) day → IsUpTo (2 + 4 * (i + 1)) day
four_more i day up = subst (λ n. IsUpTo n day) (omega arith) up
