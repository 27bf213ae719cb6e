use Rattle.std.proofs.Common.{◌≡◌, ◌≢◌, ℕ, ◌+◌, ◌-◌, ◌≤◌, List, ◌++◌, length, take, drop, get_or}
use Rattle.std.proofs.Common.{sym, ◌∙◌, ap, subst, arith, rules}
use Rattle.std.specs.Prelude.{codes, if◌then◌else◌, ◌==◌}
use Rattle.std.specs.List.{list_any}
use Rattle.std.proofs.Math.Seq.{take-add}
use Rattle.std.proofs.lemmas.List.{drop-drop, drop-take}
use Rattle.frame_grammar.specs.declared.frame.Garble.TheVariants.{TypeField, Trailer}
use Rattle.frame_grammar.specs.Found.{Found, Broken, Whole, expect, found_body, found_trailer}
use Rattle.frame_grammar.specs.Scan.{IsStop}
use Rattle.frame_grammar.proofs.Scanned.{rest_of, stop_at, body_no_type, body_awaited, body_open}
use Rattle.frame_grammar.proofs.Scanned.{body_shut}
use Rattle.frame_grammar.proofs.scan.scan_body.Goals as goal

middle : (n : ℕ) (rest : List ℕ) → 5 ≤ n → drop 4 (take n rest) ≡ take (n - 4) (drop 4 rest)
middle n rest least = let is : n ≡ 4 + (n - 4) =
    omega arith in ap (λ k. drop 4 (take k rest)) is ∙ drop-take 4 (n - 4) rest

pub returns-then-rest-eq-SOH : goal.returns-then-rest-eq-SOH
returns-then-rest-eq-SOH c =
    let bytes = c.args.buffer.now.unread in
    let start = c.args.start in
    let said = c.args.said in
    let rest = drop start bytes in
    let same = ap (λ (l : List ℕ). take (length l - start) (drop start l)) c.unread.ensures.value
    ∙ rest_of bytes start in
    let begun = subst (λ s. (go : List ℕ → Found) → expect (codes "35=") TypeField go s
    ≡ go (drop 3 s)) same c.in_ok-expect_text.ensures.leads in
    let long : 4 ≤ length rest = omega (arith, ap length same, c.if-rest-lt4.false) in (
      drop 4 rest,
      body_no_type (take start bytes) said
          c.requires.least
          rest begun long (subst (λ l. get_or l 3 0 ≡ 1) same c.if-rest-eq-SOH.true),
    )

pub returns-then-rest-said : goal.returns-then-rest-said
returns-then-rest-said c =
    let bytes = c.args.buffer.now.unread in
    let start = c.args.start in
    let said = c.args.said in
    let rest = drop start bytes in
    let same = ap (λ (l : List ℕ). take (length l - start) (drop start l)) c.unread.ensures.value
    ∙ rest_of bytes start in
    let begun = subst (λ s. (go : List ℕ → Found) → expect (codes "35=") TypeField go s
    ≡ go (drop 3 s)) same c.in_ok-expect_text.ensures.leads in
    let long : 4 ≤ length rest = omega (arith, ap length same, c.if-rest-lt4.false) in
    let typed = subst (λ l. get_or l 3 0 ≢ 1) same c.if-rest-eq-SOH.false in
    body_awaited (take start bytes) said
    c.requires.least rest begun long typed (omega (arith, ap length same, c.if-rest-said.true))

pub returns-then-rest-said-ne-SOH : goal.returns-then-rest-said-ne-SOH
returns-then-rest-said-ne-SOH c =
    let bytes = c.args.buffer.now.unread in
    let start = c.args.start in
    let said = c.args.said in
    let rest = drop start bytes in
    let same = ap (λ (l : List ℕ). take (length l - start) (drop start l)) c.unread.ensures.value
    ∙ rest_of bytes start in
    let begun = subst (λ s. (go : List ℕ → Found) → expect (codes "35=") TypeField go s
    ≡ go (drop 3 s)) same c.in_ok-expect_text.ensures.leads in
    let long : 4 ≤ length rest = omega (arith, ap length same, c.if-rest-lt4.false) in
    let typed = subst (λ l. get_or l 3 0 ≢ 1) same c.if-rest-eq-SOH.false in
    let whole : said ≤ length rest = omega (arith, ap length same, c.if-rest-said.false) in
    let open_end = subst (λ l. get_or l (said - 1) 0 ≢ 1) same c.if-rest-said-ne-SOH.true in
    let cause : (if list_any (λ b. b == 1) (drop 4 (take said rest)) then Trailer else TypeField)
    ≡ c.open_body.result =
    ap (λ l. if list_any (λ b. b == 1) l then Trailer else TypeField)
    (middle said rest c.requires.least ∙ ap (λ l. take (said - 4) (drop 4 l)) (sym same))
    ∙ sym c.open_body.ensures in (
      drop said rest,
      body_open (take start bytes) said c.requires.least
          rest begun long typed whole open_end ∙ ap (λ k. Broken k (drop said rest)) cause,
    )

pub returns-in_err-scan_trailer : goal.returns-in_err-scan_trailer
returns-in_err-scan_trailer c =
    let bytes = c.args.buffer.now.unread in
    let start = c.args.start in
    let said = c.args.said in
    let before = take start bytes in
    let rest = drop start bytes in
    let same = ap (λ (l : List ℕ). take (length l - start) (drop start l)) c.unread.ensures.value
    ∙ rest_of bytes start in
    let begun = subst (λ s. (go : List ℕ → Found) → expect (codes "35=") TypeField go s
    ≡ go (drop 3 s)) same c.in_ok-expect_text.ensures.leads in
    let long : 4 ≤ length rest = omega (arith, ap length same, c.if-rest-lt4.false) in
    let typed = subst (λ l. get_or l 3 0 ≢ 1) same c.if-rest-eq-SOH.false in
    let whole : said ≤ length rest = omega (arith, ap length same, c.if-rest-said.false) in
    let parts : before ++ take said rest ≡ take (start + said) bytes =
    sym (take-add start said bytes) in
    let shut = body_shut before said c.requires.least rest begun long
    typed whole (subst (λ l. get_or l (said - 1) 0 ≡ 1) same c.if-rest-said-ne-SOH.false) in
    let moved : found_body before said rest
    ≡ found_trailer before (take said rest) (drop (start + said) bytes) =
    shut ∙ ap (found_trailer before (take said rest)) (drop-drop said start bytes) in
    let h : IsStop c.in_err-scan_trailer.field-0.0 (found_body before said rest) =
    stop_at _ _ _ moved (c.in_err-scan_trailer.ensures.leads before (take said rest) parts) in
    search (rules, h)

pub returns : goal.returns
returns c =
    let bytes = c.args.buffer.now.unread in
    let start = c.args.start in
    let said = c.args.said in
    let before = take start bytes in
    let rest = drop start bytes in
    let same = ap (λ (l : List ℕ). take (length l - start) (drop start l)) c.unread.ensures.value
    ∙ rest_of bytes start in
    let begun = subst (λ s. (go : List ℕ → Found) → expect (codes "35=") TypeField go s
    ≡ go (drop 3 s)) same c.in_ok-expect_text.ensures.leads in
    let long : 4 ≤ length rest = omega (arith, ap length same, c.if-rest-lt4.false) in
    let typed = subst (λ l. get_or l 3 0 ≢ 1) same c.if-rest-eq-SOH.false in
    let whole : said ≤ length rest = omega (arith, ap length same, c.if-rest-said.false) in
    let parts : before ++ take said rest ≡ take (start + said) bytes =
    sym (take-add start said bytes) in
    let shut = body_shut before said c.requires.least rest begun long
    typed whole (subst (λ l. get_or l (said - 1) 0 ≡ 1) same c.if-rest-said-ne-SOH.false) in
    let moved : found_body before said rest
    ≡ found_trailer before (take said rest) (drop (start + said) bytes) =
    shut ∙ ap (found_trailer before (take said rest)) (drop-drop said start bytes) in
    let n : start + said - start ≡ said = omega arith in (
      omega arith,
      c.in_ok-scan_trailer.ensures.came,
      moved ∙ c.in_ok-scan_trailer.ensures.leads before (take said rest) parts
          ∙ ap (λ k. Whole (take k rest) (drop (start + said + 7) bytes)) (sym n),
    )
