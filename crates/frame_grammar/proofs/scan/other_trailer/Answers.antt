use Rattle.std.proofs.Common.{◌≡◌, ◌+◌, ◌-◌, ◌++◌, ◌∙◌, List, ℕ, take, drop, length, ap, subst, sym}
use Rattle.std.proofs.Common.{arith, rules}
use Rattle.std.proofs.lemmas.List.{drop-drop}
use Rattle.frame_grammar.specs.Frame.{trailer}
use Rattle.frame_grammar.specs.Found.{Found, expect, expect_sum, found_trailer}
use Rattle.frame_grammar.specs.Scan.{IsStop, Leads}
use Rattle.frame_grammar.specs.declared.frame.Garble.TheVariants.{Trailer}
use Rattle.frame_grammar.proofs.Scanned.{rest_of, trailer_stops, digits_stop, trailer_leads}
use Rattle.frame_grammar.proofs.scan.other_trailer.Goals as goal

pub returns-in_err-expect_text-clause-leads : goal.returns-in_err-expect_text-clause-leads
returns-in_err-expect_text-clause-leads c before body is =
    let stream = c.args.buffer.now.unread in
    let end = c.args.end in
    let given = c.trailer-trailer.result in
    let given_is : given ≡ trailer (before ++ body) =
    c.trailer-trailer.ensures ∙ ap (λ (l : List ℕ). trailer l) (sym is) in
    let stop = c.in_err-expect_text.field-0.0 in
    let three : length (take 3 given) ≡ 3 = ap (λ (l : List ℕ). length (take 3 l)) given_is in
    let next_three : length (take 3 (drop 3 given)) ≡ 3 =
    ap (λ (l : List ℕ). length (take 3 (drop 3 l))) given_is in
    let same = ap (λ (l : List ℕ). take (length l - end) (drop end l)) c.unread-bytes.ensures.value
    ∙ rest_of stream end in
    let h : IsStop stop (found_trailer before body (drop end stream)) =
    trailer_stops before body given given_is stop (drop end stream)
    (λ go. subst (λ s. IsStop stop (expect (take 3 given) Trailer go s))
    same (c.in_err-expect_text.ensures.leads go)) in
    search (rules, h)

pub returns-in_err-expect_sum-clause-leads : goal.returns-in_err-expect_sum-clause-leads
returns-in_err-expect_sum-clause-leads c before body is =
    let stream = c.args.buffer.now.unread in
    let end = c.args.end in
    let given = c.trailer-trailer.result in
    let given_is : given ≡ trailer (before ++ body) =
    c.trailer-trailer.ensures ∙ ap (λ (l : List ℕ). trailer l) (sym is) in
    let stop = c.in_err-expect_sum.field-0.0 in
    let three : length (take 3 given) ≡ 3 = ap (λ (l : List ℕ). length (take 3 l)) given_is in
    let next_three : length (take 3 (drop 3 given)) ≡ 3 =
    ap (λ (l : List ℕ). length (take 3 (drop 3 l))) given_is in
    let same = ap (λ (l : List ℕ). take (length l - end) (drop end l)) c.unread-bytes.ensures.value
    ∙ rest_of stream end in
    let same3 = ap (λ (l : List ℕ). take (length l - (end + 3)) (drop (end + 3) l))
    c.unread-bytes.ensures.value ∙ rest_of stream (end + 3) in
    let ten : (go : List ℕ → Found)
    → expect (take 3 given) Trailer go (drop end stream) ≡ go (drop (end + 3) stream) =
    λ go. subst (λ s. expect (take 3 given) Trailer go s ≡ go (drop 3 s)) same
    (subst (λ n. expect (take 3 given) Trailer go (take
    (length c.unread-bytes.result.now - end) (drop end c.unread-bytes.result.now)) ≡ go (drop
    n (take (length c.unread-bytes.result.now - end) (drop end c.unread-bytes.result.now))))
    three (c.in_ok-expect_text.ensures.leads go)) ∙ ap go (drop-drop 3 end stream) in
    let h : IsStop stop (found_trailer before body (drop end stream)) =
    digits_stop before body given given_is (drop end stream) (drop (end + 3) stream) ten stop
    (λ go. subst (λ s. IsStop stop (expect_sum (take 3 (drop 3 given)) go s))
    same3 (c.in_err-expect_sum.ensures.leads go)) in
    search (rules, h)

pub returns-clause-leads : goal.returns-clause-leads
returns-clause-leads c before body is =
    let stream = c.args.buffer.now.unread in
    let end = c.args.end in
    let given = c.trailer-trailer.result in
    let given_is : given ≡ trailer (before ++ body) =
    c.trailer-trailer.ensures ∙ ap (λ (l : List ℕ). trailer l) (sym is) in
    let three : length (take 3 given) ≡ 3 = ap (λ (l : List ℕ). length (take 3 l)) given_is in
    let next_three : length (take 3 (drop 3 given)) ≡ 3 =
    ap (λ (l : List ℕ). length (take 3 (drop 3 l))) given_is in
    let same = ap (λ (l : List ℕ). take (length l - end) (drop end l)) c.unread-bytes.ensures.value
    ∙ rest_of stream end in
    let same3 = ap (λ (l : List ℕ). take (length l - (end + 3)) (drop (end + 3) l))
    c.unread-bytes.ensures.value ∙ rest_of stream (end + 3) in
    let same6 = ap (λ (l : List ℕ). take (length l - (end + 6)) (drop (end + 6) l))
    c.unread-bytes.ensures.value ∙ rest_of stream (end + 6) in
    let ten : (go : List ℕ → Found)
    → expect (take 3 given) Trailer go (drop end stream) ≡ go (drop (end + 3) stream) =
    λ go. subst (λ s. expect (take 3 given) Trailer go s ≡ go (drop 3 s)) same
    (subst (λ n. expect (take 3 given) Trailer go (take
    (length c.unread-bytes.result.now - end) (drop end c.unread-bytes.result.now)) ≡ go (drop
    n (take (length c.unread-bytes.result.now - end) (drop end c.unread-bytes.result.now))))
    three (c.in_ok-expect_text.ensures.leads go)) ∙ ap go (drop-drop 3 end stream) in
    let six : end + 3 + 3 ≡ end + 6 = omega arith in
    let seven : end + 6 + 1 ≡ end + 7 = omega arith in
    let digits : (go : List ℕ → Found) → expect_sum
    (take 3 (drop 3 given)) go (drop (end + 3) stream) ≡ go (drop (end + 6) stream) =
    λ go. subst (λ s. expect_sum (take 3 (drop 3 given)) go s ≡ go (drop 3 s)) same3
    (subst (λ n. expect_sum (take 3 (drop 3 given)) go (take (length c.unread-bytes.result.now
    - (end + 3)) (drop (end + 3) c.unread-bytes.result.now)) ≡ go (drop n (take
    (length c.unread-bytes.result.now - (end + 3)) (drop (end + 3) c.unread-bytes.result.now))))
    next_three (c.in_ok-expect_sum.ensures.leads go))
    ∙ ap go (drop-drop 3 (end + 3) stream ∙ ap (λ (k : ℕ). drop k stream) six) in
    trailer_leads before body given given_is (drop end stream) (drop (end + 3) stream)
    ten (drop (end + 6) stream) (drop (end + 7) stream) digits c.expect_text-2.result
    (λ go. subst (λ s. Leads c.expect_text-2.result
    (expect (take 1 (drop 6 given)) Trailer go (drop (end + 6) stream)) (go s))
    (drop-drop 1 (end + 6) stream ∙ ap (λ (k : ℕ). drop k stream) seven)
    (subst (λ s. Leads
    c.expect_text-2.result (expect (take 1 (drop 6 given)) Trailer go s) (go (drop 1 s))) same6
    (subst (λ n. Leads c.expect_text-2.result
    (expect (take 1 (drop 6 given)) Trailer go (take
    (length c.unread-bytes.result.now - (end + 6)) (drop (end + 6) c.unread-bytes.result.now)))
    (go (drop n (take (length c.unread-bytes.result.now - (end + 6))
    (drop (end + 6) c.unread-bytes.result.now)))))
    (let one : length (take 1 (drop 6 given)) ≡ 1 = ap (λ (l : List ℕ). length (take 1 (drop 6 l)))
    given_is in one) (c.expect_text-2.ensures.leads go))))
