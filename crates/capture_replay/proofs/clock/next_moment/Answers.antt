use Rattle.std.proofs.Common.{◌≡◌, ◌∙◌, ℕ, [], true, false, rules, sym, ap}
use Rattle.capture_text.specs.Kept.{event_of}
use Rattle.capture_replay.specs.Rounds.{is_round, moments_from}
use Rattle.capture_replay.proofs.EachLine.{no_round, round_first, round_rest, end_first, end_rest}
use Rattle.capture_replay.proofs.clock.next_moment.Goals as goal

pub loop-line-preserved : goal.loop-line-preserved
loop-line-preserved c =
    let passed : is_round (event_of c.in-Some.line) ≡ false = search rules in
    no_round (event_of c.in-Some.line) c.loop-line.lines c.next.new.self _ c.loop-line.moment passed
    c.in-Some.ensures.some c.loop-line.invariant
    ∙ ap (λ (m : ℕ). moments_from m c.next.new.self) (sym c.now_after-moment.ensures)

pub returns-then-is_round-clause-first : goal.returns-then-is_round-clause-first
returns-then-is_round-clause-first c =
    let passed : is_round (event_of c.in-Some.line) ≡ true = search rules in
    round_first (event_of c.in-Some.line) c.loop-line.lines c.next.new.self
    (moments_from c.args.now c.args.lines.now) c.loop-line.moment passed c.in-Some.ensures.some
    c.loop-line.invariant

pub returns-then-is_round-clause-rest : goal.returns-then-is_round-clause-rest
returns-then-is_round-clause-rest c =
    let passed : is_round (event_of c.in-Some.line) ≡ true = search rules in
    round_rest (event_of c.in-Some.line) c.loop-line.lines c.next.new.self
    (moments_from c.args.now c.args.lines.now) c.loop-line.moment passed c.in-Some.ensures.some
    c.loop-line.invariant

pub returns-clause-first : goal.returns-clause-first
returns-clause-first c =
    let none : c.loop-line.lines ≡ [] = search rules in
    let past : c.next.new.self ≡ [] = search rules in
    end_first c.loop-line.lines c.next.new.self (moments_from c.args.now c.args.lines.now)
    c.loop-line.moment none past c.loop-line.invariant

pub returns-clause-rest : goal.returns-clause-rest
returns-clause-rest c =
    let none : c.loop-line.lines ≡ [] = search rules in
    let past : c.next.new.self ≡ [] = search rules in
    end_rest c.loop-line.lines c.next.new.self (moments_from c.args.now c.args.lines.now)
    c.loop-line.moment none past c.loop-line.invariant
