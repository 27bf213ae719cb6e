use Rattle.std.proofs.Common.{◌≡◌, ◌∙◌, [], false, ap, filter, rules}
use Rattle.capture_text.specs.Kept.{event_of}
use Rattle.capture_replay.specs.Rounds.{is_round}
use Rattle.capture_replay.proofs.Coming.{at_none, rest_bounded, none_bounded}
use Rattle.capture_replay.proofs.wire.next_round.Goals as goal

pub loop-line-preserved : goal.loop-line-preserved
loop-line-preserved c =
    let line = event_of c.in-Some.line in
    let now = c.loop-line.lines in
    let left = c.next.new.self in
    let passed : is_round line ≡ false = search rules in
    record {
      rounds = c.loop-line.invariant.rounds ∙ at_none line now left c.in-Some.ensures.some passed;
      bounded = λ all.
          rest_bounded line now left c.in-Some.ensures.some (c.loop-line.invariant.bounded all);
    }

pub returns-then-is_round-clause-bounded : goal.returns-then-is_round-clause-bounded
returns-then-is_round-clause-bounded c = λ all. rest_bounded (event_of c.in-Some.line)
    c.loop-line.lines c.next.new.self c.in-Some.ensures.some (c.loop-line.invariant.bounded all)

pub returns-clause-past : goal.returns-clause-past
returns-clause-past c = λ is.
    let none : c.next.new.self ≡ [] = search rules in
    ap (filter is_round) none

pub returns-clause-bounded : goal.returns-clause-bounded
returns-clause-bounded c = λ all.
    let none : c.next.new.self ≡ [] = search rules in
    none_bounded c.next.new.self none
