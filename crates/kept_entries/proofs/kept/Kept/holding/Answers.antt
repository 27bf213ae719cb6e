use Rattle.std.proofs.Common.{◌<◌, ◌≤◌, ◌+◌, ◌*◌, ◌/◌, leb, length, rules, sym, ap, subst, arith}
use Rattle.std.proofs.lemmas.List.Sorted.{IsPartitionPoint-from_clause}
use Rattle.kept_entries.specs.Numbers.{next_out, numbers_after, first_numbers}
use Rattle.kept_entries.specs.Days.{last_day, past_of}
use Rattle.kept_entries.specs.Spots.{AreMarks, HoldsOut}
use Rattle.kept_entries.specs.State.{KeptState}
use Rattle.kept_entries.specs.declared.spot.Spot.{Spot}
use Rattle.kept_entries.proofs.Dating.{last_numbers, past_short}
use Rattle.kept_entries.proofs.Marking.{parted_marks, holding_day, holding_mark}
use Rattle.kept_entries.proofs.kept.Kept.holding.Goals as goal

pub returns-then-count-eq0-clause-holds : goal.returns-then-count-eq0-clause-holds
returns-then-count-eq0-clause-holds c =
    let entries = c.self.inside.reached in
    let marks = subst (AreMarks entries) (sym c.deref.ensures.value) c.self.invariant.marks in
    let kept = c.self.invariant in
    let sound = kept.sound in
    let before = c.self.inside.begins.index / 64 in
    let index = ap (λ (s : Spot). s.index) kept.begins in
    let low : 64 * before ≤ length (past_of entries) = omega (arith, index) in
    let high : length (past_of entries) < 64 * before + 64 = omega (arith, index) in
    let few : before ≤ length c.deref.result.now =
    omega (arith, low, marks.least, past_short entries sound) in
    let below = subst (λ n. c.args.number < next_out c.args.side n) (last_numbers entries sound)
    (subst (λ (k : KeptState). c.args.number < next_out c.args.side
    (numbers_after first_numbers (last_day k.entries))) (sym c.self.view_is) c.requires.below) in
    let point = IsPartitionPoint-from_clause (λ (m : Spot). leb (next_out c.args.side m.next)
    c.args.number) _ _ c.partition_point-count.ensures.partitioned (parted_marks entries
    c.deref.result.now marks sound c.args.side c.args.number before low high few
    c.marks_behind-marks.result.now c.marks_behind-marks.ensures) (λ a r q k. search rules) in
    subst (λ (k : KeptState). HoldsOut k.entries c.args.side c.args.number c.self.inside.begins)
    c.self.view_is (holding_day entries c.deref.result.now marks sound c.args.side c.args.number
    before low high few c.marks_behind-marks.result.now c.marks_behind-marks.ensures
    c.requires.above below c.partition_point-count.result
    c.partition_point-count.ensures.bound point.0 point.1 c.self.inside.begins
    c.if-count-eq0.true kept.begins)

pub returns-clause-holds : goal.returns-clause-holds
returns-clause-holds c =
    let entries = c.self.inside.reached in
    let marks = subst (AreMarks entries) (sym c.deref.ensures.value) c.self.invariant.marks in
    let kept = c.self.invariant in
    let sound = kept.sound in
    let before = c.self.inside.begins.index / 64 in
    let index = ap (λ (s : Spot). s.index) kept.begins in
    let low : 64 * before ≤ length (past_of entries) = omega (arith, index) in
    let high : length (past_of entries) < 64 * before + 64 = omega (arith, index) in
    let few : before ≤ length c.deref.result.now =
    omega (arith, low, marks.least, past_short entries sound) in
    let below = subst (λ n. c.args.number < next_out c.args.side n) (last_numbers entries sound)
    (subst (λ (k : KeptState). c.args.number < next_out c.args.side
    (numbers_after first_numbers (last_day k.entries))) (sym c.self.view_is) c.requires.below) in
    let point = IsPartitionPoint-from_clause (λ (m : Spot). leb (next_out c.args.side m.next)
    c.args.number) _ _ c.partition_point-count.ensures.partitioned (parted_marks entries
    c.deref.result.now marks sound c.args.side c.args.number before low high few
    c.marks_behind-marks.result.now c.marks_behind-marks.ensures) (λ a r q k. search rules) in
    subst (λ (k : KeptState). HoldsOut k.entries c.args.side c.args.number c.mark_of.result)
    c.self.view_is (holding_mark entries c.deref.result.now marks sound c.args.side c.args.number
    before low high few c.marks_behind-marks.result.now c.marks_behind-marks.ensures
    c.requires.above below c.partition_point-count.result
    c.partition_point-count.ensures.bound point.0 point.1 c.mark_of.result
    c.if-count-eq0.false (c.mark_of.ensures entries
    (subst (AreMarks entries) (sym c.deref-2.ensures.value) kept.marks)))
