use Rattle.std.proofs.Common.{◌∙◌, sym, ap, subst, true}
use Rattle.std.specs.declared.option.Option.{Option}
use Rattle.pair_entries.specs.declared.entry.Out.{Out}
use Rattle.pair_entries.proofs.Same.{front_is}
use Rattle.pair_journal.specs.Buffer.{out_told}
use Rattle.pair_journal.specs.OutBuf.{TellsIf, out_at}
use Rattle.pair_journal.proofs.Standing.{has_day, behind_day}
use Rattle.pair_journal.proofs.journal.tell_out.Goals as goal

pub returns-in_default-clause-gives : goal.returns-in_default-clause-gives
returns-in_default-clause-gives c = λ entry is written.
    absurd (has_day c.args.payload.now entry written c.in_default.ensures)

pub returns-in_default-front_of-clause-gives : goal.returns-in_default-front_of-clause-gives
returns-in_default-front_of-clause-gives c = λ entry is written.
    absurd (c.in_default-front_of.ensures entry is (behind_day c.args.payload.now
    c.in-Some.bytes.now _ entry written c.in-Some.ensures.0))

pub returns-in_default-out_in-clause-gives : goal.returns-in_default-out_in-clause-gives
returns-in_default-out_in-clause-gives c = λ entry is written.
    let front = c.in-Some-front_of.ensures in
    let says = front_is c.in-Some-front_of.front entry front.1 is (sym front.0
    ∙ behind_day c.args.payload.now c.in-Some.bytes.now _ entry written c.in-Some.ensures.0) in
    sym (c.in_default-out_in.ensures.finds entry is.outs says.outs)

pub returns-clause-gives : goal.returns-clause-gives
returns-clause-gives c = λ entry is written.
    let front = c.in-Some-front_of.ensures in
    let says = front_is c.in-Some-front_of.front entry front.1 is (sym front.0
    ∙ behind_day c.args.payload.now c.in-Some.bytes.now _ entry written c.in-Some.ensures.0) in
    let found = c.in-Some-out_in.ensures.finds entry is.outs says.outs in
    subst (λ (o : Option Out). TellsIf true o entry.at (out_told c.tell.new.self)) found
    (c.tell.ensures.told ∙ ap (λ n. out_at n c.in-Some-out_in.out) says.at)
