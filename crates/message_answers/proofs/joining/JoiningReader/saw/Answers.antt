use Rattle.std.proofs.Common.{◌∙◌, ap, sym}
use Rattle.pair_entries.specs.declared.entry.Entry.{Entry}
use Rattle.message_answers.proofs.Joined.{joined_on, none_joined}
use Rattle.message_answers.proofs.joining.JoiningReader.saw.Goals as goal

pub returns-then-entry : goal.returns-then-entry
returns-then-entry c = λ before so_far.
    none_joined c.args.entry.now _
    (sym (ap (λ (e : Entry). e.reset) c.entry.view_is) ∙ c.if-entry.true) c.clear.ensures before

pub returns : goal.returns
returns c = joined_on c.join.result c.args.entry.now c.args.self.now.chains c.join.new.chains
    (sym (ap (λ (e : Entry). e.reset) c.entry.view_is) ∙ c.if-entry.false) c.join.ensures
