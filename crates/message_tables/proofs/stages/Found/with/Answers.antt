use Rattle.std.proofs.Common.{ap, ◌∙◌}
use Rattle.message_tables.specs.Tables.{or_else}
use Rattle.message_tables.specs.FirstFault.{wrong_version, wrong, beyond}
use Rattle.message_tables.proofs.Loops.{one_more}
use Rattle.message_tables.proofs.stages.Found.with.Goals as goal

pub returns : goal.returns
returns c = λ marks h. record {
  version = c.first.ensures ∙ ap (or_else c.args.self.version) c.wrong_version.ensures
      ∙ one_more wrong_version marks (c.args.tag, c.args.mark) c.args.self.version h.version;
  wrong = c.first-2.ensures ∙ ap (or_else c.args.self.wrong) c.wrong.ensures
      ∙ one_more wrong marks (c.args.tag, c.args.mark) c.args.self.wrong h.wrong;
  outside = c.first-3.ensures ∙ ap (or_else c.args.self.outside) c.beyond.ensures
      ∙ one_more beyond marks (c.args.tag, c.args.mark) c.args.self.outside h.outside;
}
