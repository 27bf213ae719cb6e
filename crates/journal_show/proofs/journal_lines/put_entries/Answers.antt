use Rattle.std.proofs.Common.{rules, refl, ◌∙◌, arith}
use Rattle.journal_show.proofs.JournalLines.{nothing_put, none_put, one_put, front_put, all_put}
use Rattle.journal_show.proofs.journal_lines.put_entries.Goals as goal

pub returns-in_err-walk-clause-lines : goal.returns-in_err-walk-clause-lines
returns-in_err-walk-clause-lines g c = (
  c.args.journal.now.entries,
  nothing_put c.from_residual.result (g.O.Sink.bytes c.args.out.now) _ c.from_residual.ensures.0,
  λ b e. refl,
)

pub returns-in_err-put_entry-clause-lines : goal.returns-in_err-put_entry-clause-lines
returns-in_err-put_entry-clause-lines g c =
    let line = c.in_err-put_entry.ensures.line in
    front_put (g.D.Disk.bytes c.args.disk.now) c.args.journal.now.entries
    (g.O.Sink.bytes c.args.out.now) c.loop-index.index (g.O.Sink.bytes c.loop-index.out)
    (g.O.Sink.bytes c.put_entry.new.out) c.loop-index.invariant.put line.0
    (λ b e. line.2 b (c.loop-index.invariant.only_read.same ∙ e))
    c.from_residual-in_err-put_entry.result c.from_residual-in_err-put_entry.ensures.0 line.1

pub loop-index-init : goal.loop-index-init
loop-index-init g c = record {
  put = none_put (g.D.Disk.bytes c.args.disk.now) c.args.journal.now.entries
      (g.O.Sink.bytes c.args.out.now);
  walk = c.in_ok-walk.ensures.entries (g.D.Disk.bytes c.args.disk.now) c.args.journal.now.entries;
  only_read = search rules;
  disk_still = search rules;
  output_still = search rules;
}

pub loop-index-preserved : goal.loop-index-preserved
loop-index-preserved g c = record {
  put = let line = c.in_ok-put_entry.ensures.line in
      one_put (g.D.Disk.bytes c.args.disk.now) c.args.journal.now.entries
      (g.O.Sink.bytes c.args.out.now) c.loop-index.index (g.O.Sink.bytes c.loop-index.out)
      (g.O.Sink.bytes c.put_entry.new.out) c.loop-index.invariant.put line.0
      (λ b e. line.2 b (c.loop-index.invariant.only_read.same ∙ e)) line.1;
  walk = c.in_ok-put_entry.ensures.walk;
  only_read = search rules;
  disk_still = search rules;
  output_still = search rules;
}

pub returns-clause-lines : goal.returns-clause-lines
returns-clause-lines g c = all_put (g.D.Disk.bytes c.args.disk.now) c.args.journal.now.entries
    (g.O.Sink.bytes c.args.out.now) c.loop-index.index (g.O.Sink.bytes c.loop-index.out)
    c.loop-index.invariant.put
    (omega (arith, c.loop-index-test.false, c.count-index-end.ensures))
