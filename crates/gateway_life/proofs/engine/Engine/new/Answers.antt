use Rattle.std.proofs.Common.{refl, ◌∙◌, false}
use Rattle.kept_entries.specs.Days.{last_day}
use Rattle.gateway_life.specs.State.{EngineState}
use Rattle.gateway_life.proofs.Beginning.{begins_ok, begins_err, ready_loaded, born_same}
use Rattle.gateway_life.proofs.engine.Engine.new.Goals as goal

pub returns-in_err-frame-clause-images : goal.returns-in_err-frame-clause-images
returns-in_err-frame-clause-images g c =
    born_same (g.D.Disk.bytes c.args.disk.now) (g.D.Disk.image c.args.disk.now)
    c.args.config.now.names

pub returns-in_err-joining-clause-images : goal.returns-in_err-joining-clause-images
returns-in_err-joining-clause-images g c =
    born_same (g.D.Disk.bytes c.args.disk.now) (g.D.Disk.image c.args.disk.now)
    c.args.config.now.names

pub returns-in_err-journal-clause-begins : goal.returns-in_err-journal-clause-begins
returns-in_err-journal-clause-begins g c =
    begins_err _ c.args.config.now.names (g.D.Disk.bytes c.args.disk.now)
    (g.D.Disk.bytes c.load.new.disk) c.from_residual-in_err-journal.result
    c.in_err-journal.field-0.0 c.from_residual-in_err-journal.ensures.1
    c.in_err-journal.ensures.loads

pub returns-clause-begins : goal.returns-clause-begins
returns-clause-begins g c =
    begins_ok {T = EngineState} (λ engine. engine.journal.entries) c.args.config.now.names
    (g.D.Disk.bytes c.args.disk.now) (g.D.Disk.bytes c.load.new.disk) c.in_ok-journal.journal
    (record {
      journal = c.in_ok-journal.journal;
      core = c.new-core.result;
      client_up = false;
      venue_up = false;
    }) refl c.in_ok-journal.ensures.loads

pub returns-clause-core : goal.returns-clause-core
returns-clause-core g c =
    c.new-core.ensures (last_day c.in_ok-journal.journal.entries) c.next.ensures.next
    (c.into_chains.ensures ∙ c.in_ok-journal.ensures.shown c.in_ok-joining.ensures)

pub returns-clause-ready : goal.returns-clause-ready
returns-clause-ready g c =
    ready_loaded c.in_ok-journal.journal c.new-core.result c.args.config.now
    (g.D.Disk.bytes c.load.new.disk) (g.D.Disk.bytes c.load.new.disk) c.in_ok-journal.ensures.named
    c.in_ok-journal.ensures.whole c.next.ensures.sound
    (c.new-core.ensures (last_day c.in_ok-journal.journal.entries) c.next.ensures.next
    (c.into_chains.ensures ∙ c.in_ok-journal.ensures.shown c.in_ok-joining.ensures))
    c.in_ok-journal.ensures.stands refl
