use Rattle.std.proofs.Common.{◌∙◌, ◌++◌, ap, sym, subst, Err, ◌∷◌, []}
use Rattle.std.specs.Option.{option_to_list}
use Rattle.std.specs.Prelude.{is_some}
use Rattle.kept_entries.specs.Days.{last_day, past_of}
use Rattle.kept_entries.proofs.Dating.{past-last}
use Rattle.pair_journal.specs.State.{JournalState}
use Rattle.gateway_life.specs.declared.engine.Made.{Made}
use Rattle.gateway_life.specs.State.{seen}
use Rattle.gateway_life.specs.Decided.{Decided, DecidedOn, MayHold, IsWhyNot}
use Rattle.gateway_life.specs.Ready.{world_of, made_of, LeavesOf}
use Rattle.gateway_life.specs.Stepped.{records, HasCauseOf}
use Rattle.gateway_life.specs.Ended.{end_of}
use Rattle.gateway_life.proofs.Telling.{only_fault, act_event, made_event, same_event, leaves_told}
use Rattle.gateway_life.proofs.Acting.{stepped, made_fails, parts_fail}
use Rattle.gateway_life.proofs.Deciding.{left_after}
use Rattle.gateway_life.proofs.Watching.{watched_none, act_left, made_left}
use Rattle.gateway_life.proofs.Caused.{made_cause, act_cause}
use Rattle.gateway_life.proofs.Turning.{all_one}
use Rattle.gateway_life.proofs.Dealing.{dealt_err, one_read, cause_of_disk, cause_err}
use Rattle.gateway_life.proofs.engine.Engine.event.Goals as goal

pub returns-clause-dealt : goal.returns-clause-dealt
returns-clause-dealt g c = λ e is counted.
    let made = c.in_ok-made.ensures in
    let acts = c.in_ok-act.ensures in
    let on : DecidedOn (seen c.args.self.now) (seen c.decide.new.self) c.in_ok-made.made e
    c.args.now = subst (λ o. Decided (seen c.args.self.now) (seen c.decide.new.self)
    c.in_ok-made.made o c.args.now) is made.decided in
    let config = c.args.self.now.core.config in
    let w = world_of (seen c.args.self.now) in
    let x = world_of (seen c.act.new.self) in
    record {
      kept = record {
        config = acts.config ∙ made.config;
        ready = acts.ready;
        durable = λ one. one_read _ _ _ _ acts.only_read (made.durable one);
        taps = record {
          more = option_to_list c.in_ok-made.made.entry;
          goes_on = ap (λ (j : JournalState). j.entries) acts.journal ∙ made.entries;
          seen = c.show.ensures;
        };
        left = tt;
        only = tt;
        journal_cause = tt;
        told = ap is_some acts.only_read.same ∙ made.told;
        cause = acts.cause ∙ made.cause;
      };
      past = ap (λ (j : JournalState). past_of j.entries) acts.journal ∙ on.past;
      done = λ t. all_one config w x e c.args.now _ _ counted
          (stepped config w x e c.args.now (made_of c.in_ok-made.made c.decide.new.self.core)
          c.names-names.result (last_day c.decide.new.self.journal.entries) _ _ _ _ _ _
          (c.names-names.ensures.names ∙ made.ready.names ∙ ap (λ k. k.names) made.config)
          made.up.0 made.up.1 on.today
          (ap (λ (j : JournalState). last_day j.entries) acts.journal) on.decides acts.sessions
          (acts.client_acts e is (made.told ∙ t)) (acts.venue_acts e is (made.told ∙ t)));
      ends = tt;
    }

pub returns-in_err-made-clause-dealt : goal.returns-in_err-made-clause-dealt
returns-in_err-made-clause-dealt g c = λ e is counted.
    let old = seen c.args.self.now in
    let error = c.in_err-made.field-0.0 in
    let refused = c.in_err-made.ensures in
    let told = g.D.Disk.bytes c.args.disk.now in
    let config = old.core.config in
    let past = past_of old.journal.entries in
    let w = world_of old in
    let entries = c.decide.new.self.journal.entries in
    let why = subst (λ o. IsWhyNot error old o c.args.now) is refused.why in
    let may = subst (λ o. LeavesOf told (g.D.Disk.image c.args.disk.now)
    (g.D.Disk.image c.decide.new.disk) config.names (MayHold error old o c.args.now)) is
    refused.images in
    dealt_err _ c.from_residual.result error _ _ _ _ (e ∷ []) [] c.args.now
    c.from_residual.ensures.1 (record {
      kept = record {
        config = c.decide.ensures.config;
        ready = tt;
        durable = tt;
        taps = watched_none _ c.args.taps.now.items old.journal.entries entries
            refused.refused.2;
        left = made_left error told _ _ config past w e c.args.now entries
            (past-last old.journal.entries c.requires.ready.ready.sound
            ∙ sym refused.refused.2) may;
        only = made_event told error config past w e c.args.now why;
        journal_cause = made_cause c.two_numbers_are_enough.ensures
            c.each_message_takes_a_number.ensures error config c.decide.new.self.core.config old
            (seen c.decide.new.self) told e c.args.now c.decide.ensures.config refused.refused.2
            c.requires.ready.ready why;
        told = c.decide.ensures.told;
        cause = cause_err Made (Unit {0}) _ _ error refused.cause;
      };
      past = tt;
      done = tt;
      ends = made_fails error told _ _ config past w e c.args.now
          (records (g.C.Wire.recorded c.args.client.now) (g.V.Wire.recorded c.args.venue.now))
          counted why may;
    })

pub returns-in_err-act-clause-dealt : goal.returns-in_err-act-clause-dealt
returns-in_err-act-clause-dealt g c = λ e is counted.
    let made = c.in_ok-made.ensures in
    let acts = c.in_err-act.ensures in
    let on : DecidedOn (seen c.args.self.now) (seen c.decide.new.self) c.in_ok-made.made e
    c.args.now = subst (λ o. Decided (seen c.args.self.now) (seen c.decide.new.self)
    c.in_ok-made.made o c.args.now) is made.decided in
    let error = c.in_err-act.field-0.0 in
    let config = c.args.self.now.core.config in
    let told = g.D.Disk.bytes c.args.disk.now in
    let w = world_of (seen c.args.self.now) in
    let named = made.ready.names ∙ ap (λ k. k.names) made.config in
    let past = past_of c.args.self.now.journal.entries in
    let entries = c.decide.new.self.journal.entries in
    let left = left_after told (g.D.Disk.bytes c.decide.new.disk) _ _
    c.decide.new.self.journal.names config.names entries made.told made.durable made.ready.stands
    named in
    dealt_err _ c.from_residual-in_err-act.result (end_of error) _ _ _ _ (e ∷ []) [] c.args.now
    c.from_residual-in_err-act.ensures.1 (record {
      kept = record {
        config = c.act.ensures.config ∙ made.config;
        ready = tt;
        durable = tt;
        taps = record {
          more = option_to_list c.in_ok-made.made.entry;
          goes_on = ap (λ (j : JournalState). j.entries) c.act.ensures.journal ∙ made.entries;
          seen = c.show.ensures;
        };
        left = act_left (end_of error) told (g.D.Disk.image c.args.disk.now)
            (g.D.Disk.image c.decide.new.disk) (g.D.Disk.image c.act.new.disk) config.names entries
            c.act.new.self.journal.entries
            (ap (λ (j : JournalState). j.entries) c.act.ensures.journal)
            c.act.ensures.only_read.images left;
        only = same_event told (g.D.Disk.bytes c.decide.new.disk) (end_of error) made.told
            (act_event (g.D.Disk.bytes c.decide.new.disk) error acts.only);
        journal_cause = act_cause error _ _ (g.D.Disk.bytes c.decide.new.disk) acts.only;
        told = ap is_some c.act.ensures.only_read.same ∙ made.told;
        cause = subst (λ n. HasCauseOf {T = Unit {0}} n (g.D.Disk.faults c.act.new.disk)
            (Err (end_of error))) made.cause
            (cause_of_disk (Unit {0}) (Unit {0}) _ _ error acts.cause);
      };
      past = tt;
      done = tt;
      ends = leaves_told told _ _ config.names _ (λ t.
          let t1 = made.told ∙ t in
          parts_fail told (g.D.Disk.image c.decide.new.disk) (g.D.Disk.image c.act.new.disk) config
          past w e c.args.now (made_of c.in_ok-made.made c.decide.new.self.core)
          c.names-names.result (last_day entries) entries (end_of error)
          (ap end_of (only_fault (g.D.Disk.bytes c.decide.new.disk) error t1 acts.only
          (λ same. acts.no_memory (λ i. Err (same i))))) counted
          (sym (past-last entries made.ready.sound) ∙ ap (λ l. l ++ last_day entries) on.past)
          c.decide.new.self.client_up c.decide.new.self.venue_up _ _ _ _
          (c.names-names.ensures.names ∙ named) made.up.0 made.up.1 on.today on.decides
          c.act.ensures.only_read.images (acts.client_part e is t1) (acts.venue_part e is t1)
          (g.D.Disk.image c.args.disk.now) left);
    })
