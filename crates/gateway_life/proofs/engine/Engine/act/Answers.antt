use Rattle.std.proofs.Common.{subst, ap, refl, ◌∙◌}
use Rattle.gateway_core.specs.State.{sessions_in}
use Rattle.std.specs.Prelude.{map, is_some}
use Rattle.order_meaning.specs.declared.Side.TheVariants.{Client, Venue}
use Rattle.kept_entries.specs.Days.{last_day}
use Rattle.life_laws.specs.Forms.{form_frame}
use Rattle.life_laws.specs.Repeats.{repeated_to}
use Rattle.life_laws.specs.Happens.{firsts, firsts_to}
use Rattle.wire_sends.specs.Sent.{Sent}
use Rattle.wire_sends.specs.Again.{repeat_in}
use Rattle.gateway_life.specs.Ready.{made_of}
use Rattle.gateway_life.proofs.Acting.{acted, part_front, part_whole, part_none}
use Rattle.gateway_life.proofs.Telling.{some_told, on_err_told}
use Rattle.gateway_life.proofs.Acting.{ready_acted}
use Rattle.gateway_life.proofs.engine.Engine.act.Goals as goal

pub returns-in_err-client_up-clause-client_part : goal.returns-in_err-client_up-clause-client_part
returns-in_err-client_up-clause-client_part g c = λ e is.
    on_err_told c.from_residual.result (g.D.Disk.bytes c.args.disk.now) _
    (λ t. part_front _ _ _ (form_frame c.args.names.now Client)
    (repeated_to Client (last_day c.args.self.now.journal.entries) c.args.now
    (repeat_in c.args.made.now.resend))
    (firsts_to Client e (made_of c.args.made.now c.args.self.now.core))
    (some_told (g.D.Disk.bytes c.args.disk.now) _ c.in_err-client_up.ensures.part t))

pub returns-in_err-client_up-clause-venue_part : goal.returns-in_err-client_up-clause-venue_part
returns-in_err-client_up-clause-venue_part g c = λ e is.
    on_err_told c.from_residual.result (g.D.Disk.bytes c.args.disk.now) _ (λ t. part_none _ _ _)

pub returns-in_err-venue_up-clause-client_part : goal.returns-in_err-venue_up-clause-client_part
returns-in_err-venue_up-clause-client_part g c = λ e is.
    on_err_told c.from_residual-in_err-venue_up.result (g.D.Disk.bytes c.args.disk.now) _
    (λ t. part_whole _ _ _ _ (form_frame c.args.names.now Client)
    (repeated_to Client (last_day c.args.self.now.journal.entries) c.args.now
    (repeat_in c.args.made.now.resend))
    (firsts_to Client e (made_of c.args.made.now c.args.self.now.core))
    (some_told (g.D.Disk.bytes c.args.disk.now) _ c.in_ok-client_up.ensures.sent t))

pub returns-in_err-venue_up-clause-venue_part : goal.returns-in_err-venue_up-clause-venue_part
returns-in_err-venue_up-clause-venue_part g c = λ e is.
    on_err_told c.from_residual-in_err-venue_up.result (g.D.Disk.bytes c.args.disk.now) _
    (λ t. part_front _ _ _ (form_frame c.args.names.now Venue)
    (repeated_to Venue (last_day c.args.self.now.journal.entries) c.args.now
    (repeat_in c.args.made.now.resend))
    (firsts_to Venue e (made_of c.args.made.now c.args.self.now.core))
    (some_told (g.D.Disk.bytes c.repeat_on.new.disk) _ c.in_err-venue_up.ensures.part
    (ap is_some c.in_ok-client_up.ensures.only_read.same ∙ t)))

pub returns-clause-client_acts : goal.returns-clause-client_acts
returns-clause-client_acts g c = λ e is t.
    acted _ _ _ _ _ _ _ _ _ (form_frame c.args.names.now Client)
    (repeated_to Client (last_day c.args.self.now.journal.entries) c.args.now
    (repeat_in c.args.made.now.resend))
    (firsts_to Client e (made_of c.args.made.now c.args.self.now.core))
    (some_told (g.D.Disk.bytes c.args.disk.now) _ c.in_ok-client_up.ensures.sent t)
    (subst (λ b. Sent (g.C.Wire.recorded c.repeat_on.new.wire)
    (g.C.Wire.recorded c.outs_on-client_still.new.wire) c.in_ok-client_up.client_up
    (map (form_frame c.args.names.now Client) (firsts Client b c.args.made.now.entry))
    c.outs_on-client_still.result)
    (c.is_sent-client_sent.ensures e is) c.outs_on-client_still.ensures.sent)
    c.hang_up_on-self.ensures.hung

pub returns-clause-venue_acts : goal.returns-clause-venue_acts
returns-clause-venue_acts g c = λ e is t.
    acted _ _ _ _ _ _ _ _ _ (form_frame c.args.names.now Venue)
    (repeated_to Venue (last_day c.args.self.now.journal.entries) c.args.now
    (repeat_in c.args.made.now.resend))
    (firsts_to Venue e (made_of c.args.made.now c.args.self.now.core))
    (some_told (g.D.Disk.bytes c.repeat_on.new.disk) _ c.in_ok-venue_up.ensures.sent
    (ap is_some c.in_ok-client_up.ensures.only_read.same ∙ t))
    (subst (λ b. Sent (g.V.Wire.recorded c.repeat_on-2.new.wire)
    (g.V.Wire.recorded c.outs_on-venue_still.new.wire) c.in_ok-venue_up.venue_up
    (map (form_frame c.args.names.now Venue) (firsts Venue b c.args.made.now.entry))
    c.outs_on-venue_still.result)
    (c.is_sent-venue_sent.ensures e is) c.outs_on-venue_still.ensures.sent)
    c.hang_up_on-self-2.ensures.hung

pub returns-clause-sessions : goal.returns-clause-sessions
returns-clause-sessions g c =
    ap sessions_in c.apply.ensures
    ∙ (λ i. record {
      client = c.standing-client_session.ensures i;
      venue = c.standing-venue_session.ensures i;
    })

pub returns-clause-ready : goal.returns-clause-ready
returns-clause-ready g c =
    ready_acted _ _ _ _ _ _ c.requires.ready.ready
    (c.in_ok-venue_up.ensures.only_read.same ∙ c.in_ok-client_up.ensures.only_read.same) refl
    (ap (λ k. k.config) c.apply.ensures) (ap (λ k. k.chains) c.apply.ensures)
    (ap sessions_in c.apply.ensures
    ∙ (λ i. record {
      client = c.standing-client_session.ensures i;
      venue = c.standing-venue_session.ensures i;
    })) c.hang_up_on-self.ensures.agrees c.hang_up_on-self-2.ensures.agrees
