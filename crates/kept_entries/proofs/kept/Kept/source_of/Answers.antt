use Rattle.std.proofs.Common.{◌∙◌, sym, ap}
use Rattle.order_meaning.specs.declared.Side.{Side}
use Rattle.order_meaning.specs.declared.Side.TheVariants.{Client, Venue}
use Rattle.kept_entries.specs.Given.{source_of}
use Rattle.kept_entries.specs.Days.{last_day}
use Rattle.kept_entries.proofs.Dating.{last_is_sound}
use Rattle.kept_entries.specs.State.{KeptState}
use Rattle.kept_entries.proofs.kept.Kept.source_of.Goals as goal

pub returns-in-Client : goal.returns-in-Client
returns-in-Client c =
    c.find.ensures Client (last_day c.self.inside.reached)
    (last_is_sound c.self.inside.reached c.self.invariant.sound)
    (c.deref.ensures.value ∙ c.self.invariant.client)
    ∙ ap (λ (k : KeptState). source_of Client c.args.number (last_day k.entries)) c.self.view_is
    ∙ ap (λ (s : Side). source_of s c.args.number
    (last_day c.args.self.now.entries)) (sym c.in-Client.is)

pub returns-in-Venue : goal.returns-in-Venue
returns-in-Venue c =
    c.find-in-Venue.ensures Venue (last_day c.self.inside.reached)
    (last_is_sound c.self.inside.reached c.self.invariant.sound)
    (c.deref-in-Venue.ensures.value ∙ c.self.invariant.venue)
    ∙ ap (λ (k : KeptState). source_of Venue c.args.number (last_day k.entries)) c.self.view_is
    ∙ ap (λ (s : Side). source_of s c.args.number
    (last_day c.args.self.now.entries)) (sym c.in-Venue.is)
