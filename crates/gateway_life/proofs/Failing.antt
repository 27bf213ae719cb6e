-- An event that ended a life: what led up to it, and what stands of it.
use Rattle.std.proofs.Common.{◌≡◌, List, ◌∷◌, ◌++◌, ◌∙◌, ap, append_assoc, inl, ℕ}
use Rattle.pair_entries.specs.declared.entry.Entry.{Entry}
use Rattle.event_decisions.specs.Event.{Event}
use Rattle.message_answers.specs.Answer.{Answers}
use Rattle.life_laws.specs.Happens.{World, Added, Fails}
use Rattle.life_laws.specs.Ends.{UpTo}
use Rattle.gateway_config.specs.declared.config.Config.{Config}
use Rattle.gateway_life.specs.declared.end.LifeEnd.{LifeEnd}
use Rattle.gateway_life.specs.declared.end.LifeEnd.TheVariants as ends
use Rattle.gateway_life.specs.Fails.{FailsBy}
use Rattle.gateway_life.specs.Stepped.{Records, Failed}

module _ (config : Config) where
  pub failed_up_to : (end : LifeEnd) (past : List Entry) (w : World) (all events tail : List Event)
      (now : ℕ) (r0 r1 : Records) (entries : List Entry) → all ≡ events ++ tail
      → (f : Failed end config past w events now r0 r1 entries)
      → UpTo Answers config.names config.window w all now f.all.added f.mid f.last
  failed_up_to end past w all events tail now r0 r1 entries is f = record {
    first = f.first;
    rest = f.rest ++ tail;
    split = is ∙ ap (λ l. l ++ tail) f.split ∙ append_assoc f.first (f.last ∷ f.rest) tail;
    happen = f.all.happen;
    counted = f.counted;
  }

  -- ---- what stands of it

  pub fails_by : (end : LifeEnd) (w : World) (event : Event) (now : ℕ) (added : Added)
      (entries : List Entry) → FailsBy end config w event now added entries
      → Fails Answers config.names config.window w event now added entries
  fails_by ends.DiskFault w event now added entries by = by
  fails_by end w event now added entries by = inl by
