-- The entry with which a session day begins.
use Rattle.std.proofs.Common.{◌≡◌, ℕ, ◌≤◌, true, List, [], None, Result, Ok, Err, IfOk}
use Rattle.std.proofs.Common.{refl, sym, ap, subst, arith, ◌∙◌}
use Rattle.std.specs.declared.alloc.AllocError.{AllocError}
use Rattle.pair_entries.specs.declared.TheConstants.{MAX_AT}
use Rattle.pair_entries.specs.declared.entry.Out.{Out}
use Rattle.pair_entries.specs.declared.entry.Entry.{Entry}
use Rattle.pair_entries.specs.Payload.{IsEntry}
use Rattle.event_decisions.specs.Days.{new_day}

-- the entry as it is made, with these outs
abbrev begins_with : ℕ → List Out → Entry
begins_with now outs =
    record { at = now; reset = true; took = None; next = (1, 1, 1, 1); outs = outs }

pub is_new_day : (now : ℕ) (outs : List Out) → now ≤ MAX_AT → outs ≡ []
    → IsEntry (begins_with now outs)
is_new_day now outs bound none =
    subst (λ (o : List Out). IsEntry (begins_with now o)) (sym none) (record {
      at = bound;
      reset = λ is. record { took = refl; next = refl; outs = refl };
      took = tt;
      next = (
        (omega arith, omega arith),
        (omega arith, omega arith),
        (omega arith, omega arith),
        (omega arith, omega arith),
      );
      few = omega arith;
      outs = tt;
    })

pub prepared_is : (r : Result Entry AllocError) (now : ℕ) (outs : List Out) → outs ≡ []
    → IfOk r (λ p. p ≡ begins_with now outs) → IfOk r (λ p. p ≡ new_day now)
prepared_is (Ok p) now outs none is = is ∙ ap (begins_with now) none
prepared_is (Err error) now outs none is = tt
