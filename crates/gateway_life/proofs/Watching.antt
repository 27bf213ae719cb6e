-- What the taps saw between lists of entries, and what a disk may hold behind it.
use Rattle.std.proofs.Common.{◌≡◌, List, ◌++◌, sym, ◌∙◌, ap, subst, append_assoc, [], ℕ, append-nil}
use Rattle.std.proofs.Common.{Some, None, inl, inr}
use Rattle.std.specs.declared.option.Option.{Option}
use Rattle.std.specs.Option.{option_to_list}
use Rattle.order_meaning.specs.declared.names.Names.{Names}
use Rattle.pair_entries.specs.declared.entry.Entry.{Entry}
use Rattle.drop_taps.specs.Shown.{TapState}
use Rattle.drop_taps.proofs.Showing.{seen_none, seen_append}
use Rattle.event_decisions.specs.Event.{Event}
use Rattle.life_laws.specs.Happens.{World}
use Rattle.gateway_config.specs.declared.config.Config.{Config}
use Rattle.gateway_life.specs.declared.end.LifeEnd.{LifeEnd}
use Rattle.gateway_life.specs.declared.end.LifeEnd.TheVariants as ends
use Rattle.gateway_life.specs.Ready.{LeavesOf, Behind}
use Rattle.gateway_life.specs.Stepped.{MayStand}
use Rattle.gateway_life.specs.Watched.{Watched, WereCommitted}
use Rattle.gateway_life.proofs.Telling.{leaves_map}

module _ {T : Type 0} (state : T → TapState) where
  pub watched_none : (taps : List T) (xs ys : List Entry) → ys ≡ xs
      → Watched state taps taps xs ys
  watched_none taps xs ys same =
      record { more = []; goes_on = same ∙ sym (append-nil xs); seen = seen_none state taps }

  pub watched_append : (olds mids news : List T) (xs ys zs : List Entry)
      → Watched state olds mids xs ys → Watched state mids news ys zs
      → Watched state olds news xs zs
  watched_append olds mids news xs ys zs one two = record {
    more = one.more ++ two.more;
    goes_on = two.goes_on ∙ ap (λ l. l ++ two.more) one.goes_on
        ∙ append_assoc xs one.more two.more;
    seen = seen_append state olds mids news one.more two.more one.seen two.seen;
  }

-- ---- what a disk may hold after an error

pub were_same : (end : LifeEnd) (kept found : List Entry) → found ≡ kept
    → WereCommitted end kept found
were_same ends.DiskFault kept found is = (None, is ∙ sym (append-nil kept))
were_same end kept found is = is

-- of the last day
may_were : (end : LifeEnd) (config : Config) (before : World) (event : Event) (now : ℕ)
    (found : List Entry) → MayStand end config before event now found
    → WereCommitted end before.entries found
may_were ends.DiskFault config before event now found (inl same) =
    (None, same ∙ sym (append-nil before.entries))
may_were ends.DiskFault config before event now found (inr made) = (made.0.entry, made.2)
may_were end config before event now found same = same

-- and of all
were_behind : (end : LifeEnd) (past today found : List Entry) → WereCommitted end today found
    → WereCommitted end (past ++ today) (past ++ found)
were_behind ends.DiskFault past today found were =
    (were.0, ap (λ l. past ++ l) were.1 ∙ sym (append_assoc past today (option_to_list were.0)))
were_behind end past today found were = ap (λ l. past ++ l) were

-- an event that was refused
pub made_left : (error : LifeEnd) (told : Option (List ℕ)) (i0 i1 : List ℕ → Type 0)
    (config : Config) (past : List Entry) (before : World) (event : Event) (now : ℕ)
    (kept : List Entry) → past ++ before.entries ≡ kept
    → LeavesOf told i0 i1 config.names (Behind past (MayStand error config before event now))
    → LeavesOf told i0 i1 config.names (WereCommitted error kept)
made_left error told i0 i1 config past before event now kept same =
    leaves_map told i0 i1 config.names (Behind past (MayStand error config before event now))
    (WereCommitted error kept) (λ xs h. subst (λ l. WereCommitted error kept l) (sym h.1)
    (subst (λ l. WereCommitted error l (past ++ h.0)) same
    (were_behind error past before.entries h.0
    (may_were error config before event now h.0 h.2))))

-- one whose messages could not all be read
pub act_left : (end : LifeEnd) (told : Option (List ℕ)) (i0 i1 i2 : List ℕ → Type 0)
    (names : Names) (entries kept : List Entry) → kept ≡ entries
    → ((bytes : List ℕ) → i2 bytes → i1 bytes)
    → LeavesOf told i0 i1 names (λ found. found ≡ entries)
    → LeavesOf told i0 i2 names (WereCommitted end kept)
act_left end None i0 i1 i2 names entries kept same among left = tt
act_left end (Some b) i0 i1 i2 names entries kept same among left = λ only bytes here.
    let found = left only bytes (among bytes here) in
    (found.0, found.1, were_same end kept found.0 (found.2 ∙ sym same))
