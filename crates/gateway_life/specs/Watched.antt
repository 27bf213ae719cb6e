-- Own: what the taps saw of a life's entries; docs/DEFINITIONS.md, "Taps and lines".
use Rattle.std.specs.Prelude.{◌≡◌, ℕ, List, [], ◌++◌, IfSome, Result, Ok, Err}
use Rattle.std.specs.declared.option.Option.{Option}
use Rattle.std.specs.Option.{option_to_list}
use Rattle.outside.specs.Disk.{Only}
use Rattle.order_meaning.specs.declared.names.Names.{Names}
use Rattle.pair_entries.specs.declared.entry.Entry.{Entry}
use Rattle.drop_taps.specs.Shown.{TapState, HaveSeen}
use Rattle.gateway_life.specs.declared.end.LifeEnd.{LifeEnd}
use Rattle.gateway_life.specs.declared.end.LifeEnd.TheVariants as ends
use Rattle.gateway_life.specs.Life.{IsJournal, IsForeign, IfRefused}

-- the taps saw what was committed between these lists of entries
pub record Watched {T : Type 0} (state : T → TapState) (old new : List T)
    (before after : List Entry) : Type 0 where
  pub more : List Entry
  pub goes_on : after ≡ before ++ more
  pub seen : HaveSeen state old new more

-- ---- the taps of a life

-- The entries of an image that the disk may leave, where these were known to be committed: they
-- are those. Only a disk fault may leave one behind them, that of the event which ended the life.
abbrev pub WereCommitted : LifeEnd → (known found : List Entry) → Type 0
WereCommitted ends.DiskFault known found =
    (last : Option Entry) × (found ≡ known ++ option_to_list last)
WereCommitted end known found = found ≡ known

-- how a life ended, by what its parts answer
abbrev pub end_in : {V : Type 0} → Result V LifeEnd → LifeEnd
end_in (Ok value) = ends.Done
end_in (Err end) = end

-- THE TAPS OF A LIFE, by its end, over a disk that told these bytes before. They saw some entries;
-- and each image that the disk may leave is the journal of the entries at the beginning and of
-- these: nothing was shown that was not committed, and nothing was committed that was not shown,
-- but for the one entry that a disk fault may leave. Of a disk that was refused, or that is no
-- journal of these names, nothing was shown.
pub record TapsSaw {T : Type 0} (state : T → TapState) (old new : List T) (names : Names)
    (told : Option (List ℕ)) (before after : List ℕ → Type 0) (end : LifeEnd) : Type 0 where
  pub more : List Entry
  pub seen : HaveSeen state old new more
  pub refused : IfSome told (λ bytes. IfRefused end (more ≡ []))
  pub foreign : IfSome told (λ bytes. IsForeign names bytes → more ≡ [])
  pub left : IfSome told (λ bytes. Only bytes before →
      (entries : List Entry) → IsJournal names entries bytes →
      (image : List ℕ) → after image → (found : List Entry) × IsJournal names found image
      × WereCommitted end (entries ++ more) found)
