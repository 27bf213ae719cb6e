-- Own: taps that are shown entries; docs/DEFINITIONS.md, "Taps and lines".
use Rattle.std.specs.Prelude.{◌≡◌, Bool, true, false, List, [], ◌∷◌, ◌++◌, ⊤, Ok}
use Rattle.std.specs.declared.option.Option.{Option}
use Rattle.std.specs.Option.{option_map, ForSome}
use Rattle.pair_entries.specs.declared.entry.Entry.{Entry}
use Rattle.drop_taps.specs.declared.tap.Seen.{Seen}
use Rattle.drop_taps.specs.Tap.{tally_after}

-- ---- one tap

-- what a tap says of itself: whether it has failed, the entries that it saw, what it counted,
-- whether it counts more than entries, and the entry at which it failed
pub record TapState : Type 0 where
  pub failed : Bool
  pub told : Option (List Entry)
  pub tally : Seen
  pub counts_all : Bool
  pub refused : Option Entry

-- the same, by the five members of the trait
abbrev pub state_by : {T : Type 0} → (T → Bool) → (T → Option (List Entry)) → (T → Seen)
    → (T → Bool) → (T → Option Entry) → T → TapState
state_by failed told tally counts_all refused tap = record {
  failed = failed tap;
  told = told tap;
  tally = tally tap;
  counts_all = counts_all tap;
  refused = refused tap;
}

-- what is counted after these entries
abbrev pub tallied : Bool → List Entry → Seen → Seen
tallied counts_all [] tally = tally
tallied counts_all (entry ∷ entries) tally =
    tallied counts_all entries (tally_after {T = ⊤} {E = ⊤} counts_all (Ok tt) entry tally)

-- A TAP THAT IS SHOWN ENTRIES. One that had failed is as it was. Any other saw them in order,
-- behind what it had seen: all of them, unless it failed; then those before the one at which it
-- failed, which it was shown too, and no more.
pub record Saw {T : Type 0} (state : T → TapState) (old new : T) (entries : List Entry)
    : Type 0 where
  pub passed : (state old).failed ≡ true → new ≡ old
  pub front : List Entry
  pub rest : List Entry
  pub joined : front ++ rest ≡ entries
  pub told : (state old).failed ≡ false
      → (state new).told ≡ option_map (λ seen. seen ++ front) (state old).told
  pub tally : (state old).failed ≡ false
      → (state new).tally ≡ tallied (state old).counts_all front (state old).tally
  pub counts : (state new).counts_all ≡ (state old).counts_all
  pub all : (state new).failed ≡ false → rest ≡ []
  pub fails : (state old).failed ≡ false → (state new).failed ≡ true
      → (entry : Entry) × (later : List Entry) × (rest ≡ entry ∷ later)
      × ForSome (state new).refused (λ e. e ≡ entry)

-- ---- all taps

-- each of them, one by one: none is taken out, added or moved
abbrev pub HaveSeen : {T : Type 0} → (state : T → TapState) → (old new : List T) → List Entry
    → Type 0
HaveSeen state [] [] entries = ⊤
HaveSeen state (a ∷ old) (b ∷ new) entries = Saw state a b entries × HaveSeen state old new entries
HaveSeen state old new entries = ⊥
