-- What is kept of entries, with one more.
use Rattle.std.proofs.Common.{◌≡◌, ℕ, ◌+◌, ◌<◌, ◌^◌, Bool, true, false, List, [], ◌∷◌, ◌++◌}
use Rattle.std.proofs.Common.{length, refl, sym, ◌∙◌, ap, subst, arith, ◌-◌}
use Rattle.std.specs.Prelude.{if◌then◌else◌}
use Rattle.std.specs.declared.option.Option.{Option}
use Rattle.order_meaning.specs.declared.Side.{Side}
use Rattle.pair_entries.specs.declared.entry.Entry.{Entry}
use Rattle.pair_entries.specs.Payload.{IsEntry}
use Rattle.kept_entries.specs.Numbers.{GoesOn, first_numbers, numbers_before, numbers_after}
use Rattle.kept_entries.specs.Entries.{DaysGoOn}
use Rattle.kept_entries.specs.Days.{last_day, past_of, begun_with, day_at, day_after, day_number}
use Rattle.kept_entries.specs.Days.{payload_behind}
use Rattle.kept_entries.specs.Spots.{behind, end_of, at_day}
use Rattle.kept_entries.specs.Sources.{sources_in, sources_to, noted}
use Rattle.kept_entries.specs.State.{KeptState}
use Rattle.kept_entries.specs.declared.spot.Spot.{Spot}
use Rattle.kept_entries.specs.declared.sources.Source.{Source}
use Rattle.kept_entries.proofs.Dating.{DaysGoOn-push, day_number-push, day_at-push, past_more}
use Rattle.kept_entries.proofs.Dating.{past_reset, last_day-push, last_day-reset, few_days}
use Rattle.kept_entries.proofs.Marking.{behind_push, end_push, far_entries}
use Rattle.kept_entries.proofs.Noting.{sources_push}

-- by whether a day begins
by_reset : {A : Type 0} (b c : Bool) (x y z : A) → b ≡ c → (c ≡ true → x ≡ z) → (c ≡ false → y ≡ z)
    → (if b then x else y) ≡ z
by_reset b true x y z is one two = ap (λ (t : Bool). if t then x else y) is ∙ one refl
by_reset b false x y z is one two = ap (λ (t : Bool). if t then x else y) is ∙ two refl

module _ (old more : List Entry) (entry : Entry) (pushed : more ≡ old ++ entry ∷ [])
    (are : DaysGoOn first_numbers old) (is : IsEntry entry)
    (on : GoesOn (numbers_before (numbers_after first_numbers old) entry) entry) where
  with_one : DaysGoOn first_numbers (old ++ entry ∷ [])
  with_one = DaysGoOn-push first_numbers old entry are is on

  pub sound_added : DaysGoOn first_numbers more
  sound_added = subst (DaysGoOn first_numbers) (sym pushed) with_one

  pub day_added : (day next : ℕ) → day ≡ day_number old → next ≡ day_after day entry
      → next ≡ day_number more
  day_added day next on_day step = step ∙ ap (λ n. day_after n entry) on_day
      ∙ sym (day_number-push old entry) ∙ ap day_number (sym pushed)

  pub at_added : (at next : Option ℕ) → at ≡ day_at old → next ≡ begun_with at entry
      → next ≡ day_at more
  at_added at next began step = step ∙ ap (λ (a : Option ℕ). begun_with a entry) began
      ∙ sym (day_at-push old entry) ∙ ap day_at (sym pushed)

  pub begins_added : (begins end next : Spot) → begins ≡ at_day old → end ≡ behind more
      → next ≡ (if entry.reset then end else begins) → next ≡ at_day more
  begins_added begins end next began ends step =
      step ∙ by_reset entry.reset entry.reset end begins (at_day more) refl
      (λ new. ends ∙ ap behind (pushed ∙ sym (past_reset old entry new)
      ∙ ap past_of (sym pushed)))
      (λ same. began ∙ ap behind (sym (past_more old entry are with_one same)
      ∙ ap past_of (sym pushed)))

  pub end_added : (end next : Spot) (len : ℕ) → end ≡ behind old
      → len ≡ length (payload_behind old entry)
      → next ≡ record { index = end.index + 1; place = end.place + 5 + len; next = entry.next }
      → next ≡ behind more
  end_added end next len ends size step =
      step ∙ behind_push old entry end len ends size ∙ ap behind (sym pushed)

  pub short_added : (len : ℕ) → len ≡ length (payload_behind old entry)
      → end_of old + 5 + len < 2 ^ 32 → end_of more < 2 ^ 32
  short_added len size short = omega (arith, size, short, end_push old entry, ap end_of pushed)

  pub sources_added : (side : Side) (list longer : List Source)
      → list ≡ sources_to side (last_day old) → longer ≡ noted side entry list
      → longer ≡ sources_to side (last_day more)
  sources_added side list longer kept step =
      step ∙ by_reset entry.reset entry.reset [] (list ++ sources_in side entry entry.outs)
      (sources_to side (last_day more)) refl
      (λ new. ap (sources_to side) (sym (ap last_day pushed ∙ last_day-reset old entry new)))
      (λ same. ap (λ (l : List Source). l ++ sources_in side entry entry.outs) kept
      ∙ sym (sources_push side (last_day old) entry)
      ∙ ap (sources_to side) (sym (ap last_day pushed ∙ last_day-push old entry same)))

-- the number of a day has 32 bits
pub day_short : (day : ℕ) (entries : List Entry) → day ≡ day_number entries
    → end_of entries < 2 ^ 32 → day + 1 < 2 ^ 32
day_short day entries on_day short =
    omega (arith, on_day, few_days entries, far_entries entries, short)

-- ---- room

spent : (b : Bool) → 0 ≡ (if b then 1 else 0) - 1
spent true = refl
spent false = refl

kept_join : (es es' : List Entry) (s s' : ℕ) → es ≡ es' → s ≡ s' → ◌≡◌ {A = KeptState}
    (record { entries = es; spare = s }) (record { entries = es'; spare = s' })
kept_join es es' s s' he hs = cc

-- what is kept of one entry more, with the room for it gone
pub kept_added : (old more : List Entry) (entry : Entry) (spare : Bool) (now : KeptState)
    → ◌≡◌ {A = KeptState} (record { entries = old; spare = if spare then 1 else 0 }) now
    → more ≡ old ++ entry ∷ [] → ◌≡◌ {A = KeptState} (record { entries = more; spare = 0 })
    (record { entries = now.entries ++ entry ∷ []; spare = now.spare - 1 })
kept_added old more entry spare now seen pushed =
    kept_join more (now.entries ++ entry ∷ []) 0 (now.spare - 1)
    (pushed ∙ ap (λ (k : KeptState). k.entries ++ entry ∷ []) seen)
    (spent spare ∙ ap (λ (k : KeptState). k.spare - 1) seen)
