-- Places among the entries of a journal, and the marks behind each 64th.
use Rattle.std.proofs.Common.{◌≡◌, ℕ, zero, suc, ◌+◌, ◌-◌, ◌*◌, ◌<◌, ◌≤◌, Bool, true, false, List}
use Rattle.std.proofs.Common.{[], ◌∷◌, ◌++◌, length, take, drop, slice_index_or, refl, sym, ◌∙◌, ap}
use Rattle.std.proofs.Common.{subst, arith, length-append, leb, leb-true, le-leb}
use Rattle.std.specs.List.{AllWithin}
use Rattle.std.specs.List.Sorted.{IsPartitionedBy}
use Rattle.std.proofs.lemmas.List.{take_all, take_at, length-take-le, length-drop}
use Rattle.order_meaning.specs.declared.Side.{Side}
use Rattle.gate_log.specs.Records.{blocks}
use Rattle.gate_log.proofs.Blocks.{length-blocks-push}
use Rattle.pair_entries.specs.declared.entry.Entry.{Entry}
use Rattle.pair_entries.specs.Payload.{Next, payload_on}
use Rattle.kept_entries.specs.Days.{last_day, past_of, dated, day_after, payload_behind}
use Rattle.kept_entries.specs.Numbers.{next_out, numbers_after, first_numbers}
use Rattle.kept_entries.specs.Entries.{AreEntries, DaysGoOn}
use Rattle.kept_entries.specs.Spots.{end_of, behind, at_day, IsSpot, AreMarks, HoldsOut}
use Rattle.kept_entries.specs.declared.spot.Spot.{Spot}
use Rattle.kept_entries.proofs.Dating.{dated-push, numbers_after-push, numbers_at, past_numbers}
use Rattle.kept_entries.proofs.Dating.{past_short, past-last, last_is_sound}
use Rattle.kept_entries.proofs.Giving.{rises, not_past, first_is_1}

-- ---- where entries end

pub end_push : (entries : List Entry) (entry : Entry)
    → end_of (entries ++ entry ∷ []) ≡ end_of entries + 5 + length (payload_behind entries entry)
end_push entries entry = omega (
  arith,
  ap (λ (l : List (List ℕ)). length (blocks l)) (dated-push entries entry),
  length-blocks-push (dated 0 entries) (payload_behind entries entry),
)

pub far_entries : (entries : List Entry) → length entries + 160 ≤ end_of entries
far_entries entries = omega (arith, few 0 entries)
  where
    few : (day : ℕ) (es : List Entry) → length es ≤ length (blocks (dated day es))
    few day [] = omega arith
    few day (e ∷ es) = omega (
      arith,
      few (day_after day e) es,
      length-append (payload_on (day_after day e) e) (blocks (dated (day_after day e) es)),
    )

pub spot_join : (i i' p p' : ℕ) (n n' : Next) → i ≡ i' → p ≡ p' → n ≡ n' → ◌≡◌ {A = Spot}
    (record { index = i; place = p; next = n }) (record { index = i'; place = p'; next = n' })
spot_join i i' p p' n n' hi hp hn = cc

-- the place behind one entry more
pub behind_push : (entries : List Entry) (entry : Entry) (end : Spot) (len : ℕ)
    → end ≡ behind entries → len ≡ length (payload_behind entries entry)
    → ◌≡◌ {A = Spot}
    (record { index = end.index + 1; place = end.place + 5 + len; next = entry.next })
    (behind (entries ++ entry ∷ []))
behind_push entries entry end len is size = spot_join (end.index + 1)
    (length (entries ++ entry ∷ [])) (end.place + 5 + len) (end_of (entries ++ entry ∷ []))
    entry.next (numbers_after first_numbers (entries ++ entry ∷ []))
    (omega (arith, ap (λ (s : Spot). s.index) is, length-append entries (entry ∷ [])))
    (omega (arith, ap (λ (s : Spot). s.place) is, end_push entries entry, size))
    (sym (numbers_after-push first_numbers entries entry))

-- a place behind a front of the entries
pub spot_of_take : (n : ℕ) (entries : List Entry) (spot : Spot) → spot ≡ behind (take n entries)
    → n ≤ length entries → (spot.index ≡ n) × IsSpot entries spot
spot_of_take n entries spot is most =
    let index : spot.index ≡ n = ap (λ (s : Spot). s.index) is ∙ length-take-le n entries most in (
      index,
      subst (λ (k : ℕ). spot ≡ behind (take k entries)) (sym index) is,
    )

-- ---- numbers rise along the entries

from_front : (side : Side) (before : Next) (entries : List Entry) (n : ℕ)
    → AreEntries before entries
    → next_out side before ≤ next_out side (numbers_after before (take n entries))
from_front side before entries zero are = omega arith
from_front side before [] (suc n) are = omega arith
from_front side before (e ∷ es) (suc n) are =
    omega (arith, rises side before e are.1, from_front side e.next es n are.2)

pub rise_take : (side : Side) (before : Next) (entries : List Entry) (m n : ℕ)
    → AreEntries before entries → m ≤ n → next_out side (numbers_after before (take m entries))
    ≤ next_out side (numbers_after before (take n entries))
rise_take side before entries zero n are most = from_front side before entries n are
rise_take side before [] (suc m) zero are most = absurd (omega (arith, most))
rise_take side before [] (suc m) (suc n) are most = omega arith
rise_take side before (e ∷ es) (suc m) zero are most = absurd (omega (arith, most))
rise_take side before (e ∷ es) (suc m) (suc n) are most =
    rise_take side e.next es m n are.2 (omega (arith, most))

-- ---- one mark more

index_drop : (xs : List Spot) (n i : ℕ) (d : Spot)
    → slice_index_or (drop n xs) i d ≡ slice_index_or xs (n + i) d
index_drop [] zero i d = refl
index_drop [] (suc n) i d = refl
index_drop (x ∷ xs) zero i d =
    let same : i ≡ zero + i = omega arith in ap (λ k. slice_index_or (x ∷ xs) k d) same
index_drop (x ∷ xs) (suc n) i d =
    let same : suc n + i ≡ suc (n + i) = omega arith in
    index_drop xs n i d ∙ ap (λ k. slice_index_or (x ∷ xs) k d) (sym same)

positive : (n : ℕ) → (n ≡ 0 → ⊥) → 1 ≤ n
positive zero none = absurd (none refl)
positive (suc n) none = omega arith

past_take : (entries : List Entry) → DaysGoOn first_numbers entries
    → past_of entries ≡ take (length (past_of entries)) entries
past_take entries sound = sym (ap (take (length (past_of entries))) (sym (past-last entries sound))
    ∙ take_at (past_of entries) (last_day entries) (length (past_of entries)) refl)

-- ---- the mark where a walk begins

module _ (entries : List Entry) (marks : List Spot) (are : AreMarks entries marks) where
  -- numbers rise along the last day
  module _ (sound : DaysGoOn first_numbers entries) (side : Side) where
    abbrev start : ℕ
    start = length (past_of entries)

    pub rise_day : (m n : ℕ) → start ≤ m → m ≤ n
        → next_out side (numbers_after first_numbers (take m entries))
        ≤ next_out side (numbers_after first_numbers (take n entries))
    rise_day m n in_day most = omega (
      arith,
      ap (next_out side) (numbers_at entries sound m in_day),
      ap (next_out side) (numbers_at entries sound n (omega (arith, in_day, most))),
      rise_take side first_numbers (last_day entries) (m - start) (n - start)
          (last_is_sound entries sound) (omega (arith, most)),
    )

    -- the marks from this one on stand within the last day, and the one before does not
    module _ (number before : ℕ) (low : 64 * before ≤ start) (high : start < 64 * before + 64)
        (few : before ≤ length marks) (later : List Spot) (is : later ≡ drop before marks) where
      size : length later ≡ length marks - before
      size = ap length is ∙ length-drop before marks

      later_at : (i : ℕ) (d : Spot) → i < length later → slice_index_or later i d
          ≡ behind (take (64 * (before + i + 1)) entries)
      later_at i d within =
          ap (λ l. slice_index_or l i d) is ∙ index_drop marks before i d
          ∙ are.each (before + i) d (omega (arith, within, size))

      pub parted_marks : IsPartitionedBy (λ (m : Spot). leb (next_out side m.next) number) later
      parted_marks i j d order within test =
          let at_i = ap (λ (s : Spot). next_out side s.next)
          (later_at i d (omega (arith, order, within))) in
          let at_j = ap (λ (s : Spot). next_out side s.next) (later_at j d within) in
          le-leb (next_out side (slice_index_or later i d).next) number (omega (
            arith,
            at_i,
            at_j,
            rise_day (64 * (before + i + 1)) (64 * (before + j + 1)) (omega (arith, high))
                (omega (arith, order)),
            leb-true (next_out side (slice_index_or later j d).next) number test,
          ))

      module _ (above : 1 ≤ number)
          (below : number < next_out side (numbers_after first_numbers entries)) (count : ℕ)
          (most : count ≤ length later)
          (lower : AllWithin (λ (m : Spot). leb (next_out side m.next) number ≡ true)
          later 0 count)
          (higher : AllWithin (λ (m : Spot). leb (next_out side m.next) number ≡ false)
          later count (length later)) where
        -- the number is passed at the next mark, or at the end
        passed_at : (spot : Spot) (n : ℕ) → start ≤ n → 64 * (before + count + 1) ≤ n + 64
            → number < next_out side (numbers_after first_numbers (take (n + 64) entries))
        passed_at spot n in_day near = by (leb (length later) count) refl
          where
            by : (b : Bool) → leb (length later) count ≡ b
                → number < next_out side (numbers_after first_numbers (take (n + 64) entries))
            by true past =
                let size : length entries ≤ n + 64 = omega (
                  arith,
                  are.least,
                  leb-true (length later) count past,
                  size,
                  few,
                  near,
                ) in
                subst (λ (es : List Entry). number < next_out side
                (numbers_after first_numbers es)) (sym (take_all (n + 64) entries size)) below
            by false past =
                let within = not_past (length later) count past in
                let here = higher count spot (omega arith) within in
                omega (
                  arith,
                  not_past (next_out side (slice_index_or later count spot).next)
                      number here,
                  ap (λ (s : Spot). next_out side s.next) (later_at count spot within),
                  rise_day (64 * (before + count + 1)) (n + 64) (omega (arith, high)) near,
                )

        pub holding_day : (spot : Spot) → count ≡ 0 → spot ≡ at_day entries
            → HoldsOut entries side number spot
        holding_day spot none is =
            let at = spot_of_take start entries spot (is ∙ ap behind (past_take entries sound))
            (past_short entries sound) in
            record {
              at = at.1;
              in_day = omega (arith, at.0);
              from = omega (
                arith,
                ap (λ (s : Spot). next_out side s.next) is,
                ap (next_out side) (past_numbers entries sound),
                first_is_1 side,
                above,
              );
              to = subst (λ n. number < next_out side (numbers_after first_numbers
                  (take (n + 64) entries))) (sym at.0)
                  (passed_at spot start (omega arith) (omega (arith, none, low)));
            }

        pub holding_mark : (spot : Spot) → (count ≡ 0 → ⊥)
            → spot ≡ behind (take (64 * (before + count)) entries)
            → HoldsOut entries side number spot
        holding_mark spot some is =
            let at = spot_of_take (64 * (before + count)) entries spot is
            (omega (arith, most, size, are.most)) in
            let one : 1 ≤ count = positive count some in
            let here : slice_index_or later (count - 1) spot ≡ spot =
            later_at (count - 1) spot (omega (arith, one, most))
            ∙ ap (λ n. behind (take (64 * n) entries)) (let e : before + (count - 1) + 1
            ≡ before + count = omega (arith, one) in e) ∙ sym is in
            record {
              at = at.1;
              in_day = omega (arith, at.0, one, high);
              from = leb-true (next_out side spot.next) number
                  (subst (λ (s : Spot). leb (next_out side s.next) number ≡ true) here
                  (lower (count - 1) spot (omega arith) (omega (arith, one))));
              to = subst (λ n. number < next_out side (numbers_after first_numbers
                  (take (n + 64) entries))) (sym at.0)
                  (passed_at spot (64 * (before + count)) (omega (arith, one, high))
                  (omega arith));
            }
