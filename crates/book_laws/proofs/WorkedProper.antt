-- Days that are proper and days that are not, worked through, with `|` for SOH.
use Rattle.std.proofs.Common.{◌≡◌, ℕ, ◌≤◌, List, [], ◌∷◌, codes, Some, refl, sym, subst}
use Rattle.std.proofs.Common.{inl, inr, arith, false}
use Rattle.order_meaning.specs.declared.Side.TheVariants.{Client}
use Rattle.field_groups.specs.Data.{is_data_pair}
use Rattle.field_groups.specs.Fields.{has_tag, is_tag_good}
use Rattle.field_groups.specs.HeadValues.{number_in}
use Rattle.typed_fields.specs.Digits.{are_digits, number_of}
use Rattle.pair_entries.specs.declared.entry.Entry.{Entry}
use Rattle.kept_entries.specs.Numbers.{Counts, GoesOn, Resets, Taking, Takes}
use Rattle.event_decisions.specs.Body.{reading_of}
use Rattle.event_decisions.specs.Laws.{taking_of}
use Rattle.book_laws.proofs.WorkedHeard.{soh}
use Rattle.book_laws.specs.Proper.{Proper}

-- a message of the client was taken under a number, and this one is expected next
abbrev taken : List ℕ → ℕ → ℕ → Entry
taken raw number next = record {
  at = 0;
  reset = false;
  took = Some (record { side = Client; number = number; raw = raw });
  next = (next, 1, 1, 1);
  outs = [];
}

goes : (before : ℕ) (raw : List ℕ) (number next : ℕ)
    → GoesOn (before, 1, 1, 1) (taken raw number next)
goes before raw number next = record {
  client_out = record { numbered = tt; next = refl };
  venue_out = record { numbered = tt; next = refl };
  client_in = tt;
  venue_in = refl;
}

abbrev order : List ℕ
order = soh (codes "35=D|11=A|")

-- a SequenceReset without GapFillFlag, to 3
abbrev to_three : List ℕ
to_three = soh (codes "35=4|36=3|")

order_counts : taking_of Client order ≡ Counts
unfolding reading_of is_data_pair has_tag is_tag_good number_in are_digits number_of
order_counts = refl

three_resets : taking_of Client to_three ≡ Resets 3
unfolding reading_of is_data_pair has_tag is_tag_good number_in are_digits number_of
three_resets = refl

pub record Days : Type 0 where
  pub worked_orders : Proper (taken order 1 2 ∷ taken order 2 3 ∷ [])
  -- a number is missing
  pub worked_gap : Proper (taken order 1 2 ∷ taken order 3 4 ∷ []) → ⊥
  -- a reset has any number, and raises the one that is expected
  pub worked_reset : Proper (taken to_three 9 3 ∷ taken order 3 4 ∷ [])
  pub worked_lower : Proper (taken to_three 9 3 ∷ taken order 3 4 ∷ taken to_three 4 3 ∷ []) → ⊥

by_counts : (number before after : ℕ) → Takes (taking_of Client order) number before after
    → number ≡ before
by_counts number before after takes =
    (subst (λ (t : Taking). Takes t number before after) order_counts takes).0

by_reset : (number before after : ℕ) → Takes (taking_of Client to_three) number before after
    → before ≤ 3
by_reset number before after takes =
    (subst (λ (t : Taking). Takes t number before after) three_resets takes).1

pub worked_days : Days
worked_days = record {
  worked_orders = (goes 1 order 1 2, inr (refl, refl), (goes 2 order 2 3, inr (refl, refl), tt));
  worked_gap = λ p. elim p.2.1 [
    | inl takes ↦ absurd (omega (arith, by_counts 3 2 4 takes))
    | inr counted ↦ absurd (omega (arith, counted.0))
  ];
  worked_reset = (
    goes 1 to_three 9 3,
    inl (subst (λ (t : Taking). Takes t 9 1 3) (sym three_resets) (refl, omega arith)),
    (goes 3 order 3 4, inr (refl, refl), tt),
  );
  worked_lower = λ p. elim p.2.2.1 [
    | inl takes ↦ absurd (omega (arith, by_reset 4 4 3 takes))
    | inr counted ↦ absurd (omega (arith, counted.1))
  ];
}
