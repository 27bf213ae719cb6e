-- An out among those that stand in front of some bytes.
use Rattle.std.proofs.Common.{◌≡◌, ℕ, ◌-◌, ◌==◌, Bool, true, false, List, [], ◌∷◌, ◌++◌, length}
use Rattle.std.proofs.Common.{refl, sym, ◌∙◌, ap, subst, arith, append_assoc, Some}
use Rattle.std.specs.Prelude.{◌&&◌}
use Rattle.std.specs.List.{flat_map}
use Rattle.std.specs.declared.option.Option.{Option}
use Rattle.order_meaning.specs.declared.Side.{Side}
use Rattle.pair_entries.specs.declared.entry.Out.{Out}
use Rattle.pair_entries.specs.Payload.{IsOut, AreOuts, out_bytes}
use Rattle.pair_entries.proofs.Same.{same_out}
use Rattle.kept_entries.specs.Numbers.{is_side, outs_to}
use Rattle.kept_entries.specs.Given.{numbered}

module _ (side : Side) (number : ℕ) where
  -- whether it is the out
  abbrev is_one : Out → Bool
  is_one o = is_side side o.side && (o.number == number)

  one_here : (o : Out) (os : List Out)
      → is_one o ≡ true → numbered number (outs_to side (o ∷ os)) ≡ Some o
  one_here o os test = by (is_side side o.side) (o.number == number) refl refl test
    where
      by : (b c : Bool) → is_side side o.side ≡ b → (o.number == number) ≡ c → (b && c) ≡ true
          → numbered number (outs_to side (o ∷ os)) ≡ Some o
      by true true e f is = rw (e, f, outs_to, numbered) refl
      by true false e f is = absurd (cc is)
      by false c e f is = absurd (cc is)

  one_behind : (o : Out) (os : List Out) → is_one o ≡ false
      → numbered number (outs_to side (o ∷ os)) ≡ numbered number (outs_to side os)
  one_behind o os test = by (is_side side o.side) (o.number == number) refl refl test
    where
      by : (b c : Bool) → is_side side o.side ≡ b → (o.number == number) ≡ c → (b && c) ≡ false
          → numbered number (outs_to side (o ∷ os)) ≡ numbered number (outs_to side os)
      by true true e f is = absurd (cc is)
      by true false e f is = rw (e, f, outs_to, numbered) refl
      by false c e f is = rw (e, outs_to) refl

  module _ (count : ℕ) (some : count ≡ 0 → ⊥) (bytes : List ℕ) where
    -- no out stands there
    pub among_none : ((out : Out) (rest : List ℕ) → IsOut out → bytes ≡ out_bytes out ++ rest → ⊥)
        → (outs : List Out) (rest : List ℕ) → AreOuts outs → length outs ≡ count
        → bytes ≡ flat_map out_bytes outs ++ rest → ⊥
    among_none none [] rest are size is = some (sym size)
    among_none none (o ∷ os) rest are size is =
        none o (flat_map out_bytes os ++ rest) are.0
        (is ∙ append_assoc (out_bytes o) (flat_map out_bytes os) rest)

    module _ (said : Out) (after : List ℕ) (reads : bytes ≡ out_bytes said ++ after)
        (sound : IsOut said) where
      -- it is the first of them
      first : (o : Out) (os : List Out) (rest : List ℕ) → AreOuts (o ∷ os)
          → bytes ≡ flat_map out_bytes (o ∷ os) ++ rest
          → (said ≡ o) × (after ≡ flat_map out_bytes os ++ rest)
      first o os rest are is = same_out said o after (flat_map out_bytes os ++ rest) sound are.0
          (sym reads ∙ is ∙ append_assoc (out_bytes o) (flat_map out_bytes os) rest)

      pub among_here : (outs : List Out) (rest : List ℕ) → AreOuts outs → length outs ≡ count
          → bytes ≡ flat_map out_bytes outs ++ rest → is_one said ≡ true
          → Some said ≡ numbered number (outs_to side outs)
      among_here [] rest are size is test = absurd (some (sym size))
      among_here (o ∷ os) rest are size is test =
          let same = (first o os rest are is).0 in
          ap (λ (x : Out). Some x) same
          ∙ sym (one_here o os (subst (λ (x : Out). is_one x ≡ true) same test))

      pub among_behind : (found : Option Out) → ((outs : List Out) (rest : List ℕ) → AreOuts outs
          → length outs ≡ count - 1 → after ≡ flat_map out_bytes outs ++ rest
          → found ≡ numbered number (outs_to side outs))
          → (outs : List Out) (rest : List ℕ) → AreOuts outs → length outs ≡ count
          → bytes ≡ flat_map out_bytes outs ++ rest → is_one said ≡ false
          → found ≡ numbered number (outs_to side outs)
      among_behind found more [] rest are size is test = absurd (some (sym size))
      among_behind found more (o ∷ os) rest are size is test =
          let same = first o os rest are is in
          more os rest are.1 (omega (arith, size)) same.1
          ∙ sym (one_behind o os (subst (λ (x : Out). is_one x ≡ false) same.0 test))
