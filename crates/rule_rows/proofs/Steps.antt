-- Rules of the code, one after the other: what they write, and the first tag that is lacking.
use Rattle.std.proofs.Common.{◌≡◌, ◌<◌, ◌≤◌, ◌-◌, ℕ, List, [], ◌∷◌, ◌++◌, Option, None, arith}
use Rattle.std.proofs.Common.{append_assoc, ap, drop, get_or, length, sym, take, ◌∙◌}
use Rattle.std.proofs.lemmas.List.{take_all}
use Rattle.std.specs.List.{flat_map}
use Rattle.field_groups.specs.Field.{Field, body_of}
use Rattle.message_tables.specs.Tables.{first_of, or_else}
use Rattle.order_meaning.specs.declared.fault.Lack.{Lack}
use Rattle.order_meaning.specs.declared.fault.Lack.TheVariants as faults
use Rattle.row_values.proofs.Contents.{body-append}
use Rattle.rule_rows.specs.CodeRules.{IsLackOf}

-- behind the last rule, all lack what no rule does
pub none_left : {Rule : Type 0} (lack : Rule → Option ℕ) (rest : List Rule) (all : Option ℕ)
    → length rest < 1 → first_of lack rest ≡ all → all ≡ None
unfolding first_of
none_left lack [] all short so_far = sym so_far
none_left lack (rule ∷ rest) all short so_far = absurd (omega (arith, short))

module _ {Rule : Type 0} (rest : List Rule) (rule : Rule) (some : 1 ≤ length rest)
    (is : rule ≡ get_or rest 0 rule) where
  -- the rules behind the first
  abbrev pub more : List Rule
  more = take (length rest - 1) (drop 1 rest)

  cut : rule ∷ more ≡ rest
  cut = by rest some is
    where
      by : (rest : List Rule) → 1 ≤ length rest → rule ≡ get_or rest 0 rule
          → rule ∷ take (length rest - 1) (drop 1 rest) ≡ rest
      by [] some is = absurd (omega (arith, some))
      by (first ∷ others) some is =
          let all : take (length (first ∷ others) - 1) others ≡ others =
          take_all (length (first ∷ others) - 1) others (omega arith) in
          λ i. is i ∷ all i

  -- one rule more is written
  pub next_written : (writes : Rule → List Field) (all mid new : List ℕ)
      → mid ++ body_of (flat_map writes rest) ≡ all → new ≡ mid ++ body_of (writes rule)
      → new ++ body_of (flat_map writes more) ≡ all
  next_written writes all mid new so_far put =
      ap (λ (l : List ℕ). l ++ body_of (flat_map writes more)) put
      ∙ append_assoc mid (body_of (writes rule)) (body_of (flat_map writes more))
      ∙ ap (λ (l : List ℕ). mid ++ l) (sym (body-append (writes rule) (flat_map writes more)))
      ∙ ap (λ (rules : List Rule). mid ++ body_of (flat_map writes rules)) cut ∙ so_far

  module _ (lack : Rule → Option ℕ) (all : Option ℕ) (so_far : first_of lack rest ≡ all) where
    -- a rule that lacks nothing
    pub next_said : lack rule ≡ None → first_of lack more ≡ all
    unfolding first_of
    next_said none = ap (λ (o : Option ℕ). or_else o (first_of lack more)) (sym none)
        ∙ ap (first_of lack) cut ∙ so_far

    -- the lack of the first that has one is that of all
    pub lack_found : (e : Lack) → IsLackOf (lack rule) e → IsLackOf all e
    unfolding first_of
    lack_found faults.NoMemory lacking = tt
    lack_found (faults.Tag tag) lacking = sym so_far ∙ ap (first_of lack) (sym cut)
        ∙ ap (λ (o : Option ℕ). or_else o (first_of lack more)) lacking
