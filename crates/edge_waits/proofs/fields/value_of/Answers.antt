use Rattle.std.proofs.Common.{◌≡◌, ℕ, ◌+◌, List, ◌∙◌, sym, ap, slice_range, drop, arith, Bor}
use Rattle.std.proofs.lemmas.Bool.{ne_eqb}
use Rattle.edge_waits.specs.Fields.{value_behind}
use Rattle.edge_waits.proofs.Search.{next_field, next_byte}
use Rattle.edge_waits.proofs.fields.value_of.Goals as goal
use Rattle.edge_waits.proofs.fields.value_of.Goals.{
  then-bytes-at-eq-SOH+else-is_some,
  else-bytes-at-eq-SOH,
}

-- what is left to search, by where the field began
begun : (name bytes : List ℕ) (at start now : ℕ) → now ≡ start
    → value_behind name (slice_range bytes now at) (drop at bytes)
    ≡ value_behind name (slice_range bytes start at) (drop at bytes)
begun name bytes at start now is =
    ap (λ (s : ℕ). value_behind name (slice_range bytes s at) (drop at bytes)) is

pub loop-at-preserved : goal.loop-at-preserved
loop-at-preserved c =
    let name = c.args.name.now in
    let bytes = c.args.bytes.now in
    let at = c.loop-at.at in
    elim c.if-bytes-at-eq-SOH.branch [
      | then-bytes-at-eq-SOH+else-is_some w ↦ record {
        start = omega (arith, w.start-is);
        value = begun name bytes (at + 1) (at + 1) c.if-bytes-at-eq-SOH.start w.start-is
            ∙ sym (next_field (λ (v : Bor (List ℕ)). v.now) w.value_at-value.result name bytes
            c.loop-at.start at c.loop-at-test.true w.if-bytes-at-eq-SOH.true
            w.value_at-value.ensures (sym w.is_some.ensures ∙ w.if-is_some.false))
            ∙ c.loop-at.invariant.value;
      }
      | else-bytes-at-eq-SOH w ↦ record {
        start = omega (arith, w.start-is, c.loop-at.invariant.start);
        value = begun name bytes (at + 1) c.loop-at.start c.if-bytes-at-eq-SOH.start w.start-is
            ∙ sym (next_byte name bytes c.loop-at.start at c.loop-at.invariant.start
            c.loop-at-test.true (ne_eqb _ _ w.if-bytes-at-eq-SOH.false))
            ∙ c.loop-at.invariant.value;
      }
    ]
