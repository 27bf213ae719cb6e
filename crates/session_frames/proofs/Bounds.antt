-- How many bytes what stands in a header has, and how its fields are joined.
use Rattle.std.proofs.Common.{◌≡◌, ℕ, ◌^◌, ◌<◌, ◌≤◌, length, arith, List, ◌++◌, ap, sym, ◌∙◌}
use Rattle.std.proofs.lemmas.Grind.{flat_map-append}
use Rattle.field_groups.specs.Field.{Field, body_of, field_bytes}
use Rattle.std.specs.Fmt.{decimal}
use Rattle.std.proofs.lemmas.Fmt.{length-decimal-le}
use Rattle.frame_grammar.specs.declared.frame.Kind.{Kind}
use Rattle.frame_grammar.specs.declared.frame.Kind.TheVariants.{Fix42, Fix44, Fixt11}
use Rattle.frame_grammar.specs.Frame.{begin_string}

pub digits_short : (n : ℕ) → n < 2 ^ 32 → length (decimal n) ≤ 10
digits_short n lt = length-decimal-le 10 n (omega arith) (omega (arith, lt)) (omega (arith, lt))

pub begin_short : (kind : Kind) → length (begin_string kind) ≤ 11
begin_short Fix42 = omega arith
begin_short Fix44 = omega arith
begin_short Fixt11 = omega arith

-- fields are written behind others
pub more_fields : (old new : List ℕ) (xs ys : List Field)
    → old ≡ body_of xs → new ≡ old ++ body_of ys → new ≡ body_of (xs ++ ys)
more_fields old new xs ys before added =
    added ∙ ap (λ (l : List ℕ). l ++ body_of ys) before ∙ sym (flat_map-append field_bytes xs ys)
