use Rattle.std.proofs.Common.{◌≡◌, ◌∙◌, sym, ap, map, List, ℕ, Bor, true, false}
use Rattle.std.specs.List.{list_all, list_any}
use Rattle.std.specs.Str.{bytes_eq}
use Rattle.std.specs.Map.Iter.{deref}
use Rattle.std.proofs.lemmas.Map.Iter.{rest_more, rest_all}
use Rattle.gateway_config.proofs.Tables.{is_among, left, unknown, only_keys}
use Rattle.gateway_config.proofs.reading.has_only.Goals as goal

pub loop-name-init : goal.loop-name-init
loop-name-init c =
    let known : List (List ℕ) = map {A = Bor (List ℕ)} (λ key. key.now) c.args.known.now in
    ap (list_all (is_among known))
    (c.into_iter-name-iterator.ensures.into_iter_gives ∙ c.keys-name-items.ensures.rest)

pub returns-then-not-is_one_of : goal.returns-then-not-is_one_of
returns-then-not-is_one_of c =
    let known : List (List ℕ) = map {A = Bor (List ℕ)} (λ key. key.now) c.args.known.now in
    let taken = rest_more deref _ _ _ c.in-Some.name c.in-Some.is c.next.ensures.steps in
    let bad : is_among known c.in-Some.name.now ≡ false =
    ap (λ (name : List ℕ). list_any (bytes_eq name) known) (sym c.as_str.ensures.value)
    ∙ sym c.is_one_of.ensures ∙ c.if-not-is_one_of.true in
    sym (unknown known c.in-Some.name.now _ _ taken bad) ∙ c.loop-name.invariant
    ∙ only_keys known c.args.table.now

pub loop-name-preserved : goal.loop-name-preserved
loop-name-preserved c =
    let known : List (List ℕ) = map {A = Bor (List ℕ)} (λ key. key.now) c.args.known.now in
    let taken = rest_more deref _ _ _ c.in-Some.name c.in-Some.is c.next.ensures.steps in
    let good : is_among known c.in-Some.name.now ≡ true =
    ap (λ (name : List ℕ). list_any (bytes_eq name) known) (sym c.as_str.ensures.value)
    ∙ sym c.is_one_of.ensures ∙ c.if-not-is_one_of.false in
    left known c.in-Some.name.now _ _ taken good ∙ c.loop-name.invariant

pub returns : goal.returns
returns c =
    let known : List (List ℕ) = map {A = Bor (List ℕ)} (λ key. key.now) c.args.known.now in
    let none = rest_all deref _ _ _ c.in-None.is c.next.ensures.steps in
    sym (ap (list_all (is_among known)) none) ∙ c.loop-name.invariant
    ∙ only_keys known c.args.table.now
