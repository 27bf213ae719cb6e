use Rattle.std.proofs.Common.{◌≡◌, List, ℕ, ◌-◌, ◌++◌, ◌∷◌, [], ap, ◌∙◌, length, take, drop}
use Rattle.std.proofs.Common.{rules, arith}
use Rattle.std.proofs.lemmas.List.{length-drop}
use Rattle.typed_fields.specs.Dec.{with_point}
use Rattle.typed_fields.proofs.DecLaws.{trails_kept, point_pushed, rest_of}
use Rattle.typed_fields.proofs.dec.push_point.Goals as goal

pub returns-clause-trail : goal.returns-clause-trail
returns-clause-trail c =
    trails_kept c.args.bytes.now c.push_front-places.result
    (omega (arith, c.if-places-eq0.false)) (omega (arith, c.if-bytes-places.false))
    c.if-bytes-places-eq48.false

pub returns-clause-items : goal.returns-clause-items
returns-clause-items c =
    let bytes = c.args.bytes.now in
    let old = c.args.out.now.items in
    let places = c.push_front-places.result in
    let point : bytes ≡ with_point (drop 1 bytes) = search rules in
    point_pushed old bytes (drop 1 bytes) c.push_front-places.new.out.items places point
    (omega (arith, c.if-places-eq0.false)) (omega (arith, c.if-bytes-places.false, length-drop 1 bytes))
    (c.push_front-places.ensures.items
    ∙ ap (λ (l : List ℕ). l ++ take places (take (length bytes - 1) (drop 1 bytes)))
    c.push_reserved.ensures.items
    ∙ ap (λ (l : List ℕ). (old ++ 46 ∷ []) ++ take places l) (rest_of bytes 1))
