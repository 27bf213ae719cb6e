use Rattle.std.proofs.Common.{◌≡◌, ◌+◌, ◌-◌, ◌++◌, true, false, codes, length, take, drop, sym, ap}
use Rattle.std.proofs.Common.{◌∙◌, arith}
use Rattle.std.specs.Prelude.{List, ℕ}
use Rattle.std.proofs.lemmas.List.{take_all, length-append, length-drop}
use Rattle.std.proofs.lemmas.Bool.{ne_eqb}
use Rattle.typed_fields.specs.Digits.{has_pattern}
use Rattle.typed_fields.proofs.StampLemmas.{pattern_apart, no_pattern}
use Rattle.typed_fields.proofs.stamp.has_fraction.Goals as goal

pub has_point-requires-clause-len : goal.has_point-requires-clause-len
has_point-requires-clause-len c =
    let bytes = c.args.bytes.now in
    ap length (take_all (length bytes - 17) (drop 17 bytes) (omega (arith, length-drop 17 bytes)))
    ∙ omega (arith, length-drop 17 bytes, c.if-bytes-pattern.true)

pub returns-then-has_seconds : goal.returns-then-has_seconds
returns-then-has_seconds c =
    let bytes = c.args.bytes.now in
    let more = c.args.pattern.now in
    let whole : has_pattern (codes "YYYYMMDD-HH:MM:SS") (take 17 bytes) ≡ true =
    sym c.has_seconds.ensures ∙ c.if-has_seconds.true in
    c.has_point.ensures
    ∙ ap (λ (bs : List ℕ). has_pattern more bs)
    (take_all (length bytes - 17) (drop 17 bytes) (omega (arith, length-drop 17 bytes)))
    ∙ (rw whole at (pattern_apart (codes "YYYYMMDD-HH:MM:SS") more bytes c.if-bytes-pattern.true))

pub returns-else-has_seconds : goal.returns-else-has_seconds
returns-else-has_seconds c =
    let bytes = c.args.bytes.now in
    let whole : has_pattern (codes "YYYYMMDD-HH:MM:SS") (take 17 bytes) ≡ false =
    sym c.has_seconds.ensures ∙ c.if-has_seconds.false in
    c.if-has_seconds.false ∙ (rw whole at (pattern_apart (codes "YYYYMMDD-HH:MM:SS")
    c.args.pattern.now bytes c.if-bytes-pattern.true))

pub returns-else-bytes-pattern : goal.returns-else-bytes-pattern
returns-else-bytes-pattern c =
    let bytes = c.args.bytes.now in
    let more = c.args.pattern.now in
    let other = c.if-bytes-pattern.false in
    ne_eqb (length bytes) (17 + length more) other
    ∙ sym (no_pattern (codes "YYYYMMDD-HH:MM:SS" ++ more) bytes
    (λ e. other (e ∙ length-append (codes "YYYYMMDD-HH:MM:SS") more)))
