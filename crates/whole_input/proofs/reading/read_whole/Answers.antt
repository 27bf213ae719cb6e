use Rattle.std.proofs.Common.{rules, ◌≡◌, ℕ, ◌+◌, ◌≤◌, List, ◌++◌, take, length, arith}
use Rattle.std.proofs.Common.{length-take, length-append}
use Rattle.std.proofs.KnownBytes.{Consumes-trans}
use Rattle.whole_input.specs.declared.reading.TheConstants.{MAX_INPUT}
use Rattle.whole_input.specs.Input.{IsWhole}
use Rattle.whole_input.proofs.reading.read_whole.Goals as goal

-- bytes, and so many more of a buffer that has them
length_more : (bytes buf : List ℕ) (n : ℕ) → n ≤ length buf
    → length (bytes ++ take n buf) ≡ length bytes + n
length_more bytes buf n within =
    omega (arith, length-append bytes (take n buf), length-take n buf)

pub returns-in-Ok-clause-read : goal.returns-in-Ok-clause-read
returns-in-Ok-clause-read g c =
    let count = c.in-Ok.count in (
      c.loop-bytes.bytes.items ++ take count c.read_some.new.buf,
      Consumes-trans _ _ _ _ _ c.loop-bytes.invariant.taken c.in-Ok.ensures.bytes,
      omega (
        arith,
        c.in-Ok.ensures.bound,
        c.clamp.ensures,
        c.len-room.ensures,
        c.if-count-room.true,
        c.loop-bytes.invariant.limit,
        c.loop-bytes.invariant.buf,
        length_more c.loop-bytes.bytes.items c.read_some.new.buf count
            (omega (
              arith,
              c.in-Ok.ensures.bound,
              c.clamp.ensures,
              c.len-room.ensures,
              c.if-count-room.true,
              c.loop-bytes.invariant.limit,
              c.loop-bytes.invariant.buf,
              c.read_some.auto.buf,
            )),
      ),
    )

pub returns-in_err-extend_from_slice-in-Ok-2-clause-read :
    goal.returns-in_err-extend_from_slice-in-Ok-2-clause-read
returns-in_err-extend_from_slice-in-Ok-2-clause-read g c =
    let count = c.in-Ok-2.count in
    let taken = c.loop-bytes.bytes.items ++ take count c.read_some.new.buf in
    let most : length taken ≤ MAX_INPUT =
    omega (
      arith,
      c.in-Ok-2.ensures.bound,
      c.clamp.ensures,
      c.len-room.ensures,
      c.if-count-room.false,
      c.loop-bytes.invariant.limit,
      c.loop-bytes.invariant.buf,
      length_more c.loop-bytes.bytes.items c.read_some.new.buf count
          (omega (
            arith,
            c.in-Ok-2.ensures.bound,
            c.clamp.ensures,
            c.len-room.ensures,
            c.if-count-room.false,
            c.loop-bytes.invariant.limit,
            c.loop-bytes.invariant.buf,
            c.read_some.auto.buf,
          )),
    ) in (
      taken,
      Consumes-trans _ _ _ _ _ c.loop-bytes.invariant.taken c.in-Ok-2.ensures.bytes,
      search (rules, most),
    )
