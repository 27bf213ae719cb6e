use Rattle.std.proofs.Common.{arith}
use Rattle.std.proofs.lemmas.Fmt.{length-decimal-le}
use Rattle.frame_grammar.proofs.write.append_front.Goals as goal

pub write_digits-digits-requires : goal.write_digits-digits-requires
write_digits-digits-requires c =
    let small = length-decimal-le 4 c.args.len (omega arith) (omega (arith, c.requires))
    (omega (arith, c.requires)) in
    (omega (arith, small), omega arith)

pub put_opening-start-requires-clause-room : goal.put_opening-start-requires-clause-room
put_opening-start-requires-clause-room c =
    let small = length-decimal-le 4 c.args.len (omega arith) (omega (arith, c.requires))
    (omega (arith, c.requires)) in
    omega (arith, small, c.write_digits-digits.ensures.start)
