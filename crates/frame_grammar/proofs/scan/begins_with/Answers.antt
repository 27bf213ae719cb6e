use Rattle.std.proofs.Common.{◌≡◌, ◌∙◌, nat_le, false, length, sym, arith}
use Rattle.std.proofs.lemmas.Bool.Decides.{nat_tests}
use Rattle.frame_grammar.proofs.Scanned.{too_short}
use Rattle.frame_grammar.proofs.scan.begins_with.Goals as goal

pub returns-else-bytes-text : goal.returns-else-bytes-text
returns-else-bytes-text c =
    let less = c.if-bytes-text.false in
    let no : nat_le (length c.args.text.now) (length c.args.bytes.now) ≡ false =
    grind (arith, nat_tests, less) in
    no ∙ sym (too_short c.args.text.now c.args.bytes.now less)
