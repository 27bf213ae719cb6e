use Rattle.std.proofs.Common.{arith}
use Rattle.typed_fields.specs.Dec.{read_dec}
use Rattle.row_values.proofs.Contents.{dec_ended}
use Rattle.row_values.proofs.writing.push_dec.Goals as goal

pub returns : goal.returns
returns c = dec_ended c.args.tag c.len-start.result (read_dec c.args.value.now)
    c.args.out.now.items c.push_tag.new.out.items c.end_dec.new.out.items
    (omega (arith, c.len-start.ensures, c.args.out.now.ok.0)) c.push_tag.ensures.items
    c.end_dec.ensures.ok c.end_dec.ensures.err
