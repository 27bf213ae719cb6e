use Rattle.frame_grammar.proofs.Written.{frame_is}
use Rattle.frame_grammar.specs.Frame.{frame_of}
use Rattle.frame_grammar.proofs.Begins.{found_frame}
use Rattle.frame_grammar.proofs.write.write_frame.Goals as goal

pub returns-clause-frame : goal.returns-clause-frame
returns-clause-frame c = frame_is c.args.kind c.args.body.now c.requires c.if-body-gt-MAX_BODY.false

pub returns-clause-found : goal.returns-clause-found
returns-clause-found c =
    λ after. found_frame c.args.kind c.args.body.now (frame_of c.args.kind c.args.body.now)
    after (frame_is c.args.kind c.args.body.now c.requires c.if-body-gt-MAX_BODY.false)
