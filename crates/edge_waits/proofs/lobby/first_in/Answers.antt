use Rattle.std.proofs.Common.{[], take, ap, ◌∙◌}
use Rattle.frame_grammar.specs.declared.buffer.TheConstants.{CAPACITY}
use Rattle.edge_waits.proofs.Pieces.{all_fed, told_frame, told_garbled, told_more}
use Rattle.edge_waits.proofs.lobby.first_in.Goals as goal

pub returns-in-Frame-clause-first : goal.returns-in-Frame-clause-first
returns-in-Frame-clause-first c =
    c.first_by.ensures
    ∙ told_frame c.next.new.self c.args.framer.now.kind (take CAPACITY c.args.bytes.now)
    (take c.feed.result c.args.bytes.now) c.part.result.now c.next.result c.in-Frame.at
    c.in-Frame.len c.in-Frame.body
    (all_fed c.args.bytes.now c.feed.result c.restart.new.self c.args.framer.now.kind
    c.restart.ensures.fresh c.feed.ensures.taken)
    (c.next.ensures.kind ∙ ap (λ h. h.kind) c.feed.ensures.same
    ∙ ap (λ h. h.kind) c.restart.ensures.fresh)
    (c.next.ensures.answers (take c.feed.result c.args.bytes.now) []
    (c.feed.ensures.stands [] [] c.restart.ensures.stands))
    c.in-Frame.is c.part.ensures

pub returns-in-Garbled-clause-first : goal.returns-in-Garbled-clause-first
returns-in-Garbled-clause-first c =
    told_garbled c.next.new.self c.args.framer.now.kind (take CAPACITY c.args.bytes.now)
    (take c.feed.result c.args.bytes.now) c.next.result c.in-Garbled.at c.in-Garbled.len
    c.in-Garbled.cause
    (all_fed c.args.bytes.now c.feed.result c.restart.new.self c.args.framer.now.kind
    c.restart.ensures.fresh c.feed.ensures.taken)
    (c.next.ensures.kind ∙ ap (λ h. h.kind) c.feed.ensures.same
    ∙ ap (λ h. h.kind) c.restart.ensures.fresh)
    (c.next.ensures.answers (take c.feed.result c.args.bytes.now) []
    (c.feed.ensures.stands [] [] c.restart.ensures.stands))
    c.in-Garbled.is

pub returns-in-More-clause-first : goal.returns-in-More-clause-first
returns-in-More-clause-first c =
    c.first_left.ensures
    ∙ told_more c.next.new.self c.args.framer.now.kind (take CAPACITY c.args.bytes.now)
    (take c.feed.result c.args.bytes.now) c.next.result c.finish.result
    (all_fed c.args.bytes.now c.feed.result c.restart.new.self c.args.framer.now.kind
    c.restart.ensures.fresh c.feed.ensures.taken)
    (c.next.ensures.kind ∙ ap (λ h. h.kind) c.feed.ensures.same
    ∙ ap (λ h. h.kind) c.restart.ensures.fresh)
    (c.next.ensures.answers (take c.feed.result c.args.bytes.now) []
    (c.feed.ensures.stands [] [] c.restart.ensures.stands))
    c.in-More.is c.finish.ensures
