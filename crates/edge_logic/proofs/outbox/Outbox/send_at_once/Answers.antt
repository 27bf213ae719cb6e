use Rattle.edge_logic.proofs.Kept.{front_of_more, front_failed, front_next, sent_next}
use Rattle.edge_logic.proofs.Kept.{since_at_once, cause_at_once}
use Rattle.edge_logic.proofs.outbox.Outbox.send_at_once.Goals as goal

pub returns-in_err-flush-clause-front : goal.returns-in_err-flush-clause-front
returns-in_err-flush-clause-front g c =
    front_of_more (g.W.Write.contents c.args.out.now) (g.W.Write.contents c.flush.new.out)
    c.args.self.now.bytes c.args.piece.now c.flush.ensures.front

pub returns-in_err-count-clause-front : goal.returns-in_err-count-clause-front
returns-in_err-count-clause-front g c =
    front_failed (g.W.Write.contents c.args.out.now) (g.W.Write.contents c.flush.new.out)
    (g.W.Write.contents c.write_next.new.out) c.args.self.now.bytes c.args.piece.now
    c.flush.ensures.front c.in_err-count.ensures.bytes

pub returns-clause-sent : goal.returns-clause-sent
returns-clause-sent g c =
    sent_next c.keep.result (g.W.Write.contents c.args.out.now)
    (g.W.Write.contents c.flush.new.out) (g.W.Write.contents c.write_next.new.out)
    c.args.self.now.bytes c.flush.new.self.bytes c.keep.new.self.bytes c.args.piece.now
    c.rest_of.result.now c.in_ok-count.count c.flush.ensures.whole
    c.in_ok-count.ensures.bytes c.in_ok-count.ensures.behind c.keep.ensures.kept
    c.rest_of.ensures

pub returns-clause-front : goal.returns-clause-front
returns-clause-front g c =
    front_next (g.W.Write.contents c.args.out.now) (g.W.Write.contents c.flush.new.out)
    (g.W.Write.contents c.write_next.new.out) c.args.self.now.bytes
    c.flush.new.self.bytes c.args.piece.now c.in_ok-count.count c.flush.ensures.front
    c.flush.ensures.whole c.in_ok-count.ensures.bytes c.in_ok-count.ensures.behind

pub returns-clause-cause : goal.returns-clause-cause
returns-clause-cause g c =
    cause_at_once c.keep.result c.args.self.now.bytes c.flush.new.self.bytes
    c.rest_of.result.now c.args.piece.now c.in_ok-count.count c.flush.ensures.less
    c.rest_of.ensures c.keep.ensures.cause

pub returns-clause-since : goal.returns-clause-since
returns-clause-since g c =
    since_at_once c.keep.result c.args.self.now.bytes c.flush.new.self.bytes
    c.keep.new.self.bytes c.rest_of.result.now c.args.piece.now c.in_ok-count.count
    c.args.self.now.since c.flush.new.self.since c.keep.new.self.since c.args.now
    c.flush.ensures.less c.flush.ensures.since c.in_ok-count.ensures.behind
    c.keep.ensures.since c.keep.ensures.began c.keep.ensures.kept c.rest_of.ensures
