use Rattle.std.proofs.Common.{subst, sym, take, drop, length}
use Rattle.gate_log.specs.Log.{ReadsPayload}
use Rattle.gate_log.specs.Chunk.{IsFront, BeginsWith}
use Rattle.gate_log.proofs.Told.{if_some, at_some}
use Rattle.gate_log.proofs.Payloads.{begins_front, begins_reads, none_reads}
use Rattle.gate_log.proofs.payload.read_payload.Goals as goal

pub returns-in-Some-clause-payload : goal.returns-in-Some-clause-payload
returns-in-Some-clause-payload g c =
    let told = g.D.Disk.bytes c.args.disk.now in
    let part = c.deref.result.now in
    subst (ReadsPayload told c.args.place) (sym c.cut_head.ensures.items)
    (subst (λ l. ReadsPayload told c.args.place (take c.in-Some.len (drop 5 l)))
    c.deref.ensures.value (begins_reads told c.args.place (take c.in-Some.len (drop 5 part))
    (if_some told _ (λ b e. begins_front (drop c.args.place b) (length part)
    (take c.in-Some.len (drop 5 part)) (subst (λ l. BeginsWith l (take c.in-Some.len (drop 5 part)))
    (subst (λ l. IsFront c.args.place 65541 l b) (sym c.deref.ensures.value)
    (at_some told (λ x. IsFront c.args.place 65541 c.read_front.new.out.items x) b e
    c.in_ok-read_front.ensures.front)).1 c.in-Some.ensures.begins)))))

pub returns-in-None-clause-foreign : goal.returns-in-None-clause-foreign
returns-in-None-clause-foreign g c = λ at e.
    none_reads (g.D.Disk.bytes c.args.disk.now) c.args.place c.read_front.new.out.items
    c.in_ok-read_front.ensures.front (λ payload begins. c.in-None.ensures.begins payload
    (subst (λ l. BeginsWith l payload) (sym c.deref.ensures.value) begins))
