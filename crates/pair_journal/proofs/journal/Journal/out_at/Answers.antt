use Rattle.std.proofs.Common.{◌≡◌, sym, ap, subst, arith}
use Rattle.kept_entries.specs.Numbers.{next_out}
use Rattle.kept_entries.specs.Spots.{IsSpot}
use Rattle.kept_entries.specs.declared.spot.Spot.{Spot}
use Rattle.pair_journal.specs.OutBuf.{TellsIf}
use Rattle.kept_entries.specs.Given.{numbered}
use Rattle.kept_entries.specs.Numbers.{outs_to}
use Rattle.pair_journal.specs.Buffer.{out_told}
use Rattle.pair_journal.specs.Loading.{IsPayload}
use Rattle.pair_journal.proofs.Standing.{has_out}
use Rattle.pair_journal.proofs.journal.Journal.out_at.Goals as goal

pub returns-then-next_out-number-clause-goes_on : goal.returns-then-next_out-number-clause-goes_on
returns-then-next_out-number-clause-goes_on g c = λ next is b e entry here.
    let same : c.in_ok-next.next ≡ next = cc is in
    let read = c.in_ok-next.ensures.reads b e entry here in (
      subst (IsSpot c.args.self.now.entries) same read.2,
      omega (
        arith,
        c.if-next_out-number.true,
        c.next_out.ensures,
        ap (λ (s : Spot). next_out c.args.side s.next) same,
      ),
    )

pub returns-clause-refuses : goal.returns-clause-refuses
returns-clause-refuses g c = λ at is b e entry here low.
    let read = c.in_ok-next.ensures.reads b e entry here in
    let tells = c.tell_out.ensures.gives entry read.1
    (subst (λ l. IsPayload l entry) (sym c.payload.ensures.payload) read.0) in
    has_out c.args.side c.args.number c.args.self.now.entries c.args.spot c.in_ok-next.next entry
    c.in_ok-next.ensures.sound here read.2 c.in_ok-next.ensures.index low
    (omega (arith, c.if-next_out-number.false, c.next_out.ensures))
    (subst (λ t. TellsIf t (numbered c.args.number (outs_to c.args.side entry.outs)) entry.at
    (out_told c.tell_out.new.told)) c.if-tell_out.false tells)
