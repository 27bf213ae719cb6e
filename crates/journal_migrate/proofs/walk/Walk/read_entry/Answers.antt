use Rattle.std.proofs.Common.{◌≡◌, ◌+◌, ℕ, length, refl, sym, subst, arith}
use Rattle.gate_log.specs.Log.{ReadsPayload}
use Rattle.pair_entries.specs.Payload.{Next}
use Rattle.pair_entries.proofs.Fronts.{at_none, at_some}
use Rattle.journal_migrate.specs.Walk.{IsNext, IsNoNext}
use Rattle.journal_migrate.proofs.Finding.{read_so, beyond, unread}
use Rattle.journal_migrate.proofs.walk.Walk.read_entry.Goals as goal

pub returns-then-self-end-clause-read : goal.returns-then-self-end-clause-read
returns-then-self-end-clause-read g c =
    let walk = c.args.self.now in
    beyond (g.D.Disk.bytes c.args.disk.now) c.args.log.now walk.place
    (λ p. (walk.place ≡ walk.place) × IsNoNext walk.next p) c.requires.stands
    (omega (arith, c.if-self-end.true, c.end.ensures.place))

pub returns-in_err-read_payload-clause-read : goal.returns-in_err-read_payload-clause-read
returns-in_err-read_payload-clause-read g c =
    let walk = c.args.self.now in
    unread (g.D.Disk.bytes c.args.disk.now) walk.place c.in_err-read_payload.field-0.0
    c.from_residual.result
    (λ p. IsNext walk.day walk.next p walk.day walk.next walk.renewed.items
    × (walk.place ≡ walk.place + 5 + length p))
    (λ p. IsNoNext walk.next p) c.from_residual.ensures.1 c.in_err-read_payload.ensures.err

pub returns-in_default-clause-read : goal.returns-in_default-clause-read
returns-in_default-clause-read g c =
    let walk = c.args.self.now in
    let told = g.D.Disk.bytes c.args.disk.now in
    let read = c.payload-payload.result.now in
    read_so told walk.place read (λ p. (walk.place ≡ walk.place) × IsNoNext walk.next p)
    (subst (ReadsPayload told walk.place) (sym c.payload-payload.ensures.payload)
    c.in_ok-read_payload.ensures.payload) (
      refl,
      at_none c.in_ok-found.found (IsNoNext walk.next read)
          (λ (x : ℕ × Next). IsNext walk.day walk.next read x.0 x.1 c.renew_entry.new.renewed.items)
          c.in_default.is c.in_ok-found.ensures,
    )

pub returns-clause-read : goal.returns-clause-read
returns-clause-read g c =
    let walk = c.args.self.now in
    let told = g.D.Disk.bytes c.args.disk.now in
    let read = c.payload-payload.result.now in
    read_so told walk.place read
    (λ p. IsNext walk.day walk.next p c.in-Some.day c.in-Some.next c.renew_entry.new.renewed.items
    × (walk.place + (5 + length read) ≡ walk.place + 5 + length p))
    (subst (ReadsPayload told walk.place) (sym c.payload-payload.ensures.payload)
    c.in_ok-read_payload.ensures.payload) (
      at_some c.in_ok-found.found (c.in-Some.day, c.in-Some.next) (IsNoNext walk.next read)
          (λ (x : ℕ × Next). IsNext walk.day walk.next read x.0 x.1 c.renew_entry.new.renewed.items)
          c.in-Some.is c.in_ok-found.ensures,
      omega arith,
    )

pub returns-clause-made : goal.returns-clause-made
returns-clause-made g c =
    let walk = c.args.self.now in
    let read = c.payload-payload.result.now in (
      read,
      at_some c.in_ok-found.found (c.in-Some.day, c.in-Some.next) (IsNoNext walk.next read)
          (λ (x : ℕ × Next). IsNext walk.day walk.next read x.0 x.1 c.renew_entry.new.renewed.items)
          c.in-Some.is c.in_ok-found.ensures,
    )
