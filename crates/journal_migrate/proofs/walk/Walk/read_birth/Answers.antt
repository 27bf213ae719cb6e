use Rattle.std.proofs.Common.{◌≡◌, ◌+◌, ℕ, length, refl, sym, subst}
use Rattle.gate_log.specs.Log.{ReadsPayload}
use Rattle.journal_migrate.specs.Walk.{IsBirth, IsNoBirth, TellsBirth}
use Rattle.journal_migrate.proofs.Finding.{read_so, unread}
use Rattle.journal_migrate.proofs.walk.Walk.read_birth.Goals as goal

pub returns-in_err-read_payload-clause-read : goal.returns-in_err-read_payload-clause-read
returns-in_err-read_payload-clause-read g c =
    unread (g.D.Disk.bytes c.args.disk.now) 0 c.in_err-read_payload.field-0.0
    c.from_residual.result
    (λ p. IsBirth p c.args.self.now.renewed.items × (c.args.self.now.place ≡ 5 + length p))
    (λ p. IsNoBirth p) c.from_residual.ensures.1 c.in_err-read_payload.ensures.err

pub returns-then-not-branch-clause-read : goal.returns-then-not-branch-clause-read
returns-then-not-branch-clause-read g c =
    let told = g.D.Disk.bytes c.args.disk.now in
    read_so told 0 c.payload-payload.result.now (λ p. (◌≡◌ {A = ℕ} 0 0) × IsNoBirth p)
    (subst (ReadsPayload told 0) (sym c.payload-payload.ensures.payload)
    c.in_ok-read_payload.ensures.payload) (
      refl,
      subst (λ r. TellsBirth r c.payload-payload.result.now c.renew_birth.new.renewed.items)
          c.if-not-branch.true c.in_ok-renew_birth.ensures,
    )

pub returns-clause-read : goal.returns-clause-read
returns-clause-read g c =
    let told = g.D.Disk.bytes c.args.disk.now in
    let read = c.payload-payload.result.now in
    read_so told 0 read (λ p. IsBirth p c.renew_birth.new.renewed.items
    × (5 + length read ≡ 5 + length p))
    (subst (ReadsPayload told 0) (sym c.payload-payload.ensures.payload)
    c.in_ok-read_payload.ensures.payload) (
      subst (λ r. TellsBirth r read c.renew_birth.new.renewed.items) c.if-not-branch.false
          c.in_ok-renew_birth.ensures,
      refl,
    )

pub returns-clause-made : goal.returns-clause-made
returns-clause-made g c = (
  c.payload-payload.result.now,
  subst (λ r. TellsBirth r c.payload-payload.result.now c.renew_birth.new.renewed.items)
      c.if-not-branch.false c.in_ok-renew_birth.ensures,
)
