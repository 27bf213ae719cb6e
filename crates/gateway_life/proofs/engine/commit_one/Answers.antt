use Rattle.std.proofs.Common.{◌≡◌, sym, subst, refl}
use Rattle.gateway_life.specs.Ready.{LeavesOf}
use Rattle.gateway_life.proofs.Deciding.{commit_left, commit_why, left_alone}
use Rattle.gateway_life.proofs.engine.commit_one.Goals as goal

pub returns-clause-images : goal.returns-clause-images
returns-clause-images g c =
    let old = c.args.journal.now in
    commit_left (g.D.Disk.bytes c.args.disk.now) (g.D.Disk.image c.args.disk.now) _ old _
    c.args.prepared c.commit.result c.commit.ensures.commits c.commit.ensures.images
    (λ e. subst (λ d. LeavesOf (g.D.Disk.bytes c.args.disk.now) (g.D.Disk.image c.args.disk.now)
    (g.D.Disk.image d) old.names (λ xs. xs ≡ old.entries)) (sym (c.commit.ensures.full e))
    (left_alone _ _ old.names old.names old.entries (λ xs. xs ≡ old.entries) refl
    c.requires.stands refl))

pub returns-clause-why : goal.returns-clause-why
returns-clause-why g c =
    commit_why c.args.journal.now _ c.args.prepared c.commit.result c.entry.ensures.sound
    c.commit.ensures.commits
