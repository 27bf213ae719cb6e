use Rattle.std.proofs.Common.{◌≡◌, ◌≤◌, ◌∙◌, ◌⊎◌, ℕ, List, Bool, true, false, inl, inr, length}
use Rattle.std.proofs.Common.{sym, ap, subst}
use Rattle.outside.specs.Disk.{Torn, Follows, AreAmong}
use Rattle.outside.specs.Memory.{CallsState, DiskState}
use Rattle.outside.specs.declared.mem_disk.Fuse.{Fuse}
use Rattle.outside.specs.MemDisk.{IsDisk, IsImageOf, staged}
use Rattle.outside.proofs.Torn.{like, follows_refl, staged_follows, staged_keeps}
use Rattle.outside.proofs.mem_disk.MemDiskDisk.write_at.Goals as goal

-- a write that is kept, on a disk whose calls were counted meanwhile
module _ (at : ℕ) (piece : List ℕ)
    (old now : DiskState) (is : IsDisk old) (within : at ≤ length old.bytes) (same : now
    ≡ record now { bytes = old.bytes; stable = old.stable; pending = old.pending }) where
  follows : (done : Bool) (new : DiskState) → new ≡ staged done at piece now
      → Follows (Torn at (length piece)) (IsImageOf old) (IsImageOf new)
  follows done new e = subst (λ d. Follows (Torn at (length piece)) (IsImageOf old) (IsImageOf d))
      (sym (e ∙ ap (staged done at piece) same)) (staged_follows at piece old is within done)

  keeps : (done : Bool) (new : DiskState)
      → new ≡ staged done at piece now → AreAmong (IsImageOf old) (IsImageOf new)
  keeps done new e = subst (λ d. AreAmong (IsImageOf old) (IsImageOf d))
      (sym (e ∙ ap (staged done at piece) same)) (staged_keeps at piece old is within done)

  follows_or_not : (new : DiskState)
      → (new ≡ staged false at piece now) ⊎ (new ≡ record now { refused = true })
      → Follows (Torn at (length piece)) (IsImageOf old) (IsImageOf new)
  follows_or_not new (inl e) = follows false new e
  follows_or_not new (inr e) =
      subst (λ d. Follows (Torn at (length piece)) (IsImageOf old) (IsImageOf d))
      (sym (e ∙ ap {A = DiskState} (λ d. record d { refused = true }) same))
      (follows_refl at (length piece) (IsImageOf old))

  keeps_or_not : (new : DiskState) → (new ≡ staged false at piece now)
      ⊎ (new ≡ record now { refused = true }) → AreAmong (IsImageOf old) (IsImageOf new)
  keeps_or_not new (inl e) = keeps false new e
  keeps_or_not new (inr e) = subst (λ d. AreAmong (IsImageOf old) (IsImageOf d))
      (sym (e ∙ ap {A = DiskState} (λ d. record d { refused = true }) same)) (λ image was. was)

-- a disk of which a call has begun differs from before in its calls and its fuse alone
begun : (old burned now : DiskState) (fuse : Fuse) (calls : CallsState)
    → burned ≡ record old { fuse = fuse }
    → now ≡ record burned { made = now.made; refused = now.refused; calls = calls }
    → now ≡ record now { bytes = old.bytes; stable = old.stable; pending = old.pending }
begun old burned now fuse calls burnt same = like old now
    (ap (λ d. d.bytes) same ∙ ap (λ d. d.bytes) burnt)
    (ap (λ d. d.stable) same ∙ ap (λ d. d.stable) burnt)
    (ap (λ d. d.pending) same ∙ ap (λ d. d.pending) burnt)

pub returns-then-is_err-clause-images : goal.returns-then-is_err-clause-images
returns-then-is_err-clause-images c =
    let is = begun c.args.self.now _ _ _ _ c.burn.ensures.burnt c.begin-begun.ensures.same in
    follows_or_not c.args.at c.args.piece.now c.args.self.now
    _ c.burn.ensures.is_disk c.requires.within is _ c.keep_failed.ensures

pub returns-then-is_err-clause-kept : goal.returns-then-is_err-clause-kept
returns-then-is_err-clause-kept c =
    let is = begun c.args.self.now _ _ _ _ c.burn.ensures.burnt c.begin-begun.ensures.same in
    keeps_or_not c.args.at c.args.piece.now c.args.self.now
    _ c.burn.ensures.is_disk c.requires.within is _ c.keep_failed.ensures

pub returns-in-Ok-clause-images : goal.returns-in-Ok-clause-images
returns-in-Ok-clause-images c =
    let is = begun c.args.self.now _ _ _ _ c.burn.ensures.burnt c.begin-begun.ensures.same in
    follows c.args.at c.args.piece.now c.args.self.now
    _ c.burn.ensures.is_disk c.requires.within is true _ c.in-Ok.ensures.ok

pub returns-in-Ok-clause-kept : goal.returns-in-Ok-clause-kept
returns-in-Ok-clause-kept c =
    let is = begun c.args.self.now _ _ _ _ c.burn.ensures.burnt c.begin-begun.ensures.same in
    keeps c.args.at c.args.piece.now c.args.self.now
    _ c.burn.ensures.is_disk c.requires.within is true _ c.in-Ok.ensures.ok
