-- What pending writes may leave.
use Rattle.std.proofs.Common.{◌≡◌, inl, inr, ℕ, ◌+◌, ◌<◌, ◌≤◌, max, get_or, add-one, Bool}
use Rattle.std.proofs.Common.{true, false, List, [], ◌∷◌, ◌++◌, map, length, take, drop}
use Rattle.std.proofs.Common.{refl, sym, ◌∙◌, ap, subst, arith, append_assoc, length-append}
use Rattle.std.proofs.Common.{length-take, length-drop}
use Rattle.std.proofs.Math.Seq.{take-suc}
use Rattle.std.proofs.lemmas.List.{take_at, drop_at, take-append-drop, drop-drop, map-append}
use Rattle.std.proofs.lemmas.List.{length-replicate}
use Rattle.outside.specs.Disk.{Torn, write, replaced, Follows, AreAmong}
use Rattle.outside.specs.Memory.{DiskState, Write}
use Rattle.outside.specs.MemDisk.{IsTorn, IsImageOf, IsDisk, Begin, grown, picked, all_written}
use Rattle.outside.specs.MemDisk.{picked_image, staged, state_of, undo, undone, write_of}
use Rattle.outside.specs.declared.mem_disk.Pending.{Pending}
use Rattle.outside.specs.declared.mem_disk.Image.{Image}
use Rattle.outside.specs.declared.mem_disk.Image.TheVariants as images
use Rattle.outside.specs.declared.mem_disk.MemDisk.TheInside.{Inside}

-- ---- one write

pub Torn_refl : (at n : ℕ) (old : List ℕ) → Torn at n old old
Torn_refl at n old =
    record { before = refl; after = refl; no_shorter = omega arith; no_longer = omega arith }

pub Torn_write : (at : ℕ) (piece old : List ℕ)
    → at ≤ length old → Torn at (length piece) old (write at piece old)
Torn_write at piece old within =
    let front : length (take at old) ≡ at = simp length-take (omega (arith, within)) in
    let grouped : write at piece old ≡ take at old ++ (piece ++ drop (at + length piece) old) =
    append_assoc (take at old) piece (drop (at + length piece) old) in
    let size : length (take at old ++ piece) ≡ at + length piece =
    omega (arith, length-append (take at old) piece, front) in
    record {
      before = ap (take at) grouped
          ∙ take_at (take at old) (piece ++ drop (at + length piece) old) at front;
      after =
          drop_at (take at old ++ piece) (drop (at + length piece) old) (at + length piece) size;
      no_shorter = omega (
        arith,
        length-append (take at old ++ piece)
            (drop (at + length piece) old),
        size,
        length-drop (at + length piece) old,
      );
      no_longer = omega (
        arith,
        length-append (take at old ++ piece) (drop (at + length piece) old),
        size,
        length-drop (at + length piece) old,
      );
    }

pub length-write : (at : ℕ) (piece old : List ℕ)
    → at ≤ length old → length (write at piece old) ≡ max (length old) (at + length piece)
length-write at piece old within =
    let front : length (take at old) ≡ at = simp length-take (omega (arith, within)) in
    let size : length (take at old ++ piece) ≡ at + length piece =
    omega (arith, length-append (take at old) piece, front) in
    omega (
      arith,
      length-append (take at old ++ piece) (drop (at + length piece) old),
      size,
      length-drop (at + length piece) old,
    )

-- what was written over, put back
pub undo-write : (at : ℕ) (piece old : List ℕ) → at ≤ length old
    → replaced at (length piece) (take (length piece) (drop at old)) (write at piece old) ≡ old
undo-write at piece old within =
    let torn = Torn_write at piece old within in
    let back : take (length piece) (drop at old) ++ drop (at + length piece) old ≡ drop at old =
    ap (λ l. take (length piece) (drop at old) ++ l) (sym (drop-drop (length piece) at old))
    ∙ take-append-drop (length piece) (drop at old) in
    ap (λ l. (l ++ take (length piece) (drop at old))
    ++ drop (at + length piece) (write at piece old)) torn.before
    ∙ ap (λ l. (take at old ++ take (length piece) (drop at old)) ++ l) torn.after
    ∙ append_assoc (take at old) (take (length piece) (drop at old)) (drop (at + length piece) old)
    ∙ ap (λ l. take at old ++ l) back
    ∙ take-append-drop at old

-- ---- pending writes

pub undone-push : (pending : List Pending) (p : Pending) (bytes : List ℕ)
    → undone (pending ++ p ∷ []) bytes ≡ undone pending (undo p bytes)
undone-push [] p bytes = refl
undone-push (q ∷ pending) p bytes = ap (undo q) (undone-push pending p bytes)

pub IsTorn-push : (stable : List ℕ) (pending : List Write) (w : Write) (mid image : List ℕ)
    → IsTorn stable pending mid
    → Torn w.at (length w.piece) mid image → IsTorn stable (pending ++ w ∷ []) image
IsTorn-push stable [] w mid image so_far torn =
    (image, subst (λ s. Torn w.at (length w.piece) s image) so_far torn, refl)
IsTorn-push stable (v ∷ pending) w mid image so_far torn =
    (so_far.0, so_far.1, IsTorn-push so_far.0 pending w mid image so_far.2 torn)

pub IsTorn-last : (stable : List ℕ) (pending : List Write) (w : Write) (image : List ℕ)
    → IsTorn stable (pending ++ w ∷ []) image
    → (mid : List ℕ) × IsTorn stable pending mid × Torn w.at (length w.piece) mid image
IsTorn-last stable [] w image torn =
    (stable, refl, subst (λ i. Torn w.at (length w.piece) stable i) (sym torn.2) torn.1)
IsTorn-last stable (v ∷ pending) w image torn = let more =
    IsTorn-last torn.0 pending w image torn.2 in (more.0, (torn.0, torn.1, more.1), more.2)

pub grown-push : (n : ℕ) (pending : List Write) (w : Write)
    → grown n (pending ++ w ∷ []) ≡ max (grown n pending) (w.at + length w.piece)
grown-push n [] w = refl
grown-push n (v ∷ pending) w = grown-push (max n (v.at + length v.piece)) pending w

pub Begin-push : (n : ℕ) (pending : List Write) (w : Write)
    → Begin n pending → w.at ≤ grown n pending → Begin n (pending ++ w ∷ [])
Begin-push n [] w all within = (within, tt)
Begin-push n (v ∷ pending) w all within =
    (all.0, Begin-push (max n (v.at + length v.piece)) pending w all.1 within)

torn_of : (disk : DiskState)
    → IsDisk disk → (image : List ℕ) → IsImageOf disk image → IsTorn disk.stable disk.pending image
torn_of disk is image (inl now) = subst (λ i. IsTorn disk.stable disk.pending i) (sym now) is.torn
torn_of disk is image (inr torn) = torn

-- ---- a write that was kept

module _ (at : ℕ)
    (piece : List ℕ) (disk : DiskState) (is : IsDisk disk) (within : at ≤ length disk.bytes) where
  abbrev the_write : Write
  the_write = record { at = at; piece = piece }

  bytes_torn : (done : Bool) → Torn at (length piece) disk.bytes (staged done at piece disk).bytes
  bytes_torn true = Torn_write at piece disk.bytes within
  bytes_torn false = Torn_refl at (length piece) disk.bytes

  bytes_shorter : (done : Bool) → length (staged done at piece disk).bytes
      ≤ max (grown (length disk.stable) disk.pending) (at + length piece)
  bytes_shorter true = omega (arith, length-write at piece disk.bytes within, is.shorter)
  bytes_shorter false = omega (arith, is.shorter)

  pub staged_is_disk : (done : Bool) → IsDisk (staged done at piece disk)
  staged_is_disk done = record {
    torn = IsTorn-push disk.stable disk.pending
        the_write disk.bytes (staged done at piece disk).bytes is.torn (bytes_torn done);
    begin = Begin-push
        (length disk.stable) disk.pending the_write is.begin (omega (arith, within, is.shorter));
    shorter =
        omega (arith, bytes_shorter done, grown-push (length disk.stable) disk.pending the_write);
  }

  -- the write goes on from each image
  pub staged_follows : (done : Bool)
      → Follows (Torn at (length piece)) (IsImageOf disk) (IsImageOf (staged done at piece disk))
  staged_follows done image (inl now) = (
    disk.bytes,
    inl refl,
    subst (λ i. Torn at (length piece) disk.bytes i) (sym now) (bytes_torn done),
  )
  staged_follows done image (inr left) = let last =
      IsTorn-last disk.stable disk.pending the_write image left in (last.0, inr last.1, last.2)

  -- and takes none away
  pub staged_keeps : (done : Bool)
      → AreAmong (IsImageOf disk) (IsImageOf (staged done at piece disk))
  staged_keeps done image was = inr (IsTorn-push disk.stable disk.pending
      the_write image image (torn_of disk is image was) (Torn_refl at (length piece) image))

-- images that stay are what a write of nothing leaves
pub follows_refl : (at n : ℕ) (image : List ℕ → Type 0) → Follows (Torn at n) image image
follows_refl at n image left was = (left, was, Torn_refl at n left)

-- ---- what contracts see after a write was kept

-- the disk with these bytes and these writes
abbrev pub with_writes : Inside → List ℕ → List Pending → DiskState
with_writes d bytes pending = record (state_of d) {
  bytes = bytes;
  stable = undone pending bytes;
  pending = map write_of pending;
}

pub seen : (d : Inside)
    (done : Bool) (at : ℕ) (piece bytes : List ℕ) (pending : List Pending) (p : Pending) →
    pending ≡ d.pending.items ++ p ∷ [] → write_of p ≡ record { at = at; piece = piece } →
    bytes ≡ (staged done at piece (state_of d)).bytes → undo p bytes ≡ d.bytes.items →
    with_writes d bytes pending ≡ staged done at piece (state_of d)
seen d done at piece bytes pending p pushed is now back =
    let stable : undone pending bytes ≡ undone d.pending.items d.bytes.items =
    ap (λ ps. undone ps bytes) pushed
    ∙ undone-push d.pending.items p bytes ∙ ap (undone d.pending.items) back in
    let writes : map write_of pending
    ≡ map write_of d.pending.items ++ (record { at = at; piece = piece }) ∷ [] =
    ap (map write_of) pushed ∙ map-append write_of d.pending.items (p ∷ [])
    ∙ ap (λ w. map write_of d.pending.items ++ w ∷ []) is in
    ap (λ b. record (state_of d) {
      bytes = b;
      stable = undone pending bytes;
      pending = map write_of pending;
    }) now
    ∙ ap (λ s. record (state_of d) {
      bytes = (staged done at piece (state_of d)).bytes;
      stable = s;
      pending = map write_of pending;
    }) stable
    ∙ ap (λ ws. record (state_of d) {
      bytes = (staged done at piece (state_of d)).bytes;
      stable = undone d.pending.items d.bytes.items;
      pending = ws;
    }) writes

-- what a write wrote over, put back
pub undo_back : (at : ℕ) (piece old kept under bytes : List ℕ)
    → kept ≡ piece → under ≡ take (length piece) (drop at old)
    → bytes ≡ write at piece old → at ≤ length old → replaced at (length kept) under bytes ≡ old
undo_back at piece old kept under bytes is_kept is_under is_bytes within =
    ap (λ k. replaced at (length k) under bytes) is_kept
    ∙ ap (λ u. replaced at (length piece) u bytes) is_under
    ∙ ap (replaced at (length piece) (take (length piece) (drop at old))) is_bytes
    ∙ undo-write at piece old within

-- a disk that differs in its calls alone
pub like : (a b : DiskState) → b.bytes ≡ a.bytes → b.stable ≡ a.stable → b.pending ≡ a.pending
    → b ≡ record b { bytes = a.bytes; stable = a.stable; pending = a.pending }
like a b bytes stable pending =
    ap (λ x. record b { bytes = x }) bytes
    ∙ ap (λ x. record b { bytes = a.bytes; stable = x }) stable
    ∙ ap (λ x. record b { bytes = a.bytes; stable = a.stable; pending = x }) pending

-- ---- the picks

length-picked : (pick : Image) (piece : List ℕ) → length (picked pick piece) ≡ length piece
length-picked images.Torn piece = length-replicate (length piece) 255
length-picked images.Old piece = refl
length-picked images.New piece = refl

pub all_written-push : (pick : Image) (bytes : List ℕ) (pending : List Write) (w : Write)
    → all_written pick bytes (pending ++ w ∷ [])
    ≡ write w.at (picked pick w.piece) (all_written pick bytes pending)
all_written-push pick bytes [] w = refl
all_written-push pick bytes (v ∷ pending) w =
    all_written-push pick (write v.at (picked pick v.piece) bytes) pending w

pub all_torn : (pick : Image) (bytes : List ℕ) (pending : List Write)
    → Begin (length bytes) pending → IsTorn bytes pending (all_written pick bytes pending)
all_torn pick bytes [] all = refl
all_torn pick bytes (w ∷ pending) all =
    let next = write w.at (picked pick w.piece) bytes in
    let size : length next ≡ max (length bytes) (w.at + length w.piece) =
    length-write w.at (picked pick w.piece) bytes all.0
    ∙ ap (λ n. max (length bytes) (w.at + n)) (length-picked pick w.piece) in (
      next,
      subst (λ n. Torn w.at n bytes next)
          (length-picked pick w.piece) (Torn_write w.at (picked pick w.piece) bytes all.0),
      all_torn pick next pending (subst (λ n. Begin n pending) (sym size) all.1),
    )

pub picked_is_image : (pick : Image) (disk : DiskState)
    → IsDisk disk → IsImageOf disk (picked_image pick disk)
picked_is_image images.Old disk is = inr (stays disk.stable disk.pending)
  where
    stays : (bytes : List ℕ) (pending : List Write) → IsTorn bytes pending bytes
    stays bytes [] = refl
    stays bytes (w ∷ pending) = (bytes, Torn_refl w.at (length w.piece) bytes, stays bytes pending)
picked_is_image images.New disk is = inr (all_torn images.New disk.stable disk.pending is.begin)
picked_is_image images.Torn disk is = inr (all_torn images.Torn disk.stable disk.pending is.begin)

-- one more write is done
pub all_written-next : (pick : Image) (bytes image : List ℕ) (pending : List Pending)
    (i : ℕ) (p : Pending) → i < length pending → p ≡ get_or pending i p → image ≡ write
    p.at (picked pick p.piece.items) (all_written pick bytes (map write_of (take i pending)))
    → image ≡ all_written pick bytes (map write_of (take (i + 1) pending))
all_written-next pick bytes image pending i p within is now =
    let more : take (i + 1) pending ≡ take i pending ++ p ∷ [] = rw (add-one, take-suc pending i p)
    (ap (λ (q : Pending). take i pending ++ q ∷ []) (sym is)) in
    let writes : map write_of (take (i + 1) pending) ≡ map write_of (take i pending) ++ write_of p
    ∷ [] = ap (map write_of) more ∙ map-append write_of (take i pending) (p ∷ []) in
    now ∙ sym (ap (all_written pick bytes) writes
    ∙ all_written-push pick bytes (map write_of (take i pending)) (write_of p))
