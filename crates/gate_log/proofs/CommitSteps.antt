-- The two steps of a commit, on a disk that may tell its bytes.
use Rattle.std.proofs.Common.{◌≡◌, inl, ◌⊎◌, ◌++◌, ℕ, ◌+◌, ◌<◌, ◌≤◌, List, [], ◌∷◌, length}
use Rattle.std.proofs.Common.{refl, ◌∙◌, ap, subst, arith, Some, None, IfSome, length-append}
use Rattle.std.proofs.Common.{Result, OnOk}
use Rattle.std.specs.declared.option.Option.{Option}
use Rattle.std.specs.Option.{ForSome, option_map}
use Rattle.outside.specs.declared.disk.TheConstants.{MAX_DISK}
use Rattle.outside.specs.Disk.{write, Torn, Only, HasOneImage}
use Rattle.outside.proofs.Torn.{Torn_write}
use Rattle.gate_log.specs.Records.{record_of, blocks, Stands}
use Rattle.gate_log.specs.Commit.{CommitsOrNot, Commits, WithOrWithout}
use Rattle.gate_log.specs.Steps.{EndsAt, StagedAt, Ends, Staged, IsTorn, KeepsImages, KeepsBytes}
use Rattle.gate_log.proofs.Blocks.{Stands-unique}
use Rattle.gate_log.proofs.Crash.{torn_behind, written_behind, torn_gate, written_gate, long}
use Rattle.gate_log.proofs.Told.{if_some, at_some, to_some, on_ok}

-- ---- the record, behind its closed gate

-- the bytes of a log are known to their closing gate
pub ends : (told : Option (List ℕ)) (end : ℕ) (payload : List ℕ)
    → ForSome told (EndsAt end payload) → Ends told end payload
ends told end payload each = record {
  each = each;
  reaches = λ b e. long_at b (each b e);
}
  where
    long_at : (b : List ℕ) → EndsAt end payload b → end + 1 ≤ length b
    long_at b at = long at.payloads end at.place b at.log

pub record_keeps : (told : Option (List ℕ)) (end : ℕ) (payload piece : List ℕ)
    (im0 im1 : List ℕ → Type 0) → Ends told end payload → piece ≡ record_of payload
    → IsTorn (end + 1) (length piece) im0 im1 → KeepsImages told im0 im1
record_keeps told end payload piece im0 im1 there is follows = record {
  each = if_some told _ (λ b e only ps stands image left.
      let at = there.each b e in
      let same : at.payloads ≡ ps = Stands-unique b at.payloads ps at.stands stands in
      let from = follows.each image left in
      let torn = subst (λ l. Torn (end + 1) (length l) b image)
      is (subst (λ d. Torn (end + 1) (length piece) d image) (only from.0 from.1) from.2) in
      subst (Stands image) same (torn_behind
      at.payloads end at.place payload at.fits b image at.log at.stands torn));
}

-- the image with the record stands for the same list
staged_stands : (end : ℕ) (payload b : List ℕ) (at : EndsAt end payload b)
    → Stands (write (end + 1) (record_of payload) b) at.payloads
staged_stands end payload b at = torn_behind
    at.payloads end at.place payload at.fits b _ at.log at.stands
    (Torn_write (end + 1) (record_of payload) b (long at.payloads end at.place b at.log))

staged_at : (end : ℕ) (payload b : List ℕ) → EndsAt end payload b
    → StagedAt end payload (write (end + 1) (record_of payload) b)
staged_at end payload b at =
    let m = write (end + 1) (record_of payload) b in
    let there = written_behind at.payloads end at.place payload b m at.log refl in
    record {
      payloads = at.payloads;
      gate = at.log.gate;
      after = there.0;
      split = there.1;
      shut = at.log.shut;
      fit = at.log.fit;
      stands = staged_stands end payload b at;
      fits = at.fits;
      place = at.place;
    }

staged_long : (end : ℕ) (payload m : List ℕ) → StagedAt end payload m → end ≤ length m
staged_long end payload m at = omega (
  arith,
  at.place,
  ap length at.split,
  length-append (blocks at.payloads) (at.gate ∷ (record_of payload ++ at.after)),
)

module _ (told told1 : Option (List ℕ)) (end : ℕ) (payload piece : List ℕ)
    (is : piece ≡ record_of payload) (written : told1 ≡ option_map (write (end + 1) piece) told)
  where
    written_at : (b : List ℕ)
        → told ≡ Some b → told1 ≡ Some (write (end + 1) (record_of payload) b)
    written_at b e = written
        ∙ ap (option_map (write (end + 1) piece)) e ∙ ap (λ l. Some (write (end + 1) l b)) is

    told_staged : ForSome told (EndsAt end payload) → ForSome told1 (StagedAt end payload)
    told_staged each x e = go told refl
      where
        go : (o : Option (List ℕ)) → told ≡ o → StagedAt end payload x
        go None none = absurd (cc (written ∙ ap (option_map (write (end + 1) piece)) none, e))
        go (Some b) some =
            let same : write (end + 1) (record_of payload) b ≡ x = cc (written_at b some, e) in
            subst (StagedAt end payload) same (staged_at end payload b (each b some))

    bytes_kept : ForSome told (EndsAt end payload) → KeepsBytes told told1
    bytes_kept each = record {
      each = λ b e. (
        write (end + 1) (record_of payload) b,
        written_at b e,
        λ ps stands.
            let at = each b e in
            subst (Stands (write (end + 1) (record_of payload) b))
            (Stands-unique b at.payloads ps at.stands stands) (staged_stands end payload b at),
      );
    }

pub record_staged : {T E : Type 0} (told told1 : Option (List ℕ)) (end : ℕ)
    (payload piece : List ℕ) (result : Result T E) → Ends told end payload
    → piece ≡ record_of payload → end + 5 + length payload < MAX_DISK
    → OnOk result (told1 ≡ option_map (write (end + 1) piece) told)
    → OnOk result (Staged told1 end payload)
record_staged told told1 end payload piece result there is room = on_ok result (λ written.
    let each = told_staged told told1 end payload piece is written there.each in record {
      each = each;
      reaches = λ b e. staged_long end payload b (each b e);
      room = room;
    })

pub record_same : {T E : Type 0} (told told1 : Option (List ℕ)) (end : ℕ)
    (payload piece : List ℕ) (result : Result T E) → Ends told end payload
    → piece ≡ record_of payload
    → OnOk result (told1 ≡ option_map (write (end + 1) piece) told)
    → OnOk result (KeepsBytes told told1)
record_same told told1 end payload piece result there is =
    on_ok result (λ written. bytes_kept told told1 end payload piece is written there.each)

-- ---- the gate

pub gate_commits : (told : Option (List ℕ)) (end : ℕ) (payload : List ℕ)
    (im0 im1 : List ℕ → Type 0) → Staged told end payload
    → IsTorn end 1 im0 im1 → CommitsOrNot told im0 im1 payload
gate_commits told end payload im0 im1 staged follows = record {
  each = if_some told _ (λ m e only ps stands image left.
      let at = staged.each m e in
      let same : at.payloads ≡ ps = Stands-unique m at.payloads ps at.stands stands in
      let from = follows.each image left in
      let torn = subst (λ d. Torn end 1 d image) (only from.0 from.1) from.2 in
      subst (λ l. Stands image l ⊎ Stands image (l ++ payload ∷ []))
      same (torn_gate end payload staged.room m at image torn));
}

pub gate_adds : {T E : Type 0} (told told1 : Option (List ℕ)) (end : ℕ) (payload : List ℕ)
    (result : Result T E) → Staged told end payload
    → OnOk result (told1 ≡ option_map (write end (1 ∷ [])) told)
    → OnOk result (Commits told told1 payload)
gate_adds told told1 end payload result staged = on_ok result (λ written. record {
  added = if_some told _ (λ m e ps stands.
      let at = staged.each m e in
      let same : at.payloads ≡ ps = Stands-unique m at.payloads ps at.stands stands in
      let x = write end (1 ∷ []) m in
      to_some told1 _ x (written ∙ ap (option_map (write end (1 ∷ []))) e)
      (subst (λ l. Stands x (l ++ payload ∷ [])) same
      (written_gate end payload staged.room m at x refl)));
})

-- ---- both

pub stops_before : (told : Option (List ℕ)) (im0 im1 : List ℕ → Type 0) (payload : List ℕ)
    → KeepsImages told im0 im1 → CommitsOrNot told im0 im1 payload
stops_before told im0 im1 payload keeps = record {
  each = if_some told _ (λ b e only ps stands image left.
      inl (at_some told (λ x. Only x im0 → (qs : List (List ℕ)) → Stands x qs → (i : List ℕ)
      → im1 i → Stands i qs) b e keeps.each only ps stands image left));
}

pub commits_behind : (told told1 : Option (List ℕ)) (im0 im1 im2 : List ℕ → Type 0)
    (payload : List ℕ) → KeepsBytes told told1 → HasOneImage told1 im1
    → CommitsOrNot told1 im1 im2 payload → CommitsOrNot told im0 im2 payload
commits_behind told told1 im0 im1 im2 payload keeps one commits = record {
  each = if_some told _ (λ b e only ps stands image left.
      let next = keeps.each b e in
      at_some told1 (λ x. Only x im1 → (qs : List (List ℕ)) → Stands x qs → (i : List ℕ)
      → im2 i → WithOrWithout qs payload i) next.0 next.1 commits.each
      (at_some told1 (λ x. Only x im1) next.0 next.1 one) ps (next.2 ps stands) image left);
}

pub adds_behind : {T E : Type 0} (told told1 told2 : Option (List ℕ)) (payload : List ℕ)
    (result : Result T E) → KeepsBytes told told1
    → OnOk result (Commits told1 told2 payload) → OnOk result (Commits told told2 payload)
adds_behind told told1 told2 payload result keeps = on_ok result (λ commits. record {
  added = if_some told _ (λ b e ps stands.
      let next = keeps.each b e in
      at_some told1 (λ x. (qs : List (List ℕ)) → Stands x qs → IfSome told2
      (λ after. Stands after (qs ++ payload ∷ []))) next.0 next.1 commits.added ps
      (next.2 ps stands));
})

-- what the bytes of a staged record stand for
pub ruleset record_told = (record_staged, record_same)

-- a commit, by its two steps
pub ruleset both_steps = (stops_before, commits_behind, adds_behind)
