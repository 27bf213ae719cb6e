use Rattle.std.proofs.Common.{◌≡◌, ◌∙◌, ◌++◌, ◌∷◌, [], ℕ, IfSome, drop, length, refl, sym, ap}
use Rattle.std.proofs.Common.{subst, arith}
use Rattle.gate_log.specs.Records.{IsShut}
use Rattle.gate_log.specs.Chunk.{BeginsWith}
use Rattle.pair_entries.specs.Payload.{payload_on}
use Rattle.kept_entries.specs.Days.{day_after, payload_behind}
use Rattle.pair_journal.specs.Loading.{Follows}
use Rattle.kept_entries.specs.Spots.{end_of}
use Rattle.kept_entries.specs.declared.spot.Spot.{Spot}
use Rattle.pair_journal.proofs.Fronts.{born_there, more_there, whole_there}
use Rattle.kept_entries.proofs.Marking.{end_push}
use Rattle.pair_journal.proofs.Walking.{only_read_still, only_read_on}
use Rattle.pair_journal.proofs.loading.whole_entries.Goals as goal

pub records-init : goal.records-init
records-init g c = record {
  front = born_there (g.D.Disk.bytes c.args.disk.now) c.args.names.now c.requires.named
      c.args.keeper.entries c.requires.none c.requires.born;
  within = omega (arith, ap end_of c.requires.none);
  shown = λ s. subst (g.R.Reader.shown c.args.reader.now) (sym c.requires.none) s;
  only_read = only_read_still _ _;
  still = refl;
  of = c.requires.of;
}

pub returns-then-branch-clause-ok : goal.returns-then-branch-clause-ok
returns-then-branch-clause-ok g c =
    let i = c.records.invariant in
    let told = g.D.Disk.bytes c.args.disk.now in
    let entries = c.records.kept.entries in
    let place : c.end-end.result.place ≡ end_of entries =
    ap (λ (s : Spot). s.place) c.end-end.ensures.end in
    let shut = subst (λ t. IfSome t (λ b. IsShut (drop c.end-end.result.place b)))
    i.only_read.same (c.in_ok-is_shut.ensures.shut (cc c.if-branch.true)) in
    whole_there told c.args.names.now c.requires.named entries i.front c.end-end.ensures.sound
    i.within (subst (λ n. IfSome told (λ b. IsShut (drop n b))) place shut)

pub records-smaller : goal.records-smaller
records-smaller g c =
    let i = c.records.invariant in
    omega (
      arith,
      i.within,
      ap end_of c.in_ok-keep.ensures,
      end_push c.records.kept.entries c.in-Some.entry,
    )

pub records-preserved : goal.records-preserved
records-preserved g c =
    let i = c.records.invariant in
    let told = g.D.Disk.bytes c.args.disk.now in
    let entries = c.records.kept.entries in
    let entry = c.in-Some.entry in
    let payload = c.payload-payload.result.now in
    let read = only_read_on _ _ _ _ _ _ i.only_read c.in_ok-is_shut.ensures.only_read in
    let place : c.end-end.result.place ≡ end_of entries =
    ap (λ (s : Spot). s.place) c.end-end.ensures.end in
    let pushed : c.keep.new.self.entries ≡ entries ++ entry ∷ [] = c.in_ok-keep.ensures in
    let follows : Follows c.day.result c.end-end.result.next payload entry = c.in-Some.ensures in
    let written : payload ≡ payload_behind entries entry =
    follows.written ∙ ap (λ (n : ℕ). payload_on (day_after n entry) entry) c.day.ensures.number in
    let found = subst (λ t. IfSome t (λ b.
    BeginsWith (drop c.end-end.result.place b) c.seek.new.self.payload)) read.same
    (c.in_ok-seek.ensures.found (cc c.if-not-branch.false)) in
    let begins = subst (λ n. IfSome told (λ b. BeginsWith (drop n b) payload)) place
    (subst (λ p. IfSome told (λ b. BeginsWith (drop c.end-end.result.place b) p))
    (sym c.payload-payload.ensures.payload) found) in
    record {
      front = more_there told c.args.names.now c.requires.named entries i.front
          c.keep.new.self.entries entry payload written pushed begins;
      within = omega (
        arith,
        place,
        ap end_of pushed,
        end_push entries entry,
        ap length written,
        c.if-end-len-ge-MAX_DISK.false,
      );
      shown = λ s. subst (g.R.Reader.shown c.saw.new.self) (sym pushed)
          (c.in_ok-saw.ensures entries (i.shown s));
      only_read = only_read_on _ _ _ _ _ _ read c.in_ok-seek.ensures.only_read;
      still = c.in_ok-seek.ensures.cause ∙ c.in_ok-is_shut.ensures.cause ∙ i.still;
      of = c.seek.ensures.of;
    }
