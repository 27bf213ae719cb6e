use Rattle.std.proofs.Common.{◌≡◌, ◌∙◌, ◌+◌, ◌<◌, Option, Some, IfSome, subst, sym, ap, arith}
use Rattle.outside.specs.declared.disk.TheConstants.{MAX_DISK}
use Rattle.kept_entries.specs.Spots.{end_of}
use Rattle.kept_entries.specs.State.{KeptState}
use Rattle.gate_log.specs.State.{LogState}
use Rattle.kept_entries.specs.declared.spot.Spot.{Spot}
use Rattle.pair_journal.proofs.Carrying.{place_is}
use Rattle.kept_entries.proofs.Marking.{far_entries}
use Rattle.pair_journal.proofs.journal.Journal.whole.Goals as goal

-- that is where the entries end
within : (found : Option KeptState) (kept : KeptState) → found ≡ Some kept
    → IfSome found (λ k. end_of k.entries < MAX_DISK) → end_of kept.entries < MAX_DISK
within found kept is holds =
    subst (λ o. IfSome o (λ (k : KeptState). end_of k.entries < MAX_DISK)) is holds

pub overflow_add-end : goal.overflow_add-end
overflow_add-end g c =
    omega (
      arith,
      ap (λ (s : Spot). s.index) c.end-end.ensures.end,
      far_entries c.in-Some-2.kept.entries,
      within c.in_ok-kept.field-0 c.in-Some-2.kept c.in-Some-2.is c.in_ok-kept.ensures.within,
    )

pub of-log-requires : goal.of-log-requires
of-log-requires g c =
    let entries = c.in-Some-2.kept.entries in
    let index = ap (λ (s : Spot). s.index) c.end-end.ensures.end in
    let place = ap (λ (s : Spot). s.place) c.end-end.ensures.end in (
      omega arith,
      omega (arith, index, place, far_entries entries),
      omega (
        arith,
        place,
        within c.in_ok-kept.field-0 c.in-Some-2.kept c.in-Some-2.is c.in_ok-kept.ensures.within,
      ),
    )

pub invariant_of-result : goal.invariant_of-result
invariant_of-result g c =
    let entries = c.in-Some-2.kept.entries in
    let names = c.in-Some.names in
    record {
      named = c.in-Some.ensures.1;
      extent = record {
        number = ap (λ (l : LogState). l.count) c.of-log.ensures
            ∙ ap (λ (s : Spot). s.index + 1) c.end-end.ensures.end;
        end = ap (λ (l : LogState). l.end) c.of-log.ensures
            ∙ ap (λ (s : Spot). s.place) c.end-end.ensures.end
            ∙ sym (place_is names entries c.in-Some.ensures.1);
      };
    }
