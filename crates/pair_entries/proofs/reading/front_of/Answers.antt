use Rattle.std.proofs.Common.{◌++◌, ◌∷◌, ◌∙◌, List, ℕ, length, sym, ap}
use Rattle.std.specs.Int.{w64, to_be_bytes}
use Rattle.std.specs.List.{flat_map}
use Rattle.pair_entries.specs.Payload.{out_bytes, taken_bytes, next_bytes}
use Rattle.pair_entries.proofs.Fronts.{behind_at, behind_taken}
use Rattle.pair_entries.proofs.Ones.{are_ones}
use Rattle.pair_entries.proofs.reading.front_of.Goals as goal

pub returns-in_default-nexts_front : goal.returns-in_default-nexts_front
returns-in_default-nexts_front c = λ entry is_entry is.
    let last : List ℕ = length entry.outs ∷ flat_map out_bytes entry.outs in
    let e = c.in-Some.ensures in
    let x = c.in-Some-taken_front.ensures in
    let one =
    behind_at entry c.in-Some.at c.in-Some.rest.now c.args.bytes.now is_entry e.1 e.0 is in
    let two = behind_taken c.in-Some-taken_front.reset entry.reset c.in-Some-taken_front.took
    entry.took c.in-Some-taken_front.rest.now (next_bytes entry.next ++ last) x.1 is_entry.took
    (sym x.0 ∙ one) in
    c.in_default-nexts_front.ensures entry.next last is_entry.next two

pub returns : goal.returns
returns c =
    let e = c.in-Some.ensures in
    let x = c.in-Some-taken_front.ensures in
    let y = c.in-Some-nexts_front.ensures in (
      e.0 ∙ ap (λ (l : List ℕ). to_be_bytes w64 c.in-Some.at ++ l) (x.0 ∙ ap (λ (l : List ℕ).
          taken_bytes c.in-Some-taken_front.reset c.in-Some-taken_front.took ++ l) y.0),
      record {
        at = c.if-at-gt-MAX_AT.false;
        took = x.1;
        reset = λ new. (
          x.2 new,
          elim c.if-reset.branch [
            | goal.then-reset w ↦ are_ones c.in-Some-nexts_front.next.0 c.in-Some-nexts_front.next.1
                c.in-Some-nexts_front.next.2 c.in-Some-nexts_front.next.3
                (sym w.ne.ensures ∙ sym w.value-is ∙ c.if-ne.false)
            | goal.else-reset w ↦ absurd (cc (new, w.if-reset.false))
          ],
        );
        next = y.1;
      },
    )
