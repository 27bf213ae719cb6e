use Rattle.std.proofs.Common.{◌∙◌, sym}
use Rattle.pair_entries.proofs.Same.{front_is, entry_of_front}
use Rattle.pair_entries.proofs.Ones.{is_nil}
use Rattle.pair_entries.proofs.reading.entry_ref.Goals as goal

pub returns-in_default-all_outs : goal.returns-in_default-all_outs
returns-in_default-all_outs c = λ entry is_entry is.
    let e = c.in-Some.ensures in
    let parts = front_is c.in-Some.front entry e.1 is_entry (sym e.0 ∙ is) in
    c.in_default-all_outs.ensures entry.outs is_entry.outs is_entry.few parts.outs

pub returns : goal.returns
returns c =
    let e = c.in-Some.ensures in
    let z = c.in-Some-all_outs.ensures in
    entry_of_front c.in-Some.front c.in-Some-all_outs.outs _ e.1 z.0 z.1 z.2
    (λ new. elim c.else-front.branch [
      | goal.else-front-via-then-front+else-not-is_empty w ↦
          sym w.as_slice.ensures.outs ∙ is_nil w.as_slice.result.now (sym w.if-not-is_empty.ensures)
      | goal.else-front-via-else-front w ↦ absurd (cc (new, w.if-front.false))
    ]) e.0
