use Rattle.std.proofs.Common.{◌≡◌, ◌∙◌, Bool, true, false, refl, ap, sym, subst}
use Rattle.std.specs.Prelude.{if◌then◌else◌}
use Rattle.order_meaning.specs.declared.Side.TheVariants.{Client, Venue}
use Rattle.pair_entries.specs.declared.entry.Entry.{Entry}
use Rattle.kept_entries.specs.Numbers.{GoesOn, first_numbers, numbers_before, numbers_after}
use Rattle.kept_entries.specs.Spots.{behind, AreMarks}
use Rattle.kept_entries.specs.State.{KeptState}
use Rattle.kept_entries.specs.declared.spot.Spot.{Spot}
use Rattle.kept_entries.proofs.Adding.{at_added, begins_added, sources_added, kept_added}
use Rattle.kept_entries.proofs.kept.Kept.add.Goals as goal

-- where the last day begins, by whether one does with the entry
new_begins : (b : Bool) (here end begins : Spot) → b ≡ true → here ≡ end
    → here ≡ (if b then end else begins)
new_begins b here end begins new is = is ∙ ap (λ (t : Bool). if t then end else begins) (sym new)

old_begins : (b : Bool) (here end begins : Spot) → b ≡ false → here ≡ begins
    → here ≡ (if b then end else begins)
old_begins b here end begins old is = is ∙ ap (λ (t : Bool). if t then end else begins) (sym old)

pub invariant_of-self : goal.invariant_of-self
invariant_of-self c =
    let old = c.self.inside.reached in
    let more = c.add.new.self in
    let entry = c.args.entry.now in
    let pushed = c.add.ensures in
    let kept = c.self.invariant in
    let new : entry.reset ≡ c.entry.inside.reset =
    sym (ap (λ (e : Entry). e.reset) c.entry.view_is) in
    let sound = c.requires.sound in
    let on = subst (λ (k : KeptState). GoesOn (numbers_before
    (numbers_after first_numbers k.entries) entry) entry) (sym c.self.view_is) c.requires.goes_on in
    record {
      sound = c.spot.ensures.sound;
      begins = begins_added old more entry pushed kept.sound sound on c.self.inside.begins
          (behind more) _ kept.begins refl (elim c.if-entry.branch [
            | goal.then-entry w ↦ new_begins entry.reset _ _ _ (new ∙ w.if-entry.true)
                (w.self-is ∙ w.end-self-inside.ensures.end)
            | goal.else-entry w ↦ old_begins entry.reset _ _ _ (new ∙ w.if-entry.false) w.self-is
          ]);
      at = at_added old more entry pushed kept.sound sound on _ _ kept.at
          c.begun_with-self-inside.ensures;
      marks = subst (λ es. AreMarks es c.mark.new.marks.items) (sym pushed)
          (c.mark.ensures.marked old entry (c.spot.ensures.end ∙ ap behind pushed) kept.marks);
      client = sources_added old more entry pushed kept.sound sound on Client _ _ kept.client
          c.note.ensures.items;
      venue = sources_added old more entry pushed kept.sound sound on Venue _ _ kept.venue
          c.note-2.ensures.items;
      room = λ no. absurd (cc no);
    }

pub returns : goal.returns
returns c = kept_added c.self.inside.reached c.add.new.self
    c.args.entry.now c.self.inside.spare c.args.self.now c.self.view_is c.add.ensures
