use Rattle.std.proofs.Common.{◌≡◌, ◌+◌, ◌<◌, ◌^◌, length, List, sym, ap, subst, arith}
use Rattle.pair_entries.specs.declared.entry.Entry.{Entry}
use Rattle.kept_entries.specs.Numbers.{GoesOn, first_numbers, numbers_before, numbers_after}
use Rattle.kept_entries.specs.Days.{payload_behind}
use Rattle.kept_entries.specs.Spots.{end_of}
use Rattle.kept_entries.specs.declared.spot.Spot.{Spot}
use Rattle.kept_entries.proofs.Adding.{sound_added, end_added, short_added, day_added, day_short}
use Rattle.kept_entries.proofs.Marking.{far_entries}
use Rattle.kept_entries.proofs.reached.Reached.add.Goals as goal

pub behind-self-inside-requires-clause-index : goal.behind-self-inside-requires-clause-index
behind-self-inside-requires-clause-index c = omega (
  arith,
  ap (λ (s : Spot). s.index) c.self.invariant.end,
  far_entries c.self.inside.past.entries,
  ap end_of c.self.view_is,
  c.requires.limit,
)

pub behind-self-inside-requires-clause-place : goal.behind-self-inside-requires-clause-place
behind-self-inside-requires-clause-place c = omega (
  arith,
  ap (λ (s : Spot). s.place) c.self.invariant.end,
  ap end_of c.self.view_is,
  c.requires.limit,
)

pub day_after-self-inside-requires : goal.day_after-self-inside-requires
day_after-self-inside-requires c = day_short c.self.inside.day c.self.inside.past.entries
    c.self.invariant.day c.self.invariant.short

pub invariant_of-self : goal.invariant_of-self
invariant_of-self c =
    let old = c.self.inside.past.entries in
    let more = c.joined-self-inside.result.entries in
    let entry = c.args.entry.now in
    let pushed = c.joined-self-inside.ensures in
    let reached = c.self.invariant in
    let sound = c.requires.sound in
    let on = subst (λ (es : List Entry). GoesOn (numbers_before
    (numbers_after first_numbers es) entry) entry) (sym c.self.view_is) c.requires.goes_on in
    let len : c.args.len ≡ length (payload_behind old entry) =
    subst (λ (es : List Entry). c.args.len ≡ length (payload_behind es entry))
    (sym c.self.view_is) c.requires.len in
    let limit = subst (λ (es : List Entry). end_of es + 5 + c.args.len < 2 ^ 32)
    (sym c.self.view_is) c.requires.limit in
    record {
      sound = sound_added old more entry pushed reached.sound sound on;
      end = end_added old more entry pushed reached.sound sound on c.self.inside.end _ c.args.len
          reached.end len c.behind-self-inside.ensures;
      short = short_added old more entry pushed reached.sound sound on c.args.len len limit;
      day = day_added old more entry pushed reached.sound sound on _ _ reached.day
          c.day_after-self-inside.ensures;
    }
