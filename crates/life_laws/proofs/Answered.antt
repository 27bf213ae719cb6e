-- An event that sends again fills the gap, by the first frames of what it sends.
use Rattle.std.proofs.Common.{◌≡◌, ℕ, Bool, List, [], ◌∷◌, ◌++◌, length, refl, ◌∙◌, ap, arith}
use Rattle.std.proofs.Common.{length-append}
use Rattle.std.specs.Prelude.{map}
use Rattle.std.specs.List.{flat_map}
use Rattle.std.specs.Option.{option_to_list}
use Rattle.std.specs.declared.option.Option.{Option}
use Rattle.std.proofs.lemmas.List.{map-append}
use Rattle.kept_entries.specs.Numbers.{is_side}
use Rattle.pair_entries.specs.declared.entry.Entry.{Entry}
use Rattle.event_decisions.specs.Decide.{Asked, Words}
use Rattle.session_frames.specs.Frames.{kind_of}
use Rattle.life_laws.specs.Bodies.{bodies_of}
use Rattle.life_laws.specs.Forms.{Form, all_placed, form_frame}
use Rattle.life_laws.specs.Repeats.{repeat_forms, repeated_to}
use Rattle.life_laws.specs.Happens.{firsts_to}
use Rattle.life_laws.specs.Taken.{take_more}
use Rattle.life_laws.specs.Laws.{EventsFillGaps}
use Rattle.life_laws.proofs.Grown.{if_yes, own_side, all_placed-append}
use Rattle.life_laws.proofs.Filled.{frames_fill}
use Rattle.life_laws.proofs.World.{adds-to, keeps}

flat_same : (frame : Form → List ℕ) (forms : List Form)
    → flat_map (λ text. text) (map frame forms) ≡ flat_map frame forms
flat_same frame [] = refl
flat_same frame (form ∷ forms) = ap (λ l. frame form ++ l) (flat_same frame forms)

pub events_fill : (answers : List Entry → (active : Bool) → Option Asked → Option Words → Type 0)
    → EventsFillGaps answers
events_fill answers read message_of names window before after event now added cl vl cp vp shows h
    cn vn happens asked is order known =
    let side = asked.side in
    let d = happens.decision in
    let adds = adds-to answers names window before event now added cl vl cp vp h cn vn d
    happens.decides in
    let given = adds.given asked is in
    let later = keeps answers names window before event now added cl vl cp vp h cn vn after
    happens in
    let forms = repeat_forms after.entries side asked.from asked.to now in
    let firsts = firsts_to side event d in
    let grown : all_placed side after.entries ≡ all_placed side before.entries
    ++ all_placed side (option_to_list d.entry) = ap (all_placed side) happens.entries
    ∙ all_placed-append side before.entries (option_to_list d.entry) in
    let size = ap length grown
    ∙ length-append (all_placed side before.entries) (all_placed side (option_to_list d.entry)) in
    let again : repeated_to side after.entries now d.repeat ≡ forms =
    ap (repeated_to side after.entries now) is
    ∙ if_yes (is_side side side) forms [] (own_side side) in
    record {
      frames = map (form_frame names side) forms;
      rest = map (form_frame names side) firsts;
      joined = ap (λ l. map (form_frame names side) (l ++ firsts)) again
          ∙ map-append (form_frame names side) forms firsts;
      filled = ap (λ l. (take_more asked.from (map read (bodies_of (kind_of side) l))).next)
          (flat_same (form_frame names side) forms)
          ∙ frames_fill read message_of names side after.entries asked.from asked.to now shows
          (later.in_order side) known given.0 order (omega (arith, given.1, size));
    }
