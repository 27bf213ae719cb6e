-- What is sent again leads a receiver that expects its first number past its last.
use Rattle.std.proofs.Common.{◌≡◌, ℕ, zero, suc, ◌+◌, ◌-◌, ◌≤◌, Bool, true, false, List, [], ◌∷◌}
use Rattle.std.proofs.Common.{◌++◌, length, refl, sym, ◌∙◌, ap, subst, arith, append_assoc, Some}
use Rattle.std.proofs.Common.{None}
use Rattle.std.specs.Prelude.{◌==◌, if◌then◌else◌, map}
use Rattle.std.specs.declared.option.Option.{Option}
use Rattle.std.proofs.lemmas.Bool.Decides.{nat_tests}
use Rattle.order_meaning.specs.declared.Side.{Side}
use Rattle.pair_entries.specs.declared.entry.Out.{Out}
use Rattle.pair_entries.specs.declared.entry.Entry.{Entry}
use Rattle.life_laws.specs.Forms.{Placed, all_placed, Form, Again, AreForms}
use Rattle.life_laws.specs.Taken.{Message, Read, GapFill, Taking, take_more, read_of_form}
use Rattle.life_laws.specs.Repeats.{Run, close_run, extend_run, repeat_one, run_after, repeats}
use Rattle.life_laws.specs.Repeats.{repeat_forms}
use Rattle.life_laws.specs.Standing.{NumberedFrom}
use Rattle.life_laws.specs.Laws.{ShowsNumbers, RepeatsFillGaps, FramesFillGaps}
use Rattle.life_laws.proofs.Grown.{if_yes}
use Rattle.life_laws.proofs.FirstHalf.{read_all}
use Rattle.life_laws.proofs.Repeats.{found, repeats_are}
use Rattle.std.proofs.lemmas.List.{map-append}

-- the number that is expected before a run is closed
abbrev expected : Option Run → ℕ → ℕ
expected None n = n
expected (Some run) n = run.from

abbrev next_of : Taking → ℕ
next_of taking = taking.next

module _ (read : List ℕ → Read) (message_of : Out → Message) (shows : ShowsNumbers message_of) where
  abbrev reads : List Form → List Read
  reads forms = map (read_of_form read message_of) forms

  filled : (from to : ℕ) (rest : List Read)
      → take_more from (GapFill from to ∷ rest) ≡ take_more to rest
  filled from to rest =
      if_yes (from == from) (take_more to rest) (take_more from rest) (grind (arith, nat_tests))

  closed : (run : Option Run) (n now : ℕ) (rest : List Read)
      → take_more (expected run n) (reads (close_run run n now) ++ rest) ≡ take_more n rest
  closed None n now rest = refl
  closed (Some run) n now rest = filled run.from n rest

  again : (p : Placed) (n now : ℕ) (rest : List Read) → p.out.number ≡ n
      → (take_more n (reads (Again p now ∷ []) ++ rest)).next ≡ (take_more (n + 1) rest).next
  again p n now rest number =
      let same : (message_of p.out).number ≡ n = shows p.out ∙ number in
      ap (λ (t : Taking). t.next) (if_yes ((message_of p.out).number == n)
      (with_message p.out.admin) (take_more n rest) (grind (arith, nat_tests)))
      ∙ go p.out.admin
    where
      with_message : Bool → Taking
      with_message admin =
          let t = take_more (n + 1) rest in
          if admin then t else record t { taken = message_of p.out ∷ t.taken }

      go : (admin : Bool) → (with_message admin).next ≡ (take_more (n + 1) rest).next
      go true = refl
      go false = refl

  module _ (side : Side) (entries : List Entry)
      (numbered : NumberedFrom 1 (all_placed side entries)) where
    one : (run : Option Run) (n now : ℕ) (p : Placed) (count : ℕ) → p.out.number ≡ n
        → ((r : Option Run) → (take_more (expected r (n + 1))
        (reads (repeats entries side r (n + 1) now count))).next ≡ (n + 1) + count)
        → (admin : Bool) → next_of (take_more (expected run n)
        (reads ((if admin then [] else close_run run n now ++ Again p now ∷ [])
        ++ repeats entries side (if admin then extend_run run n p.at else None) (n + 1) now count)))
        ≡ (n + 1) + count
    one None n now p count number more true = more (extend_run None n p.at)
    one (Some run) n now p count number more true = more (Some run)
    one run n now p count number more false =
        let later = repeats entries side None (n + 1) now count in
        ap (λ l. (take_more (expected run n) l).next)
        (map-append (read_of_form read message_of) (close_run run n now ++ Again p now ∷ []) later
        ∙ ap (λ l. l ++ reads later)
        (map-append (read_of_form read message_of) (close_run run n now) (Again p now ∷ []))
        ∙ append_assoc (reads (close_run run n now)) (reads (Again p now ∷ [])) (reads later))
        ∙ ap (λ (t : Taking). t.next) (closed run n now (reads (Again p now ∷ []) ++ reads later))
        ∙ again p n now (reads later) number ∙ more None

    fill : (count : ℕ) (run : Option Run) (n now : ℕ) → 1 ≤ n
        → n + count ≤ length (all_placed side entries) + 1
        → (take_more (expected run n) (reads (repeats entries side run n now count))).next
        ≡ n + count
    fill zero None n now low high = omega arith
    fill zero (Some run) n now low high =
        let e : n ≡ n + 0 = omega arith in
        ap (λ (t : Taking). t.next) (filled run.from n []) ∙ e
    fill (suc count) run n now low high =
        let at = found entries side numbered n low (omega (arith, high)) in
        let e : (n + 1) + count ≡ n + suc count = omega arith in
        subst (λ o. (take_more (expected run n) (reads (repeat_one run n now o
        ++ repeats entries side (run_after run n o) (n + 1) now count))).next ≡ n + suc count)
        (sym at.1)
        (one run n now at.0 count at.2
        (λ r. fill count r (n + 1) now (omega arith) (omega (arith, high))) at.0.out.admin ∙ e)

pub repeats_fill : RepeatsFillGaps
repeats_fill read message_of side entries from to now shows numbered low order high =
    let e : from + (to + 1 - from) ≡ to + 1 = omega (arith, order) in
    fill read message_of shows side entries numbered (to + 1 - from) None from now low
    (omega (arith, e, high)) ∙ e

pub frames_fill : FramesFillGaps
frames_fill read message_of names side entries from to now shows numbered known low order high =
    let are : AreForms entries side (repeat_forms entries side from to now) =
    repeats_are entries side numbered (to + 1 - from) None from now tt low
    (omega (arith, order, high)) in
    ap (λ l. (take_more from l).next)
    (read_all read message_of names side entries known (repeat_forms entries side from to now) are)
    ∙ repeats_fill read message_of side entries from to now shows numbered low order high
