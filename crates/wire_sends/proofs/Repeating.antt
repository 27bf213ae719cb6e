-- Messages that are sent again, one after another.
use Rattle.std.proofs.Common.{◌≡◌, ℕ, suc, ◌+◌, ◌-◌, ◌<◌, ◌≤◌, Bool, true, false, List, []}
use Rattle.std.proofs.Common.{◌∷◌, ◌++◌, refl, sym, ◌∙◌, ap, subst, arith, append_assoc, Some, None}
use Rattle.std.proofs.Common.{◌⊎◌, inl, inr, Ok}
use Rattle.std.specs.Prelude.{Result}
use Rattle.gate_log.specs.Log.{OnlyRead}
use Rattle.pair_journal.specs.declared.error.JournalError.{JournalError}
use Rattle.pair_journal.specs.Calls.{HasDiskCause}
use Rattle.std.specs.Prelude.{map, if◌then◌else◌}
use Rattle.std.specs.declared.option.Option.{Option}
use Rattle.std.proofs.lemmas.List.{map-append}
use Rattle.order_meaning.specs.declared.Side.{Side}
use Rattle.order_meaning.specs.declared.names.Names.{Names}
use Rattle.pair_entries.specs.declared.entry.Entry.{Entry}
use Rattle.wires.specs.Wire.{WireCall}
use Rattle.life_laws.specs.Forms.{Placed, Form, Again, placed, form_frame, out_frame}
use Rattle.life_laws.specs.Repeats.{Run, close_run, repeat_one, run_after, repeats}
use Rattle.wire_sends.specs.Sent.{Sent}
use Rattle.wire_sends.specs.declared.repeats.Run.{Run as KeptRun}
use Rattle.wire_sends.specs.Again.{Repeated, IsBegun, run_of}
use Rattle.wire_sends.proofs.Sendings.{sent_append, sent_none}

-- the frame of a message that is sent again
pub again_frame : (names : Names) (side : Side) (p : Placed) (now : ℕ)
    → out_frame names side p now true ≡ form_frame names side (Again p now)
unfolding form_frame
again_frame names side p now = refl

-- a message behind a run
pub again_sent : (a b d : Option (List WireCall)) (up mid after : Bool) (names : Names)
    (side : Side) (run : Option Run) (n now : ℕ) (p : Placed) (piece : List ℕ)
    → p.out.admin ≡ false
    → piece ≡ out_frame names side p now true
    → Sent a b up (map (form_frame names side) (close_run run n now)) mid
    → Sent b d mid (piece ∷ []) after
    → Sent a d up (map (form_frame names side) (repeat_one run n now (Some p))) after
again_sent a b d up mid after names side run n now p piece admin is closed sent =
    let T : Form → List ℕ = form_frame names side in
    let same : piece ≡ T (Again p now) = is ∙ again_frame names side p now in
    let joined : map T (close_run run n now) ++ piece ∷ []
    ≡ map T (close_run run n now ++ Again p now ∷ []) =
    ap (λ (l : List ℕ). map T (close_run run n now) ++ l ∷ []) same
    ∙ sym (map-append T (close_run run n now) (Again p now ∷ [])) in
    subst (λ c. Sent a d up
    (map T (if c then [] else close_run run n now ++ Again p now ∷ [])) after) (sym admin)
    (subst (λ l. Sent a d up l after) joined
    (sent_append a b d up mid after (map T (close_run run n now)) (piece ∷ []) closed sent))

repeats_step : (entries : List Entry) (side : Side) (run : Option Run) (n now end : ℕ) (p : Placed)
    → n < end → placed side n entries ≡ Some p
    → repeats entries side run n now (end - n) ≡ repeat_one run n now (Some p)
    ++ repeats entries side (run_after run n (Some p)) (n + 1) now (end - (n + 1))
repeats_step entries side run n now end p less is =
    let count : end - n ≡ suc (end - (n + 1)) = omega (arith, less) in
    ap (repeats entries side run n now) count
    ∙ ap (λ o. repeat_one run n now o
    ++ repeats entries side (run_after run n o) (n + 1) now (end - (n + 1))) is

pub begin_repeat : (a : Option (List WireCall)) (up : Bool) (frame : Form → List ℕ)
    (all : List Form)
    → Repeated a a up frame up all all
begin_repeat a up frame all = record { done = []; sent = sent_none a up; joined = refl }

-- one message more
pub repeat_step : (a b d : Option (List WireCall)) (up mid after : Bool) (frame : Form → List ℕ)
    (entries : List Entry) (side : Side) (run : Option Run) (n now end : ℕ) (p : Placed)
    (all : List Form) → n < end → placed side n entries ≡ Some p
    → Repeated a b up frame mid (repeats entries side run n now (end - n)) all
    → Sent b d mid (map frame (repeat_one run n now (Some p))) after
    → Repeated a d up frame after
    (repeats entries side (run_after run n (Some p)) (n + 1) now (end - (n + 1))) all
repeat_step a b d up mid after frame entries side run n now end p all less is so_far sent =
    let one = repeat_one run n now (Some p) in
    let left = repeats entries side (run_after run n (Some p)) (n + 1) now (end - (n + 1)) in
    record {
      done = so_far.done ++ one;
      sent = subst (λ l. Sent a d up l after) (sym (map-append frame so_far.done one))
          (sent_append a b d up mid after (map frame so_far.done) (map frame one)
          so_far.sent sent);
      joined = append_assoc so_far.done one left
          ∙ ap (λ l. so_far.done ++ l)
          (sym (repeats_step entries side run n now end p less is)) ∙ so_far.joined;
    }

-- the last run closed
pub end_repeat : (a b d : Option (List WireCall)) (up mid after : Bool) (frame : Form → List ℕ)
    (entries : List Entry) (side : Side) (run : Option Run) (n now end : ℕ) (all : List Form)
    → end ≤ n → ((r : Run) → run ≡ Some r → n ≡ end)
    → Repeated a b up frame mid (repeats entries side run n now (end - n)) all
    → Sent b d mid (map frame (close_run run end now)) after
    → Sent a d up (map frame all) after
end_repeat a b d up mid after frame entries side run n now end all past at so_far sent =
    let none : end - n ≡ 0 = omega (arith, past) in
    let left : repeats entries side run n now (end - n) ≡ close_run run end now =
    ap (repeats entries side run n now) none ∙ go run at in
    let whole : so_far.done ++ close_run run end now ≡ all =
    ap (λ l. so_far.done ++ l) (sym left) ∙ so_far.joined in
    subst (λ l. Sent a d up (map frame l) after) whole
    (subst (λ l. Sent a d up l after) (sym (map-append frame so_far.done (close_run run end now)))
    (sent_append a b d up mid after (map frame so_far.done) (map frame (close_run run end now))
    so_far.sent sent))
  where
    go : (o : Option Run) → ((r : Run) → o ≡ Some r → n ≡ end)
        → close_run o n now ≡ close_run o end now
    go None h = refl
    go (Some r) h = ap (λ k. close_run (Some r) k now) (h r refl)

-- ---- the end of the numbers

pub begun_at : (run : Option KeptRun) (n end : ℕ) → IsBegun run n → (run ≡ None) ⊎ (n ≤ end)
    → end ≤ n → IsBegun run end
begun_at None n end begun within past = tt
begun_at (Some run) n end begun (inl none) past = absurd (cc none)
begun_at (Some run) n end begun (inr most) past =
    (begun.0, omega (arith, begun.1, past), omega (arith, begun.2, most), begun.3)

pub run_ends : (run : Option KeptRun) (n end : ℕ) → (run ≡ None) ⊎ (n ≤ end) → end ≤ n
    → (r : Run) → run_of run ≡ Some r → n ≡ end
run_ends None n end within past r is = absurd (cc is)
run_ends (Some run) n end (inl none) past r is = absurd (cc none)
run_ends (Some run) n end (inr most) past r is = omega (arith, most, past)

-- ---- a disk that is only read

pub only_none : (told : Option (List ℕ)) (image : List ℕ → Type 0) → OnlyRead told told image image
only_none told image = record { same = refl; images = λ c h. h; kept = λ c h. h }

pub only_more : (t0 t1 t2 : Option (List ℕ)) (i0 i1 i2 : List ℕ → Type 0) → OnlyRead t0 t1 i0 i1
    → OnlyRead t1 t2 i1 i2 → OnlyRead t0 t2 i0 i2
only_more t0 t1 t2 i0 i1 i2 a b = record {
  same = b.same ∙ a.same;
  images = λ c h. a.images c (b.images c h);
  kept = λ c h. b.kept c (a.kept c h);
}

pub no_fault : {T : Type 0} (before now : ℕ) (r : Result T JournalError) (x : T) → r ≡ Ok x
    → HasDiskCause before now r → now ≡ before
no_fault before now r x is has = subst (HasDiskCause before now) is has
