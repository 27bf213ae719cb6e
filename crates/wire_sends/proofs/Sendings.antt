-- Pieces that are sent on a wire, one after another.
use Rattle.std.proofs.Common.{◌≡◌, ℕ, ◌≤◌, Bool, true, false, List, [], ◌∷◌, ◌++◌, take, refl, sym}
use Rattle.std.proofs.Common.{length, get_or, drop}
use Rattle.std.proofs.Common.{◌∙◌, ap, subst, append_assoc, append-nil, inl, inr, Some, None}
use Rattle.std.proofs.Common.{arith}
use Rattle.std.specs.Prelude.{fold, map, if◌then◌else◌, ◌-◌}
use Rattle.std.specs.declared.option.Option.{Option}
use Rattle.std.proofs.lemmas.List.{take_all}
use Rattle.order_meaning.specs.declared.Side.{Side}
use Rattle.order_meaning.specs.declared.Side.TheVariants.{Client, Venue}
use Rattle.order_meaning.specs.declared.names.Names.{Names}
use Rattle.pair_entries.specs.declared.entry.Out.{Out}
use Rattle.kept_entries.specs.Numbers.{is_side, outs_to}
use Rattle.wires.specs.Told.{GrowsBy}
use Rattle.wires.specs.Wire.{WireCall, within_after}
use Rattle.session_frames.specs.Frames.{fill_out}
use Rattle.life_laws.specs.Forms.{form_frame, out_frame, placed_at}
use Rattle.life_laws.specs.Repeats.{close_run}
use Rattle.life_laws.specs.Happens.{first_form}
use Rattle.life_laws.specs.Sends.{Sends}
use Rattle.wire_sends.specs.declared.repeats.Run.{Run as KeptRun}
use Rattle.wire_sends.specs.Again.{run_of}
use Rattle.wire_sends.specs.Sent.{Sent}

-- without a connection nothing is sent
off : (pieces : List (List ℕ)) (calls : List WireCall) (after : Bool)
    → Sends false pieces calls after → (calls ≡ []) × (after ≡ false)
off [] calls after h = h
off (p ∷ pieces) calls after h = h

pub sends_append : (up mid after : Bool) (xs ys : List (List ℕ)) (s t : List WireCall)
    → Sends up xs s mid → Sends mid ys t after → Sends up (xs ++ ys) (s ++ t) after
sends_append true mid after [] ys s t a b =
    subst (λ l. Sends true ys (l ++ t) after) (sym a.0) (subst (λ m. Sends m ys t after) a.1 b)
sends_append false mid after [] ys s t a b =
    subst (λ l. Sends false ys (l ++ t) after) (sym a.0) (subst (λ m. Sends m ys t after) a.1 b)
sends_append false mid after (x ∷ xs) ys s t a b =
    subst (λ l. Sends false (x ∷ xs ++ ys) (l ++ t) after) (sym a.0)
    (off ys t after (subst (λ m. Sends m ys t after) a.1 b))
sends_append true mid after (x ∷ xs) ys s t (inl a) b =
    inl (a.0 ++ t, ap (λ l. l ++ t) a.1, sends_append true mid after xs ys a.0 t a.2 b)
sends_append true mid after (x ∷ xs) ys s t (inr a) b =
    let none = off ys t after (subst (λ m. Sends m ys t after) a.2 b) in
    inr (a.0, ap (λ l. s ++ l) none.0 ∙ append-nil s ∙ a.1, none.1)

pub grows_append : {A : Type 0} (a b c : Option (List A)) (x y : List A)
    → GrowsBy a b x → GrowsBy b c y → GrowsBy a c (x ++ y)
grows_append None b c x y h k = subst (λ o. GrowsBy o c y) h k
grows_append (Some a) None None x y h k = tt
grows_append (Some a) None (Some c) x y h k = absurd (cc k)
grows_append (Some a) (Some b) None x y h k = tt
grows_append (Some a) (Some b) (Some c) x y h k = k ∙ ap (λ l. l ++ y) h ∙ append_assoc a x y

pub grows_none : {A : Type 0} (a : Option (List A)) → GrowsBy a a []
grows_none None = refl
grows_none (Some a) = sym (append-nil a)

pub sends_none : (up : Bool) → Sends up [] [] up
sends_none true = (refl, refl)
sends_none false = (refl, refl)

pub sent_none : (a : Option (List WireCall)) (up : Bool) → Sent a a up [] up
sent_none a up = record { calls = []; grows = grows_none a; sends = sends_none up }

pub sent_append : (a b c : Option (List WireCall)) (up mid after : Bool) (xs ys : List (List ℕ))
    → Sent a b up xs mid → Sent b c mid ys after → Sent a c up (xs ++ ys) after
sent_append a b c up mid after xs ys s t = record {
  calls = s.calls ++ t.calls;
  grows = grows_append a b c s.calls t.calls s.grows t.grows;
  sends = sends_append up mid after xs ys s.calls t.calls s.sends t.sends;
}

pub fold-append : (within : Bool) (xs ys : List WireCall)
    → fold within_after within (xs ++ ys) ≡ fold within_after (fold within_after within xs) ys
fold-append within [] ys = refl
fold-append within (x ∷ xs) ys = fold-append (within_after within x) xs ys

-- the frames of an out, where it is of this side, and of those behind it
pub firsts_more : (names : Names) (side : Side) (at : ℕ) (out : Out) (outs : List Out)
    → map (form_frame names side) (map (first_form at) (outs_to side (out ∷ outs)))
    ≡ (if is_side side out.side then form_frame names side (first_form at out) ∷ [] else [])
    ++ map (form_frame names side) (map (first_form at) (outs_to side outs))
firsts_more names side at out outs = go (is_side side out.side)
  where
    go : (b : Bool)
        → map (form_frame names side) (map (first_form at) (if b then out ∷ outs_to side outs
        else outs_to side outs))
        ≡ (if b then form_frame names side (first_form at out) ∷ [] else [])
        ++ map (form_frame names side) (map (first_form at) (outs_to side outs))
    go true = refl
    go false = refl

-- the same of a list that has a first
pub firsts_split : (names : Names) (side : Side) (at : ℕ) (outs : List Out) (out : Out)
    → 1 ≤ length outs → out ≡ get_or outs 0 out
    → map (form_frame names side) (map (first_form at) (outs_to side outs))
    ≡ (if is_side side out.side then form_frame names side (first_form at out) ∷ [] else [])
    ++ map (form_frame names side) (map (first_form at)
    (outs_to side (take (length outs - 1) (drop 1 outs))))
firsts_split names side at [] out some is = absurd (omega (arith, some))
firsts_split names side at (x ∷ outs) out some is =
    let all : take (length (x ∷ outs) - 1) outs ≡ outs =
    take_all (length (x ∷ outs) - 1) outs (omega arith) in
    firsts_more names side at x outs
    ∙ ap (λ (o : Out). (if is_side side o.side then form_frame names side (first_form at o) ∷ []
    else []) ++ map (form_frame names side) (map (first_form at) (outs_to side outs))) (sym is)
    ∙ ap (λ l. (if is_side side out.side then form_frame names side (first_form at out) ∷ []
    else []) ++ map (form_frame names side) (map (first_form at) (outs_to side l))) (sym all)

pub same_side : (s t : Side) → is_side s t ≡ true → s ≡ t
same_side Client Client e = refl
same_side Venue Venue e = refl
same_side Client Venue e = absurd (cc e)
same_side Venue Client e = absurd (cc e)

-- ---- frames

pub first_sent : (a b : Option (List WireCall)) (up after : Bool) (names : Names) (side : Side)
    (at : ℕ) (out : Out) (own : Bool) (piece : List ℕ) → own ≡ is_side side out.side
    → own ≡ true → piece ≡ out_frame names side (placed_at at out) at false
    → Sent a b up (piece ∷ []) after
    → Sent a b up (if is_side side out.side
    then form_frame names side (first_form at out) ∷ [] else []) after
unfolding form_frame
first_sent a b up after names side at out own piece same own_side is sent =
    let of_side : is_side side out.side ≡ true = sym same ∙ own_side in
    subst (λ c. Sent a b up (if c then form_frame names side (first_form at out) ∷ [] else [])
    after) (sym of_side) (subst (λ (p : List ℕ). Sent a b up (p ∷ []) after) is sent)

pub fill_sent : (a b : Option (List WireCall)) (up after : Bool) (names : Names) (side : Side)
    (run : Option KeptRun) (kept : KeptRun) (n now : ℕ) (piece : List ℕ) → run ≡ Some kept
    → piece ≡ fill_out names side kept.from (n - 1) kept.at now → Sent a b up (piece ∷ []) after
    → Sent a b up (map (form_frame names side) (close_run (run_of run) n now)) after
unfolding form_frame
fill_sent a b up after names side run kept n now piece some is sent =
    subst (λ r. Sent a b up (map (form_frame names side) (close_run (run_of r) n now)) after)
    (sym some) (subst (λ (p : List ℕ). Sent a b up (p ∷ []) after) is sent)
