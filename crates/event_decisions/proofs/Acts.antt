-- What the acts of a row are, and what it does to the numbers.
use Rattle.std.proofs.Common.{◌≡◌, ℕ, ◌+◌, ◌-◌, ◌≤◌, ◌==◌, ◌⊎◌, ◌&&◌, ◌||◌, Bool, true, false}
use Rattle.std.proofs.Common.{List, [], ◌∷◌, ◌++◌, Option, Some, None, refl, sym, ap, arith, min}
use Rattle.std.proofs.Common.{if◌then◌else◌, subst, inl, inr}
use Rattle.std.proofs.lemmas.Bool.{eqb-true}
use Rattle.order_meaning.specs.declared.Side.{Side}
use Rattle.session_core.specs.declared.session.Session.{Session}
use Rattle.session_core.specs.declared.head.What.{What}
use Rattle.session_core.specs.declared.head.What.TheVariants as what
use Rattle.session_core.specs.declared.act.Admin.TheVariants as admin
use Rattle.session_core.specs.declared.act.Act.{Act}
use Rattle.session_core.specs.declared.act.Act.TheVariants.{Take, Skip, Say, Resend}
use Rattle.session_core.specs.Laws.{AsksFrom}
use Rattle.session_core.specs.Table.{Row, S1, S2, S3, S4, S5, S6, S9, S11, S13, S14, S15, S16, S17}
use Rattle.session_core.specs.Table.{S18, S22, S23, S24, S25, S26, S27, S28, S29, S30, S31, S32}
use Rattle.session_core.specs.Table.{S33}
use Rattle.session_core.specs.Table.{S34, S35, S36, Quiet, effect_of, expects, only}
use Rattle.session_core.specs.Table.{resend_end, is_asked_for, asking}
use Rattle.session_core.specs.Table.{is_test_due, is_heartbeat_due, is_ask_due, down}
use Rattle.session_logon.specs.Content.{is_admin}
use Rattle.kept_entries.specs.Numbers.{Takes, Taking}
use Rattle.event_decisions.specs.Decide.{Repeat, repeat_of, takes, is_for_application}
use Rattle.event_decisions.specs.Laws.{is_breaking, taking_by}
use Rattle.event_decisions.proofs.Picked.{Picked, IsPlain, IsIdle}

-- ---- what does not change

pub record Keeps (before after : Session) : Type 0 where
  pub side : after.side ≡ before.side
  pub next_out : after.numbers.next_out ≡ before.numbers.next_out

same : (s : Session) → Keeps s s
same s = record { side = refl; next_out = refl }

counts_keep : (b : Bool) (n : ℕ) (s : Session) → Keeps s (down (if b then expects (n + 1) s else s))
counts_keep true n s = record { side = refl; next_out = refl }
counts_keep false n s = record { side = refl; next_out = refl }

pub rows_keep : (r : Row) (n now : ℕ) (s : Session) → Keeps s (effect_of r n now s).next
rows_keep (S6 tag) n now s = counts_keep (n == s.numbers.next_in) n s
rows_keep (S14 tag) n now s = counts_keep (n == s.numbers.next_in) n s
rows_keep (S15 reason) n now s = counts_keep (n == s.numbers.next_in) n s
rows_keep other n now s = record { side = refl; next_out = refl }

-- where nothing is taken, the expected number stays
untaken : (b : Bool) (n : ℕ) (acts : List Act) (s : Session)
    → takes ((if b then Take else Skip) ∷ acts) ≡ false
    → (down (if b then expects (n + 1) s else s)).numbers.next_in ≡ s.numbers.next_in
untaken true n acts s none = absurd (cc none)
untaken false n acts s none = refl

pub rows_stay : (r : Row) (n now : ℕ) (s : Session) → takes (effect_of r n now s).acts ≡ false
    → (effect_of r n now s).next.numbers.next_in ≡ s.numbers.next_in
rows_stay (S6 tag) n now s none = untaken (n == s.numbers.next_in) n _ s none
rows_stay (S14 tag) n now s none = untaken (n == s.numbers.next_in) n _ s none
rows_stay (S15 reason) n now s none = untaken (n == s.numbers.next_in) n _ s none
rows_stay (S9 heart reset) n now s none = absurd (cc none)
rows_stay S11 n now s none = absurd (cc none)
rows_stay (S16 to) n now s none = absurd (cc none)
rows_stay S24 n now s none = absurd (cc none)
rows_stay S25 n now s none = absurd (cc none)
rows_stay (S26 from to) n now s none = absurd (cc none)
rows_stay (S27 to) n now s none = absurd (cc none)
rows_stay S28 n now s none = absurd (cc none)
rows_stay (S29 tag reason) n now s none = absurd (cc none)
rows_stay S30 n now s none = absurd (cc none)
rows_stay S31 n now s none = absurd (cc none)
rows_stay other n now s none = refl

-- ---- what is sent again

-- what is sent again was asked for from there on, and was given out
abbrev pub Repeats : Side → What → ℕ → Option Repeat → Type 0
Repeats side w next_out None = Unit {0}
Repeats side w next_out (Some r) =
    (r.side ≡ side) × AsksFrom w r.from × (r.to ≤ next_out - 1)

ends_before : (to : ℕ) (s : Session) → resend_end to s ≤ s.numbers.next_out - 1
ends_before to s = by (to == 0)
  where
    by : (b : Bool) → (if b then s.numbers.next_out - 1 else min to (s.numbers.next_out - 1))
        ≤ s.numbers.next_out - 1
    by true = omega arith
    by false = omega arith

asked : (side : Side) (w : What) (from to : ℕ) (s : Session) → w ≡ what.ResendRequest from to
    → Repeats side w s.numbers.next_out
    (Some (record { side = side; from = from; to = resend_end to s }))
asked side w from to s is =
    (refl, subst (λ (v : What). AsksFrom v from) (sym is) refl, ends_before to s)

none_only : (side : Side) (w : What) (next_out : ℕ) (b : Bool) (s : Session)
    → Repeats side w next_out (repeat_of side (only b (asking s)))
none_only side w next_out true s = tt
none_only side w next_out false s = tt

none_skipped : (side : Side) (w : What) (next_out : ℕ) (b : Bool)
    → Repeats side w next_out (repeat_of side (only b Skip))
none_skipped side w next_out true = tt
none_skipped side w next_out false = tt

none_behind : (side : Side) (w : What) (next_out : ℕ) (b : Bool) (acts : List Act)
    → Repeats side w next_out (repeat_of side acts)
    → Repeats side w next_out (repeat_of side ((if b then Take else Skip) ∷ acts))
none_behind side w next_out true acts is = is
none_behind side w next_out false acts is = is

none_ticked : (side : Side) (w : What) (next_out : ℕ) (x y z : Bool) (s : Session)
    → Repeats side w next_out (repeat_of side (only x (Say admin.TestRequest)
    ++ only y (Say (admin.Heartbeat false)) ++ only z (asking s)))
none_ticked side w next_out true true true s = tt
none_ticked side w next_out true true false s = tt
none_ticked side w next_out true false true s = tt
none_ticked side w next_out true false false s = tt
none_ticked side w next_out false true true s = tt
none_ticked side w next_out false true false s = tt
none_ticked side w next_out false false true s = tt
none_ticked side w next_out false false false s = tt

pub rows_repeat : (side : Side) (r : Row) (w : What) (m n now : ℕ) (s : Session)
    → Picked r w m s.numbers.next_in
    → Repeats side w s.numbers.next_out (repeat_of side (effect_of r n now s).acts)
rows_repeat side (S4 skips) w m n now s p = none_skipped side w s.numbers.next_out skips
rows_repeat side (S6 tag) w m n now s p =
    none_behind side w s.numbers.next_out (n == s.numbers.next_in) _ tt
rows_repeat side (S14 tag) w m n now s p =
    none_behind side w s.numbers.next_out (n == s.numbers.next_in) _ tt
rows_repeat side (S15 reason) w m n now s p =
    none_behind side w s.numbers.next_out (n == s.numbers.next_in) _ tt
rows_repeat side (S22 from to dup) w m n now s p = asked side w from to s p
rows_repeat side (S23 dup) w m n now s p =
    none_only side w s.numbers.next_out (is_asked_for dup s.ask) s
rows_repeat side (S26 from to) w m n now s p = asked side w from to s p.0
rows_repeat side S34 w m n now s p = none_ticked side w s.numbers.next_out
    (is_test_due now s) (is_heartbeat_due now s) (is_ask_due s.ask now s.heart) s
rows_repeat side other w m n now s p = tt

-- ---- what is said

abbrev pub says_admin : List Act → Bool
says_admin [] = true
says_admin (Say a ∷ acts) = is_admin a && says_admin acts
says_admin (act ∷ acts) = says_admin acts

abbrev pub says_break : List Act → Bool
says_break [] = false
says_break (Say (admin.Reject tag reason) ∷ acts) = is_breaking tag reason || says_break acts
says_break (act ∷ acts) = says_break acts

-- what the acts are at a message: what the application gets, a Reject of it, another Reject, or
-- messages of the session alone
pub data Tells (w : What) (acts : List Act) : Type 0 where
  Gets : acts ≡ Take ∷ [] → is_for_application w ≡ true → Tells w acts
  Rejected : (tag reason : ℕ) → w ≡ what.Faulty tag reason
      → acts ≡ Take ∷ Say (admin.Reject tag reason) ∷ [] → Tells w acts
  Broken : says_break acts ≡ true → Tells w acts
  Sessions : (takes acts ≡ true → is_for_application w ≡ false) → says_admin acts ≡ true
      → Tells w acts

skips : (w : What) (acts : List Act) → takes acts ≡ false → says_admin acts ≡ true → Tells w acts
skips w acts none says = Sessions (λ some. absurd (cc (none, some))) says

own : (w : What) (acts : List Act) → is_for_application w ≡ false → says_admin acts ≡ true
    → Tells w acts
own w acts session says = Sessions (λ _. session) says

skips_only : (w : What) (b : Bool) → Tells w (only b Skip)
skips_only w true = skips w (Skip ∷ []) refl refl
skips_only w false = skips w [] refl refl

skips_asking : (w : What) (b : Bool) (s : Session) → Tells w (Skip ∷ only b (asking s))
skips_asking w true s = skips w _ refl refl
skips_asking w false s = skips w _ refl refl

skips_again : (w : What) (from to : ℕ) (b : Bool) (s : Session)
    → Tells w (Skip ∷ Resend from to ∷ only b (asking s))
skips_again w from to true s = skips w _ refl refl
skips_again w from to false s = skips w _ refl refl

own_either : (w : What) (b : Bool) (acts : List Act) → is_for_application w ≡ false
    → says_admin acts ≡ true → Tells w ((if b then Take else Skip) ∷ acts)
own_either w true acts session says = own w _ session says
own_either w false acts session says = own w _ session says

broken_either : (w : What) (b : Bool) (acts : List Act) → says_break acts ≡ true
    → Tells w ((if b then Take else Skip) ∷ acts)
broken_either w true acts is = Broken is
broken_either w false acts is = Broken is

ticks : (w : What) (x y z : Bool) (s : Session) → Tells w (only x (Say admin.TestRequest)
    ++ only y (Say (admin.Heartbeat false)) ++ only z (asking s))
ticks w true true true s = skips w _ refl refl
ticks w true true false s = skips w _ refl refl
ticks w true false true s = skips w _ refl refl
ticks w true false false s = skips w _ refl refl
ticks w false true true s = skips w _ refl refl
ticks w false true false s = skips w _ refl refl
ticks w false false true s = skips w _ refl refl
ticks w false false false s = skips w _ refl refl

-- a Reject for SendingTime(52) or NewSeqNo(36) breaks, whatever its reason
breaks_by_tag : (reason : Bool) → (reason || true) ≡ true
breaks_by_tag true = refl
breaks_by_tag false = refl

pub rows_tell : (r : Row) (w : What) (m n now : ℕ) (s : Session)
    → Picked r w m s.numbers.next_in → Tells w (effect_of r n now s).acts
rows_tell (S4 b) w m n now s p = skips_only w b
rows_tell (S6 tag) w m n now s p = own_either w (n == s.numbers.next_in) _ p.session refl
rows_tell (S9 heart reset) w m n now s p = own w _ p.0.session refl
rows_tell S11 w m n now s p = own w _ p.0.session refl
rows_tell (S14 tag) w m n now s p = broken_either w (n == s.numbers.next_in) _ refl
rows_tell (S15 reason) w m n now s p = broken_either w (n == s.numbers.next_in) _
    (ap (λ b. b || false) (breaks_by_tag (reason == 9)))
rows_tell (S16 to) w m n now s p =
    own w _ (ap is_for_application p.0) refl
rows_tell S17 w m n now s p = Broken refl
rows_tell (S18 reason) w m n now s p =
    Broken (ap (λ b. b || false) (breaks_by_tag (reason == 9)))
rows_tell (S22 from to dup) w m n now s p =
    skips_again w from (resend_end to s) (is_asked_for dup s.ask) s
rows_tell (S23 dup) w m n now s p = skips_asking w (is_asked_for dup s.ask) s
rows_tell S24 w m n now s p = own w _ p.0.session refl
rows_tell S25 w m n now s p = own w _ p.0.session refl
rows_tell (S26 from to) w m n now s p = own w _ (ap is_for_application p.0) refl
rows_tell (S27 to) w m n now s p = own w _ (ap is_for_application p.0) refl
rows_tell S28 w m n now s p = Broken refl
rows_tell (S29 tag reason) w m n now s p = Rejected tag reason p.0 refl
rows_tell S30 w m n now s p = own w _ p.0.session refl
rows_tell S31 w m n now s p = Gets refl p.1
rows_tell S34 w m n now s p =
    ticks w (is_test_due now s) (is_heartbeat_due now s) (is_ask_due s.ask now s.heart) s
rows_tell other w m n now s p = skips w _ refl refl

-- ---- rows by which nothing is taken

none_taken : (x y z : Bool) (s : Session) → takes (only x (Say admin.TestRequest)
    ++ only y (Say (admin.Heartbeat false)) ++ only z (asking s)) ≡ false
none_taken true y z s = refl
none_taken false true z s = refl
none_taken false false true s = refl
none_taken false false false s = refl

no_skip : (b : Bool) → takes (only b Skip) ≡ false
no_skip true = refl
no_skip false = refl

pub idle_takes : (r : Row) (n now : ℕ) (s : Session) → IsIdle r
    → takes (effect_of r n now s).acts ≡ false
idle_takes (S4 b) n now s is = no_skip b
idle_takes S34 n now s is =
    none_taken (is_test_due now s) (is_heartbeat_due now s) (is_ask_due s.ask now s.heart) s
idle_takes S1 n now s is = refl
idle_takes S2 n now s is = refl
idle_takes S3 n now s is = refl
idle_takes S5 n now s is = refl
idle_takes S13 n now s is = refl
idle_takes S32 n now s is = refl
idle_takes S33 n now s is = refl
idle_takes S35 n now s is = refl
idle_takes S36 n now s is = refl
idle_takes Quiet n now s is = refl
idle_takes other n now s is = absurd is

-- such a row may stand for any message
pub idle_picks : (r : Row) (w : What) (n expected : ℕ) → IsIdle r → Picked r w n expected
idle_picks S1 w n expected is = tt
idle_picks S2 w n expected is = tt
idle_picks S3 w n expected is = tt
idle_picks (S4 b) w n expected is = tt
idle_picks S5 w n expected is = tt
idle_picks S13 w n expected is = tt
idle_picks S32 w n expected is = tt
idle_picks S33 w n expected is = tt
idle_picks S34 w n expected is = tt
idle_picks S35 w n expected is = tt
idle_picks S36 w n expected is = tt
idle_picks Quiet w n expected is = tt
idle_picks other w n expected is = absurd is

-- ---- what is taken was expected

-- it counts by what it is; or it counts one, where its head is wrong
abbrev pub WasExpected : What → (n before after : ℕ) → List Act → Type 0
WasExpected w n before after acts = (Takes (taking_by w) n before after × (before ≤ after))
    ⊎ ((n ≡ before) × (after ≡ n + 1) × (says_break acts ≡ true))

was_expected : (w : What) (n before : ℕ) → IsPlain w → n ≡ before
    → Takes (taking_by w) n before (n + 1) × (before ≤ n + 1)
was_expected w n before is same = (
  subst (λ (t : Taking). Takes t n before (n + 1)) (sym is.counts) (same, refl),
  omega (arith, same),
)

counts_one : (w : What) (n before : ℕ) (b : Bool) (acts : List Act) (s : Session)
    → (n == s.numbers.next_in) ≡ b → IsPlain w
    → takes ((if b then Take else Skip) ∷ acts) ≡ true
    → WasExpected w n s.numbers.next_in
    (down (if b then expects (n + 1) s else s)).numbers.next_in
    ((if b then Take else Skip) ∷ acts)
counts_one w n before true acts s at is some =
    inl (was_expected w n s.numbers.next_in is (eqb-true n s.numbers.next_in at))
counts_one w n before false acts s at is some = absurd (cc some)

breaks_one : (w : What) (n : ℕ) (b : Bool) (acts : List Act) (s : Session)
    → (n == s.numbers.next_in) ≡ b → says_break acts ≡ true
    → takes ((if b then Take else Skip) ∷ acts) ≡ true
    → WasExpected w n s.numbers.next_in
    (down (if b then expects (n + 1) s else s)).numbers.next_in
    ((if b then Take else Skip) ∷ acts)
breaks_one w n true acts s at is some = inr (eqb-true n s.numbers.next_in at, refl, is)
breaks_one w n false acts s at is some = absurd (cc some)

by_what : (w v : What) (n before after : ℕ) → w ≡ v → Takes (taking_by v) n before after
    → before ≤ after → Takes (taking_by w) n before after × (before ≤ after)
by_what w v n before after is expected low =
    (subst (λ (u : What). Takes (taking_by u) n before after) (sym is) expected, low)

pub rows_take : (r : Row) (w : What) (n now : ℕ) (s : Session) → Picked r w n s.numbers.next_in
    → takes (effect_of r n now s).acts ≡ true
    → WasExpected w n s.numbers.next_in (effect_of r n now s).next.numbers.next_in
    (effect_of r n now s).acts
rows_take (S4 b) w n now s p some = absurd (cc (no_skip b, some))
rows_take (S6 tag) w n now s p some =
    counts_one w n 0 (n == s.numbers.next_in) _ s refl p some
rows_take (S9 heart reset) w n now s p some = inl (was_expected w n s.numbers.next_in p.0 p.1)
rows_take S11 w n now s p some = inl (was_expected w n s.numbers.next_in p.0 p.1)
rows_take (S14 tag) w n now s p some = breaks_one w n (n == s.numbers.next_in) _ s refl refl some
rows_take (S15 reason) w n now s p some = breaks_one w n (n == s.numbers.next_in) _ s refl
    (ap (λ b. b || false) (breaks_by_tag (reason == 9))) some
rows_take (S16 to) w n now s p some =
    inl (by_what w (what.Reset to) n s.numbers.next_in to p.0 (refl, p.1) p.1)
rows_take S24 w n now s p some = inl (was_expected w n s.numbers.next_in p.0 p.1)
rows_take S25 w n now s p some = inl (was_expected w n s.numbers.next_in p.0 p.1)
rows_take (S26 from to) w n now s p some =
    inl (by_what w (what.ResendRequest from to) n s.numbers.next_in (n + 1) p.0 (p.1, refl)
    (omega (arith, p.1)))
rows_take (S27 to) w n now s p some =
    inl (by_what w (what.GapFill to) n s.numbers.next_in to p.0 (p.1, inl refl)
    (omega (arith, p.1, p.2)))
rows_take S28 w n now s p some =
    inl (by_what w (what.GapFill p.0) n s.numbers.next_in (n + 1) p.1 (p.2, inr refl)
    (omega (arith, p.2)))
rows_take (S29 tag reason) w n now s p some =
    inl (by_what w (what.Faulty tag reason) n s.numbers.next_in (n + 1) p.0 (p.1, refl)
    (omega (arith, p.1)))
rows_take S30 w n now s p some = inl (was_expected w n s.numbers.next_in p.0 p.1)
rows_take S31 w n now s p some =
    inl (
      subst (λ (t : Taking). Takes t n s.numbers.next_in (n + 1)) (sym p.0) (p.2, refl),
      omega (arith, p.2),
    )
rows_take S34 w n now s p some = absurd (cc (
  none_taken (is_test_due now s) (is_heartbeat_due now s)
      (is_ask_due s.ask now s.heart) s,
  some,
))
rows_take other w n now s p some = absurd (cc some)
