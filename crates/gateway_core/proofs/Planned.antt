-- From a step and what answers it to the plan.
use Rattle.std.proofs.Common.{◌≡◌, ℕ, suc, ◌+◌, ◌≤◌, Bool, true, false, List, [], ◌∷◌, ◌++◌, length}
use Rattle.std.proofs.Common.{not}
use Rattle.std.proofs.Common.{Option, Some, None, refl, sym, ap, subst, ◌∙◌, arith, append-nil}
use Rattle.std.proofs.Common.{if◌then◌else◌, Ok, Err, nat_lt, IfOk}
use Rattle.std.specs.Prelude.{Result, ◌&&◌, ◌==◌, cond}
use Rattle.std.specs.List.{list_any}
use Rattle.std.proofs.lemmas.Bool.{ltb-false}
use Rattle.std.proofs.lemmas.List.Sums.{sum_by-cons}
use Rattle.order_meaning.specs.declared.Side.{Side}
use Rattle.order_meaning.specs.declared.Side.TheVariants.{Client, Venue}
use Rattle.order_meaning.specs.declared.names.Names.{Names}
use Rattle.order_chains.specs.declared.item.ChainItem.{ChainItem}
use Rattle.field_groups.specs.declared.fault.SplitFault.{SplitFault}
use Rattle.field_groups.specs.Field.{Field}
use Rattle.field_groups.specs.Fields.{SplitsInto}
use Rattle.field_groups.proofs.Determined.{determined}
use Rattle.message_tables.specs.Tables.{◌>>=◌, first_of, or_else, is_one_of}
use Rattle.session_core.specs.declared.act.Act.{Act}
use Rattle.session_core.specs.declared.act.Act.TheVariants.{Take, Skip, Say, Resend, HangUp}
use Rattle.session_core.specs.declared.head.Head.{Head}
use Rattle.session_core.specs.declared.session.Session.{Session}
use Rattle.session_core.specs.declared.session.Spent.{Spent}
use Rattle.session_core.specs.declared.session.Step.{Step}
use Rattle.session_core.specs.Table as session
use Rattle.session_core.specs.Table.{says, is_spent, settled, does, counted, heard, row_of}
use Rattle.session_core.specs.Table.{effect_of, is_say}
use Rattle.session_logon.specs.Content.{said}
use Rattle.pair_entries.specs.declared.entry.Took.{Took}
use Rattle.pair_entries.specs.declared.entry.Out.{Out}
use Rattle.pair_entries.specs.declared.entry.Entry.{Entry}
use Rattle.kept_entries.specs.Given.{is_source, letter_of, letters_to, has_letter}
use Rattle.kept_entries.specs.Numbers.{is_side}
use Rattle.pair_entries.specs.Payload.{IsOut, AreOuts}
use Rattle.event_decisions.specs.Body.{reading_of}
use Rattle.event_decisions.specs.Decide.{Sessions, Words, Given, Heard, Asked, Decision}
use Rattle.event_decisions.specs.Decide.{session_of, with_session, is_active, head_in}
use Rattle.event_decisions.specs.Decide.{input_of, stepped, heard_in, out_of, says_of, takes}
use Rattle.event_decisions.specs.Decide.{took_if, took_of, asks, asked_if, asked_by, asked_of}
use Rattle.event_decisions.specs.Decide.{give, concluded, decide, decide_by}
use Rattle.event_decisions.specs.Event.{Event, Opened, Frame, Closed, Tick, End, side_of}
use Rattle.event_decisions.proofs.Bodies.{bodies_are_read}
use Rattle.gateway_core.specs.declared.plan.Plan.{Plan}
use Rattle.gateway_core.specs.declared.plan.PlanError.{PlanError}
use Rattle.gateway_core.specs.declared.plan.PlanError.TheVariants as errors
use Rattle.message_answers.specs.Answer.{Answers}
use Rattle.message_answers.specs.Chains.{joining, joining_letter, if_new, item_said}
use Rattle.gateway_core.specs.Planning.{concluded_by, resolved, quiet_by, Comes, JoinsWith}
use Rattle.gateway_core.specs.Planning.{with_entry}
use Rattle.gateway_core.specs.Planning.{StepsAreSayable}
use Rattle.gateway_core.specs.State.{CoreState, sessions_in, Plans, PlansEvent}

-- ---- the outs of an entry

pub more_outs : (outs : List Out) (out : Out) → AreOuts outs → IsOut out
    → AreOuts (outs ++ out ∷ [])
more_outs [] out are is = (is, tt)
more_outs (x ∷ outs) out are is = (are.0, more_outs outs out are.1 is)

one_more : (x y : ℕ) → x ≡ y → suc x ≡ 1 + y
one_more x y is = omega arith

-- an act's part in the number of messages
abbrev part : Act → ℕ
part act = cond (is_say act) 1 0

pub says_length : (side : Side) (heart : ℕ) (h : Heard) (n : ℕ) (acts : List Act)
    → length (says_of side heart h n acts) ≡ says acts
says_length side heart h n [] = refl
says_length side heart h n (Say a ∷ acts) = one_more (length (says_of side heart h (n + 1) acts))
    (says acts) (says_length side heart h (n + 1) acts) ∙ sym (sum_by-cons part (Say a) acts)
says_length side heart h n (Take ∷ acts) = says_length side heart h n acts
says_length side heart h n (Skip ∷ acts) = says_length side heart h n acts
says_length side heart h n (Resend from to ∷ acts) = says_length side heart h n acts
says_length side heart h n (HangUp ∷ acts) = says_length side heart h n acts

-- and so are these few, behind none
pub few_said : (side : Side) (heart : ℕ) (h : Heard) (n : ℕ) (acts : List Act)
    (before outs : List Out) → before ≡ [] → outs ≡ before ++ says_of side heart h n acts
    → says acts ≤ 2 → length outs ≤ 2
few_said side heart h n acts before outs none is few =
    let own : outs ≡ says_of side heart h n acts =
    is ∙ ap (λ (l : List Out). l ++ says_of side heart h n acts) none in
    let count : length outs ≡ says acts = ap length own ∙ says_length side heart h n acts in
    omega (arith, count, few)

-- a number is left for each
pub spare : (first sent : ℕ) → first ≤ 1_000_000_000 → is_spent first sent ≡ false
    → first + sent ≤ 1_000_000_000
spare first sent most is = by (nat_lt 0 sent) (nat_lt 1_000_000_000 (first + sent)) refl refl is
  where
    by : (a b : Bool) → nat_lt 0 sent ≡ a → nat_lt 1_000_000_000 (first + sent) ≡ b
        → (a && b) ≡ false → first + sent ≤ 1_000_000_000
    by true true none over is = absurd (cc is)
    by true false none over is = ltb-false 1_000_000_000 (first + sent) over
    by false b none over is = omega (arith, ltb-false 0 sent none, most)

-- what is given out, where no number is left or one is
abbrev given_by : Session → ℕ → Bool → Result (ℕ × Session) Spent
given_by s now true = Err session.spent
given_by s now false = Ok (
  s.numbers.next_out,
  record s { numbers = record s.numbers { next_out = s.numbers.next_out + 1 }; said = now },
)

given_as : (s : Session) (now : ℕ) (b : Bool) → (if b then Err session.spent else Ok (
  s.numbers.next_out,
  record s { numbers = record s.numbers { next_out = s.numbers.next_out + 1 }; said = now },
)) ≡ given_by s now b
given_as s now true = refl
given_as s now false = refl

-- ---- each step may be said

pub unspent : (now : ℕ) (e t : Step) (first : ℕ) → settled now e ≡ Ok t
    → t.next.numbers.next_out ≡ first + says t.acts → is_spent first (says t.acts) ≡ false
unspent now e t first is counts = by (is_spent e.next.numbers.next_out (says e.acts)) refl is
  where
    by : (b : Bool) → is_spent e.next.numbers.next_out (says e.acts) ≡ b
        → (if b then Err session.spent else Ok (does e.acts (counted now (says e.acts) e.next)))
        ≡ Ok t → is_spent first (says t.acts) ≡ false
    by true at is = absurd (cc is)
    by false at is =
        let same : does e.acts (counted now (says e.acts) e.next) ≡ t = cc is in
        let sent : says e.acts ≡ says t.acts = ap (λ (x : Step). says x.acts) same in
        let after : e.next.numbers.next_out + says e.acts ≡ t.next.numbers.next_out =
        ap (λ (x : Step). x.next.numbers.next_out) same in
        let from : e.next.numbers.next_out ≡ first = omega (arith, sent, after, counts) in
        subst (λ (n : ℕ). is_spent n (says t.acts) ≡ false) from
        (subst (λ (n : ℕ). is_spent e.next.numbers.next_out n ≡ false) sent at)

-- every step says two messages at most, and has a number for each
pub steps_sayable :
    ((s : Session) (input : session.Input) (now : ℕ)
    → IfOk (session.step s input now) (λ t. says t.acts ≤ 2))
    → ((s : Session) (input : session.Input) (now : ℕ)
    → IfOk (session.step s input now)
    (λ t. t.next.numbers.next_out ≡ s.numbers.next_out + says t.acts))
    → StepsAreSayable
steps_sayable two counts s input now t is =
    let few : says t.acts ≤ 2 =
    subst (λ (r : Result Step Spent). IfOk r (λ x. says x.acts ≤ 2)) is (two s input now) in
    let count : t.next.numbers.next_out ≡ s.numbers.next_out + says t.acts =
    subst (λ (r : Result Step Spent). IfOk r
    (λ x. x.next.numbers.next_out ≡ s.numbers.next_out + says x.acts)) is (counts s input now) in
    let h : Session = heard input now s in
    let e : Step = effect_of (row_of h input now) (session.number_of input) now h in
    (few, unspent now e t s.numbers.next_out is count)

-- ---- no request goes on where a session speaks

own_side : (a b : Side) (x y : Bool) → a ≡ b → (not (is_side a b) && x && y) ≡ false
own_side Client Client x y same = refl
own_side Venue Venue x y same = refl
own_side Client Venue x y same = absurd (cc same)
own_side Venue Client x y same = absurd (cc same)

not_source : (took : Took) (side : Side) (letter : ℕ) → side ≡ took.side
    → is_source took side letter ≡ false
not_source took side letter same = own_side side took.side
    (list_any (λ b. letter == b) (letters_to side)) (has_letter letter took.raw) same

abbrev source_by : Took → Side → Option ℕ → Option (ℕ × ℕ)
source_by took side l = elim l [
  | None ↦ None
  | Some letter ↦ if is_source took side letter then Some (took.number, letter) else None
]

abbrev source_with : Option Took → Out → Option (ℕ × ℕ)
source_with o out = elim o [
  | None ↦ None
  | Some took ↦ source_by took out.side (letter_of out.msg_type)
]

abbrev joins : ℕ × ℕ → Option ℕ
joins source = if is_one_of joining source.1 then Some source.1 else None

none_then : (b : Bool) (source : ℕ × ℕ) → b ≡ false
    → ((if b then Some source else None) >>= joins) ≡ None
none_then true source is = absurd (cc is)
none_then false source is = refl

no_letter : (took : Took) (side : Side) (l : Option ℕ) → side ≡ took.side
    → (source_by took side l >>= joins) ≡ None
no_letter took side None same = refl
no_letter took side (Some letter) same =
    none_then (is_source took side letter) (took.number, letter)
    (not_source took side letter same)

joining_none : (e : Entry) (took : Took) (out : Out) → e.took ≡ Some took → out.side ≡ took.side
    → joining_letter e out ≡ None
joining_none e took out is same = ap (λ (o : Option Took). source_with o out >>= joins) is
    ∙ no_letter took out.side (letter_of out.msg_type) same

no_joining : (e : Entry) (took : Took) (side : Side) (heart : ℕ) (h : Heard) (n : ℕ)
    (acts : List Act) → e.took ≡ Some took → side ≡ took.side
    → first_of (joining_letter e) (says_of side heart h n acts) ≡ None
unfolding first_of
no_joining e took side heart h n [] is same = refl
no_joining e took side heart h n (Say a ∷ acts) is same =
    let first = joining_none e took
    (out_of side n false (said side a heart n h.number h.msg_type h.echo)) is same in
    let rest = no_joining e took side heart h (n + 1) acts is same in
    λ i. or_else (first i) (rest i)
no_joining e took side heart h n (Take ∷ acts) is same =
    no_joining e took side heart h n acts is same
no_joining e took side heart h n (Skip ∷ acts) is same =
    no_joining e took side heart h n acts is same
no_joining e took side heart h n (Resend from to ∷ acts) is same =
    no_joining e took side heart h n acts is same
no_joining e took side heart h n (HangUp ∷ acts) is same =
    no_joining e took side heart h n acts is same

-- nothing joins where nothing is taken
pub joins_nothing : (chains : List ChainItem) (own : List Out)
    → JoinsWith chains None own None None
joins_nothing chains own at next added are = refl

-- nothing joins where a session alone speaks
pub session_joins_nothing : (chains : List ChainItem) (side : Side) (body : List ℕ) (taken : Bool)
    (number : Option ℕ) (heart : ℕ) (h : Heard) (n : ℕ) (acts : List Act)
    → JoinsWith chains (took_if taken side body number) (says_of side heart h n acts) None None
session_joins_nothing chains side body false number heart h n acts at next added are = refl
session_joins_nothing chains side body true None heart h n acts at next added are = refl
session_joins_nothing chains side body true (Some number) heart h n acts at next added are =
    let took : Took = record { side = side; number = number; raw = body } in
    let e : Entry = record {
      at = at;
      reset = false;
      took = Some took;
      next = next;
      outs = says_of side heart h n acts ++ added;
    } in
    let outs : e.outs ≡ says_of side heart h n acts =
    ap (λ (l : List Out). says_of side heart h n acts ++ l) are
    ∙ append-nil (says_of side heart h n acts) in
    let none : first_of (joining_letter e) e.outs ≡ None =
    ap (first_of (joining_letter e)) outs
    ∙ no_joining e took side heart h n acts refl refl in
    sym (ap (λ (o : Option ℕ). if_new chains (o >>= (λ letter.
    Some (item_said took.number letter (reading_of took.raw).fields)))) none)

-- ---- the item of a plan

pub item_with : (b : Bool) (e : Entry) (item : Option ChainItem) (f : Entry → Option ChainItem)
    → item ≡ f e → with_entry item (if b then None else Some e)
    ≡ ((if b then None else Some e) >>= f)
item_with true e item f is = refl
item_with false e item f is = is

-- ---- the decision

concluded_as : (names : Names) (window : ℕ) (s : Sessions) (event : Event) (now : ℕ) (step : Step)
    (given : Result Given Side) → concluded names window s event now step given
    ≡ concluded_by s (side_of event) (heard_in event (input_of names window event now))
    (took_of event (input_of names window event now) step.acts) step now given
concluded_as names window s event now step (Err side) = refl
concluded_as names window s event now step (Ok given) = refl

decided_as : (names : Names) (window : ℕ) (s : Sessions) (event : Event) (now : ℕ)
    (words : Option Words) (step : Step) → stepped names window s event now ≡ Ok step
    → decide names window s event now words
    ≡ resolved s (side_of event) (heard_in event (input_of names window event now))
    (took_of event (input_of names window event now) step.acts) words step now
decided_as names window s event now words step is =
    ap (decide_by names window s event now words) is
    ∙ concluded_as names window s event now step
    (give now (with_session (side_of event) step.next s) words)

-- what comes is a plan, where these words answer
plans_by : (core : CoreState) (entries : List Entry) (event : Event) (now : ℕ)
    (words : Option Words) (r : Result Plan PlanError)
    → Answers entries (is_active core.venue.link)
    (asked_of core.config.names core.config.window (sessions_in core) event now) words
    → Comes (decide core.config.names core.config.window (sessions_in core) event now words) r
    → Plans core entries event now r
plans_by core entries event now words (Ok plan) answer comes =
    record { words = words; answer = answer; decided = comes }
plans_by core entries event now words (Err (errors.NumbersSpent side)) answer comes =
    record { words = words; answer = answer; decided = comes }
plans_by core entries event now words (Err errors.NoMemory) answer comes = tt

-- ---- an event that brings no message

abbrev pub IsQuiet : Event → Type 0
IsQuiet (Frame side body) = ⊥
IsQuiet event = Unit {0}

not_asked : (b : Bool) → asked_if b None ≡ None
not_asked true = refl
not_asked false = refl

quiet_asked : (event : Event) (input : session.Input) (r : Result Step Spent) → IsQuiet event
    → asked_by event input r ≡ None
quiet_asked (Frame side body) input r is = absurd is
quiet_asked event input (Err spent) is = refl
quiet_asked (Opened side) input (Ok step) is = not_asked (asks input step.acts)
quiet_asked (Closed side) input (Ok step) is = not_asked (asks input step.acts)
quiet_asked (Tick side) input (Ok step) is = not_asked (asks input step.acts)
quiet_asked (End side) input (Ok step) is = not_asked (asks input step.acts)

quiet_decided : (names : Names) (window : ℕ) (s : Sessions) (event : Event) (now : ℕ)
    (r : Result Step Spent) → IsQuiet event
    → decide_by names window s event now None r ≡ quiet_by s (side_of event) now r
quiet_decided names window s (Frame side body) now r is = absurd is
quiet_decided names window s event now (Err spent) is = refl
quiet_decided names window s (Opened side) now (Ok step) is = concluded_as names window s
    (Opened side) now step (give now (with_session side step.next s) None)
quiet_decided names window s (Closed side) now (Ok step) is = concluded_as names window s
    (Closed side) now step (give now (with_session side step.next s) None)
quiet_decided names window s (Tick side) now (Ok step) is = concluded_as names window s
    (Tick side) now step (give now (with_session side step.next s) None)
quiet_decided names window s (End side) now (Ok step) is = concluded_as names window s
    (End side) now step (give now (with_session side step.next s) None)

pub quiet_plans : (core : CoreState) (entries : List Entry) (event : Event) (now : ℕ)
    (step : Result Step Spent) (r : Result Plan PlanError) → IsQuiet event
    → step ≡ stepped core.config.names core.config.window (sessions_in core) event now
    → Comes (quiet_by (sessions_in core) (side_of event) now step) r
    → Plans core entries event now r
quiet_plans core entries event now step r quiet is comes =
    let names : Names = core.config.names in
    let window : ℕ = core.config.window in
    let s : Sessions = sessions_in core in
    plans_by core entries event now None r
    (subst (λ (asked : Option Asked). Answers entries (is_active core.venue.link) asked None)
    (sym (quiet_asked event (input_of names window event now) (stepped names window s event now)
    quiet)) refl)
    (subst (λ (d : Result Decision Side). Comes d r)
    (sym (ap (decide_by names window s event now None) (sym is)
    ∙ quiet_decided names window s event now step quiet)) comes)

-- where the session of the side is this
pub stepped_plans : (core : CoreState) (entries : List Entry) (event : Event) (now : ℕ)
    (s : Session) (step : Result Step Spent) (r : Result Plan PlanError) → IsQuiet event
    → s ≡ session_of (side_of event) (sessions_in core)
    → step ≡ session.step s (input_of core.config.names core.config.window event now) now
    → Comes (quiet_by (sessions_in core) (side_of event) now step) r
    → Plans core entries event now r
stepped_plans core entries event now s step r quiet same is comes =
    quiet_plans core entries event now step r quiet (is ∙ ap (λ (x : Session).
    session.step x (input_of core.config.names core.config.window event now) now) same) comes

-- the connection ended
pub closed_plans : (core : CoreState) (entries : List Entry) (side : Side) (now : ℕ)
    (s next : Session) (acts : List Act) (r : Result Plan PlanError)
    → s ≡ session_of side (sessions_in core)
    → session.step s session.Closed now ≡ Ok (does [] next) → acts ≡ []
    → Comes (quiet_by (sessions_in core) side now (Ok (does acts next))) r
    → Plans core entries (Closed side) now r
closed_plans core entries side now s next acts r same does_so none comes =
    stepped_plans core entries (Closed side) now s (Ok (does acts next)) r tt same
    (ap (λ (x : List Act). Ok (does x next)) none ∙ sym does_so) comes

-- an event of a side, as it is handed in
pub side_plans : (core : CoreState) (entries : List Entry) (given : Option Event) (event : Event)
    (now : ℕ) (r : Result Plan PlanError) → given ≡ Some event → Plans core entries event now r
    → IfOk r (λ plan. plan.fresh ≡ None) → PlansEvent core entries given now r
side_plans core entries given event now r is plans fresh =
    subst (λ (o : Option Event). PlansEvent core entries o now r) (sym is) (plans, fresh)

-- ---- a frame

pub read_as : (body : List ℕ) (fields : List Field) (fault : Option SplitFault)
    → SplitsInto body fields fault → reading_of body ≡ record { fields = fields; fault = fault }
read_as body fields fault splits =
    let one = determined body (reading_of body).fields fields (reading_of body).fault fault
    (bodies_are_read body) splits in
    λ i. record { fields = one.0 i; fault = one.1 i }

-- where a session does this at a frame of this head, and these words answer it
abbrev pub FramePlans : CoreState → List Entry → Side → List ℕ → ℕ → Option Words
    → Result Plan PlanError → Step → Head → Type 0
FramePlans core entries side body now words r step head =
    session.step (session_of side (sessions_in core)) (session.Message head) now ≡ Ok step
    → Answers entries (is_active core.venue.link)
    (asked_if (asks (session.Message head) step.acts)
    (took_if (takes step.acts) side body head.number)) words
    → Comes (resolved (sessions_in core) side (heard_in (Frame side body) (session.Message head))
    (took_if (takes step.acts) side body head.number) words step now) r
    → Plans core entries (Frame side body) now r

frame_by : (core : CoreState) (entries : List Entry) (side : Side) (body : List ℕ) (now : ℕ)
    (words : Option Words) (r : Result Plan PlanError) (step : Step)
    → FramePlans core entries side body now words r step
    (head_in core.config.names core.config.window side body now)
frame_by core entries side body now words r step is answer comes =
    let names : Names = core.config.names in
    let window : ℕ = core.config.window in
    let s : Sessions = sessions_in core in
    let event : Event = Frame side body in
    let input : session.Input = input_of names window event now in
    plans_by core entries event now words r
    (subst (λ (asked : Option Asked). Answers entries (is_active core.venue.link) asked words)
    (sym (ap (asked_by event input) is)) answer)
    (subst (λ (d : Result Decision Side). Comes d r)
    (sym (decided_as names window s event now words step is)) comes)

pub frame_plans : (core : CoreState) (entries : List Entry) (side : Side) (body : List ℕ) (now : ℕ)
    (words : Option Words) (r : Result Plan PlanError) (step : Step) (head : Head)
    → head ≡ head_in core.config.names core.config.window side body now
    → FramePlans core entries side body now words r step head
frame_plans core entries side body now words r step head is =
    subst (FramePlans core entries side body now words r step) (sym is)
    (frame_by core entries side body now words r step)
