-- What an event decides and commits, and what a commit that fails leaves.
use Rattle.std.proofs.Common.{◌≡◌, ℕ, ◌+◌, ◌-◌, ◌≤◌, Bool, false, true, List, ◌∷◌, ◌++◌, [], take}
use Rattle.std.proofs.Common.{length-append, length, refl, sym, ◌∙◌, ap, subst, arith, append_assoc}
use Rattle.std.proofs.Common.{append-nil, Some, None, inl, inr, ◌⊎◌, IfSome, Ok, Err}
use Rattle.std.specs.Prelude.{Result, IfErr, IsErrAnd, if◌then◌else◌, is_some, unwrap_or}
use Rattle.std.specs.declared.option.Option.{Option}
use Rattle.std.specs.Option.{option_to_list, ForSome}
use Rattle.outside.specs.Disk.{HasOneImage}
use Rattle.outside.specs.declared.disk.TheConstants.{MAX_DISK}
use Rattle.order_meaning.specs.declared.Side.{Side}
use Rattle.order_meaning.specs.declared.Side.TheVariants.{Client, Venue}
use Rattle.order_meaning.specs.declared.names.Names.{Names}
use Rattle.gate_log.specs.Records.{blocks}
use Rattle.pair_entries.specs.declared.TheConstants.{MAX_NEXT}
use Rattle.pair_entries.specs.declared.entry.Out.{Out}
use Rattle.pair_entries.specs.declared.entry.Entry.{Entry}
use Rattle.pair_entries.specs.Payload.{Next, AreNext, IsEntry, AreOuts}
use Rattle.pair_journal.specs.declared.error.JournalError.{JournalError}
use Rattle.pair_journal.specs.declared.error.JournalError.TheVariants as errors
use Rattle.kept_entries.specs.Numbers.{next_out, outs_to, Numbered, OutsGoOn, GoesOn, is_side}
use Rattle.kept_entries.specs.Numbers.{numbers_after, first_numbers}
use Rattle.kept_entries.specs.Entries.{AreEntries, DaysGoOn}
use Rattle.pair_journal.specs.Journal.{JournalOf, Born}
use Rattle.kept_entries.specs.Days.{last_day, past_of, payload_behind}
use Rattle.kept_entries.proofs.Dating.{last_numbers, last_day-reset, last_is_sound, past-last}
use Rattle.kept_entries.specs.Given.{source_of}
use Rattle.pair_journal.specs.State.{JournalState}
use Rattle.pair_journal.specs.Calls.{Commits, KeepsJournal, payloads_of}
use Rattle.order_chains.specs.declared.item.ChainItem.{ChainItem}
use Rattle.event_decisions.specs.Event.{Event}
use Rattle.event_decisions.specs.Days.{new_day}
use Rattle.event_decisions.specs.Decide.{Sessions, AreSides, numbers_of, Decision, Decides, Repeat}
use Rattle.event_decisions.specs.Laws.{Continues, DecisionsContinue}
use Rattle.message_answers.specs.Answer.{Answers}
use Rattle.message_answers.specs.Chains.{chains_of}
use Rattle.life_laws.specs.Happens.{World}
use Rattle.gateway_config.specs.declared.config.Config.{Config}
use Rattle.gateway_core.specs.declared.plan.Plan.{Plan}
use Rattle.gateway_core.specs.declared.plan.PlanError.{PlanError}
use Rattle.gateway_core.specs.declared.plan.PlanError.TheVariants as plan_errors
use Rattle.gateway_core.specs.State.{CoreState, Stand, Grows, PlansEvent, plan_of_day, sessions_in}
use Rattle.gateway_core.specs.State.{decision_of}
use Rattle.wire_sends.specs.Sent.{AreSendable}
use Rattle.wire_sends.specs.Again.{IsGiven, repeat_in}
use Rattle.gateway_life.specs.declared.end.LifeEnd.{LifeEnd}
use Rattle.gateway_life.specs.declared.end.LifeEnd.TheVariants as ends
use Rattle.gateway_life.specs.Ended.{end_of, end_by}
use Rattle.gateway_life.specs.State.{EngineState}
use Rattle.gateway_life.specs.Ready.{LeavesOf, IsReady, Behind, world_of}
use Rattle.gateway_life.specs.Fails.{IsWhy}
use Rattle.gateway_life.specs.Stepped.{MayStand}
use Rattle.gateway_life.specs.Committed.{OldOrNew, IsFull}
use Rattle.gateway_life.specs.Decided.{Decided, MayHold, IsWhyNot}
use Rattle.gateway_life.specs.Rounds.{MayTurn}
use Rattle.gateway_life.proofs.NewDay.{day_goes_on, may_turn, why_day}
use Rattle.gateway_life.proofs.Telling.{err_is, leaves_from}
use Rattle.gateway_life.proofs.Today.{GoesToday, SameDay, goes_today, past_same, sound_more}
use Rattle.gateway_life.proofs.Today.{today_more}

-- ---- an entry more

numbers_push : (before : Next) (xs : List Entry) (e : Entry)
    → numbers_after before (xs ++ e ∷ []) ≡ e.next
numbers_push before [] e = refl
numbers_push before (x ∷ xs) e = numbers_push x.next xs e

next_bounded : (before : Next) (xs : List Entry) → AreNext before → AreEntries before xs
    → AreNext (numbers_after before xs)
next_bounded before [] next are = next
next_bounded before (x ∷ xs) next are = next_bounded x.next xs are.0.next are.2

first_bounded : AreNext first_numbers
first_bounded = (
  (omega arith, omega arith),
  (omega arith, omega arith),
  (omega arith, omega arith),
  (omega arith, omega arith),
)

pub numbers_bounded : (xs : List Entry) → AreEntries first_numbers xs
    → AreNext (numbers_after first_numbers xs)
numbers_bounded xs are = next_bounded first_numbers xs first_bounded are

-- ---- what a decision leads to

pub record Goes (xs : List Entry) (d : Decision) : Type 0 where
  pub goes_on : IfSome d.entry (GoesOn (numbers_after first_numbers xs))
  pub same_day : SameDay d.entry
  pub sides : AreSides d.sessions
  pub numbers :
      numbers_of d.sessions ≡ numbers_after first_numbers (xs ++ option_to_list d.entry)

pub goes : (xs : List Entry) (s : Sessions) (event : Event) (d : Decision) → Continues s event d
    → numbers_of s ≡ numbers_after first_numbers xs → Goes xs d
goes xs s event d continues numbers = record {
  goes_on = at d.entry refl;
  same_day = same d.entry refl;
  sides = continues.sides;
  numbers = next d.entry refl;
}
  where
    same : (o : Option Entry) → d.entry ≡ o → SameDay o
    same None is = tt
    same (Some e) is = continues.same_day e is

    at : (o : Option Entry) → d.entry ≡ o → IfSome o (GoesOn (numbers_after first_numbers xs))
    at None is = tt
    at (Some e) is = subst (λ n. GoesOn n e) numbers (continues.goes_on e is)

    next : (o : Option Entry) → d.entry ≡ o
        → numbers_of d.sessions ≡ numbers_after first_numbers (xs ++ option_to_list o)
    next None is = continues.same is ∙ numbers
        ∙ ap (numbers_after first_numbers) (sym (append-nil xs))
    next (Some e) is = sym (continues.next e is) ∙ sym (numbers_push first_numbers xs e)

pub decided : DecisionsContinue → (config : Config) (xs : List Entry) (s : Sessions)
    (event : Event) (now : ℕ) (d : Decision) → AreSides s
    → Decides Answers config.names config.window xs s event now (Ok d) → Continues s event d
decided law config xs s event now d sides decides =
    law config.names config.window s event now decides.words d sides decides.decided

-- each out has a number from 1 on
sendable : (c v : ℕ) (outs : List Out) → 1 ≤ c → 1 ≤ v → Numbered c (outs_to Client outs)
    → Numbered v (outs_to Venue outs) → AreOuts outs → AreSendable outs
sendable c v [] low low' client venue are = tt
sendable c v (o ∷ outs) low low' client venue are =
    at (λ n m l k h g. sendable n m outs l k h g are.1) o.side refl
  where
    at : ((n m : ℕ) → 1 ≤ n → 1 ≤ m → Numbered n (outs_to Client outs)
        → Numbered m (outs_to Venue outs) → AreSendable outs)
        → (s : Side) → o.side ≡ s → AreSendable (o ∷ outs)
    at more Client is =
        let mine = subst (λ t. Numbered c (if is_side Client t then o ∷ outs_to Client outs
        else outs_to Client outs)) is client in
        let others = subst (λ t. Numbered v (if is_side Venue t then o ∷ outs_to Venue outs
        else outs_to Venue outs)) is venue in (
          record { bounds = are.0; number = omega (arith, mine.0, low) },
          more (c + 1) v (omega arith) low' mine.1 others,
        )
    at more Venue is =
        let others = subst (λ t. Numbered c (if is_side Client t then o ∷ outs_to Client outs
        else outs_to Client outs)) is client in
        let mine = subst (λ t. Numbered v (if is_side Venue t then o ∷ outs_to Venue outs
        else outs_to Venue outs)) is venue in (
          record { bounds = are.0; number = omega (arith, mine.0, low') },
          more c (v + 1) low (omega arith) others mine.1,
        )

pub entry_sendable : (xs : List Entry) (entry : Option Entry) → AreEntries first_numbers xs
    → IfSome entry IsEntry → IfSome entry (GoesOn (numbers_after first_numbers xs))
    → IfSome entry (λ e. AreSendable e.outs)
entry_sendable xs None are is goes = tt
entry_sendable xs (Some e) are is goes =
    let next = numbers_bounded xs are in
    sendable (numbers_after first_numbers xs).1 (numbers_after first_numbers xs).3 e.outs
    next.1.0 next.3.0 goes.client_out.numbered goes.venue_out.numbered is.outs

-- ---- what is sent again was given out

next_more : (side : Side) (xs : List Entry) (entry : Option Entry)
    → IfSome entry (GoesOn (numbers_after first_numbers xs))
    → next_out side (numbers_after first_numbers xs)
    ≤ next_out side (numbers_after first_numbers (xs ++ option_to_list entry))
next_more side xs None goes =
    let same = ap (λ l. next_out side (numbers_after first_numbers l)) (append-nil xs) in
    omega (arith, same)
next_more side xs (Some e) goes =
    let same = ap (next_out side) (numbers_push first_numbers xs e) in
    omega (arith, same, (on side).next)
  where
    on : (t : Side) → OutsGoOn t (numbers_after first_numbers xs) e
    on Client = goes.client_out
    on Venue = goes.venue_out

next_bound : (side : Side) (next : Next) → AreNext next → next_out side next ≤ MAX_NEXT
next_bound Client next are = are.1.1
next_bound Venue next are = are.3.1

pub given_more : (xs : List Entry) (s : Sessions) (event : Event) (d : Decision)
    (resend : Option (Side × ℕ × ℕ)) → Continues s event d → d.repeat ≡ repeat_in resend
    → numbers_of s ≡ numbers_after first_numbers xs → AreEntries first_numbers xs
    → IfSome d.entry (GoesOn (numbers_after first_numbers xs))
    → IsGiven (xs ++ option_to_list d.entry) resend
given_more xs s event d None continues is numbers are goes = tt
given_more xs s event d (Some r) continues is numbers are goes =
    let again : Repeat = record { side = r.0; from = r.1; to = r.2 } in
    let to = continues.to again is in
    let same = ap (next_out r.0) numbers in
    let more = next_more r.0 xs d.entry goes in
    let most = next_bound r.0 (numbers_after first_numbers xs) (numbers_bounded xs are) in
    (continues.from again is, omega (arith, to, same, more), omega (arith, to, same, most))

-- ---- images

-- a disk that was left alone
pub left_alone : (told : Option (List ℕ)) (image : List ℕ → Type 0) (names names' : Names)
    (xs : List Entry) (P : List Entry → Type 0) → names ≡ names'
    → ForSome told (λ b. JournalOf b (Born names xs)) → P xs → LeavesOf told image image names' P
left_alone None image names names' xs P same stands p = tt
left_alone (Some b) image names names' xs P same stands p = λ only bytes left. (
  xs,
  subst (λ c. JournalOf c (Born names' xs)) (sym (only bytes left))
      (subst (λ n. JournalOf b (Born n xs)) same (stands b refl)),
  p,
)

pub as_before : (end : LifeEnd) (config : Config) (before : World) (event : Event) (now : ℕ)
    → MayStand end config before event now before.entries
as_before ends.DiskFault config before event now = inl refl
as_before end config before event now = refl

-- what a commit that failed left, behind the days before
pub may_behind : (error : JournalError) (config : Config) (past : List Entry) (before : World)
    (event : Event) (now : ℕ) (d : Decision) (whole xs : List Entry)
    → past ++ before.entries ≡ whole
    → Decides Answers config.names config.window before.entries before.sessions event now (Ok d)
    → OldOrNew error whole d.entry xs
    → Behind past (MayStand (end_of error) config before event now) xs
may_behind errors.DiskFault config past before event now d whole xs is decides (inl same) =
    (before.entries, same ∙ sym is, inl refl)
may_behind errors.DiskFault config past before event now d whole xs is decides (inr more) = (
  before.entries ++ option_to_list d.entry,
  more ∙ ap (λ l. l ++ option_to_list d.entry) (sym is)
      ∙ append_assoc past before.entries (option_to_list d.entry),
  inr (d, decides, refl),
)
may_behind error config past before event now d whole xs is decides same =
    (before.entries, same ∙ sym is, refl)

-- ---- a commit that fails

pub commit_left : (told : Option (List ℕ)) (before after : List ℕ → Type 0)
    (journal new : JournalState) (entry : Entry) (result : Result Entry JournalError)
    → Commits entry journal new result → KeepsJournal told before after journal entry
    → (result ≡ Err errors.Full
    → LeavesOf told before after journal.names (λ xs. xs ≡ journal.entries))
    → IfErr result (λ error. LeavesOf told before after journal.names
    (OldOrNew error journal.entries (Some entry)))
commit_left told before after journal new entry (Ok answer) commits keeps full = tt
commit_left told before after journal new entry (Err errors.DiskFault) commits keeps full =
    at told keeps
  where
    found : (bytes : List ℕ) → JournalOf bytes (Born journal.names journal.entries)
        ⊎ JournalOf bytes (Born journal.names (journal.entries ++ entry ∷ []))
        → (xs : List Entry) × JournalOf bytes (Born journal.names xs)
        × OldOrNew errors.DiskFault journal.entries (Some entry) xs
    found bytes (inl old) = (journal.entries, old, inl refl)
    found bytes (inr more) = (journal.entries ++ entry ∷ [], more, inr refl)

    at : (t : Option (List ℕ)) → KeepsJournal t before after journal entry
        → LeavesOf t before after journal.names
        (OldOrNew errors.DiskFault journal.entries (Some entry))
    at None h = tt
    at (Some b) h = λ only bytes left. found bytes (h only bytes left)
commit_left told before after journal new entry (Err errors.Full) commits keeps full = full refl
commit_left told before after journal new entry (Err error) commits keeps full = absurd commits

pub commit_why : (journal new : JournalState) (entry : Entry) (result : Result Entry JournalError)
    → IsEntry entry → Commits entry journal new result → IfErr result (IsFull journal (Some entry))
commit_why journal new entry (Ok answer) is commits = tt
commit_why journal new entry (Err errors.DiskFault) is commits = tt
commit_why journal new entry (Err errors.Full) is commits = (entry, refl, is, commits.0)
commit_why journal new entry (Err error) is commits = absurd commits

-- ---- a plan

-- the entries with its own
abbrev pub with_plan : EngineState → Plan → List Entry
with_plan old plan = old.journal.entries ++ option_to_list plan.entry

-- What a plan of an engine that is ready is, and that its journal and its core go on so: the plan of
-- an event of a side, or of a new day.
pub record Planned (old : EngineState) (event : Option Event) (now : ℕ) (plan : Plan) : Type 0
  where
    pub plans : PlansEvent old.core (last_day old.journal.entries) event now (Ok plan)
    pub same_day : IfSome event (λ e. SameDay plan.entry)
    pub goes_on : GoesToday old.journal.entries plan.entry
    pub chains : chains_of (last_day (with_plan old plan))
        ≡ unwrap_or plan.fresh (old.core.chains ++ option_to_list plan.item)
    pub sides : AreSides (decision_of plan).sessions
    pub numbers : numbers_of (decision_of plan).sessions
        ≡ numbers_after first_numbers (last_day (with_plan old plan))
    pub given : IsGiven (last_day (with_plan old plan)) plan.resend
    pub sendable : IfSome plan.entry IsEntry → IfSome plan.entry (λ e. AreSendable e.outs)

-- the entries of the last day stand for the journal
pub stands : (old : EngineState) (told : Option (List ℕ)) (journal : JournalState)
    → journal.entries ≡ old.journal.entries → IsReady old told
    → Stand old.core (last_day journal.entries) (last_day old.journal.entries)
stands old told journal same ready = record {
  chains = sym ready.chains;
  sources = λ side number. ap (λ l. source_of side number (last_day l)) (sym same);
}

side_planned : DecisionsContinue → (old : EngineState) (told : Option (List ℕ)) (event : Event)
    (now : ℕ) (plan : Plan) → IsReady old told
    → PlansEvent old.core (last_day old.journal.entries) (Some event) now (Ok plan)
    → Grows old.core (last_day old.journal.entries) plan → Planned old (Some event) now plan
side_planned law old told event now plan ready plans grows =
    let all = old.journal.entries in
    let xs = last_day all in
    let s = sessions_in old.core in
    let d = decision_of plan in
    let sound = last_is_sound all ready.sound in
    let continues = decided law old.core.config xs s event now d ready.sides plans.0 in
    let numbers = ready.numbers ∙ sym (last_numbers all ready.sound) in
    let goes = goes xs s event d continues numbers in
    let today = today_more all plan.entry goes.same_day in
    record {
      plans = plans;
      same_day = goes.same_day;
      goes_on = goes_today all plan.entry goes.same_day goes.goes_on;
      chains = ap chains_of today ∙ grows ∙ sym (ap (λ (f : Option (List ChainItem)).
          unwrap_or f (old.core.chains ++ option_to_list plan.item)) plans.1);
      sides = goes.sides;
      numbers = goes.numbers ∙ ap (numbers_after first_numbers) (sym today);
      given = subst (λ l. IsGiven l plan.resend) (sym today)
          (given_more xs s event d plan.resend continues refl numbers sound goes.goes_on);
      sendable = λ bounds. entry_sendable xs plan.entry sound bounds goes.goes_on;
    }

day_planned : (old : EngineState) (now : ℕ) (plan : Plan) → plan ≡ plan_of_day old.core now
    → Planned old None now plan
day_planned old now plan is =
    let all = old.journal.entries in
    let anew = last_day-reset all (new_day now) refl in
    subst (Planned old None now) (sym is) (record {
      plans = refl;
      same_day = tt;
      goes_on = day_goes_on (numbers_after first_numbers (last_day all)) now;
      chains = ap chains_of anew;
      sides = record { client = refl; venue = refl };
      numbers = sym (ap (numbers_after first_numbers) anew);
      given = tt;
      sendable = λ bounds. tt;
    })

-- an event of a side
pub of_side : (event : Option Event) → is_some event ≡ true → (e : Event) × (event ≡ Some e)
of_side None is = absurd (cc is)
of_side (Some e) is = (e, refl)

-- where it was made over a journal with the same entries
pub planned : DecisionsContinue → (old : EngineState) (told : Option (List ℕ))
    (event : Option Event) (now : ℕ) (plan : Plan) (journal : JournalState)
    → journal.entries ≡ old.journal.entries → IsReady old told
    → ((entries : List Entry) → Stand old.core (last_day journal.entries) entries
    → PlansEvent old.core entries event now (Ok plan))
    → ((entries : List Entry) → Stand old.core (last_day journal.entries) entries
    → Grows old.core entries plan) → Planned old event now plan
planned law old told (Some event) now plan journal same ready plans grows =
    let xs = last_day old.journal.entries in
    let stand = stands old told journal same ready in
    side_planned law old told event now plan ready (plans xs stand) (grows xs stand)
planned law old told None now plan journal same ready plans grows = day_planned old now plan
    (plans (last_day old.journal.entries) (stands old told journal same ready))

-- the core that holds its item, and the one behind it
abbrev pub Holds : (old held : CoreState) → Plan → Type 0
Holds old held plan = held ≡ record old { chains = old.chains ++ option_to_list plan.item }

abbrev applied : CoreState → Plan → CoreState
applied held plan = record held {
  client = plan.client;
  venue = plan.venue;
  chains = unwrap_or plan.fresh held.chains;
}

abbrev pub IsApplied : (held core : CoreState) → Plan → Type 0
IsApplied held core plan = core ≡ applied held plan

-- what was decided with it
pub decided_by : (old new : EngineState) (held : CoreState) (event : Option Event) (now : ℕ)
    (plan : Plan) (entry : Option Entry) → Planned old event now plan → entry ≡ plan.entry
    → new.journal.entries ≡ with_plan old plan → DaysGoOn first_numbers old.journal.entries
    → DaysGoOn first_numbers (with_plan old plan) → Holds old.core held plan
    → IsApplied held new.core plan
    → Decided old new (record { entry = entry; resend = plan.resend; hang_up = plan.hang_up }) event
    now
decided_by old new held (Some event) now plan entry made is entries sound after is_held is_core =
    let all = old.journal.entries in
    record {
      decides = subst (λ (d : Decision). Decides Answers old.core.config.names
          old.core.config.window (last_day all) (sessions_in old.core) event now (Ok d)) (λ i.
          record {
            entry = sym is i;
            sessions = sym (ap sessions_in is_core) i;
            repeat = repeat_in plan.resend;
            hang_up = plan.hang_up;
          }) made.plans.0;
      today = ap last_day entries ∙ today_more all plan.entry made.same_day
          ∙ ap (λ o. last_day all ++ option_to_list o) (sym is);
      past = ap past_of entries ∙ past_same all plan.entry sound after made.same_day;
    }
decided_by old new held None now plan entry made is entries sound after is_held is_core = (
  is ∙ ap (λ (p : Plan). p.entry) made.plans,
  is_core ∙ ap (λ (p : Plan). applied held p) made.plans
      ∙ ap (λ (k : CoreState). applied k (plan_of_day old.core now)) is_held,
)

-- a disk whose one image stands for these entries, after some calls
pub left_after : (t0 t1 : Option (List ℕ)) (i0 i1 : List ℕ → Type 0) (names names' : Names)
    (xs : List Entry) → is_some t1 ≡ is_some t0 → (HasOneImage t0 i0 → HasOneImage t1 i1)
    → ForSome t1 (λ b. JournalOf b (Born names xs)) → names ≡ names'
    → LeavesOf t0 i0 i1 names' (λ found. found ≡ xs)
left_after None t1 i0 i1 names names' xs told one stands same = tt
left_after (Some b) None i0 i1 names names' xs told one stands same = absurd (cc told)
left_after (Some b) (Some c) i0 i1 names names' xs told one stands same = λ only bytes left. (
  xs,
  subst (λ d. JournalOf d (Born names' xs)) (sym (one only bytes left))
      (subst (λ n. JournalOf c (Born n xs)) same (stands c refl)),
  refl,
)

-- ---- a commit that was refused

take_front : {A : Type 0} (xs ys : List A) → take (length xs) (xs ++ ys) ≡ xs
take_front [] ys = refl
take_front (x ∷ xs) ys = ap (λ l. x ∷ l) (take_front xs ys)

-- what was held is taken out again
pub undone_chains : (chains : List ChainItem) (item : Option ChainItem)
    → (if is_some item
    then take (length (chains ++ option_to_list item) - 1) (chains ++ option_to_list item)
    else chains ++ option_to_list item) ≡ chains
undone_chains chains None = append-nil chains
undone_chains chains (Some item) =
    let size : length (chains ++ item ∷ []) - 1 ≡ length chains =
    omega (arith, length-append chains (item ∷ [])) in
    ap (λ n. take n (chains ++ item ∷ [])) size ∙ take_front chains (item ∷ [])

pub why_of : (error : JournalError) (config : Config) (past : List Entry) (before : World)
    (event : Event) (now : ℕ) (d : Decision) (journal : JournalState)
    → journal.names ≡ config.names → journal.entries ≡ past ++ before.entries
    → Decides Answers config.names config.window before.entries before.sessions event now (Ok d)
    → IsFull journal d.entry error → IsWhy (end_of error) config past before event now
why_of errors.DiskFault config past before event now d journal names entries decides why = tt
why_of errors.Full config past before event now d journal names entries decides why = (
  d,
  why.0,
  decides,
  why.1,
  why.2,
  subst (λ l. MAX_DISK ≤ length (blocks (payloads_of config.names l)) + 5
      + length (payload_behind l why.0)) entries
      (subst (λ n. MAX_DISK ≤ length (blocks (payloads_of n journal.entries)) + 5
      + length (payload_behind journal.entries why.0)) names why.3),
)
why_of error config past before event now d journal names entries decides why = absurd why

-- the chains and the sessions after an event that was refused
pub undone : (old held new : CoreState) (item : Option ChainItem) (flag : Bool)
    → flag ≡ is_some item → held ≡ record old { chains = old.chains ++ option_to_list item }
    → new ≡ record held {
      chains = if flag then take (length held.chains - 1) held.chains
          else held.chains;
    }
    → (sessions_in new ≡ sessions_in old) × (new.chains ≡ old.chains)
undone old held new item flag is_flag is_held is_new = (
  ap sessions_in is_new ∙ ap sessions_in is_held,
  ap (λ (k : CoreState). k.chains) is_new
      ∙ ap (λ (l : List ChainItem). if flag then take (length l - 1) l else l)
      (ap (λ (k : CoreState). k.chains) is_held)
      ∙ ap (λ b. if b then take (length (old.chains ++ option_to_list item) - 1)
      (old.chains ++ option_to_list item) else old.chains ++ option_to_list item) is_flag
      ∙ undone_chains old.chains item,
)

pub world_same : (old new : EngineState) → new.journal.entries ≡ old.journal.entries
    → sessions_in new.core ≡ sessions_in old.core → new.client_up ≡ old.client_up
    → new.venue_up ≡ old.venue_up → world_of new ≡ world_of old
world_same old new entries sessions client venue = λ i. record {
  entries = last_day (entries i);
  sessions = sessions i;
  client_up = client i;
  venue_up = venue i;
}

-- nothing was written
hold_before : (end : LifeEnd) (old : EngineState) (event : Option Event) (now : ℕ)
    → DaysGoOn first_numbers old.journal.entries → MayHold end old event now old.journal.entries
hold_before end old (Some event) now sound = (
  last_day old.journal.entries,
  sym (past-last old.journal.entries sound),
  as_before end old.core.config (world_of old) event now,
)
hold_before end old None now sound = inl refl

pub alone_left : {T : Type 0} (r : Result T LifeEnd) (told : Option (List ℕ))
    (image : List ℕ → Type 0) (old : EngineState) (event : Option Event) (now : ℕ)
    → IsReady old told → IfErr r (λ end. LeavesOf told image image old.core.config.names
    (MayHold end old event now))
alone_left (Ok value) told image old event now ready = tt
alone_left (Err end) told image old event now ready =
    left_alone told image old.journal.names old.core.config.names old.journal.entries
    (MayHold end old event now) ready.names ready.stands
    (hold_before end old event now ready.sound)

-- what a commit that was refused left, by what it answered
may_hold : (error : JournalError) (old : EngineState) (event : Option Event) (now : ℕ)
    (plan : Plan) (whole found : List Entry) → DaysGoOn first_numbers old.journal.entries
    → whole ≡ old.journal.entries → Planned old event now plan
    → OldOrNew error whole plan.entry found → MayHold (end_of error) old event now found
may_hold error old (Some event) now plan whole found sound same made h =
    may_behind error old.core.config (past_of old.journal.entries) (world_of old) event now
    (decision_of plan) whole found (past-last old.journal.entries sound ∙ sym same) made.plans.0 h
may_hold error old None now plan whole found sound same made h =
    subst (λ l. MayTurn (end_of error) l now found) same (may_turn error whole now found
    (subst (λ (p : Plan). OldOrNew error whole p.entry found) made.plans h))

pub refused_left : (told : Option (List ℕ)) (i0 i1 : List ℕ → Type 0) (names names' : Names)
    (error : JournalError) (end : LifeEnd) (old : EngineState) (event : Option Event) (now : ℕ)
    (plan : Plan) (whole : List Entry) → end ≡ end_of error → names ≡ names'
    → DaysGoOn first_numbers old.journal.entries → whole ≡ old.journal.entries
    → Planned old event now plan → LeavesOf told i0 i1 names (OldOrNew error whole plan.entry)
    → LeavesOf told i0 i1 names' (MayHold end old event now)
refused_left told i0 i1 names names' error end old event now plan whole is same sound entries made
    left =
    leaves_from told told i0 i0 i1 names' names (OldOrNew error whole plan.entry)
    (MayHold end old event now) refl (λ one. one) same
    (λ found h. subst (λ e. MayHold e old event now found) (sym is)
    (may_hold error old event now plan whole found sound entries made h)) left

-- why, by what it answered
why_not : (error : JournalError) (old : EngineState) (event : Option Event) (now : ℕ)
    (plan : Plan) (journal : JournalState) → journal.names ≡ old.core.config.names
    → DaysGoOn first_numbers old.journal.entries → journal.entries ≡ old.journal.entries
    → Planned old event now plan → IsFull journal plan.entry error
    → IsWhyNot (end_of error) old event now
why_not error old (Some event) now plan journal names sound same made full =
    why_of error old.core.config (past_of old.journal.entries) (world_of old) event now
    (decision_of plan) journal names (same ∙ sym (past-last old.journal.entries sound))
    made.plans.0 full
why_not error old None now plan journal names sound same made full =
    why_day error old.core.config.names old.journal.entries now journal names same
    (subst (λ (p : Plan). IsFull journal p.entry error) made.plans full)

pub refused_why : (error : JournalError) (end : LifeEnd) (old : EngineState)
    (event : Option Event) (now : ℕ) (plan : Plan) (journal : JournalState)
    → end ≡ end_of error → journal.names ≡ old.core.config.names
    → DaysGoOn first_numbers old.journal.entries → journal.entries ≡ old.journal.entries
    → Planned old event now plan → IsFull journal plan.entry error → IsWhyNot end old event now
refused_why error end old event now plan journal is names sound same made full =
    subst (λ e. IsWhyNot e old event now) (sym is)
    (why_not error old event now plan journal names sound same made full)

-- for want of memory
no_memory : (old : EngineState) (event : Option Event) (now : ℕ)
    → IsWhyNot ends.NoMemory old event now
no_memory old (Some event) now = tt
no_memory old None now = tt

pub want_why : {T : Type 0} (r : Result T LifeEnd) (error : LifeEnd) (old : EngineState)
    (event : Option Event) (now : ℕ) → IsErrAnd r (λ e. e ≡ error) → error ≡ ends.NoMemory
    → IfErr r (λ e. IsWhyNot e old event now)
want_why r error old event now is want = err_is r error (λ e. IsWhyNot e old event now) is
    (subst (λ e. IsWhyNot e old event now) (sym want) (no_memory old event now))

-- by the want of a plan
no_plan : (error : PlanError) (old : EngineState) (event : Option Event) (now : ℕ)
    → PlansEvent old.core (last_day old.journal.entries) event now (Err error)
    → IsWhyNot (end_by error) old event now
no_plan (plan_errors.NumbersSpent side) old (Some event) now plans = plans.0
no_plan (plan_errors.NumbersSpent side) old None now plans = absurd plans
no_plan plan_errors.NoMemory old event now plans = no_memory old event now

pub plan_why : {T : Type 0} (r : Result T LifeEnd) (error : PlanError) (old : EngineState)
    (told : Option (List ℕ)) (event : Option Event) (now : ℕ) (journal : JournalState)
    → IsErrAnd r (λ e. e ≡ end_by error) → journal.entries ≡ old.journal.entries
    → IsReady old told
    → ((entries : List Entry) → Stand old.core (last_day journal.entries) entries
    → PlansEvent old.core entries event now (Err error)) → IfErr r (λ e. IsWhyNot e old event now)
plan_why r error old told event now journal is same ready plans =
    err_is r (end_by error) (λ e. IsWhyNot e old event now) is (no_plan error old event now
    (plans (last_day old.journal.entries) (stands old told journal same ready)))

-- an engine that has decided
pub ready_decided : (old : EngineState) (t0 t1 : Option (List ℕ)) (journal : JournalState)
    (held core : CoreState) (event : Option Event) (now : ℕ) (plan : Plan) (cu vu : Bool)
    → IsReady old t0 → journal.names ≡ old.journal.names → journal.broken ≡ false
    → journal.entries ≡ with_plan old plan → IfSome plan.entry IsEntry
    → Planned old event now plan → Holds old.core held plan → IsApplied held core plan
    → ForSome t1 (λ b. JournalOf b (Born journal.names journal.entries))
    → IsReady (record { journal = journal; core = core; client_up = cu; venue_up = vu }) t1
ready_decided old t0 t1 journal held core event now plan cu vu ready names whole entries bounds made
    is_held is_core stands =
    let sound : DaysGoOn first_numbers journal.entries =
    subst (DaysGoOn first_numbers) (sym entries)
    (sound_more old.journal.entries plan.entry ready.sound bounds made.goes_on) in
    record {
      names = names ∙ ready.names ∙ ap (λ (k : CoreState). k.config.names) (sym is_held)
          ∙ ap (λ (k : CoreState). k.config.names) (sym is_core);
      whole = whole;
      sound = sound;
      chains = ap (λ (k : CoreState). k.chains) is_core
          ∙ ap (λ (k : CoreState). unwrap_or plan.fresh k.chains) is_held ∙ sym made.chains
          ∙ ap (λ l. chains_of (last_day l)) (sym entries);
      sides = subst AreSides (sym (ap sessions_in is_core)) made.sides;
      numbers = ap (λ (k : CoreState). numbers_of (sessions_in k)) is_core ∙ made.numbers
          ∙ ap (λ l. numbers_after first_numbers (last_day l)) (sym entries)
          ∙ last_numbers journal.entries sound;
      stands = stands;
    }
