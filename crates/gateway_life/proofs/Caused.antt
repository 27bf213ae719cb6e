-- Why a journal is full and numbers are spent, by the journal alone.
use Rattle.std.proofs.Common.{◌≡◌, ◌+◌, ◌≤◌, Bool, true, false, List, ◌∷◌, ◌++◌, refl, sym, [], ℕ}
use Rattle.std.proofs.Common.{◌∙◌, ap, subst, arith, Some, None, Ok, Err, inl, length}
use Rattle.std.specs.Prelude.{Result, IsOk, nat_le, nat_lt, ◌&&◌, if◌then◌else◌, is_ok, IfOk}
use Rattle.std.specs.declared.option.Option.{Option}
use Rattle.std.proofs.lemmas.Bool.Decides.{nat_tests}
use Rattle.outside.specs.declared.disk.TheConstants.{MAX_DISK}
use Rattle.order_meaning.specs.declared.Side.{Side}
use Rattle.order_meaning.specs.declared.Side.TheVariants.{Client, Venue}
use Rattle.order_meaning.specs.declared.names.Names.{Names}
use Rattle.session_core.specs.declared.numbers.TheConstants.{ALL_USED}
use Rattle.session_core.specs.declared.session.Session.{Session}
use Rattle.session_core.specs.declared.session.Spent.{Spent}
use Rattle.session_core.specs.declared.session.Step.{Step}
use Rattle.session_core.specs.declared.act.Act.{Act}
use Rattle.session_core.specs.declared.act.Act.TheVariants.{Take}
use Rattle.session_core.specs.Laws.{Always}
use Rattle.session_core.specs.Table as session
use Rattle.session_core.specs.Table.{says}
use Rattle.gate_log.specs.Records.{blocks}
use Rattle.pair_entries.specs.declared.TheConstants.{MAX_NUMBER}
use Rattle.pair_entries.specs.declared.entry.Entry.{Entry}
use Rattle.pair_entries.specs.declared.entry.Took.{Took}
use Rattle.kept_entries.specs.Numbers.{numbers_after, first_numbers, next_out}
use Rattle.kept_entries.specs.Days.{last_day, past_of, payload_behind}
use Rattle.kept_entries.proofs.Dating.{past-last, last_numbers}
use Rattle.pair_journal.specs.Calls.{RefusedUntold, payloads_of}
use Rattle.pair_journal.specs.declared.error.JournalError.{JournalError}
use Rattle.pair_journal.specs.declared.error.JournalError.TheVariants as errors
use Rattle.event_decisions.specs.Event.{Event, side_of}
use Rattle.event_decisions.specs.Decide.{Sessions, AreSides, Words, Decision, Decides, IsDecided}
use Rattle.event_decisions.specs.Decide.{numbers_of, session_of, with_session, is_active, asked_of}
use Rattle.event_decisions.specs.Decide.{asked_by, asked_if, asks, took_of, input_of, stepped}
use Rattle.event_decisions.specs.Decide.{decide, decide_by, concluded, numbered, give}
use Rattle.event_decisions.proofs.Continues.{by, entry_by, entry_is}
use Rattle.message_answers.specs.Answer.{Answers}
use Rattle.life_laws.specs.Happens.{World}
use Rattle.gateway_config.specs.declared.config.Config.{Config}
use Rattle.gateway_life.specs.declared.end.LifeEnd.{LifeEnd}
use Rattle.gateway_life.specs.declared.end.LifeEnd.TheVariants as ends
use Rattle.gateway_life.specs.Ended.{end_of}
use Rattle.gateway_life.specs.State.{EngineState}
use Rattle.gateway_life.specs.Ready.{IsReady, world_of}
use Rattle.gateway_life.specs.Fails.{IsWhy}
use Rattle.gateway_life.specs.Causes.{IsCause}

-- ---- a side whose numbers are spent

-- a message that is only taken is answered by nothing of the session's own
asks_says : (input : session.Input) (acts : List Act) → asks input acts ≡ true → says acts ≡ 0
asks_says (session.Message head) [] is = refl
asks_says (session.Message head) (Take ∷ []) is = refl
asks_says input acts is = absurd (cc is)

-- words answer what was asked alone
asked_says : (before : List Entry) (active : Bool) (input : session.Input) (acts : List Act)
    (took : Option Took) (words : Words)
    → Answers before active (asked_if (asks input acts) took) (Some words) → says acts ≡ 0
asked_says before active input acts took words answer = at (asks input acts) took refl answer
  where
    at : (b : Bool) (o : Option Took) → asks input acts ≡ b
        → Answers before active (asked_if b o) (Some words) → says acts ≡ 0
    at true o is gives = asks_says input acts is
    at false None is gives = absurd (cc gives)
    at false (Some message) is gives = absurd (cc gives)

own_next : (side : Side) (s : Sessions)
    → next_out side (numbers_of s) ≡ (session_of side s).numbers.next_out
own_next Client s = refl
own_next Venue s = refl

next_with : (x y : Side) (next : Session) (s : Sessions)
    → next.numbers.next_out ≡ (session_of y s).numbers.next_out
    → (session_of x (with_session y next s)).numbers.next_out ≡ next_out x (numbers_of s)
next_with Client Client next s same = same
next_with Client Venue next s same = refl
next_with Venue Client next s same = refl
next_with Venue Venue next s same = same

both_true : (a b : Bool) → (a && b) ≡ true → (a ≡ true) × (b ≡ true)
both_true true b is = (refl, is)
both_true false b is = absurd (cc is)

-- with two numbers left a session has a step
abbrev pub IsEnough : Type 0
IsEnough = (s : Session) (input : session.Input) (now : ℕ) → s.numbers.next_out + 2 ≤ ALL_USED
    → IsOk (session.step s input now)

-- each message of a session's own takes one
abbrev pub IsCounted : Type 0
IsCounted =
    Always (λ s input now t. t.next.numbers.next_out ≡ s.numbers.next_out + says t.acts)

-- one without a step has one left at most
few_left : IsEnough → (s : Session) (input : session.Input) (now : ℕ) (e : Spent)
    → session.step s input now ≡ Err e → MAX_NUMBER ≤ s.numbers.next_out
few_left enough s input now e is = at (nat_le (s.numbers.next_out + 2) ALL_USED) refl
  where
    at : (b : Bool) → nat_le (s.numbers.next_out + 2) ALL_USED ≡ b
        → MAX_NUMBER ≤ s.numbers.next_out
    at true two =
        let some = enough s input now (grind (arith, nat_tests)) in
        absurd (cc (sym (ap is_ok is) ∙ some))
    at false two = grind (arith, nat_tests)

spent_one : (next : ℕ) → session.is_spent next 1 ≡ true → MAX_NUMBER ≤ next
spent_one next is = let past = (both_true (nat_lt 0 1) (nat_lt ALL_USED (next + 1)) is).1 in
    grind (arith, nat_tests)

-- the next number of a session, and the session that has given it out
abbrev one_given : ℕ → Session → ℕ × Session
one_given now s = (
  s.numbers.next_out,
  record s { numbers = record s.numbers { next_out = s.numbers.next_out + 1 }; said = now },
)

abbrev side_in : Side → Result Decision Side → Side
side_in other (Ok decision) = other
side_in other (Err side) = side

module _ (enough : IsEnough) (counted : IsCounted) (names : Names) (window : ℕ)
    (before : List Entry) (s : Sessions) (event : Event) (now : ℕ) (side : Side) where
  -- none for the messages of its own session
  of_own : (e : Spent) → stepped names window s event now ≡ Err e → (own : Side)
      → own ≡ side_of event → MAX_NUMBER ≤ next_out own (numbers_of s)
  of_own e at own is =
      let few = few_left enough (session_of (side_of event) s) (input_of names window event now) now
      e at in
      let next = own_next own s in
      let same = ap (λ (x : Side). (session_of x s).numbers.next_out) is in
      omega (arith, few, next, same)

  -- none for what is given out
  of_words : (step : Step) → stepped names window s event now ≡ Ok step → (words : Words)
      → Answers before (is_active s.venue.link) (asked_of names window s event now) (Some words)
      → session.is_spent
      (session_of words.to (with_session (side_of event) step.next s)).numbers.next_out 1 ≡ true
      → MAX_NUMBER ≤ next_out words.to (numbers_of s)
  of_words step at words answer spent =
      let input : session.Input = input_of names window event now in
      let answered : Answers before (is_active s.venue.link) (asked_by event input (Ok step))
      (Some words) = subst (λ (r : Result Step Spent). Answers before (is_active s.venue.link)
      (asked_by event input r) (Some words)) at answer in
      let silent : says step.acts ≡ 0 = asked_says before (is_active s.venue.link) input step.acts
      (took_of event input step.acts) words answered in
      let counts : step.next.numbers.next_out
      ≡ (session_of (side_of event) s).numbers.next_out + says step.acts =
      subst (λ (r : Result Step Spent). IfOk r (λ t. t.next.numbers.next_out
      ≡ (session_of (side_of event) s).numbers.next_out + says t.acts)) at
      (counted (session_of (side_of event) s) input now) in
      let same = next_with words.to (side_of event) step.next s (omega (arith, counts, silent)) in
      let last = spent_one _ spent in
      omega (arith, last, same)

  by_spent : (step : Step) → stepped names window s event now ≡ Ok step → (words : Words)
      → Answers before (is_active s.venue.link) (asked_of names window s event now) (Some words)
      → (b : Bool) → session.is_spent
      (session_of words.to (with_session (side_of event) step.next s)).numbers.next_out 1 ≡ b
      → concluded names window s event now step
      (numbered (with_session (side_of event) step.next s) words (if b then Err session.spent
      else Ok (one_given now (session_of words.to (with_session (side_of event) step.next s)))))
      ≡ Err side → MAX_NUMBER ≤ next_out side (numbers_of s)
  by_spent step at words answer true spent is =
      subst (λ (x : Side). MAX_NUMBER ≤ next_out x (numbers_of s)) (ap (side_in side) is)
      (of_words step at words answer spent)
  by_spent step at words answer false spent is = absurd (cc is)

  by_words : (step : Step) → stepped names window s event now ≡ Ok step → (words : Option Words)
      → Answers before (is_active s.venue.link) (asked_of names window s event now) words
      → concluded names window s event now step
      (give now (with_session (side_of event) step.next s) words) ≡ Err side
      → MAX_NUMBER ≤ next_out side (numbers_of s)
  by_words step at None answer is = absurd (cc is)
  by_words step at (Some words) answer is = by_spent step at words answer (session.is_spent
      (session_of words.to (with_session (side_of event) step.next s)).numbers.next_out 1) refl is

  by_step : (r : Result Step Spent) → stepped names window s event now ≡ r → (words : Option Words)
      → Answers before (is_active s.venue.link) (asked_of names window s event now) words
      → decide_by names window s event now words r ≡ Err side
      → MAX_NUMBER ≤ next_out side (numbers_of s)
  by_step (Err e) at words answer is = of_own e at side (sym (ap (side_in side) is))
  by_step (Ok step) at words answer is = by_words step at words answer is

  -- the side for which an event has no number has one left at most
  pub spent_last : Decides Answers names window before s event now (Err side)
      → MAX_NUMBER ≤ next_out side (numbers_of s)
  spent_last decides = by_step (stepped names window s event now) refl decides.words decides.answer
      decides.decided

-- ---- the cause of an event that ended a life

abbrev entry_in : Result Decision Side → Option Entry
entry_in (Ok decision) = decision.entry
entry_in (Err side) = None

-- what an event decides is of its moment
at_moment : (names : Names) (window : ℕ) (s : Sessions) (event : Event) (now : ℕ)
    (words : Option Words) (d : Decision) (entry : Entry)
    → decide names window s event now words ≡ Ok d → d.entry ≡ Some entry → entry.at ≡ now
at_moment names window s event now words d entry decides is =
    let b = by names window s event now words d decides in
    let made : Entry = entry_by names window s event now b.step b.given in
    let same : made ≡ entry = entry_is (numbers_of s) made entry (ap entry_in b.is ∙ is) in
    sym (ap (λ (e : Entry). e.at) same)

module _ (enough : IsEnough) (counted : IsCounted) where
  cause_of : (end : LifeEnd) (config : Config) (past : List Entry) (before : World)
      (event : Event) (now : ℕ) (entries : List Entry) → before.entries ≡ last_day entries
      → past ++ before.entries ≡ entries → AreSides before.sessions
      → numbers_of before.sessions ≡ numbers_after first_numbers before.entries
      → numbers_of before.sessions ≡ numbers_after first_numbers entries
      → IsWhy end config past before event now → IsCause end config.names entries
  cause_of ends.JournalFull config past before event now entries today whole sides numbers all
      why =
      let d = why.0 in
      let entry = why.1 in
      let decides = why.2 in record {
        entry = entry;
        comes = inl (subst (λ l. IsDecided Answers config.names l entry) today (record {
          window = config.window;
          sessions = before.sessions;
          sides = sides;
          numbers = numbers;
          event = event;
          decision = d;
          decides = subst (λ n. Decides Answers config.names config.window before.entries
              before.sessions event n (Ok d)) (sym (at_moment config.names config.window
              before.sessions event now decides.words d entry decides.decided why.3)) decides;
          is = why.3;
        }));
        bounded = why.4;
        no_room = λ room. omega (
          arith,
          room,
          subst (λ l. MAX_DISK ≤ length (blocks (payloads_of config.names l)) + 5
              + length (payload_behind l entry)) whole why.5,
        );
      }
  cause_of (ends.NumbersSpent side) config past before event now entries today whole sides numbers
      all why = record {
        window = config.window;
        sessions = before.sessions;
        sides = sides;
        numbers = all;
        event = event;
        now = now;
        decides = subst (λ l. Decides Answers config.names config.window l before.sessions event
            now (Err side)) today why;
        last = subst (λ n. MAX_NUMBER ≤ next_out side n) all (spent_last enough counted
            config.names config.window before.entries before.sessions event now side why);
      }
  cause_of end config past before event now entries today whole sides numbers all why = tt

  -- an event that was refused
  pub made_cause : (error : LifeEnd) (config config' : Config) (old new : EngineState)
      (disk : Option (List ℕ)) (event : Event) (now : ℕ) → config' ≡ config
      → new.journal.entries ≡ old.journal.entries → IsReady old disk
      → IsWhy error config (past_of old.journal.entries) (world_of old) event now
      → IsCause error config'.names new.journal.entries
  made_cause error config config' old new disk event now same entries ready why =
      let all = old.journal.entries in
      subst (λ (k : Config). IsCause error k.names new.journal.entries) (sym same)
      (subst (λ l. IsCause error config.names l) (sym entries)
      (cause_of error config (past_of all) (world_of old) event now all refl
      (past-last all ready.sound) ready.sides
      (ready.numbers ∙ sym (last_numbers all ready.sound)) ready.numbers why))

-- an event of which not all could be read fails by the disk
pub act_cause : (error : JournalError) (names : Names) (entries : List Entry)
    (told : Option (List ℕ)) → RefusedUntold {T = Unit {0}} told (Err error)
    → IsCause (end_of error) names entries
act_cause errors.Full names entries told only = absurd only
act_cause error names entries told only = tt
