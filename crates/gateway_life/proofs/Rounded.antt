-- Rounds and lives over days, from what each added to the records.
use Rattle.std.proofs.Common.{◌≡◌, ◌⊎◌, ℕ, Bool, true, false, List, [], ◌∷◌, ◌++◌, refl, sym}
use Rattle.std.proofs.Common.{◌∙◌}
use Rattle.std.proofs.Common.{ap, subst, arith, append_assoc, append-nil, inl, inr, nat_lt, Some}
use Rattle.std.proofs.Common.{None}
use Rattle.std.specs.Prelude.{map, fold, length}
use Rattle.std.specs.declared.option.Option.{Option}
use Rattle.std.proofs.lemmas.Bool.Decides.{nat_tests}
use Rattle.std.proofs.lemmas.List.{map-append}
use Rattle.std.proofs.lemmas.List.Sums.{fold-append}
use Rattle.pair_entries.specs.declared.entry.Entry.{Entry}
use Rattle.kept_entries.specs.Numbers.{first_numbers}
use Rattle.kept_entries.specs.Days.{last_day, past_of, begun_with, day_at}
use Rattle.kept_entries.specs.Entries.{DaysGoOn}
use Rattle.kept_entries.proofs.Dating.{day_at-push, past-last}
use Rattle.event_decisions.specs.Days.{is_due, session_day, new_day}
use Rattle.event_decisions.specs.Event.{Event}
use Rattle.message_answers.specs.Answer.{Answers}
use Rattle.gateway_config.specs.declared.config.Config.{Config}
use Rattle.life_laws.specs.Happens.{World, Added, nothing}
use Rattle.life_laws.specs.Turn.{Reads, both, AllHappen, Round}
use Rattle.life_laws.specs.Days.{DayLeft, DayEnded, EndsDay, LastDay, written, all_added, hung}
use Rattle.life_laws.specs.Days.{nothing_read, fresh, due_in, began_after}
use Rattle.life_laws.specs.Ends.{UpTo, RoundUpTo}
use Rattle.life_laws.proofs.OverDays.{began-push, added-more, added-push, written-more}
use Rattle.life_laws.proofs.OverDays.{written-push}
use Rattle.life_laws.proofs.OverDays.{over-more, over-map, over-end}
use Rattle.gateway_life.specs.declared.end.LifeEnd.{LifeEnd}
use Rattle.gateway_life.specs.declared.end.LifeEnd.TheVariants as ends
use Rattle.gateway_life.specs.State.{EngineState, LifeState}
use Rattle.gateway_life.specs.Ready.{Behind, world_of}
use Rattle.gateway_life.specs.Fails.{IsWhy, FailsBy, IsWhyOfDay}
use Rattle.gateway_life.specs.Stepped.{Records, Grew, AllStepped, Failed}
use Rattle.gateway_life.specs.Life.{begun, rested, went_on, moment_of, LastFails, AtEvent, AtDay}
use Rattle.gateway_life.specs.Life.{BehindDay, IfAtEnd}
use Rattle.gateway_life.specs.Rounds.{AreTold, StoodFor, RoundDone, RoundOver, RoundBroken}
use Rattle.gateway_life.specs.Rounds.{RoundFails}
use Rattle.gateway_life.specs.Rounds.{AtTurn, InRound, DayTurned, DayStays, AtEnd, AtEntry}
use Rattle.gateway_life.specs.Rounds.{DaySoFar, DaysFrom, RoundsDone, LifeDone, LifeBroken}
use Rattle.gateway_life.specs.Rounds.{on_engine}
use Rattle.gateway_life.specs.Rounds.{ends_of}
use Rattle.gateway_life.proofs.Turning.{grew_append, grew_none, both_end, both_three}
use Rattle.gateway_life.proofs.Failing.{failed_up_to}
use Rattle.gateway_life.proofs.Rounding.{are_told_back, rounds_push, none_push}

-- ---- when a new day is due

not_before : (n : ℕ) → nat_lt n n ≡ false
not_before n = by (nat_lt n n) refl
  where
    by : (b : Bool) → nat_lt n n ≡ b → b ≡ false
    by true is = absurd (grind (arith, nat_tests))
    by false is = refl

-- none is at the moment at which one began
not_due : (minute : Option ℕ) (now : ℕ) → is_due minute (Some now) now ≡ false
not_due None now = refl
not_due (Some minute) now = not_before (session_day minute now)

-- when the last day began, by the entries before it and by its own
day_at_parts : (es : List Entry) → DaysGoOn first_numbers es
    → fold begun_with (day_at (past_of es)) (last_day es) ≡ day_at es
day_at_parts es sound = sym (fold-append begun_with None (past_of es) (last_day es))
    ∙ ap day_at (past-last es sound)

-- where the last day has no entry, the earlier ones are all
all_past : (es : List Entry) → DaysGoOn first_numbers es → last_day es ≡ [] → past_of es ≡ es
all_past es sound none = sym (append-nil (past_of es)) ∙ ap (λ l. past_of es ++ l) (sym none)
    ∙ past-last es sound

-- ---- what was done

hung_both : (a b : Added) (w : World) → hung (both a b) w ≡ both a (hung b w)
hung_both a b w = both_three a b (hung nothing w)

-- a day that ended so
abbrev ended_day : Added → World → ℕ → DayEnded
ended_day added after now = record {
  left = record { entries = after.entries; added = hung added after };
  at = now;
}

went_more : (before : List Entry) (days : List DayEnded) (xs : List Entry)
    → went_on before days xs ≡ went_on before days [] ++ xs
went_more before days xs = ap (λ l. past_of before ++ l) (written-more days [] xs)
    ∙ sym (append_assoc (past_of before) (written days []) xs)

-- a test tells one of two
not_both : (b : Bool) (P : Type 0) → b ≡ false → b ≡ true → P
not_both b P down up = absurd (cc (sym down ∙ up))

begun_stands : (config : Config) (life : LifeState) → world_of life.engine ≡ begun config []
    → StoodFor life nothing_read
begun_stands config life fresh_is = record {
  client = λ up. not_both life.engine.client_up _ (ap (λ (w : World). w.client_up) fresh_is) up;
  venue = λ up. not_both life.engine.venue_up _ (ap (λ (w : World). w.venue_up) fresh_is) up;
}

module _ (config : Config) where
  pub rounds_none : (life : LifeState) (r : Records) → RoundsDone config life life [] r r
  rounds_none life r = record {
    days = [];
    added = nothing;
    grew = grew_none r;
    past = sym (append-nil (past_of life.engine.journal.entries));
    began = refl;
    rounds = λ told reads whole.
        (reads, record { rounds = (refl, refl, refl); none_due = tt }, whole);
  }

  -- ---- behind rounds that were done

  module _ (old mid : LifeState) (given : List ℕ) (m : ℕ) (r0 r1 : Records)
      (first : RoundsDone config old mid given r0 r1)
      (sound : DaysGoOn first_numbers mid.engine.journal.entries) where
    abbrev now : ℕ
    now = moment_of m

    abbrev before : Option ℕ
    before = day_at (past_of old.engine.journal.entries)

    abbrev So : Reads → Option ℕ → Reads → World → List ℕ → Type 0
    So reads' = DaySoFar config first.added reads' (world_of mid.engine)

    due_here : (v : Bool) → is_due config.reset (day_at mid.engine.journal.entries) now ≡ v
        → due_in config.reset (began_after before first.days)
        (last_day mid.engine.journal.entries) now ≡ v
    due_here v due = ap (λ o. is_due config.reset o now)
        (ap (λ o. fold begun_with o (last_day mid.engine.journal.entries)) first.began
        ∙ day_at_parts mid.engine.journal.entries sound) ∙ due

    moments_more : map moment_of given ++ now ∷ [] ≡ map moment_of (given ++ m ∷ [])
    moments_more = sym (map-append moment_of given (m ∷ []))

    -- the day goes on at one moment more
    more_days : (Next : Option ℕ → Reads → World → List ℕ → Type 0) (reads reads' : Reads)
        → DaysFrom (So reads') config old reads (map moment_of given) first.days
        → ((r : Reads) (w : World) (ms : List ℕ)
        → So reads' (began_after before first.days) r w ms
        → Next (began_after before first.days) r w (ms ++ now ∷ []))
        → DaysFrom Next config old reads (map moment_of (given ++ m ∷ [])) first.days
    more_days Next reads reads' over to =
        subst (λ l. DaysFrom Next config old reads l first.days) moments_more
        (over-more Answers config.names config.window config.reset (rested config) (So reads') Next
        first.days before reads (world_of old.engine) (map moment_of given) (now ∷ []) to over)

    -- it ends at that moment
    module _ (due : is_due config.reset (day_at mid.engine.journal.entries) now ≡ true)
        (added : Added) (after : World)
        (happen : AllHappen Answers config.names config.window (world_of mid.engine) ends_of now
        added after) where
      abbrev the_day : DayEnded
      the_day = ended_day (both first.added added) after now

      ends_day : (reads' r : Reads) (w : World) (ms : List ℕ)
          → So reads' (began_after before first.days) r w ms
          → EndsDay Answers config.names config.window config.reset
          (began_after before first.days) r w ms the_day
      ends_day reads' r w ms so = record {
        added = both first.added added;
        after = after;
        lived = record {
          lives = record {
            mid = world_of mid.engine;
            read = reads';
            first = first.added;
            rest = added;
            rounds = so.rounds;
            ends = happen;
            all = refl;
          };
          none_due = so.none_due;
        };
        due = due_here true due;
        entries = refl;
        all = refl;
      }

      end_days : (Next : Option ℕ → Reads → World → List ℕ → Type 0) (reads reads' : Reads)
          → DaysFrom (So reads') config old reads (map moment_of given) first.days
          → Next (Some now) nothing_read (fresh (rested config)) (now ∷ [])
          → DaysFrom Next config old reads (map moment_of (given ++ m ∷ []))
          (first.days ++ the_day ∷ [])
      end_days Next reads reads' over next =
          subst (λ l. DaysFrom Next config old reads l (first.days ++ the_day ∷ [])) moments_more
          (over-end Answers config.names config.window config.reset (rested config) (So reads') Next
          first.days the_day before reads (world_of old.engine) (map moment_of given)
          (ends_day reads') next over)

      ended_grew : (between r2 : Records) (more : Added) → Grew r1 between (hung added after)
          → Grew between r2 more → Grew r0 r2 (all_added (first.days ++ the_day ∷ []) more)
      ended_grew between r2 more grew behind =
          let done = grew_append r0 r1 between (all_added first.days first.added) (hung added after)
          first.grew grew in
          let whole : both (all_added first.days first.added) (hung added after)
          ≡ all_added first.days the_day.left.added =
          sym (added-more first.days first.added (hung added after))
          ∙ ap (all_added first.days) (sym (hung_both first.added added after)) in
          subst (Grew r0 r2) (sym (added-push first.days the_day more))
          (grew_append r0 between r2 (all_added first.days the_day.left.added) more
          (subst (Grew r0 between) whole done) behind)

      ended_past : (entries : List Entry)
          → entries ≡ past_of mid.engine.journal.entries ++ after.entries ++ new_day now ∷ []
          → entries ≡ went_on old.engine.journal.entries (first.days ++ the_day ∷ []) []
      ended_past entries is =
          is ∙ ap (λ l. l ++ after.entries ++ new_day now ∷ []) first.past
          ∙ append_assoc (went_on old.engine.journal.entries first.days []) after.entries
          (new_day now ∷ [])
          ∙ sym (went_more old.engine.journal.entries first.days
          (after.entries ++ new_day now ∷ []))
          ∙ ap (λ l. past_of old.engine.journal.entries ++ l)
          (sym (written-push first.days the_day []))

    -- ---- one round more

    stays_more : (new : LifeState) (r2 : Records)
        → is_due config.reset (day_at mid.engine.journal.entries) now ≡ false
        → RoundDone config (on_engine mid mid.engine) new now r1 r2
        → RoundsDone config old new (given ++ m ∷ []) r0 r2
    stays_more new r2 due one = record {
      days = first.days;
      added = both first.added one.added;
      grew = subst (Grew r0 r2) (sym (added-more first.days first.added one.added))
          (grew_append r0 r1 r2 (all_added first.days first.added) one.added first.grew one.grew);
      past = one.past ∙ first.past;
      began = first.began ∙ ap day_at (sym one.past);
      rounds = λ told reads whole.
          let so = first.rounds (are_told_back r1 r2 one.added one.grew told) reads whole in
          let here = one.round told so.0 (record { client = so.2.client; venue = so.2.venue }) in (
            here.0,
            more_days (DaySoFar config (both first.added one.added) here.0 (world_of new.engine))
                reads so.0 so.1 (λ r w ms day. record {
                  rounds = rounds_push config ms now r so.0 here.0 w (world_of mid.engine)
                      (world_of new.engine) first.added one.added day.rounds here.1;
                  none_due = none_push config config.reset (began_after before first.days) ms now r
                      so.0 here.0 w (world_of mid.engine) (world_of new.engine) first.added
                      one.added day.rounds here.1 day.none_due (due_here false due);
                }),
            here.2,
          );
    }

    turned_more : (engine : EngineState) (new : LifeState) (between r2 : Records)
        → DaysGoOn first_numbers engine.journal.entries
        → DayTurned config mid.engine engine now r1 between
        → RoundDone config (on_engine mid engine) new now between r2
        → RoundsDone config old new (given ++ m ∷ []) r0 r2
    turned_more engine new between r2 goes turned one =
        let day = ended_day (both first.added turned.added) turned.mid now in
        let all = all_past engine.journal.entries goes
        (ap (λ (w : World). w.entries) turned.fresh) in
        record {
          days = first.days ++ day ∷ [];
          added = both nothing one.added;
          grew = ended_grew turned.due turned.added turned.mid turned.ends between r2
              (both nothing one.added) turned.grew
              (record { client = one.grew.client; venue = one.grew.venue });
          past = one.past ∙ all ∙ ended_past turned.due turned.added turned.mid turned.ends
              engine.journal.entries turned.entries;
          began = began-push before first.days day
              ∙ sym (ap day_at (one.past ∙ all ∙ turned.entries)
              ∙ day_at-push (past_of mid.engine.journal.entries ++ turned.mid.entries)
              (new_day now));
          rounds = λ told reads whole.
              let told1 = are_told_back between r2 one.added one.grew told in
              let so = first.rounds (are_told_back r1 between (hung turned.added turned.mid)
              turned.grew told1) reads whole in
              let here = one.round told nothing_read
              (begun_stands config (on_engine mid engine) turned.fresh) in
              let round : Round Answers config.names config.window nothing_read
              (fresh (rested config)) now one.added here.0 (world_of new.engine) =
              subst (λ (w : World). Round Answers config.names config.window nothing_read w now
              one.added here.0 (world_of new.engine)) turned.fresh here.1 in (
                here.0,
                end_days turned.due turned.added turned.mid turned.ends
                    (DaySoFar config (both nothing one.added) here.0 (world_of new.engine)) reads
                    so.0 so.1 (record {
                      rounds = (
                        one.added,
                        world_of new.engine,
                        here.0,
                        nothing,
                        round,
                        (refl, refl, refl),
                        both_end one.added,
                      );
                      none_due = (not_due config.reset now, tt);
                    }),
                here.2,
              );
        }

    pub rounds_more : (new : LifeState) (r2 : Records) → RoundOver config mid new now r1 r2
        → RoundsDone config old new (given ++ m ∷ []) r0 r2
    rounds_more new r2 over = by over.day
      where
        by : DayTurned config mid.engine over.mid now r1 over.between
            ⊎ DayStays config mid.engine over.mid now r1 over.between
            → RoundsDone config old new (given ++ m ∷ []) r0 r2
        by (inl turned) = turned_more over.mid new over.between r2 over.sound turned over.done
        by (inr stays) = stays_more new r2 stays.due
            (subst (λ (r : Records). RoundDone config (on_engine mid mid.engine) new now r r2)
            stays.records (subst (λ (e : EngineState).
            RoundDone config (on_engine mid e) new now over.between r2) stays.engine over.done))

    -- ---- the end of both sides

    pub life_done : (x : World) (r2 : Records) (entries : List Entry)
        → AllStepped config (world_of mid.engine) ends_of now x r1 r2
        → entries ≡ past_of mid.engine.journal.entries ++ x.entries
        → LifeDone config old given m r0 r2 entries
    life_done x r2 entries ends is =
        let left : DayLeft =
        record { entries = x.entries; added = both first.added ends.added } in
        record {
          days = first.days;
          left = left;
          grew = subst (Grew r0 r2) (sym (added-more first.days first.added ends.added))
              (grew_append r0 r1 r2 (all_added first.days first.added) ends.added first.grew
              ends.grew);
          goes_on = is ∙ ap (λ l. l ++ x.entries) first.past
              ∙ sym (went_more old.engine.journal.entries first.days x.entries);
          lives = λ told reads whole.
              let so = first.rounds (are_told_back r1 r2 ends.added ends.grew told) reads whole in
              over-map Answers config.names config.window config.reset (rested config) (So so.0)
              (LastDay Answers config.names config.window config.reset now left) first.days before
              reads (world_of old.engine) (map moment_of given) (λ r w ms day. record {
                after = x;
                lived = record {
                  lives = record {
                    mid = world_of mid.engine;
                    read = so.0;
                    first = first.added;
                    rest = ends.added;
                    rounds = day.rounds;
                    ends = ends.happen;
                    all = refl;
                  };
                  none_due = day.none_due;
                };
                entries = refl;
              }) so.1;
        }

    -- ---- what fails

    -- an event of this day, behind rounds of it
    event_fails : (end : LifeEnd) (rounds : ℕ) (added part : Added) (w : World) (event : Event)
        (r2 between : Records) (entries today : List Entry)
        → Grew r1 between added → Grew between r2 part
        → IsWhy end config (past_of mid.engine.journal.entries) w event now
        → FailsBy end config w event now part today
        → entries ≡ past_of mid.engine.journal.entries ++ today
        → (due_in config.reset (began_after before first.days) (last_day mid.engine.journal.entries)
        now ≡ true
        → UpTo Answers config.names config.window (world_of mid.engine) ends_of now added w event)
        → ((reads' : Reads) → AreTold r2 → StoodFor mid reads'
        → (last : RoundUpTo Answers config.names config.window reads' (world_of mid.engine) now
        added w event
        ⊎ UpTo Answers config.names config.window (world_of mid.engine) ends_of now added w event)
        × IfAtEnd last ((due_in config.reset (began_after before first.days)
        (last_day mid.engine.journal.entries) now ≡ true) ⊎ (length given ≡ rounds)))
        → LifeBroken end config old rounds given m r0 r2 entries
    event_fails end rounds added part w event r2 between entries today grew rest why fails is due
        last =
        let left : DayLeft =
        record { entries = today; added = both (both first.added added) part } in
        let whole : both (both (all_added first.days first.added) added) part
        ≡ all_added first.days left.added =
        sym (added-more first.days (both first.added added) part
        ∙ ap (λ a. both a part) (added-more first.days first.added added)) in
        record {
          days = first.days;
          left = left;
          grew = subst (Grew r0 r2) whole (grew_append r0 between r2
              (both (all_added first.days first.added) added) part (grew_append r0 r1 between
              (all_added first.days first.added) added first.grew grew) rest);
          goes_on = is ∙ ap (λ l. l ++ today) first.past
              ∙ sym (went_more old.engine.journal.entries first.days today);
          fails = λ told reads stood.
              let told1 = are_told_back r1 between added grew
              (are_told_back between r2 part rest told) in
              let so = first.rounds told1 reads stood in
              let at = last so.0 told so.2 in
              more_days (LastFails end config (went_on old.engine.journal.entries first.days []) now
              left (length given ≡ rounds)) reads so.0 so.1 (λ r v ms day. AtEvent (record {
                whole = ms;
                split = refl;
                added = both first.added added;
                mid = w;
                event = event;
                up_to = record {
                  between = world_of mid.engine;
                  read = so.0;
                  first = first.added;
                  rest = added;
                  rounds = day.rounds;
                  last = at.0;
                  all = refl;
                };
                none_due = day.none_due;
                due = due;
                ends = at.1;
                why = subst (λ l. IsWhy end config l w event now) first.past why;
                part = part;
                fails = fails;
                all = refl;
              }));
        }

    pub ends_fail : (end : LifeEnd) (rounds : ℕ) (r2 : Records) (entries : List Entry)
        → (is_due config.reset (day_at mid.engine.journal.entries) now ≡ true)
        ⊎ (length given ≡ rounds)
        → Behind (past_of mid.engine.journal.entries)
        (Failed end config (past_of mid.engine.journal.entries) (world_of mid.engine) ends_of now
        r1 r2) entries
        → LifeBroken end config old rounds given m r0 r2 entries
    ends_fail end rounds r2 entries ends h =
        let failed = h.2 in
        let up_to = failed_up_to config end (past_of mid.engine.journal.entries)
        (world_of mid.engine) ends_of ends_of [] now r1 r2 h.0 refl failed in
        event_fails end rounds failed.all.added failed.broken.added failed.mid failed.last r2
        failed.between entries h.0 failed.all.grew failed.broken.grew failed.broken.why
        failed.broken.fails h.1 (λ due. up_to) (λ reads' told stood. (inr up_to, here ends))
      where
        here : (is_due config.reset (day_at mid.engine.journal.entries) now ≡ true)
            ⊎ (length given ≡ rounds)
            → (due_in config.reset (began_after before first.days)
            (last_day mid.engine.journal.entries) now ≡ true) ⊎ (length given ≡ rounds)
        here (inl due) = inl (due_here true due)
        here (inr all) = inr all

    round_fails : (end : LifeEnd) (rounds : ℕ) (r2 : Records) (entries : List Entry)
        → is_due config.reset (day_at mid.engine.journal.entries) now ≡ false
        → Behind (past_of mid.engine.journal.entries)
        (RoundBroken end config (on_engine mid mid.engine) now r1 r2) entries
        → LifeBroken end config old rounds given m r0 r2 entries
    round_fails end rounds r2 entries due h =
        let round = h.2 in
        event_fails end rounds round.added round.broken.added round.mid round.event r2
        round.between entries h.0 round.grew round.broken.grew round.broken.why round.broken.fails
        h.1 (λ is. not_both _ _ (due_here false due) is) (λ reads' told stood. (
          inl (round.up_to told reads' (record { client = stood.client; venue = stood.venue })),
          tt,
        ))

    -- the new day was not committed
    day_fails : (end : LifeEnd) (rounds : ℕ) (r2 : Records) (entries : List Entry)
        (due : is_due config.reset (day_at mid.engine.journal.entries) now ≡ true)
        (added : Added) (after : World)
        → AllHappen Answers config.names config.window (world_of mid.engine) ends_of now added after
        → Grew r1 r2 (hung added after)
        → IsWhyOfDay end config.names (past_of mid.engine.journal.entries ++ after.entries) now
        → entries ≡ past_of mid.engine.journal.entries ++ after.entries
        → LifeBroken end config old rounds given m r0 r2 entries
    day_fails end rounds r2 entries due added after ends grew why is =
        let day = ended_day (both first.added added) after now in
        let whole : both (all_added first.days first.added) (hung added after)
        ≡ all_added first.days day.left.added =
        sym (added-more first.days first.added (hung added after))
        ∙ ap (all_added first.days) (sym (hung_both first.added added after)) in
        record {
          days = first.days;
          left = day.left;
          grew = subst (Grew r0 r2) whole (grew_append r0 r1 r2
              (all_added first.days first.added) (hung added after) first.grew grew);
          goes_on = is ∙ ap (λ l. l ++ after.entries) first.past
              ∙ sym (went_more old.engine.journal.entries first.days after.entries);
          fails = λ told reads stood.
              let so = first.rounds (are_told_back r1 r2 (hung added after) grew told) reads stood
              in
              more_days (LastFails end config (went_on old.engine.journal.entries first.days []) now
              day.left (length given ≡ rounds)) reads so.0 so.1 (λ r v ms so_far. AtDay (record {
                whole = ms;
                split = refl;
                ends = ends_day due added after ends so.0 r v ms so_far;
                why = subst (λ l. IsWhyOfDay end config.names (l ++ after.entries) now) first.past
                    why;
              }));
        }

    -- it stands, but the disk failed
    day_stands : (end : LifeEnd) (rounds : ℕ) (r2 : Records) (entries : List Entry)
        (due : is_due config.reset (day_at mid.engine.journal.entries) now ≡ true)
        (added : Added) (after : World)
        → AllHappen Answers config.names config.window (world_of mid.engine) ends_of now added after
        → Grew r1 r2 (hung added after) → end ≡ ends.DiskFault
        → entries ≡ past_of mid.engine.journal.entries ++ after.entries ++ new_day now ∷ []
        → LifeBroken end config old rounds given m r0 r2 entries
    day_stands end rounds r2 entries due added after happen grew failed is =
        let day = ended_day (both first.added added) after now in
        record {
          days = first.days ++ day ∷ [];
          left = record { entries = []; added = nothing };
          grew = ended_grew due added after happen r2 r2 nothing grew (grew_none r2);
          goes_on = ended_past due added after happen entries is;
          fails = λ told reads stood.
              let so = first.rounds (are_told_back r1 r2 (hung added after) grew told) reads stood
              in
              end_days due added after happen
              (LastFails end config
              (went_on old.engine.journal.entries (first.days ++ day ∷ []) [])
              now (record { entries = []; added = nothing }) (length given ≡ rounds)) reads so.0
              so.1
              (BehindDay (record {
                failed = failed;
                fresh = refl;
                only = refl;
                entries = refl;
                added = refl;
              }));
        }

    -- the round of the new day failed
    next_fails : (end : LifeEnd) (rounds : ℕ) (engine : EngineState) (between r2 : Records)
        (entries : List Entry) → DaysGoOn first_numbers engine.journal.entries
        → DayTurned config mid.engine engine now r1 between
        → Behind (past_of engine.journal.entries)
        (RoundBroken end config (on_engine mid engine) now between r2) entries
        → LifeBroken end config old rounds given m r0 r2 entries
    next_fails end rounds engine between r2 entries goes turned h =
        let round = h.2 in
        let day = ended_day (both first.added turned.added) turned.mid now in
        let left : DayLeft =
        record { entries = h.0; added = both (both nothing round.added) round.broken.added } in
        let past = all_past engine.journal.entries goes
        (ap (λ (w : World). w.entries) turned.fresh)
        ∙ ended_past turned.due turned.added turned.mid turned.ends engine.journal.entries
        turned.entries in
        let behind = grew_append between round.between r2 round.added round.broken.added round.grew
        round.broken.grew in
        record {
          days = first.days ++ day ∷ [];
          left = left;
          grew = ended_grew turned.due turned.added turned.mid turned.ends between r2 left.added
              turned.grew behind;
          goes_on = h.1 ∙ ap (λ l. l ++ h.0) past
              ∙ sym (went_more old.engine.journal.entries (first.days ++ day ∷ []) h.0);
          fails = λ told reads stood.
              let told1 = are_told_back between r2 left.added behind told in
              let so = first.rounds (are_told_back r1 between (hung turned.added turned.mid)
              turned.grew told1) reads stood in
              let up_to : RoundUpTo Answers config.names config.window nothing_read
              (fresh (rested config)) now round.added round.mid round.event =
              subst (λ (w : World). RoundUpTo Answers config.names config.window nothing_read w now
              round.added round.mid round.event) turned.fresh (round.up_to told nothing_read
              (begun_stands config (on_engine mid engine) turned.fresh)) in
              end_days turned.due turned.added turned.mid turned.ends
              (LastFails end config
              (went_on old.engine.journal.entries (first.days ++ day ∷ []) [])
              now left (length given ≡ rounds)) reads so.0 so.1 (AtEvent (record {
                whole = [];
                split = refl;
                added = both nothing round.added;
                mid = round.mid;
                event = round.event;
                up_to = record {
                  between = fresh (rested config);
                  read = nothing_read;
                  first = nothing;
                  rest = round.added;
                  rounds = (refl, refl, refl);
                  last = inl up_to;
                  all = refl;
                };
                none_due = tt;
                due = λ is. not_both _ _ (not_due config.reset now) is;
                ends = tt;
                why = subst (λ l. IsWhy end config l round.mid round.event now) past
                    round.broken.why;
                part = round.broken.added;
                fails = round.broken.fails;
                all = refl;
              }));
        }

    pub life_fails : (end : LifeEnd) (rounds : ℕ) (r2 : Records) (entries : List Entry)
        → RoundFails end config mid now r1 r2 entries
        → LifeBroken end config old rounds given m r0 r2 entries
    life_fails end rounds r2 entries (AtTurn (AtEnd due h)) =
        ends_fail end rounds r2 entries (inl due) h
    life_fails end rounds r2 entries (AtTurn (AtEntry due added after happen grew why (inl is))) =
        day_fails end rounds r2 entries due added after happen grew why is
    life_fails end rounds r2 entries
        (AtTurn (AtEntry due added after happen grew why (inr fault))) =
        day_stands end rounds r2 entries due added after happen grew fault.0 fault.1
    life_fails end rounds r2 entries (InRound engine between goes (inl turned) h) =
        next_fails end rounds engine between r2 entries goes turned h
    life_fails end rounds r2 entries (InRound engine between goes (inr stays) h) =
        round_fails end rounds r2 entries stays.due
        (subst (λ (r : Records). Behind (past_of mid.engine.journal.entries)
        (RoundBroken end config (on_engine mid mid.engine) now r r2) entries) stays.records
        (subst (λ (e : EngineState). Behind (past_of e.journal.entries)
        (RoundBroken end config (on_engine mid e) now between r2) entries) stays.engine h))
