-- What the days of a journal account for, each by itself.
use Rattle.std.proofs.Common.{◌≡◌, Bool, true, false, List, [], ◌∷◌, ◌++◌, length, map, refl, sym}
use Rattle.std.proofs.Common.{◌∙◌, ap, subst, arith, append_assoc, append-nil, length-append}
use Rattle.std.specs.Prelude.{fold}
use Rattle.std.proofs.lemmas.List.Sums.{fold-append}
use Rattle.order_meaning.specs.declared.names.Names.{Names}
use Rattle.pair_entries.specs.declared.entry.Entry.{Entry}
use Rattle.pair_entries.specs.Payload.{Next, IsEntry}
use Rattle.kept_entries.specs.Numbers.{GoesOn, first_numbers, numbers_before, numbers_after}
use Rattle.kept_entries.specs.Days.{Days, day_with, day_ended, day_longer, no_days, days_of}
use Rattle.kept_entries.specs.Days.{last_day}
use Rattle.kept_entries.specs.Days.{past_of}
use Rattle.kept_entries.specs.Entries.{AreEntries, DaysGoOn}
use Rattle.kept_entries.proofs.Dating.{with_more, with_reset, past-last, before_more}
use Rattle.kept_entries.proofs.Dating.{last_is_sound, AreEntries-push, numbers_after-push}
use Rattle.event_decisions.specs.Days.{new_day}
use Rattle.event_decisions.specs.Decide.{IsDecided, LawfulAfter}
use Rattle.event_decisions.proofs.Continues.{decisions_continue}
use Rattle.message_answers.specs.Answer.{Answers}
use Rattle.wires.specs.Wire.{Connection}
use Rattle.life_laws.specs.Days.{DayEnded, written, Transcript, AllLeave, LeavesDays, days_after}
use Rattle.gateway_life.specs.Laws.{AreShown, MessagesAreTaken, AllTaken}
use Rattle.gateway_life.specs.Lived.{Accounts}

-- ---- no day begins within a lawful one

abbrev AllSame : List Entry → Type 0
AllSame [] = Unit {0}
AllSame (e ∷ es) = (e.reset ≡ false) × AllSame es

decided_same : (names : Names) (before : List Entry) (entry : Entry)
    → IsDecided Answers names before entry → entry.reset ≡ false
decided_same names before entry d = (decisions_continue names d.window d.sessions d.event entry.at
    d.decides.words d.decision d.sides d.decides.decided).same_day entry d.is

lawful_same : (names : Names) (before entries : List Entry)
    → LawfulAfter Answers names before entries → AllSame entries
lawful_same names before [] lawful = tt
lawful_same names before (e ∷ es) lawful = (
  decided_same names before e lawful.0,
  lawful_same names (before ++ e ∷ []) es lawful.1,
)

-- ---- the days of what was written

same_days : (days : Days) (es : List Entry) → AllSame es
    → fold day_with days es ≡ record { ended = days.ended; present = days.present ++ es }
same_days days [] same = λ i. record {
  ended = days.ended;
  present = sym (append-nil days.present) i;
}
same_days days (e ∷ es) same =
    ap (λ (d : Days). fold day_with d es) (with_more days e same.0)
    ∙ same_days (day_longer days e) es same.1
    ∙ (λ i. record {
      ended = days.ended;
      present = append_assoc days.present (e ∷ []) es i;
    })

-- the present day has none
present_step : (b : Bool) (days : Days) (e : Entry) (es : List Entry) → e.reset ≡ b
    → AllSame days.present
    → ((d : Days) → AllSame d.present → AllSame (fold day_with d es).present)
    → AllSame (fold day_with (day_with days e) es).present
present_step true days e es is same rest =
    subst (λ (d : Days). AllSame (fold day_with d es).present) (sym (with_reset days e is))
    (rest (day_ended days) tt)
present_step false days e es is same rest =
    subst (λ (d : Days). AllSame (fold day_with d es).present) (sym (with_more days e is))
    (rest (day_longer days e) (push days.present same))
  where
    push : (l : List Entry) → AllSame l → AllSame (l ++ e ∷ [])
    push [] all = (is, tt)
    push (x ∷ l) all = (all.0, push l all.1)

present_same : (days : Days) (es : List Entry) → AllSame days.present
    → AllSame (fold day_with days es).present
present_same days [] same = same
present_same days (e ∷ es) same =
    present_step e.reset days e es refl same (λ d here. present_same d es here)

none_front : (xs ys : List Entry) → ys ≡ xs ++ ys → xs ≡ []
none_front [] ys is = refl
none_front (x ∷ xs) ys is = absurd (omega (arith, ap length is, length-append (x ∷ xs) ys))

-- the days before the last
module _ (es : List Entry) (sound : DaysGoOn first_numbers es) where
  whole_days : days_of es ≡ record {
    ended = (days_of (past_of es)).ended;
    present = (days_of (past_of es)).present ++ last_day es;
  }
  whole_days = ap days_of (sym (past-last es sound))
      ∙ fold-append day_with no_days (past_of es) (last_day es)
      ∙ same_days (days_of (past_of es)) (last_day es) (present_same no_days es tt)

  days_past : days_of (past_of es) ≡ record { ended = (days_of es).ended; present = [] }
  days_past =
      let none = none_front (days_of (past_of es)).present (last_day es)
      (ap (λ (d : Days). d.present) whole_days) in
      λ i. record {
        ended = ap (λ (d : Days). d.ended) (sym whole_days) i;
        present = none i;
      }

-- each goes on by itself
abbrev AllEntries : List (List Entry) → Type 0
AllEntries [] = Unit {0}
AllEntries (day ∷ days) = AreEntries first_numbers day × AllEntries days

all_push : (days : List (List Entry)) (day : List Entry) → AllEntries days
    → AreEntries first_numbers day → AllEntries (days ++ day ∷ [])
all_push [] day all one = (one, tt)
all_push (d ∷ days) day all one = (all.0, all_push days day all.1 one)

each_step : (b : Bool) (days : Days) (before : Next) (e : Entry) (es : List Entry) → e.reset ≡ b
    → AllEntries days.ended → AreEntries first_numbers days.present
    → numbers_after first_numbers days.present ≡ before → IsEntry e
    → GoesOn (numbers_before before e) e
    → ((d : Days) → AllEntries d.ended → AreEntries first_numbers d.present
    → numbers_after first_numbers d.present ≡ e.next → AllEntries (fold day_with d es).ended)
    → AllEntries (fold day_with (day_with days e) es).ended
each_step true days before e es is all are at one on rest =
    subst (λ (d : Days). AllEntries (fold day_with d es).ended) (sym (with_reset days e is))
    (rest (day_ended days) (all_push days.ended days.present all are) tt (sym (one.reset is).next))
each_step false days before e es is all are at one on rest =
    subst (λ (d : Days). AllEntries (fold day_with d es).ended) (sym (with_more days e is))
    (rest (day_longer days e) all (AreEntries-push first_numbers days.present e are one
    (subst (λ (n : Next). GoesOn n e) (before_more before e is ∙ sym at) on))
    (numbers_after-push first_numbers days.present e))

each_from : (days : Days) (before : Next) (es : List Entry) → AllEntries days.ended
    → AreEntries first_numbers days.present → numbers_after first_numbers days.present ≡ before
    → DaysGoOn before es → AllEntries (fold day_with days es).ended
each_from days before [] all are at on = all
each_from days before (e ∷ es) all are at on =
    each_step e.reset days before e es refl all are at on.0 on.1
    (λ d here entries now. each_from d e.next es here entries now on.2)

abbrev AllDaysSame : List DayEnded → List Entry → Type 0
AllDaysSame [] present = AllSame present
AllDaysSame (day ∷ days) present = AllSame day.left.entries × AllDaysSame days present

days_written : (d : Days) (days : List DayEnded) (present : List Entry) → d.present ≡ []
    → AllDaysSame days present
    → fold day_with d (written days present) ≡ days_after d days present
days_written d [] present none same = same_days d present same ∙ (λ i. record {
  ended = sym (append-nil d.ended) i;
  present = ap (λ l. l ++ present) none i;
})
days_written d (day ∷ days) present none same =
    let more = written days present in
    let here : fold day_with d day.left.entries
    ≡ record { ended = d.ended; present = day.left.entries } =
    same_days d day.left.entries same.0 ∙ (λ i. record {
      ended = d.ended;
      present = ap (λ l. l ++ day.left.entries) none i;
    }) in
    let next : Days = record { ended = d.ended ++ day.left.entries ∷ []; present = [] } in
    fold-append day_with d day.left.entries (new_day day.at ∷ more)
    ∙ ap (λ (x : Days). fold day_with (day_with x (new_day day.at)) more) here
    ∙ days_written next days present refl same.1
    ∙ (λ i. record {
      ended = append_assoc d.ended (day.left.entries ∷ []) (map (λ x. x.left.entries) days) i;
      present = present;
    })

-- ---- each day by itself

all_leave_same : (names : Names) (days : List DayEnded) (client venue : List (List Connection))
    → AllLeave Answers names (map (λ day. day.left.entries) days) client venue
    → (present : List Entry) → AllSame present → AllDaysSame days present
all_leave_same names [] client venue all present same = same
all_leave_same names (day ∷ days) [] venue all present same = absurd all
all_leave_same names (day ∷ days) (c ∷ cs) [] all present same = absurd all
all_leave_same names (day ∷ days) (c ∷ cs) (v ∷ vs) all present same = (
  lawful_same names [] day.left.entries all.0.lawful,
  all_leave_same names days cs vs all.1 present same,
)

-- those behind others
behind_leave : (names : Names) (front back : List (List Entry))
    (client venue : List (List Connection)) → AllLeave Answers names (front ++ back) client venue
    → (cs : List (List Connection)) × (vs : List (List Connection))
    × AllLeave Answers names back cs vs
behind_leave names [] back client venue all = (client, venue, all)
behind_leave names (f ∷ front) back [] venue all = absurd all
behind_leave names (f ∷ front) back (c ∷ cs) [] all = absurd all
behind_leave names (f ∷ front) back (c ∷ cs) (v ∷ vs) all =
    behind_leave names front back cs vs all.1

-- the days of a journal from which a life went on
pub days_on : (names : Names) (before : List Entry) (days : List DayEnded) (present : List Entry)
    (client venue : Transcript) → DaysGoOn first_numbers before
    → LeavesDays Answers names (days_after (days_of before) days present) client venue
    → days_of (past_of before ++ written days present)
    ≡ days_after (days_of before) days present
days_on names before days present client venue sound leaves =
    let ended = behind_leave names (days_of before).ended (map (λ day. day.left.entries) days)
    client.ended venue.ended leaves.ended in
    let same = all_leave_same names days ended.0 ended.1 ended.2 present
    (lawful_same names [] present leaves.present.lawful) in
    let none : Days = record { ended = (days_of before).ended; present = [] } in
    fold-append day_with no_days (past_of before) (written days present)
    ∙ ap (λ (d : Days). fold day_with d (written days present)) (days_past before sound)
    ∙ days_written none days present refl same

-- ---- what each accounts for

all_taken : (take : MessagesAreTaken) (names : Names) → AreShown names → (days : List (List Entry))
    (client venue : List (List Connection)) → AllEntries days
    → AllLeave Answers names days client venue → AllTaken names days client venue
all_taken take names shown [] [] [] sound all = tt
all_taken take names shown (day ∷ days) (c ∷ cs) (v ∷ vs) sound all = (
  take names day c v all.0 shown sound.0,
  all_taken take names shown days cs vs sound.1 all.1,
)
all_taken take names shown days client venue sound all = absurd all

pub accounted : MessagesAreTaken → (names : Names) (entries : List Entry)
    (client venue : Transcript) → DaysGoOn first_numbers entries
    → LeavesDays Answers names (days_of entries) client venue
    → Accounts names (days_of entries) client venue
accounted take names entries client venue sound leaves =
    record {
      leaves = leaves;
      taken = λ shown. record {
        ended = all_taken take names shown (days_of entries).ended client.ended venue.ended
            (each_from no_days first_numbers entries tt tt refl sound) leaves.ended;
        present = take names (last_day entries) client.present venue.present leaves.present shown
            (last_is_sound entries sound);
      };
    }
