-- The entries of the last day, and those before them.
use Rattle.std.proofs.Common.{◌≡◌, false, List, ◌++◌, sym, ◌∙◌, ap, subst}
use Rattle.std.proofs.Common.{append-nil, Some, None, IfSome}
use Rattle.std.specs.declared.option.Option.{Option}
use Rattle.std.specs.Option.{option_to_list}
use Rattle.pair_entries.specs.declared.entry.Entry.{Entry}
use Rattle.pair_entries.specs.Payload.{Next, IsEntry}
use Rattle.kept_entries.specs.Numbers.{GoesOn, first_numbers, numbers_before, numbers_after}
use Rattle.kept_entries.specs.Entries.{DaysGoOn}
use Rattle.kept_entries.specs.Days.{last_day, past_of}
use Rattle.kept_entries.proofs.Dating.{DaysGoOn-push, before_more, last_day-push, past_more}
use Rattle.kept_entries.proofs.Dating.{last_numbers}
use Rattle.gateway_life.specs.Ready.{Behind}

-- ---- what an event commits begins no day

abbrev pub SameDay : Option Entry → Type 0
SameDay entry = IfSome entry (λ e. e.reset ≡ false)

-- its numbers go on from those of the last day, which count from 1 where it begins a day itself
abbrev pub GoesToday : List Entry → Option Entry → Type 0
GoesToday xs entry =
    IfSome entry (λ e. GoesOn (numbers_before (numbers_after first_numbers (last_day xs)) e) e)

pub goes_today : (xs : List Entry) (entry : Option Entry) → SameDay entry
    → IfSome entry (GoesOn (numbers_after first_numbers (last_day xs)))
    → GoesToday xs entry
goes_today xs None same goes = tt
goes_today xs (Some e) same goes = subst (λ (n : Next). GoesOn n e)
    (sym (before_more (numbers_after first_numbers (last_day xs)) e same)) goes

pub sound_more : (xs : List Entry) (entry : Option Entry) → DaysGoOn first_numbers xs
    → IfSome entry IsEntry → GoesToday xs entry
    → DaysGoOn first_numbers (xs ++ option_to_list entry)
sound_more xs None on is goes = subst (DaysGoOn first_numbers) (sym (append-nil xs)) on
sound_more xs (Some e) on is goes = DaysGoOn-push first_numbers xs e on is
    (subst (λ (n : Next). GoesOn (numbers_before n e) e) (last_numbers xs on) goes)

pub today_more : (xs : List Entry) (entry : Option Entry) → SameDay entry
    → last_day (xs ++ option_to_list entry) ≡ last_day xs ++ option_to_list entry
today_more xs None same = ap last_day (append-nil xs) ∙ sym (append-nil (last_day xs))
today_more xs (Some e) same = last_day-push xs e same

pub past_same : (xs : List Entry) (entry : Option Entry) → DaysGoOn first_numbers xs
    → DaysGoOn first_numbers (xs ++ option_to_list entry) → SameDay entry
    → past_of (xs ++ option_to_list entry) ≡ past_of xs
past_same xs None on more same = ap past_of (append-nil xs)
past_same xs (Some e) on more same = past_more xs e on more same

-- ---- what is left behind the same days

pub behind_map : (past past' : List Entry) (P Q : List Entry → Type 0) → past' ≡ past
    → ((xs : List Entry) → P xs → Q xs) → (xs : List Entry) → Behind past' P xs
    → Behind past Q xs
behind_map past past' P Q same to xs h =
    (h.0, h.1 ∙ ap (λ l. l ++ h.0) same, to h.0 h.2)
