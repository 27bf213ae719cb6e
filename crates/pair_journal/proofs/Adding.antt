-- A commit, as contracts see a journal.
use Rattle.std.proofs.Common.{◌≡◌, ℕ, ◌+◌, ◌≤◌, true, false, Bool, List, [], ◌∷◌, ◌++◌, length}
use Rattle.std.proofs.Common.{refl, sym, ◌∙◌, ap, subst, arith, ◌-◌, min, leb, leb-true, Ok, Err}
use Rattle.std.specs.Prelude.{Result, OnErr, IsErrAnd}
use Rattle.std.proofs.Math.Nat.{min-zero, min-eq_left, min-eq_right}
use Rattle.outside.specs.declared.disk.TheConstants.{MAX_DISK}
use Rattle.order_meaning.specs.declared.names.Names.{Names}
use Rattle.gate_log.specs.Records.{blocks}
use Rattle.gate_log.specs.Log.{HasRoom, Appends}
use Rattle.gate_log.specs.State.{LogState}
use Rattle.gate_log.specs.declared.error.LogError.{LogError}
use Rattle.gate_log.specs.declared.error.LogError.TheVariants as log_errors
use Rattle.pair_entries.specs.declared.entry.Entry.{Entry}
use Rattle.pair_entries.specs.Payload.{Next, AreNext}
use Rattle.kept_entries.specs.Numbers.{first_numbers, numbers_after}
use Rattle.kept_entries.specs.Entries.{DaysGoOn}
use Rattle.kept_entries.specs.Days.{payload_behind}
use Rattle.kept_entries.specs.State.{KeptState}
use Rattle.kept_entries.proofs.Giving.{not_past}
use Rattle.pair_journal.specs.declared.error.JournalError.{JournalError}
use Rattle.pair_journal.specs.Calls.{Commits, journal_error, payloads_of}
use Rattle.pair_journal.specs.Loading.{HasExtent}
use Rattle.pair_journal.specs.State.{JournalState}
use Rattle.pair_journal.proofs.Carrying.{has_room, has_none}

state_join : (n n' : Names) (es es' : List Entry) (b b' : Bool) (s s' : ℕ) → n ≡ n' → es ≡ es'
    → b ≡ b' → s ≡ s' → ◌≡◌ {A = JournalState}
    (record { names = n; entries = es; broken = b; spare = s })
    (record { names = n'; entries = es'; broken = b'; spare = s' })
state_join n n' es es' b b' s s' hn he hb hs = cc

min_less : (a b : ℕ) → min (a - 1) (b - 1) ≡ min a b - 1
min_less a b = by (leb a b) refl
  where
    by : (t : Bool) → leb a b ≡ t → min (a - 1) (b - 1) ≡ min a b - 1
    by true test =
        let low : a ≤ b = leb-true a b test in
        let less : a - 1 ≤ b - 1 = omega (arith, low) in
        min-eq_left less ∙ ap (λ (n : ℕ). n - 1) (sym (min-eq_left low))
    by false test =
        let low : b ≤ a = omega (arith, not_past a b test) in
        let less : b - 1 ≤ a - 1 = omega (arith, low) in
        min-eq_right less ∙ ap (λ (n : ℕ). n - 1) (sym (min-eq_right low))

module _ (log log1 : LogState) (names : Names) (kept kept1 : KeptState) (now : JournalState)
    (seen : ◌≡◌ {A = JournalState} (record {
      names = names;
      entries = kept.entries;
      broken = log.broken;
      spare = min log.spare kept.spare;
    }) now) where
  -- a journal after a commit
  pub committed : (entry copy : Entry) (end count : ℕ) → ◌≡◌ {A = LogState} log1
      (record log { end = end; count = count; spare = log.spare - 1 })
      → ◌≡◌ {A = KeptState} kept1
      (record { entries = kept.entries ++ copy ∷ []; spare = kept.spare - 1 })
      → copy ≡ entry → ◌≡◌ {A = JournalState} (record {
        names = names;
        entries = kept1.entries;
        broken = log1.broken;
        spare = min log1.spare kept1.spare;
      }) (record now { entries = now.entries ++ entry ∷ []; spare = now.spare - 1 })
  committed entry copy end count log_is kept_is same =
      state_join names now.names kept1.entries (now.entries ++ entry ∷ []) log1.broken now.broken
      (min log1.spare kept1.spare) (now.spare - 1) (ap (λ (s : JournalState). s.names) seen)
      (ap (λ (k : KeptState). k.entries) kept_is
      ∙ ap (λ (x : Entry). kept.entries ++ x ∷ []) same
      ∙ ap (λ (s : JournalState). s.entries ++ entry ∷ []) seen)
      (ap (λ (l : LogState). l.broken) log_is ∙ ap (λ (s : JournalState). s.broken) seen)
      (ap (λ (l : LogState). min l.spare kept1.spare) log_is
      ∙ ap (λ (k : KeptState). min (log.spare - 1) k.spare) kept_is
      ∙ min_less log.spare kept.spare ∙ ap (λ (s : JournalState). s.spare - 1) seen)

  -- a journal whose log alone has room has none
  pub lacking : {T E : Type 0} (r : Result T E)
      → ◌≡◌ {A = LogState} log1 (record log { spare = 1 }) → kept1 ≡ kept → kept.spare ≡ 0
      → OnErr r (◌≡◌ {A = JournalState} (record {
        names = names;
        entries = kept1.entries;
        broken = log1.broken;
        spare = min log1.spare kept1.spare;
      }) now)
  lacking (Ok value) log_is kept_is none = tt
  lacking (Err error) log_is kept_is none =
      state_join names now.names kept1.entries now.entries log1.broken now.broken
      (min log1.spare kept1.spare) now.spare (ap (λ (s : JournalState). s.names) seen)
      (ap (λ (k : KeptState). k.entries) kept_is ∙ ap (λ (s : JournalState). s.entries) seen)
      (ap (λ (l : LogState). l.broken) log_is ∙ ap (λ (s : JournalState). s.broken) seen)
      (ap (λ (k : KeptState). min log1.spare k.spare) kept_is
      ∙ ap (λ (n : ℕ). min log1.spare n) none ∙ min-zero log1.spare ∙ sym (min-zero log.spare)
      ∙ ap (λ (n : ℕ). min log.spare n) (sym none) ∙ ap (λ (s : JournalState). s.spare) seen)

-- a commit that the log refused
module _ (log log1 : LogState) (names : Names) (kept : KeptState) (now : JournalState)
    (seen : ◌≡◌ {A = JournalState} (record {
      names = names;
      entries = kept.entries;
      broken = log.broken;
      spare = min log.spare kept.spare;
    }) now) (entry : Entry) (payload : List ℕ) (has : HasExtent log names kept.entries)
    (said : payload ≡ payload_behind kept.entries entry) where
  abbrev over_log : LogState → JournalState
  over_log l = record {
    names = names;
    entries = kept.entries;
    broken = l.broken;
    spare = min l.spare kept.spare;
  }

  refused_by : (error : LogError) → Appends payload log log1 (Err error)
      → Commits entry now (over_log log1) (Err (journal_error error))
  refused_by log_errors.DiskFault is = (
    subst (λ (s : JournalState). HasRoom (payloads_of s.names s.entries)
        (payload_behind s.entries entry)) seen
        (has_room log names kept.entries entry payload has said is.0),
    ap over_log is.1 ∙ ap (λ (s : JournalState). record s { broken = true }) seen,
  )
  refused_by log_errors.Full is = (
    subst (λ (s : JournalState). MAX_DISK ≤ length (blocks (payloads_of s.names s.entries)) + 5
        + length (payload_behind s.entries entry)) seen
        (has_none log names kept.entries entry payload has said is.0),
    ap over_log is.1 ∙ seen,
  )
  refused_by (log_errors.Foreign at) is = absurd is
  refused_by log_errors.NoMemory is = absurd is

  pub commit_refused : (r : Result Entry JournalError) (error : LogError)
      → IsErrAnd r (λ e. e ≡ journal_error error) → Appends payload log log1 (Err error)
      → Commits entry now (over_log log1) r
  commit_refused (Ok answer) error is appends = absurd is
  commit_refused (Err e) error is appends =
      subst (λ (x : JournalError). Commits entry now (over_log log1) (Err x)) (sym is)
      (refused_by error appends)

-- ---- bounds of next numbers

pub next_bounds : (entries : List Entry)
    → DaysGoOn first_numbers entries → AreNext (numbers_after first_numbers entries)
next_bounds entries are = go first_numbers entries first are
  where
    first : AreNext first_numbers
    first = (
      (omega arith, omega arith),
      (omega arith, omega arith),
      (omega arith, omega arith),
      (omega arith, omega arith),
    )

    go : (before : Next) (es : List Entry) → AreNext before → DaysGoOn before es
        → AreNext (numbers_after before es)
    go before [] bounds are = bounds
    go before (e ∷ es) bounds are = go e.next es are.0.next are.2
