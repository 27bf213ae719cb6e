-- What lacks a spelling in FIX 4.2.
use Rattle.std.proofs.Common.{◌≡◌, ℕ, List, Bool, true, false, Option, Some, None, refl, sym, ap}
use Rattle.std.proofs.Common.{subst, ◌∙◌, codes, unwrap_or, option_map}
use Rattle.std.specs.Prelude.{Err, IsOk, not, is_none, is_some, ◌==◌, if◌then◌else◌}
use Rattle.std.specs.List.{list_all}
use Rattle.message_tables.specs.Tables.{Message, Required, Said, ◌>>=◌, code_if, code_in, code_of}
use Rattle.message_tables.specs.Tables.{first_of, is_one_of, or_else}
use Rattle.message_tables.specs.Content.{content}
use Rattle.value_kinds.specs.ValueKind.{Known}
use Rattle.row_values.specs.Kinds.{judge, row}
use Rattle.order_meaning.specs.Report.{Exec, Executed, NotCanceled, Report, or_known}
use Rattle.reports_fix50.specs.Message as tables50
use Rattle.reports_fix50.specs.Reports as reports50
use Rattle.reports_fix50.specs.Sense.{cancel_reject_of, exec_of, execution_of, report50}
use Rattle.sound_laws.specs.Complete.{IsComplete}
use Rattle.sound_laws.specs.Sound.{IsSaid}
use Rattle.sound_laws.proofs.Each.{all_true, one_of}
use Rattle.sound_laws.proofs.RowsSaid.{row_said}
use Rattle.rule_rows.specs.ByRules.{by_rules, lack_by, lack_if, or_lack}
use Rattle.rule_rows.proofs.Said as source
use Rattle.report_rules.specs.Rules.{Same, Original, at, down_rules, kinds, lacks_type}
use Rattle.report_rules.specs.Rules.{down_message, rules_for, trans_type}
use Rattle.report_rules.specs.Down.{Lacks, LacksMean, NoSense, NoOriginal, Reports50, Rejects50}
use Rattle.report_rules.proofs.Codes.{exec_types}
use Rattle.report_rules.proofs.GoDown.{rules_of}
use Rattle.rule_rows.proofs.Carried.{is_known_of}

-- an ExecType has a counterpart just where it means a report
alike : ℕ → Bool
alike code = if is_some (trans_type code) then is_some (exec_of code) else is_none (exec_of code)

all_alike : list_all alike exec_types ≡ true
unfolding alike exec_of
all_alike = refl

no_sense : (code : ℕ) → is_one_of exec_types code ≡ true
    → is_none (exec_of code) ≡ lacks_type (Some code)
unfolding alike
no_sense code listed =
    by (is_some (trans_type code)) (exec_of code) (one_of (λ c. alike c ≡ true) exec_types
    (all_true alike exec_types all_alike) code listed)
  where
    by : (b : Bool) (o : Option Exec) → (if b then is_some o else is_none o) ≡ true
        → is_none o ≡ not b
    by true None h = absurd cc
    by true (Some exec) h = refl
    by false None h = refl
    by false (Some exec) h = absurd cc

-- ---- a report

pub lacking : (lack : Option ℕ) (m : Message) (tag : ℕ) → or_lack lack m ≡ Err tag → lack ≡ Some tag
lacking None m tag h = absurd cc
lacking (Some other) m tag h = cc

pub report_lack : (m : Message) → lack_by kinds (down_rules (Same 41)) m
    ≡ or_else (lack_if (lacks_type (code_if m.cells 150)) 150) None
unfolding first_of
report_lack m = refl

pub reject_lack : (known : Said) (m : Message) → lack_by kinds (down_rules (Original known)) m
    ≡ or_else (lack_if (not (is_some (or_known (at m 41) known))) 41)
    (or_else (lack_if (lacks_type (code_if m.cells 150)) 150) None)
unfolding first_of
reject_lack known m = refl

-- A REPORT MEANS NOTHING just where its ExecType lacks a counterpart
pub means_nothing : (m : Message) → IsComplete tables50.report_table m
    → is_none (report50 m) ≡ lacks_type (code_if m.cells 150)
means_nothing m c =
    ap is_none letter_is ∙ mapped (exec_of (code_in m.cells 150))
    ∙ by (at m 150) (row_said (content tables50.report_table m) m reports50.execution_report 150
    (row Required 150 (Known exec_types)) refl c.sound.items)
  where
    letter_is : report50 m
        ≡ option_map (λ exec. Executed (execution_of m exec)) (exec_of (code_in m.cells 150))
    letter_is = ap (λ (l : ℕ). if l == 56
        then option_map (λ exec. Executed (execution_of m exec)) (exec_of (code_in m.cells 150))
        else (if l == 57 then Some (NotCanceled (cancel_reject_of m)) else None)) c.sound.letter

    mapped : (exec : Option Exec)
        → is_none (option_map (λ e. Executed (execution_of m e)) exec) ≡ is_none exec
    mapped None = refl
    mapped (Some exec) = refl

    by : (text : Said)
        → IsSaid judge (content tables50.report_table m) (row Required 150 (Known exec_types)) text
        → is_none (exec_of (unwrap_or (text >>= code_of) 0)) ≡ lacks_type (text >>= code_of)
    by None h = absurd (let none = h.needed refl in cc)
    by (Some text) h =
        let t = is_known_of (content tables50.report_table m) exec_types text h.spelled in
        let P : List ℕ → Type 0 = λ x.
        is_none (exec_of (unwrap_or (code_of x) 0)) ≡ lacks_type (code_of x) in
        subst P (sym t.is) (no_sense t.code t.listed)

-- a cancel reject has no ExecType
pub no_type : (m : Message) → IsComplete tables50.cancel_reject_table m
    → lacks_type (code_if m.cells 150) ≡ false
no_type m c = ap (λ (v : Said). lacks_type (v >>= code_of))
    (source.no_row tables50.cancel_reject_table m c.sound 150 refl)

-- WHAT LACKS A SPELLING
pub lacks_mean : LacksMean
lacks_mean known m (Reports50 c) tag down =
    by (lacks_type (code_if m.cells 150)) (report50 m) refl (means_nothing m c)
    (sym (report_lack m) ∙ ap (λ rs. lack_by kinds rs m) (sym (rules_of known m 56 c.sound.letter))
    ∙ lacking (lack_by kinds (rules_for known m) m) (by_rules kinds (rules_for known m) m) tag down)
  where
    by : (b : Bool) (o : Option Report) → report50 m ≡ o → is_none (report50 m) ≡ b
        → or_else (lack_if b 150) None ≡ Some tag → Lacks known m tag
    by true None e f h = let is : 150 ≡ tag = cc in NoSense (sym is) e
    by true (Some report) e f h = absurd (let no = sym (ap is_none e) ∙ f in cc)
    by false o e f h = absurd cc
lacks_mean known m (Rejects50 c) tag down =
    by (at m 41) known refl refl (lacks_type (code_if m.cells 150)) (no_type m c)
    (sym (reject_lack known m)
    ∙ ap (λ rs. lack_by kinds rs m) (sym (rules_of known m 57 c.sound.letter))
    ∙ lacking (lack_by kinds (rules_for known m) m) (by_rules kinds (rules_for known m) m) tag down)
  where
    by : (said other : Said) → at m 41 ≡ said → known ≡ other → (b : Bool) → b ≡ false
        → or_else (lack_if (not (is_some (or_known said other))) 41)
        (or_else (lack_if b 150) None) ≡ Some tag → Lacks known m tag
    by None None e f b typed h = let is : 41 ≡ tag = cc in NoOriginal (sym is) e f
    by (Some id) other e f false typed h = absurd cc
    by None (Some id) e f false typed h = absurd cc
    by said other e f true typed h = absurd cc

-- ---- what does not lack, and what does

report_by_type : (known : Said) (m : Message) → m.letter ≡ 56
    → lack_by kinds (rules_for known m) m ≡ or_else (lack_if (lacks_type (code_if m.cells 150)) 150) None
report_by_type known m is =
    ap (λ rs. lack_by kinds rs m) (rules_of known m 56 is) ∙ report_lack m

-- an execution report goes down where its ExecType has a counterpart, and else lacks it
pub type_goes_down : (known : Said) (m : Message) → m.letter ≡ 56
    → lacks_type (code_if m.cells 150) ≡ false → IsOk (down_message known m)
type_goes_down known m is codes =
    let P : Option ℕ → Type 0 = λ o. IsOk (or_lack o (by_rules kinds (rules_for known m) m)) in
    subst P (sym (report_by_type known m is
    ∙ ap (λ (b : Bool). or_else (lack_if b 150) None) codes)) refl

pub type_lacks : (known : Said) (m : Message) → m.letter ≡ 56
    → lacks_type (code_if m.cells 150) ≡ true → down_message known m ≡ Err 150
type_lacks known m is codes =
    ap (λ (o : Option ℕ). or_lack o (by_rules kinds (rules_for known m) m))
    (report_by_type known m is ∙ ap (λ (b : Bool). or_else (lack_if b 150) None) codes)

known_is : (said : Said) (id : List ℕ) → not (is_some (or_known said (Some id))) ≡ false
known_is None id = refl
known_is (Some said) id = refl

-- a cancel reject goes down where its order is known
pub order_goes_down : (id : List ℕ) (m : Message) → m.letter ≡ 57 → at m 150 ≡ None
    → IsOk (down_message (Some id) m)
order_goes_down id m is none =
    let P : Option ℕ → Type 0 = λ o. IsOk (or_lack o (by_rules kinds (rules_for (Some id) m) m)) in
    subst P (sym (ap (λ rs. lack_by kinds rs m) (rules_of (Some id) m 57 is)
    ∙ reject_lack (Some id) m
    ∙ (λ i. or_else (lack_if (known_is (at m 41) id i) 41)
    (or_else (lack_if (lacks_type (none i >>= code_of)) 150) None)))) refl
