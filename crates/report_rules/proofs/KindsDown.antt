-- The kinds of rules by which a report goes down say nothing where the source has nothing.
use Rattle.std.proofs.Common.{◌≡◌, ℕ, false, Option, Some, None, refl}
use Rattle.std.specs.List.{AllByRecursion}
use Rattle.message_tables.specs.Tables.{Message, Said, ◌>>=◌, code_of, said_at}
use Rattle.rule_rows.specs.ByRules.{outline}
use Rattle.rule_rows.proofs.Looked.{AreKinds, AreOwn, absent}
use Rattle.rule_rows.specs.Rules.{By, Same}
use Rattle.rule_rows.proofs.Own.{are_with}
use Rattle.report_rules.specs.Rules.{Own, OrKnown, TransType}
use Rattle.report_rules.specs.Rules.{Told, Time}
use Rattle.report_rules.specs.Rules.{at, at_close, down_rules, has, kinds, own_kinds, own_lack}
use Rattle.report_rules.specs.Rules.{Rule, own_said, sources, Original}

-- no time is not at the close
no_close : (type : Option ℕ) → at_close type None ≡ false
no_close None = refl
no_close (Some type) = refl

none_by : (m : Message) (rule : Own)
    → AllByRecursion (λ place. said_at m.cells place ≡ None) (sources rule)
    → has (outline m) rule ≡ false → own_said m rule ≡ None
none_by m (OrKnown known) none h = absurd cc
none_by m Told none h = rw (none.0, none.1.0, none.1.1.0, none.1.1.1.0) refl
none_by m Time none h = rw (none.0, no_close (at m 40 >>= code_of)) refl
none_by m rule none h = rw none.0 refl

says_none : (m : Message) (rule : Own) → has (outline m) rule ≡ false → own_said m rule ≡ None
says_none m (OrKnown known) h = absurd cc
says_none m rule h = none_by m rule (absent m (sources rule) h) h

pub are_kinds : AreKinds kinds
are_kinds = are_with own_kinds (record { none = says_none; no_lines = λ m rule h. refl })

own_lacks_none : (m : Message) (rule : Own) → has (outline m) rule ≡ false → own_lack m rule ≡ None
own_lacks_none m (OrKnown known) h = absurd cc
own_lacks_none m TransType h = let none = absent m (sources TransType) h in rw none.0 refl
own_lacks_none m rule h = refl

-- and lack nothing there
pub lacks_none : (m : Message) (rule : Rule) → kinds.has (outline m) rule ≡ false
    → kinds.lack m rule ≡ None
lacks_none m (By rule) h = own_lacks_none m rule h
lacks_none m rule h = refl

pub report_own : AreOwn kinds (down_rules (Same 41))
report_own = record { apart = refl; found = refl }

pub reject_own : (known : Said) → AreOwn kinds (down_rules (Original known))
reject_own known = record { apart = refl; found = refl }
