-- The rules by which a request goes up say nothing where the source has nothing, and have a target
-- each.
use Rattle.std.proofs.Common.{◌≡◌, [], false, Some, None, refl}
use Rattle.std.specs.List.{AllByRecursion}
use Rattle.message_tables.specs.Tables.{Message, Said, said_at}
use Rattle.rule_rows.specs.ByRules.{outline}
use Rattle.rule_rows.proofs.Looked.{AreKinds, AreOwn, absent}
use Rattle.rule_rows.proofs.Own.{are_with}
use Rattle.request_rules.specs.Rules.{Parties, Date, Time, at}
use Rattle.request_rules.specs.Rules.{date_up, kinds, up_rules, party_tags, sources, Own, own_kinds}

no_day : (month : Said) → date_up month None ≡ None
no_day None = refl
no_day (Some month) = refl

none_by : (m : Message) (rule : Own)
    → AllByRecursion (λ place. said_at m.cells place ≡ None) (sources rule)
    → own_kinds.said m rule ≡ None
none_by m Parties none = refl
none_by m Date none = rw none.0 (no_day (at m 200))
none_by m Time none = rw (none.0, none.1.0) refl
none_by m rule none = rw none.0 refl

says_no_lines : (m : Message) (rule : Own) → own_kinds.has (outline m) rule ≡ false
    → own_kinds.lines m rule ≡ []
says_no_lines m Parties h =
    let none = absent m party_tags h in rw (none.0, none.1.0, none.1.1.0) refl
says_no_lines m rule h = refl

pub are_kinds : AreKinds kinds
are_kinds = are_with own_kinds (record {
  none = λ m rule h. none_by m rule (absent m (sources rule) h);
  no_lines = says_no_lines;
})

pub own : AreOwn kinds up_rules
own = record { apart = refl; found = refl }
