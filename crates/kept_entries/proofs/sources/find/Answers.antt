use Rattle.std.proofs.Common.{leb, rules, arith, refl}
use Rattle.std.proofs.lemmas.List.Sorted.{IsPartitionPoint-from_clause}
use Rattle.kept_entries.specs.declared.sources.Source.{Source}
use Rattle.kept_entries.proofs.Noting.{parted, no_source, other_source, this_source}
use Rattle.kept_entries.proofs.sources.find.Goals as goal

pub returns-then-count-eq0 : goal.returns-then-count-eq0
returns-then-count-eq0 c = λ side entries are is.
    let point = IsPartitionPoint-from_clause (λ (s : Source). leb s.number c.args.number) _ _
    c.partition_point-count.ensures.partitioned
    (parted side c.args.number entries are c.args.list.now is) (λ a r q k. search rules) in
    no_source side c.args.number entries are c.args.list.now is c.partition_point-count.result
    (omega (arith, c.if-count-eq0.true)) point.1

pub returns-then-last-number : goal.returns-then-last-number
returns-then-last-number c = λ side entries are is.
    let point = IsPartitionPoint-from_clause (λ (s : Source). leb s.number c.args.number) _ _
    c.partition_point-count.ensures.partitioned
    (parted side c.args.number entries are c.args.list.now is) (λ a r q k. search rules) in
    other_source side c.args.number entries are c.args.list.now is c.partition_point-count.result
    _ (record { number = 0; from = 0; letter = 0 }) (omega (arith, c.if-count-eq0.false))
    c.partition_point-count.ensures.bound refl point.0 point.1 c.if-last-number.true

pub returns : goal.returns
returns c = λ side entries are is.
    let point = IsPartitionPoint-from_clause (λ (s : Source). leb s.number c.args.number) _ _
    c.partition_point-count.ensures.partitioned
    (parted side c.args.number entries are c.args.list.now is) (λ a r q k. search rules) in
    this_source side c.args.number entries are c.args.list.now is c.partition_point-count.result
    _ (record { number = 0; from = 0; letter = 0 }) (omega (arith, c.if-count-eq0.false))
    c.partition_point-count.ensures.bound refl point.0 point.1
    (omega (arith, c.if-last-number.false))
