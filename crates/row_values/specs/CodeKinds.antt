-- Inside: the kind of a row that a kind of the code is, and what its judgement says.
use Rattle.std.specs.Prelude.{Bool, Result, Ok, Err, if◌then◌else◌}
use Rattle.typed_fields.specs.declared.fault.FieldFault.{FieldFault}
use Rattle.value_kinds.specs.CodeKinds.{value_kind_of}
use Rattle.row_values.specs.declared.kinds.Kind.{Kind as RowKind}
use Rattle.row_values.specs.declared.kinds.Kind.TheVariants as rows
use Rattle.row_values.specs.Kinds.{Kind, Value, Byte, DayOf, MonthBeside, TimeBeside, Version}
use Rattle.row_values.specs.Kinds.{reason_of}
use Rattle.message_tables.specs.declared.table_fault.Mark.{Mark}
use Rattle.message_tables.specs.declared.table_fault.Mark.TheVariants as marks

abbrev pub kind_of : RowKind → Kind
kind_of (rows.Value kind) = Value (value_kind_of kind)
kind_of (rows.Byte listed) = Byte listed.now
kind_of (rows.DayOf month) = DayOf month
kind_of (rows.MonthBeside date) = MonthBeside date
kind_of (rows.TimeBeside ord_type) = TimeBeside ord_type
kind_of rows.Version = Version

-- what a value is that was judged by itself
abbrev pub judged_mark : Result Bool FieldFault → Mark
judged_mark (Ok good) = if good then marks.Good else marks.Outside
judged_mark (Err fault) = marks.Wrong (reason_of fault)

-- what a day is that its month has or lacks
abbrev pub day_mark : Bool → Mark
day_mark there = if there then marks.Good else marks.Wrong 5

-- what a value is that counts only in some cases
abbrev pub outside_if_good : Mark → Mark
outside_if_good marks.Good = marks.Outside
outside_if_good marks.Outside = marks.Outside
outside_if_good (marks.Wrong reason) = marks.Wrong reason

abbrev pub counted_mark : Bool → Mark → Mark
counted_mark counts mark = if counts then mark else outside_if_good mark
