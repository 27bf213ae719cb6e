use Rattle.typed_fields.specs.Number.{read_number, number_text, IsNumber}
use Rattle.typed_fields.specs.Flag.{read_flag, flag_text}
use Rattle.typed_fields.specs.MonthYear.{read_month_year, month_year_text}
use Rattle.typed_fields.specs.Day.{read_day, day_text}
use Rattle.typed_fields.specs.Stamp.{read_stamp, read_fine, stamp_text}
use Rattle.typed_fields.proofs.NumberLaws.{number_reads_back, number_in_bound, flag_is_plain}
use Rattle.typed_fields.proofs.NumberLaws.{month_year_is_plain}
use Rattle.typed_fields.proofs.DayLaws.{day_is_plain}
use Rattle.typed_fields.proofs.StampLaws.{fine_is_plain, stamp_is_plain}
use Rattle.typed_fields.proofs.DecLaws.{dec_is_stable}
use Rattle.typed_fields.proofs.LawLemmas.{stable, stable_in_bound}
use Rattle.typed_fields.proofs.laws.spellings_are_stable.Goals as goal

pub returns : goal.returns
returns c = record {
  dec = dec_is_stable;
  number = stable_in_bound read_number IsNumber number_text number_reads_back number_in_bound;
  flag = stable read_flag flag_text flag_is_plain;
  day = stable read_day day_text day_is_plain;
  month_year = stable read_month_year month_year_text month_year_is_plain;
  stamp = stable read_stamp stamp_text stamp_is_plain;
  fine = stable read_fine stamp_text fine_is_plain;
}
