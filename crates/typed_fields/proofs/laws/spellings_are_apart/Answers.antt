use Rattle.typed_fields.specs.Number.{read_number, number_text, IsNumber}
use Rattle.typed_fields.specs.Flag.{read_flag, flag_text, IsFlag}
use Rattle.typed_fields.specs.MonthYear.{read_month_year, month_year_text, IsMonthYear}
use Rattle.typed_fields.specs.Day.{read_day, day_text, IsDay}
use Rattle.typed_fields.specs.Stamp.{read_stamp, read_fine, stamp_text, IsStamp, IsFine}
use Rattle.typed_fields.specs.Dec.{read_dec, dec_text, IsDec}
use Rattle.typed_fields.proofs.NumberLaws.{number_reads_back, flag_reads_back}
use Rattle.typed_fields.proofs.NumberLaws.{month_year_reads_back}
use Rattle.typed_fields.proofs.DayLaws.{day_reads_back}
use Rattle.typed_fields.proofs.StampLaws.{fine_reads_back, stamp_reads_back}
use Rattle.typed_fields.proofs.DecLaws.{dec_reads_back}
use Rattle.typed_fields.proofs.LawLemmas.{apart}
use Rattle.typed_fields.proofs.laws.spellings_are_apart.Goals as goal

pub returns : goal.returns
returns c = record {
  dec = apart read_dec IsDec dec_text dec_reads_back;
  number = apart read_number IsNumber number_text number_reads_back;
  flag = apart read_flag IsFlag flag_text (λ f h. flag_reads_back f);
  day = apart read_day IsDay day_text day_reads_back;
  month_year = apart read_month_year IsMonthYear month_year_text month_year_reads_back;
  stamp = apart read_stamp IsStamp stamp_text stamp_reads_back;
  fine = apart read_fine IsFine stamp_text fine_reads_back;
}
