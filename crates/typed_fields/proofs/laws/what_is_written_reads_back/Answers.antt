use Rattle.typed_fields.proofs.NumberLaws.{number_reads_back, flag_reads_back}
use Rattle.typed_fields.proofs.NumberLaws.{month_year_reads_back}
use Rattle.typed_fields.proofs.DayLaws.{day_reads_back}
use Rattle.typed_fields.proofs.StampLaws.{fine_reads_back, stamp_reads_back}
use Rattle.typed_fields.proofs.DecLaws.{dec_reads_back}
use Rattle.typed_fields.proofs.laws.what_is_written_reads_back.Goals as goal

pub returns : goal.returns
returns c = record {
  dec = dec_reads_back;
  number = number_reads_back;
  flag = λ f h. flag_reads_back f;
  day = day_reads_back;
  month_year = month_year_reads_back;
  stamp = stamp_reads_back;
  fine = fine_reads_back;
}
