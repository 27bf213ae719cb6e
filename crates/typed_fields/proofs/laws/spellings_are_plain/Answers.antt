use Rattle.typed_fields.proofs.NumberLaws.{number_is_plain, flag_is_plain, month_year_is_plain}
use Rattle.typed_fields.proofs.DayLaws.{day_is_plain}
use Rattle.typed_fields.proofs.StampLaws.{fine_is_plain, stamp_is_plain}
use Rattle.typed_fields.proofs.DecLaws.{dec_is_plain}
use Rattle.typed_fields.proofs.laws.spellings_are_plain.Goals as goal

pub returns : goal.returns
returns c = record {
  dec = dec_is_plain;
  number = number_is_plain;
  flag = flag_is_plain;
  day = day_is_plain;
  month_year = month_year_is_plain;
  stamp = stamp_is_plain;
  fine = fine_is_plain;
}
