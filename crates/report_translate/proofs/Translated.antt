-- What goes down keeps what the way down owes, and what a check answers.
use Rattle.std.proofs.Common.{List, Option, Result, Ok, Err, ℕ}
use Rattle.std.specs.Prelude.{IfErr, OnOk}
use Rattle.field_groups.specs.declared.fault.SplitFault.{SplitFault}
use Rattle.field_groups.specs.Field.{Field}
use Rattle.field_groups.specs.Fields.{SplitsInto}
use Rattle.translation.specs.declared.error.TranslateError.{TranslateError}
use Rattle.translation.specs.declared.error.TranslateError.TheVariants as errors
use Rattle.translation.specs.Going.{IsFair}
use Rattle.translation.proofs.Going.{is_read}
use Rattle.report_translate.specs.Translation.{IsKnown, IsRefusedByCheck, down}
use Rattle.report_translate.specs.Writing.{IsCheckedOf, RefusesCheck}
use Rattle.report_translate.proofs.DownAgain.{down_type, keeps, reads_again, splits_again}

-- WHAT GOES DOWN KEEPS the sense and the books, and is split and read again.
pub fair : IsFair down
fair fields are m w read gone =
    let kept = keeps fields are m read w gone in record {
      kept = record {
        means = kept.means;
        books = kept.books;
        read = reads_again fields are m read w gone;
      };
      again = splits_again fields are m read w gone;
      typed = down_type fields are m read;
    }

-- ---- what a check answers

module _ (body : List ℕ) (fields : List Field) (stopped : Option SplitFault)
    (split : SplitsInto body fields stopped) where
  pub known : (r : Result (Unit {0}) TranslateError) → OnOk r (IsCheckedOf fields stopped)
      → OnOk r ((fields : List Field) × IsKnown body fields)
  known (Ok done) h = (
    fields,
    record { report = is_read down fields stopped body split h.message h.read; down = h.down },
  )
  known (Err error) h = tt

  by_check : (error : TranslateError) → RefusesCheck fields stopped error
      → IsRefusedByCheck body error
  by_check errors.NoMemory h = tt
  by_check errors.TooLong h = absurd h
  by_check (errors.Faulty fault) h =
      record { fields = fields; stopped = stopped; split = split; read = h }
  by_check (errors.Lacking tag) h = (
    h.0,
    record {
      fields = fields;
      read = is_read down fields stopped body split h.1 h.2;
      lack = h.3;
    },
  )

  pub refused_by_check : (r : Result (Unit {0}) TranslateError)
      → IfErr r (RefusesCheck fields stopped) → IfErr r (IsRefusedByCheck body)
  refused_by_check (Ok done) h = tt
  refused_by_check (Err error) h = by_check error h
