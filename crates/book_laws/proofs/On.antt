-- A message that goes on, and the one of the other version that is read of its content.
use Rattle.std.proofs.Common.{◌≡◌, true, List, [], ◌∷◌, Ok}
use Rattle.field_groups.specs.Field.{Field}
use Rattle.message_tables.specs.Tables.{Message}
use Rattle.order_meaning.specs.declared.Side.{Side}
use Rattle.order_meaning.specs.declared.Side.TheVariants.{Client, Venue}
use Rattle.sound_laws.specs.Sound.{without_resend}
use Rattle.message_answers.specs.Answer.{other}
use Rattle.message_answers.specs.Laws as answers
use Rattle.message_answers.proofs.SentFields.{AreGiven}
use Rattle.book_laws.specs.Heard.{cl_ord_id_in, message_to, sort_of}
use Rattle.book_laws.specs.HeardLaws.{sort_from}

abbrev pub HasSameId : Side → Message → Message → Type 0
HasSameId Client m out = cl_ord_id_in m ≡ cl_ord_id_in out
HasSameId Venue m out = Unit {0}

pub record IsOn (side : Side) (m out : Message) (written : List Field) : Type 0 where
  pub sort : sort_of (m.letter ∷ []) true ≡ sort_from side
  pub resend : m.resend ≡ out.resend
  pub id : HasSameId side m out
  pub carries : answers.Carries side m out
  pub given : AreGiven written
  pub read : message_to (other side) (m.letter ∷ []) written ≡ Ok (without_resend out)
