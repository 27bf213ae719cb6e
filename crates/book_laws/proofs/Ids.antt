-- The ids that are compared, and that no report has one.
use Rattle.std.proofs.Common.{◌≡◌, ℕ, Bool, true, false, List, [], ◌∷◌, Some, None, Result}
use Rattle.std.proofs.Common.{Ok, Err, refl, sym, ap, ◌∙◌, if◌then◌else◌, option_map}
use Rattle.std.specs.Prelude.{is_some}
use Rattle.std.specs.Result.{result_ok}
use Rattle.std.proofs.lemmas.Slice.Eq.{bytes_eq-Decides}
use Rattle.message_tables.specs.Tables.{Message, ◌>>=◌, is_one_of, text_in}
use Rattle.order_meaning.specs.declared.Side.{Side}
use Rattle.order_meaning.specs.declared.fault.Fault.{Fault}
use Rattle.pair_entries.specs.declared.entry.Out.{Out}
use Rattle.event_decisions.specs.Body.{fields_of, type_of}
use Rattle.message_answers.specs.Chains.{joining}
use Rattle.message_answers.specs.Message.{message_of}
use Rattle.message_answers.proofs.Letters.{among}
use Rattle.message_answers.proofs.ReadShapes.{said_type}
use Rattle.book_laws.specs.Heard.{Sort, Report, cl_ord_id_in, message_to, sort_of, with_resend}
use Rattle.book_laws.specs.HeardLaws.{IdsAreCompared}
use Rattle.book_laws.proofs.Types.{given_type}

abbrev is_no_report : Sort → Bool
is_no_report Report = false
is_no_report other = true

-- a report that was read has no id
no_id : (msg_type : List ℕ) (m : Message) → msg_type ≡ m.letter ∷ []
    → sort_of msg_type true ≡ Report → cl_ord_id_in m ≡ None
no_id msg_type m typed sort = by (is_one_of joining m.letter) refl
  where
    by : (b : Bool) → is_one_of joining m.letter ≡ b
        → (if b then Some (text_in m.cells 11) else None) ≡ None
    by false e = refl
    by true e =
        let one : is_no_report (sort_of (m.letter ∷ []) true) ≡ true =
        among (λ l. is_no_report (sort_of (l ∷ []) true)) joining m.letter refl e in
        let wrong : false ≡ true =
        ap is_no_report (sym (ap (λ (t : List ℕ). sort_of t true) (sym typed) ∙ sort)) ∙ one in
        absurd cc

pub ids_compared : IdsAreCompared
ids_compared = record {
  same = λ a b e. (bytes_eq-Decides a b).0 e;
  itself = λ a. (bytes_eq-Decides a a).1 refl;
  none = λ side number body sort. taken side body (message_of side body) refl sort;
  none_out = λ out sort.
      given out (message_to out.side out.msg_type (fields_of out.content)) refl sort;
}
  where
    taken : (side : Side) (body : List ℕ) (r : Result Message Fault) → message_of side body ≡ r
        → sort_of (type_of body) (is_some (result_ok r)) ≡ Report
        → (result_ok r >>= cl_ord_id_in) ≡ None
    taken side body (Err fault) is sort = refl
    taken side body (Ok m) is sort = no_id (type_of body) m (said_type side body m is) sort

    given : (out : Out) (r : Result Message Fault)
        → message_to out.side out.msg_type (fields_of out.content) ≡ r
        → sort_of out.msg_type (is_some (option_map (with_resend out.resend) (result_ok r)))
        ≡ Report → (option_map (with_resend out.resend) (result_ok r) >>= cl_ord_id_in) ≡ None
    given out (Err fault) is sort = refl
    given out (Ok m) is sort =
        no_id out.msg_type m (given_type out.msg_type (fields_of out.content) m out.side is) sort
