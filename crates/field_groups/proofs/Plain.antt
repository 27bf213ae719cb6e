-- Fields of no raw bytes.
use Rattle.std.proofs.Common.{◌≡◌, ℕ, ◌==◌, ◌&&◌, Bool, true, false, List, [], ◌∷◌}
use Rattle.std.proofs.Common.{Option, Some, None, refl, sym, append-nil}
use Rattle.std.specs.Prelude.{All, ◌||◌}
use Rattle.std.specs.List.{list_any}
use Rattle.std.proofs.lemmas.Bool.{false≢true, not-true, not_from_false}
use Rattle.std.proofs.lemmas.List.Elements.{All-head, All-tail}
use Rattle.field_groups.specs.Data.{data_fields, is_data_pair, is_data_tag}
use Rattle.field_groups.specs.Field.{Field, IsField, IsPlainField, AreFields, body_of, is_data}
use Rattle.field_groups.specs.Laws.{PlainFieldsReadAgain}

no_pair : (len tag : ℕ) (pairs : List (ℕ × ℕ)) → list_any (λ pair. pair.1 == tag) pairs ≡ false
    → list_any (λ pair. pair.0 == len && pair.1 == tag) pairs ≡ false
no_pair len tag [] none = refl
no_pair len tag (pair ∷ pairs) none =
    by_tests (pair.0 == len) (pair.1 == tag) none (no_pair len tag pairs)
  where
    by_tests : (a b : Bool) → (b || list_any (λ p. p.1 == tag) pairs) ≡ false → (list_any
        (λ p. p.1 == tag) pairs ≡ false → list_any (λ p. p.0 == len && p.1 == tag) pairs ≡ false) →
        ((a && b) || list_any (λ p. p.0 == len && p.1 == tag) pairs) ≡ false
    by_tests a true rest later = absurd (false≢true (sym rest))
    by_tests true false rest later = later rest
    by_tests false false rest later = later rest

no_data : (before : Option Field) (tag : ℕ) → is_data_tag tag ≡ false → is_data before tag ≡ false
unfolding is_data_pair is_data_tag
no_data None tag none = refl
no_data (Some before) tag none = no_pair before.0 tag data_fields none

pub plain_is : (before : Option Field) (f : Field) → IsPlainField f → IsField before f
plain_is before f plain = record {
  positive = plain.positive;
  nine_digits = plain.nine_digits;
  value = rw (no_data before f.0 plain.no_data) (not_from_false _ plain.no_soh);
}

pub is_plain : (before : Option Field) (f : Field)
    → IsField before f → is_data_tag f.0 ≡ false → IsPlainField f
is_plain before f is none = record {
  positive = is.positive;
  nine_digits = is.nine_digits;
  no_data = none;
  no_soh = not-true _ (rw (no_data before f.0 none) at is.value);
}

pub plain_are : (before : Option Field) (fs : List Field)
    → All IsPlainField fs → AreFields before fs
plain_are before [] plain = tt
plain_are before (f ∷ fs) plain = (
  plain_is before f (All-head IsPlainField f fs plain),
  plain_are (Some f) fs (All-tail IsPlainField f fs plain),
)

pub plain_again : PlainFieldsReadAgain
plain_again fields plain at_most = record {
  left = [];
  good = plain_are None fields plain;
  at_most = at_most;
  written = sym (append-nil (body_of fields));
  stopped = refl;
}
