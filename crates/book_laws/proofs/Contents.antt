-- The number that a refusal names in its content.
use Rattle.std.proofs.Common.{◌≡◌, ◌≤◌, ℕ, List, [], ◌∷◌, ◌++◌, length, Some, None}
use Rattle.std.proofs.Common.{refl, sym, ap, ◌∙◌, arith, length-append}
use Rattle.std.specs.Fmt.{decimal}
use Rattle.field_groups.specs.Data.{is_data_tag}
use Rattle.field_groups.specs.Field.{Field, AreFields, IsField, body_of, field_bytes}
use Rattle.field_groups.specs.HeadValues.{number_in}
use Rattle.field_groups.proofs.Front.{field_apart, same_front}
use Rattle.field_groups.proofs.Plain.{plain_is}
use Rattle.message_tables.specs.Tables.{◌>>=◌, value_at}
use Rattle.session_core.specs.declared.said.Said.{Said}
use Rattle.session_core.specs.declared.tag.TheConstants.{REF_SEQ_NUM}
use Rattle.event_decisions.specs.Body.{fields_of}
use Rattle.message_answers.specs.Laws.{IsGivenOut}
use Rattle.life_laws.proofs.Received.{content_read, decimal_clear}
use Rattle.book_laws.proofs.Numbers.{number_again}

abbrev pub number_field : ℕ → Field
number_field number = (REF_SEQ_NUM, decimal number)

number_is_field : (number : ℕ) → number ≤ 1_000_000_000 → IsField None (number_field number)
unfolding is_data_tag
number_is_field number few = plain_is None (number_field number) (record {
  positive = omega arith;
  nine_digits = omega arith;
  no_data = refl;
  no_soh = decimal_clear number (omega (arith, few));
})

some_bytes : (f : Field) (more : List ℕ) → field_bytes f ++ more ≡ [] → ⊥
some_bytes f more none = absurd (omega (
  arith,
  ap (λ (bs : List ℕ). length bs) (sym (field_apart f more) ∙ none),
  length-append (decimal f.0) (61 ∷ (f.1 ++ 1 ∷ more)),
))

-- THE NUMBER that a content names first, where it can be sent
pub number_named : (number : ℕ) → number ≤ 1_000_000_000 → (said : Said) (more : List Field)
    → said.content ≡ body_of (number_field number ∷ more) → IsGivenOut said
    → (value_at REF_SEQ_NUM (fields_of said.content) >>= number_in) ≡ Some number
number_named number small said more content given =
    by given.fields given.good given.few given.content
  where
    by : (fields : List Field) → AreFields None fields → length fields ≤ 248
        → said.content ≡ body_of fields
        → (value_at REF_SEQ_NUM (fields_of said.content) >>= number_in) ≡ Some number
    by [] good few is =
        absurd (some_bytes (number_field number) (body_of more) (sym content ∙ is))
    by (f ∷ fs) good few is =
        let same = same_front None (number_field number) f (body_of more) (body_of fs)
        (number_is_field number small) good.0 (sym content ∙ is) in
        ap (λ (c : List ℕ). value_at REF_SEQ_NUM (fields_of c) >>= number_in) is
        ∙ ap (λ (x : List Field). value_at REF_SEQ_NUM x >>= number_in)
        (content_read (f ∷ fs) good few)
        ∙ ap (λ (x : Field). value_at REF_SEQ_NUM (x ∷ fs) >>= number_in) (sym same.0)
        ∙ number_again number small
