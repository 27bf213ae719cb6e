-- The body that is written for fields and a content.
use Rattle.std.proofs.Common.{◌≡◌, ◌-◌, ◌≤◌, ◌<◌, ℕ, List, [], ◌∷◌, ◌++◌, length, sym, ap, ◌∙◌}
use Rattle.std.proofs.Common.{append_assoc, length-append, subst, arith, Result, Ok, Err}
use Rattle.std.specs.Prelude.{OnOk, IfErr}
use Rattle.std.proofs.lemmas.List.{append-nil}
use Rattle.std.specs.List.{flat_map}
use Rattle.field_groups.specs.Field.{Field, body_of, field_bytes}
use Rattle.row_values.proofs.Contents.{body-append}
use Rattle.translation.specs.declared.error.TranslateError.{TranslateError}
use Rattle.translation.specs.declared.error.TranslateError.TheVariants as errors
use Rattle.translation.specs.Header.{type_of, carried, carried_field, carried_tags, with_content}
use Rattle.translation.specs.Writing.{put, AreWithin, IsTooMuch, IsWritten, IsUnwritten}

pub put_is : (f : ℕ → List Field) (start : List ℕ) (tags : List ℕ)
    → put f start tags ≡ start ++ body_of (flat_map f tags)
put_is f start [] = sym (append-nil start)
put_is f start (tag ∷ tags) =
    put_is f (start ++ body_of (f tag)) tags
    ∙ append_assoc start (body_of (f tag)) (body_of (flat_map f tags))
    ∙ ap (λ (bytes : List ℕ). start ++ bytes) (sym (body-append (f tag) (flat_map f tags)))

module _ (fields content : List Field) (old head up : List ℕ) (none : old ≡ [])
    (head_is : head ≡ put (carried_field fields) (old ++ field_bytes (35, type_of fields))
    carried_tags) (up_is : up ≡ head ++ body_of content) where
  up_bytes : up ≡ body_of (with_content fields content)
  up_bytes =
      let front : head ≡ field_bytes (35, type_of fields) ++ body_of (carried fields) =
      head_is ∙ ap (λ (bytes : List ℕ).
      put (carried_field fields) (bytes ++ field_bytes (35, type_of fields)) carried_tags) none
      ∙ put_is (carried_field fields) (field_bytes (35, type_of fields)) carried_tags in
      up_is ∙ ap (λ (bytes : List ℕ). bytes ++ body_of content) front
      ∙ append_assoc (field_bytes (35, type_of fields)) (body_of (carried fields)) (body_of content)
      ∙ ap (λ (bytes : List ℕ). field_bytes (35, type_of fields) ++ bytes)
      (sym (body-append (carried fields) content))

  -- what stands behind the head is the content
  behind : length up - length head ≡ length (body_of content)
  behind =
      let whole = ap length up_is ∙ length-append head (body_of content) in omega (arith, whole)

  is_written : AreWithin (length up - length head) (length up) → IsWritten fields content up
  is_written within = record {
    bytes = up_bytes;
    content_fits =
        let same = behind in let fits = within.content_fits in omega (arith, same, fits);
    body_fits = within.body_fits;
  }

  is_unwritten : (error : TranslateError)
      → IsTooMuch (length up - length head) (length up) error → IsUnwritten fields content error
  is_unwritten errors.TooLong much = λ fits.
      let same = behind in
      let short : length (body_of content) ≤ 7936 = fits in
      let P : List ℕ → Type 0 = λ bytes. 8192 < length bytes in
      subst P up_bytes (much.1 (omega (arith, same, short)))
  is_unwritten errors.NoMemory much = tt
  is_unwritten (errors.Faulty fault) much = absurd (let e = much.0 in cc)
  is_unwritten (errors.Lacking tag) much = absurd (let e = much.0 in cc)

  module _ (head_length up_length : ℕ) (head_long : head_length ≡ length head)
      (up_long : up_length ≡ length up) where
    -- what is as long as it may be, and what is too long
    pub written : (r : Result (Unit {0}) TranslateError)
        → OnOk r (AreWithin (up_length - head_length) up_length)
        → OnOk r (IsWritten fields content up)
    written (Ok done) within = is_written (rw (head_long, up_long) at within)
    written (Err error) within = tt

    pub unwritten : (r : Result (Unit {0}) TranslateError)
        → IfErr r (IsTooMuch (up_length - head_length) up_length)
        → IfErr r (IsUnwritten fields content)
    unwritten (Ok done) much = tt
    unwritten (Err error) much = is_unwritten error (rw (head_long, up_long) at much)
