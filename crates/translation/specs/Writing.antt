-- Inside: what is known on the way from fields and a content to the body that is written.
use Rattle.std.specs.Prelude.{◌≡◌, ◌≤◌, ◌<◌, ℕ, List, [], ◌∷◌, ◌++◌, length}
use Rattle.frame_grammar.specs.declared.frame.TheConstants.{MAX_BODY}
use Rattle.field_groups.specs.Field.{Field, body_of}
use Rattle.translation.specs.declared.error.TranslateError.{TranslateError}
use Rattle.translation.specs.declared.error.TranslateError.TheVariants as errors
use Rattle.translation.specs.declared.lengths.TheConstants.{MAX_CONTENT}
use Rattle.translation.specs.Header.{with_content}

-- what is written tag by tag, behind this start
abbrev pub put : (ℕ → List Field) → List ℕ → List ℕ → List ℕ
put fields start [] = start
put fields start (tag ∷ tags) = put fields (start ++ body_of (fields tag)) tags

-- a content and a body of so many bytes are as long as they may be
pub record AreWithin (content body : ℕ) : Type 0 where
  pub content_fits : content ≤ MAX_CONTENT
  pub body_fits : body ≤ MAX_BODY

-- and why they are not
abbrev pub IsTooMuch : ℕ → ℕ → TranslateError → Type 0
IsTooMuch content body error = (error ≡ errors.TooLong) × (content ≤ MAX_CONTENT → MAX_BODY < body)

-- what is written for a content, which is as long as it may be
pub record IsWritten (fields content : List Field) (body : List ℕ) : Type 0 where
  pub bytes : body ≡ body_of (with_content fields content)
  pub content_fits : length (body_of content) ≤ MAX_CONTENT
  pub body_fits : length body ≤ MAX_BODY

-- why it is not written
abbrev pub IsUnwritten : List Field → List Field → TranslateError → Type 0
IsUnwritten fields content errors.NoMemory = Unit {0}
IsUnwritten fields content errors.TooLong =
    length (body_of content) ≤ MAX_CONTENT
    → MAX_BODY < length (body_of (with_content fields content))
IsUnwritten fields content error = ⊥
