-- Standard: FIX 4.2 and FIX 5.0 SP2, Data Types, Length and data; their field definitions for the
-- pairs of tags.
use Rattle.std.specs.Prelude.{ℕ, Bool, ◌&&◌, ◌==◌, List, [], ◌∷◌}
use Rattle.std.specs.List.{list_any}

-- each field of raw bytes, behind the field that says how many there are
abbrev pub data_fields : List (ℕ × ℕ)
data_fields =
    (93, 89) ∷  -- SignatureLength, Signature
    (90, 91) ∷  -- SecureDataLen, SecureData
    (95, 96) ∷  -- RawDataLength, RawData
    (212, 213) ∷  -- XmlDataLen, XmlData
    (348, 349) ∷  -- EncodedIssuerLen, EncodedIssuer
    (350, 351) ∷  -- EncodedSecurityDescLen, EncodedSecurityDesc
    (352, 353) ∷  -- EncodedListExecInstLen, EncodedListExecInst
    (354, 355) ∷  -- EncodedTextLen, EncodedText
    (356, 357) ∷  -- EncodedSubjectLen, EncodedSubject
    (358, 359) ∷  -- EncodedHeadlineLen, EncodedHeadline
    (360, 361) ∷  -- EncodedAllocTextLen, EncodedAllocText
    (362, 363) ∷  -- EncodedUnderlyingIssuerLen, EncodedUnderlyingIssuer
    (364, 365) ∷  -- EncodedUnderlyingSecurityDescLen, EncodedUnderlyingSecurityDesc
    (445, 446) ∷  -- EncodedListStatusTextLen, EncodedListStatusText
    (618, 619) ∷  -- EncodedLegIssuerLen, EncodedLegIssuer
    (621, 622) ∷  -- EncodedLegSecurityDescLen, EncodedLegSecurityDesc
    []

-- the first tag is that of the length field of the second
unfoldable pub is_data_pair : ℕ → ℕ → Bool
is_data_pair len tag = list_any (λ pair. pair.0 == len && pair.1 == tag) data_fields

-- the tag is that of a field of raw bytes
unfoldable pub is_data_tag : ℕ → Bool
is_data_tag tag = list_any (λ pair. pair.1 == tag) data_fields
