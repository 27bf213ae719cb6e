-- The payload that stands at a place of a log.
use Rattle.std.proofs.Common.{◌≡◌, ℕ, ◌+◌, ◌-◌, ◌^◌, ◌<◌, ◌≤◌, List, [], ◌∷◌, ◌++◌, length, take}
use Rattle.std.proofs.Common.{drop, sym, ◌∙◌, ap, subst, arith, append_assoc, length-append}
use Rattle.std.proofs.Common.{length-take, length-drop, take-append-drop, IfSome}
use Rattle.std.specs.declared.option.Option.{Option}
use Rattle.std.specs.Int.{w32, to_be_bytes}
use Rattle.std.proofs.Math.Seq.{take-append-add}
use Rattle.std.proofs.lemmas.List.{drop_at, drop-drop}
use Rattle.gate_log.specs.declared.TheConstants.{MAX_PAYLOAD}
use Rattle.gate_log.specs.declared.head.Head.TheVariants as heads
use Rattle.gate_log.specs.Records.{blocks, AllSized, AllFit, IsLog, Stands}
use Rattle.gate_log.specs.Log.{IsAt, ReadsPayload, HasNoPayload}
use Rattle.gate_log.specs.Scan.{IsHead}
use Rattle.gate_log.specs.Chunk.{StandsAt, IsFront, BeginsWith}
use Rattle.gate_log.proofs.Blocks.{one_record, blocks-append}
use Rattle.gate_log.proofs.Told.{if_some, at_some}

-- ---- in bytes from a gate on

small_is : (p : List ℕ) → length p ≤ MAX_PAYLOAD → length p < 2 ^ 32
small_is p small = omega (arith, small)

-- bytes begin with one record
pub one_begins : (bytes p q : List ℕ) → BeginsWith bytes p → BeginsWith bytes q → p ≡ q
one_begins bytes p q (small, a, is) (less, b, also) = (one_record p q a b (small_is p small)
    (small_is q less) (ap (drop 1) (sym is ∙ also))).0

-- what a part of them begins with, all begin with
pub begins_front : (bytes : List ℕ) (n : ℕ) (payload : List ℕ)
    → BeginsWith (take n bytes) payload → BeginsWith bytes payload
begins_front bytes n payload (small, rest, is) = (
  small,
  rest ++ drop n bytes,
  sym (take-append-drop n bytes) ∙ ap (λ l. l ++ drop n bytes) is
      ∙ ap (λ (l : List ℕ). 1 ∷ l)
      (append_assoc (to_be_bytes w32 (length payload) ++ payload) rest (drop n bytes)),
)

-- and where they are long enough, the part begins with it
pub front_begins : (bytes : List ℕ) (n : ℕ) (payload : List ℕ) → 5 + length payload ≤ n
    → BeginsWith bytes payload → BeginsWith (take n bytes) payload
front_begins bytes n payload long (small, rest, is) =
    let whole : List ℕ = 1 ∷ to_be_bytes w32 (length payload) ++ payload in
    let size : length whole ≡ 5 + length payload =
    omega (arith, length-append (to_be_bytes w32 (length payload)) payload) in
    let left : length whole + (n - length whole) ≡ n = omega (arith, long, size) in (
      small,
      take (n - length whole) rest,
      ap (take n) is ∙ ap (λ k. take k (whole ++ rest)) (sym left)
          ∙ take-append-add whole rest (n - length whole),
    )

-- an open gate and a length with so many bytes behind it
pub begins_open : (bytes : List ℕ) (len : ℕ) → IsHead bytes (heads.Open len) → len ≤ MAX_PAYLOAD
    → 5 + len ≤ length bytes → BeginsWith bytes (take len (drop 5 bytes))
begins_open bytes len (small, rest, is) most long =
    let payload : drop 5 bytes ≡ rest = ap (drop 5) is in
    let count : length rest ≡ length bytes - 5 =
    omega (arith, ap length is, length-append (to_be_bytes w32 len) rest) in
    let size : length (take len rest) ≡ len = omega (arith, length-take len rest, count, long) in
    subst (λ l. BeginsWith bytes (take len l)) (sym payload) (
      omega (arith, size, most),
      drop len rest,
      is ∙ ap (λ (l : List ℕ). 1 ∷ to_be_bytes w32 len ++ l) (sym (take-append-drop len rest))
          ∙ ap (λ (n : ℕ). 1 ∷ to_be_bytes w32 n ++ (take len rest ++ drop len rest)) (sym size),
    )

pub long_begins : (bytes payload : List ℕ) → BeginsWith bytes payload
    → 5 + length payload ≤ length bytes
long_begins bytes payload (small, rest, there) = omega (
  arith,
  ap length there,
  length-append (to_be_bytes w32 (length payload)) (payload ++ rest),
  length-append payload rest,
)

-- a record in the rest of a part stands behind its place
pub found_there : (bytes : List ℕ) (at : ℕ) (part there : List ℕ) (n len : ℕ) → StandsAt bytes at there
    → there ≡ drop (length part - length there) part → n ≡ length part
    → BeginsWith there (take len (drop 5 there))
    → BeginsWith (drop at bytes) (take len (drop (n - length there + 5) part))
found_there bytes at part there n len stands end count begins =
    let skipped : ℕ = length part - length there in
    let behind : drop 5 there ≡ drop (n - length there + 5) part =
    ap (drop 5) end ∙ drop-drop 5 skipped part
    ∙ ap (λ k. drop (k - length there + 5) part) (sym count) in
    subst (λ l. BeginsWith (drop at bytes) (take len l)) behind
    (begins_front (drop at bytes) (length there) (take len (drop 5 there))
    (subst (λ l. BeginsWith l (take len (drop 5 there))) stands begins))

-- ---- on a disk

sized_at : (before after : List (List ℕ)) (payload : List ℕ)
    → AllSized (before ++ payload ∷ after) → length payload ≤ MAX_PAYLOAD
sized_at [] after payload sized = sized.0.1
sized_at (p ∷ before) after payload sized = sized_at before after payload sized.1

fit_at : (before after : List (List ℕ)) (payload : List ℕ)
    → AllFit (before ++ payload ∷ after) → length payload ≤ MAX_PAYLOAD
fit_at [] after payload fit = omega (arith, fit.0)
fit_at (p ∷ before) after payload fit = sized_at before after payload fit.1

log_at : (image : List ℕ) (before after : List (List ℕ)) (payload : List ℕ)
    → Stands image (before ++ payload ∷ after) → IsLog image (before ++ payload ∷ after)
log_at image [] after payload stands = stands
log_at image (p ∷ before) after payload stands = stands

-- a payload of the list is the one that the bytes at its place begin with
begins_there : (bytes : List ℕ) (at : ℕ) (payloads : List (List ℕ)) (payload : List ℕ)
    → Stands bytes payloads → IsAt payloads at payload → BeginsWith (drop at bytes) payload
begins_there bytes at payloads payload stands there =
    let log = log_at bytes there.before there.after payload
    (subst (Stands bytes) there.split stands) in
    let rest : List ℕ = blocks there.after ++ log.gate ∷ log.after in
    let whole : List ℕ = 1 ∷ to_be_bytes w32 (length payload) ++ payload ++ rest in
    let grouped : (blocks there.before ++ blocks (payload ∷ there.after))
    ++ log.gate ∷ log.after ≡ blocks there.before ++ whole = simp append_assoc in (
      fit_at there.before there.after payload log.fit,
      rest,
      ap (drop at) (log.split ∙ ap (λ l. l ++ log.gate ∷ log.after)
          (blocks-append there.before (payload ∷ there.after)) ∙ grouped)
          ∙ drop_at (blocks there.before) whole at (sym there.place),
    )

pub begins_reads : (told : Option (List ℕ)) (place : ℕ) (read : List ℕ)
    → IfSome told (λ b. BeginsWith (drop place b) read) → ReadsPayload told place read
begins_reads told place read begins = if_some told _ (λ b e payloads payload stands at.
    one_begins (drop place b) read payload
    (at_some told (λ x. BeginsWith (drop place x) read) b e begins)
    (begins_there b place payloads payload stands at))

-- the bytes from this place on, so many that they would hold a record, begin with none
pub none_reads : (told : Option (List ℕ)) (place : ℕ) (part : List ℕ)
    → IfSome told (IsFront place (5 + MAX_PAYLOAD) part)
    → ((payload : List ℕ) → BeginsWith part payload → ⊥) → HasNoPayload told place
none_reads told place part read none = if_some told _ (λ b e payloads payload stands at.
    let front = at_some told (IsFront place (5 + MAX_PAYLOAD) part) b e read in
    let there = begins_there b place payloads payload stands at in
    none payload (subst (λ l. BeginsWith l payload) (sym front.1)
    (front_begins (drop place b) (length part) payload
    (omega (
      arith,
      front.0,
      there.0,
      long_begins (drop place b) payload there,
      length-drop place b,
    )) there)))
