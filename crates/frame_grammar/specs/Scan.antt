-- Inside: what the parts of the scan say of what stands at the front of a text; no clause of run
-- rests on it.
use Rattle.std.specs.Prelude.{◌≡◌, ℕ, ◌+◌, ◌<◌, ◌≤◌, List, [], ◌∷◌, ◌++◌, length, take, drop}
use Rattle.std.specs.Prelude.{slice_range, slice_index}
use Rattle.std.specs.Int.{w64, from_le_bytes}
use Rattle.std.specs.Prelude.{Ok, Err}
use Rattle.std.specs.declared.result.Result.{Result}
use Rattle.frame_grammar.specs.declared.frame.TheConstants.{SOH}
use Rattle.frame_grammar.specs.Found.{Found, Whole, Short, Broken, found_length, found_said}
use Rattle.frame_grammar.specs.declared.scan.Stop.{Stop}
use Rattle.frame_grammar.specs.declared.scan.Stop.TheVariants.{More, Garbled}
use Rattle.frame_grammar.specs.declared.scan.Front.{Front}
use Rattle.frame_grammar.specs.declared.scan.Length.{Length}

-- the scan stops here with less than a frame, or at a broken rule
abbrev pub IsStop : Stop → Found → Type 0
IsStop More f = f ≡ Short
IsStop (Garbled cause) f = (after : List ℕ) × (f ≡ Broken cause after)

-- What is found goes on as `next` where the part came, and stops there otherwise.
abbrev pub Leads : {A : Type 0} → Result A Stop → Found → Found → Type 0
Leads (Ok a) f next = f ≡ next
Leads (Err stop) f next = IsStop stop f

-- the digits of BodyLength, which SOH ends
abbrev pub ReadsLength : Result Length Stop → List ℕ → Type 0
ReadsLength (Ok length_field) bytes = (length_field.digits < length bytes)
    × (bytes ≡ take length_field.digits bytes ++ SOH ∷ drop (length_field.digits + 1) bytes)
    × ((start : List ℕ) → found_length start [] bytes
    ≡ found_said start (take length_field.digits bytes) length_field.said
    (drop (length_field.digits + 1) bytes))
ReadsLength (Err stop) bytes = (start : List ℕ) → IsStop stop (found_length start [] bytes)

-- what a whole scan, or its end, found in a text
abbrev pub IsFound : Result Front Stop → List ℕ → Found → Type 0
IsFound (Ok front) bytes f = (front.body.start + front.body.len ≤ front.end)
    × (front.end ≤ length bytes)
    × (f ≡ Whole (slice_range bytes front.body.start (front.body.start + front.body.len))
    (drop front.end bytes))
IsFound (Err stop) bytes f = IsStop stop f

-- the first eight bytes as one number
pub record IsWord (bytes : List ℕ) (word : ℕ) : Type 0 where
  pub value : word ≡ from_le_bytes w64 (take 8 bytes)
  pub within : 8 ≤ length bytes
  pub small : (k : ℕ) → slice_index (take 8 bytes) k < 256
