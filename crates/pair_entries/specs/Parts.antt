-- Inside: parts of a payload where they stand: the head of an out, and an entry before its outs.
use Rattle.std.specs.Prelude.{◌≡◌, ℕ, ◌≤◌, true, None, List, [], ◌∷◌, ◌++◌, IfSome}
use Rattle.std.specs.Int.{w32, w64, to_be_bytes}
use Rattle.pair_entries.specs.declared.TheConstants.{MAX_AT}
use Rattle.pair_entries.specs.Payload.{side_byte, flags_byte, taken_bytes, next_bytes, IsTook}
use Rattle.pair_entries.specs.Payload.{AreNext}
use Rattle.pair_entries.specs.declared.reading.Head.{Head}
use Rattle.pair_entries.specs.declared.reading.Front.{Front}

abbrev pub head_bytes : Head → List ℕ
head_bytes head =
    side_byte head.side ∷ to_be_bytes w32 head.number ++ flags_byte head.admin head.resend ∷ []

abbrev pub front_bytes : Front → List ℕ
front_bytes front = to_be_bytes w64 front.at ++ (taken_bytes front.reset front.took
    ++ (next_bytes front.next ++ front.outs.now))

-- the bounds of an entry before its outs
pub record IsFront (front : Front) : Type 0 where
  pub at : front.at ≤ MAX_AT
  pub took : IfSome front.took IsTook
  pub reset : front.reset ≡ true → (front.took ≡ None) × (front.next ≡ (1, 1, 1, 1))
  pub next : AreNext front.next
