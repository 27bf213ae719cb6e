-- Own: an out with the moment of its entry, as a buffer holds it.
use Rattle.std.specs.Prelude.{◌≡◌, ℕ, ◌≤◌, List, Bool, true, false, length, Some, None}
use Rattle.std.specs.declared.option.Option.{Option}
use Rattle.kept_entries.specs.Given.{Given}
use Rattle.pair_entries.specs.declared.TheConstants.{MAX_AT, MAX_TYPE, MAX_CONTENT}
use Rattle.pair_entries.specs.declared.entry.Out.{Out}

pub record OutAt : Type 0 where
  -- the moment of its entry
  pub at : ℕ
  pub admin : Bool
  pub resend : Bool
  pub msg_type : List ℕ
  pub content : List ℕ

abbrev pub out_at : ℕ → Out → OutAt
out_at at out = record {
  at = at;
  admin = out.admin;
  resend = out.resend;
  msg_type = out.msg_type;
  content = out.content;
}

-- this out, which there is
abbrev pub IsGivenAs : Option Given → OutAt → Type 0
IsGivenAs None what = ⊥
IsGivenAs (Some one) what = what ≡ out_at one.entry.at one.out

-- an out of an entry of this moment is told, or there is none
abbrev pub TellsIf : Bool → Option Out → ℕ → OutAt → Type 0
TellsIf true (Some out) at what = what ≡ out_at at out
TellsIf true None at what = ⊥
TellsIf false out at what = out ≡ None

-- its bounds
pub record IsOutAt (what : OutAt) : Type 0 where
  pub at : what.at ≤ MAX_AT
  pub typed : 1 ≤ length what.msg_type
  pub short : length what.msg_type ≤ MAX_TYPE
  pub bounded : length what.content ≤ MAX_CONTENT
