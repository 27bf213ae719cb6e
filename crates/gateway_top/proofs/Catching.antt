-- Pieces are judged one by one.
use Rattle.std.proofs.Common.{◌≡◌, ℕ, Bool, true, false, ◌&&◌, List, [], ◌∷◌, ◌++◌, refl, sym, ◌∙◌}
use Rattle.std.proofs.Common.{ap, subst, Some, None, Option, append_assoc, append-nil}
use Rattle.std.specs.Prelude.{MatchBool}
use Rattle.frame_grammar.specs.Held.{Held}
use Rattle.frame_grammar.specs.Cut.{Piece}
use Rattle.frame_grammar.specs.Framer.{StandsFor}
use Rattle.gateway_top.specs.declared.task.Task.{Task}
use Rattle.gateway_top.specs.Judge.{Judges, JudgesAll}
use Rattle.gateway_top.specs.Task.{has_ended, stops, first_of}

-- as far as pieces were judged
pub record Catching (task : Task) (framer : Held) (stream : List ℕ)
    (answered : List Piece) (refused : Option ℕ) (before old new : List ℕ) : Type 0 where
  pub more : List Piece
  pub said : List ℕ
  pub stands : StandsFor framer stream (answered ++ more)
  pub judges : JudgesAll task [] (answered ++ more) refused (before ++ said)
  pub written : new ≡ old ++ said

pub first_of-none : (a : Option ℕ) → first_of a None ≡ a
first_of-none None = refl
first_of-none (Some at) = refl

pub first_of-assoc : (a b c : Option ℕ) → first_of (first_of a b) c ≡ first_of a (first_of b c)
first_of-assoc None b c = refl
first_of-assoc (Some at) b c = refl

-- a task that has not ended by the first of two places has ended by neither
and_false : (a : Bool) → (a && false) ≡ false
and_false true = refl
and_false false = refl

ended_by_first : (task : Task) (a b : Option ℕ)
    → has_ended task (first_of a b) ≡ false → has_ended task a ≡ false
ended_by_first task None b going = and_false (stops task)
ended_by_first task (Some at) b going = going

ended_by_second : (task : Task) (a b : Option ℕ)
    → has_ended task (first_of a b) ≡ false → has_ended task b ≡ false
ended_by_second task None b going = going
ended_by_second task (Some at) None going = and_false (stops task)
ended_by_second task (Some at) (Some later) going = going

in_false : (b : Bool) (P Q : Type 0) → b ≡ false → MatchBool b P Q → Q
in_false true P Q is m = absurd (cc is)
in_false false P Q is m = m

to_false : (b : Bool) (P Q : Type 0) → b ≡ false → Q → MatchBool b P Q
to_false true P Q is q = absurd (cc is)
to_false false P Q is q = q

either : (b : Bool) (P Q : Type 0) → P → Q → MatchBool b P Q
either true P Q p q = p
either false P Q p q = q

-- one piece more is judged
pub judges_more : (task : Task) (before ps : List Piece)
    (refused : Option ℕ) (said : List ℕ) (piece : Piece) (at : Option ℕ) (now : List ℕ) →
    JudgesAll task before ps refused said
    → has_ended task refused ≡ false → Judges task (before ++ ps) piece at now →
    JudgesAll task before (ps ++ piece ∷ []) (first_of refused at) (said ++ now)
judges_more task before [] refused said piece at now (none, nothing) going judges = (
  at,
  now,
  None,
  [],
  subst (λ (b : List Piece). Judges task b piece at now) (append-nil before) judges,
  ap (λ (r : Option ℕ). first_of r at) none ∙ sym (first_of-none at),
  ap (λ (l : List ℕ). l ++ now) nothing ∙ sym (append-nil now),
  either (has_ended task at) _ _ (refl, refl) (refl, refl),
)
judges_more task before (p ∷ ps)
    refused said piece at now (at0, now0, later_at, later, first, is, joined, rest) going judges =
    let going' = subst (λ (r : Option ℕ). has_ended task r ≡ false) is going in
    let still = ended_by_first task at0 later_at going' in
    let more = judges_more task (before ++ p ∷ []) ps later_at later piece at now
    (in_false _ _ _ still rest) (ended_by_second task at0 later_at going')
    (subst (λ (b : List Piece). Judges task b piece at now)
    (sym (append_assoc before (p ∷ []) ps)) judges) in (
      at0,
      now0,
      first_of later_at at,
      later ++ now,
      first,
      ap (λ (r : Option ℕ). first_of r at) is ∙ first_of-assoc at0 later_at at,
      ap (λ (l : List ℕ). l ++ now) joined ∙ append_assoc now0 later now,
      to_false _ _ _ still more,
    )

-- nothing more was judged yet
pub catching_none : (task : Task) (framer : Held)
    (stream : List ℕ) (answered : List Piece) (refused : Option ℕ) (before old : List ℕ) →
    StandsFor framer stream answered → JudgesAll task [] answered refused before →
    Catching task framer stream answered refused before old old
catching_none task framer stream answered refused before old stands judges = record {
  more = [];
  said = [];
  stands =
      subst (λ (ps : List Piece). StandsFor framer stream ps) (sym (append-nil answered)) stands;
  judges = rw (append-nil answered, append-nil before) judges;
  written = sym (append-nil old);
}

-- one piece more was judged
pub catching_more : (task : Task) (framer later : Held)
    (stream : List ℕ) (answered : List Piece) (refused : Option ℕ) (before old mid new : List ℕ) →
    (j : Catching task framer stream answered refused before old mid)
    → has_ended task refused ≡ false →
    (piece : Piece) (at : Option ℕ) (now : List ℕ)
    → StandsFor later stream ((answered ++ j.more) ++ piece ∷ []) →
    Judges task (answered ++ j.more) piece at now → new ≡ mid ++ now →
    Catching task later stream answered (first_of refused at) before old new
catching_more task framer later
    stream answered refused before old mid new j going piece at now stands judges written = record {
      more = j.more ++ piece ∷ [];
      said = j.said ++ now;
      stands = subst (λ (ps : List Piece). StandsFor later stream ps)
          (append_assoc answered j.more (piece ∷ [])) stands;
      judges = rw (← append_assoc answered j.more (piece ∷ []), ← append_assoc before j.said now)
          (judges_more task
          [] (answered ++ j.more) refused (before ++ j.said) piece at now j.judges going judges);
      written = written ∙ ap (λ (l : List ℕ). l ++ now) j.written ∙ append_assoc old j.said now;
    }
