-- An event more behind those of a life.
use Rattle.std.proofs.Common.{◌≡◌, ◌∙◌, ℕ, suc, List, [], ◌∷◌, ◌++◌, length, drop}
use Rattle.std.proofs.Common.{refl, sym, ap, subst}
use Rattle.capture_text.specs.declared.capture.Event.{Event}
use Rattle.capture_text.specs.declared.capture.Event.TheVariants as event
use Rattle.capture_text.specs.declared.capture.Mark.{Mark}
use Rattle.capture_text.specs.declared.capture.Mark.TheVariants as mark
use Rattle.capture_text.specs.Kept.{events_of, AreWhole}

module _ (last : Mark) (late : List ℕ) (more : List (List ℕ)) where
  longer : (marks : List Mark) (numbers : List ℕ) (pieces : List (List ℕ))
      → AreWhole marks numbers pieces
      → events_of (marks ++ last ∷ []) (numbers ++ late) (pieces ++ more)
      ≡ events_of marks numbers pieces ++ events_of (last ∷ []) late more
  longer [] [] [] whole = refl
  longer [] [] (piece ∷ pieces) whole = absurd whole
  longer [] (number ∷ numbers) pieces whole = absurd whole
  longer (mark.Stop image ∷ marks) [] pieces whole = absurd whole
  longer (mark.Stop image ∷ marks) (call ∷ numbers) pieces whole =
      ap (λ (l : List Event). event.Stop call image ∷ l) (longer marks numbers pieces whole)
  longer (mark.At ∷ marks) [] pieces whole = absurd whole
  longer (mark.At ∷ marks) (ms ∷ numbers) pieces whole =
      ap (λ (l : List Event). event.At ms ∷ l) (longer marks numbers pieces whole)
  longer (mark.Tick ∷ marks) numbers pieces whole =
      ap (λ (l : List Event). event.Tick ∷ l) (longer marks numbers pieces whole)
  longer (mark.Opened side ∷ marks) numbers pieces whole =
      ap (λ (l : List Event). event.Opened side ∷ l) (longer marks numbers pieces whole)
  longer (mark.Closed side ∷ marks) numbers pieces whole =
      ap (λ (l : List Event). event.Closed side ∷ l) (longer marks numbers pieces whole)
  longer (mark.Text side ∷ marks) numbers [] whole = absurd whole
  longer (mark.Text side ∷ marks) numbers (piece ∷ pieces) whole =
      ap (λ (l : List Event). event.Text side piece ∷ l) (longer marks numbers pieces whole)
  longer (mark.Frame side ∷ marks) numbers [] whole = absurd whole
  longer (mark.Frame side ∷ marks) numbers (piece ∷ pieces) whole =
      ap (λ (l : List Event). event.Frame side piece ∷ l) (longer marks numbers pieces whole)

  stays : (marks : List Mark) (numbers : List ℕ) (pieces : List (List ℕ))
      → AreWhole marks numbers pieces → AreWhole (last ∷ []) late more
      → AreWhole (marks ++ last ∷ []) (numbers ++ late) (pieces ++ more)
  stays [] [] [] whole next = next
  stays [] [] (piece ∷ pieces) whole next = absurd whole
  stays [] (number ∷ numbers) pieces whole next = absurd whole
  stays (mark.Stop image ∷ marks) [] pieces whole next = absurd whole
  stays (mark.Stop image ∷ marks) (call ∷ numbers) pieces whole next =
      stays marks numbers pieces whole next
  stays (mark.At ∷ marks) [] pieces whole next = absurd whole
  stays (mark.At ∷ marks) (ms ∷ numbers) pieces whole next = stays marks numbers pieces whole next
  stays (mark.Tick ∷ marks) numbers pieces whole next = stays marks numbers pieces whole next
  stays (mark.Opened side ∷ marks) numbers pieces whole next =
      stays marks numbers pieces whole next
  stays (mark.Closed side ∷ marks) numbers pieces whole next =
      stays marks numbers pieces whole next
  stays (mark.Text side ∷ marks) numbers [] whole next = absurd whole
  stays (mark.Text side ∷ marks) numbers (piece ∷ pieces) whole next =
      stays marks numbers pieces whole next
  stays (mark.Frame side ∷ marks) numbers [] whole next = absurd whole
  stays (mark.Frame side ∷ marks) numbers (piece ∷ pieces) whole next =
      stays marks numbers pieces whole next

-- the same of lists that are longer by what the last mark takes
module _ (marks all : List Mark) (numbers times : List ℕ) (pieces parts : List (List ℕ))
    (last : Mark) (late : List ℕ) (more : List (List ℕ)) (marked : all ≡ marks ++ last ∷ [])
    (timed : times ≡ numbers ++ late) (parted : parts ≡ pieces ++ more)
    (whole : AreWhole marks numbers pieces) where
  pub one_more : events_of all times parts
      ≡ events_of marks numbers pieces ++ events_of (last ∷ []) late more
  one_more = ap (λ (m : List Mark). events_of m times parts) marked
      ∙ ap (λ (t : List ℕ). events_of (marks ++ last ∷ []) t parts) timed
      ∙ ap (events_of (marks ++ last ∷ []) (numbers ++ late)) parted
      ∙ longer last late more marks numbers pieces whole

  pub still_whole : AreWhole (last ∷ []) late more → AreWhole all times parts
  still_whole next = subst (λ (m : List Mark). AreWhole m times parts) (sym marked)
      (subst (λ (t : List ℕ). AreWhole (marks ++ last ∷ []) t parts) (sym timed)
      (subst (AreWhole (marks ++ last ∷ []) (numbers ++ late)) (sym parted)
      (stays last late more marks numbers pieces whole next)))

pub as_many : (marks : List Mark) (numbers : List ℕ) (pieces : List (List ℕ))
    → length (events_of marks numbers pieces) ≡ length marks
as_many [] numbers pieces = refl
as_many (mark.Stop image ∷ marks) numbers pieces = ap suc (as_many marks (drop 1 numbers) pieces)
as_many (mark.At ∷ marks) numbers pieces = ap suc (as_many marks (drop 1 numbers) pieces)
as_many (mark.Tick ∷ marks) numbers pieces = ap suc (as_many marks numbers pieces)
as_many (mark.Opened side ∷ marks) numbers pieces = ap suc (as_many marks numbers pieces)
as_many (mark.Closed side ∷ marks) numbers pieces = ap suc (as_many marks numbers pieces)
as_many (mark.Text side ∷ marks) numbers pieces = ap suc (as_many marks numbers (drop 1 pieces))
as_many (mark.Frame side ∷ marks) numbers pieces = ap suc (as_many marks numbers (drop 1 pieces))
