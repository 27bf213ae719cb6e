-- What is found, and what is written, by what a call answered.
use Rattle.std.proofs.Common.{◌≡◌, ℕ, List, [], ◌++◌, refl, sym, ◌∙◌, inl, inr, Some, None, Option}
use Rattle.std.proofs.Common.{ap, length, append-nil, Ok, Err, Result}
use Rattle.std.specs.Prelude.{OnOk, OnErr, IfOk, IfErr}
use Rattle.std.specs.declared.alloc.AllocError.{AllocError}
use Rattle.frame_grammar.specs.Cut.{Piece, Good}
use Rattle.frame_grammar.specs.Places.{place_after}
use Rattle.order_meaning.specs.declared.fault.Fault.{Fault}
use Rattle.order_meaning.specs.declared.fault.Fault.TheVariants as faults
use Rattle.translation.specs.Bodies.{IsOutcome, IsRefused, IsTranslation}
use Rattle.translate_fix44.specs.Translation as fix44
use Rattle.translation.specs.declared.error.TranslateError.{TranslateError}
use Rattle.translation.specs.declared.error.TranslateError.TheVariants as errors
use Rattle.request_translate.specs.Translation as up
use Rattle.report_translate.specs.Translation as down
use Rattle.gateway_top.specs.Answer.{found_by, refused_by}
use Rattle.gateway_top.specs.Finding.{IsFound44, IsRead, refusal_at}
use Rattle.gateway_top.specs.Judge.{Writes, Judges}
use Rattle.gateway_top.specs.Line.{frame_line}
use Rattle.gateway_top.specs.declared.finding.Finding.{Finding}
use Rattle.gateway_top.specs.declared.task.Task.{Task}
use Rattle.gateway_top.specs.declared.task.Task.TheVariants.{TranslateUp, TranslateDown}
use Rattle.gateway_top.specs.declared.task.Task.TheVariants.{TranslateUp44, TranslateDown44}
use Rattle.gateway_top.specs.declared.task.Task.TheVariants.{CheckClient44}

-- a check answered with an outcome, or for want of memory
pub read_by : {A : Type 0} (checked : Option TranslateError → Type 0)
    (refused : TranslateError → Type 0)
    → ((fault : Fault) → refused (errors.Faulty fault) → checked (Some (errors.Faulty fault)))
    → ((tag : ℕ) → refused (errors.Lacking tag) → checked (Some (errors.Lacking tag)))
    → (answer : Result A TranslateError) → OnOk answer (checked None) → IfErr answer refused
    → IfOk (found_by answer) (IsRead checked)
read_by checked refused faulty lacking (Ok done) good why = good
read_by checked refused faulty lacking (Err (errors.Faulty (faults.Session tag reason))) good why =
    faulty _ why
read_by checked refused faulty lacking (Err (errors.Faulty (faults.NoCounterpart tag))) good why =
    inl (faulty _ why)
read_by checked refused faulty lacking (Err (errors.Faulty faults.NotSupported)) good why =
    faulty _ why
read_by checked refused faulty lacking (Err (errors.Faulty faults.NoMemory)) good why = tt
read_by checked refused faulty lacking (Err (errors.Lacking tag)) good why = inr (lacking _ why)
read_by checked refused faulty lacking (Err errors.TooLong) good why = tt
read_by checked refused faulty lacking (Err errors.NoMemory) good why = tt

-- what a translation writes for a frame, wherever it stands
abbrev pub Written : (Result (List ℕ) TranslateError → Type 0) → ℕ → ℕ → List ℕ → List ℕ
    → Option ℕ → Type 0
Written outcome at len old new refused =
    (before : List Piece) (bytes : List ℕ) → at ≡ place_after before → len ≡ length bytes →
    (said : List ℕ) × (new ≡ old ++ said) × Writes outcome (place_after before) refused said

-- a translation answered with an outcome, or for want of memory
pub written_by : {A : Type 0} (outcome : Result (List ℕ) TranslateError → Type 0)
    (refused : TranslateError → Type 0)
    → ((fault : Fault) → refused (errors.Faulty fault) → outcome (Err (errors.Faulty fault)))
    → ((tag : ℕ) → refused (errors.Lacking tag) → outcome (Err (errors.Lacking tag)))
    → (refused errors.TooLong → outcome (Err errors.TooLong))
    → (at len : ℕ) (old new : List ℕ) (answer : Result A TranslateError)
    → OnOk answer ((text : List ℕ) × outcome (Ok text) × (new ≡ old ++ text))
    → IfErr answer refused → OnErr answer (new ≡ old)
    → IfOk (refused_by at answer) (Written outcome at len old new)
written_by outcome refused faulty lacking long at len old new (Ok done) said why kept =
    λ before bytes place size. (said.0, said.2, said.1)
written_by outcome refused faulty lacking long at len old new (Err (errors.Faulty fault))
    said why kept = λ before bytes place size.
    ([], kept ∙ sym (append-nil old), ((errors.Faulty fault, faulty fault why), place, refl))
written_by outcome refused faulty lacking long at len old new (Err (errors.Lacking tag))
    said why kept = λ before bytes place size.
    ([], kept ∙ sym (append-nil old), ((errors.Lacking tag, lacking tag why), place, refl))
written_by outcome refused faulty lacking long at len old new (Err errors.TooLong) said why kept =
    λ before bytes place size.
    ([], kept ∙ sym (append-nil old), ((errors.TooLong, long why), place, refl))
written_by outcome refused faulty lacking long at len old new (Err errors.NoMemory) said why kept =
    tt

-- what a task says of a frame, wherever it stands
abbrev pub Said : Task → ℕ → ℕ → List ℕ → List ℕ → List ℕ → Option ℕ → Type 0
Said task at len old new body refused =
    (before : List Piece) (bytes : List ℕ) → at ≡ place_after before → len ≡ length bytes →
    (said : List ℕ) × (new ≡ old ++ said) × Judges task before (Good body bytes) refused said

module _ (task : Task) (at len : ℕ) (old new body part : List ℕ)
    (result : Result (Option ℕ) AllocError) where
  pub said_up : {A : Type 0} (answer : Result A TranslateError)
      → task ≡ TranslateUp → body ≡ part → result ≡ refused_by at answer
      → OnOk answer ((text : List ℕ) × up.IsTranslation body text × (new ≡ old ++ text))
      → IfErr answer (up.IsRefused body) → OnErr answer (new ≡ old)
      → IfOk result (Said task at len old new part)
  said_up answer is body_is result_is said why kept =
      rw (is, result_is, ← body_is) (written_by (up.IsOutcome body) (up.IsRefused body)
      (λ fault why. why) (λ tag why. why) (λ why. why) at len old new answer said why kept)

  pub said_down : {A : Type 0} (answer : Result A TranslateError)
      → task ≡ TranslateDown → body ≡ part → result ≡ refused_by at answer
      → OnOk answer ((text : List ℕ) × down.IsTranslation body text × (new ≡ old ++ text))
      → IfErr answer (down.IsRefused body) → OnErr answer (new ≡ old)
      → IfOk result (Said task at len old new part)
  said_down answer is body_is result_is said why kept =
      rw (is, result_is, ← body_is) (written_by (down.IsOutcome body) (down.IsRefused body)
      (λ fault why. why) (λ tag why. why) (λ why. why) at len old new answer said why kept)

  pub said_up44 : {A : Type 0} (answer : Result A TranslateError)
      → task ≡ TranslateUp44 → body ≡ part → result ≡ refused_by at answer
      → OnOk answer ((text : List ℕ) × IsTranslation fix44.up body text × (new ≡ old ++ text))
      → IfErr answer (IsRefused fix44.up body) → OnErr answer (new ≡ old)
      → IfOk result (Said task at len old new part)
  said_up44 answer is body_is result_is said why kept =
      rw (is, result_is, ← body_is) (written_by (IsOutcome fix44.up body)
      (IsRefused fix44.up body) (λ fault why. why) (λ tag why. why) (λ why. why) at len old new
      answer said why kept)

  pub said_down44 : {A : Type 0} (answer : Result A TranslateError)
      → task ≡ TranslateDown44 → body ≡ part → result ≡ refused_by at answer
      → OnOk answer ((text : List ℕ) × IsTranslation fix44.down body text × (new ≡ old ++ text))
      → IfErr answer (IsRefused fix44.down body) → OnErr answer (new ≡ old)
      → IfOk result (Said task at len old new part)
  said_down44 answer is body_is result_is said why kept =
      rw (is, result_is, ← body_is) (written_by (IsOutcome fix44.down body)
      (IsRefused fix44.down body) (λ fault why. why) (λ tag why. why) (λ why. why) at len old new
      answer said why kept)

-- what a check says of a frame of which this is found, wherever it stands
pub told_44 : (task : Task) (at len wide : ℕ) (old new body part : List ℕ) (finding : Finding)
    (refused : Option ℕ) → task ≡ CheckClient44 → body ≡ part → wide ≡ len
    → IsFound44 body finding → new ≡ old ++ frame_line at wide body finding
    → refused ≡ refusal_at finding at → Said task at len old new part refused
told_44 task at len wide old new body part finding refused is body_is wide_is found line refusal =
    rw (is, ← body_is) (λ before bytes place size. (
      frame_line at wide body finding,
      line,
      (
        finding,
        found,
        refusal ∙ ap (refusal_at finding) place,
        (λ i. frame_line (place i) ((wide_is ∙ size) i) body finding),
      ),
    ))
