-- A stream in the midst of its way: what holds before each read.
use Rattle.std.proofs.Common.{◌≡◌, ℕ, ◌+◌, ◌≤◌, Bool, true, false, ◌&&◌, List, [], ◌++◌, refl, sym}
use Rattle.std.proofs.Common.{◌∙◌, ap, subst, inl, inr, Some, None, Option, length, take, arith}
use Rattle.std.proofs.Common.{length-append, append-nil}
use Rattle.std.specs.Prelude.{is_some}
use Rattle.std.specs.Io.KnownBytes.{Appends, Consumes, Keeps, IsAtEnd}
use Rattle.std.proofs.KnownBytes.{Appends-trans, Appends-kept}
use Rattle.std.proofs.KnownBytes.{Consumes-trans}
use Rattle.std.proofs.lemmas.List.{take_all}
use Rattle.std.proofs.Math.Seq.{take-append_seam}
use Rattle.outside.proofs.Fronts.{appended_front}
use Rattle.frame_grammar.specs.declared.frame.Kind.{Kind}
use Rattle.frame_grammar.specs.declared.pieces.Rest.{Rest}
use Rattle.frame_grammar.specs.Held.{Held}
use Rattle.frame_grammar.specs.Cut.{Piece, ComeFirst, Cut}
use Rattle.frame_grammar.specs.Framer.{StandsFor}
use Rattle.frame_grammar.specs.Places.{EndsIn, place_after}
use Rattle.gateway_top.specs.declared.task.Task.{Task}
use Rattle.gateway_top.specs.declared.task.Task.TheVariants.{TranslateUp, TranslateDown}
use Rattle.gateway_top.specs.declared.task.Task.TheVariants.{CheckClient, CheckVenue}
use Rattle.gateway_top.specs.declared.task.Task.TheVariants.{TranslateUp44, TranslateDown44}
use Rattle.gateway_top.specs.declared.task.Task.TheVariants.{CheckClient44}
use Rattle.gateway_top.specs.declared.status.Status.{Status}
use Rattle.gateway_top.specs.declared.status.Status.TheVariants.{Done, Refused, Usage, InputFault}
use Rattle.gateway_top.specs.declared.status.Status.TheVariants.{OutputFault, NoMemory}
use Rattle.gateway_top.specs.declared.status.Status.TheVariants.{InputTooLong, ConfigRefused}
use Rattle.gateway_top.specs.declared.status.Status.TheVariants.{DiskFault, JournalRefused}
use Rattle.gateway_top.specs.declared.status.Status.TheVariants.{NamesDiffer, JournalFull}
use Rattle.gateway_top.specs.declared.status.Status.TheVariants.{NumbersSpent, CaptureRefused}
use Rattle.gateway_top.specs.Judge.{JudgesAll, end_said, unfinished}
use Rattle.gateway_top.specs.Task.{has_ended, kind_of, stops, first_of}
use Rattle.gateway_top.specs.Pass.{CaughtUp, Advances, Ends}
use Rattle.whole_input.specs.declared.reading.TheConstants.{MAX_INPUT}
use Rattle.gateway_top.specs.Program.{Waits, Stopped, Finished, Said, Ran}

pub record Midway (task : Task) (input_old input out_old out : Option (List ℕ))
    (framer : Held) (refused : Option ℕ) (taken : ℕ) : Type 0 where
  pub bytes : List ℕ
  pub taken_is : length bytes ≡ taken
  pub consumed : Consumes input_old input bytes
  pub answered : List Piece
  pub stands : StandsFor framer bytes answered
  pub rest : List ℕ
  pub cut : Cut (kind_of task) bytes answered rest
  pub said : List ℕ
  pub judges : JudgesAll task [] answered refused said
  pub going : has_ended task refused ≡ false
  pub put : Appends out_old out said

cut_empty : (task : Task) → Cut (kind_of task) [] [] []
cut_empty TranslateUp = (refl, refl)
cut_empty TranslateDown = (refl, refl)
cut_empty CheckClient = (refl, refl)
cut_empty CheckVenue = (refl, refl)
cut_empty TranslateUp44 = (refl, refl)
cut_empty TranslateDown44 = (refl, refl)
cut_empty CheckClient44 = (refl, refl)

going_none : (task : Task) → has_ended task None ≡ false
going_none TranslateUp = refl
going_none TranslateDown = refl
going_none CheckClient = refl
going_none CheckVenue = refl
going_none TranslateUp44 = refl
going_none TranslateDown44 = refl
going_none CheckClient44 = refl

consumed_kept : (a b c : Option (List ℕ)) (bytes : List ℕ)
    → Consumes a b bytes → Keeps b c → Consumes a c bytes
consumed_kept None b c bytes is kept = is
consumed_kept (Some xs) None c bytes is kept = absurd is
consumed_kept (Some xs) (Some ys) None bytes is kept = absurd kept
consumed_kept (Some xs) (Some ys) (Some zs) bytes is kept =
    is ∙ ap (λ (l : List ℕ). bytes ++ l) (sym kept)

take_front : (xs ys : List ℕ) (n : ℕ) → length xs ≡ n → take n (xs ++ ys) ≡ xs
take_front xs ys n is = subst (λ (k : ℕ). take k (xs ++ ys) ≡ xs) is (take-append_seam xs ys)

module _ (task : Task) where
  -- nothing was taken, and nothing said
  pub waits_at_start : Waits task [] None []
  waits_at_start = record {
    pieces = [];
    rest = [];
    cut = cut_empty task;
    judges = (refl, refl);
    going = going_none task;
  }

  module _ (input_old input out_old out : Option (List ℕ)) (framer : Held) (refused : Option ℕ)
      (taken : ℕ) (m : Midway task input_old input out_old out framer refused taken) where
    pub waits : Waits task m.bytes refused m.said
    waits = record {
      pieces = m.answered;
      rest = m.rest;
      cut = m.cut;
      judges = m.judges;
      going = m.going;
    }

    -- the next bytes were taken
    pub consumed_more : (later : Option (List ℕ)) (piece : List ℕ)
        → Consumes input later piece → Consumes input_old later (m.bytes ++ piece)
    consumed_more later piece more =
        Consumes-trans input_old input later m.bytes piece m.consumed more

    -- and judged
    module _ (after : Held) (next : Option ℕ) (piece now : List ℕ) (kind : after.kind
        ≡ kind_of task) (judged : Advances task framer after refused next piece now) where
      pub j : CaughtUp task after (m.bytes ++ piece) m.answered next m.said [] now
      j = judged m.bytes m.answered m.said m.stands m.going m.judges

      pub now_is : now ≡ j.said
      now_is = j.written

      pub said_more : JudgesAll task [] (m.answered ++ j.more) next (m.said ++ now)
      said_more = subst (λ (l : List ℕ).
          JudgesAll task [] (m.answered ++ j.more) next (m.said ++ l)) (sym now_is) j.judges

      cut_more : has_ended task next ≡ false
          → (rest : List ℕ) × Cut (kind_of task) (m.bytes ++ piece) (m.answered ++ j.more) rest
      cut_more going = subst (λ (k : Kind). (rest : List ℕ)
          × Cut k (m.bytes ++ piece) (m.answered ++ j.more) rest) kind (j.waits going)

      pub waits_more : has_ended task next ≡ false
          → Waits task (m.bytes ++ piece) next (m.said ++ now)
      waits_more going = record {
        pieces = m.answered ++ j.more;
        rest = (cut_more going).0;
        cut = (cut_more going).1;
        judges = said_more;
        going = going;
      }

      pub midway_more : (later put : Option (List ℕ)) (count : ℕ) → length piece ≡ count
          → Consumes input later piece → Appends out put now → has_ended task next ≡ false →
          Midway task input_old later out_old put after next (taken + count)
      midway_more later put count count_is more appended going = record {
        bytes = m.bytes ++ piece;
        taken_is = omega (arith, length-append m.bytes piece, m.taken_is, count_is);
        consumed = consumed_more later piece more;
        answered = m.answered ++ j.more;
        stands = j.stands;
        rest = (cut_more going).0;
        cut = (cut_more going).1;
        said = m.said ++ now;
        judges = said_more;
        going = going;
        put = Appends-trans out_old out put m.said now m.put appended;
      }

      pub stopped : length piece ≤ 4096 → (at : ℕ)
          → next ≡ Some at → stops task ≡ true → Stopped task (m.bytes ++ piece) at (m.said ++ now)
      stopped few at is ends = record {
        pieces = m.answered ++ j.more;
        left = j.stands.dropped ++ after.unread;
        come = subst (λ (k : Kind). ComeFirst k (m.bytes ++ piece)
            (m.answered ++ j.more) (j.stands.dropped ++ after.unread)) kind j.stands.come;
        judges = subst (λ (r : Option ℕ).
            JudgesAll task [] (m.answered ++ j.more) r (m.said ++ now)) is said_more;
        stops = ends;
        before = length m.bytes;
        near = omega (arith, length-append m.bytes piece, few);
        waited = (
          refused,
          m.said,
          subst (λ (l : List ℕ). Waits task l refused m.said)
              (sym (take_front m.bytes piece (length m.bytes) refl)) waits,
        );
      }

      -- whether the task has ended or not
      by_end : length piece ≤ 4096 → (b : Bool) → stops task ≡ b → (r : Option ℕ)
          → next ≡ r → (left : Option (List ℕ)) → Said task (m.bytes ++ piece) left (m.said ++ now)
      by_end few true ends (Some at) is left = inr (inl (at, stopped few at is ends))
      by_end few true ends None is left = inl (
        next,
        waits_more
            (subst (λ (r : Option ℕ). has_ended task r ≡ false) (sym is) (going_none task)),
      )
      by_end few false goes_on r is left =
          inl (next, waits_more (ap (λ (b : Bool). b && is_some next) goes_on))

      pub said_now : length piece ≤ 4096
          → (left : Option (List ℕ)) → Said task (m.bytes ++ piece) left (m.said ++ now)
      said_now few left = by_end few (stops task) refl next refl left

    -- the input has ended
    module _ (left : Option (List ℕ)) (end : Rest) (at_end : IsAtEnd left) (within : taken
        ≤ MAX_INPUT) (ends : EndsIn end (kind_of task) (place_after m.answered) m.rest) where
      short : length m.bytes ≤ MAX_INPUT
      short = omega (arith, m.taken_is)

      finished : (found : Option ℕ) → first_of refused (unfinished end) ≡ found
          → Finished task m.bytes found (m.said ++ end_said task end)
      finished found is = record {
        pieces = m.answered;
        rest = m.rest;
        cut = m.cut;
        refused = refused;
        judged = m.said;
        judges = m.judges;
        going = m.going;
        end = end;
        ends = ends;
        first = sym is;
        joined = refl;
      }

      pub ran_to_end : (status : Status) (put : Option (List ℕ))
          → Ends task end refused status out put → Ran task status m.bytes left out_old put
      ran_to_end Done put (is, appended) = (
        short,
        at_end,
        (
          m.said ++ end_said task end,
          finished None is,
          Appends-trans out_old out put m.said (end_said task end) m.put appended,
        ),
      )
      ran_to_end (Refused at) put (is, appended) = (
        short,
        (
          m.said ++ end_said task end,
          inr (at_end, finished (Some at) is),
          Appends-trans out_old out put m.said (end_said task end) m.put appended,
        ),
      )
      ran_to_end OutputFault put front = (
        short,
        (
          m.said ++ end_said task end,
          inr (inr (at_end, (first_of refused (unfinished end), finished _ refl))),
          appended_front out_old out put m.said (end_said task end) m.put front,
        ),
      )
      ran_to_end NoMemory put kept = (
        short,
        (
          length m.bytes,
          refused,
          m.said,
          subst (λ (l : List ℕ). Waits
              task l refused m.said) (sym (take_all (length m.bytes) m.bytes (omega arith))) waits,
          Appends-kept out_old out put m.said m.put kept,
        ),
      )
      ran_to_end Usage put never = never
      ran_to_end InputFault put never = absurd never
      ran_to_end InputTooLong put never = absurd never
      ran_to_end (ConfigRefused key) put never = absurd never
      ran_to_end DiskFault put never = absurd never
      ran_to_end (JournalRefused at) put never = absurd never
      ran_to_end (NamesDiffer kept given) put never = absurd never
      ran_to_end JournalFull put never = absurd never
      ran_to_end (NumbersSpent side) put never = absurd never
      ran_to_end (CaptureRefused line) put never = absurd never

    -- nothing more was there to take
    pub consumed_all : (later : Option (List ℕ)) (piece : List ℕ)
        → piece ≡ [] → Consumes input later piece → Consumes input_old later m.bytes
    consumed_all later piece none more =
        subst (λ (l : List ℕ). Consumes input_old later l) (ap (λ (l : List ℕ). m.bytes ++ l) none
        ∙ append-nil m.bytes) (consumed_more later piece more)

    -- one byte more than the input may have was taken
    pub too_long : (left : Option (List ℕ)) (piece : List ℕ) → taken ≡ MAX_INPUT
        → length piece ≡ 1 → Ran task InputTooLong (m.bytes ++ piece) left out_old out
    too_long left piece full one = (
      omega (arith, length-append m.bytes piece, m.taken_is),
      (
        refused,
        m.said,
        subst (λ (l : List ℕ). Waits task l refused m.said)
            (sym (take_front m.bytes piece MAX_INPUT (m.taken_is ∙ full))) waits,
        m.put,
      ),
    )

    -- the next bytes were taken, and memory was wanting to judge them
    pub no_memory : (left put : Option (List ℕ)) (piece : List ℕ) → taken + length piece ≤ MAX_INPUT
        → Keeps out put → Ran task NoMemory (m.bytes ++ piece) left out_old put
    no_memory left put piece within kept = (
      omega (arith, length-append m.bytes piece, m.taken_is),
      (
        length m.bytes,
        refused,
        m.said,
        subst (λ (l : List ℕ). Waits task l refused m.said)
            (sym (take_front m.bytes piece (length m.bytes) refl)) waits,
        Appends-kept out_old out put m.said m.put kept,
      ),
    )

    pub consumed_still : (later : Option (List ℕ))
        → Keeps input later → Consumes input_old later m.bytes
    consumed_still later kept = consumed_kept input_old input later m.bytes m.consumed kept

    -- the source failed
    pub input_failed : (left : Option (List ℕ))
        → taken ≤ MAX_INPUT → Ran task InputFault m.bytes left out_old out
    input_failed left within = (omega (arith, m.taken_is), (refused, m.said, waits, m.put))
