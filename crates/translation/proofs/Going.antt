-- What a translator answers of a body, by what is known of its fields, whatever its direction.
use Rattle.std.proofs.Common.{◌≡◌, ◌≤◌, ◌++◌, ℕ, List, Option, None, Result, Ok, Err, refl, sym, ap}
use Rattle.std.proofs.Common.{◌∙◌, subst, length, length-append, arith}
use Rattle.std.specs.Prelude.{IfErr, OnOk}
use Rattle.frame_grammar.specs.Frame.{IsFrame, IsWritable, frame_of}
use Rattle.field_groups.specs.declared.fault.SplitFault.{SplitFault}
use Rattle.field_groups.specs.Field.{Field, body_of}
use Rattle.field_groups.specs.Fields.{SplitsInto}
use Rattle.message_tables.specs.Tables.{Message}
use Rattle.translation.specs.declared.error.TranslateError.{TranslateError}
use Rattle.translation.specs.declared.error.TranslateError.TheVariants as errors
use Rattle.translation.specs.Bodies.{Direction, Goes, IsRead, IsRefused, IsRefusedByCheck}
use Rattle.translation.specs.Bodies.{IsTranslation, others}
use Rattle.translation.specs.Going.{Appends, AreGone, AreRead, IsFair, IsOtherOf, Keeps}
use Rattle.translation.specs.Going.{Refuses, StayBack}
use Rattle.translation.specs.Header.{carried, type_of}
use Rattle.translation.specs.Writing.{IsUnwritten, IsWritten}
use Rattle.translation.proofs.Writable.{writable}

module _ (d : Direction) where
  -- ---- fields that were judged, in place of those of a body

  module _ (fields good : List Field) (stopped : Option SplitFault) (same : good ≡ fields)
      (whole : stopped ≡ None) (r : Result (Unit {0}) TranslateError) where
    of_same : (P : List Field → Option SplitFault → Type 0) → P good None → P fields stopped
    of_same P h = subst (P fields) (sym whole) (subst (λ (f : List Field). P f None) same h)

    pub appends_of : (before after : List ℕ) → OnOk r (Appends d good None before after)
        → OnOk r (Appends d fields stopped before after)
    appends_of before after = of_same (λ f s. OnOk r (Appends d f s before after))

    pub stays_of : IfErr r (StayBack d good None) → IfErr r (StayBack d fields stopped)
    stays_of = of_same (λ f s. IfErr r (StayBack d f s))

  module _ (fields : List Field) (stopped : Option SplitFault) where
    -- what is appended makes no body shorter
    pub grows : (before after : List ℕ) → Appends d fields stopped before after
        → length before ≤ length after
    grows before after h =
        let long = ap length h.bytes ∙ length-append before (body_of (d.content h.gone.m h.gone.w))
        in omega (arith, long)

    -- ---- what is written of fields whose message becomes another, and why nothing is

    pub written_other : (gone : AreGone d fields stopped) (other : List ℕ)
        (r : Result (Unit {0}) TranslateError)
        → OnOk r (IsWritten (d.head fields) (d.content gone.m gone.w) other)
        → OnOk r (IsOtherOf d fields stopped other)
    written_other gone other (Ok done) h = record { gone = gone; written = h }
    written_other gone other (Err error) h = tt

    pub unwritten_other : (gone : AreGone d fields stopped) (r : Result (Unit {0}) TranslateError)
        → IfErr r (IsUnwritten (d.head fields) (d.content gone.m gone.w))
        → IfErr r (Refuses d fields stopped)
    unwritten_other gone (Ok done) h = tt
    unwritten_other gone (Err errors.NoMemory) h = tt
    unwritten_other gone (Err errors.TooLong) h = record { gone = gone; long = h }
    unwritten_other gone (Err other) h = absurd h

    pub refused_other : (error : TranslateError) → StayBack d fields stopped error
        → Refuses d fields stopped error
    refused_other errors.TooLong h = absurd h
    refused_other other h = h

    -- ---- the outcome of a body

    module _ (body : List ℕ) (split : SplitsInto body fields stopped) where
      abbrev pub is_read : (m : Message) → AreRead d fields stopped m → IsRead d body fields
      is_read m h = record { message = m; split = rw h.whole at split; read = h.read }

      module _ (fair : IsFair d) where
        keeps : (gone : AreGone d fields stopped) → Keeps d fields gone.m gone.w
        keeps gone = fair fields split.good gone.m gone.w gone.read.read gone.goes

        pub goes : AreGone d fields stopped → Goes d body fields
        goes gone = record {
          read = is_read gone.m gone.read;
          other = gone.w;
          goes = gone.goes;
          kept = (keeps gone).kept;
        }

        pub can_be_written : (other : List ℕ) → IsOtherOf d fields stopped other → IsWritable other
        can_be_written other is = subst IsWritable (sym is.written.bytes)
            (writable (type_of (d.head fields))
            (carried (d.head fields) ++ d.content is.gone.m is.gone.w) (keeps is.gone).typed)

        pub translation : (other : List ℕ) → IsOtherOf d fields stopped other
            → IsFrame d.kind other (frame_of d.kind other)
            → IsTranslation d body (frame_of d.kind other)
        unfolding goes
        translation other is frame =
            let P : List ℕ → Type 0 =
            λ bytes. SplitsInto bytes (others d fields is.gone.m is.gone.w) None in
            record {
              other = other;
              stands = record {
                fields = fields;
                stands = goes is.gone;
                bytes = is.written.bytes;
                content_fits = is.written.content_fits;
                body_fits = is.written.body_fits;
                again = subst P (sym is.written.bytes) (keeps is.gone).again;
              };
              written = refl;
              frame = frame;
            }

        pub refused : (error : TranslateError) → Refuses d fields stopped error
            → IsRefused d body error
        unfolding goes
        refused errors.NoMemory h = tt
        refused errors.TooLong h =
            record { fields = fields; stands = goes h.gone; long = h.long }
        refused (errors.Faulty fault) h =
            record { fields = fields; stopped = stopped; split = split; read = h }
        refused (errors.Lacking tag) h =
            record { fields = fields; read = is_read h.0 h.1; lack = h.2 }

        -- ---- what a check answers

        pub checked : (r : Result (Unit {0}) TranslateError) → OnOk r (AreGone d fields stopped)
            → OnOk r ((others : List Field) × Goes d body others)
        checked (Ok done) h = (fields, goes h)
        checked (Err error) h = tt

        by_check : (error : TranslateError) → StayBack d fields stopped error
            → IsRefusedByCheck d body error
        by_check errors.NoMemory h = tt
        by_check errors.TooLong h = h
        by_check error h = refused error h

        pub refused_by_check : (r : Result (Unit {0}) TranslateError)
            → IfErr r (StayBack d fields stopped) → IfErr r (IsRefusedByCheck d body)
        refused_by_check (Ok done) h = tt
        refused_by_check (Err error) h = by_check error h
