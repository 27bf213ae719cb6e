-- A body has one outcome: that of the fields that it is split into, whatever the direction.
use Rattle.std.proofs.Common.{◌≡◌, ◌≤◌, ◌<◌, ℕ, List, length, Option, None, Result, Ok, Err, Bool}
use Rattle.std.proofs.Common.{true, false, refl, sym, ap, ◌∙◌, subst, arith, nat_le}
use Rattle.std.specs.Prelude.{◌&&◌}
use Rattle.std.proofs.lemmas.Bool.Decides.{nat_tests}
use Rattle.frame_grammar.specs.Frame.{frame_of}
use Rattle.field_groups.specs.declared.fault.SplitFault.{SplitFault}
use Rattle.field_groups.specs.Field.{Field, body_of}
use Rattle.field_groups.specs.Fields.{SplitsInto}
use Rattle.field_groups.proofs.Determined.{determined}
use Rattle.message_tables.specs.Tables.{Message}
use Rattle.order_meaning.specs.declared.fault.Fault.{Fault}
use Rattle.translation.specs.declared.error.TranslateError.{TranslateError}
use Rattle.translation.specs.declared.error.TranslateError.TheVariants as errors
use Rattle.translation.specs.Bodies.{Direction, HasOneOutcome, IsOutcome, written, IsRead, others}
use Rattle.translation.specs.Header.{type_of, with_content}

-- ---- the outcome of fields, by what they are read as

abbrev pub fits : List Field → List Field → Bool
fits head content =
    nat_le (length (body_of content)) 7936
    && nat_le (length (body_of (with_content head content))) 8192

pub fit : (head content : List Field) → length (body_of content) ≤ 7936
    → length (body_of (with_content head content)) ≤ 8192 → fits head content ≡ true
fit head content short body = grind (arith, nat_tests)

too_long : (head content : List Field)
    → (length (body_of content) ≤ 7936 → 8192 < length (body_of (with_content head content)))
    → fits head content ≡ false
too_long head content long = by (nat_le (length (body_of content)) 7936)
    (nat_le (length (body_of (with_content head content))) 8192) refl refl
  where
    by : (short body : Bool) → nat_le (length (body_of content)) 7936 ≡ short
        → nat_le (length (body_of (with_content head content))) 8192 ≡ body
        → (short && body) ≡ false
    by true true e f =
        let more = long (grind (arith, nat_tests)) in absurd (grind (arith, nat_tests))
    by true false e f = refl
    by false body e f = refl

module _ (d : Direction) where
  abbrev framed_if : Bool → List Field → Result (List ℕ) TranslateError
  framed_if true fields = Ok (frame_of d.kind (body_of fields))
  framed_if false fields = Err errors.TooLong

  abbrev of_gone : List Field → Message → Result Message ℕ → Result (List ℕ) TranslateError
  of_gone fields m (Ok w) = framed_if (fits (d.head fields) (d.content m w))
      (with_content (d.head fields) (d.content m w))
  of_gone fields m (Err tag) = Err (errors.Lacking tag)

  abbrev outcome_of : List Field → Result Message Fault → Result (List ℕ) TranslateError
  outcome_of fields (Ok m) = of_gone fields m (d.goes m)
  outcome_of fields (Err fault) = Err (errors.Faulty fault)

  abbrev pub outcome : List Field → Option SplitFault → Result (List ℕ) TranslateError
  outcome fields stopped = outcome_of fields (d.source (type_of fields) fields stopped)

  module _ (body : List ℕ) where
    -- the outcome of a body that goes, by whether its translation fits
    pub gone_is : (fields : List Field) (r : IsRead d body fields) (w : Message)
        → d.goes r.message ≡ Ok w → (b : Bool) → fits (d.head fields) (d.content r.message w) ≡ b
        → framed_if b (others d fields r.message w) ≡ outcome fields None
    gone_is fields r w goes b e =
        sym (ap (outcome_of fields) r.read ∙ ap (of_gone fields r.message) goes
        ∙ ap (λ (x : Bool). framed_if x (others d fields r.message w)) e)

    -- an outcome that is that of the fields of a body
    pub record IsToldBy (told : Result (List ℕ) TranslateError) : Type 0 where
      pub fields : List Field
      pub stopped : Option SplitFault
      pub split : SplitsInto body fields stopped
      pub is : told ≡ outcome fields stopped

    pub one_told : (a b : Result (List ℕ) TranslateError) → IsToldBy a → IsToldBy b → a ≡ b
    one_told a b r q =
        let same = determined body r.fields q.fields r.stopped q.stopped r.split q.split in
        r.is ∙ (λ i. outcome (same.0 i) (same.1 i)) ∙ sym q.is

    pub is_told : (told : Result (List ℕ) TranslateError) → IsOutcome d body told → IsToldBy told
    is_told (Ok text) s =
        let u = s.stands in
        let whole = subst (λ (bytes : List ℕ). length bytes ≤ 8192) u.bytes u.body_fits in
        record {
          fields = u.fields;
          stopped = None;
          split = u.stands.read.split;
          is = ap (λ (t : List ℕ). Ok t) (s.written ∙ ap (frame_of d.kind) u.bytes)
              ∙ gone_is u.fields u.stands.read u.stands.other u.stands.goes true
              (fit (d.head u.fields) (written d body u.fields u.stands) u.content_fits whole);
        }
    is_told (Err (errors.Faulty fault)) f = record {
      fields = f.fields;
      stopped = f.stopped;
      split = f.split;
      is = sym (ap (outcome_of f.fields) f.read);
    }
    is_told (Err (errors.Lacking tag)) l = record {
      fields = l.fields;
      stopped = None;
      split = l.read.split;
      is = sym (ap (outcome_of l.fields) l.read.read ∙ ap (of_gone l.fields l.read.message) l.lack);
    }
    is_told (Err errors.TooLong) t = record {
      fields = t.fields;
      stopped = None;
      split = t.stands.read.split;
      is = gone_is t.fields t.stands.read t.stands.other t.stands.goes false
          (too_long (d.head t.fields) (written d body t.fields t.stands) t.long);
    }
    is_told (Err errors.NoMemory) t = absurd t

  -- A BODY HAS ONE OUTCOME.
  pub one_outcome : HasOneOutcome d
  one_outcome body a b s t = one_told body a b (is_told body a s) (is_told body b t)
