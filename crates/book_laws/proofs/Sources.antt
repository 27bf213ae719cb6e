-- What a refusal names by a number: a message that went on, by its out.
use Rattle.std.proofs.Common.{◌≡◌, ℕ, ◌==◌, ◌&&◌, ◌||◌, not, Bool, true, false, List, [], ◌∷◌}
use Rattle.std.proofs.Common.{Option, Some, None, refl, sym, ap, subst, ◌∙◌, arith, inl, inr}
use Rattle.std.proofs.Common.{if◌then◌else◌}
use Rattle.std.specs.Prelude.{cond, is_some}
use Rattle.std.specs.List.{list_all, list_any}
use Rattle.std.proofs.lemmas.Bool.{eqb-true}
use Rattle.std.proofs.lemmas.Bool.Decides.{nat_tests}
use Rattle.message_tables.specs.Tables.{Message}
use Rattle.order_meaning.specs.declared.Side.{Side}
use Rattle.order_meaning.specs.declared.Side.TheVariants.{Client, Venue}
use Rattle.order_meaning.specs.declared.names.Names.{Names}
use Rattle.frame_grammar.specs.Frame.{IsBody}
use Rattle.sound_laws.proofs.Each.{not_true}
use Rattle.pair_entries.specs.declared.entry.Took.{Took}
use Rattle.pair_entries.specs.declared.entry.Out.{Out}
use Rattle.pair_entries.specs.declared.entry.Entry.{Entry}
use Rattle.kept_entries.specs.Given.{given as given_out, has_letter, is_source}
use Rattle.kept_entries.specs.Given.{letter_of, letters_to, numbered, source_in, source_of}
use Rattle.kept_entries.specs.Numbers.{is_side, outs_to}
use Rattle.event_decisions.specs.Body.{type_of}
use Rattle.event_decisions.specs.Laws.{AreAdmin}
use Rattle.message_answers.specs.Answer.{other}
use Rattle.message_answers.proofs.KnownNumbers.{given_next, given_of, source_at}
use Rattle.message_answers.proofs.Letters.{letter_to}
use Rattle.message_answers.proofs.ReadShapes.{said_type}
use Rattle.message_answers.proofs.Typed.{typed}
use Rattle.life_laws.specs.Receiver.{IsSent, is_administrative}
use Rattle.book_laws.specs.Heard.{heard_out, is_among, is_reject, sort_of}
use Rattle.book_laws.specs.Learned.{types_to}
use Rattle.book_laws.proofs.EntryFollows.{type_to}
use Rattle.book_laws.specs.Keeps.{In}
use Rattle.book_laws.proofs.Made.{Going, Made, MadeNone, MadeOff, MadeOn}
use Rattle.book_laws.proofs.Made.{MadeRepeat, MadeRest, MadeTold}
use Rattle.book_laws.proofs.Sides.{far_side, in_outs, own_side}

-- ---- letters

-- a letter that is translated to a side is of no Reject, and of no message of a session
letter_passes : (side : Side) (letter : ℕ) (read : Bool)
    → list_any (λ l. letter == l) (letters_to side) ≡ true
    → is_reject (sort_of (letter ∷ []) read) ≡ false
letter_passes side letter read is = not_true _
    (letter_to side (λ l. not (is_reject (sort_of (l ∷ []) read))) letter (all side) is)
  where
    all : (side : Side)
        → list_all (λ l. not (is_reject (sort_of (l ∷ []) read))) (letters_to side) ≡ true
    all Client = refl
    all Venue = refl

letter_apart : (side : Side) (letter : ℕ) → list_any (λ l. letter == l) (letters_to side) ≡ true
    → is_administrative (letter ∷ []) ≡ false
letter_apart side letter is =
    not_true _ (letter_to side (λ l. not (is_administrative (l ∷ []))) letter (all side) is)
  where
    all : (side : Side) → list_all (λ l. not (is_administrative (l ∷ []))) (letters_to side) ≡ true
    all Client = refl
    all Venue = refl

one_letter : (msg_type : List ℕ) (letter : ℕ) → letter_of msg_type ≡ Some letter
    → msg_type ≡ letter ∷ []
one_letter [] letter is = absurd (cc is)
one_letter (l ∷ []) letter is = let same : l ≡ letter = cc is in ap (λ (x : ℕ). x ∷ []) same
one_letter (l ∷ m ∷ more) letter is = absurd (cc is)

-- ---- an out by its number

-- the out of a number is one of these, and has it
pub record IsNumbered (number : ℕ) (outs : List Out) (out : Out) : Type 0 where
  pub among : In out outs
  pub number_is : out.number ≡ number

abbrev numbered_by : Out → Option Out → Bool → Option Out
numbered_by out rest same = elim same [ true ↦ Some out | false ↦ rest ]

numbered_is : (number : ℕ) (outs : List Out) (out : Out) → numbered number outs ≡ Some out
    → IsNumbered number outs out
numbered_is number [] out is = absurd (cc is)
numbered_is number (x ∷ outs) out is = by (x.number == number) refl is
    (λ later. numbered_is number outs out later)
  where
    by : (b : Bool) → (x.number == number) ≡ b → numbered_by x (numbered number outs) b ≡ Some out
        → (numbered number outs ≡ Some out → IsNumbered number outs out)
        → IsNumbered number (x ∷ outs) out
    by true same is later =
        let one : x ≡ out = cc is in
        record {
          among = inl (sym one);
          number_is = ap (λ (o : Out). o.number) (sym one) ∙ eqb-true x.number number same;
        }
    by false same is later =
        let l = later is in record { among = inr l.among; number_is = l.number_is }

numbered_some : (number : ℕ) (outs : List Out) (out : Out) → In out outs → out.number ≡ number
    → numbered number outs ≡ None → ⊥
numbered_some number [] out i same none = i
numbered_some number (x ∷ outs) out i same none = by (x.number == number) refl none i
    (λ j later. numbered_some number outs out j same later)
  where
    by : (b : Bool) → (x.number == number) ≡ b → numbered_by x (numbered number outs) b ≡ None
        → In out (x ∷ outs) → (In out outs → numbered number outs ≡ None → ⊥) → ⊥
    by true test none i later = absurd (cc none)
    by false test none (inl one) later =
        let number_is : x.number ≡ number = ap (λ (o : Out). o.number) (sym one) ∙ same in
        let wrong : ⊥ = grind (arith, nat_tests) in wrong
    by false test none (inr j) later = later j none

-- ---- the message that an out translates

pub record IsSource (e : Entry) (out : Out) (at : ℕ × ℕ) : Type 0 where
  pub took : Took
  pub is : e.took ≡ Some took
  pub typed : out.msg_type ≡ at.1 ∷ []
  pub number : took.number ≡ at.0
  pub source : is_source took out.side at.1 ≡ true

pub source_is : (e : Entry) (out : Out) (at : ℕ × ℕ)
    → source_in (record { entry = e; out = out }) ≡ Some at → IsSource e out at
source_is e out at is = by e.took (letter_of out.msg_type) refl refl is
  where
    by_test : (took : Took) (letter : ℕ) (b : Bool) → e.took ≡ Some took
        → letter_of out.msg_type ≡ Some letter → is_source took out.side letter ≡ b
        → (if b then Some (took.number, letter) else None) ≡ Some at → IsSource e out at
    by_test took letter false is_took lettered test is = absurd (cc is)
    by_test took letter true is_took lettered test is =
        let same : (took.number, letter) ≡ at = cc is in
        let letter_is : letter ≡ at.1 = ap (λ (x : ℕ × ℕ). x.1) same in
        record {
          took = took;
          is = is_took;
          typed = one_letter out.msg_type letter lettered ∙ ap (λ (l : ℕ). l ∷ []) letter_is;
          number = ap (λ (x : ℕ × ℕ). x.0) same;
          source = ap (is_source took out.side) (sym letter_is) ∙ test;
        }

    by : (took : Option Took) (letter : Option ℕ) → e.took ≡ took
        → letter_of out.msg_type ≡ letter → elim took [
          | None ↦ None
          | Some t ↦ elim letter [
            | None ↦ None
            | Some l ↦ if is_source t out.side l then Some (t.number, l) else None
          ]
        ] ≡ Some at → IsSource e out at
    by None letter a b is = absurd (cc is)
    by (Some took) None a b is = absurd (cc is)
    by (Some took) (Some letter) a b is =
        by_test took letter (is_source took out.side letter) a b refl is

pub parts : (a b c : Bool) → (a && b && c) ≡ true → (a ≡ true) × (b ≡ true) × (c ≡ true)
parts true true true is = (refl, refl, refl)
parts a b c is = absurd (cc is)

pub same_took : (t : Option Took) (a b : Took) → t ≡ Some a → t ≡ Some b → a ≡ b
same_took t a b x y = cc (x, y)

-- the only out of an entry
pub only_out : (e : Entry) (out o : Out) → e.outs ≡ out ∷ [] → In o e.outs → o ≡ out
only_out e out o is i = by (subst (In o) is i)
  where
    by : In o (out ∷ []) → o ≡ out
    by (inl same) = same
    by (inr none) = absurd none

-- it stands among those to its side
pub own_among : (e : Entry) (out : Out) → e.outs ≡ out ∷ [] → (side : Side) → out.side ≡ side
    → In out (outs_to side e.outs)
own_among e out is side to =
    subst (λ (l : List Out). In out (outs_to side l)) (sym is)
    (subst (λ (b : Bool). In out (cond b (out ∷ []) []))
    (sym (ap (is_side side) to ∙ own_side side)) (inl refl))

none_out : (e : Entry) (o : Out) → e.outs ≡ [] → In o e.outs → ⊥
none_out e o is i = subst (In o) is i

pub admin_out : (outs : List Out) (o : Out) → AreAdmin outs → In o outs → o.admin ≡ true
admin_out [] o are i = absurd i
admin_out (x ∷ outs) o are (inl same) = ap (λ (y : Out). y.admin) same ∙ are.0
admin_out (x ∷ outs) o are (inr i) = admin_out outs o are.1 i

-- what an out of an entry translates went on
pub record WentOn (e : Entry) (out : Out) (at : ℕ × ℕ) : Type 0 where
  pub past : List Entry
  pub took : Took
  pub m : Message
  pub going : Going past e took out m
  pub number : took.number ≡ at.0
  pub letter : out.msg_type ≡ at.1 ∷ []

module _ (names : Names) (past : List Entry) (e : Entry) (out : Out) (at : ℕ × ℕ)
    (among : In out e.outs) (sent : IsSent names out.side out) (s : IsSource e out at) where
  tests : (not (is_side out.side s.took.side) ≡ true)
      × (list_any (λ b. at.1 == b) (letters_to out.side) ≡ true)
      × (has_letter at.1 s.took.raw ≡ true)
  tests = parts (not (is_side out.side s.took.side))
      (list_any (λ b. at.1 == b) (letters_to out.side)) (has_letter at.1 s.took.raw) s.source

  pub made_source : Made past e → WentOn e out at
  made_source (MadeOn took o m going) =
      let same : out ≡ o = only_out e o out going.gives.outs among in
      let one : s.took ≡ took = same_took e.took s.took took s.is going.taken.is in
      record {
        past = past;
        took = took;
        m = m;
        going = subst (λ (x : Out). Going past e took x m) (sym same) going;
        number = ap (λ (t : Took). t.number) (sym one) ∙ s.number;
        letter = s.typed;
      }
  made_source (MadeOff took o taken gives refuse) =
      let same : out ≡ o = only_out e o out gives.outs among in
      let one : s.took ≡ took = same_took e.took s.took took s.is taken.is in
      let to : out.side ≡ s.took.side = ap (λ (x : Out). x.side) same ∙ gives.to
      ∙ ap (λ (t : Took). t.side) (sym one) in
      absurd (cc (
        ap not (ap (λ (x : Side). is_side x s.took.side) to ∙ own_side s.took.side),
        tests.0,
      ))
  made_source (MadeTold took o taken gives told) =
      let same : out ≡ o = only_out e o out gives.outs among in
      let reject : is_reject (heard_out out).sort ≡ true =
      ap (λ (x : Out). is_reject (heard_out x).sort) same ∙ told.refuses.reject in
      let typed : is_reject (heard_out out).sort
      ≡ is_reject (sort_of (at.1 ∷ []) (is_some (heard_out out).said)) =
      ap (λ (t : List ℕ). is_reject (sort_of t (is_some (heard_out out).said))) s.typed in
      absurd (cc (
        reject,
        typed,
        letter_passes out.side at.1 (is_some (heard_out out).said) tests.1,
      ))
  made_source (MadeRepeat took m taken outs read side resend) =
      absurd (none_out e out outs among)
  made_source (MadeNone took m taken outs read none) = absurd (none_out e out outs among)
  made_source (MadeRest session admins) =
      let admin : out.admin ≡ true = admin_out e.outs out admins among in
      let typed = ap is_administrative s.typed in
      absurd (cc (sent.admin, admin, typed, letter_apart out.side at.1 tests.1))

-- ---- what is known of each entry

-- each entry is made, behind some before it, and each of its outs can be sent
pub record IsKnown (names : Names) (e : Entry) : Type 0 where
  pub past : List Entry
  pub made : Made past e
  pub sent : (side : Side) (out : Out) → In out (outs_to side e.outs) → IsSent names side out

abbrev pub AreKnown : Names → List Entry → Type 0
AreKnown names entries = (e : Entry) → In e entries → IsKnown names e

-- an out stands among those to its side
pub own_out : (outs : List Out) (out : Out) → In out outs → In out (outs_to out.side outs)
own_out [] out i = absurd i
own_out (x ∷ outs) out (inl same) =
    subst (λ (b : Bool). In out (cond b (x ∷ outs_to out.side outs) (outs_to out.side outs)))
    (sym (ap (λ (o : Out). is_side out.side o.side) (sym same) ∙ own_side out.side)) (inl same)
own_out (x ∷ outs) out (inr i) = by (is_side out.side x.side) (own_out outs out i)
  where
    by : (b : Bool) → In out (outs_to out.side outs)
        → In out (cond b (x ∷ outs_to out.side outs) (outs_to out.side outs))
    by true j = inr j
    by false j = j

-- ---- by number

-- a message of the other side went on under a number
pub record WentUnder (names : Names) (side : Side) (number : ℕ) (at : ℕ × ℕ) (entries : List Entry)
    : Type 0 where
  pub e : Entry
  pub among : In e entries
  pub out : Out
  pub to : out.side ≡ side
  pub out_number : out.number ≡ number
  pub went : WentOn e out at

more_went : {names : Names} {side : Side} {number : ℕ} {at : ℕ × ℕ} (x : Entry)
    (entries : List Entry) → WentUnder names side number at entries
    → WentUnder names side number at (x ∷ entries)
more_went x entries w = record {
  e = w.e;
  among = inr w.among;
  out = w.out;
  to = w.to;
  out_number = w.out_number;
  went = w.went;
}

module _ (names : Names) (side : Side) (number : ℕ) where
  pub source_went : (entries : List Entry) (at : ℕ × ℕ) → AreKnown names entries
      → source_of side number entries ≡ Some at → WentUnder names side number at entries
  source_went [] at known is = absurd (cc is)
  source_went (x ∷ entries) at known is = by (numbered number (outs_to side x.outs)) refl is
      (λ later. source_went entries at (λ e i. known e (inr i)) later)
    where
      by : (o : Option Out) → numbered number (outs_to side x.outs) ≡ o
          → source_at (given_next (given_out side number entries) (given_of x o)) ≡ Some at
          → (source_of side number entries ≡ Some at → WentUnder names side number at entries)
          → WentUnder names side number at (x ∷ entries)
      by None none is later = more_went x entries (later is)
      by (Some out) found is later =
          let n = numbered_is number (outs_to side x.outs) out found in
          let own = in_outs side x.outs out n.among in
          let k = known x (inl refl) in
          record {
            e = x;
            among = inl refl;
            out = out;
            to = own.1;
            out_number = n.number_is;
            went = made_source names k.past x out at own.0
                (subst (λ (s : Side). IsSent names s out) (sym own.1) (k.sent side out n.among))
                (source_is x out at is) k.made;
          }

-- ---- and the other way round

-- the letters that are translated to a side are of the types that it takes
letters : (side : Side) (l : ℕ) → is_among (types_to side) (l ∷ []) ≡ true
    → list_any (λ b. l == b) (letters_to side) ≡ true
letters Client l is = by (l == 56) (l == 57) is
  where
    by : (a b : Bool) → ((a && true) || ((b && true) || false)) ≡ true → (a || (b || false)) ≡ true
    by true b is = refl
    by false true is = refl
    by false false is = absurd (cc is)
letters Venue l is = by (l == 68) (l == 70) (l == 71) (l == 72) is
  where
    by : (a b c d : Bool)
        → ((a && true) || ((b && true) || ((c && true) || ((d && true) || false)))) ≡ true
        → (a || (b || (c || (d || false)))) ≡ true
    by true b c d is = refl
    by false true c d is = refl
    by false false true d is = refl
    by false false false true is = refl
    by false false false false is = absurd (cc is)

module _ (past : List Entry) (e : Entry) (took : Took) (out : Out) (m : Message)
    (going : Going past e took out m) where
  pub listed : list_any (λ b. m.letter == b) (letters_to (other took.side)) ≡ true
  listed = letters (other took.side) m.letter
      (type_to took.side (m.letter ∷ []) (is_some (heard_out out).said)
      (ap (λ (t : List ℕ). sort_of t (is_some (heard_out out).said)) (sym going.typed)
      ∙ going.on.out_sort))

module _ (past : List Entry) (e : Entry) (took : Took) (out : Out) (m : Message)
    (going : Going past e took out m) (body : IsBody took.raw) where
  lettered : type_of took.raw ≡ m.letter ∷ []
  lettered = said_type took.side took.raw m going.read.reads

  has : has_letter m.letter took.raw ≡ true
  has = typed m.letter took.raw body.writable.begins lettered

  pub is_source_of : is_source took out.side m.letter ≡ true
  is_source_of = ap (λ (s : Side). is_source took s m.letter) going.gives.to
      ∙ ap (λ (b : Bool). not b && list_any (λ x. m.letter == x) (letters_to (other took.side))
      && has_letter m.letter took.raw) (far_side took.side)
      ∙ ap (λ (b : Bool). not false && b && has_letter m.letter took.raw)
      (listed past e took out m going)
      ∙ ap (λ (b : Bool). not false && true && b) has

  -- WHAT WENT ON IS FOUND by its out.
  pub sourced : source_in (record { entry = e; out = out }) ≡ Some (took.number, m.letter)
  sourced = ap (λ (t : Option Took). elim t [
    | None ↦ None
    | Some x ↦ elim (letter_of out.msg_type) [
      | None ↦ None
      | Some l ↦ if is_source x out.side l then Some (x.number, l) else None
    ]
  ]) going.taken.is
      ∙ ap (λ (t : List ℕ). elim (letter_of t) [
        | None ↦ None
        | Some l ↦ if is_source took out.side l then Some (took.number, l) else None
      ]) going.typed
      ∙ ap (λ (b : Bool). if b then Some (took.number, m.letter) else None) is_source_of

  -- a number that only this entry gave is found
  pub found : (side : Side) → out.side ≡ side → (entries : List Entry) → In e entries
      → ((x : Entry) → In x entries → (o : Out) → In o (outs_to side x.outs)
      → o.number ≡ out.number → (x ≡ e) × (o ≡ out))
      → source_of side out.number entries ≡ Some (took.number, m.letter)
  found side to [] i only = absurd i
  found side to (x ∷ entries) i only =
      by (numbered out.number (outs_to side x.outs)) refl i
      (λ j. found side to entries j (λ y k o l same. only y (inr k) o l same))
    where
      by : (o : Option Out) → numbered out.number (outs_to side x.outs) ≡ o → In e (x ∷ entries)
          → (In e entries → source_of side out.number entries ≡ Some (took.number, m.letter))
          → source_at (given_next (given_out side out.number entries) (given_of x o))
          ≡ Some (took.number, m.letter)
      by None none (inl same) later = absurd (numbered_some out.number (outs_to side x.outs) out
          (subst (λ (y : Entry). In out (outs_to side y.outs)) same
          (own_among e out going.gives.outs side to)) refl none)
      by None none (inr j) later = later j
      by (Some o) is j later =
          let n = numbered_is out.number (outs_to side x.outs) o is in
          let both = only x (inl refl) o n.among n.number_is in
          (λ k. source_in (record { entry = both.0 k; out = both.1 k })) ∙ sourced
