-- What a load answers: of a disk that is only read, and of an unborn one.
use Rattle.std.proofs.Common.{◌≡◌, inl, inr, ◌⊎◌, ℕ, List, [], ◌∷◌, refl, sym, ◌∙◌, ap, subst, Some}
use Rattle.std.proofs.Common.{IfSome, IfOk, Ok, Err, arith, length-append}
use Rattle.std.specs.Prelude.{Result, OnOk}
use Rattle.std.specs.Option.{ForSome}
use Rattle.std.specs.declared.option.Option.{Option}
use Rattle.outside.specs.Disk.{Only, AreAmong, HasOneImage}
use Rattle.order_meaning.specs.declared.names.Names.{Names}
use Rattle.gate_log.specs.Records.{Stands}
use Rattle.gate_log.specs.Log as log
use Rattle.gate_log.specs.State.{LogState}
use Rattle.gate_log.proofs.Told.{if_some, at_some}
use Rattle.pair_entries.specs.declared.entry.Entry.{Entry}
use Rattle.pair_journal.specs.declared.error.JournalError.{JournalError}
use Rattle.pair_journal.specs.declared.error.JournalError.TheVariants as errors
use Rattle.kept_entries.specs.Days.{dated}
use Rattle.pair_entries.specs.Birth.{birth_bytes, AreNames}
use Rattle.pair_journal.specs.Journal.{JournalOf, Unborn, Born}
use Rattle.pair_journal.specs.State.{JournalState}
use Rattle.pair_journal.specs.Calls.{Loads, BornOrNot, ReadsOnly}
use Rattle.pair_journal.specs.Loading.{Tells, HasNames, HasExtent}
use Rattle.pair_entries.proofs.Names.{birth_size}

-- ---- a disk that is only read

module _ (names : Names) (told now : Option (List ℕ)) (same : now ≡ told) where
  after : (Q : List ℕ → Type 0) (b : List ℕ) → told ≡ Some b → Q b → IfSome now Q
  after Q b e holds = if_some now Q (λ x is.
      let one : b ≡ x = cc (sym e ∙ sym same ∙ is) in subst Q one holds)

  pub judged : (journal : JournalState) (answer : Result JournalState JournalError)
      → Tells told journal.names journal.entries
      → HasNames names journal answer → IfSome told (λ b. Loads names b answer now)
  judged journal (Ok answer) tells has = if_some told _ (λ b e.
      let mine = subst (λ (n : Names). JournalOf b (Born n journal.entries)) has.1
      (at_some told (λ x. JournalOf x (Born journal.names journal.entries)) b e tells) in
      subst (λ (j : JournalState). Loads names b (Ok j) now) (sym has.0) (
        has.1,
        inl mine,
        after (λ x. JournalOf x (Born names journal.entries)) b e mine,
      ))
  judged journal (Err (errors.NamesDiffer kept given)) tells has = if_some told _ (λ b e.
      let mine = subst (λ (n : Names). JournalOf b (Born n journal.entries)) (sym has.0)
      (at_some told (λ x. JournalOf x (Born journal.names journal.entries)) b e tells) in (
        has.1,
        has.2,
        journal.entries,
        mine,
        after (λ x. JournalOf x (Born kept journal.entries)) b e mine,
      ))
  judged journal (Err (errors.Refused at)) tells has = absurd has
  judged journal (Err errors.Full) tells has = absurd has
  judged journal (Err errors.DiskFault) tells has = absurd has
  judged journal (Err errors.NoMemory) tells has = absurd has

  pub stands_loaded : (journal : JournalState) (answer : Result JournalState JournalError)
      → Tells told journal.names journal.entries → HasNames names journal answer
      → IfOk answer (λ j. ForSome now (λ b. JournalOf b (Born j.names j.entries)))
  stands_loaded journal (Ok answer) tells has =
      subst (λ (j : JournalState). ForSome now (λ b. JournalOf b (Born j.names j.entries)))
      (sym has.0) (λ x e. at_some told (λ b. JournalOf b (Born journal.names journal.entries))
      x (sym same ∙ e) tells)
  stands_loaded journal (Err error) tells has = tt

-- a journal that was loaded has the names that were asked for
pub named_so : (names : Names) (journal : JournalState) (answer : Result JournalState JournalError)
    → HasNames names journal answer → IfOk answer (λ j. j.names ≡ names)
named_so names journal (Ok j) has = ap (λ j. j.names) has.0 ∙ has.1
named_so names journal (Err e) has = tt

-- ---- an unborn disk

pub extent_first : (log : LogState) (names : Names)
    → AreNames names → log.count ≡ 1 → log.end ≡ 160 → HasExtent log names []
extent_first log names named count end = record {
  number = count;
  end = omega (arith, end, birth_size names named, length-append (birth_bytes names) []);
}

pub stands_first : (told : Option (List ℕ)) (names : Names) (birth : List ℕ) → AreNames names
    → birth ≡ birth_bytes names → ForSome told (λ b. Stands b (birth ∷ []))
    → ForSome told (λ b. JournalOf b (Born names []))
stands_first told names birth named is stands b e = (
  birth ∷ [],
  stands b e,
  record { written = ap (λ (p : List ℕ). p ∷ []) is; named = named; sound = tt },
)

pub begun : (names : Names) (told read now : Option (List ℕ))
    (answer : Result JournalState JournalError) → IfSome told (λ b. Stands b [])
    → IfOk answer (λ j. (j.names ≡ names) × (j.entries ≡ [])
    × ForSome now (λ b. JournalOf b (Born names []))) → ReadsOnly answer
    → IfSome told (λ b. Loads names b answer now)
begun names told read now (Ok journal) unborn is only = if_some told _ (λ b e. (
  is.0,
  inr (at_some told (λ x. Stands x []) b e unborn, is.1),
  if_some now _ (λ x here. subst (λ (es : List Entry). JournalOf x (Born names es)) (sym is.1)
      (is.2 x here)),
))
begun names told read now (Err (errors.Refused at)) unborn is only = absurd only
begun names told read now (Err (errors.NamesDiffer kept given)) unborn is only = absurd only
begun names told read now (Err errors.Full) unborn is only = absurd only
begun names told read now (Err errors.DiskFault) unborn is only = if_some told _ (λ b e. tt)
begun names told read now (Err errors.NoMemory) unborn is only = if_some told _ (λ b e. tt)

-- what a birth answers, with what stands then
pub begun_ok : (P Q R : JournalState → Type 0) (S : Type 0)
    (answer : Result JournalState JournalError)
    → IfOk answer (λ j. P j × Q j × R j) → OnOk answer S → IfOk answer (λ j. P j × Q j × S)
begun_ok P Q R S (Ok journal) is stands = (is.0, is.1, stands)
begun_ok P Q R S (Err error) is stands = tt

pub begun_stands : (names : Names) (now : Option (List ℕ)) (R : JournalState → Type 0)
    (answer : Result JournalState JournalError)
    → IfOk answer (λ j. (j.names ≡ names) × (j.entries ≡ []) × R j)
    → OnOk answer (ForSome now (λ b. JournalOf b (Born names [])))
    → IfOk answer (λ j. ForSome now (λ b. JournalOf b (Born j.names j.entries)))
begun_stands names now R (Ok journal) is stands = λ x e.
    subst (λ (n : Names). JournalOf x (Born n journal.entries)) (sym is.0)
    (subst (λ (es : List Entry). JournalOf x (Born names es)) (sym is.1) (stands x e))
begun_stands names now R (Err error) is stands = tt

-- ---- images

-- of a disk that was only read
pub images_kept : (names : Names) (told : Option (List ℕ)) (before after : List ℕ → Type 0)
    → AreAmong after before → BornOrNot told before after names
images_kept names told before after among = if_some told _ (λ b e only image left.
    let same = sym (only image (among image left)) in (
      λ unborn. inl (subst (λ x. JournalOf x Unborn) same unborn),
      λ kept entries journal. subst (λ x. JournalOf x (Born kept entries)) same journal,
    ))

-- of one that was read before
pub images_behind : (names : Names) (told read : Option (List ℕ))
    (before between after : List ℕ → Type 0) → log.OnlyRead told read before between
    → BornOrNot read between after names → BornOrNot told before after names
images_behind names told read before between after only_read born = if_some told _ (λ b e only.
    at_some read (λ x. Only x between → (image : List ℕ) → after image
    → ((JournalOf x Unborn → JournalOf image Unborn ⊎ JournalOf image (Born names []))
    × ((kept : Names) (entries : List Entry)
    → JournalOf x (Born kept entries) → JournalOf image (Born kept entries))))
    b (only_read.same ∙ e) born (λ image left. only image (only_read.images image left)))

-- of one that got a birth record
pub images_born : (names : Names) (told : Option (List ℕ)) (before after : List ℕ → Type 0)
    → AreNames names → log.BornOrNot told before after (birth_bytes names)
    → BornOrNot told before after names
images_born names told before after named born = if_some told _ (λ b e only image left.
    let h = at_some
    told (λ bytes. Only bytes before → (ps : List (List ℕ)) → Stands bytes ps → (i : List ℕ)
    → after i → Stands i ps ⊎ ((ps ≡ []) × Stands i (birth_bytes names ∷ []))) b e born only in (
      λ unborn. elim (h [] unborn image left) [
        | inl stands ↦ inl stands
        | inr now ↦ inr
            (birth_bytes names ∷ [], now.1, record { written = refl; named = named; sound = tt })
      ],
      λ kept entries journal. elim (h journal.0 journal.1 image left) [
        | inl stands ↦ (journal.0, stands, journal.2)
        | inr now ↦ absurd
            (some (birth_bytes kept) (dated 0 entries) (sym now.0 ∙ journal.2.written))
      ],
    ))
  where
    some : (x : List ℕ) (xs : List (List ℕ)) → [] ≡ x ∷ xs → ⊥
    some x xs is = absurd (cc is)

-- ---- a disk that was read before, and then loaded

pub one_still : (told read : Option (List ℕ)) (before between : List ℕ → Type 0)
    → log.OnlyRead told read before between → HasOneImage told before → HasOneImage read between
one_still told read before between only_read one = if_some read _ (λ b e image left.
    at_some told (λ x. Only x before) b (sym only_read.same ∙ e) one image
    (only_read.images image left))

pub on_ok_one : {T E : Type 0} (told read : Option (List ℕ)) (before between : List ℕ → Type 0)
    (Q : Type 0) (r : Result T E) → log.OnlyRead told read before between
    → OnOk r (HasOneImage read between → Q) → OnOk r (HasOneImage told before → Q)
on_ok_one told read before between Q (Ok x) only_read one =
    λ had. one (one_still told read before between only_read had)
on_ok_one told read before between Q (Err e) only_read one = tt
