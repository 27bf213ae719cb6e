-- Lines that are printed one after another.
use Rattle.std.proofs.Common.{◌≡◌, ◌∙◌, ℕ, List, [], ◌++◌, length, sym, ap, subst, append_assoc}
use Rattle.std.proofs.Common.{append-nil, arith}
use Rattle.std.specs.Prelude.{Result, Ok, Err, IsErr}
use Rattle.std.specs.declared.option.Option.{Option}
use Rattle.std.specs.Io.KnownBytes.{Appends}
use Rattle.std.proofs.KnownBytes.{Appends-nil, Appends-trans}
use Rattle.std.proofs.lemmas.List.{take_all}
use Rattle.outside.specs.Bytes.{AppendsFront, PutAppends}
use Rattle.outside.proofs.Fronts.{appended_front, front_on}
use Rattle.replay_lines.specs.Prints.{Prints}

-- Of the whole some was put, this waits, and the rest is still to come.
pub record SoFar (old now : Option (List ℕ)) (text rest whole : List ℕ) : Type 0 where
  pub put : List ℕ
  pub appends : Appends old now put
  pub is : (put ++ text) ++ rest ≡ whole

-- nothing was put
pub begun : (old : Option (List ℕ)) (text rest whole : List ℕ) → text ++ rest ≡ whole
    → SoFar old old text rest whole
begun old text rest whole is = record { put = []; appends = Appends-nil old; is = is }

-- it was put, or what is put is a front of the whole
module _ (old mid new : Option (List ℕ)) (before rest whole line : List ℕ)
    (so_far : SoFar old mid before (line ++ rest) whole) where
  joined : (put after : List ℕ) → put ++ after ≡ before ++ line
      → ((so_far.put ++ put) ++ after) ++ rest ≡ whole
  joined put after is =
      ap (λ (l : List ℕ). l ++ rest) (append_assoc so_far.put put after
      ∙ ap (λ (l : List ℕ). so_far.put ++ l) is ∙ sym (append_assoc so_far.put before line))
      ∙ append_assoc (so_far.put ++ before) line rest ∙ so_far.is

  pub printed : (after : List ℕ)
      → (put : List ℕ) × Appends mid new put × (put ++ after ≡ before ++ line)
      → SoFar old new after rest whole
  printed after (put, appends, is) = record {
    put = so_far.put ++ put;
    appends = Appends-trans old mid new so_far.put put so_far.appends appends;
    is = joined put after is;
  }

  pub broken : AppendsFront mid new (before ++ line) → AppendsFront old new whole
  broken front = front_on old new (so_far.put ++ (before ++ line)) rest whole
      (sym (ap (λ (l : List ℕ). l ++ rest) (sym (append_assoc so_far.put before line))
      ∙ append_assoc (so_far.put ++ before) line rest ∙ so_far.is))
      (appended_front old mid new so_far.put (before ++ line) so_far.appends front)

-- no more was put, for want of memory
pub stopped : (old now : Option (List ℕ)) (text rest whole : List ℕ)
    → SoFar old now text rest whole → AppendsFront old now whole
stopped old now text rest whole so_far = front_on old now so_far.put (text ++ rest) whole
    (sym (sym (append_assoc so_far.put text rest) ∙ so_far.is)) (
      length so_far.put,
      subst (λ (l : List ℕ). Appends old now l)
          (sym (take_all (length so_far.put) so_far.put (omega arith))) so_far.appends,
    )

-- what waits is put, with the rest behind it
pub last_put : {T E : Type 0} (old mid new : Option (List ℕ)) (before text rest whole : List ℕ)
    → SoFar old mid before rest whole → text ≡ before ++ rest → (result : Result T E)
    → PutAppends mid new result text → PutAppends old new result whole
last_put old mid new before text rest whole so_far is (Ok value) put =
    subst (λ (l : List ℕ). Appends old new l)
    (ap (λ (l : List ℕ). so_far.put ++ l) is ∙ sym (append_assoc so_far.put before rest)
    ∙ so_far.is) (Appends-trans old mid new so_far.put text so_far.appends put)
last_put old mid new before text rest whole so_far is (Err error) put =
    subst (λ (l : List ℕ). AppendsFront old new l)
    (ap (λ (l : List ℕ). so_far.put ++ l) is ∙ sym (append_assoc so_far.put before rest)
    ∙ so_far.is) (appended_front old mid new so_far.put text so_far.appends put)

-- a front was put, where a call failed
pub front_prints : {T E : Type 0} (told : Result T E) → IsErr told → (old new : Option (List ℕ))
    (before after lines : List ℕ) → AppendsFront old new (before ++ lines)
    → Prints old new before after told lines
front_prints (Ok value) failed old new before after lines front = absurd (cc failed)
front_prints (Err error) failed old new before after lines front = front

pub front_put : {T E : Type 0} (told : Result T E) → IsErr told → (old new : Option (List ℕ))
    (whole : List ℕ) → AppendsFront old new whole → PutAppends old new told whole
front_put (Ok value) failed old new whole front = absurd (cc failed)
front_put (Err error) failed old new whole front = front

-- the same rest, in other words
pub with_rest : (old now : Option (List ℕ)) (text rest more whole : List ℕ)
    → SoFar old now text rest whole → rest ≡ more → SoFar old now text more whole
with_rest old now text rest more whole so_far is =
    subst (λ (l : List ℕ). SoFar old now text l whole) is so_far

-- a life begins
pub life_begins : (old : Option (List ℕ)) (text head client venue end : List ℕ) → text ≡ head
    → SoFar old old text (client ++ (venue ++ end)) (head ++ client ++ venue ++ end)
life_begins old text head client venue end is =
    begun old text (client ++ (venue ++ end)) (head ++ client ++ venue ++ end)
    (ap (λ (l : List ℕ). l ++ (client ++ (venue ++ end))) is
    ∙ sym (append_assoc (head ++ client) venue end ∙ append_assoc head client (venue ++ end)))

-- nothing is left
pub all_printed : (old new : Option (List ℕ)) (before after lines : List ℕ)
    → SoFar old new after [] (before ++ lines)
    → (put : List ℕ) × Appends old new put × (put ++ after ≡ before ++ lines)
all_printed old new before after lines so_far = (
  so_far.put,
  so_far.appends,
  sym (append-nil (so_far.put ++ after)) ∙ so_far.is,
)
