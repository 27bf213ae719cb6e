-- How an unborn disk gets its birth record.
use Rattle.std.proofs.Common.{◌≡◌, inl, inr, ℕ, ◌<◌, ◌≤◌, List, [], ◌∷◌, ◌++◌, length, drop, refl}
use Rattle.std.proofs.Common.{sym, ◌∙◌, ap, subst, arith, length-drop, length-append, Some, None}
use Rattle.std.proofs.Common.{is_some, IfSome, ◌+◌, false, Ok, Err, IfOk, OnOk}
use Rattle.std.specs.Prelude.{Result}
use Rattle.std.specs.declared.option.Option.{Option}
use Rattle.std.specs.Option.{ForSome, option_map}
use Rattle.outside.specs.Disk.{write, Torn, AreAmong, Only, HasOneImage}
use Rattle.gate_log.specs.declared.TheConstants.{BIRTH_LEN}
use Rattle.gate_log.specs.Records.{IsShut, IsUnborn, Stands}
use Rattle.gate_log.specs.Commit.{CommitsOrNot, Commits, WithOrWithout}
use Rattle.gate_log.specs.Steps.{EndsAt, Ends, IsTorn}
use Rattle.gate_log.specs.declared.error.LogError.{LogError}
use Rattle.gate_log.specs.declared.error.LogError.TheVariants as errors
use Rattle.gate_log.specs.State.{LogState}
use Rattle.gate_log.specs.Log.{StaysUnborn, BornOrNot, Loads}
use Rattle.gate_log.proofs.Blocks.{Stands-unique}
use Rattle.gate_log.proofs.CommitSteps.{ends}
use Rattle.gate_log.proofs.Told.{if_some, at_some, to_some}

pub unborn_shut : (b : List ℕ) → IsUnborn b → 1 < length b → IsShut b
unborn_shut b (inl short) long = absurd (omega (arith, short, long))
unborn_shut b (inr shut) long = shut.1

-- ---- the first gate is shut

module _ (told : Option (List ℕ))
    (len : ℕ) (unborn : ForSome told (λ b. IsUnborn b × (len ≡ length b))) where
  pub stays_unborn : len ≤ 1
      → (im0 im1 : List ℕ → Type 0) → IsTorn 0 1 im0 im1 → StaysUnborn told im0 im1
  stays_unborn short im0 im1 follows = if_some told _ (λ b e only image left.
      let from = follows.each image left in
      let torn = subst (λ d. Torn 0 1 d image) (only from.0 from.1) from.2 in
      let size = (unborn b e).1 in
      inl (omega (arith, torn.no_longer, size, short)))

  pub shut_written : len ≤ 1 → (told1 : Option (List ℕ))
      → told1 ≡ option_map (write 0 (0 ∷ [])) told → ForSome told1 (λ b. IsUnborn b × IsShut b)
  shut_written short told1 written x e = go told refl
    where
      go : (o : Option (List ℕ)) → told ≡ o → IsUnborn x × IsShut x
      go None none = absurd (cc (written ∙ ap (option_map (write 0 (0 ∷ []))) none, e))
      go (Some b) some =
          let same : x ≡ 0 ∷ drop 1 b = cc (written ∙ ap (option_map (write 0 (0 ∷ []))) some, e) in
          let size = (unborn b some).1 in (
            inl (omega (arith, ap length same, length-drop 1 b, size, short)),
            (0, drop 1 b, same, λ e. absurd (cc e)),
          )

-- ---- what a birth does to images

module _ (told : Option (List ℕ))
    (len : ℕ) (unborn : ForSome told (λ b. IsUnborn b × (len ≡ length b))) (birth : List ℕ) where
  no_payloads : (b : List ℕ) → told ≡ Some b → (ps : List (List ℕ)) → Stands b ps → [] ≡ ps
  no_payloads b e ps stands = Stands-unique b [] ps (unborn b e).0 stands

  pub born_of_stays : (before after : List ℕ → Type 0)
      → StaysUnborn told before after → BornOrNot told before after birth
  born_of_stays before after stays = if_some told _ (λ b e only ps stands image left.
      inl (subst (Stands image) (no_payloads b e ps stands)
      (at_some told (λ x. Only x before → AreAmong after IsUnborn) b e stays only image left)))

  module _ (told1 : Option (List ℕ)) (shut : ForSome told1 (λ b. IsUnborn b × IsShut b))
      (told_same : is_some told1 ≡ is_some told) (sized : length birth ≡ BIRTH_LEN) where
    ends_at : ForSome told1 (EndsAt 0 birth)
    ends_at b e =
        let s = shut b e in
        record {
          payloads = [];
          log = record {
            gate =
                s.1.0;
            after = s.1.1;
            split = s.1.2;
            shut = s.1.3;
            fit = tt;
            within = omega arith;
          };
          stands = s.0;
          fits = sized;
          place = refl;
        }

    pub birth_ends : Ends told1 0 birth
    birth_ends = ends told1 0 birth ends_at

    told_too : (o : Option (List ℕ))
        → told1 ≡ o → (b : List ℕ) → told ≡ Some b → (x : List ℕ) × (told1 ≡ Some x)
    told_too None e b is = absurd (cc (ap is_some e, ap is_some is, told_same))
    told_too (Some x) e b is = (x, e)

    pub born : (before mid after : List ℕ → Type 0)
        → (HasOneImage told before → HasOneImage told1 mid)
        → CommitsOrNot told1 mid after birth → BornOrNot told before after birth
    born before mid after one commits = if_some told _ (λ b e only ps stands image left.
        let none = no_payloads b e ps stands in
        let x = told_too told1 refl b e in
        let only_mid = at_some
        told1 (λ y. Only y mid) x.0 x.1 (one (to_some told (λ y. Only y before) b e only)) in
        let answer = at_some
        told1 (λ y. Only y mid → (qs : List (List ℕ)) → Stands y qs → (i : List ℕ) → after i
        → WithOrWithout qs birth i) x.0 x.1 commits.each only_mid [] (shut x.0 x.1).0 image left in
        elim answer [
          | inl old ↦ inl (subst (Stands image) none old)
          | inr new ↦ inr (sym none, new)
        ])

    pub stands_born : (told2 : Option (List ℕ)) → is_some told2 ≡ is_some told1
        → Commits told1 told2 birth → ForSome told2 (λ b. Stands b (birth ∷ []))
    stands_born told2 same commits x e = go told1 refl
      where
        go : (o : Option (List ℕ)) → told1 ≡ o → Stands x (birth ∷ [])
        go None none = absurd (cc (ap is_some none, ap is_some e, same))
        go (Some y) some =
            let answer = at_some told1 (λ z. (qs : List (List ℕ)) → Stands z qs → IfSome told2
            (λ after. Stands after (qs ++ birth ∷ []))) y some commits.added [] (shut y some).0 in
            at_some told2 (λ z. Stands z (birth ∷ [])) x e answer

-- ---- what a load answers

pub begun : (told now : Option (List ℕ)) (birth : List ℕ) (answer : Result LogState LogError)
    → length birth ≡ BIRTH_LEN → IfSome told (λ b. Stands b [])
    → IfOk answer (λ log. log ≡
    record { end = 5 + BIRTH_LEN; count = 1; broken = false; spare = 0 })
    → OnOk answer (ForSome now (λ b. Stands b (birth ∷ []))) → (answer ≡ Err errors.Full → ⊥)
    → ((at : ℕ) → answer ≡ Err (errors.Foreign at) → ⊥)
    → IfSome told (λ b. Loads birth b answer now)
begun told now birth (Ok log) sized unborn is stands full foreign = if_some told _ (λ b e. (
  birth ∷ [],
  inr (at_some told (λ x. Stands x []) b e unborn, refl),
  if_some now _ (λ x here. record {
    stands = stands x here;
    number = ap (λ l. l.count) is;
    end = omega (arith, ap (λ l. l.end) is, sized, length-append birth []);
  }),
))
begun told now birth (Err errors.DiskFault) sized unborn is stands full foreign =
    if_some told _ (λ b e. tt)
begun told now birth (Err errors.NoMemory) sized unborn is stands full foreign =
    if_some told _ (λ b e. tt)
begun told now birth (Err errors.Full) sized unborn is stands full foreign = absurd (full refl)
begun told now birth (Err (errors.Foreign at)) sized unborn is stands full foreign =
    absurd (foreign at refl)
