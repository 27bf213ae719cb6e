-- Taps that are shown entries, one after another.
use Rattle.std.proofs.Common.{◌≡◌, ℕ, zero, suc, ◌+◌, ◌≤◌, Bool, true, false, List, [], ◌∷◌}
use Rattle.std.proofs.Common.{◌++◌, refl, sym, ◌∙◌, ap, subst, append_assoc, append-nil, Some, None}
use Rattle.std.proofs.Common.{Ok, Err, take, drop, length, set, get_or, arith}
use Rattle.std.specs.Prelude.{⊤, Result, is_err, OnErr}
use Rattle.std.specs.declared.option.Option.{Option}
use Rattle.std.specs.Option.{option_map, option_to_list, ForSome}
use Rattle.pair_entries.specs.declared.entry.Entry.{Entry}
use Rattle.drop_taps.specs.declared.tap.Seen.{Seen}
use Rattle.drop_taps.specs.Tap.{seen_after, tally_after}
use Rattle.drop_taps.specs.Shown.{TapState, tallied, Saw, HaveSeen}

tallied_append : (all : Bool) (xs ys : List Entry) (tally : Seen)
    → tallied all (xs ++ ys) tally ≡ tallied all ys (tallied all xs tally)
tallied_append all [] ys tally = refl
tallied_append all (x ∷ xs) ys tally =
    tallied_append all xs ys (tally_after {T = ⊤} {E = ⊤} all (Ok tt) x tally)

same_tally : (V E : Type 0) (all : Bool) (value : V) (entry : Entry) (tally : Seen)
    → tally_after {T = V} {E = E} all (Ok value) entry tally
    ≡ tally_after {T = ⊤} {E = ⊤} all (Ok tt) entry tally
same_tally V E true value entry tally = refl
same_tally V E false value entry tally = refl

err_tally : (V E : Type 0) (all : Bool) (error : E) (entry : Entry) (tally : Seen)
    → tally_after {T = V} {E = E} all (Err error) entry tally ≡ tally
err_tally V E true error entry tally = refl
err_tally V E false error entry tally = refl

told_append : (told : Option (List Entry)) (xs ys : List Entry)
    → option_map (λ seen. seen ++ ys) (option_map (λ seen. seen ++ xs) told)
    ≡ option_map (λ seen. seen ++ (xs ++ ys)) told
told_append None xs ys = refl
told_append (Some seen) xs ys = ap Some (append_assoc seen xs ys)

told_nil : (told : Option (List Entry)) → told ≡ option_map (λ seen. seen ++ []) told
told_nil None = refl
told_nil (Some seen) = ap Some (sym (append-nil seen))

module _ {T : Type 0} (state : T → TapState) where
  -- nothing was shown
  pub saw_none : (a : T) → Saw state a a []
  saw_none a = record {
    passed = λ failed. refl;
    front = [];
    rest = [];
    joined = refl;
    told = λ works. told_nil (state a).told;
    tally = λ works. refl;
    counts = refl;
    all = λ works. refl;
    fails = λ works failed. absurd (cc (sym works ∙ failed));
  }

  -- a tap that has failed is passed over
  pub saw_passed : (a : T) (entries : List Entry) → (state a).failed ≡ true → Saw state a a entries
  saw_passed a entries failed = record {
    passed = λ f. refl;
    front = [];
    rest = entries;
    joined = refl;
    told = λ works. absurd (cc (sym failed ∙ works));
    tally = λ works. absurd (cc (sym failed ∙ works));
    counts = refl;
    all = λ works. absurd (cc (sym failed ∙ works));
    fails = λ works f. absurd (cc (sym failed ∙ works));
  }

  -- any other was shown one
  pub saw_one : (V E : Type 0) (a b : T) (entry : Entry) (r : Result V E) → (state a).failed ≡ false
      → (state b).told ≡ seen_after r entry (state a).told
      → (state b).tally ≡ tally_after (state a).counts_all r entry (state a).tally
      → (state b).counts_all ≡ (state a).counts_all → (state b).failed ≡ is_err r
      → OnErr r (ForSome (state b).refused (λ e. e ≡ entry))
      → Saw state a b (entry ∷ [])
  saw_one V E a b entry (Ok value) works told tally counts failed refused = record {
    passed = λ f. absurd (cc (sym works ∙ f));
    front = entry ∷ [];
    rest = [];
    joined = refl;
    told = λ w. told;
    tally = λ w. tally ∙ same_tally V E (state a).counts_all value entry (state a).tally;
    counts = counts;
    all = λ w. refl;
    fails = λ w f. absurd (cc (sym failed ∙ f));
  }
  saw_one V E a b entry (Err error) works told tally counts failed refused = record {
    passed = λ f. absurd (cc (sym works ∙ f));
    front = [];
    rest = entry ∷ [];
    joined = refl;
    told = λ w. told ∙ told_nil (state a).told;
    tally = λ w. tally ∙ err_tally V E (state a).counts_all error entry (state a).tally;
    counts = counts;
    all = λ w. absurd (cc (sym failed ∙ w));
    fails = λ w f. (entry, [], refl, refused);
  }

  -- some entries, and then more
  pub saw_append : (a b c : T) (xs ys : List Entry) → Saw state a b xs → Saw state b c ys
      → Saw state a c (xs ++ ys)
  saw_append a b c xs ys one two = at (state a).failed refl (state b).failed refl
    where
      at : (fa : Bool) → (state a).failed ≡ fa → (fb : Bool) → (state b).failed ≡ fb
          → Saw state a c (xs ++ ys)
      at true ia fb ib =
          let same : b ≡ a = one.passed ia in
          let still : (state b).failed ≡ true = ap (λ t. (state t).failed) same ∙ ia in
          let all_same : c ≡ a = two.passed still ∙ same in
          subst (λ t. Saw state a t (xs ++ ys)) (sym all_same) (saw_passed a (xs ++ ys) ia)
      at false ia true ib =
          let same : c ≡ b = two.passed ib in record {
            passed = λ f. absurd (cc (sym ia ∙ f));
            front = one.front;
            rest = one.rest ++ ys;
            joined = sym (append_assoc one.front one.rest ys) ∙ ap (λ l. l ++ ys) one.joined;
            told = λ w. ap (λ t. (state t).told) same ∙ one.told w;
            tally = λ w. ap (λ t. (state t).tally) same ∙ one.tally w;
            counts = ap (λ t. (state t).counts_all) same ∙ one.counts;
            all = λ w. absurd (cc (sym (ap (λ t. (state t).failed) same ∙ ib) ∙ w));
            fails = λ w f. let at_one = one.fails w ib in (
              at_one.0,
              at_one.1 ++ ys,
              ap (λ l. l ++ ys) at_one.2,
              subst (λ t. ForSome (state t).refused (λ e. e ≡ at_one.0)) (sym same) at_one.3,
            );
          }
      at false ia false ib =
          let whole : one.front ≡ xs = sym (append-nil one.front)
          ∙ ap (λ l. one.front ++ l) (sym (one.all ib)) ∙ one.joined in record {
            passed = λ f. absurd (cc (sym ia ∙ f));
            front = xs ++ two.front;
            rest = two.rest;
            joined = append_assoc xs two.front two.rest ∙ ap (λ l. xs ++ l) two.joined;
            told = λ w. two.told ib
                ∙ ap (λ t. option_map (λ seen. seen ++ two.front) t) (one.told w)
                ∙ told_append (state a).told one.front two.front
                ∙ ap (λ l. option_map (λ seen. seen ++ (l ++ two.front)) (state a).told) whole;
            tally = λ w. two.tally ib
                ∙ ap (λ k. tallied k two.front (state b).tally) one.counts
                ∙ ap (tallied (state a).counts_all two.front) (one.tally w)
                ∙ sym (tallied_append (state a).counts_all one.front two.front (state a).tally)
                ∙ ap (λ l. tallied (state a).counts_all (l ++ two.front) (state a).tally) whole;
            counts = two.counts ∙ one.counts;
            all = two.all;
            fails = λ w f. two.fails ib f;
          }

  pub seen_none : (taps : List T) → HaveSeen state taps taps []
  seen_none [] = tt
  seen_none (a ∷ taps) = (saw_none a, seen_none taps)

  -- there was no entry
  pub seen_empty : (taps : List T) (entry : Option Entry) → entry ≡ None
      → HaveSeen state taps taps (option_to_list entry)
  seen_empty taps entry is =
      subst (λ (o : Option Entry). HaveSeen state taps taps (option_to_list o)) (sym is)
      (seen_none taps)

  pub seen_append : (olds mids news : List T) (xs ys : List Entry) → HaveSeen state olds mids xs
      → HaveSeen state mids news ys → HaveSeen state olds news (xs ++ ys)
  seen_append [] [] [] xs ys one two = tt
  seen_append [] [] (c ∷ news) xs ys one two = absurd two
  seen_append [] (b ∷ mids) news xs ys one two = absurd one
  seen_append (a ∷ olds) [] news xs ys one two = absurd one
  seen_append (a ∷ olds) (b ∷ mids) [] xs ys one two = absurd two
  seen_append (a ∷ olds) (b ∷ mids) (c ∷ news) xs ys one two =
      (saw_append a b c xs ys one.0 two.0, seen_append olds mids news xs ys one.1 two.1)

  -- the first so many taps were shown these entries, and the others are as they were
  abbrev pub SeenUpTo : ℕ → (old new : List T) → List Entry → Type 0
  SeenUpTo zero old new entries = new ≡ old
  SeenUpTo (suc n) [] [] entries = ⊤
  SeenUpTo (suc n) (a ∷ old) (b ∷ new) entries =
      Saw state a b entries × SeenUpTo n old new entries
  SeenUpTo (suc n) old new entries = ⊥

  up_to_more : (n : ℕ) (old new : List T) (entries : List Entry) (d b : T)
      → SeenUpTo n old new entries → n + 1 ≤ length new → Saw state (get_or new n d) b entries
      → SeenUpTo (suc n) old (set new n b) entries
  up_to_more zero old [] entries d b same short saw = absurd (omega (arith, short))
  up_to_more zero old (x ∷ new) entries d b same short saw =
      subst (λ l. SeenUpTo 1 l (b ∷ new) entries) same (saw, refl)
  up_to_more (suc n) [] [] entries d b up short saw = absurd (omega (arith, short))
  up_to_more (suc n) [] (x ∷ new) entries d b up short saw = absurd up
  up_to_more (suc n) (o ∷ old) [] entries d b up short saw = absurd up
  up_to_more (suc n) (o ∷ old) (x ∷ new) entries d b up short saw =
      (up.0, up_to_more n old new entries d b up.1 (omega (arith, short)) saw)

  pub up_to_step : (n : ℕ) (old new : List T) (entries : List Entry) (d b : T)
      → SeenUpTo n old new entries → n + 1 ≤ length new → Saw state (get_or new n d) b entries
      → SeenUpTo (n + 1) old (set new n b) entries
  up_to_step n old new entries d b up short saw =
      let next : suc n ≡ n + 1 = omega arith in
      subst (λ k. SeenUpTo k old (set new n b) entries) next
      (up_to_more n old new entries d b up short saw)

  pub up_to_all : (n : ℕ) (old new : List T) (entries : List Entry) → length new ≤ n
      → SeenUpTo n old new entries → HaveSeen state old new entries
  up_to_all zero old [] entries all up = subst (λ l. HaveSeen state l [] entries) up tt
  up_to_all zero old (x ∷ new) entries all up = absurd (omega (arith, all))
  up_to_all (suc n) [] [] entries all up = tt
  up_to_all (suc n) [] (x ∷ new) entries all up = absurd up
  up_to_all (suc n) (o ∷ old) [] entries all up = absurd up
  up_to_all (suc n) (o ∷ old) (x ∷ new) entries all up =
      (up.0, up_to_all n old new entries (omega (arith, all)) up.1)

-- ---- the items of a list that was lent

take_front : {A : Type 0} (xs ys : List A) → take (length xs) (xs ++ ys) ≡ xs
take_front [] ys = refl
take_front (x ∷ xs) ys = ap (λ l. x ∷ l) (take_front xs ys)

pub all_items : {A : Type 0} (len : ℕ) (items all : List A) → len ≡ length items
    → take len (items ++ drop (length items) all) ≡ items
all_items len items all is =
    ap (λ n. take n (items ++ drop (length items) all)) is
    ∙ take_front items (drop (length items) all)

pub shown_all : {T : Type 0} (state : T → TapState) (n len : ℕ) (olds start items : List T)
    (entries : List Entry) → start ≡ olds → len ≡ length items → length items ≤ n
    → SeenUpTo state n start items entries
    → HaveSeen state olds (take len (items ++ drop (length items) olds)) entries
shown_all state n len olds start items entries same size all up =
    subst (λ l. HaveSeen state olds l entries) (sym (all_items len items olds size))
    (subst (λ o. HaveSeen state o items entries) same
    (up_to_all state n start items entries all up))
