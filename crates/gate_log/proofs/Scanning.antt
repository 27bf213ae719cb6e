-- What one walk over a disk learns.
use Rattle.std.proofs.Common.{◌≡◌, inl, inr, ℕ, ◌+◌, ◌<◌, ◌≤◌, true, Some, IfSome, ◌==◌, List, []}
use Rattle.std.proofs.Common.{◌∷◌, ◌++◌, length, take, drop, sym, ◌∙◌, ap, subst, arith}
use Rattle.std.proofs.Common.{append_assoc, length-append, length-take, length-drop}
use Rattle.std.proofs.Common.{take-append-drop}
use Rattle.std.specs.Prelude.{nat_le, ◌&&◌}
use Rattle.std.specs.declared.option.Option.{Option}
use Rattle.std.specs.Int.{w32, to_be_bytes}
use Rattle.std.proofs.lemmas.List.{drop_at}
use Rattle.std.proofs.lemmas.Bool.Decides.{nat_tests}
use Rattle.outside.specs.declared.disk.TheConstants.{MAX_DISK}
use Rattle.gate_log.specs.declared.TheConstants.{BIRTH_LEN, MAX_PAYLOAD}
use Rattle.gate_log.specs.declared.head.Head.{Head}
use Rattle.gate_log.specs.declared.head.Head.TheVariants as heads
use Rattle.gate_log.specs.Records.{blocks, Fits, AllFit, HoldsRecord, IsRefused}
use Rattle.gate_log.specs.declared.scan.Step.TheVariants as steps
use Rattle.gate_log.specs.Scan.{IsHead, IsStep, GoesOn, fits_at}
use Rattle.gate_log.specs.Log.{OnlyRead}
use Rattle.gate_log.proofs.Blocks.{blocks-push, length-blocks-push, AllFit-push, fits_told}
use Rattle.gate_log.proofs.Blocks.{same_front}
use Rattle.gate_log.proofs.Told.{if_some, at_some}

-- ---- the length of a payload

birth_test : (at n : ℕ) → at ≡ 0 → fits_at at n ≡ (n == BIRTH_LEN)
birth_test at n place = ap (λ k. fits_at k n) place

sized_test : (at n : ℕ) → 0 < at → fits_at at n ≡ (nat_le 1 n && nat_le n MAX_PAYLOAD)
sized_test at n place = grind (arith, nat_tests)

is_birth : (n : ℕ) → (n == BIRTH_LEN) ≡ true → n ≡ BIRTH_LEN
is_birth n test = grind (arith, nat_tests)

birth_is : (n : ℕ) → n ≡ BIRTH_LEN → (n == BIRTH_LEN) ≡ true
birth_is n is = grind (arith, nat_tests)

is_sized_low : (n : ℕ) → (nat_le 1 n && nat_le n MAX_PAYLOAD) ≡ true → 1 ≤ n
is_sized_low n test = grind (arith, nat_tests)

is_sized_high : (n : ℕ) → (nat_le 1 n && nat_le n MAX_PAYLOAD) ≡ true → n ≤ MAX_PAYLOAD
is_sized_high n test = grind (arith, nat_tests)

sized_is : (n : ℕ) → 1 ≤ n → n ≤ MAX_PAYLOAD → (nat_le 1 n && nat_le n MAX_PAYLOAD) ≡ true
sized_is n low high = grind (arith, nat_tests)

not_first : (p : List ℕ) (ps : List (List ℕ)) (at : ℕ) → at ≡ length (blocks (p ∷ ps)) → 0 < at
not_first p ps at place = omega (arith, place)

fits_of : (before : List (List ℕ)) (payload : List ℕ) (at : ℕ)
    → at ≡ length (blocks before) → fits_at at (length payload) ≡ true → Fits before payload
fits_of [] payload at place test =
    is_birth (length payload) (sym (birth_test at (length payload) place) ∙ test)
fits_of (p ∷ ps) payload at place test =
    let sized = sym (sized_test at (length payload) (not_first p ps at place)) ∙ test in
    (is_sized_low (length payload) sized, is_sized_high (length payload) sized)

fits_to : (before : List (List ℕ)) (payload : List ℕ) (at : ℕ)
    → at ≡ length (blocks before) → Fits before payload → fits_at at (length payload) ≡ true
fits_to [] payload at place fits =
    birth_test at (length payload) place ∙ birth_is (length payload) fits
fits_to (p ∷ ps) payload at place fits = sized_test at (length payload) (not_first p ps at place)
    ∙ sized_is (length payload) fits.0 fits.1

-- ---- the walk

-- so many records stand up to this place
pub record Walked (image : List ℕ) (count at : ℕ) : Type 0 where
  pub payloads : List (List ℕ)
  pub split : image ≡ blocks payloads ++ drop at image
  pub place : at ≡ length (blocks payloads)
  pub fit : AllFit payloads
  pub number : count ≡ length payloads

module _ (image : List ℕ) (count at : ℕ) (walked : Walked image count at) (within : at < MAX_DISK)
  where
    -- the gate there is open, and no record stands behind it
    breaks : (behind : List ℕ) → 1 < length image → drop at image ≡ 1 ∷ behind
        → ((payload : List ℕ) → HoldsRecord walked.payloads behind payload → ⊥)
        → IsRefused image at
    breaks behind long is none = inl (
      long,
      record {
        before = walked.payloads;
        behind = behind;
        split = walked.split ∙ ap (λ l. blocks walked.payloads ++ l) is;
        place = walked.place;
        within = within;
        fit = walked.fit;
        none = none;
      },
    )

    pub cut_breaks : 1 < length image → at < length image
        → IsHead (drop at image) heads.Cut → IsRefused image at
    cut_breaks long more (behind, short, inl none) =
        absurd (omega (arith, ap length none, length-drop at image, more))
    cut_breaks long more (behind, short, inr is) = breaks behind long is (λ payload h. omega (
      arith,
      short,
      ap length h.split,
      length-append (to_be_bytes w32 (length payload) ++ payload) (h.next ∷ h.after),
      length-append (to_be_bytes w32 (length payload)) payload,
    ))

    module _ (len : ℕ) (head : IsHead (drop at image) (heads.Open len)) where
      abbrev rest : List ℕ
      rest = head.1

      behind_size : length image ≡ at + 5 + length rest
      behind_size = omega (
        arith,
        ap length walked.split,
        length-append (blocks walked.payloads) (drop at image),
        ap length head.2,
        length-append (to_be_bytes w32 len) rest,
        walked.place,
      )

      -- what a record that stands there says of the length in front
      goes_on : (payload : List ℕ)
          → HoldsRecord walked.payloads (to_be_bytes w32 len ++ rest) payload
          → GoesOn at len (length image)
      goes_on payload h =
          let whole : to_be_bytes w32 len
          ++ rest ≡ to_be_bytes w32 (length payload) ++ (payload ++ h.next ∷ h.after) = h.split
          ∙ append_assoc (to_be_bytes w32 (length payload)) payload (h.next ∷ h.after) in
          let one = same_front len (length payload) rest (payload ++ h.next ∷ h.after)
          head.0 (fits_told walked.payloads payload h.fits) whole in (
            subst (λ k. fits_at at k ≡ true) (sym one.0)
                (fits_to walked.payloads payload at walked.place h.fits),
            omega (
              arith,
              behind_size,
              one.0,
              ap length one.1,
              length-append payload (h.next ∷ h.after),
            ),
            omega (arith, one.0, walked.place, h.within),
          )

      pub open_breaks : 1 < length image → (GoesOn at len (length image) → ⊥) → IsRefused image at
      open_breaks long none =
          breaks (to_be_bytes w32 len ++ rest) long head.2 (λ payload h. none (goes_on payload h))

      pub walks_on : GoesOn at len (length image) → Walked image (count + 1) (at + (5 + len))
      walks_on (fits, more, room) =
          let payload = take len rest in
          let size : len ≡ length payload =
          omega (arith, length-take len rest, behind_size, more) in
          let next = walked.payloads ++ payload ∷ [] in
          let whole : image ≡ blocks next ++ drop len rest =
          walked.split ∙ ap (λ l. blocks walked.payloads ++ l) head.2
          ∙ ap (λ (l : List ℕ). blocks walked.payloads ++ 1 ∷ (to_be_bytes w32 len ++ l))
          (sym (take-append-drop len rest))
          ∙ ap (λ k.
          blocks walked.payloads ++ 1 ∷ (to_be_bytes w32 k ++ (payload ++ drop len rest))) size ∙ grouped payload ∙ sym (blocks-push walked.payloads payload (drop len rest)) in
          let place : at + (5 + len) ≡ length (blocks next) =
          omega (arith, length-blocks-push walked.payloads payload, walked.place, size) in
          let after : drop (at + (5 + len)) image ≡ drop len rest =
          ap (drop (at + (5 + len))) whole
          ∙ drop_at (blocks next) (drop len rest) (at + (5 + len)) (sym place) in
          record {
            payloads = next;
            split = whole ∙ ap (λ l. blocks next ++ l) (sym after);
            place = place;
            fit = AllFit-push walked.payloads payload walked.fit (fits_of walked.payloads payload at
                walked.place (subst (λ k. fits_at at k ≡ true) size fits));
            number = omega (arith, walked.number, length-append walked.payloads (payload ∷ []));
          }
        where
          grouped : (payload : List ℕ) → blocks walked.payloads
              ++ 1 ∷ (to_be_bytes w32 (length payload) ++ (payload ++ drop len rest))
              ≡ blocks walked.payloads
              ++ 1 ∷ to_be_bytes w32 (length payload) ++ payload ++ drop len rest
          grouped payload = simp append_assoc

-- ---- the walk over a disk that may tell its bytes

pub only_read_on : (a b c : Option (List ℕ)) (i j k : List ℕ → Type 0)
    → OnlyRead a b i j → OnlyRead b c j k → OnlyRead a c i k
only_read_on a b c i j k one two = record {
  same = two.same ∙ one.same;
  images = λ x here. one.images x (two.images x here);
  kept = λ x here. two.kept x (one.kept x here);
}

pub record SoFar (told : Option (List ℕ)) (size count at : ℕ) : Type 0 where
  pub counted : count ≤ at
  pub within : at < MAX_DISK
  pub more : at < size
  pub walked : IfSome told (λ b. (size ≡ length b) × Walked b count at)

-- the same, where the length was asked again
pub longer : (told : Option (List ℕ)) (size now count at : ℕ) → size ≤ now
    → IfSome told (λ b. size ≡ length b → now ≡ length b)
    → SoFar told size count at → SoFar told now count at
longer told size now count at more same so_far = record {
  counted = so_far.counted;
  within = so_far.within;
  more = omega (arith, so_far.more, more);
  walked = if_some told _ (λ b e.
      let w = at_some told (λ x. (size ≡ length x) × Walked x count at) b e so_far.walked in
      (at_some told (λ x. size ≡ length x → now ≡ length x) b e same w.0, w.1));
}

module _ (told : Option (List ℕ)) (size count at : ℕ) (long : 1 < size)
    (so_far : SoFar told size count at) (head : Head)
    (there : IfSome told (λ b. IsHead (drop at b) head)) where
  was : (b : List ℕ) → told ≡ Some b → (size ≡ length b) × Walked b count at
  was b e = at_some told (λ x. (size ≡ length x) × Walked x count at) b e so_far.walked

  heads_at : (one : Head) → head ≡ one → (b : List ℕ) → told ≡ Some b → IsHead (drop at b) one
  heads_at one is b e =
      subst (IsHead (drop at b)) is (at_some told (λ x. IsHead (drop at x) head) b e there)

  pub found_broken : IsStep head at size steps.Break → IfSome told (λ b. IsRefused b at)
  found_broken (inl is) = if_some told _ (λ b e.
      let w = was b e in
      let more : at < length b = omega (arith, so_far.more, w.0) in
      cut_breaks b count at w.1 so_far.within (omega (arith, long, w.0)) more
      (heads_at heads.Cut is b e))
  found_broken (inr (len, is, none)) = if_some told _ (λ b e.
      let w = was b e in
      open_breaks b count at w.1 so_far.within len (heads_at (heads.Open len) is b e)
      (omega (arith, long, w.0)) (λ on. none (subst (GoesOn at len) (sym w.0) on)))

  pub on : (len : ℕ) → IsStep head at size (steps.On len)
      → SoFar told size (count + 1) (at + (5 + len))
  on len (is, goes) = record {
    counted = omega (arith, so_far.counted);
    within = omega (arith, goes.2);
    more = omega (arith, goes.1);
    walked = if_some told _ (λ b e.
        let w = was b e in (
          w.0,
          walks_on b count at w.1 so_far.within len (heads_at (heads.Open len) is b e)
              (subst (GoesOn at len) w.0 goes),
        ));
  }
