-- Records behind open gates.
use Rattle.std.proofs.Common.{◌≡◌, ◌≢◌, ℕ, ◌+◌, ◌^◌, ◌<◌, ◌⊎◌, inl, inr, List, [], ◌∷◌, ◌++◌}
use Rattle.std.proofs.Common.{length, take, drop, refl, sym, ◌∙◌, ap, arith, append_assoc}
use Rattle.std.proofs.Common.{length-append}
use Rattle.std.specs.Int.{w32, to_be_bytes, from_be_bytes}
use Rattle.std.proofs.lemmas.Nat.{from_be_bytes-to_be_bytes_4}
use Rattle.std.proofs.lemmas.List.{take_at, drop_at}
use Rattle.gate_log.specs.Records.{blocks, Fits, IsSized, AllSized, AllFit, IsLog}
use Rattle.gate_log.specs.Records.{IsUnborn, Stands}

pub blocks-push : (payloads : List (List ℕ)) (payload rest : List ℕ)
    → blocks (payloads ++ payload ∷ [])
    ++ rest ≡ blocks payloads ++ 1 ∷ to_be_bytes w32 (length payload) ++ payload ++ rest
blocks-push [] payload rest = simp append_assoc
blocks-push (p ∷ payloads) payload rest =
    let step = blocks-push payloads payload rest in
    let open_up : (p ++ blocks (payloads ++ payload ∷ [])) ++ rest
    ≡ p ++ (blocks payloads ++ 1 ∷ to_be_bytes w32 (length payload) ++ payload ++ rest) =
    append_assoc p (blocks (payloads ++ payload ∷ [])) rest ∙ ap (λ l. p ++ l) step in
    let shut : p ++ (blocks payloads ++ 1 ∷ to_be_bytes w32 (length payload) ++ payload ++ rest)
    ≡ (p ++ blocks payloads) ++ 1 ∷ to_be_bytes w32 (length payload) ++ payload ++ rest =
    simp append_assoc in
    ap (λ l. 1 ∷ to_be_bytes w32 (length p) ++ l) (open_up ∙ shut)

pub blocks-append : (a b : List (List ℕ)) → blocks (a ++ b) ≡ blocks a ++ blocks b
blocks-append [] b = refl
blocks-append (p ∷ a) b =
    ap (λ l. 1 ∷ to_be_bytes w32 (length p) ++ l)
    (ap (λ l. p ++ l) (blocks-append a b) ∙ sym (append_assoc p (blocks a) (blocks b)))

pub length-blocks-push : (payloads : List (List ℕ)) (payload : List ℕ)
    → length (blocks (payloads ++ payload ∷ [])) ≡ length (blocks payloads) + 5 + length payload
length-blocks-push [] payload = omega (arith, length-append payload [])
length-blocks-push (p ∷ payloads) payload =
    omega (
      arith,
      length-blocks-push payloads payload,
      length-append p (blocks (payloads ++ payload ∷ [])),
      length-append p (blocks payloads),
    )

AllSized-push : (payloads : List (List ℕ)) (payload : List ℕ)
    → AllSized payloads → IsSized payload → AllSized (payloads ++ payload ∷ [])
AllSized-push [] payload all one = (one, tt)
AllSized-push (p ∷ payloads) payload all one = (all.0, AllSized-push payloads payload all.1 one)

pub AllFit-push : (payloads : List (List ℕ)) (payload : List ℕ)
    → AllFit payloads → Fits payloads payload → AllFit (payloads ++ payload ∷ [])
AllFit-push [] payload all one = (one, tt)
AllFit-push (p ∷ payloads) payload all one = (all.0, AllSized-push payloads payload all.1 one)

-- every payload has a length that four bytes can tell
abbrev pub AllTold : List (List ℕ) → Type 0
AllTold [] = Unit {0}
AllTold (p ∷ ps) = (length p < 2 ^ 32) × AllTold ps

sized_told : (ps : List (List ℕ)) → AllSized ps → AllTold ps
sized_told [] all = tt
sized_told (p ∷ ps) all = (omega (arith, all.0.1), sized_told ps all.1)

pub fit_told : (ps : List (List ℕ)) → AllFit ps → AllTold ps
fit_told [] all = tt
fit_told (p ∷ ps) all = (omega (arith, all.0), sized_told ps all.1)

pub fits_told : (before : List (List ℕ)) (payload : List ℕ)
    → Fits before payload → length payload < 2 ^ 32
fits_told [] payload fits = omega (arith, fits)
fits_told (p ∷ ps) payload fits = omega (arith, fits.1)

four_bytes-injective : (m n : ℕ)
    → m < 2 ^ 32 → n < 2 ^ 32 → to_be_bytes w32 m ≡ to_be_bytes w32 n → m ≡ n
four_bytes-injective m n m_small n_small is = sym (from_be_bytes-to_be_bytes_4 m m_small)
    ∙ ap (from_be_bytes w32) is ∙ from_be_bytes-to_be_bytes_4 n n_small

-- what two lengths in front of one text are
pub same_front : (m n : ℕ) (a b : List ℕ)
    → m < 2 ^ 32 → n < 2 ^ 32 → to_be_bytes w32 m ++ a ≡ to_be_bytes w32 n ++ b → (m ≡ n) × (a ≡ b)
same_front m n a b m_small n_small is =
    let lens : to_be_bytes w32 m ≡ to_be_bytes w32 n = ap (take 4) is in
    let rest : a ≡ b = ap (drop 4) is in
    (four_bytes-injective m n m_small n_small lens, rest)

-- two lengths and payloads that begin one text are one
pub one_record : (p q a b : List ℕ) → length p < 2 ^ 32 → length q < 2 ^ 32 → to_be_bytes
    w32 (length p) ++ p ++ a ≡ to_be_bytes w32 (length q) ++ q ++ b → (p ≡ q) × (a ≡ b)
one_record p q a b p_small q_small is =
    let lens : to_be_bytes w32 (length p) ≡ to_be_bytes w32 (length q) = ap (take 4) is in
    let size : length p ≡ length q =
    four_bytes-injective (length p) (length q) p_small q_small lens in
    let whole : p ++ a ≡ q ++ b = ap (drop 4) is in (
      sym (take_at p a (length p) refl)
          ∙ ap (take (length p)) whole ∙ take_at q b (length p) (sym size),
      sym (drop_at p a (length p) refl)
          ∙ ap (drop (length p)) whole ∙ drop_at q b (length p) (sym size),
    )

-- A list goes on from a front: behind the gate where the front ends stands this record.
pub record GoesOn (front : List (List ℕ)) (behind : List ℕ) (whole : List (List ℕ)) (rest : List ℕ)
    : Type 0 where
  pub payload : List ℕ
  pub more : List (List ℕ)
  pub split : whole ≡ front ++ payload ∷ more
  pub record_there : behind ≡ to_be_bytes w32 (length payload) ++ payload ++ (blocks more ++ rest)

goes_on_first : (payload : List ℕ) (more : List (List ℕ)) (behind rest : List ℕ)
    → behind ≡ to_be_bytes w32 (length payload) ++ payload ++ blocks more ++ rest
    → GoesOn [] behind (payload ∷ more) rest
goes_on_first payload more behind rest there = record {
  payload = payload;
  more = more;
  split = refl;
  record_there =
      there ∙ append_assoc (to_be_bytes w32 (length payload) ++ payload) (blocks more) rest;
}

goes_on_later : (p q : List ℕ) (front whole : List (List ℕ)) (behind rest : List ℕ)
    → p ≡ q → GoesOn front behind whole rest → GoesOn (p ∷ front) behind (q ∷ whole) rest
goes_on_later p q front whole behind rest same on = record {
  payload = on.payload;
  more = on.more;
  split = cc (same, on.split);
  record_there = on.record_there;
}

-- Two lists and gates that begin one text: they are the same, or one list goes on from the other.
pub compared : (ps qs : List (List ℕ)) (g h : ℕ) (a b : List ℕ) → AllTold ps → AllTold qs
    → blocks ps ++ g ∷ a ≡ blocks qs ++ h ∷ b
    → ((ps ≡ qs) × (g ≡ h)) ⊎ (((g ≡ 1) × GoesOn ps a qs (h ∷ b))
    ⊎ ((h ≡ 1) × GoesOn qs b ps (g ∷ a)))
compared [] [] g h a b told_p told_q is = inl (refl, cc is)
compared [] (q ∷ qs) g h a b told_p told_q is =
    inr (inl (cc is, goes_on_first q qs a (h ∷ b) (ap (drop 1) is)))
compared (p ∷ ps) [] g h a b told_p told_q is =
    inr (inr (cc is, goes_on_first p ps b (g ∷ a) (ap (drop 1) (sym is))))
compared (p ∷ ps) (q ∷ qs) g h a b told_p told_q is =
    let tail : to_be_bytes w32 (length p) ++ p ++ blocks ps
    ++ g ∷ a ≡ to_be_bytes w32 (length q) ++ q ++ blocks qs ++ h ∷ b = ap (drop 1) is in
    let whole : to_be_bytes w32 (length p)
    ++ p ++ (blocks ps ++ g ∷ a) ≡ to_be_bytes w32 (length q) ++ q ++ (blocks qs ++ h ∷ b) =
    sym (append_assoc (to_be_bytes w32 (length p) ++ p) (blocks ps) (g ∷ a))
    ∙ tail ∙ append_assoc (to_be_bytes w32 (length q) ++ q) (blocks qs) (h ∷ b) in
    let one = one_record p q (blocks ps ++ g ∷ a) (blocks qs ++ h ∷ b) told_p.0 told_q.0 whole in
    let first : p ≡ q = one.0 in
    elim (compared ps qs g h a b told_p.1 told_q.1 one.1) [
      | inl same ↦ let others : ps ≡ qs = same.0 in inl (cc, same.1)
      | inr (inl on) ↦ inr (inl (on.0, goes_on_later p q ps qs a (h ∷ b) first on.1))
      | inr (inr on) ↦ inr (inr (on.0, goes_on_later q p qs ps b (g ∷ a) (sym first) on.1))
    ]

one_list : (ps qs : List (List ℕ)) (g h : ℕ) (a b : List ℕ)
    → AllTold ps → AllTold qs → g ≢ 1 → h ≢ 1 → blocks ps ++ g ∷ a ≡ blocks qs ++ h ∷ b → ps ≡ qs
one_list ps qs g h a b told_p told_q g_shut h_shut is =
    elim (compared ps qs g h a b told_p told_q is) [
      | inl same ↦ same.0
      | inr (inl on) ↦ absurd (g_shut on.0)
      | inr (inr on) ↦ absurd (h_shut on.0)
    ]

-- an image is a log of one list and no other
pub IsLog-unique : (image : List ℕ) (ps qs : List (List ℕ))
    → IsLog image ps → IsLog image qs → ps ≡ qs
IsLog-unique image ps qs p q = one_list ps qs p.gate q.gate
    p.after q.after (fit_told ps p.fit) (fit_told qs q.fit) p.shut q.shut (sym p.split ∙ q.split)

-- an unborn image is no log: its gate is closed, or no next gate stands in it
unborn_is_no_log : (image birth : List ℕ) (ps : List (List ℕ))
    → IsUnborn image → IsLog image (birth ∷ ps) → ⊥
unborn_is_no_log image birth ps (inl short) log = omega
    (arith, short, ap length log.split, length-append (blocks (birth ∷ ps)) (log.gate ∷ log.after))
unborn_is_no_log image birth ps (inr shut) log =
    let open_gate : shut.1.0 ≡ 1 = cc (sym shut.1.2 ∙ log.split) in shut.1.3 open_gate

-- an image stands for one list and no other
pub Stands-unique : (image : List ℕ) (ps qs : List (List ℕ))
    → Stands image ps → Stands image qs → ps ≡ qs
Stands-unique image [] [] p q = refl
Stands-unique image [] (b ∷ qs) p q = absurd (unborn_is_no_log image b qs p q)
Stands-unique image (a ∷ ps) [] p q = absurd (unborn_is_no_log image a ps q p)
Stands-unique image (a ∷ ps) (b ∷ qs) p q = IsLog-unique image (a ∷ ps) (b ∷ qs) p q
