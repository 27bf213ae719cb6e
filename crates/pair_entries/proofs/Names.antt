-- What stands in front of the bytes of a birth record is told by them.
use Rattle.std.proofs.Common.{◌≡◌, ℕ, ◌-◌, ◌≤◌, List, [], ◌∷◌, ◌++◌, length, take, drop}
use Rattle.std.proofs.Common.{replicate, Some, None, MatchOption, refl, sym, ◌∙◌, ap, subst, arith}
use Rattle.std.proofs.Common.{append_assoc, length-append}
use Rattle.std.proofs.lemmas.List.{take_at, drop_at, length-replicate}
use Rattle.std.specs.Prelude.{IsSomeAnd}
use Rattle.std.specs.declared.option.Option.{Option}
use Rattle.order_meaning.specs.declared.names.Names.{Names}
use Rattle.pair_entries.specs.Birth.{birth_bytes, name_bytes, mark, IsName, AreNames}
use Rattle.pair_entries.proofs.Fronts.{append_nothing}

same_size : (a b x y : List ℕ) → name_bytes a ++ x ≡ name_bytes b ++ y → length a ≡ length b
same_size a b x y is = cc is

room_of : (a x : List ℕ) → drop 1 (name_bytes a ++ x) ≡ a ++ (replicate (35 - length a) 0 ++ x)
room_of a x = append_assoc a (replicate (35 - length a) 0) x

pub same_name : (a b x y : List ℕ) → name_bytes a ++ x ≡ name_bytes b ++ y → (a ≡ b) × (x ≡ y)
same_name a b x y is =
    let size : length a ≡ length b = same_size a b x y is in
    let rooms : a ++ (replicate (35 - length a) 0 ++ x) ≡ b ++ (replicate (35 - length b) 0 ++ y) =
    sym (room_of a x) ∙ ap (drop 1) is ∙ room_of b y in
    let one : a ≡ b = sym (take_at a (replicate (35 - length a) 0 ++ x) (length a) refl)
    ∙ ap (take (length a)) rooms
    ∙ take_at b (replicate (35 - length b) 0 ++ y) (length a) (sym size) in
    let zeros : replicate (35 - length a) 0 ++ x ≡ replicate (35 - length b) 0 ++ y =
    sym (drop_at a (replicate (35 - length a) 0 ++ x) (length a) refl) ∙ ap (drop (length a)) rooms
    ∙ drop_at b (replicate (35 - length b) 0 ++ y) (length a) (sym size) in
    let same : replicate (35 - length a) 0 ++ x ≡ replicate (35 - length a) 0 ++ y =
    zeros ∙ ap (λ n. replicate (35 - n) 0 ++ y) (sym size) in (
      one,
      sym (drop_at (replicate (35 - length a) 0) x (length (replicate (35 - length a) 0)) refl)
          ∙ ap (drop (length (replicate (35 - length a) 0))) same
          ∙ drop_at (replicate (35 - length a) 0) y (length (replicate (35 - length a) 0)) refl,
    )

-- what is behind a name, where two ways to read it begin one text
pub behind_name : (a b x y bytes : List ℕ)
    → bytes ≡ name_bytes a ++ x → bytes ≡ name_bytes b ++ y → x ≡ y
behind_name a b x y bytes is other = (same_name a b x y (sym is ∙ other)).1

pub behind_pair : (a b c d x y bytes : List ℕ) → bytes ≡ name_bytes a ++ (name_bytes b ++ x)
    → bytes ≡ name_bytes c ++ (name_bytes d ++ y) → x ≡ y
behind_pair a b c d x y bytes is other =
    behind_name b d x y (name_bytes b ++ x)
    refl (behind_name a c (name_bytes b ++ x) (name_bytes d ++ y) bytes is other)

-- the names of a birth record, in the order in which they are read
abbrev pub four : Names → List ℕ
four names = name_bytes names.client_our ++ (name_bytes names.client_peer
    ++ (name_bytes names.venue_our ++ (name_bytes names.venue_peer ++ [])))

pub birth_split : (names : Names) → birth_bytes names ≡ mark ++ four names
birth_split names = regroup mark (name_bytes names.client_our)
    (name_bytes names.client_peer) (name_bytes names.venue_our) (name_bytes names.venue_peer)
  where
    regroup : (m a b c d : List ℕ) → m ++ a ++ b ++ c ++ d ≡ m ++ (a ++ (b ++ (c ++ (d ++ []))))
    regroup m a b c d = simp (append_assoc, append_nothing)

pub behind_marked : (names : Names) (rest bytes : List ℕ)
    → bytes ≡ mark ++ rest → bytes ≡ birth_bytes names → rest ≡ four names
behind_marked names rest bytes is other = ap (drop 11) (sym is ∙ other ∙ birth_split names)

-- the names that two pairs spell
pub spelt : (bytes rest behind left a b c d : List ℕ)
    → bytes ≡ mark ++ rest → rest ≡ name_bytes a ++ (name_bytes b ++ behind)
    → behind ≡ name_bytes c ++ (name_bytes d ++ left) → left ≡ [] → bytes
    ≡ birth_bytes (record { client_our = a; client_peer = b; venue_our = c; venue_peer = d })
spelt bytes rest behind left a b c d is client venue none =
    is ∙ ap (λ (l : List ℕ). mark ++ l)
    (client ∙ ap (λ (l : List ℕ). name_bytes a ++ (name_bytes b ++ l))
    (venue ∙ ap (λ (l : List ℕ). name_bytes c ++ (name_bytes d ++ l)) none))
    ∙ sym (birth_split (record { client_our = a; client_peer = b; venue_our = c; venue_peer = d }))

-- a birth record names once
pub same_birth : (m n : Names) → birth_bytes m ≡ birth_bytes n → m ≡ n
same_birth m n is =
    let whole : four m ≡ four n =
    sym (behind_marked m (four m) (birth_bytes m) (birth_split m) refl)
    ∙ behind_marked n (four m) (birth_bytes n) (sym is ∙ birth_split m) refl in
    let one = same_name m.client_our n.client_our _ _ whole in
    let two = same_name m.client_peer n.client_peer _ _ one.1 in
    let three = same_name m.venue_our n.venue_our _ _ two.1 in
    let last = same_name m.venue_peer n.venue_peer [] [] three.1 in
    join m.client_our n.client_our m.client_peer
    n.client_peer m.venue_our n.venue_our m.venue_peer n.venue_peer one.0 two.0 three.0 last.0
  where
    join : (a a' b b' c c' d d' : List ℕ) → a ≡ a' → b ≡ b' → c ≡ c' → d ≡ d' → ◌≡◌ {A = Names}
        (record { client_our = a; client_peer = b; venue_our = c; venue_peer = d })
        (record { client_our = a'; client_peer = b'; venue_our = c'; venue_peer = d' })
    join a a' b b' c c' d d' ha hb hc hd = cc

-- a birth record has 155 bytes
name_size : (name : List ℕ) → IsName name → length (name_bytes name) ≡ 36
name_size name is = omega (
  arith,
  length-append name (replicate {A = ℕ} (35 - length name) 0),
  length-replicate {A = ℕ} (35 - length name) 0,
  is.1,
)

pub birth_size : (names : Names) → AreNames names → length (birth_bytes names) ≡ 155
birth_size names are =
    omega (
      arith,
      ap length (birth_split names),
      length-append
          (name_bytes names.client_our) (name_bytes names.client_peer ++ (name_bytes names.venue_our
          ++ (name_bytes names.venue_peer ++ []))),
      length-append (name_bytes names.client_peer)
          (name_bytes names.venue_our ++ (name_bytes names.venue_peer ++ [])),
      length-append (name_bytes names.venue_our) (name_bytes names.venue_peer ++ []),
      length-append (name_bytes names.venue_peer) [],
      name_size names.client_our are.0,
      name_size
          names.client_peer are.1,
      name_size names.venue_our are.2,
      name_size names.venue_peer are.3,
    )

pub nothing : (l : List ℕ) → length l ≤ 0 → l ≡ []
nothing [] short = refl
nothing (x ∷ l) short = absurd (omega (arith, short))

pub some_and : {A : Type 0} (o : Option A) (a : A) (P : Type 0) (Q : A → Type 0)
    → IsSomeAnd o (λ x. x ≡ a) → Q a → MatchOption o P Q
some_and None a P Q h q = absurd h
some_and (Some x) a P Q h q = subst Q (sym h) q
