-- What stands in front of some bytes is told by them.
use Rattle.std.proofs.Common.{◌≡◌, ℕ, ◌*◌, ◌^◌, ◌<◌, ◌≤◌, Bool, true, false, List, [], ◌∷◌, ◌++◌}
use Rattle.std.proofs.Common.{length, take}
use Rattle.std.proofs.Common.{drop, refl, sym, ◌∙◌, ap, subst, arith, append_assoc, length-append}
use Rattle.std.proofs.Common.{Some, None, IfSome, MatchOption}
use Rattle.std.specs.Int.{w32, w64, to_be_bytes, from_be_bytes}
use Rattle.std.proofs.lemmas.Nat.{from_be_bytes-to_be_bytes_8}
use Rattle.std.proofs.lemmas.List.{drop_at}
use Rattle.gate_log.proofs.Blocks.{same_front, one_record}
use Rattle.std.specs.List.{flat_map}
use Rattle.std.specs.declared.option.Option.{Option}
use Rattle.order_meaning.specs.declared.Side.{Side}
use Rattle.order_meaning.specs.declared.Side.TheVariants.{Client, Venue}
use Rattle.pair_entries.specs.declared.entry.Took.{Took}
use Rattle.pair_entries.specs.declared.entry.Out.{Out}
use Rattle.pair_entries.specs.declared.entry.Entry.{Entry}
use Rattle.pair_entries.specs.Payload.{counted, side_byte, out_bytes, took_bytes, next_bytes, Next}
use Rattle.pair_entries.specs.Payload.{taken_bytes}
use Rattle.pair_entries.specs.Payload.{IsOut, AreOuts, IsTook, AreNext, IsEntry, entry_bytes}

pub same_front_64 : (m n : ℕ) (a b : List ℕ)
    → m < 2 ^ 64 → n < 2 ^ 64 → to_be_bytes w64 m ++ a ≡ to_be_bytes w64 n ++ b → (m ≡ n) × (a ≡ b)
same_front_64 m n a b m_small n_small is =
    let front : to_be_bytes w64 m ≡ to_be_bytes w64 n = ap (take 8) is in
    let rest : a ≡ b = ap (drop 8) is in (
      sym (from_be_bytes-to_be_bytes_8 m m_small)
          ∙ ap (from_be_bytes w64) front ∙ from_be_bytes-to_be_bytes_8 n n_small,
      rest,
    )

pub same_counted : (x y a b : List ℕ)
    → length x < 2 ^ 32 → length y < 2 ^ 32 → counted x ++ a ≡ counted y ++ b → (x ≡ y) × (a ≡ b)
same_counted x y a b x_small y_small is = one_record x y a b x_small y_small is

-- ---- what is behind a field, where two ways to read it begin one text

pub behind_number : (m n : ℕ) (a b bytes : List ℕ) → m < 2 ^ 32
    → n < 2 ^ 32 → bytes ≡ to_be_bytes w32 m ++ a → bytes ≡ to_be_bytes w32 n ++ b → a ≡ b
behind_number m n a b bytes m_small n_small is other =
    (same_front m n a b m_small n_small (sym is ∙ other)).1

pub behind_nexts : (k l m n : ℕ) (a b bytes : List ℕ) → k < 2 ^ 32
    → l < 2 ^ 32 → m < 2 ^ 32 → n < 2 ^ 32 → bytes ≡ to_be_bytes w32 k ++ (to_be_bytes w32 l ++ a)
    → bytes ≡ to_be_bytes w32 m ++ (to_be_bytes w32 n ++ b) → a ≡ b
behind_nexts k l m n a b bytes hk hl hm hn is other =
    (same_front l n a b hl hn (behind_number
    k m (to_be_bytes w32 l ++ a) (to_be_bytes w32 n ++ b) bytes hk hm is other)).1

pub behind_text : (x y a b bytes : List ℕ)
    → bytes ≡ length x ∷ x ++ a → bytes ≡ length y ∷ y ++ b → a ≡ b
behind_text x y a b bytes is other =
    let both : length x ∷ (x ++ a) ≡ length y ∷ (y ++ b) = sym is ∙ other in
    let size : length x ≡ length y = cc both in
    let whole : x ++ a ≡ y ++ b = ap (drop 1) both in
    sym (drop_at x a (length x) refl)
    ∙ ap (drop (length x)) whole ∙ drop_at y b (length x) (sym size)

pub behind_counted : (x y a b bytes : List ℕ) → length x < 2 ^ 32
    → length y < 2 ^ 32 → bytes ≡ counted x ++ a → bytes ≡ counted y ++ b → a ≡ b
behind_counted x y a b bytes hx hy is other = (one_record x y a b hx hy (sym is ∙ other)).1

-- ---- outs

behind_out : (d o : Out) (a b : List ℕ)
    → IsOut d → IsOut o → out_bytes d ++ a ≡ out_bytes o ++ b → a ≡ b
behind_out d o a b hd ho is =
    let tails : length d.msg_type ∷ ((d.msg_type ++ counted d.content) ++ a)
    ≡ length o.msg_type ∷ ((o.msg_type ++ counted o.content) ++ b) = ap (drop 6) is in
    let grouped : length d.msg_type ∷ d.msg_type
    ++ (counted d.content ++ a) ≡ length o.msg_type ∷ o.msg_type ++ (counted o.content ++ b) =
    ap (λ (l : List ℕ). length d.msg_type ∷ l) (sym (append_assoc d.msg_type (counted d.content) a))
    ∙ tails ∙ ap
    (λ (l : List ℕ). length o.msg_type ∷ l) (append_assoc o.msg_type (counted o.content) b) in
    let contents = behind_text d.msg_type o.msg_type (counted d.content ++ a) (counted o.content
    ++ b) (length d.msg_type ∷ d.msg_type ++ (counted d.content ++ a)) refl grouped in
    behind_counted d.content o.content a b (counted d.content ++ a)
    (omega (arith, hd.bounded)) (omega (arith, ho.bounded)) refl contents

-- two lists with the same bytes have the same behind their first
behind_first : (d o : Out) (done outs : List Out) (left rest : List ℕ) → IsOut d → IsOut o
    → flat_map out_bytes (d ∷ done) ++ left ≡ flat_map out_bytes (o ∷ outs) ++ rest
    → flat_map out_bytes done ++ left ≡ flat_map out_bytes outs ++ rest
behind_first d o done outs left rest h1 h2 is =
    behind_out d o (flat_map out_bytes done ++ left) (flat_map out_bytes outs ++ rest) h1 h2
    (sym (append_assoc (out_bytes d) (flat_map out_bytes done) left)
    ∙ is ∙ append_assoc (out_bytes o) (flat_map out_bytes outs) rest)

-- where fewer outs were read than stand there, one more stands in front of what is left
pub more_outs : (done outs : List Out) (left rest : List ℕ) → AreOuts done → AreOuts outs
    → length done < length outs → flat_map out_bytes done ++ left ≡ flat_map out_bytes outs ++ rest
    → (out : Out) × (tail : List ℕ) × IsOut out × (left ≡ out_bytes out ++ tail)
more_outs [] [] left rest h1 h2 fewer is = absurd (omega (arith, fewer))
more_outs [] (o ∷ outs) left rest h1 h2 fewer is = (
  o,
  flat_map out_bytes outs ++ rest,
  h2.0,
  is ∙ append_assoc (out_bytes o) (flat_map out_bytes outs) rest,
)
more_outs (d ∷ done) [] left rest h1 h2 fewer is = absurd (omega (arith, fewer))
more_outs (d ∷ done) (o ∷ outs) left rest h1 h2 fewer is =
    more_outs done outs left rest h1.1 h2.1 (omega (arith, fewer))
    (behind_first d o done outs left rest h1.0 h2.0 is)

-- where as many were read, the same is left
pub same_outs : (done outs : List Out) (left rest : List ℕ)
    → AreOuts done → AreOuts outs → length done ≡ length outs
    → flat_map out_bytes done ++ left ≡ flat_map out_bytes outs ++ rest → left ≡ rest
same_outs [] [] left rest h1 h2 same is = is
same_outs [] (o ∷ outs) left rest h1 h2 same is = absurd (omega (arith, same))
same_outs (d ∷ done) [] left rest h1 h2 same is = absurd (omega (arith, same))
same_outs (d ∷ done) (o ∷ outs) left rest h1 h2 same is =
    same_outs done outs left rest h1.1 h2.1 (omega (arith, same))
    (behind_first d o done outs left rest h1.0 h2.0 is)

pub AreOuts-push : (outs : List Out) (out : Out)
    → AreOuts outs → IsOut out → AreOuts (outs ++ out ∷ [])
AreOuts-push [] out all one = (one, tt)
AreOuts-push (o ∷ outs) out all one = (all.0, AreOuts-push outs out all.1 one)

-- ---- what was taken

side_bytes : (s : Side) → side_byte s ≡ 0 → ⊥
side_bytes Client is = absurd (cc is)
side_bytes Venue is = absurd (cc is)

pub behind_took : (s t : Option Took) (a b : List ℕ)
    → IfSome s IsTook → IfSome t IsTook → took_bytes s ++ a ≡ took_bytes t ++ b → a ≡ b
behind_took None None a b hs ht is = ap (drop 1) is
behind_took None (Some t) a b hs ht is =
    let no : side_byte t.side ≡ 0 = cc (sym is) in absurd (side_bytes t.side no)
behind_took (Some s) None a b hs ht is =
    let no : side_byte s.side ≡ 0 = cc is in absurd (side_bytes s.side no)
behind_took (Some s) (Some t) a b hs ht is =
    let bodies : to_be_bytes w32 s.number ++ (counted s.raw ++ a)
    ≡ to_be_bytes w32 t.number ++ (counted t.raw ++ b) = ap (drop 1) is in
    behind_counted s.raw
    t.raw a b (counted s.raw ++ a) (omega (arith, hs.short)) (omega (arith, ht.short)) refl
    (behind_number s.number t.number
    (counted s.raw ++ a) (counted t.raw ++ b) (to_be_bytes w32 s.number ++ (counted s.raw ++ a))
    (omega (arith, hs.below)) (omega (arith, ht.below)) refl bodies)

-- a message that was taken is no new day
no_reset : (took : Option Took) (a b : List ℕ) → 3 ∷ a ≡ took_bytes took ++ b → ⊥
no_reset None a b is = absurd (cc is)
no_reset (Some took) a b is =
    let side : 3 ≡ side_byte took.side = cc is in absurd (third_side took.side side)
  where
    third_side : (s : Side) → 3 ≡ side_byte s → ⊥
    third_side Client is = absurd (cc is)
    third_side Venue is = absurd (cc is)

pub same_reset : (q r : Bool) (s t : Option Took) (a b : List ℕ)
    → taken_bytes q s ++ a ≡ taken_bytes r t ++ b → q ≡ r
same_reset true true s t a b is = refl
same_reset false false s t a b is = refl
same_reset true false s t a b is = absurd (no_reset t a b is)
same_reset false true s t a b is = absurd (no_reset s b a (sym is))

pub behind_taken : (q r : Bool) (s t : Option Took) (a b : List ℕ) → IfSome s IsTook
    → IfSome t IsTook → taken_bytes q s ++ a ≡ taken_bytes r t ++ b → a ≡ b
behind_taken true true s t a b hs ht is = ap (drop 1) is
behind_taken false false s t a b hs ht is = behind_took s t a b hs ht is
behind_taken true false s t a b hs ht is = absurd (no_reset t a b is)
behind_taken false true s t a b hs ht is = absurd (no_reset s b a (sym is))

pub behind_next : (m n : Next) (a b : List ℕ)
    → AreNext m → AreNext n → next_bytes m ++ a ≡ next_bytes n ++ b → a ≡ b
behind_next m n a b hm hn is =
    let last = behind_nexts m.0 m.1 n.0 n.1 (to_be_bytes w32 m.2 ++ (to_be_bytes w32 m.3 ++ a))
    (to_be_bytes w32 n.2 ++ (to_be_bytes w32 n.3 ++ b)) (next_bytes m ++ a) (omega (
      arith,
      hm.0.1,
    )) (omega (arith, hm.1.1)) (omega (arith, hn.0.1)) (omega (arith, hn.1.1)) refl is in
    behind_nexts m.2
    m.3 n.2 n.3 a b (to_be_bytes w32 m.2 ++ (to_be_bytes w32 m.3 ++ a)) (omega (arith, hm.2.1))
    (omega (arith, hm.3.1)) (omega (arith, hn.2.1)) (omega (arith, hn.3.1)) refl last

pub at_none : {A : Type 0} (o : Option A) (P : Type 0) (Q : A → Type 0)
    → o ≡ None → MatchOption o P Q → P
at_none None P Q is h = h
at_none (Some x) P Q is h = absurd (cc is)

pub at_some : {A : Type 0} (o : Option A) (x : A) (P : Type 0) (Q : A → Type 0)
    → o ≡ Some x → MatchOption o P Q → Q x
at_some None x P Q is h = absurd (cc is)
at_some (Some y) x P Q is h = let same : y ≡ x = cc is in subst Q same h

pub append_nothing : (l : List ℕ) → l ++ [] ≡ l
append_nothing [] = refl
append_nothing (x ∷ l) = ap (λ (k : List ℕ). x ∷ k) (append_nothing l)

-- one out more was read
pub push_read : (outs : List Out) (out : Out) (after : List ℕ) → flat_map out_bytes outs
    ++ (out_bytes out ++ after) ≡ flat_map out_bytes (outs ++ out ∷ []) ++ after
push_read [] out after = sym (append_assoc (out_bytes out) [] after)
push_read (d ∷ outs) out after =
    append_assoc (out_bytes d) (flat_map out_bytes outs) (out_bytes out ++ after)
    ∙ ap (λ (l : List ℕ). out_bytes d ++ l) (push_read outs out after)
    ∙ sym (append_assoc (out_bytes d) (flat_map out_bytes (outs ++ out ∷ [])) after)

-- the parts of an entry's payload, in the order in which they are read
pub entry_split : (entry : Entry) → entry_bytes entry ≡ to_be_bytes w64 entry.at
    ++ (taken_bytes entry.reset entry.took
    ++ (next_bytes entry.next ++ (length entry.outs ∷ flat_map out_bytes entry.outs)))
entry_split entry = regroup (to_be_bytes w64 entry.at) (taken_bytes entry.reset entry.took)
    (next_bytes entry.next) (length entry.outs ∷ flat_map out_bytes entry.outs)
  where
    regroup : (a b c d : List ℕ) → a ++ b ++ c ++ d ≡ a ++ (b ++ (c ++ d))
    regroup a b c d = simp append_assoc

-- what is behind the moment of an entry, and behind what was taken, and behind the next numbers
pub behind_at : (entry : Entry) (at : ℕ) (rest bytes : List ℕ) → IsEntry entry → at < 2 ^ 64
    → bytes ≡ to_be_bytes w64 at ++ rest → bytes ≡ entry_bytes entry
    → rest ≡ taken_bytes entry.reset entry.took
    ++ (next_bytes entry.next ++ (length entry.outs ∷ flat_map out_bytes entry.outs))
behind_at entry at rest bytes is_entry small is other =
    (same_front_64 at entry.at rest (taken_bytes entry.reset entry.took
    ++ (next_bytes entry.next ++ (length entry.outs ∷ flat_map out_bytes entry.outs)))
    small (omega (arith, is_entry.at)) (sym is ∙ other ∙ entry_split entry)).1

-- ---- how long a payload may be

outs_short : (outs : List Out)
    → AreOuts outs → length (flat_map out_bytes outs) ≤ 8000 * length outs
outs_short [] all = omega arith
outs_short (o ∷ outs) all =
    omega (
      arith,
      outs_short outs all.1,
      length-append (out_bytes o) (flat_map out_bytes outs),
      out_short o all.0,
    )
  where
    out_short : (o : Out) → IsOut o → length (out_bytes o) ≤ 8000
    out_short o is =
        omega (arith, is.short, is.bounded, length-append o.msg_type (counted o.content))

took_short : (took : Option Took) → IfSome took IsTook → length (took_bytes took) ≤ 9000
took_short None is = omega arith
took_short (Some took) is = omega (arith, is.short)

taken_short : (reset : Bool) (took : Option Took) → IfSome took IsTook
    → length (taken_bytes reset took) ≤ 9000
taken_short true took is = omega arith
taken_short false took is = took_short took is

pub entry_short : (entry : Entry) → IsEntry entry → length (entry_bytes entry) ≤ 65532
entry_short entry is =
    omega (
      arith,
      ap length (entry_split entry),
      length-append (taken_bytes entry.reset entry.took)
          (next_bytes entry.next ++ (length entry.outs ∷ flat_map out_bytes entry.outs)),
      taken_short entry.reset entry.took is.took,
      outs_short entry.outs is.outs,
      is.few,
    )

pub entry_some : (entry : Entry) → 1 ≤ length (entry_bytes entry)
entry_some entry = omega (arith, ap length (entry_split entry))
