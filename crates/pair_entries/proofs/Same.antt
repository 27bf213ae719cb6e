-- A payload spells one entry.
use Rattle.std.proofs.Common.{◌≡◌, ℕ, ◌==◌, Bool, true, false, List, [], ◌∷◌, ◌++◌}
use Rattle.std.proofs.Common.{length, take, drop, refl, sym, ◌∙◌, ap, arith, ◌≤◌}
use Rattle.std.proofs.Common.{append_assoc}
use Rattle.std.proofs.Common.{Some, None, IfSome}
use Rattle.std.specs.Prelude.{◌||◌}
use Rattle.std.specs.Int.{w32, w64, to_be_bytes}
use Rattle.std.specs.List.{flat_map}
use Rattle.std.proofs.lemmas.List.{take_at, drop_at}
use Rattle.std.specs.declared.option.Option.{Option}
use Rattle.gate_log.proofs.Blocks.{same_front}
use Rattle.order_meaning.specs.declared.Side.{Side}
use Rattle.order_meaning.specs.declared.Side.TheVariants.{Client, Venue}
use Rattle.pair_entries.specs.declared.entry.Took.{Took}
use Rattle.pair_entries.specs.declared.entry.Out.{Out}
use Rattle.pair_entries.specs.declared.entry.Entry.{Entry}
use Rattle.pair_entries.specs.Payload.{counted, side_byte, flags_byte, out_bytes, took_bytes}
use Rattle.pair_entries.specs.Payload.{next_bytes, entry_bytes, Next, IsOut, AreOuts, IsTook}
use Rattle.pair_entries.specs.Payload.{taken_bytes, AreNext, IsEntry}
use Rattle.pair_entries.specs.Parts.{front_bytes, IsFront}
use Rattle.pair_entries.specs.declared.reading.Front.{Front}
use Rattle.pair_entries.proofs.Fronts.{same_front_64, same_counted, entry_split, behind_taken}
use Rattle.pair_entries.proofs.Fronts.{same_reset, behind_next}

same_side : (s t : Side) → side_byte s ≡ side_byte t → s ≡ t
same_side Client Client is = refl
same_side Venue Venue is = refl
same_side Client Venue is = absurd (cc is)
same_side Venue Client is = absurd (cc is)

admin_in : (a b : Bool) → (flags_byte a b == 1 || flags_byte a b == 3) ≡ a
admin_in true true = refl
admin_in true false = refl
admin_in false true = refl
admin_in false false = refl

resend_in : (a b : Bool) → (flags_byte a b == 2 || flags_byte a b == 3) ≡ b
resend_in true true = refl
resend_in true false = refl
resend_in false true = refl
resend_in false false = refl

same_flags : (a b c d : Bool) → flags_byte a b ≡ flags_byte c d → (a ≡ c) × (b ≡ d)
same_flags a b c d is = (
  sym (admin_in a b) ∙ ap (λ n. n == 1 || n == 3) is ∙ admin_in c d,
  sym (resend_in a b) ∙ ap (λ n. n == 2 || n == 3) is ∙ resend_in c d,
)

same_text : (x y a b : List ℕ) → length x ∷ (x ++ a) ≡ length y ∷ (y ++ b) → (x ≡ y) × (a ≡ b)
same_text x y a b is =
    let size : length x ≡ length y = cc is in
    let whole : x ++ a ≡ y ++ b = ap (drop 1) is in (
      sym (take_at x a (length x) refl)
          ∙ ap (take (length x)) whole ∙ take_at y b (length x) (sym size),
      sym (drop_at x a (length x) refl)
          ∙ ap (drop (length x)) whole ∙ drop_at y b (length x) (sym size),
    )

-- ---- outs

out_join : (s s' : Side) (n n' : ℕ) (a a' r r' : Bool) (t t' c c' : List ℕ)
    → s ≡ s' → n ≡ n' → a ≡ a' → r ≡ r' → t ≡ t' → c ≡ c' → ◌≡◌ {A = Out}
    (record { side = s; number = n; admin = a; resend = r; msg_type = t; content = c })
    (record { side = s'; number = n'; admin = a'; resend = r'; msg_type = t'; content = c' })
out_join s s' n n' a a' r r' t t' c c' hs hn ha hr ht hc = cc

pub same_out : (d o : Out) (a b : List ℕ)
    → IsOut d → IsOut o → out_bytes d ++ a ≡ out_bytes o ++ b → (d ≡ o) × (a ≡ b)
same_out d o a b hd ho is =
    let sides : side_byte d.side ≡ side_byte o.side = cc is in
    let numbers = same_front d.number o.number
    (flags_byte d.admin d.resend ∷ length d.msg_type ∷ ((d.msg_type ++ counted d.content) ++ a))
    (flags_byte o.admin o.resend ∷ length o.msg_type ∷ ((o.msg_type ++ counted o.content) ++ b))
    (omega (arith, hd.below)) (omega (arith, ho.below)) (ap (drop 1) is) in
    let marks : flags_byte d.admin d.resend ≡ flags_byte o.admin o.resend = cc numbers.1 in
    let flags = same_flags d.admin d.resend o.admin o.resend marks in
    let tails : length d.msg_type ∷ ((d.msg_type ++ counted d.content) ++ a)
    ≡ length o.msg_type ∷ ((o.msg_type ++ counted o.content) ++ b) = ap (drop 1) numbers.1 in
    let grouped : length d.msg_type ∷ (d.msg_type ++ (counted d.content ++ a))
    ≡ length o.msg_type ∷ (o.msg_type ++ (counted o.content ++ b)) =
    ap (λ (l : List ℕ). length d.msg_type ∷ l) (sym (append_assoc d.msg_type (counted d.content) a))
    ∙ tails ∙ ap
    (λ (l : List ℕ). length o.msg_type ∷ l) (append_assoc o.msg_type (counted o.content) b) in
    let types =
    same_text d.msg_type o.msg_type (counted d.content ++ a) (counted o.content ++ b) grouped in
    let contents = same_counted
    d.content o.content a b (omega (arith, hd.bounded)) (omega (arith, ho.bounded)) types.1 in (
      out_join d.side o.side d.number
          o.number d.admin o.admin d.resend o.resend d.msg_type o.msg_type d.content o.content
          (same_side d.side o.side sides) numbers.0 flags.0 flags.1 types.0 contents.0,
      contents.1,
    )

cons_join : (d o : Out) (ds os : List Out) → d ≡ o → ds ≡ os → d ∷ ds ≡ o ∷ os
cons_join d o ds os h hs = cc

same_outs : (done outs : List Out) → AreOuts done → AreOuts outs
    → length done ≡ length outs → flat_map out_bytes done ≡ flat_map out_bytes outs → done ≡ outs
same_outs [] [] h1 h2 same is = refl
same_outs [] (o ∷ outs) h1 h2 same is = absurd (omega (arith, same))
same_outs (d ∷ done) [] h1 h2 same is = absurd (omega (arith, same))
same_outs (d ∷ done) (o ∷ outs) h1 h2 same is =
    let one = same_out d o (flat_map out_bytes done) (flat_map out_bytes outs) h1.0 h2.0 is in
    cons_join d o done outs one.0 (same_outs done outs h1.1 h2.1 (omega (arith, same)) one.1)

-- ---- what was taken, and the next numbers

took_join : (s s' : Side) (n n' : ℕ) (r r' : List ℕ) → s ≡ s'
    → n ≡ n' → r ≡ r' → ◌≡◌ {A = Option Took} (Some (record { side = s; number = n; raw = r }))
    (Some (record { side = s'; number = n'; raw = r' }))
took_join s s' n n' r r' hs hn hr = cc

some_side : (s : Side) → side_byte s ≡ 0 → ⊥
some_side Client is = absurd (cc is)
some_side Venue is = absurd (cc is)

same_took : (s t : Option Took) (a b : List ℕ)
    → IfSome s IsTook → IfSome t IsTook → took_bytes s ++ a ≡ took_bytes t ++ b → s ≡ t
same_took None None a b hs ht is = refl
same_took None (Some t) a b hs ht is =
    let no : side_byte t.side ≡ 0 = cc (sym is) in absurd (some_side t.side no)
same_took (Some s) None a b hs ht is =
    let no : side_byte s.side ≡ 0 = cc is in absurd (some_side s.side no)
same_took (Some s) (Some t) a b hs ht is =
    let sides : side_byte s.side ≡ side_byte t.side = cc is in
    let numbers = same_front s.number t.number (counted s.raw ++ a)
    (counted t.raw ++ b) (omega (arith, hs.below)) (omega (arith, ht.below)) (ap (drop 1) is) in
    let bodies = same_counted
    s.raw t.raw a b (omega (arith, hs.short)) (omega (arith, ht.short)) numbers.1 in
    took_join s.side
    t.side s.number t.number s.raw t.raw (same_side s.side t.side sides) numbers.0 bodies.0

next_join : (a a' b b' c c' d d' : ℕ)
    → a ≡ a' → b ≡ b' → c ≡ c' → d ≡ d' → ◌≡◌ {A = Next} (a, b, c, d) (a', b', c', d')
next_join a a' b b' c c' d d' ha hb hc hd = cc

same_next : (m n : Next) (a b : List ℕ)
    → AreNext m → AreNext n → next_bytes m ++ a ≡ next_bytes n ++ b → m ≡ n
same_next m n a b hm hn is =
    let one = same_front
    m.0 n.0 (to_be_bytes w32 m.1 ++ (to_be_bytes w32 m.2 ++ (to_be_bytes w32 m.3 ++ a)))
    (to_be_bytes w32 n.1 ++ (to_be_bytes w32 n.2 ++ (to_be_bytes w32 n.3 ++ b)))
    (omega (arith, hm.0.1)) (omega (arith, hn.0.1)) is in
    let two =
    same_front m.1 n.1 (to_be_bytes w32 m.2 ++ (to_be_bytes w32 m.3 ++ a)) (to_be_bytes w32 n.2
    ++ (to_be_bytes w32 n.3 ++ b)) (omega (arith, hm.1.1)) (omega (arith, hn.1.1)) one.1 in
    let three = same_front m.2 n.2 (to_be_bytes w32 m.3 ++ a)
    (to_be_bytes w32 n.3 ++ b) (omega (arith, hm.2.1)) (omega (arith, hn.2.1)) two.1 in
    let four = same_front m.3 n.3 a b (omega (arith, hm.3.1)) (omega (arith, hn.3.1)) three.1 in
    next_join m.0 n.0 m.1 n.1 m.2 n.2 m.3 n.3 one.0 two.0 three.0 four.0

-- ---- entries

entry_join : (a a' : ℕ) (r r' : Bool) (t t' : Option Took) (n n' : Next) (o o' : List Out) → a ≡ a'
    → r ≡ r' → t ≡ t' → n ≡ n' → o ≡ o' → ◌≡◌ {A = Entry}
    (record { at = a; reset = r; took = t; next = n; outs = o })
    (record { at = a'; reset = r'; took = t'; next = n'; outs = o' })
entry_join a a' r r' t t' n n' o o' ha hr ht hn ho = cc

-- of a new day nothing was taken
same_taken : (q r : Bool) (s t : Option Took) (a b : List ℕ) → IfSome s IsTook → IfSome t IsTook
    → (q ≡ true → s ≡ None) → (r ≡ true → t ≡ None) → taken_bytes q s ++ a ≡ taken_bytes r t ++ b
    → s ≡ t
same_taken true true s t a b hs ht x y is = x refl ∙ sym (y refl)
same_taken false false s t a b hs ht x y is = same_took s t a b hs ht is
same_taken true false s t a b hs ht x y is = absurd (cc (same_reset true false s t a b is))
same_taken false true s t a b hs ht x y is = absurd (cc (same_reset false true s t a b is))

pub same_entry : (d e : Entry) → IsEntry d → IsEntry e → entry_bytes d ≡ entry_bytes e → d ≡ e
same_entry d e hd he is =
    let whole = sym (entry_split d) ∙ is ∙ entry_split e in
    let ends_d : List ℕ = length d.outs ∷ flat_map out_bytes d.outs in
    let ends_e : List ℕ = length e.outs ∷ flat_map out_bytes e.outs in
    let at = same_front_64 d.at e.at (taken_bytes d.reset d.took ++ (next_bytes d.next ++ ends_d))
    (taken_bytes e.reset e.took ++ (next_bytes e.next ++ ends_e))
    (omega (arith, hd.at)) (omega (arith, he.at)) whole in
    let reset = same_reset d.reset e.reset d.took e.took (next_bytes d.next ++ ends_d)
    (next_bytes e.next ++ ends_e) at.1 in
    let took = same_taken d.reset e.reset d.took e.took (next_bytes d.next ++ ends_d)
    (next_bytes e.next ++ ends_e) hd.took he.took (λ r. (hd.reset r).took) (λ r. (he.reset r).took)
    at.1 in
    let rest = behind_taken d.reset e.reset d.took e.took (next_bytes d.next ++ ends_d)
    (next_bytes e.next ++ ends_e) hd.took he.took at.1 in
    let next = same_next d.next e.next ends_d ends_e hd.next he.next rest in
    let ends = behind_next d.next e.next ends_d ends_e hd.next he.next rest in
    let size : length d.outs ≡ length e.outs = cc ends in
    let outs = same_outs d.outs e.outs hd.outs he.outs size (ap (drop 1) ends) in
    entry_join d.at e.at d.reset e.reset d.took e.took d.next e.next d.outs e.outs at.0 reset took
    next outs

-- ---- an entry before its outs

-- what such a front says is what its entry says
pub record SaysOf (front : Front) (entry : Entry) : Type 0 where
  pub at : front.at ≡ entry.at
  pub reset : front.reset ≡ entry.reset
  pub next : front.next ≡ entry.next
  pub outs : front.outs.now ≡ length entry.outs ∷ flat_map out_bytes entry.outs

pub front_is : (front : Front) (entry : Entry) → IsFront front → IsEntry entry
    → front_bytes front ≡ entry_bytes entry → SaysOf front entry
front_is front entry hf he is =
    let ends : List ℕ = length entry.outs ∷ flat_map out_bytes entry.outs in
    let at = same_front_64 front.at entry.at (taken_bytes front.reset front.took
    ++ (next_bytes front.next ++ front.outs.now))
    (taken_bytes entry.reset entry.took ++ (next_bytes entry.next ++ ends))
    (omega (arith, hf.at)) (omega (arith, he.at)) (is ∙ entry_split entry) in
    let rest = behind_taken front.reset entry.reset front.took entry.took
    (next_bytes front.next ++ front.outs.now) (next_bytes entry.next ++ ends) hf.took he.took at.1 in
    record {
      at = at.0;
      reset = same_reset front.reset entry.reset front.took entry.took
          (next_bytes front.next ++ front.outs.now) (next_bytes entry.next ++ ends) at.1;
      next = same_next front.next entry.next front.outs.now ends hf.next he.next rest;
      outs = behind_next front.next entry.next front.outs.now ends hf.next he.next rest;
    }

-- a front, and the outs that stand behind it, are an entry; of a new day there are none
abbrev entry_in : Front → List Out → Entry
entry_in front outs = record {
  at = front.at;
  reset = front.reset;
  took = front.took;
  next = front.next;
  outs = outs;
}

pub entry_of_front : (front : Front) (outs : List Out) (bytes : List ℕ) → IsFront front
    → front.outs.now ≡ length outs ∷ flat_map out_bytes outs → AreOuts outs → length outs ≤ 4
    → (front.reset ≡ true → outs ≡ []) → bytes ≡ front_bytes front
    → (bytes ≡ entry_bytes (entry_in front outs)) × IsEntry (entry_in front outs)
entry_of_front front outs bytes hf behind are few none is = (
  is ∙ ap (λ (l : List ℕ). to_be_bytes w64 front.at
      ++ (taken_bytes front.reset front.took ++ (next_bytes front.next ++ l))) behind
      ∙ sym (entry_split (entry_in front outs)),
  record {
    at = hf.at;
    reset = λ new. record {
      took = (hf.reset new).0;
      next = (hf.reset new).1;
      outs = none new;
    };
    took = hf.took;
    next = hf.next;
    few = few;
    outs = are;
  },
)
