-- Of frames that show outs of a journal, a receiver takes the committed ones in order.
use Rattle.std.proofs.Common.{◌≡◌, ℕ, zero, suc, ◌+◌, ◌-◌, ◌<◌, ◌≤◌, Bool, true, false, List, []}
use Rattle.std.proofs.Common.{◌∷◌, ◌++◌, take, refl, sym, ◌∙◌, ap, subst, arith, append_assoc}
use Rattle.std.proofs.Common.{append-nil, Some, inl, inr}
use Rattle.std.specs.Prelude.{◌==◌, not, if◌then◌else◌, slice_get, map, filter, cond, IsTrue}
use Rattle.std.specs.Prelude.{IsSomeAnd}
use Rattle.std.proofs.lemmas.Bool.{cases_eq}
use Rattle.std.proofs.lemmas.Bool.Decides.{nat_tests}
use Rattle.order_meaning.specs.declared.Side.{Side}
use Rattle.pair_entries.specs.declared.entry.Out.{Out}
use Rattle.pair_entries.specs.declared.entry.Entry.{Entry}
use Rattle.life_laws.specs.Forms.{Placed, all_placed, placed, Form, First, Again, Fill, AreForms}
use Rattle.life_laws.specs.Taken.{Message, Read, GapFill, Other, Taking, take_more, read_of_form}
use Rattle.life_laws.specs.Taken.{committed_below}
use Rattle.life_laws.proofs.Grown.{if_yes, if_no, at_place, some_and}

module _ (message_of : Out → Message) where
  abbrev kept : List Placed → List Message
  kept ps = map (λ p. message_of p.out) (filter (λ p. not p.out.admin) ps)

  -- what one more out adds
  abbrev adds : Bool → Placed → List Message
  adds true p = []
  adds false p = message_of p.out ∷ []

  kept-cons : (p : Placed) (ps : List Placed) → kept (p ∷ ps) ≡ adds p.out.admin p ++ kept ps
  kept-cons p ps = go p.out.admin
    where
      go : (c : Bool) → map (λ (x : Placed). message_of x.out) (cond (not c) (p ∷ filter (λ
          (x : Placed). not x.out.admin) ps) (filter (λ (x : Placed). not x.out.admin) ps))
          ≡ adds c p ++ kept ps
      go true = refl
      go false = refl

  kept-step : (ps : List Placed) (n : ℕ) (p : Placed) → slice_get ps n ≡ Some p
      → kept (take (suc n) ps) ≡ kept (take n ps) ++ adds p.out.admin p
  kept-step [] n p is = absurd (cc is)
  kept-step (q ∷ ps) zero p is = let same : q ≡ p = cc is in kept-cons q []
      ∙ append-nil (adds q.out.admin q) ∙ ap (λ x. adds x.out.admin x) same
  kept-step (q ∷ ps) (suc n) p is =
      kept-cons q (take (suc n) ps) ∙ ap (λ l. adds q.out.admin q ++ l) (kept-step ps n p is)
      ∙ sym (append_assoc (adds q.out.admin q) (kept (take n ps)) (adds p.out.admin p))
      ∙ ap (λ l. l ++ adds p.out.admin p) (sym (kept-cons q (take n ps)))

  module _ (side : Side) (entries : List Entry) where
    abbrev below : ℕ → List Message
    below n = kept (take (n - 1) (all_placed side entries))

    below-step : (n : ℕ) (p : Placed) → placed side n entries ≡ Some p
        → below (n + 1) ≡ below n ++ adds p.out.admin p
    below-step n p is =
        let here = at_place (all_placed side entries) n p is in
        let next : n + 1 - 1 ≡ suc (n - 1) = omega (arith, here.0) in
        ap (λ k. kept (take k (all_placed side entries))) next
        ∙ kept-step (all_placed side entries) (n - 1) p here.1

    -- a fill passes over administrative outs alone
    below-fill : (count from : ℕ) → ((n : ℕ) → from ≤ n → n < from + count
        → IsSomeAnd (placed side n entries) (λ p. IsTrue p.out.admin))
        → below (from + count) ≡ below from
    below-fill zero from admin = ap below (omega arith)
    below-fill (suc count) from admin =
        let more = below-fill count from (λ n low high. admin n low (omega (arith, high))) in
        let is : from + suc count ≡ (from + count) + 1 = omega arith in
        let p = some_and (placed side (from + count) entries) (λ p. IsTrue p.out.admin)
        (admin (from + count) (omega arith) (omega arith)) in
        ap below is ∙ below-step (from + count) p.0 p.1
        ∙ ap (λ c. below (from + count) ++ adds c p.0) p.2 ∙ append-nil (below (from + count))
        ∙ more

    module _ (read : List ℕ → Read) (numbers : (out : Out)
        → (message_of out).number ≡ out.number) where
      abbrev reads : List Form → List Read
      reads forms = map (read_of_form read message_of) forms

      -- one frame more that shows an out
      shown : (p : Placed) (e : ℕ) (rest : List Read) → placed side p.out.number entries ≡ Some p
          → ((k : ℕ) → below (take_more k rest).next ≡ below k ++ (take_more k rest).taken)
          → below (take_more e (Other (message_of p.out) p.out.admin ∷ rest)).next ≡ below e
          ++ (take_more e (Other (message_of p.out) p.out.admin ∷ rest)).taken
      shown p e rest is more = elim (cases_eq (message_of p.out).number e) [
        | inl same ↦
            let at : placed side e entries ≡ Some p = ap (λ n. placed side n entries) (sym same
            ∙ numbers p.out) ∙ is in
            let taken = if_yes ((message_of p.out).number == e)
            (with_message p.out.admin p e rest) (take_more e rest) (grind (arith, nat_tests)) in
            subst (λ t. below t.next ≡ below e
            ++ t.taken) (sym taken) (go p.out.admin (below-step e p at) (more (e + 1)))
        | inr other ↦
            let passed = if_no ((message_of p.out).number == e)
            (with_message p.out.admin p e rest) (take_more e rest) (grind (arith, nat_tests)) in
            subst (λ t. below t.next ≡ below e ++ t.taken) (sym passed) (more e)
      ]
        where
          with_message : Bool → Placed → ℕ → List Read → Taking
          with_message c q k frames = let t = take_more (k + 1) frames in
              if c then t else record t { taken = message_of q.out ∷ t.taken }

          go : (c : Bool) → below (e + 1) ≡ below e ++ adds c p
              → below (take_more (e + 1) rest).next ≡ below (e + 1)
              ++ (take_more (e + 1) rest).taken
              → below (with_message c p e rest).next ≡ below e ++ (with_message c p e rest).taken
          go true step after = after ∙ ap (λ l. l ++ (take_more (e + 1) rest).taken) (step
              ∙ append-nil (below e))
          go false step after = after ∙ ap (λ l. l ++ (take_more (e + 1) rest).taken) step
              ∙ append_assoc (below e) (message_of p.out ∷ []) (take_more (e + 1) rest).taken

      all_taken : (forms : List Form) → AreForms entries side forms → (e : ℕ)
          → below (take_more e (reads forms)).next ≡ below e ++ (take_more e (reads forms)).taken
      all_taken [] are e = sym (append-nil (below e))
      all_taken (First p ∷ forms) are e = shown p e (reads forms) are.0 (all_taken forms are.1)
      all_taken (Again p now ∷ forms) are e = shown p e (reads forms) are.0 (all_taken forms are.1)
      all_taken (Fill from to first now ∷ forms) are e = filled (all_taken forms are.1)
        where
          filled : ((k : ℕ) → below (take_more k (reads forms)).next ≡ below k
              ++ (take_more k (reads forms)).taken)
              → below (take_more e (GapFill from to ∷ reads forms)).next ≡ below e
              ++ (take_more e (GapFill from to ∷ reads forms)).taken
          filled more = elim (cases_eq from e) [
            | inl same ↦
                let taken = if_yes (from == e) (take_more to (reads forms)) (take_more e
                (reads forms)) (grind (arith, nat_tests)) in
                let up = are.0.0 in
                let is : to ≡ from + (to - from) = omega arith in
                let over : below to ≡ below e = ap below is
                ∙ below-fill (to - from) from (λ n low high. are.0.1 n low (omega arith))
                ∙ ap below same in
                subst (λ t. below t.next ≡ below e ++ t.taken) (sym taken) (more to
                ∙ ap (λ l. l ++ (take_more to (reads forms)).taken) over)
            | inr other ↦
                let passed = if_no (from == e) (take_more to (reads forms)) (take_more e
                (reads forms)) (grind (arith, nat_tests)) in
                subst (λ t. below t.next ≡ below e ++ t.taken) (sym passed) (more e)
          ]

pub in_order : (read : List ℕ → Read) (message_of : Out → Message) (side : Side)
    (entries : List Entry) (forms : List Form) → ((out : Out)
    → (message_of out).number ≡ out.number) → AreForms entries side forms
    → let taking = take_more 1 (map (read_of_form read message_of) forms) in taking.taken
    ≡ committed_below read message_of side taking.next entries
in_order read message_of side entries forms numbers are = sym
    (all_taken message_of side entries read numbers forms are 1)
