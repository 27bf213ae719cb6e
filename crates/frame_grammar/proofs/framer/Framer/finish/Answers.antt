use Rattle.std.proofs.Common.{◌≡◌, ◌+◌, ◌≤◌, ◌∙◌, ap, subst, sym, List, [], ◌∷◌, ℕ, length, arith}
use Rattle.std.proofs.Common.{refl}
use Rattle.std.specs.Prelude.{Ok, Err, Some, None}
use Rattle.std.specs.declared.result.Result.{Result}
use Rattle.frame_grammar.specs.declared.scan.Stop.{Stop}
use Rattle.frame_grammar.specs.declared.scan.Front.{Front}
use Rattle.std.specs.declared.option.Option.{Option}
use Rattle.frame_grammar.specs.declared.pieces.Lost.{Lost}
use Rattle.std.proofs.lemmas.Bool.Decides.{nat_tests}
use Rattle.frame_grammar.specs.declared.frame.Kind.{Kind}
use Rattle.frame_grammar.specs.declared.scan.Stop.TheVariants as stop
use Rattle.frame_grammar.specs.Found.{Broken, found}
use Rattle.frame_grammar.specs.Held.{Held}
use Rattle.frame_grammar.specs.Places.{capped}
use Rattle.frame_grammar.specs.Scan.{IsStop, IsFound}
use Rattle.frame_grammar.proofs.Stands.{lost_ends, broken_ends, short_ends, left_unread}
use Rattle.frame_grammar.proofs.framer.Framer.finish.Goals as goal

empty : (l : List ℕ) → length l ≡ 0 → l ≡ []
empty [] is = refl
empty (x ∷ l) is = absurd (omega (arith, is))

none_is : (o : Option Lost) → ((lost : Lost) → o ≡ Some lost → ⊥) → o ≡ None
none_is None other = refl
none_is (Some lost) other = absurd (other lost refl)

pub returns-in-Some : goal.returns-in-Some
returns-in-Some c stream left answered s cut =
    let held = c.args.self.now in
    let lost = sym (ap (λ (h : Held). h.lost) c.self.view_is) ∙ c.in-Some.is in
    let ends = lost_ends held stream left answered s cut c.in-Some.lost lost in
    let unread = c.unread-unread.ensures.value ∙ ap (λ (h : Held). h.unread) c.self.view_is in
    let len = c.saturating_add.ensures
    ∙ ap (λ (l : List ℕ). capped (c.in-Some.lost.dropped + length l)) unread in
    (ends.0, ends.1, len ∙ ends.2)

pub returns-in-Err-Garbled : goal.returns-in-Err-Garbled
returns-in-Err-Garbled c stream left answered s cut =
    let held = c.args.self.now in
    let none = sym (ap (λ (h : Held). h.lost) c.self.view_is)
    ∙ none_is c.self.inside.lost c.in_default.not-Some in
    let kind = ap (λ (h : Held). h.kind) c.self.view_is in
    let at = ap (λ (h : Held). h.at) c.self.view_is in
    let unread = ap (λ (h : Held). h.unread) c.self.view_is in
    let cause = c.in-Err-Garbled.cause in
    let inner = c.self.inside.buffer.unread in
    let stopped : IsStop (stop.Garbled cause) (found c.self.inside.kind inner) =
    subst (λ t. IsStop t (found c.self.inside.kind inner))
    c.in-Err-Garbled.field-0-is c.in-Err-Garbled.ensures in
    let is : found held.kind held.unread ≡ Broken cause stopped.0 =
    ap (λ (k : Kind). found k held.unread) (sym kind)
    ∙ ap (found c.self.inside.kind) (sym unread) ∙ stopped.1 in
    let small : length held.unread ≤ 16384 = omega (arith, ap length unread, c.self.invariant) in
    let ends = broken_ends held stream left answered s cut none cause (stopped.0, is) small in
    (ends.0, at ∙ ends.1, ap length (c.unread-unread.ensures.value ∙ unread) ∙ ends.2)

pub returns-then-is_empty : goal.returns-then-is_empty
returns-then-is_empty c stream left answered s cut =
    let held = c.args.self.now in
    let none = sym (ap (λ (h : Held). h.lost) c.self.view_is)
    ∙ none_is c.self.inside.lost c.in_default.not-Some in
    let unread = c.unread-unread.ensures.value ∙ ap (λ (h : Held). h.unread) c.self.view_is in
    let nothing : length c.unread-unread.result.now ≡ 0 =
    grind (arith, nat_tests, c.is_empty.ensures, c.if-is_empty.true) in
    left_unread held stream left answered s cut none
    ∙ sym unread ∙ empty c.unread-unread.result.now nothing

pub returns-in-Err-More : goal.returns-in-Err-More
returns-in-Err-More c stream left answered s cut =
    let held = c.args.self.now in
    let none = sym (ap (λ (h : Held). h.lost) c.self.view_is)
    ∙ none_is c.self.inside.lost c.in_default.not-Some in
    let kind = ap (λ (h : Held). h.kind) c.self.view_is in
    let inner = ap (λ (h : Held). h.unread) c.self.view_is in
    let unread = c.unread-unread.ensures.value ∙ inner in
    let front : Result Front Stop = Err stop.More in
    let stopped : IsFound
    front c.self.inside.buffer.unread (found c.self.inside.kind c.self.inside.buffer.unread) =
    subst (λ t. IsStop t (found c.self.inside.kind c.self.inside.buffer.unread))
    c.in-Err-More.field-0-is c.in-Err-More.ensures in
    let is = subst (λ (l : List ℕ). IsFound front l (found held.kind l)) inner
    (subst (λ (k : Kind). IsFound
    front c.self.inside.buffer.unread (found k c.self.inside.buffer.unread)) kind stopped) in
    let some : held.unread ≡ [] → ⊥ = λ none_left. let zero : length c.unread-unread.result.now
    ≡ 0 = ap length (unread ∙ none_left)
    in grind (arith, nat_tests, c.is_empty.ensures, c.if-is_empty.false, zero) in
    let ends = short_ends
    held stream left answered s cut none front is (λ cause garbled. absurd (cc garbled)) some in
    rw c.inside.ensures ends

pub returns-in-Ok : goal.returns-in-Ok
returns-in-Ok c stream left answered s cut =
    let held = c.args.self.now in
    let none = sym (ap (λ (h : Held). h.lost) c.self.view_is)
    ∙ none_is c.self.inside.lost c.in_default.not-Some in
    let kind = ap (λ (h : Held). h.kind) c.self.view_is in
    let inner = ap (λ (h : Held). h.unread) c.self.view_is in
    let unread = c.unread-unread.ensures.value ∙ inner in
    let front : Result Front Stop = Ok c.in-Ok.field-0 in
    let is = subst (λ (l : List ℕ). IsFound front l (found held.kind l)) inner
    (subst (λ (k : Kind). IsFound front
    c.self.inside.buffer.unread (found k c.self.inside.buffer.unread)) kind c.in-Ok.ensures) in
    let some : held.unread ≡ [] → ⊥ = λ none_left. let zero : length c.unread-unread.result.now
    ≡ 0 = ap length (unread ∙ none_left)
    in grind (arith, nat_tests, c.is_empty.ensures, c.if-is_empty.false, zero) in
    let ends = short_ends
    held stream left answered s cut none front is (λ cause garbled. absurd (cc garbled)) some in
    rw c.inside-in-Ok.ensures ends
