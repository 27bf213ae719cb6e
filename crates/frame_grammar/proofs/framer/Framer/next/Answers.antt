use Rattle.std.proofs.Common.{◌≡◌, ◌+◌, ◌-◌, ◌≤◌, ◌<◌, length-append, ◌∙◌, ap, subst, sym, List, ℕ}
use Rattle.std.proofs.Common.{length, drop, min, arith, refl, Some, None, MatchOption}
use Rattle.std.specs.Prelude.{slice_range}
use Rattle.std.specs.declared.option.Option.{Option}
use Rattle.frame_grammar.specs.declared.frame.Kind.{Kind}
use Rattle.frame_grammar.specs.declared.pieces.Lost.{Lost}
use Rattle.frame_grammar.specs.declared.pieces.Next.TheVariants as next
use Rattle.frame_grammar.specs.declared.scan.Stop.TheVariants as stop
use Rattle.frame_grammar.specs.Cut.{start_in}
use Rattle.frame_grammar.specs.Found.{Whole, Short, Broken, found}
use Rattle.frame_grammar.specs.Held.{Held, past, lost_by, found_by}
use Rattle.frame_grammar.specs.Scan.{IsStop}
use Rattle.frame_grammar.proofs.Bounded.{short_bounded}
use Rattle.frame_grammar.proofs.Stands.{lost_answers, broken_answers, frame_answers}
use Rattle.frame_grammar.specs.Frame.{IsFrame, front, trailer}
use Rattle.frame_grammar.proofs.Only.{frame_found}
use Rattle.frame_grammar.proofs.framer.Framer.next.Goals as goal

-- a frame has bytes
frame_bytes : (kind : Kind) (body bytes : List ℕ) → IsFrame kind body bytes → 7 ≤ length bytes
frame_bytes kind body bytes is =
    omega (
      arith,
      ap length is.joined,
      length-append (front kind is.digits body) (trailer (front kind is.digits body)),
    )

-- so what follows a frame at the front of some bytes is shorter than they are
frame_shortens : (kind : Kind) (body bytes : List ℕ) (end : ℕ)
    → found kind bytes ≡ Whole body (drop end bytes) → length (drop end bytes) < length bytes
frame_shortens kind body bytes end is =
    let at = frame_found kind bytes body (drop end bytes) is in
    omega (
      arith,
      frame_bytes kind body at.0 at.1,
      ap length at.2,
      length-append at.0 (drop end bytes),
    )

none_is : (o : Option Lost) → ((lost : Lost) → o ≡ Some lost → ⊥) → o ≡ None
none_is None other = refl
none_is (Some lost) other = absurd (other lost refl)

pub returns-in-Some-clause-answers : goal.returns-in-Some-clause-answers
returns-in-Some-clause-answers c =
    let lost = sym (ap (λ (h : Held). h.lost) c.self.view_is) ∙ c.in-Some.is in
    lost_answers c.args.self.now c.next_garbled.new.self c.next_garbled.result
    c.in-Some.lost lost c.next_garbled.ensures.ended c.next_garbled.ensures.after

pub returns-in-Err-More-clause-room : goal.returns-in-Err-More-clause-room
returns-in-Err-More-clause-room c is =
    let held = c.args.self.now in
    let inner = c.self.inside.buffer.unread in
    let stopped : found c.self.inside.kind inner ≡ Short = subst (λ t.
    IsStop t (found c.self.inside.kind inner)) c.in-Err-More.field-0-is c.in-Err-More.ensures in
    omega (
      arith,
      short_bounded c.self.inside.kind inner stopped,
      ap (λ (h : Held). length h.unread) c.self.view_is,
    )

pub returns-in-Ok-clause-answers : goal.returns-in-Ok-clause-answers
returns-in-Ok-clause-answers c stream answered s =
    let held = c.args.self.now in
    let front = c.in-Ok.front in
    let start = front.body.start in
    let len = front.body.len in
    let end = front.end in
    let kind = ap (λ (h : Held). h.kind) c.self.view_is in
    let unread = ap (λ (h : Held). h.unread) c.self.view_is in
    let none = sym (ap (λ (h : Held). h.lost) c.self.view_is)
    ∙ none_is c.self.inside.lost c.in_default.not-Some in
    let is = subst (λ (l : List ℕ). found held.kind l
    ≡ Whole (slice_range l start (start + len)) (drop end l)) unread
    (subst (λ (k : Kind). found k c.self.inside.buffer.unread
    ≡ Whole (slice_range c.self.inside.buffer.unread start (start + len))
    (drop end c.self.inside.buffer.unread)) kind c.in-Ok.ensures.2) in
    let within : end ≤ length held.unread = omega (arith, c.in-Ok.ensures.1, ap length unread) in
    let answers =
    frame_answers held start len end none c.in-Ok.ensures.0 within is stream answered s in
    rw (c.next_frame.ensures.answer, c.next_frame.ensures.after) answers

pub returns-in-Err-Garbled-clause-answers : goal.returns-in-Err-Garbled-clause-answers
returns-in-Err-Garbled-clause-answers c =
    let held = c.args.self.now in
    let cause = c.in-Err-Garbled.cause in
    let inner = c.self.inside.buffer.unread in
    let kind = ap (λ (h : Held). h.kind) c.self.view_is in
    let unread = ap (λ (h : Held). h.unread) c.self.view_is in
    let none = sym (ap (λ (h : Held). h.lost) c.self.view_is)
    ∙ none_is c.self.inside.lost c.in_default.not-Some in
    let stopped : IsStop (stop.Garbled cause) (found c.self.inside.kind inner) =
    subst (λ t. IsStop t (found c.self.inside.kind inner))
    c.in-Err-Garbled.field-0-is c.in-Err-Garbled.ensures in
    let is : found held.kind held.unread ≡ Broken cause stopped.0 =
    ap (λ (k : Kind). found k held.unread) (sym kind)
    ∙ ap (found c.self.inside.kind) (sym unread) ∙ stopped.1 in
    let at = ap (λ (h : Held). h.at) c.self.view_is in
    let result = c.next_garbled-in-Err-Garbled.result in
    let new = c.next_garbled-in-Err-Garbled.new.self in
    broken_answers held new result cause stopped.0 none is
    (subst (λ (a : ℕ). MatchOption (start_in (drop 1 held.unread)) (result ≡ next.More)
    (λ k. result ≡ found_by (record { at = a; cause = cause; dropped = 0 }) (1 + k)))
    at c.next_garbled-in-Err-Garbled.ensures.ended)
    (subst (λ (a : ℕ). MatchOption (start_in (drop 1 held.unread)) (new ≡ lost_by (record {
      at = a;
      cause = cause;
      dropped = 0;
    }) (length held.unread - min 4 (length held.unread - 1)) held)
    (λ k. new ≡ record (past (1 + k) held) { lost = None }))
    at c.next_garbled-in-Err-Garbled.ensures.after)

pub returns-in-Ok-clause-progress : goal.returns-in-Ok-clause-progress
returns-in-Ok-clause-progress c more =
    let front = c.in-Ok.front in
    let inner = c.self.inside.buffer.unread in
    let shorter = frame_shortens c.self.inside.kind (slice_range inner
    front.body.start (front.body.start + front.body.len)) inner front.end c.in-Ok.ensures.2 in
    let less : length (drop front.end c.args.self.now.unread) < length c.args.self.now.unread =
    subst (λ (l : List ℕ). length (drop front.end l) < length l)
    (ap (λ (h : Held). h.unread) c.self.view_is) shorter in
    rw c.next_frame.ensures.after (omega (arith, less))
