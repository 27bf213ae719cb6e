use Rattle.std.proofs.Common.{◌≡◌, ◌≢◌, ◌≤◌, ◌++◌, [], ℕ, false, List, sym, ◌∙◌, ap, subst, None}
use Rattle.std.proofs.Common.{inl, take, length, arith, length-take, length-append, Err}
use Rattle.std.specs.Prelude.{◌==◌}
use Rattle.std.proofs.lemmas.Bool.Decides.{nat_tests}
use Rattle.std.proofs.KnownBytes.{Appends-nil, Appends-trans, Consumes-nil}
use Rattle.outside.proofs.Fronts.{appended_front}
use Rattle.frame_grammar.specs.declared.frame.Kind.{Kind}
use Rattle.frame_grammar.specs.Cut.{Cut}
use Rattle.frame_grammar.specs.Places.{EndsIn, place_after}
use Rattle.gateway_top.specs.declared.status.Status.{Status}
use Rattle.gateway_top.specs.declared.task.Task.{Task}
use Rattle.gateway_top.specs.Pass.{Advances, Ends}
use Rattle.gateway_top.specs.Task.{has_ended, stops}
use Rattle.gateway_top.proofs.Midway.{waits_at_start, midway_more, consumed_more, consumed_all}
use Rattle.gateway_top.proofs.Midway.{too_long, no_memory, consumed_still, input_failed, stopped}
use Rattle.gateway_top.proofs.Midway.{said_now, ran_to_end}
use Rattle.gateway_top.proofs.stream.run_stream.Goals as goal

-- so many bytes of a buffer that has them
length_front : (xs : List ℕ) (n : ℕ) → n ≤ length xs → length (take n xs) ≡ n
length_front xs n within = omega (arith, length-take n xs)

take_none : (xs : List ℕ) (n : ℕ) → n ≡ 0 → take n xs ≡ []
take_none xs n none = ap (λ (k : ℕ). take k xs) none

some_read : (count : ℕ) → count ≢ 0 → (count == 0) ≡ false
some_read count some = grind (arith, nat_tests)

pub returns-in_default-clause-ran : goal.returns-in_default-clause-ran
returns-in_default-clause-ran g c =
    ([], Consumes-nil _, (omega arith, (0, None, [], waits_at_start c.args.task, Appends-nil _)))

pub returns-in-Ok-eq0-clause-ran : goal.returns-in-Ok-eq0-clause-ran
returns-in-Ok-eq0-clause-ran g c =
    let m = c.loop-pass.invariant.midway in
    let kind = c.loop-pass.invariant.kind in
    let cut = subst (λ (k : Kind). Cut k m.bytes m.answered m.rest) (sym kind) m.cut in
    let e = c.end.ensures.ends m.bytes m.rest m.answered m.stands cut in
    let ends = subst (λ (k : Kind). EndsIn e.0 k (place_after m.answered) m.rest) kind e.1 in
    let said = subst (λ (t : Task). Ends t e.0 c.loop-pass.pass.refused c.end.result (g.O.Sink.bytes
    c.loop-pass.out) (g.O.Sink.bytes c.end.new.out)) c.loop-pass.invariant.task e.2 in
    let none = take_none c.read_some.new.buf c.in-Ok-eq0.field-0 c.in-Ok-eq0.field-0-test in (
      m.bytes,
      consumed_all _ _ _ _ _ _ _ _ m _ _ none c.in-Ok-eq0.ensures.bytes,
      ran_to_end _ _ _ _ _ _ _ _ m (g.I.Source.left c.read_some.new.input)
          e.0 (c.in-Ok-eq0.ensures.end c.in-Ok-eq0.field-0-test) c.loop-pass.invariant.limit ends
          c.end.result (g.O.Sink.bytes c.end.new.out) said,
    )

-- an end is no fault of the input
pub returns-in-Ok-eq0-clause-input_fault : goal.returns-in-Ok-eq0-clause-input_fault
returns-in-Ok-eq0-clause-input_fault g c = λ is.
    let m = c.loop-pass.invariant.midway in
    let kind = c.loop-pass.invariant.kind in
    let cut = subst (λ (k : Kind). Cut k m.bytes m.answered m.rest) (sym kind) m.cut in
    let e = c.end.ensures.ends m.bytes m.rest m.answered m.stands cut in
    absurd (subst (λ (s : Status). Ends c.loop-pass.pass.task e.0 c.loop-pass.pass.refused s
    (g.O.Sink.bytes c.loop-pass.out) (g.O.Sink.bytes c.end.new.out)) is e.2)

pub returns-in-Err-clause-ran : goal.returns-in-Err-clause-ran
returns-in-Err-clause-ran g c =
    let m = c.loop-pass.invariant.midway in (
      m.bytes,
      consumed_still _ _ _ _ _ _ _ _ m _ c.in-Err.ensures.err,
      input_failed
          _ _ _ _ _ _ _ _ m (g.I.Source.left c.read_some.new.input) c.loop-pass.invariant.limit,
    )

pub returns-then-count-taken-clause-ran : goal.returns-then-count-taken-clause-ran
returns-then-count-taken-clause-ran g c =
    let m = c.loop-pass.invariant.midway in
    let count = c.in-Ok-read_some.count in
    let most = c.in-Ok-read_some.ensures.bound in
    let full : c.loop-pass.taken ≡ 67108864 = omega
    (arith, c.clamp-most.ensures, c.if-count-taken.true, most, c.loop-pass.invariant.limit) in
    let one : count ≡ 1 = omega
    (arith, c.clamp-most.ensures, c.if-count-taken.true, most, c.loop-pass.invariant.limit) in
    let long =
    length_front c.read_some.new.buf count (omega (arith, one, c.loop-pass.invariant.buf)) in (
      _,
      consumed_more _ _ _ _ _ _ _ _ m _ _ c.in-Ok-read_some.ensures.bytes,
      too_long _ _ _ _ _ _ _ _ m (g.I.Source.left c.read_some.new.input)
          (take count c.read_some.new.buf) full (long ∙ one),
    )

pub returns-in-Err-OutputFault-clause-ran : goal.returns-in-Err-OutputFault-clause-ran
returns-in-Err-OutputFault-clause-ran g c =
    let m = c.loop-pass.invariant.midway in
    let kind = c.take.ensures.kind ∙ c.loop-pass.invariant.kind in
    let count = c.in-Ok-read_some.count in
    let bytes = take count c.read_some.new.buf in
    let long = length_front c.read_some.new.buf count (omega (
      arith,
      c.in-Ok-read_some.ensures.bound,
      c.clamp-most.ensures,
      c.loop-pass.invariant.buf,
    )) in
    let few : length bytes ≤ 4096 =
    omega (arith, long, c.in-Ok-read_some.ensures.bound, c.clamp-most.ensures) in
    let failed = ap (λ e. Err e) c.in-Err-OutputFault.field-0-is in
    let judged = subst (λ (t : Task). Advances t c.loop-pass.pass.framer c.take.new.self.framer
    c.loop-pass.pass.refused c.take.new.self.refused bytes c.take.new.self.text.items)
    c.loop-pass.invariant.task (c.in-Err-OutputFault.ensures.fault failed) in
    let put = c.in-Err-OutputFault.ensures.fault_put failed in (
      m.bytes ++ bytes,
      consumed_more _ _ _ _ _ _ _ _ m _ _ c.in-Ok-read_some.ensures.bytes,
      (
        omega (
          arith,
          length-append m.bytes bytes,
          long,
          m.taken_is,
          c.if-count-taken.false,
          c.loop-pass.invariant.limit,
        ),
        (
          _,
          said_now
              _ _ _ _ _ _ _ _ m _ _ bytes _ kind judged few (g.I.Source.left c.read_some.new.input),
          appended_front _ _ _ _ _ m.put put,
        ),
      ),
    )

pub returns-in-Err-NoMemory-clause-ran : goal.returns-in-Err-NoMemory-clause-ran
returns-in-Err-NoMemory-clause-ran g c =
    let m = c.loop-pass.invariant.midway in
    let count = c.in-Ok-read_some.count in
    let bytes = take count c.read_some.new.buf in
    let long = length_front c.read_some.new.buf count (omega (
      arith,
      c.in-Ok-read_some.ensures.bound,
      c.clamp-most.ensures,
      c.loop-pass.invariant.buf,
    )) in
    let failed = ap (λ e. Err e) c.in-Err-NoMemory.field-0-is in (
      m.bytes ++ bytes,
      consumed_more _ _ _ _ _ _ _ _ m _ _ c.in-Ok-read_some.ensures.bytes,
      no_memory _ _ _
          _ _ _ _ _ m (g.I.Source.left c.read_some.new.input) (g.O.Sink.bytes c.take.new.out) bytes
          (omega (arith, long, c.if-count-taken.false, c.loop-pass.invariant.limit))
          (c.in-Err-NoMemory.ensures.memory failed),
    )

pub returns-in-Some-clause-ran : goal.returns-in-Some-clause-ran
returns-in-Some-clause-ran g c =
    let m = c.loop-pass.invariant.midway in
    let kind = c.take.ensures.kind ∙ c.loop-pass.invariant.kind in
    let task = c.take.ensures.task ∙ c.loop-pass.invariant.task in
    let count = c.in-Ok-read_some.count in
    let bytes = take count c.read_some.new.buf in
    let long = length_front c.read_some.new.buf count (omega (
      arith,
      c.in-Ok-read_some.ensures.bound,
      c.clamp-most.ensures,
      c.loop-pass.invariant.buf,
    )) in
    let few : length bytes ≤ 4096 =
    omega (arith, long, c.in-Ok-read_some.ensures.bound, c.clamp-most.ensures) in
    let judged = subst (λ (t : Task). Advances t c.loop-pass.pass.framer c.take.new.self.framer
    c.loop-pass.pass.refused c.take.new.self.refused bytes c.take.new.self.text.items)
    c.loop-pass.invariant.task c.in-Ok-take.ensures.judged in
    let at = c.in-Some.ensures.some in
    let ends = ap (λ (t : Task). stops t) (sym task) ∙ at.1 in (
      m.bytes ++ bytes,
      consumed_more _ _ _ _ _ _ _ _ m _ _ c.in-Ok-read_some.ensures.bytes,
      (
        omega (
          arith,
          length-append m.bytes bytes,
          long,
          m.taken_is,
          c.if-count-taken.false,
          c.loop-pass.invariant.limit,
        ),
        (
          _,
          inl (stopped _ _ _ _ _ _ _ _ m _ _ bytes _ kind judged few c.in-Some.at at.0 ends),
          Appends-trans _ _ _ _ _ m.put c.in-Ok-take.ensures.put,
        ),
      ),
    )

pub loop-pass-preserved : goal.loop-pass-preserved
loop-pass-preserved g c =
    let m = c.loop-pass.invariant.midway in
    let kind = c.take.ensures.kind ∙ c.loop-pass.invariant.kind in
    let task = c.take.ensures.task ∙ c.loop-pass.invariant.task in
    let count = c.in-Ok-read_some.count in
    let bytes = take count c.read_some.new.buf in
    let long = length_front c.read_some.new.buf count (omega (
      arith,
      c.in-Ok-read_some.ensures.bound,
      c.clamp-most.ensures,
      c.loop-pass.invariant.buf,
    )) in
    let judged = subst (λ (t : Task). Advances t c.loop-pass.pass.framer c.take.new.self.framer
    c.loop-pass.pass.refused c.take.new.self.refused bytes c.take.new.self.text.items)
    c.loop-pass.invariant.task c.in-Ok-take.ensures.judged in
    let going = ap (λ (t : Task). has_ended t c.take.new.self.refused) (sym task)
    ∙ c.in_default-ended_at.ensures.none in
    let room = c.in-Ok-take.ensures.still_room
    (ap (λ (t : Task). has_ended t c.take.new.self.refused) c.loop-pass.invariant.task ∙ going)
    in
    record {
      midway = midway_more _ _ _ _ _ _ _ _ m _ _ bytes _ kind judged
          (g.I.Source.left c.read_some.new.input) (g.O.Sink.bytes c.take.new.out)
          count long c.in-Ok-read_some.ensures.bytes c.in-Ok-take.ensures.put going;
      task = task;
      kind = kind;
      room = room;
      limit = omega (arith, c.if-count-taken.false, c.loop-pass.invariant.limit);
      buf = omega (arith, c.read_some.auto.buf, c.loop-pass.invariant.buf);
      going = c.in-Ok-read_some.ensures.ended
          ∙ some_read c.in-Ok-read_some.count c.in-Ok-read_some.count-test.1;
      input_faults = c.in-Ok-read_some.ensures.cause.still ∙ c.loop-pass.invariant.input_faults;
      output_faults = c.in-Ok-take.ensures.still ∙ c.loop-pass.invariant.output_faults;
    }
