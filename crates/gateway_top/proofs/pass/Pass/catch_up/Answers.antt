use Rattle.std.proofs.Common.{◌≡◌, ◌++◌, true, false, List, ℕ, Option, Some, refl, sym, ◌∙◌, ap}
use Rattle.std.proofs.Common.{subst}
use Rattle.frame_grammar.specs.Cut.{Good, Bad}
use Rattle.frame_grammar.specs.Held.{Held}
use Rattle.gateway_top.specs.declared.task.Task.{Task}
use Rattle.gateway_top.specs.Judge.{Judges}
use Rattle.gateway_top.specs.Task.{has_ended, first_of}
use Rattle.gateway_top.proofs.Catching.{Catching, catching_none, catching_more}
use Rattle.gateway_top.proofs.pass.Pass.catch_up.Goals as goal

pub loop-self-init : goal.loop-self-init
loop-self-init c = record {
  catching = λ stream answered before stands going judges.
      catching_none c.args.self.now.task c.args.self.now.framer
      stream answered c.args.self.now.refused before c.args.self.now.text.items stands judges;
  task = refl;
  kind = refl;
}

pub loop-self-preserved-in-Frame : goal.loop-self-preserved-in-Frame
loop-self-preserved-in-Frame c =
    let task = c.args.self.now.task in
    let first = c.args.self.now.text.items in
    let now = c.in_ok-now-in-Frame.now in
    let after = c.frame.new.self in
    record {
      catching = λ stream answered before stands going judges.
          let j = c.loop-self.invariant.catching stream answered before stands going judges in
          let next = c.in-Frame.ensures.answers stream (answered ++ j.more) j.stands in
          let said = c.in_ok-now-in-Frame.ensures.said (answered ++ j.more) next.1 next.3 next.4 in
          let still : has_ended task c.loop-self.self.refused ≡ false =
          subst (λ (t : Task). has_ended t c.loop-self.self.refused ≡ false)
          c.loop-self.invariant.task (sym c.has_ended.ensures ∙ c.loop-self-test.true) in
          let refused : c.first_of-self.result ≡ first_of c.loop-self.self.refused now =
          c.first_of-self.ensures
          ∙ ap (λ (r : Option ℕ). first_of r now) c.frame.ensures.refused in
          subst (λ (r : Option ℕ). Catching
          task after.framer stream answered r before first after.text.items) (sym refused)
          (subst (λ (f : Held). Catching task f stream answered (first_of c.loop-self.self.refused
          now) before first after.text.items) (sym c.frame.ensures.framer)
          (catching_more task c.loop-self.self.framer c.next.new.self stream answered
          c.loop-self.self.refused before first c.loop-self.self.text.items after.text.items
          j still (Good next.0 next.1) now said.0 next.2
          (subst (λ (t : Task). Judges t (answered ++ j.more) (Good next.0 next.1) now said.0)
          c.loop-self.invariant.task
          (subst (λ (b : List ℕ). Judges c.loop-self.self.task
          (answered ++ j.more) (Good b next.1) now said.0) next.5 said.2)) said.1));
      task = c.frame.ensures.task ∙ c.loop-self.invariant.task;
      kind = ap (λ (f : Held). f.kind) c.frame.ensures.framer
          ∙ c.next.ensures.kind ∙ c.loop-self.invariant.kind;
    }

pub loop-self-preserved : goal.loop-self-preserved
loop-self-preserved c =
    let task = c.args.self.now.task in
    let first = c.args.self.now.text.items in
    let now : Option ℕ = Some c.in-Garbled.at in
    let after = c.garbled.new.self in
    record {
      catching = λ stream answered before stands going judges.
          let j = c.loop-self.invariant.catching stream answered before stands going judges in
          let next = c.in-Garbled.ensures.answers stream (answered ++ j.more) j.stands in
          let said =
          c.in_ok-garbled-in-Garbled.ensures.said (answered ++ j.more) next.0 next.2 next.3 in
          let still : has_ended task c.loop-self.self.refused ≡ false =
          subst (λ (t : Task). has_ended t c.loop-self.self.refused ≡ false)
          c.loop-self.invariant.task (sym c.has_ended.ensures ∙ c.loop-self-test.true) in
          let refused : c.first_of-self-in-Garbled.result ≡ first_of c.loop-self.self.refused now =
          c.first_of-self-in-Garbled.ensures
          ∙ ap (λ (r : Option ℕ). first_of r now) c.garbled.ensures.refused in
          subst (λ (r : Option ℕ). Catching
          task after.framer stream answered r before first after.text.items) (sym refused)
          (subst (λ (f : Held). Catching task f stream answered (first_of c.loop-self.self.refused
          now) before first after.text.items) (sym c.garbled.ensures.framer)
          (catching_more task c.loop-self.self.framer c.next.new.self stream answered
          c.loop-self.self.refused before first c.loop-self.self.text.items after.text.items
          j still (Bad c.in-Garbled.cause next.0) now said.0 next.1
          (subst (λ (t : Task). Judges t (answered ++ j.more) (Bad c.in-Garbled.cause next.0)
          now said.0) c.loop-self.invariant.task said.2) said.1));
      task = c.garbled.ensures.task ∙ c.loop-self.invariant.task;
      kind = ap (λ (f : Held). f.kind) c.garbled.ensures.framer
          ∙ c.next.ensures.kind ∙ c.loop-self.invariant.kind;
    }

pub returns-in-More-clause-judged : goal.returns-in-More-clause-judged
returns-in-More-clause-judged c stream answered before stands going judges =
    let j = c.loop-self.invariant.catching stream answered before stands going judges in
    let more = c.in-More.ensures.answers stream (answered ++ j.more) j.stands in
    record {
      more = j.more;
      said = j.said;
      stands = more.0;
      judges = j.judges;
      written = j.written;
      waits = λ _. more.1;
    }

pub returns-clause-judged : goal.returns-clause-judged
returns-clause-judged c stream answered before stands going judges =
    let j = c.loop-self.invariant.catching stream answered before stands going judges in
    let ended : has_ended c.args.self.now.task c.loop-self.self.refused ≡ true =
    subst (λ (t : Task). has_ended t c.loop-self.self.refused ≡ true)
    c.loop-self.invariant.task (sym c.has_ended.ensures ∙ c.loop-self-test.false) in
    record {
      more = j.more;
      said = j.said;
      stands = j.stands;
      judges = j.judges;
      written = j.written;
      waits = λ still. absurd (cc (ended, still));
    }
