use Rattle.std.proofs.Common.{List, ℕ, ◌++◌, ap, sym, ◌∙◌, refl, pos}
use Rattle.typed_fields.proofs.dec.Dec.respell.Goals as goal

pub returns-then-push_plain-clause-ok : goal.returns-then-push_plain-clause-ok
returns-then-push_plain-clause-ok c =
    let own = c.if-push_plain.ensures.own refl in
    record {
      dec = record { units = pos own.units };
      read = own.plain.value;
      appended = c.if-push_plain.ensures.items refl
          ∙ ap (λ (l : List ℕ). c.args.out.now.items ++ l) (sym own.text);
    }
