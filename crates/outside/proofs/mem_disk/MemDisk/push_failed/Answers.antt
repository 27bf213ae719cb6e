use Rattle.std.proofs.Common.{◌≡◌, ◌≤◌, ◌∙◌, false, length, refl, sym, ap, subst, rules}
use Rattle.outside.specs.Memory.{Write}
use Rattle.outside.specs.MemDisk.{IsDisk, state_of, staged}
use Rattle.outside.proofs.Torn.{with_writes, seen, staged_is_disk}
use Rattle.outside.proofs.mem_disk.MemDisk.push_failed.Goals as goal

kept : (c : goal.In_ok-push) → c.in_ok-piece.piece.items ≡ c.args.piece.now
kept c = search rules

now_is : (c : goal.In_ok-push) → with_writes c.self.inside c.self.inside.bytes.items
    c.push.new.self.items ≡ staged false c.args.at c.args.piece.now (state_of c.self.inside)
now_is c =
    seen c.self.inside
    false c.args.at c.args.piece.now c.self.inside.bytes.items c.push.new.self.items _
    c.in_ok-push.ensures.items
    (ap (λ l. let w : Write = record { at = c.args.at; piece = l } in w) (kept c)) refl refl

within : (c : goal.In_ok-push) → c.args.at ≤ length (state_of c.self.inside).bytes
within c = subst (λ s. c.args.at ≤ length s.bytes) (sym c.self.view_is) c.requires

pub invariant_of-self-2 : goal.invariant_of-self-2
invariant_of-self-2 c = subst IsDisk (sym (now_is c)) (staged_is_disk
    c.args.at c.args.piece.now (state_of c.self.inside) c.self.invariant (within c) false)

pub returns-clause-ok : goal.returns-clause-ok
returns-clause-ok c = now_is c ∙ ap (staged false c.args.at c.args.piece.now) c.self.view_is
