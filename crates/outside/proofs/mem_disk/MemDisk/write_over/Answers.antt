use Rattle.std.proofs.Common.{◌≡◌, ◌≤◌, ◌∙◌, true, length, take, drop, sym, ap, subst, rules}
use Rattle.outside.specs.Disk.{write}
use Rattle.outside.specs.Memory.{Write}
use Rattle.outside.specs.MemDisk.{IsDisk, state_of, staged}
use Rattle.outside.proofs.Torn.{with_writes, seen, undo_back, staged_is_disk}
use Rattle.outside.proofs.mem_disk.MemDisk.write_over.Goals as goal

kept : (c : goal.In_default) → c.in_ok-kept.kept.items ≡ c.args.piece.now
kept c = search rules

under : (c : goal.In_default) → c.in_ok-under.under.items
    ≡ take (length c.args.piece.now) (drop c.args.at c.self.inside.bytes.items)
under c = search rules

written : (c : goal.In_default)
    → c.overwrite.new.bytes.items ≡ write c.args.at c.args.piece.now c.self.inside.bytes.items
written c = search rules

within : (c : goal.In_default) → c.args.at ≤ length c.self.inside.bytes.items
within c = subst (λ s. c.args.at ≤ length s.bytes) (sym c.self.view_is) c.requires

now_is : (c : goal.In_default) → with_writes c.self.inside c.overwrite.new.bytes.items
    c.push.new.self.items ≡ staged true c.args.at c.args.piece.now (state_of c.self.inside)
now_is c =
    seen c.self.inside
    true c.args.at c.args.piece.now c.overwrite.new.bytes.items c.push.new.self.items _
    c.in_ok-push.ensures.items
    (ap (λ l. let w : Write = record { at = c.args.at; piece = l } in w) (kept c)) (written c)
    (undo_back c.args.at
    c.args.piece.now c.self.inside.bytes.items _ _ _ (kept c) (under c) (written c) (within c))

pub invariant_of-self-in_default : goal.invariant_of-self-in_default
invariant_of-self-in_default c = subst IsDisk (sym (now_is c)) (staged_is_disk
    c.args.at c.args.piece.now (state_of c.self.inside) c.self.invariant (within c) true)

pub returns-clause-ok : goal.returns-clause-ok
returns-clause-ok c = now_is c ∙ ap (staged true c.args.at c.args.piece.now) c.self.view_is
