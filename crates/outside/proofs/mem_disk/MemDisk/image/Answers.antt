use Rattle.std.proofs.Common.{◌≡◌, Result, Ok, Err, IfOk, sym, ◌∙◌, ap, subst, inr, map, rules}
use Rattle.outside.specs.MemDisk.{IsDisk, IsImageOf, write_of, all_written}
use Rattle.outside.specs.declared.mem_disk.Image.TheVariants as images
use Rattle.outside.proofs.Torn.{picked_is_image, all_torn}
use Rattle.outside.proofs.mem_disk.MemDisk.image.Goals as goal

if_ok : {T E : Type 0} (r : Result T E) (P Q : T → Type 0)
    → ((v : T) → P v → Q v) → IfOk r P → IfOk r Q
if_ok (Ok v) P Q f p = f v p
if_ok (Err e) P Q f p = tt

pub returns-then-eq-clause-among : goal.returns-then-eq-clause-among
returns-then-eq-clause-among c =
    let is = subst IsDisk c.self.view_is c.self.invariant in
    let now : c.in_ok-stable.stable.items ≡ c.args.self.now.stable = search rules in
    subst (IsImageOf c.args.self.now) (sym now) (picked_is_image images.Old c.args.self.now is)

pub returns-clause-among : goal.returns-clause-among
returns-clause-among c =
    let is = subst IsDisk c.self.view_is c.self.invariant in
    let disk = c.args.self.now in
    let stable : c.in_ok-stable.stable.items ≡ disk.stable = search rules in
    let writes : map write_of c.deref-3.result.now ≡ disk.pending = search rules in
    let writes_now = map write_of c.deref-3.result.now in
    if_ok c.write_all.result
    (λ v. v.items ≡ all_written c.args.pick c.in_ok-stable.stable.items writes_now)
    (λ v. IsImageOf disk v.items)
    (λ v now. subst (IsImageOf disk)
    (sym (now ∙ ap (λ s. all_written c.args.pick s writes_now) stable
    ∙ ap (all_written c.args.pick disk.stable) writes))
    (inr (all_torn c.args.pick disk.stable disk.pending is.begin)))
    c.write_all.ensures
