use Rattle.std.proofs.Common.{◌<◌, refl}
use Rattle.first_faults.proofs.Marked.{set_bit}
use Rattle.first_faults.proofs.indexed.Needs.keep.Goals as goal

pub returns-in-Some : goal.returns-in-Some
returns-in-Some c =
    let within : c.in-Some.at < 64 = rw c.in-Some.is at c.requires in
    rw c.in-Some.is (λ yes. (set_bit c.args.self.now.required c.in-Some.at within, refl))
