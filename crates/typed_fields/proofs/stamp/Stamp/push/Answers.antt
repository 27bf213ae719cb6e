use Rattle.std.proofs.Common.{◌≡◌, ◌++◌, rules}
use Rattle.typed_fields.proofs.StampLaws.{nine_joined, six_joined}
use Rattle.typed_fields.proofs.stamp.Stamp.push.Goals as goal

pub returns-in-Six-clause-items : goal.returns-in-Six-clause-items
returns-in-Six-clause-items c =
    let one : c.extend_from_slice-in-Six.new.self.items
    ≡ c.args.out.now.items ++ c.millis_text-in-Six.result = search rules in
    let two : c.extend_from_slice-in-Six-2.new.self.items
    ≡ c.extend_from_slice-in-Six.new.self.items ++ c.three_digits.result = search rules in
    six_joined c.args.self.now c.in-Six.micros c.args.out.now.items
    c.extend_from_slice-in-Six.new.self.items c.extend_from_slice-in-Six-2.new.self.items
    c.millis_text-in-Six.result c.three_digits.result c.in-Six.is one two
    c.millis_text-in-Six.ensures c.three_digits.ensures

pub returns-in-Nine-clause-items : goal.returns-in-Nine-clause-items
returns-in-Nine-clause-items c =
    let one : c.extend_from_slice-in-Nine.new.self.items
    ≡ c.args.out.now.items ++ c.millis_text-in-Nine.result = search rules in
    let two : c.extend_from_slice-in-Nine-2.new.self.items
    ≡ c.extend_from_slice-in-Nine.new.self.items ++ c.three_digits-in-Nine.result = search rules in
    let three : c.extend_from_slice-in-Nine-3.new.self.items
    ≡ c.extend_from_slice-in-Nine-2.new.self.items ++ c.three_digits-in-Nine-2.result =
    search rules in
    nine_joined c.args.self.now c.in-Nine.nanos c.args.out.now.items
    c.extend_from_slice-in-Nine.new.self.items c.extend_from_slice-in-Nine-2.new.self.items
    c.extend_from_slice-in-Nine-3.new.self.items c.millis_text-in-Nine.result
    c.three_digits-in-Nine.result c.three_digits-in-Nine-2.result c.in-Nine.is one two three
    c.millis_text-in-Nine.ensures c.three_digits-in-Nine.ensures c.three_digits-in-Nine-2.ensures
