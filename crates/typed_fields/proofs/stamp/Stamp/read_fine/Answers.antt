use Rattle.std.proofs.Common.{◌≡◌, ◌++◌, ◌∙◌, codes, sym, true}
use Rattle.typed_fields.specs.Stamp.{is_fine_form}
use Rattle.typed_fields.proofs.DigitsLemmas.{has_pattern-take}
use Rattle.typed_fields.proofs.StampLaws.{moment_in_bound}
use Rattle.typed_fields.proofs.StampLemmas.{form_of, formed}
use Rattle.typed_fields.proofs.stamp.Stamp.read_fine.Goals as goal

pub read_moment-requires-clause-form : goal.read_moment-requires-clause-form
read_moment-requires-clause-form c =
    let v = c.args.value.now in
    let is = formed v (form_of v c.in-Some.frac (sym c.fraction_in.ensures ∙ c.in-Some.is)) in
    has_pattern-take 17 (codes "YYYYMMDD-HH:MM:SS" ++ is.more) v is.form

pub returns-in-Some-clause-bound : goal.returns-in-Some-clause-bound
returns-in-Some-clause-bound c =
    let v = c.args.value.now in
    let form : is_fine_form v ≡ true =
    form_of v c.in-Some.frac (sym c.fraction_in.ensures ∙ c.in-Some.is) in
    moment_in_bound v c.read_moment.result form c.read_moment.ensures
