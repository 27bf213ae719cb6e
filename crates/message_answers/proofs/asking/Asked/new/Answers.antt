use Rattle.std.proofs.Common.{◌∙◌, ap, sym}
use Rattle.event_decisions.specs.Body.{Reading, first_value}
use Rattle.message_answers.proofs.Forwards.{reading_is, same_type}
use Rattle.message_answers.proofs.asking.Asked.new.Goals as goal

pub returns-clause-split : goal.returns-clause-split
returns-clause-split c =
    let body = c.args.body.now in
    let split = c.args.split.now in
    let same = reading_is body split.fields split.fault c.requires.split in
    record {
      body = c.requires.body;
      fields = sym (ap (λ (r : Reading). r.fields) same);
      fault = sym (ap (λ (r : Reading). r.fault) same);
      msg_type = c.msg_type.ensures ∙ same_type split.fields
          ∙ sym (ap (λ (r : Reading). first_value r.fields) same);
    }
