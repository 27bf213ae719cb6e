use Rattle.std.proofs.Common.{◌∙◌, ap}
use Rattle.order_meaning.specs.declared.party.Three.{Three}
use Rattle.party_translate.specs.Parties.{three_of}
use Rattle.exec_translate.proofs.downward.with_parties.Goals as goal

pub returns-clause-is : goal.returns-clause-is
returns-clause-is c =
    ap (λ (three : Three). record c.args.report {
      resend = c.args.msg.now.resend;
      client_id = three.client;
      exec_broker = three.broker;
      clearing_firm = three.firm;
    }) (c.in_ok-parties.ensures ∙ ap three_of c.as_slice.ensures.lines)
