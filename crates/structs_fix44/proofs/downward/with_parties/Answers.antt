use Rattle.std.proofs.Common.{List, ap, ◌∙◌}
use Rattle.order_meaning.specs.declared.party.PartyLine.{PartyLine}
use Rattle.party_translate.specs.Parties.{parties_of, three_of}
use Rattle.structs_fix44.proofs.downward.with_parties.Goals as goal

pub returns-clause-is : goal.returns-clause-is
returns-clause-is c =
    ap (λ (lines : List PartyLine). record c.args.report {
      resend = c.args.msg.now.resend;
      parties = lines;
    }) (c.in_ok-parties.ensures ∙ ap parties_of (c.in_ok-three.ensures
    ∙ ap three_of c.as_slice.ensures.lines))
