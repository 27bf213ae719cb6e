use Rattle.std.proofs.Common.{[]}
use Rattle.gateway_life.proofs.laws.lives_follow.Goals as goal

pub returns : goal.returns
returns c = λ names. record {
  ended = tt;
  present = record {
    lawful = tt;
    client = record { forms = []; shows = tt; once = tt; tooks = tt };
    venue = record { forms = []; shows = tt; once = tt; tooks = tt };
  };
}
