use Rattle.std.proofs.Common.{rules}
use Rattle.requests_fix44.proofs.reading.new_of.Goals as goal

pub returns-clause-says : goal.returns-clause-says
returns-clause-says c = record {
  read = record {
    resend = search rules;
    rows = (search rules, (search rules, (search rules, search rules parts 60)));
  };
  parties = search rules;
  allocs = search rules;
  sessions = search rules;
}
