-- What goes on carries what came.
use Rattle.std.proofs.Common.{sym}
use Rattle.order_meaning.specs.declared.Side.TheVariants.{Client, Venue}
use Rattle.request_rules.specs.Rules.{up_message}
use Rattle.report_rules.proofs.SenseDown.{books_alike}
use Rattle.message_answers.specs.Laws.{ForwardedMessagesCarry}

pub carried : ForwardedMessagesCarry
carried Client original m text goes =
    record { out = up_message m; content = goes.canonical; carries = sym goes.means }
carried Venue original m text goes = record {
  out = goes.client;
  content = goes.content;
  carries = λ book. sym (books_alike original m goes.client goes.means book);
}
