-- Own: what a peer rebuilds from its conversation: the orders, and the book.
use Rattle.std.specs.Prelude.{List, [], Option, fold, filter_map}
use Rattle.message_tables.specs.Tables.{◌>>=◌}
use Rattle.order_meaning.specs.declared.Side.TheVariants.{Client, Venue}
use Rattle.order_meaning.specs.Request.{Request}
use Rattle.order_meaning.specs.Book.{Book}
use Rattle.dict_fix42.specs.Sense.{request42}
use Rattle.dict_fix50.specs.Sense.{request50}
use Rattle.reports_fix42.specs.Step.{step42}
use Rattle.reports_fix50.specs.Step.{step50}
use Rattle.book_laws.specs.Heard.{Heard, book_after}
use Rattle.book_laws.specs.SetAside.{Conversation, sent_by, took_of}

-- what was asked for, in order, and the book of what the reports told
pub record Books : Type 0 where
  pub requests : List Request
  pub book : Book

-- what a request asks for, by the tables of each version
abbrev pub asked42 : Heard → Option Request
asked42 m = m.said >>= request42

abbrev pub asked50 : Heard → Option Request
asked50 m = m.said >>= request50

-- a book after a report, by the codes of each version
abbrev pub told42 : Book → Heard → Book
told42 book m = book_after step42 book m.said

abbrev pub told50 : Book → Heard → Book
told50 book m = book_after step50 book m.said

-- THE BOOKS OF A CLIENT: what it sent as requests of FIX 4.2, and took as reports of FIX 4.2
abbrev pub book42 : Conversation → Books
book42 c = record {
  requests = filter_map asked42 (sent_by Client c);
  book = fold told42 [] (took_of Venue c);
}

-- THE BOOKS OF A VENUE: what it took as requests of FIX 5.0 SP2, and sent as reports of FIX 5.0 SP2
abbrev pub book50 : Conversation → Books
book50 c = record {
  requests = filter_map asked50 (took_of Client c);
  book = fold told50 [] (sent_by Venue c);
}
