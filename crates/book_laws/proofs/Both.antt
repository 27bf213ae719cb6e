-- The laws of both books.
use Rattle.std.proofs.Common.{List, [], refl, sym, ◌∙◌}
use Rattle.std.specs.List.{AllByRecursion}
use Rattle.order_meaning.specs.declared.Side.{Side}
use Rattle.order_meaning.specs.declared.Side.TheVariants.{Client, Venue}
use Rattle.pair_entries.specs.declared.entry.Entry.{Entry}
use Rattle.kept_entries.specs.Numbers.{first_numbers}
use Rattle.event_decisions.specs.Laws.{DecisionsMake}
use Rattle.message_answers.specs.Answer.{other}
use Rattle.book_laws.specs.HeardLaws.{AnswersAreHeard, BodiesAreReadAlike, IdsAreCompared}
use Rattle.book_laws.specs.HeardLaws.{RefusalsAreHeard, SentSessionsAreHeardPlain}
use Rattle.book_laws.specs.Keeps.{KeepsHeads, KeepsJournal, conversation}
use Rattle.book_laws.specs.Laws.{ConversationsAgree, HeadersSayNothing, JournalsAgree, PeersAgree}
use Rattle.book_laws.proofs.Agree.{agree}
use Rattle.book_laws.proofs.Bodies.{took_bodies}
use Rattle.book_laws.proofs.Lawful.{all_counted, lawful_goes}
use Rattle.book_laws.proofs.Peers.{whole42, whole50}
use Rattle.book_laws.proofs.Whole.{whole}

pub journals : DecisionsMake → AnswersAreHeard → HeadersSayNothing → IdsAreCompared
    → RefusalsAreHeard → BodiesAreReadAlike → SentSessionsAreHeardPlain → JournalsAgree
journals makes hears says ids refusals alike plain names entries lawful sound bodies client_sent
    venue_sent client venue =
    agree entries (lawful_goes makes hears says ids refusals alike plain names entries lawful sound
    bodies client_sent venue_sent client venue)

heads : (side : Side) (entries : List Entry) → KeepsJournal side entries
    → KeepsJournal (other side) entries → (s : Side) → AllByRecursion (KeepsHeads s) entries
heads Client entries own far Client = own.heads
heads Client entries own far Venue = far.heads
heads Venue entries own far Client = far.heads
heads Venue entries own far Venue = own.heads

pub conversations : DecisionsMake → BodiesAreReadAlike → ConversationsAgree
conversations makes alike names side entries connections messages fronts lawful sound sent far
    justified in_order keeps filled =
    let heads_of = heads side entries keeps.journal far in
    let counted = all_counted makes names [] entries first_numbers refl sound (heads_of Client)
    (heads_of Venue) lawful in
    let is = whole side alike names entries connections messages fronts counted sent justified
    in_order keeps filled in
    record {
      client = whole42 side (conversation side messages fronts) entries is;
      venue = whole50 side (conversation side messages fronts) entries is;
    }

pub peers : JournalsAgree → ConversationsAgree → PeersAgree
peers journals conversations names entries client_side venue_side lawful sound client_sent
    venue_sent client_just venue_just client_takes venue_takes client venue client_fronts
    venue_fronts client_keeps venue_keeps client_filled venue_filled =
    (conversations names Client entries client_side client client_fronts lawful sound client_sent
    venue_keeps.journal client_just client_takes client_keeps client_filled).client
    ∙ journals names entries lawful sound
    (took_bodies names entries client_side venue_side client_just venue_just) client_sent venue_sent
    client_keeps.journal venue_keeps.journal
    ∙ sym (conversations names Venue entries venue_side venue venue_fronts lawful sound venue_sent
    client_keeps.journal venue_just venue_takes venue_keeps venue_filled).venue
