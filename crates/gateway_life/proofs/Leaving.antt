-- What a life leaves, by the laws of lives.
use Rattle.std.proofs.Common.{◌≡◌, ℕ, List, [], ◌∷◌, ◌++◌, map, refl, sym, ◌∙◌, ap, subst}
use Rattle.std.proofs.Common.{append-nil, length, None}
use Rattle.order_meaning.specs.declared.Side.{Side}
use Rattle.order_meaning.specs.declared.Side.TheVariants.{Client, Venue}
use Rattle.order_meaning.specs.declared.names.Names.{Names}
use Rattle.pair_entries.specs.declared.entry.Entry.{Entry}
use Rattle.kept_entries.specs.Days.{days_of, last_day, past_of, day_at}
use Rattle.kept_entries.specs.Entries.{AreEntries}
use Rattle.kept_entries.specs.Numbers.{numbers_after, first_numbers}
use Rattle.event_decisions.specs.Decide.{Sessions, AreSides, IsLawful, numbers_of}
use Rattle.event_decisions.specs.Laws.{BodiesAreRead}
use Rattle.message_answers.specs.Answer.{Answers}
use Rattle.message_answers.specs.Laws.{AnswersAreGivenOut}
use Rattle.gateway_config.specs.declared.config.Config.{Config}
use Rattle.gateway_core.specs.State.{loaded, sessions_in}
use Rattle.wires.specs.Wire.{Connection}
use Rattle.life_laws.specs.Days.{DayEnded, DayLeft, Transcript, AllLeave, LeavesDays, DaysLeave}
use Rattle.life_laws.specs.Days.{days_after, transcript_after}
use Rattle.life_laws.specs.Happens.{World, Added, nothing}
use Rattle.life_laws.specs.Justified.{IsJustified, transcript_from, Leaves}
use Rattle.life_laws.specs.Receiver.{read_body, message_of_out, AreSent}
use Rattle.life_laws.specs.Forms.{all_placed}
use Rattle.life_laws.specs.Standing.{Holds, NumberedFrom}
use Rattle.life_laws.specs.Turn.{Reads, last_read}
use Rattle.life_laws.specs.Laws as lives
use Rattle.gateway_life.specs.declared.end.LifeEnd.{LifeEnd}
use Rattle.life_laws.proofs.ByDay.{LastLeaves, ends-leave, held-leaves, over-leaves}
use Rattle.gateway_life.specs.Life.{begun, rested, went_on, moment_of, Done, LivesToEnd, LifeFails}
use Rattle.gateway_life.specs.Life.{LastFails, AtEvent, AtDay, BehindDay, Follows, ToItsEnd}
use Rattle.gateway_life.specs.Life.{ToAFailure, NotBegun}
use Rattle.book_laws.specs.HeardLaws.{SidesLearn}
use Rattle.book_laws.specs.Learned.{learned_of_taken}
use Rattle.book_laws.specs.Laws.{PeersAgree}
use Rattle.gateway_life.specs.Laws.{IsTaken, MessagesAreTaken}
use Rattle.gateway_life.proofs.Failing.{fails_by}
use Rattle.gateway_life.proofs.GivenOut.{are_sent}

rest_of : Config → List Entry → Sessions
rest_of config entries = sessions_in (loaded config entries)

rest_sides : (config : Config) (entries : List Entry) → AreSides (rest_of config entries)
unfolding rest_of
rest_sides config entries = record { client = refl; venue = refl }

rest_numbers : (config : Config) (entries : List Entry)
    → numbers_of (rest_of config entries) ≡ numbers_after first_numbers entries
unfolding rest_of
rest_numbers config entries = refl

module _ (begin : lives.LivesBegin Answers) where
  holds : (config : Config) (entries : List Entry) (client venue : List Connection)
      → Leaves Answers config.names entries client venue
      → Holds Answers config.names (begun config entries) client venue [] []
  unfolding rest_sides rest_numbers rest_of
  holds config entries client venue left =
      begin config.names entries (sessions_in (loaded config entries)) client venue left.lawful
      (rest_sides config entries) (rest_numbers config entries) left.client left.venue

  -- ---- what is left of a life

  module _ (days_leave : DaysLeave Answers) (fail : lives.LivesThatFailLeave Answers)
      (config : Config) (before : List Entry) (client venue : Transcript)
      (past : AllLeave Answers config.names (days_of before).ended client.ended venue.ended)
      (present : Leaves Answers config.names (last_day before) client.present venue.present) where
    abbrev reads : Reads
    reads = record { client = last_read client.present; venue = last_read venue.present }

    abbrev LeavesBy : List DayEnded → DayLeft → Type 0
    LeavesBy days left = LeavesDays Answers config.names
        (days_after (days_of before) days left.entries) (transcript_after Client client days left)
        (transcript_after Venue venue days left)

    ended : (rounds : ℕ) (did : Done) (days : List DayEnded) (left : DayLeft)
        → LivesToEnd config before rounds did days left → LeavesBy days left
    unfolding rest_sides rest_numbers rest_of
    ended rounds did days left life = days_leave config.names config.window config.reset
        (day_at (past_of before)) (rested config) reads (begun config (last_day before))
        (map moment_of life.given) (moment_of life.last) (days_of before).ended days left client
        venue (rest_sides config []) (rest_numbers config [])
        (holds config (last_day before) client.present venue.present present) refl refl past
        (life.lives reads)

    -- the day on which a life failed
    last_leaves : (end : LifeEnd) (days : List Entry) (last : ℕ) (left : DayLeft)
        (all_rounds : Type 0) → LastLeaves Answers config.names config.window config.reset left
        (LastFails end config days last left all_rounds)
    last_leaves end days last left all began r w moments cl vl h rc rv (AtEvent e) =
        (fail config.names config.window r w e.whole last e.added e.mid e.event e.part left.added
        left.entries cl vl h rc rv e.up_to
        (fails_by config end e.mid e.event last e.part left.entries e.fails) e.all).0
    last_leaves end days last left all began r w moments cl vl h rc rv (AtDay d) =
        ends-leave Answers config.names config.window config.reset began r w d.whole
        (record { left = left; at = last }) cl vl h rc rv d.ends
    last_leaves end days last left all began r w moments cl vl h rc rv (BehindDay d) =
        let none : left.entries ≡ w.entries =
        d.entries ∙ sym (ap (λ (x : World). x.entries) d.fresh) in
        subst (λ (a : Added). Leaves Answers config.names left.entries
        (transcript_from cl a.client) (transcript_from vl a.venue)) (sym d.added)
        (subst (λ l. Leaves Answers config.names l cl vl) (sym none)
        (held-leaves Answers config.names w cl vl h))

    failed : (end : LifeEnd) (rounds : ℕ) (did : Done) (days : List DayEnded) (left : DayLeft)
        → LifeFails end config before rounds did days left → LeavesBy days left
    unfolding rest_sides rest_numbers rest_of
    failed end rounds did days left life = over-leaves Answers config.names config.window
        config.reset (rested config) (rest_sides config []) (rest_numbers config []) left
        (LastFails end config (went_on before days []) (moment_of life.last) left
        (length life.given ≡ rounds))
        (last_leaves end (went_on before days []) (moment_of life.last) left
        (length life.given ≡ rounds)) days
        (day_at (past_of before)) reads (begun config (last_day before))
        (map moment_of (life.given ++ life.last ∷ [])) (days_of before).ended client venue
        (holds config (last_day before) client.present venue.present present) refl refl past
        (life.fails reads)

    -- where none began, all is as it was
    unbegun : LeavesBy [] (record { entries = last_day before; added = nothing })
    unbegun = record {
      ended = subst (λ l. AllLeave Answers config.names l client.ended venue.ended)
          (sym (append-nil (days_of before).ended)) past;
      present = present;
    }

    pub leaves_on : (end : LifeEnd) (rounds : ℕ) (did : Done) (days : List DayEnded)
        (left : DayLeft) → Follows end config before rounds did days left → LeavesBy days left
    leaves_on end rounds did days left (ToItsEnd done life) = ended rounds did days left life
    leaves_on end rounds did days left (ToAFailure life) = failed end rounds did days left life
    leaves_on end rounds did days left (NotBegun may none no_days same idle) =
        subst (λ (ds : List DayEnded). LeavesBy ds left) (sym no_days)
        (subst (λ (a : Added). LeavesBy [] (record { entries = left.entries; added = a }))
        (sym idle)
        (subst (λ (es : List Entry). LeavesBy [] (record { entries = es; added = nothing }))
        (sym same) unbegun))

-- ---- what is taken of it

module _ (begin : lives.LivesBegin Answers) (in_order : lives.JustifiedIsTakenInOrder)
    (read_back : lives.WhatIsSentIsRead) (fills : lives.FramesFillGaps) (learn : SidesLearn)
    (bodies : BodiesAreRead) (given_out : AnswersAreGivenOut) (peers : PeersAgree) where
  -- the outs of a lawful journal are numbered from 1 on
  numbered : (names : Names) (entries : List Entry) (client venue : List Connection) (side : Side)
      → Leaves Answers names entries client venue → NumberedFrom 1 (all_placed side entries)
  numbered names entries client venue side left =
      let config : Config = record { names = names; heart = 0; window = 0; reset = None } in
      (holds begin config entries client venue left).in_order side

  -- what is left is taken in order
  taken : (names : Names) (side : Side) (entries : List Entry) (connections : List Connection)
      → AreSent names side entries → NumberedFrom 1 (all_placed side entries)
      → IsJustified names entries side connections → IsLawful Answers names entries
      → AreEntries first_numbers entries → IsTaken names side entries connections
  taken names side entries connections sent numbered justified lawful sound =
      let read = read_back names side entries sent numbered in
      let took = in_order read_body message_of_out names side entries connections read (λ out. refl)
      justified in
      record {
        read = read;
        took = took;
        learned = λ fronts arrive known.
            ap (learned_of_taken side known) (took fronts arrive)
            ∙ learn names entries lawful sound side _ known;
        gaps = λ from to now some apart low.
            fills read_body message_of_out names side entries from to now (λ out. refl) numbered
            read some apart low;
      }

  pub are_taken : MessagesAreTaken
  are_taken names entries client venue left shown sound =
      record {
        client = client_takes;
        venue = venue_takes;
        books = peers names entries client venue left.lawful sound (sent Client) (sent Venue)
            left.client left.venue client_takes.took venue_takes.took;
      }
    where
      of_side : (side : Side) → NumberedFrom 1 (all_placed side entries)
      of_side side = numbered names entries client venue side left

      sent : (side : Side) → AreSent names side entries
      sent side =
          are_sent bodies given_out names shown side entries left.lawful sound (of_side side)

      at : (side : Side) (connections : List Connection)
          → IsJustified names entries side connections → IsTaken names side entries connections
      at side connections justified =
          taken names side entries connections (sent side) (of_side side) justified left.lawful
          sound

      client_takes : IsTaken names Client entries client
      client_takes = at Client client left.client

      venue_takes : IsTaken names Venue entries venue
      venue_takes = at Venue venue left.venue
