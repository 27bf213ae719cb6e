-- A life of a capture, from what `live` says over wires, a clock and a disk in memory.
use Rattle.std.proofs.Common.{◌≡◌, ◌∙◌, ℕ, ◌-◌, ◌^◌, ◌==◌, Bool, true, false, List, [], ◌++◌}
use Rattle.std.proofs.Common.{length, filter, refl, sym, ap, subst, Some, None, is_some}
use Rattle.std.proofs.Common.{inl, inr, IfSome, if◌then◌else◌}
use Rattle.std.specs.declared.option.Option.{Option}
use Rattle.outside.specs.Disk.{Only}
use Rattle.outside.specs.Memory.{DiskState}
use Rattle.outside.specs.MemDisk.{IsImageOf, fresh}
use Rattle.outside.specs.declared.mem_disk.Fuse.{Fuse}
use Rattle.order_meaning.specs.declared.Side.TheVariants.{Client, Venue}
use Rattle.order_meaning.specs.declared.names.Names.{Names}
use Rattle.pair_entries.specs.declared.entry.Entry.{Entry}
use Rattle.wires.specs.Wire.{Came, WireCall}
use Rattle.wires.specs.Script.{Plays}
use Rattle.wires.specs.Clock.{ClockState, moments_given, moments_told}
use Rattle.wires.specs.MemWire.{WireState, plays}
use Rattle.message_answers.specs.Answer.{Answers}
use Rattle.kept_entries.specs.Days.{days_of}
use Rattle.life_laws.specs.Days.{DayEnded, DayLeft, LeavesDays}
use Rattle.gateway_config.specs.declared.config.Config.{Config}
use Rattle.gateway_life.specs.declared.end.LifeEnd.{LifeEnd}
use Rattle.gateway_life.specs.Life.{Done, IsJournal}
use Rattle.gateway_life.specs.Laws.{AreShown}
use Rattle.gateway_life.specs.Lived.{Told, told, Premises, IsLeft}
use Rattle.drop_taps.specs.Shown.{TapState, HaveSeen}
use Rattle.gateway_life.specs.Watched.{TapsSaw, WereCommitted}
use Rattle.gateway_life.proofs.Living.{same_journal}
use Rattle.pair_journal.specs.Laws.{HasOneReading}
use Rattle.capture_text.specs.declared.capture.Event.{Event}
use Rattle.capture_text.specs.Capture.{stop_of}
use Rattle.capture_replay.specs.Rounds.{is_round, script_of, moments_from}
use Rattle.capture_replay.specs.Replay.{Left, WereAdded}
use Rattle.capture_replay.specs.Stops.{may_end}
use Rattle.capture_replay.specs.LifeWire.{unplayed}
use Rattle.capture_replay.specs.Lived.{IsLived, LivesOn}
use Rattle.capture_replay.proofs.Added.{committed_added}

only_fresh : (bytes fail : List ℕ) (fuse : Fuse) → Only bytes (IsImageOf (fresh bytes fail fuse))
only_fresh bytes fail fuse image (inl is) = is
only_fresh bytes fail fuse image (inr is) = is

-- what the taps saw of a life was committed behind what there was before
pub taps_added : {T : Type 0} (state : T → TapState) (seen now : List T) (names : Names)
    (disk0 disk : DiskState) (end : LifeEnd) (bytes fail : List ℕ) (fuse : Fuse)
    → TapsSaw state seen now names (Some disk0.bytes) (IsImageOf disk0) (IsImageOf disk) end
    → disk0 ≡ fresh bytes fail fuse → (more : List Entry) × HaveSeen state seen now more
    × ((before : List Entry) → IsJournal names before bytes → WereAdded names before more)
taps_added state seen now names disk0 disk end bytes fail fuse given is =
    let saw = subst (λ (d : DiskState). TapsSaw state seen now names (Some d.bytes) (IsImageOf d)
    (IsImageOf disk) end) is given in (
      saw.more,
      saw.seen,
      λ before journal.
          let (found, stands, were) = saw.left (only_fresh bytes fail fuse) before journal
          disk.bytes (inl refl) in
          committed_added names end before saw.more found disk.bytes were stands,
    )

if_told : {A : Type 0} (lost : Bool) (a : A)
    → is_some (if lost then None else Some a) ≡ true
    → (if lost then None else Some a) ≡ Some a
if_told true a told = absurd (cc told)
if_told false a told = refl

told_moments : (clock : ClockState) → is_some (moments_told clock) ≡ true
    → moments_told clock ≡ Some (moments_given clock.listed clock.asked)
told_moments clock told = if_told (clock.asked == 2 ^ 64 - 1)
    (moments_given clock.listed clock.asked) told

played : (wire : WireState) (calls : List WireCall) (script : List Came)
    → wire.recorded ≡ Some calls → plays wire script
    → (left : List Came) × Plays false script calls left
played wire calls script told plays = (
  wire.script,
  subst (λ (r : Option (List WireCall)). IfSome r (λ c. Plays false script c wire.script)) told
      plays,
)

-- what was done in a life
abbrev done : (client venue : List WireCall) → ClockState → Done
done client venue clock = record {
  client = client;
  venue = venue;
  moments = moments_given clock.listed clock.asked;
}

-- what a disk, wires and a clock in memory tell
abbrev pub told_of : DiskState → (client venue : WireState) → ClockState → Told
told_of disk client venue clock = told (Some disk.bytes) client.recorded venue.recorded
    (moments_told clock) client.polls venue.polls

-- what `live` says of forms in memory, between what contracts see of them before and after
pub record LiveSays {T : Type 0} (state : T → TapState) (seen now : List T) (config : Config)
    (disk0 disk : DiskState) (client0 client venue0 venue : WireState) (clock0 clock : ClockState)
    (end : LifeEnd) (rounds : ℕ) : Type 0 where
  pub taps : TapsSaw state seen now config.names (Some disk0.bytes) (IsImageOf disk0)
      (IsImageOf disk) end
  pub images : (given : Premises config.names (IsImageOf disk0)
      (told_of disk0 client0 venue0 clock0) (told_of disk client venue clock))
      → (image : List ℕ) → IsImageOf disk image
      → (days : List DayEnded) × (left : DayLeft) × (entries : List Entry)
      × IsLeft end config given.before rounds given.did days left image entries
  pub client_plays : (script : List Came) → plays client0 script → plays client script
  pub venue_plays : (script : List Came) → plays venue0 script → plays venue script
  pub follows : (listed : List ℕ) → clock0.listed ≡ listed → clock.listed ≡ listed

module _ {T : Type 0} (state : T → TapState) (seen now : List T) (config : Config)
    (lines : List Event) (before : Left) (bytes image : List ℕ) (disk : DiskState)
    (client venue : WireState) (clock : ClockState) (end : LifeEnd) (rounds : ℕ)
    (fail listed : List ℕ) (fuse : Fuse) (client_calls venue_calls : List WireCall)
    (says : LiveSays state seen now config (fresh bytes fail fuse) disk
    (unplayed Client lines) client (unplayed Venue lines) venue
    (record { listed = listed; asked = 0 }) clock end rounds)
    (client_told : client.recorded ≡ Some client_calls)
    (venue_told : venue.recorded ≡ Some venue_calls)
    (clock_told : is_some (moments_told clock) ≡ true) where
  premises : IsJournal config.names before.entries bytes
      → Premises config.names (IsImageOf (fresh bytes fail fuse))
      (told_of (fresh bytes fail fuse) (unplayed Client lines) (unplayed Venue lines)
      (record { listed = listed; asked = 0 })) (told_of disk client venue clock)
  premises journal = record {
    bytes = bytes;
    tells = refl;
    only = only_fresh bytes fail fuse;
    before = before.entries;
    journal = journal;
    did = done client_calls venue_calls clock;
    client = ([], refl, client_told);
    venue = ([], refl, venue_told);
    clock = ([], refl, told_moments clock clock_told);
  }

  pub lived : ((i : List ℕ) → HasOneReading i)
      → plays client (script_of Client lines) → plays venue (script_of Venue lines)
      → clock.listed ≡ moments_from before.moment lines → rounds ≡ length (filter is_round lines)
      → IsImageOf disk image → may_end (stop_of lines) end ≡ true
      → IsJournal config.names before.entries bytes → AreShown config.names
      → LeavesDays Answers config.names (days_of before.entries) before.client before.venue
      → IsLived state config lines before seen now (Some client_calls) (Some venue_calls) end
      image
  unfolding premises
  lived one client_plays venue_plays follows count among whole journal shown leaves =
      let (days, day, entries, left) = says.images (premises journal) image among in
      let accounts = left.accounts before.client before.venue leaves in
      let saw = says.taps in
      record {
        did = done client_calls venue_calls clock;
        days = days;
        left = day;
        entries = entries;
        client_told = refl;
        venue_told = refl;
        played = record {
          client = played client client_calls (script_of Client lines) client_told client_plays;
          venue = played venue venue_calls (script_of Venue lines) venue_told venue_plays;
          moments = (clock.asked, ap (λ l. moments_given l clock.asked) follows);
          is_left = subst (λ n. IsLeft end config before.entries n
              (done client_calls venue_calls clock) days day image entries) count left;
          leaves = accounts.leaves;
          taken = accounts.taken shown;
          moment = refl;
          whole = whole;
        };
        more = saw.more;
        committed = let (found, is, were) = saw.left (only_fresh bytes fail fuse) before.entries
            journal image among in
            subst (WereCommitted end (before.entries ++ saw.more))
            (sym (same_journal one config.names image entries found left.journal is)) were;
        saw = saw.seen;
      }

module _ {T : Type 0} (state : T → TapState) (seen now : List T) (config : Config)
    (lines : List Event) (disk0 disk : DiskState) (client0 client venue0 venue : WireState)
    (clock0 clock : ClockState) (end : LifeEnd) (rounds : ℕ)
    (says : LiveSays state seen now config disk0 disk client0 client venue0 venue clock0 clock end
    rounds) (from : ℕ) (bytes fail image : List ℕ) (fuse : Fuse)
    (client_calls venue_calls : List WireCall) where
  -- over fresh forms
  says_fresh : disk0 ≡ fresh bytes fail fuse → client0 ≡ unplayed Client lines
      → venue0 ≡ unplayed Venue lines
      → clock0 ≡ record { listed = moments_from from lines; asked = 0 }
      → LiveSays state seen now config (fresh bytes fail fuse) disk
      (unplayed Client lines) client (unplayed Venue lines) venue
      (record { listed = moments_from from lines; asked = 0 }) clock end rounds
  says_fresh is_disk is_client is_venue is_clock =
      subst (λ (k : ClockState). LiveSays state seen now config (fresh bytes fail fuse) disk
      (unplayed Client lines) client (unplayed Venue lines) venue k clock end rounds) is_clock
      (subst (λ (v : WireState). LiveSays state seen now config (fresh bytes fail fuse) disk
      (unplayed Client lines) client v venue clock0 clock end rounds) is_venue
      (subst (λ (c : WireState). LiveSays state seen now config (fresh bytes fail fuse) disk
      c client venue0 venue clock0 clock end rounds) is_client
      (subst (λ (d : DiskState). LiveSays state seen now config d disk
      client0 client venue0 venue clock0 clock end rounds) is_disk says)))

  pub lives_on : ((i : List ℕ) → HasOneReading i)
      → disk0 ≡ fresh bytes fail fuse → client0 ≡ unplayed Client lines
      → venue0 ≡ unplayed Venue lines
      → clock0 ≡ record { listed = moments_from from lines; asked = 0 }
      → rounds ≡ length (filter is_round lines) → IsImageOf disk image
      → client.recorded ≡ Some client_calls → venue.recorded ≡ Some venue_calls
      → is_some (moments_told clock) ≡ true → may_end (stop_of lines) end ≡ true
      → LivesOn state config lines from bytes seen now (Some client_calls) (Some venue_calls) end
      image
  lives_on one is_disk is_client is_venue is_clock count among
      client_told venue_told clock_told whole before is_from journal shown leaves =
      let fresh_says = says_fresh is_disk is_client is_venue is_clock in
      lived state seen now config lines before bytes image disk client venue clock end rounds fail
      (moments_from from lines) fuse client_calls venue_calls fresh_says client_told venue_told
      clock_told one
      (fresh_says.client_plays (script_of Client lines) refl)
      (fresh_says.venue_plays (script_of Venue lines) refl)
      (fresh_says.follows (moments_from from lines) refl
      ∙ ap (λ (m : ℕ). moments_from m lines) (sym is_from)) count among whole journal shown leaves
