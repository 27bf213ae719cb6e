-- Own: how long a peer is put off behind its connection; docs/DECISIONS.md, "The edge".
use Rattle.std.specs.Prelude.{◌≡◌, ℕ, Bool, true, false, Some, None, [], ◌+◌, ◌||◌, min, is_some}
use Rattle.std.specs.Prelude.{if◌then◌else◌}
use Rattle.std.specs.declared.option.Option.{Option}
use Rattle.edge_logic.specs.BackOff.{later, not_before}
use Rattle.edge_waits.specs.PutOff.{Delay, pause_of}
use Rattle.edge_waits.specs.Talk.{Spoken, low_of, late_since}

-- what is kept of a peer's connection, and how long the peer is put off
pub record Dealings : Type 0 where
  pub talk : Spoken
  pub delay : Delay

-- a connection on which nothing was said
abbrev pub unsaid : Spoken
unsaid = record { heard = []; farewell = None; active = false; own_low = None; began = None }

-- whether the gateway said of the peer, or the peer of the gateway, that its number is too low
abbrev pub is_low : Spoken → Bool
is_low spoken = is_some (low_of spoken) || is_some spoken.own_low

-- the delay behind one more connection on which a number was too low
abbrev pub lengthened : Delay → ℕ → Delay
lengthened delay now =
    let times = min (delay.times + 1) 6 in
    record { times = times; until = later now (pause_of times) }

-- the delay of a peer that may have been in the day before at a moment: two minutes from it on
abbrev pub held_since : Delay → Option ℕ → Delay
held_since delay (Some since) = record delay { until = not_before delay.until since 120_000 }
held_since delay None = delay

-- the delay behind a connection that ended now, closed by the peer in order or not
abbrev pub delay_behind : Dealings → ℕ → Bool → Delay
delay_behind dealings now was_closed =
    held_since (if is_low dealings.talk then lengthened dealings.delay now else dealings.delay)
    (late_since dealings.talk was_closed)

-- a connection has ended, closed by the peer in order or not: at some moment of the clock the peer
-- was put off by what was said on it
abbrev pub PutOffBehind : Dealings → Dealings → Bool → Type 0
PutOffBehind old new was_closed =
    (now : ℕ) × (new ≡ record old { delay = delay_behind old now was_closed })

-- A session stands: the next pause is the shortest one again.
abbrev pub stood : Dealings → Dealings
stood dealings =
    if dealings.talk.active then dealings
    else record {
      talk = record dealings.talk { active = true };
      delay = record dealings.delay { times = 0 };
    }
