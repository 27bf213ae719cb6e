-- Own: when the venue is tried, and the client may come; docs/DECISIONS.md, "The edge".
use Rattle.std.specs.Prelude.{◌≡◌, ◌≤◌, ℕ}
use Rattle.edge_logic.specs.BackOff.{Tries, failed_behind, pause_behind, not_before}
use Rattle.edge_logic.specs.declared.back_off.LinkEnd.{LinkEnd}
use Rattle.edge_links.specs.Contact.{Dealings}

-- at some moment of the clock a peer is not put off
abbrev pub MayCome : Dealings → Type 0
MayCome dealings = (now : ℕ) × (dealings.delay.until ≤ now)

-- at some moment of the clock the venue may be tried: it is not put off, and the pause behind the
-- tries and connections before has passed
abbrev pub MayTry : Tries → Dealings → Type 0
MayTry tries dealings = (now : ℕ) × (tries.next ≤ now) × (dealings.delay.until ≤ now)

-- a connection has ended so: at some moment of the clock the next try was put off by that
abbrev pub TriesBehind : Tries → Tries → LinkEnd → Type 0
TriesBehind old new link_end = (now : ℕ) × (new ≡ record {
  failed = failed_behind link_end old.failed;
  next = not_before old.next now (pause_behind link_end old.failed);
})
