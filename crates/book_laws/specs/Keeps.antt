-- Own: what is asked of a peer that keeps its numbers, and that no gap is left.
use Rattle.std.specs.Prelude.{◌≡◌, ◌⊎◌, ℕ, ◌+◌, ◌-◌, ◌<◌, ◌≤◌, IsTrue, List, [], ◌∷◌, ◌++◌, length}
use Rattle.std.specs.Prelude.{map, Some, None, IsSomeAnd}
use Rattle.std.specs.List.{AllByRecursion, slice_get}
use Rattle.order_meaning.specs.declared.Side.{Side}
use Rattle.pair_entries.specs.declared.entry.Entry.{Entry}
use Rattle.kept_entries.specs.Numbers.{first_numbers, next_in, next_out, numbers_after, outs_to}
use Rattle.event_decisions.specs.Laws.{Breaks}
use Rattle.wires.specs.Wire.{Connection}
use Rattle.life_laws.specs.Bodies.{bodies_read}
use Rattle.life_laws.specs.Receiver.{is_administrative, message_of_out, read_body}
use Rattle.life_laws.specs.Taken.{Message, Read, GapFill, Reset, Other, AreFronts, taken_from}
use Rattle.book_laws.specs.Heard.{Refusal, Heard}
use Rattle.book_laws.specs.SetAside.{Conversation}
use Rattle.book_laws.specs.Pairs.{heard_at, heard_from, given, pair, taken}

-- ---- numbers

-- messages numbered n, n + 1, ..
abbrev pub AreNumbered : ℕ → List Message → Type 0
AreNumbered n [] = Unit {0}
AreNumbered n (m ∷ ms) = (m.number ≡ n) × AreNumbered (n + 1) ms

-- a type, PossResend(97), and the fields without those of the header
abbrev pub AreAlike : Message → Message → Type 0
AreAlike a b = (a.msg_type ≡ b.msg_type) × (a.resend ≡ b.resend) × (a.fields ≡ b.fields)

-- A frame that a peer sent is its message of that number, or a gap fill for messages of its
-- session.
abbrev pub KeepsFrame : List Message → Read → Type 0
KeepsFrame messages (Other m is_admin) =
    (1 ≤ m.number) × IsSomeAnd (slice_get messages (m.number - 1)) (AreAlike m)
KeepsFrame messages (GapFill number to) = (number < to) × (to ≤ length messages + 1)
    × ((n : ℕ) → number ≤ n → n < to
    → IsSomeAnd (slice_get messages (n - 1)) (λ m. IsTrue (is_administrative m.msg_type)))
KeepsFrame messages Reset = ⊥

-- ---- what a journal shows of it

-- x is one of these
abbrev pub In : {X : Type 0} → X → List X → Type 0
In x [] = ⊥
In x (y ∷ ys) = (x ≡ y) ⊎ In x ys

-- each entry has this behind those before it
abbrev pub Each : (List Entry → Entry → Type 0) → List Entry → List Entry → Type 0
Each P before [] = Unit {0}
Each P before (e ∷ entries) = P before e × Each P (before ++ e ∷ []) entries

-- What a peer refuses was given to it before: by RefSeqNum(45) a message of that number; and no
-- later one has the ClOrdID(11) that it refused by that alone.
pub record KeepsRefusals (side : Side) (before : List Entry) (e : Entry) : Type 0 where
  pub number : (r : Heard) → taken side e ≡ Some r → r.sort ≡ Refusal
      → (n : ℕ) → r.number_named ≡ Some n
      → (m : Heard) × In m (pair side before).took × (m.number ≡ n)
  pub id : (r : Heard) → In r (pair side before).sent → r.sort ≡ Refusal → r.number_named ≡ None
      → (id : List ℕ) → r.id_named ≡ Some id → (m : Heard) → In m (given side e)
      → m.cl_ord_id ≡ Some id → ⊥

-- no Reject to a side is for its CompIDs, its SendingTime(52) or its NewSeqNo(36)
abbrev pub KeepsHeads : Side → Entry → Type 0
KeepsHeads side e = Breaks (outs_to side e.outs) → ⊥

pub record KeepsJournal (side : Side) (entries : List Entry) : Type 0 where
  pub heads : AllByRecursion (KeepsHeads side) entries
  pub refusals : Each (KeepsRefusals side) [] entries

-- A PEER KEEPS ITS NUMBERS: these are its messages, and it sends each under one number.
pub record Keeps (side : Side) (messages : List Message) (connections : List Connection)
    (entries : List Entry) : Type 0 where
  pub numbered : AreNumbered 1 messages
  pub frames : AllByRecursion (λ body. KeepsFrame messages (read_body body))
      (bodies_read side connections)
  pub journal : KeepsJournal side entries

-- ---- gaps

-- ALL GAPS ARE FILLED: of what was written to a peer these fronts came, and it has taken all that
-- was given out to it; and all of its messages were taken.
pub record Filled (side : Side) (messages : List Message) (connections : List Connection)
    (fronts : List (List ℕ)) (entries : List Entry) : Type 0 where
  pub came : AreFronts fronts connections
  pub took : (taken_from read_body message_of_out side fronts).next
      ≡ next_out side (numbers_after first_numbers entries)
  pub sent : next_in side (numbers_after first_numbers entries) ≡ length messages + 1

-- THE CONVERSATION OF A PEER: its messages, and what it took of these fronts
abbrev pub conversation : Side → List Message → List (List ℕ) → Conversation
conversation side messages fronts = record {
  sent = map (heard_from side) messages;
  took = map (heard_at side) (taken_from read_body message_of_out side fronts).taken;
}
