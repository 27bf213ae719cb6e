-- Own: all that an answer knows of a journal: the requests that it forwarded, and which message an
-- out translates.
use Rattle.std.specs.Prelude.{◌≡◌, ℕ, List, Option, Some, None}
use Rattle.order_meaning.specs.declared.Side.{Side}
use Rattle.order_meaning.specs.declared.Side.TheVariants.{Venue}
use Rattle.order_meaning.specs.declared.refusal.Refusal.{Refusal}
use Rattle.order_chains.specs.declared.item.ChainItem.{ChainItem}
use Rattle.order_chains.specs.Chains.{number_of}
use Rattle.pair_entries.specs.declared.entry.Entry.{Entry}
use Rattle.kept_entries.specs.Given.{source_of}
use Rattle.message_answers.specs.Chains.{chains_of}

pub record Known : Type 0 where
  pub chains : List ChainItem
  -- the number and the letter of the message that the out of this side and number translates
  pub source : Side → ℕ → Option (ℕ × ℕ)

abbrev pub known_of : List Entry → Known
known_of entries =
    record { chains = chains_of entries; source = λ side number. source_of side number entries }

-- these chains and sources are those of a journal
pub record Knows (known : Known) (entries : List Entry) : Type 0 where
  pub chains : known.chains ≡ chains_of entries
  pub source : (side : Side) (number : ℕ) → known.source side number ≡ source_of side number entries

-- a ClOrdID names a request that was forwarded to the venue; the client refuses none
abbrev pub named_by_id : Known → Side → Option (List ℕ) → Option (ℕ × ℕ)
named_by_id known Venue (Some id) = number_of known.chains id
named_by_id known side id = None

-- What a refusal by a side names: by RefSeqNum(45) the message that the out of that number
-- translates, and where it has none, by BusinessRejectRefID(379) the request of that ClOrdID. It is
-- the other side's own number, and the letter.
abbrev pub named : Known → Side → Refusal → Option (ℕ × ℕ)
named known side r = elim r.number [
  | Some number ↦ known.source side number
  | None ↦ named_by_id known side r.id
]
