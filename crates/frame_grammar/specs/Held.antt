-- Inside: what a framer holds, as contracts see it; no clause of run rests on it.
use Rattle.std.specs.Prelude.{ℕ, ◌+◌, ◌-◌, List, [], ◌++◌, length, take, drop, Some, None}
use Rattle.std.specs.declared.option.Option.{Option}
use Rattle.frame_grammar.specs.declared.buffer.TheConstants.{CAPACITY}
use Rattle.frame_grammar.specs.declared.frame.Kind.{Kind}
use Rattle.frame_grammar.specs.declared.pieces.Lost.{Lost}
use Rattle.frame_grammar.specs.declared.pieces.Next.{Next}
use Rattle.frame_grammar.specs.declared.pieces.Next.TheVariants as next
use Rattle.frame_grammar.specs.Places.{capped}

-- what a buffer holds
pub record Window : Type 0 where
  -- bytes that were read, and are still there
  pub read : List ℕ
  -- bytes that were not
  pub unread : List ℕ

pub record Held : Type 0 where
  pub kind : Kind
  -- bytes that were answered, and are still in the buffer
  pub read : List ℕ
  -- bytes that were not
  pub unread : List ℕ
  -- the place of the unread bytes in the stream
  pub at : ℕ
  -- the garbled piece that they are inside of, whose front was dropped
  pub lost : Option Lost

-- nothing has come
abbrev pub fresh : Kind → Held
fresh kind = record { kind = kind; read = []; unread = []; at = 0; lost = None }

-- how many bytes the framer takes
abbrev pub room : Held → ℕ
room held = CAPACITY - length held.unread

-- the framer once it went past some of the unread bytes
abbrev pub past : ℕ → Held → Held
past count held = record held {
  read = held.read ++ take count held.unread;
  unread = drop count held.unread;
  at = capped (held.at + count);
}

-- and dropped them as the front of a garbled piece
abbrev pub lost_by : Lost → ℕ → Held → Held
lost_by lost count held = record (past count held) {
  lost = Some (record lost { dropped = capped (lost.dropped + count) });
}

-- the garbled piece that ends after so many of them
abbrev pub found_by : Lost → ℕ → Next
found_by lost count = next.Garbled lost.at (capped (lost.dropped + count)) lost.cause

-- one where the bytes are inside of a garbled piece
abbrev pub is_lost : Option Lost → ℕ
is_lost None = 0
is_lost (Some lost) = 1

-- how much there is to answer: each piece that is answered makes it less
abbrev pub pending : Held → ℕ
pending held = length held.unread + length held.unread + is_lost held.lost
