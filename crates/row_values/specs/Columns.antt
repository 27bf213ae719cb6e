-- Own: how the table of requests is written: a line for each field, group or party, with a column
-- for each of the messages D, F, G and H.
use Rattle.std.specs.Prelude.{ℕ, List, [], ◌∷◌}
use Rattle.std.specs.List.{flat_map}
use Rattle.message_tables.specs.Tables.{Need, Required, Optional, RepeatingGroup, Item, One, Party}
use Rattle.message_tables.specs.Tables.{Lines}
use Rattle.value_kinds.specs.ValueKind.{ValueKind}
use Rattle.row_values.specs.Kinds.{Kind, Value}

-- whether a message has a row: R, each does; O, it may; N, it has none
pub data Column : Type 0 where
  R : Column
  O : Column
  N : Column

-- what the four messages have of one line of the table
pub record Line : Type 0 where
  pub d : List (Item Kind)
  pub f : List (Item Kind)
  pub g : List (Item Kind)
  pub h : List (Item Kind)

abbrev pub line : (Column → List (Item Kind)) → Column → Column → Column → Column → Line
line items d f g h = record { d = items d; f = items f; g = items g; h = items h }

-- a field, which has this need where it may be missing
abbrev pub field : Need → ℕ → Kind → Column → List (Item Kind)
field need tag kind R = One (record { tag = tag; kind = kind; need = Required }) ∷ []
field need tag kind O = One (record { tag = tag; kind = kind; need = need }) ∷ []
field need tag kind N = []

abbrev pub unless_none : Item Kind → Column → List (Item Kind)
unless_none item N = []
unless_none item column = item ∷ []

-- a value that is judged by itself, and a fault where it is outside the profile
abbrev pub value : ℕ → ValueKind → Column → Column → Column → Column → Line
value tag kind = line (field Optional tag (Value kind))

-- the id of the first party of a role
abbrev pub party : ℕ → Column → Column → Column → Column → Line
party role = line (unless_none (Party role))

abbrev pub lines : RepeatingGroup Kind → Column → Column → Column → Column → Line
lines group = line (unless_none (Lines group))

-- the items of each message, in the order of writing
abbrev pub of_d : List Line → List (Item Kind)
of_d table = flat_map (λ line. line.d) table

abbrev pub of_f : List Line → List (Item Kind)
of_f table = flat_map (λ line. line.f) table

abbrev pub of_g : List Line → List (Item Kind)
of_g table = flat_map (λ line. line.g) table

abbrev pub of_h : List Line → List (Item Kind)
of_h table = flat_map (λ line. line.h) table
