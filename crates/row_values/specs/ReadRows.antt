-- Inside: a message that is read of fields says at each row what the fields say.
use Rattle.std.specs.Prelude.{◌≡◌, List, [], ◌∷◌, Some, None, IfSome, unwrap_or}
use Rattle.message_tables.specs.Tables.{Cell, Item, One, Party, Lines, Message, Need, Required}
use Rattle.message_tables.specs.Tables.{Said}
use Rattle.value_kinds.specs.ValueKind.{Id}
use Rattle.row_values.specs.Kinds.{Kind, Value, DayOf}

-- What is read at a row is what is said there; where each message says it, that may be taken for
-- granted. Of a day nothing is told here: it may want its month.
abbrev pub IsReadAt : Kind → Need → Said → Said → Type 0
IsReadAt (DayOf month) need read said = Unit {0}
IsReadAt (Value Id) Required (Some text) said = text ≡ unwrap_or said []
IsReadAt kind Required (Some text) said = IfSome said (λ t. t ≡ text)
IsReadAt kind Required None said = ⊥
IsReadAt kind need read said = read ≡ said

-- all facts of a list, six by six
abbrev pub AllOf : List (Type 0) → Type 0
AllOf (a ∷ b ∷ c ∷ d ∷ e ∷ f ∷ facts) = (a × b × c × d × e × f) × AllOf facts
AllOf (fact ∷ facts) = fact × AllOf facts
AllOf [] = Unit {0}

-- and so at each row of a table; a party follows from the lines of its group
abbrev pub facts : List (Item Kind) → List Cell → List Cell → List (Type 0)
facts (One row ∷ items) (r ∷ read) (s ∷ said) =
    IsReadAt row.kind row.need r.1 s.1 ∷ facts items read said
facts (Party role ∷ items) (r ∷ read) (s ∷ said) = facts items read said
facts (Lines group ∷ items) read said = facts items read said
facts items read said = []

-- a message that is read, and the one that the fields are
pub record IsRead (items : List (Item Kind)) (said m : Message) : Type 0 where
  pub resend : m.resend ≡ said.resend
  pub rows : AllOf (facts items m.cells said.cells)
