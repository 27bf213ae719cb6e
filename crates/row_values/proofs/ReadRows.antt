-- A message that says at each row what the fields say is the message of the fields.
use Rattle.std.proofs.Common.{◌≡◌, ◌∙◌, ℕ, suc, List, [], ◌∷◌, map, Some, None, refl, subst, sym}
use Rattle.std.specs.Prelude.{IsSome}
use Rattle.std.specs.List.{flat_map, slice_get}
use Rattle.field_groups.specs.Field.{Field}
use Rattle.message_tables.specs.FirstFault.{first_fault}
use Rattle.message_tables.specs.Tables.{Cell, Item, One, Party, Lines, Message, Need, Required}
use Rattle.message_tables.specs.Tables.{Place, Said, Table, Tag, Role, all_rows, cells_of, row_at}
use Rattle.message_tables.proofs.Members.{row_says}
use Rattle.value_kinds.specs.ValueKind.{Id}
use Rattle.row_values.specs.Kinds.{Kind, Value, DayOf, judge}
use Rattle.row_values.specs.ReadRows.{AllOf, IsRead, IsReadAt, facts}
use Rattle.row_values.proofs.SaidRows.{full, full_text}

abbrev Each : List (Type 0) → Type 0
Each (fact ∷ facts) = fact × Each facts
Each [] = Unit {0}

each : (facts : List (Type 0)) → AllOf facts → Each facts
each (a ∷ b ∷ c ∷ d ∷ e ∷ f ∷ facts) h =
    (h.0.0, (h.0.1, (h.0.2, (h.0.3, (h.0.4, (h.0.5, each facts h.1))))))
each (fact ∷ facts) h = (h.0, each facts h.1)
each [] h = tt

-- the rows that each message says are those of their tags
abbrev IfNeeded : Need → Type 0 → Type 0 → Type 0
IfNeeded Required is rest = is × rest
IfNeeded need is rest = rest

abbrev pub AreNeeded : Table Kind → List (Item Kind) → Type 0
AreNeeded table (One row ∷ items) =
    IfNeeded row.need (row_at row.tag (all_rows table) ≡ Some row) (AreNeeded table items)
AreNeeded table (item ∷ items) = AreNeeded table items
AreNeeded table [] = Unit {0}

-- what is told besides: the days and the parties
abbrev IfDay : Kind → Type 0 → Type 0 → Type 0
IfDay (DayOf month) is rest = is × rest
IfDay kind is rest = rest

abbrev pub AreTold : List (Item Kind) → List Cell → List Cell → Type 0
AreTold (One row ∷ items) (r ∷ read) (s ∷ said) =
    IfDay row.kind (r.1 ≡ s.1) (AreTold items read said)
AreTold (Party role ∷ items) (r ∷ read) (s ∷ said) = (r.1 ≡ s.1) × AreTold items read said
AreTold (Lines group ∷ items) read said = AreTold items read said
AreTold items read said = Unit {0}

if_needed : (need : Need) (is rest : Type 0) → IfNeeded need is rest
    → (need ≡ Required → is) × rest
if_needed Required is rest h = (λ e. h.0, h.1)
if_needed need is rest h = (λ e. absurd cc, h)

at_row : (kind : Kind) (need : Need) (read said : Said) (rest : Type 0)
    → (need ≡ Required → IsSome said) → IsReadAt kind need read said
    → IfDay kind (read ≡ said) rest → (read ≡ said) × rest
at_row (DayOf month) need read said rest there h told = told
at_row (Value Id) Required (Some text) said rest there h told =
    (full_text said text (there refl) h, told)
at_row kind Required (Some text) said rest there h told =
    (full said text (there refl) h, told)
at_row kind Required None said rest there h told = absurd h
at_row kind need read said rest there h told = (h, told)

-- Beside a table and fields at no fault, whose cells may be changed so that one that says something
-- still does.
module _ (table : Table Kind) (fields : List Field) (clean : first_fault judge table fields ≡ None)
    (change : Place → Said → Said)
    (keeps : (place : Place) (said : Said) → IsSome said → IsSome (change place said))
    (groups : List (ℕ × List (List Cell))) where
  abbrev cells : List (Item Kind) → List Cell
  cells items = map (λ cell. (cell.0, change cell.0 cell.1))
      (flat_map (cells_of judge fields groups) items)

  abbrev places : List Cell → List Place
  places cells = map (λ cell. cell.0) cells

  abbrev AreOf : List (Item Kind) → Type 0
  AreOf items = (i : ℕ) (item : Item Kind) → slice_get items i ≡ Some item
      → (j : ℕ) × (slice_get table.items j ≡ Some item)

  alike : (items : List (Item Kind)) (read : List Cell) → AreOf items
      → places read ≡ places (cells items) → AreNeeded table items
      → Each (facts items read (cells items)) → AreTold items read (cells items)
      → read ≡ cells items
  alike [] [] of same needed h told = refl
  alike [] (r ∷ read) of same needed h told = absurd cc
  alike (Lines group ∷ items) read of same needed h told =
      alike items read (λ i item at. of (suc i) item at) same needed h told
  alike (One row ∷ items) [] of same needed h told = absurd cc
  alike (One row ∷ items) ((place, said) ∷ read) of same needed h told =
      let own = if_needed row.need _ _ needed in
      let at = of 0 (One row) refl in
      let here = at_row row.kind row.need said _ _ (λ e. keeps (Tag row.tag) _
      (rw e (row_says judge table fields at.0 row clean at.1 e (own.0 e)))) h.0 told in
      let first : place ≡ Tag row.tag = cc in
      let rest : places read ≡ places (cells items) = cc in
      let later = alike items read (λ i item at. of (suc i) item at) rest own.1 h.1 here.1 in
      λ i. (first i, here.0 i) ∷ later i
  alike (Party role ∷ items) [] of same needed h told = absurd cc
  alike (Party role ∷ items) ((place, said) ∷ read) of same needed h told =
      let first : place ≡ Role role = cc in
      let rest : places read ≡ places (cells items) = cc in
      let later = alike items read (λ i item at. of (suc i) item at) rest needed h told.1 in
      λ i. (first i, told.0 i) ∷ later i

  -- WHAT IS READ IS THE MESSAGE of the fields.
  pub read_message : (m said : Message) → m.letter ≡ said.letter
      → said.cells ≡ cells table.items → places m.cells ≡ places (cells table.items)
      → AreNeeded table table.items → IsRead table.items said m
      → AreTold table.items m.cells (cells table.items) → m.groups ≡ said.groups → m ≡ said
  read_message m said letter is same needed w told lines =
      let P : List Cell → Type 0 = λ cs. AllOf (facts table.items m.cells cs) in
      let rows = alike table.items m.cells (λ i item at. (i, at)) same needed
      (each (facts table.items m.cells (cells table.items)) (subst P is w.rows)) told ∙ sym is in
      λ i. record { letter = letter i; resend = w.resend i; cells = rows i; groups = lines i }
