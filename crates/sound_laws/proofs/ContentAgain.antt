-- What is written of a sound message, behind the rows of a header or alone, is read again as that
-- message; the content alone does not have PossResend.
use Rattle.std.proofs.Common.{◌≡◌, List, [], ◌∷◌, ◌++◌, map, Option, None, true, false, Ok, refl}
use Rattle.std.proofs.Common.{sym, ap, ◌∙◌}
use Rattle.std.specs.Prelude.{unwrap_or}
use Rattle.std.specs.Option.{option_map}
use Rattle.std.specs.List.{AllByRecursion, flat_map}
use Rattle.field_groups.specs.Field.{Field}
use Rattle.message_tables.specs.declared.table_fault.TableFault.{TableFault}
use Rattle.message_tables.specs.Tables.{Table, Item, One, Party, Lines, Message, Cell, Said, Tag}
use Rattle.message_tables.specs.Tables.{Role, flag_of, groups_in, is_one_of, said_at, value_at}
use Rattle.message_tables.specs.FirstFault.{message_in, message_of, unless}
use Rattle.message_tables.specs.Content.{content, item_fields}
use Rattle.row_values.specs.Kinds.{Kind, judge}
use Rattle.first_faults.specs.Faults.{told}
use Rattle.rows_fix50.specs.Header.{completed_by, month_by}
use Rattle.sound_laws.specs.Complete.{HasMonthOfDate, IsComplete}
use Rattle.sound_laws.specs.Sound.{IsItem, IsSound, places_of, without_resend}
use Rattle.sound_laws.proofs.Completed.{completed_again}
use Rattle.sound_laws.proofs.Each.{are_apart, each_at}
use Rattle.sound_laws.proofs.Lookups.{places_apart}
use Rattle.sound_laws.proofs.Stages.{item_tags, value_none}
use Rattle.sound_laws.proofs.Found.{items_of}
use Rattle.sound_laws.proofs.ReadAgain.{cells_in, cells_by_places}
use Rattle.sound_laws.proofs.ReadAgain as again
use Rattle.sound_laws.proofs.TableFits as fits
use Rattle.sound_laws.proofs.TableFits.{AreRows, table_fits}

-- ---- a message whose cells stand behind others

module _ (table : Table Kind) (front : List (Item Kind)) (cells : List Cell) (r : Message) where
  abbrev pub whole : Message
  whole = record { letter = r.letter; resend = r.resend; cells = cells; groups = r.groups }

  abbrev all : List Field
  all = flat_map (item_fields whole) (front ++ table.items)

  -- WHAT IS WRITTEN of it and of the rows in front IS READ AS THE MESSAGE.
  pub record CanBeRead : Type 0 where
    pub fit : table_fits table front ≡ true
    pub rows : AllByRecursion (AreRows table whole front) front
    pub letter : r.letter ≡ table.letter
    pub places : map (λ cell. cell.0) r.cells ≡ flat_map places_of table.items
    pub counts : map (λ group. group.0) r.groups ≡ map (λ group. group.count) (groups_in table)
    pub said : AllByRecursion (IsItem judge all whole) (front ++ table.items)
    pub same : AllByRecursion (λ p. said_at cells p ≡ said_at r.cells p)
        (flat_map places_of table.items)
    pub resend : unwrap_or (option_map flag_of (value_at 97 all)) false ≡ r.resend

  cells_same : (items : List (Item Kind))
      → AllByRecursion (λ p. said_at cells p ≡ said_at r.cells p) (flat_map places_of items)
      → flat_map (cells_in whole) items
      ≡ map (λ p. (p, said_at r.cells p)) (flat_map places_of items)
  cells_same [] same = refl
  cells_same (One row ∷ items) same = λ i. (Tag row.tag, same.0 i) ∷ cells_same items same.1 i
  cells_same (Party role ∷ items) same = λ i. (Role role, same.0 i) ∷ cells_same items same.1 i
  cells_same (Lines group ∷ items) same = cells_same items same

  same_message : CanBeRead → message_in judge table all ≡ r
  same_message is =
      let t = fits.is_table table whole front is.fit is.rows in
      let apart = ap are_apart is.counts ∙ fits.counts_are_apart table whole front is.fit in
      let places = ap places_apart is.places ∙ fits.places_are_apart table whole front is.fit in
      let cells = again.same_cells judge table whole front t is.said apart is.counts
      ∙ cells_same table.items is.same
      ∙ cells_by_places r.cells (flat_map places_of table.items) places is.places in
      let groups = again.same_groups judge table whole front t is.said apart is.counts in
      let letter = sym is.letter in λ i. record {
        letter = letter i;
        resend = is.resend i;
        cells = cells i;
        groups = groups i;
      }

  pub read_whole : CanBeRead → told (message_of judge table all) ≡ Ok r
  unfolding message_of
  read_whole is =
      let none = again.no_fault judge table whole front
      (fits.is_table table whole front is.fit is.rows) is.said in
      ap (λ (f : Option TableFault). told (unless f (message_in judge table all))) none
      ∙ ap (λ (x : Message). Ok x) (same_message is)

-- ---- a content alone

module _ (table : Table Kind) (m : Message)
    (fit : table_fits table [] ≡ true)
    (bare : is_one_of (flat_map item_tags table.items) 97 ≡ false) (sound : IsSound judge table m)
  where
    abbrev body : List Field
    body = content table m

    -- THE CONTENT IS READ AGAIN.
    pub read_again : told (message_of judge table body) ≡ Ok (without_resend m)
    read_again =
        let none : value_at 97 body ≡ None = value_none (flat_map item_tags table.items) 97 body
        (items_of judge body m table.items sound.items) bare in
        read_whole table [] m.cells (without_resend m) (record {
          fit = fit;
          rows = tt;
          letter = sound.letter;
          places = sound.places;
          counts = sound.counts;
          said = sound.items;
          same = each_at _ (flat_map places_of table.items) (λ i p at. refl);
          resend = ap (λ (v : Said). unwrap_or (option_map flag_of v) false) none;
        })

    -- and completed, where it says the month of its date
    pub content_again : HasMonthOfDate m
        → completed_by (told (message_of judge table body)) ≡ Ok (without_resend m)
    content_again month =
        ap completed_by read_again ∙ ap (λ (x : Message). Ok x) (completed_again m month
        (ap places_apart sound.places ∙ fits.places_are_apart table m [] fit) false)

-- ---- what goes

-- WHAT GOES is complete in a table, is written by it, and is read again.
pub record IsGone (table : Table Kind) (m : Message) (written : List Field) : Type 0 where
  pub complete : IsComplete table m
  pub is : written ≡ content table m
  pub again : completed_by (told (message_of judge table written)) ≡ Ok (without_resend m)

-- a month is that of a date
abbrev pub IsMonthOf : (date month : Said) → Type 0
IsMonthOf date month = month ≡ month_by date month

pub gone_by : (table : Table Kind) (m : Message) (written : List Field)
    → table_fits table [] ≡ true → is_one_of (flat_map item_tags table.items) 97 ≡ false
    → IsSound judge table m → written ≡ content table m
    → (date month : Said) → said_at m.cells (Tag 541) ≡ date → said_at m.cells (Tag 200) ≡ month
    → IsMonthOf date month → IsGone table m written
gone_by table m written fit bare sound is date month at541 at200 of_date =
    let has : HasMonthOfDate m = at200 ∙ of_date ∙ sym (λ i. month_by (at541 i) (at200 i)) in
    record {
      complete = record { sound = sound; month = has };
      is = is;
      again = ap (λ fields. completed_by (told (message_of judge table fields))) is
          ∙ content_again table m fit bare sound has;
    }
