-- What goes up and down stands for it: the four tables of requests, and the two of reports.
use Rattle.std.proofs.Common.{◌≡◌, ℕ, List, [], ◌∷◌, None, false, refl, ◌≤◌, Bool, true, length}
use Rattle.std.proofs.Common.{Some, sym, subst, lit≤, Option, ap, ◌∙◌, codes, option_map}
use Rattle.std.specs.Prelude.{Ok, ◌==◌, if◌then◌else◌, IfSome, IsSome}
use Rattle.std.specs.List.{AllByRecursion}
use Rattle.std.proofs.lemmas.Bool.{eqb-true}
use Rattle.field_groups.specs.Field.{Field}
use Rattle.field_groups.specs.Data.{is_data_tag}
use Rattle.message_tables.specs.FirstFault.{message_of}
use Rattle.message_tables.specs.Tables.{Message, Said, lines_of, Item, Optional, Role, Spells}
use Rattle.message_tables.specs.Tables.{Table, Tag, Cell, code_in, code_of, is_listed, is_one_of}
use Rattle.message_tables.specs.Tables.{or_else}
use Rattle.message_tables.specs.Content.{content}
use Rattle.value_kinds.specs.ValueKind.{Code, code_text, spelling}
use Rattle.order_meaning.specs.Request.{RequestKind, New, Cancel, Replace, Status, Request}
use Rattle.order_meaning.specs.Book.{Book}
use Rattle.order_meaning.specs.Report.{filled}
use Rattle.row_values.specs.Kinds.{judge, Kind, Value, row}
use Rattle.first_faults.specs.Faults.{told}
use Rattle.rows_fix42.specs.Header.{table as table44}
use Rattle.rows_fix50.specs.Header.{completed_by}
use Rattle.dict_fix50.specs.Message.{message50}
use Rattle.dict_fix50.specs.Sense as sense50
use Rattle.dict_fix44.specs.Message.{message44_by, request_message44, report_message44}
use Rattle.dict_fix44.specs.Reports as reports44
use Rattle.dict_fix44.specs.Requests.{asked44, items44}
use Rattle.dict_fix44.specs.Sense as sense44
use Rattle.dict_fix44.specs.Step.{step44}
use Rattle.dict_fix44.proofs.Steps.{steps_meant}
use Rattle.reports_fix50.specs.Message.{cancel_reject_table, report_table}
use Rattle.reports_fix50.specs.Reports as reports50
use Rattle.reports_fix50.specs.Sense.{exec_of, report50}
use Rattle.reports_fix50.specs.Step.{step50}
use Rattle.sound_laws.specs.Complete.{IsComplete}
use Rattle.sound_laws.specs.Sound.{IsSound}
use Rattle.sound_laws.proofs.ReadComplete.{IsDated, dated_complete, untyped}
use Rattle.sound_laws.proofs.ReadSound.{IsClearField}
use Rattle.sound_laws.proofs.PlainFields.{AreFew, times, few_within, clear_fields, few_of}
use Rattle.sound_laws.proofs.ContentAgain.{IsGone}
use Rattle.sound_laws.proofs.Each.{◌&◌, all_true, none_each, not_true}
use Rattle.sound_laws.proofs.RowsSaid.{is_code_of}
use Rattle.rule_rows.specs.ByRules.{by_rules, content_by, has_place, lack_by, outline_of}
use Rattle.rule_rows.specs.Rules.{By}
use Rattle.rule_rows.proofs.Items.{IsRow}
use Rattle.rule_rows.proofs.Looked as looked
use Rattle.rule_rows.proofs.Looked.{no_lack}
use Rattle.rule_rows.proofs.Said as source
use Rattle.rule_rows.proofs.Sound.{gone}
use Rattle.request_rules.specs.Rules.{party_lines}
use Rattle.request_rules.specs.Canonical.{IsCanonical, IsRequest}
use Rattle.row_values.specs.Asked.{letter_of, of_letter}
use Rattle.request_rules.proofs.ByType.{by_tables}
use Rattle.request_rules.proofs.PartiesUp.{three_parties}
use Rattle.report_rules.specs.Down.{IsId, Rejects50, Reports50}
use Rattle.report_rules.specs.Rules.{at}
use Rattle.report_rules.proofs.SenseDown.{books_by, fills_nothing, not_lacking}
use Rattle.translate_fix44.specs.Laws.{IsRequest44, GoDown, GoUp}
use Rattle.translate_fix44.specs.Laws.{IsReport44, Rejects, ReadGoUp, Reports, StandsDown, StandsUp}
use Rattle.translate_fix44.specs.Rules.{Else, Rule, Same, down_content, down_message, down_rules}
use Rattle.translate_fix44.specs.Rules.{kinds, party, rules_for, turned_code, up_content, up_lack}
use Rattle.translate_fix44.specs.Rules.{up_rules}
use Rattle.translate_fix44.proofs.Tables.{are_kinds, reject_own, report_own, up_own, AreWay, GoesBy}
use Rattle.translate_fix44.proofs.Tables.{IsElse, items_by, table_from, table_to}
use Rattle.translate_fix44.proofs.Tables.{tests}
use Rattle.translate_fix44.proofs.Sense.{has_inst, reject_kept, report_kept, request_means}
use Rattle.translate_fix44.proofs.Sense.{status_turns, turned_is}
use Rattle.translate_fix44.proofs.Sound.{g, sound_by}

-- ---- what is read of a request is sound, and says the month of its date

-- what fields are that are read as a message, by what it asks for
pub record IsReadOf (msg_type : List ℕ) (fields : List Field) (m : Message) : Type 0 where
  pub kind : RequestKind
  pub type : msg_type ≡ letter_of kind ∷ []
  pub read : completed_by (told (message_of judge (asked44 kind) fields)) ≡ Ok m

pub is_asked : (msg_type : List ℕ) (fields : List Field) (m : Message)
    → request_message44 msg_type fields None ≡ Ok m → IsReadOf msg_type fields m
unfolding request_message44
is_asked msg_type fields m =
    by_tables asked44 asked44 (λ type its other. message44_by its fields None ≡ Ok m
    → IsReadOf type fields m) (λ type e. absurd cc)
    (λ kind e. record { kind = kind; type = refl; read = e }) msg_type

module _ (fields : List Field) (clear : AllByRecursion (IsClearField judge) fields) where
  dated : (kind : RequestKind) → IsDated fields (asked44 kind) false
  unfolding is_data_tag
  dated New = record {
    fits = refl;
    date = refl;
    types = λ untrue. absurd cc;
    kept = untyped fields (asked44 New) refl;
  }
  dated kind = record {
    fits = refl;
    date = refl;
    types = λ untrue. absurd cc;
    kept = untyped fields (asked44 kind) refl;
  }

  -- WHAT IS READ IS SOUND, AND COMPLETE.
  pub read_is_complete : (msg_type : List ℕ) (x : Message)
      → request_message44 msg_type fields None ≡ Ok x → IsRequest44 x
  read_is_complete msg_type x e =
      let a = is_asked msg_type fields x e in
      record {
        kind = a.kind;
        complete = dated_complete fields (asked44 a.kind) clear false (dated a.kind) x a.read;
      }

-- ---- the fields of an execution report are few, since at most three parties are written

-- the tables of reports of FIX 4.4
abbrev pub report44 : Table Kind
report44 = table44 56 reports44.execution_report

abbrev pub reject44 : Table Kind
reject44 = table44 57 reports44.cancel_reject

-- at most three parties are written, and 32 lines of any other group
abbrev limit : ℕ → ℕ
limit count = if count == 453 then 3 else 32

module _ (m : Message) (three : length (lines_of 453 m.groups) ≤ 3) where
  within : (count : ℕ) → length (lines_of count m.groups) ≤ 32
      → length (lines_of count m.groups) ≤ limit count
  within count few =
      elim (count == 453) as (λ b. (count == 453) ≡ b
      → length (lines_of count m.groups) ≤ (if b then 3 else 32))
      [ true ↦ λ e. rw (eqb-true count 453 e) three | false ↦ λ e. few ] refl

  -- THE CONTENT OF A REPORT has few fields.
  few_report : IsSound judge report44 m → AreFew (content report44 m)
  unfolding is_data_tag times
  few_report sound = few_within judge report44 m limit refl (lit≤ tt) within sound

-- ---- either way

module _ (up : Bool) (all : List Rule) (way : AreWay all) (letter : ℕ) (items : List (Item Kind))
    (goes : GoesBy up all letter items) (m : Message)
    (c : IsComplete (table_from up letter items) m) (lack : lack_by kinds all m ≡ None) where
  way_gone : IsGone (table_to up all letter items) (by_rules kinds all m) (content_by kinds all m)
  way_gone =
      let tested = all_true (λ b. b) (tests up all letter items) goes.passed in
      gone (g up all way letter items goes m c.sound) tested.1.1.1.1.1.0
      (not_true _ tested.1.1.1.1.1.1.0) (sound_by up all way letter items goes m c.sound lack)
      (at m 541) (at m 200) (way.date m) (way.month m) c.month

-- ---- up

-- a type that turns to none is listed where it was
turned_listed : (said : Said) → is_listed (codes "12") said ≡ true
    → is_listed (codes "12") (option_map code_text (turned_code None said)) ≡ true
turned_listed (Some (code ∷ [])) h = h
turned_listed other h = absurd cc

up_way : AreWay up_rules
up_way = record {
  own = up_own;
  parties = refl;
  date = λ m. refl;
  month = λ m. refl;
  close = λ m. turned_listed (at m 40);
  types = λ m listed n h. absurd cc;
}

-- HandlInst is 1 where an order says none
inst_1 : IsElse (Some (codes "1")) (row Optional 21 (Code (codes "123")))
unfolding judge spelling
inst_1 = (refl, (refl, refl))

up_goes : (kind : RequestKind) → GoesBy true up_rules (letter_of kind) (items44 kind)
up_goes New =
    record { passed = refl; asked = (λ h. refl) & tt & tt & tt & inst_1 & refl & refl & refl & tt }
up_goes Replace =
    record { passed = refl; asked = (λ h. refl) & tt & tt & tt & inst_1 & refl & refl & refl & tt }
up_goes kind =
    record { passed = refl; asked = (λ h. refl) & tt & tt & tt & tt & refl & tt & refl & tt }

or_none : (a b : Option ℕ) → or_else a b ≡ None → a ≡ None
or_none None b h = refl
or_none (Some x) b h = absurd cc

coded : (fields : List Field) (said : Said)
    → IfSome said (λ text. judge fields (Value (Code (codes "123"))) text ≡ Spells text)
    → IfSome said (λ text. IsSome (code_of text))
coded fields None h = tt
coded fields (Some text) h = rw (is_code_of fields (codes "123") text h).is refl

module _ (kind : RequestKind)
    (is : (f : RequestKind → Request) → of_letter (letter_of kind) f ≡ Some (f kind))
    (inst : has_place (outline_of (items44 kind)) (Tag 21) ≡ has_inst kind)
    (inst_row : IsRow (items44 kind) (row Optional 21 (Code (codes "123"))))
    (m : Message) (c : IsComplete (asked44 kind) m) (lack : up_lack m ≡ None) where
  abbrev w : Message
  w = by_rules kinds up_rules m

  abbrev t : Table Kind
  t = table_to true up_rules (letter_of kind) (items44 kind)

  gone_up : IsGone t w (up_content m)
  gone_up = way_gone true up_rules up_way (letter_of kind) (items44 kind) (up_goes kind) m c
      (or_none _ _ lack)

  by_letter : (f : RequestKind → Request) → of_letter m.letter f ≡ Some (f kind)
  by_letter f = ap (λ (n : ℕ). of_letter n f) c.sound.letter ∙ is f

  means : sense50.request50 w ≡ sense44.request44 m
  means =
      let placed = ap (λ o. has_place o (Tag 21)) (source.outline_is (asked44 kind) m c.sound) in
      let spelled = (source.spelled_by (asked44 kind) m c.sound
      (row Optional 21 (Code (codes "123"))) inst_row).spelled in
      by_letter (λ k. sense50.request_of k w) ∙ ap (λ (r : Request). Some r)
      (request_means m kind (placed ∙ inst) (coded (content (asked44 kind) m) (at m 21) spelled))
      ∙ sym (by_letter (λ k. sense44.request_of k m))

  stands_up : (IsCanonical (letter_of kind) (items_by true (items44 kind) up_rules) w
      → up_content m ≡ content t w → IsRequest w (up_content m))
      → message50 (letter_of kind ∷ []) (up_content m) None
      ≡ completed_by (told (message_of judge t (up_content m))) → StandsUp m w
  stands_up request reads =
      let says = looked.says kinds are_kinds up_rules up_own m in
      record {
        request = request (record {
          sound = gone_up.complete.sound;
          month = gone_up.complete.month;
          parties = looked.has_lines_of kinds are_kinds up_rules up_own m 453
              ∙ sym (λ i. party_lines (says (Role 3) i) (says (Role 1) i) (says (Role 4) i));
        }) gone_up.is;
        means = means;
        again = ap (λ (n : ℕ). message50 (n ∷ []) (up_content m) None) c.sound.letter ∙ reads
            ∙ gone_up.again;
      }

stands : (m : Message) (kind : RequestKind) → IsComplete (asked44 kind) m → up_lack m ≡ None
    → StandsUp m (by_rules kinds up_rules m)
unfolding message50
stands m New c lack = stands_up New (λ f. refl) refl refl m c lack
    (λ x is. record { kind = New; canonical = x; is = is }) refl
stands m Cancel c lack = stands_up Cancel (λ f. refl) refl tt m c lack
    (λ x is. record { kind = Cancel; canonical = x; is = is }) refl
stands m Replace c lack = stands_up Replace (λ f. refl) refl refl m c lack
    (λ x is. record { kind = Replace; canonical = x; is = is }) refl
stands m Status c lack = stands_up Status (λ f. refl) refl tt m c lack
    (λ x is. record { kind = Status; canonical = x; is = is }) refl

-- WHAT GOES UP STANDS FOR A MESSAGE.
pub go_up : GoUp
go_up m w request up =
    let p = not_lacking (up_lack m) (by_rules kinds up_rules m) w up in
    rw (← p.1) (stands m request.kind request.complete p.0)

pub read_go_up : ReadGoUp
read_go_up msg_type fields m w are read up =
    go_up m w (read_is_complete fields (clear_fields judge None fields are) msg_type m read) up

-- ---- down

-- an ExecType that turns to none but I is listed where it was
types_kept : (said : Said) (listed : List ℕ) → is_one_of listed 73 ≡ false
    → is_listed listed (option_map code_text (turned_code status_turns said)) ≡ true
    → is_listed listed said ≡ true
types_kept (Some (code ∷ [])) listed apart =
    turned_is 76 73 (λ c t. is_one_of listed t ≡ true → is_one_of listed c ≡ true)
    (λ h. absurd (let no = sym h ∙ apart in cc)) (λ c e h. h) code
types_kept other listed apart = λ h. absurd cc

report_way : AreWay (down_rules (Same 41))
report_way = record {
  own = report_own;
  parties = refl;
  date = λ m. refl;
  month = λ m. refl;
  close = λ m h. h;
  types = λ m. types_kept (at m 150);
}

reject_way : (known : Said) → AreWay (down_rules (By (Else 41 known)))
reject_way known = record {
  own = reject_own known;
  parties = refl;
  date = λ m. refl;
  month = λ m. refl;
  close = λ m h. h;
  types = λ m. types_kept (at m 150);
}

report_goes : GoesBy false (down_rules (Same 41)) 56 reports50.execution_report
report_goes = record {
  passed = refl;
  asked = (λ h. refl) & tt & tt & tt & refl & refl & (refl, refl) & (refl, refl) & (tt, refl)
      & (refl, refl, refl, tt) & tt;
}

reject_goes : (known : Said) → IfSome known IsId
    → GoesBy false (down_rules (By (Else 41 known))) 57 reports50.cancel_reject
reject_goes known id = record {
  passed = refl;
  asked = (refl, id) & (λ h. absurd cc) & tt & tt & tt & refl & refl & (tt, refl) & (tt, refl)
      & (refl, refl) & (refl, tt, tt, refl) & tt;
}

-- WHAT GOES DOWN, by the table of its letter
pub record IsDown (t : Table Kind) (known : Said) (m w : Message) : Type 0 where
  pub gone : IsGone t w (down_content known m)
  pub means : sense44.report44 w ≡ option_map (filled known) (report50 m)
  pub few : AreFew (content t w)
  pub reads : (fields : List Field) → report_message44 (t.letter ∷ []) fields None
      ≡ completed_by (told (message_of judge t fields))

abbrev with_letter : Message → ℕ → Message
with_letter m letter = record m { letter = letter }

abbrev GoesDown : (t50 t44 : Table Kind) → Said → Message → Type 0
GoesDown t50 t44 known m = IsComplete t50 m → lack_by kinds (rules_for known m) m ≡ None
    → IsDown t44 known m (by_rules kinds (rules_for known m) m)

-- a message has the letter of its table
goes_down : (t50 t44 : Table Kind) (known : Said) (m w : Message)
    → GoesDown t50 t44 known (with_letter m t50.letter) → IsComplete t50 m
    → down_message known m ≡ Ok w → IsDown t44 known m w
goes_down t50 t44 known m w of c down =
    let p = not_lacking (lack_by kinds (rules_for known m) m) (by_rules kinds (rules_for known m) m)
    w down in
    let P : ℕ → Type 0 = λ letter. GoesDown t50 t44 known (with_letter m letter) in
    subst (λ (x : Message). IsDown t44 known m x) p.1 (subst P (sym c.sound.letter) of c p.0)

pub report_goes_down : (known : Said) (m w : Message) → IsComplete report_table m
    → down_message known m ≡ Ok w → IsDown report44 known m w
unfolding report_message44
report_goes_down known x w = goes_down report_table report44 known x w (λ c lack.
    let m = with_letter x 56 in
    let rules = down_rules (Same 41) in
    let g = way_gone false rules report_way 56 reports50.execution_report report_goes m c lack in
    let three = subst (λ (lines : List (List Cell)). length lines ≤ 3)
    (sym (looked.has_lines_of kinds are_kinds rules report_own m 453))
    (three_parties (party m 3) (party m 1) (party m 4)) in
    record {
      gone = g;
      means = report_kept m (source.no_row report_table m c.sound 102 refl)
          (no_lack _ 150 (none_each (kinds.lack m) rules lack).1.1.1.1.1.1.1.1.1.1.1.0)
          ∙ fills_nothing known m (exec_of (code_in m.cells 150));
      few = few_report (by_rules kinds rules m) three g.complete.sound;
      reads = λ fields. refl;
    })

pub reject_goes_down : (known : Said) → IfSome known IsId → (m w : Message)
    → IsComplete cancel_reject_table m → down_message known m ≡ Ok w → IsDown reject44 known m w
unfolding report_message44 is_data_tag times
reject_goes_down known id x w = goes_down cancel_reject_table reject44 known x w (λ c lack.
    let m = with_letter x 57 in
    let rules = down_rules (By (Else 41 known)) in
    let g = way_gone false rules (reject_way known) 57 reports50.cancel_reject
    (reject_goes known id) m c lack in
    record {
      gone = g;
      means = reject_kept known m
          (ap (λ o. has_place o (Tag 41)) (source.outline_is cancel_reject_table m c.sound))
          (source.no_row cancel_reject_table m c.sound 103 refl)
          (source.no_row cancel_reject_table m c.sound 378 refl);
      few = few_of judge reject44 (by_rules kinds rules m) refl (lit≤ tt) g.complete.sound;
      reads = λ fields. refl;
    })

pub books_alike : (t : Table Kind) (known : Said) (m w : Message) → IsDown t known m w
    → (book : Book) → step44 book w ≡ step50 book m
books_alike t known m w d = books_by step44 sense44.report44 steps_meant known m w d.means

stands_down : (t : Table Kind) (known : Said) (m w : Message) → IsDown t known m w
    → IsReport44 w (down_content known m) → StandsDown known m w
stands_down t known m w d report = record {
  report = report;
  means = d.means;
  books = books_alike t known m w d;
  again = ap (λ (n : ℕ). report_message44 (n ∷ []) (down_content known m) None)
      d.gone.complete.sound.letter ∙ d.reads (down_content known m) ∙ d.gone.again;
}

-- WHAT GOES DOWN STANDS FOR A REPORT.
pub go_down : GoDown
go_down known id m w (Reports50 c) down =
    let d = report_goes_down known m w c down in
    stands_down _ known m w d (Reports d.gone.complete d.gone.is)
go_down known id m w (Rejects50 c) down =
    let d = reject_goes_down known id m w c down in
    stands_down _ known m w d (Rejects d.gone.complete d.gone.is)
