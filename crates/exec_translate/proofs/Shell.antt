-- A report as a struct: without its parties it is sound, too, and has few fields; its content is
-- split and read, and so is that of what goes down.
use Rattle.std.proofs.Common.{◌≡◌, ℕ, List, [], ◌∷◌, ◌++◌, true, None, Ok, refl, sym, ap}
use Rattle.std.proofs.Common.{◌∙◌, arith, codes, drop, lit≤, map, take, Option, Some, Err, subst}
use Rattle.std.specs.List.{AllByRecursion, list_all}
use Rattle.field_groups.specs.Data.{is_data_tag}
use Rattle.field_groups.specs.Field.{Field, body_of}
use Rattle.field_groups.specs.Fields.{SplitsInto}
use Rattle.field_groups.proofs.Plain.{plain_again}
use Rattle.message_tables.specs.Content.{content}
use Rattle.message_tables.specs.FirstFault.{first_fault}
use Rattle.message_tables.specs.Tables.{Item, One, Party, Lines, Message, Said, Table, Tag, ◌>>=◌}
use Rattle.message_tables.specs.Tables.{first_of, groups_in, is_listed, said_at, text_of, value_at}
use Rattle.value_kinds.specs.ValueKind.{Day, spelling}
use Rattle.row_values.specs.Contras.{contra_cells}
use Rattle.row_values.specs.Kinds.{Kind, judge, verdict_of}
use Rattle.rows_fix50.specs.Header.{table}
use Rattle.reports_fix50.specs.Message.{cancel_reject_table, message50, report_table}
use Rattle.reports_fix50.specs.Message.{report_table_of}
use Rattle.reports_fix50.specs.Reports.{execution_report}
use Rattle.reports_fix50.specs.Said.{cancel_reject_says, report_says}
use Rattle.reports_fix50.specs.declared.reports.CancelReject50.{CancelReject50}
use Rattle.reports_fix50.specs.declared.reports.Report50.{Report50}
use Rattle.sound_laws.specs.Complete.{IsComplete}
use Rattle.sound_laws.specs.Sound.{IsItem, IsSound, without_resend}
use Rattle.sound_laws.proofs.ContentAgain.{content_again}
use Rattle.sound_laws.proofs.ContentValues.{GroupSaid, groups_said, is_alone, value_said}
use Rattle.sound_laws.proofs.Each.{◌&◌, both}
use Rattle.sound_laws.proofs.Judged50.{AreAlike}
use Rattle.sound_laws.proofs.PlainFields.{AreFew, all_of, few_of, times}
use Rattle.sound_laws.proofs.ReadAgain as again
use Rattle.sound_laws.proofs.TableFits as fits
use Rattle.sound_laws.proofs.CompletedSound.{KeepsType, is_ours, is_ours_row, ours, same_kept}
use Rattle.exec_translate.specs.Down.{IsGoodBody, Lacks, Says, bare, once, with_parties}
use Rattle.std.specs.Prelude.{IfSome, Result}
use Rattle.field_groups.specs.declared.fault.SplitFault.{SplitFault}
use Rattle.field_groups.proofs.Determined.{determined}
use Rattle.order_meaning.specs.declared.fault.Fault.{Fault}
use Rattle.order_meaning.specs.declared.fault.Lack.{Lack}
use Rattle.order_meaning.specs.declared.fault.Lack.TheVariants as lacks
use Rattle.first_faults.specs.Faults.{message_by}
use Rattle.rows_fix50.specs.Meaning.{id_of}
use Rattle.reports_fix42.specs.Message as tables42
use Rattle.reports_fix42.specs.Message.{message42}
use Rattle.reports_fix42.specs.Said as said42
use Rattle.reports_fix42.specs.declared.reports.CancelReject42.{CancelReject42}
use Rattle.reports_fix42.specs.declared.reports.Report42.{Report42}
use Rattle.rule_rows.specs.ByRules.{by_rules, lack_by, or_lack}
use Rattle.report_rules.specs.Down.{IsGoodBy, IsId, IsPut, IsReport42, IsReport50, LacksDown}
use Rattle.report_rules.specs.Down.{Rejects42, Rejects50, Reports42, Reports50}
use Rattle.report_rules.specs.Rules.{down_message, kinds, rules_for, table_at, written}
use Rattle.report_rules.proofs.GoDown.{down_by, goes_down}

-- a body that is few fields is split into them
split_is : (body : List ℕ) (own fields : List Field) (fault : Option SplitFault)
    → body ≡ body_of own → AreFew own → SplitsInto body fields fault
    → (fields ≡ own) × (fault ≡ None)
split_is body own fields fault is few split =
    let P : List ℕ → Type 0 = λ b. SplitsInto b fields fault in
    let again = plain_again own (all_of own few.plain) (omega (arith, few.few)) in
    determined (body_of own) fields own fault None (subst P is split) again

-- THE CONTENT OF A REPORT, which is split again: its fields are at no fault, and say the report.
module _ (type : List ℕ) (table : Table Kind) (m : Message)
    (typed : report_table_of type ≡ Some table) (fit : fits.table_fits table [] ≡ true)
    (sound : IsSound judge table m) (few : AreFew (content table m))
    (read : message50 type (content table m) None ≡ Ok m) {none written body : List ℕ}
    (empty : none ≡ []) (is : written ≡ none ++ body_of (content table m))
    (copied : body ≡ written) where
  same : (fields : List Field) (fault : Option SplitFault) → SplitsInto body fields fault
      → fields ≡ content table m
  same fields fault split =
      let all = copied ∙ is ∙ ap (λ (b : List ℕ). b ++ body_of (content table m)) empty in
      (split_is body (content table m) fields fault all few split).0

  content_says : IsGoodBody type body × Says type body m
  content_says = (
    λ fields fault split.
        let P : Option (Table Kind) → Type 0 = λ t. IsGoodBy t fields in
        let good = again.no_fault judge table m [] (fits.is_table table m [] fit tt) sound.items in
        subst P (sym typed) (ap (first_fault judge table) (same fields fault split) ∙ good),
    λ fields fault split.
        ap (λ (fs : List Field). message50 type fs None) (same fields fault split) ∙ read,
  )

module _ (msg : Report50) (c : IsComplete report_table (report_says msg)) where
  abbrev m : Message
  m = report_says msg

  abbrev pub b : Message
  b = report_says (bare msg)

  abbrev before : List Field
  before = content report_table m

  abbrev after : List Field
  after = content report_table b

  groups : AllByRecursion (GroupSaid judge m) (groups_in report_table)
  groups = groups_said judge before m execution_report c.sound.items

  bare_groups : AllByRecursion (GroupSaid judge b) (groups_in report_table)
  bare_groups = (record { few = lit≤ tt; said = tt }, groups.1)

  value_kept : (tag : ℕ) → is_alone tag execution_report ≡ true
      → said_at b.cells (Tag tag) ≡ said_at m.cells (Tag tag)
      → value_at tag after ≡ value_at tag before
  value_kept tag alone at = value_said judge b tag execution_report alone bare_groups ∙ at
      ∙ sym (value_said judge m tag execution_report alone groups)

  alike : AreAlike true before after
  alike = record {
    date = ap (λ (v : Said). v >>= (λ text. text_of (verdict_of (spelling Day text))))
        (value_kept 541 refl refl);
    ord_type = λ _ h. ap (is_listed (codes "12")) (value_kept 40 refl refl) ∙ h;
  }

  kept : KeepsType before after
  kept listed h = ap (is_listed listed) (sym (value_kept 150 refl refl)) ∙ h

  -- what is no row is said without the parties
  abbrev Others : List (Item Kind) → Type 0
  Others [] = Unit {0}
  Others (One row ∷ items) = Others items
  Others (item ∷ items) = IsItem judge after b item × Others items

  rows : (items : List (Item Kind)) → list_all (is_ours true) items ≡ true → Others items
      → AllByRecursion (IsItem judge before m) items → AllByRecursion (IsItem judge after b) items
  rows [] h others said = tt
  rows (One row ∷ items) h others said =
      let p = both (is_ours_row true row) (list_all (is_ours true) items) h in (
        same_kept true before after alike kept row (ours true row p.0)
            (said_at m.cells (Tag row.tag)) said.0,
        rows items p.1 others said.1,
      )
  rows (Party role ∷ items) h others said = (others.0, rows items h others.1 said.1)
  rows (Lines group ∷ items) h others said = (others.0, rows items h others.1 said.1)

  bare_sound : IsSound judge report_table b
  unfolding is_data_tag first_of
  bare_sound = record {
    letter = refl;
    places = refl;
    counts = refl;
    items = rows execution_report refl
        (bare_groups.0 & refl & refl & refl & bare_groups.1.0 & tt) c.sound.items;
  }

  -- its rows and its contra brokers alone
  abbrev few_table : Table Kind
  few_table = table 56 (take 4 execution_report ++ drop 8 execution_report)

  abbrev few_message : Message
  few_message = record b {
    cells = take 4 b.cells ++ drop 7 b.cells;
    groups = (382, map contra_cells msg.contras) ∷ [];
  }

  few_sound : IsSound judge few_table few_message
  few_sound =
      let i = bare_sound.items in record {
        letter = refl;
        places = refl;
        counts = refl;
        items = i.0 & i.1.0 & i.1.1.0 & i.1.1.1.0 & i.1.1.1.1.1.1.1.1;
      }

  pub few : AreFew after
  unfolding is_data_tag times
  few = few_of judge few_table few_message refl (lit≤ tt) few_sound

  pub report_content : {none written body : List ℕ} → none ≡ []
      → written ≡ none ++ body_of after → body ≡ written
      → IsGoodBody (codes "8") body × Says (codes "8") body b
  unfolding message50
  report_content = content_says (codes "8") report_table b refl refl bare_sound few
      (content_again report_table b refl refl bare_sound c.month)

  pub bare_complete : IsComplete report_table b
  bare_complete = record { sound = bare_sound; month = c.month }

  pub bare_report : IsReport50 b
  bare_report = Reports50 bare_complete

module _ (msg : CancelReject50) (c : IsComplete cancel_reject_table (cancel_reject_says msg)) where
  abbrev q : Message
  q = cancel_reject_says (once msg)

  once_sound : IsSound judge cancel_reject_table q
  once_sound = record {
    letter = c.sound.letter;
    places = c.sound.places;
    counts = c.sound.counts;
    items = c.sound.items;
  }

  pub reject_content : {none written body : List ℕ} → none ≡ []
      → written ≡ none ++ body_of (content cancel_reject_table q) → body ≡ written
      → IsGoodBody (codes "9") body × Says (codes "9") body q
  unfolding is_data_tag times message50
  reject_content = content_says (codes "9") cancel_reject_table q refl refl once_sound
      (few_of judge cancel_reject_table q refl (lit≤ tt) once_sound)
      (content_again cancel_reject_table q refl refl once_sound c.month)

  pub once_reject : IsReport50 q
  once_reject = Rejects50 (record { sound = once_sound; month = c.month })

pub lacks_of : (type : List ℕ) (known : Said) (fields : List Field) (lack : Lack)
    → LacksDown type known fields lack → (m : Message) → message50 type fields None ≡ Ok m
    → Lacks known m lack
lacks_of type known fields lacks.NoMemory h m is = tt
lacks_of type known fields (lacks.Tag tag) h m is = h m is

-- WHAT GOES DOWN is read again
few_down : (w : Message) → IsReport42 w → AreFew (written w)
unfolding is_data_tag times
few_down w (Reports42 sound) =
    let P : ℕ → Type 0 = λ l. AreFew (content (table_at l) w) in
    subst P (sym sound.letter) (few_of judge tables42.execution_report_table w refl (lit≤ tt) sound)
few_down w (Rejects42 sound) =
    let P : ℕ → Type 0 = λ l. AreFew (content (table_at l) w) in
    subst P (sym sound.letter) (few_of judge tables42.cancel_reject_table w refl (lit≤ tt) sound)

one_message : (told : Result Message Fault) (r w : Message) → told ≡ Ok r → told ≡ Ok w → r ≡ w
one_message told r w read again = let e = sym read ∙ again in cc

same_lack : (lack : Option ℕ) (x y : Message) (tag : ℕ) → or_lack lack x ≡ Err tag
    → or_lack lack y ≡ Err tag
same_lack None x y tag h = absurd cc
same_lack (Some other) x y tag h = h

-- A MESSAGE, and the one that its content says: what of the first the content does not have is put
-- back into what goes down.
record AreAlikeDown (known : Said) (m b : Message) (put : Message → Message) : Type 0 where
  lack : lack_by kinds (rules_for known b) b ≡ lack_by kinds (rules_for known m) m
  back : put (by_rules kinds (rules_for known b) b) ≡ by_rules kinds (rules_for known m) m

module _ (known : Said) (m b : Message) (back : Message → Message)
    (alike : AreAlikeDown known m b back) where
  lacks_alike : (lack : Lack) → Lacks known b lack → Lacks known m lack
  lacks_alike lacks.NoMemory h = tt
  lacks_alike (lacks.Tag tag) h =
      let rules = by_rules kinds (rules_for known m) m in
      ap (λ (l : Option ℕ). or_lack l rules) (sym alike.lack)
      ∙ same_lack (lack_by kinds (rules_for known b) b) (by_rules kinds (rules_for known b) b) rules
      tag h

  module _ (id : IfSome known IsId) (b50 : IsReport50 b)
      (resent : (x : Message) → back (without_resend x) ≡ back x) {content body : List ℕ}
      {fields : List Field} {fault : Option SplitFault} (put : IsPut known b [] content)
      (copied : body ≡ content) (split : SplitsInto body fields fault) (r x : Message)
      (read : message42 (b.letter ∷ []) fields fault ≡ Ok r) (is : x ≡ back r) where
    goes_back : down_message known m ≡ Ok x
    goes_back =
        let d = down_by known b put.w (rules_for known b) refl put.down in
        let s = goes_down known id b put.w b50 put.down in
        let same = split_is body (written put.w) fields fault (copied ∙ put.bytes)
        (few_down put.w s.sound) split in
        let letter : b.letter ≡ put.w.letter = ap (λ (y : Message). y.letter) d.is in
        let again : message42 (b.letter ∷ []) fields fault ≡ Ok (without_resend put.w) =
        (λ i. message42 (letter i ∷ []) (same.0 i) (same.1 i)) ∙ s.again in
        let said = one_message _ r (without_resend put.w) read again in
        let whole : x ≡ by_rules kinds (rules_for known m) m =
        is ∙ ap back said ∙ resent put.w ∙ ap back (sym d.is) ∙ alike.back in
        ap (λ (l : Option ℕ). or_lack l (by_rules kinds (rules_for known m) m))
        (sym alike.lack ∙ d.lack)
        ∙ ap Ok (sym whole)

module _ (fields : List Field) (fault : Option SplitFault) (m : Message) where
  read_8 : message_by (Some tables42.execution_report_table) fields fault ≡ Ok m
      → message42 (codes "8") fields fault ≡ Ok m
  unfolding message42
  read_8 h = h

  read_9 : message_by (Some tables42.cancel_reject_table) fields fault ≡ Ok m
      → message42 (codes "9") fields fault ≡ Ok m
  unfolding message42
  read_9 h = h

module _ (msg : Report50) where
  abbrev report_back : Message → Message
  report_back x = record x {
    resend = msg.resend;
    cells = take 4 x.cells ++ (Tag 109, id_of 3 msg.parties) ∷ (Tag 76, id_of 1 msg.parties)
        ∷ (Tag 439, id_of 4 msg.parties) ∷ drop 7 x.cells;
  }

  report_alike : AreAlikeDown None (report_says msg) (report_says (bare msg)) report_back
  unfolding first_of
  report_alike = record { lack = refl; back = refl }

  pub report_lacks : (lack : Lack) → Lacks None (report_says (bare msg)) lack
      → Lacks None (report_says msg) lack
  report_lacks =
      lacks_alike None (report_says msg) (report_says (bare msg)) report_back report_alike

  pub report_goes : IsComplete report_table (report_says msg) → {content body : List ℕ}
      {fields : List Field} {fault : Option SplitFault}
      → IsPut None (report_says (bare msg)) [] content → body ≡ content
      → SplitsInto body fields fault → (r x : Report42)
      → message_by (Some tables42.execution_report_table) fields fault ≡ Ok (said42.report_says r)
      → x ≡ with_parties msg r → down_message None (report_says msg) ≡ Ok (said42.report_says x)
  report_goes c put copied split r x read is =
      goes_back None (report_says msg) (report_says (bare msg)) report_back report_alike tt
      (bare_report msg c) (λ x. refl) put copied split (said42.report_says r)
      (said42.report_says x) (read_8 _ _ _ read) (ap said42.report_says is)

module _ (msg : CancelReject50) (known : Said) where
  abbrev reject_back : Message → Message
  reject_back x = record x { resend = msg.resend }

  reject_alike : AreAlikeDown known (cancel_reject_says msg) (cancel_reject_says (once msg))
      reject_back
  unfolding first_of
  reject_alike = record { lack = refl; back = refl }

  pub reject_lacks : (lack : Lack) → Lacks known (cancel_reject_says (once msg)) lack
      → Lacks known (cancel_reject_says msg) lack
  reject_lacks = lacks_alike known (cancel_reject_says msg) (cancel_reject_says (once msg))
      reject_back reject_alike

  pub reject_goes : IsComplete cancel_reject_table (cancel_reject_says msg) → IfSome known IsId
      → {content body : List ℕ} {fields : List Field} {fault : Option SplitFault}
      → IsPut known (cancel_reject_says (once msg)) [] content → body ≡ content
      → SplitsInto body fields fault → (r : CancelReject42)
      → message_by (Some tables42.cancel_reject_table) fields fault
      ≡ Ok (said42.cancel_reject_says r) → down_message known (cancel_reject_says msg)
      ≡ Ok (said42.cancel_reject_says (record r { resend = msg.resend }))
  reject_goes c id put copied split r read =
      goes_back known (cancel_reject_says msg) (cancel_reject_says (once msg)) reject_back
      reject_alike id (once_reject msg c) (λ x. refl) put copied split
      (said42.cancel_reject_says r) (said42.cancel_reject_says (record r { resend = msg.resend }))
      (read_9 _ _ _ read) refl
