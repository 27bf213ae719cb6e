-- What is written of a report is read again as that report, behind its header.
use Rattle.std.proofs.Common.{◌≡◌, ℕ, List, ◌∷◌, ◌++◌, codes, Option, Some, None, Bool, true, false}
use Rattle.std.proofs.Common.{Result, Ok, Err, refl, sym, ap, subst, ◌∙◌, lit≤}
use Rattle.std.specs.Prelude.{unwrap_or}
use Rattle.std.specs.Option.{option_map}
use Rattle.std.specs.List.{AllByRecursion}
use Rattle.std.specs.Str.{bytes_eq}
use Rattle.std.proofs.lemmas.Slice.Eq.{bytes_eq-Decides}
use Rattle.field_groups.specs.Data.{is_data_tag}
use Rattle.field_groups.specs.Field.{Field, AreFields, body_of}
use Rattle.field_groups.specs.Fields.{SplitsInto}
use Rattle.message_tables.specs.Tables.{Item, Table, Message, flag_of, value_at}
use Rattle.message_tables.specs.FirstFault.{message_of}
use Rattle.order_meaning.specs.Book.{Book}
use Rattle.order_meaning.specs.Report.{Report, Executed, NotCanceled, filled, or_known}
use Rattle.order_meaning.specs.declared.fault.Fault.{Fault}
use Rattle.order_meaning.specs.declared.fault.Fault.TheVariants.{NotSupported}
use Rattle.message_tables.specs.Content.{content}
use Rattle.row_values.specs.Kinds.{Kind, judge}
use Rattle.first_faults.specs.Faults.{told}
use Rattle.rows_fix42.specs.Header.{table}
use Rattle.reports_fix42.specs.Message.{message42, execution_report_table}
use Rattle.reports_fix42.specs.Message.{cancel_reject_table as reject_table42}
use Rattle.reports_fix42.specs.Reports as reports42
use Rattle.reports_fix42.specs.Sense.{report42}
use Rattle.reports_fix42.specs.Step.{step42}
use Rattle.reports_fix50.specs.Message.{report_table, cancel_reject_table}
use Rattle.reports_fix50.specs.Sense.{report50}
use Rattle.reports_fix50.specs.Step.{step50}
use Rattle.sound_laws.specs.Sound.{IsSound}
use Rattle.sound_laws.proofs.PlainFields.{AreFew, clear_fields, few_of, times}
use Rattle.sound_laws.proofs.ReadSound.{IsClearField}
use Rattle.sound_laws.proofs.TableFits.{table_fits}
use Rattle.rule_rows.specs.ByRules.{by_rules, lack_by}
use Rattle.report_rules.specs.Down.{IsReport50, Reports50, Rejects50}
use Rattle.report_rules.specs.Rules.{table_at, written, Original, Same, down_message, down_rules}
use Rattle.report_rules.specs.Rules.{kinds, rules_for}
use Rattle.report_rules.proofs.GoDown.{down_by, goes_down, reject_sound, report_sound, rules_of}
use Rattle.report_rules.proofs.ReadDown.{IsReadOf, reject_read, report_read}
use Rattle.report_rules.proofs.SenseDown.{not_lacking}
use Rattle.translation.specs.Header.{carried, head_down, type_of, with_content}
use Rattle.translation.proofs.BehindHeader.{IsHead, front, items_behind, read_behind}
use Rattle.translation.proofs.CarriedHeader.{IsOwnHead, HasHeader, head_is_own, head_value}
use Rattle.translation.proofs.CarriedHeader.{own_said}
use Rattle.sound_laws.proofs.RowsSaid.{optional_said}
use Rattle.translation.proofs.CarriedDown.{head_clear, own_down, resend_down, type_down}
use Rattle.translation.proofs.SplitAgain.{clear_again}
use Rattle.translation.specs.Going.{IsType}
use Rattle.report_translate.specs.Reading.{report_message}
use Rattle.report_translate.proofs.OfType.{eight, nine, no_report, type_is}

-- ---- a sound message of FIX 4.2 behind the header that is carried

module _ (letter : ℕ) (items : List (Item Kind)) (msg_type : List ℕ) (fields : List Field)
    (r : Message) (own : IsOwnHead msg_type fields) where
  abbrev values : ℕ → Option (List ℕ)
  values = head_value msg_type fields

  abbrev t : Table Kind
  t = table letter items

  header_said : IsHead t values r
  header_said = search (own_said, optional_said) parts 20

  pub message_again : items_behind t values r ≡ true → table_fits t (front t values r) ≡ true
      → IsSound judge t r → unwrap_or (option_map flag_of (value_at 97 fields)) false ≡ r.resend
      → told (message_of judge t (((35, msg_type) ∷ carried fields) ++ content t r)) ≡ Ok r
  message_again behind fit sound flag =
      read_behind t values r behind header_said fit sound refl flag

-- ---- the report that fields are

-- a report of a table, by its type
pub record IsOf (fields : List Field) (known : List ℕ) (table : Table Kind) (x : Message)
    : Type 0 where
  pub type_is : type_of fields ≡ known
  pub read : IsReadOf table fields x

pub data IsEither (fields : List Field) (x : Message) : Type 0 where
  Eight : IsOf fields (codes "8") report_table x → IsEither fields x
  Nine : IsOf fields (codes "9") cancel_reject_table x → IsEither fields x

not_both : {X : Type 0} (r : Result Message Fault) (fault : Fault) (x : Message)
    → r ≡ Err fault → r ≡ Ok x → X
not_both r fault x refused read = absurd cc

-- where nothing is known besides, a report is what it says
nothing_known : (said : Option (List ℕ)) → or_known said None ≡ said
nothing_known None = refl
nothing_known (Some said) = refl

pub unfilled : (report : Option Report) → option_map (filled None) report ≡ report
unfilled None = refl
unfilled (Some (Executed report)) = refl
unfilled (Some (NotCanceled reject)) =
    ap (λ (id : Option (List ℕ)). Some (NotCanceled (record reject { orig_id = id })))
    (nothing_known reject.orig_id)

module _ (fields : List Field) (good : AreFields None fields) (m : Message)
    (e : report_message (type_of fields) fields None ≡ Ok m) where
  pub clear : AllByRecursion (IsClearField judge) fields
  clear = clear_fields judge None fields good

  pub either : IsEither fields m
  unfolding clear
  either =
      by (bytes_eq (type_of fields) (codes "8")) (bytes_eq (type_of fields) (codes "9")) refl refl
    where
      by : (a b : Bool) → bytes_eq (type_of fields) (codes "8") ≡ a
          → bytes_eq (type_of fields) (codes "9") ≡ b → IsEither fields m
      by true b a' b' = Eight (record {
        type_is = (bytes_eq-Decides (type_of fields) (codes "8")).0 a';
        read = report_read fields clear m (sym (eight (type_of fields) fields None a') ∙ e);
      })
      by false true a' b' = Nine (record {
        type_is = (bytes_eq-Decides (type_of fields) (codes "9")).0 b';
        read = reject_read fields clear m (sym (nine (type_of fields) fields None b') ∙ e);
      })
      by false false a' b' = not_both (report_message (type_of fields) fields None) NotSupported m
          (no_report (type_of fields) fields None a' b') e

  pub report_header : HasHeader report_table
  report_header = search

  pub reject_header : HasHeader cancel_reject_table
  reject_header = search

  -- the type that is carried
  pub down_type : IsType (type_of (head_down fields))
  down_type =
      let is = type_is (type_of fields) fields None m e in rw (type_down fields is) is

  -- a sound message is read again behind the header that is carried
  pub behind_head : (table50 : Table Kind) (known : List ℕ) (letter : ℕ) (items : List (Item Kind))
      (w : Message) → IsOf fields known table50 m → HasHeader table50 → w.resend ≡ m.resend
      → IsSound judge (table letter items) w
      → items_behind (table letter items) (head_value (type_of fields) (head_down fields)) w ≡ true
      → table_fits (table letter items) (front (table letter items)
      (head_value (type_of fields) (head_down fields)) w) ≡ true
      → told (message_of judge (table letter items) (((35, type_of fields)
      ∷ carried (head_down fields)) ++ content (table letter items) w)) ≡ Ok w
  behind_head table50 known letter items w of header resend sound behind fits =
      let own = own_down (type_of fields) fields (head_is_own table50 fields of.read.good (clear)
      (type_of fields) (type_is (type_of fields) fields None m e) header) in
      let flag = ap (λ (v : Option (List ℕ)). unwrap_or (option_map flag_of v) false)
      (resend_down fields) in
      message_again letter items (type_of fields) (head_down fields) w own behind fits sound
      (flag ∙ sym of.read.resend ∙ sym resend)

  module _ (w : Message) (down : down_message None m ≡ Ok w) where
    -- THE MESSAGE OF FIX 4.2 means the same, and is sound
    pub record Keeps : Type 0 where
      pub means : report42 w ≡ report50 m
      pub books : (book : Book) → step42 book w ≡ step50 book m
      pub few : AreFew (written w)
      pub again : message42 (type_of fields)
          ((35, type_of fields) ∷ carried (head_down fields) ++ written w) None ≡ Ok w

    -- the message of a report keeps its PossResend
    resend_is : w.resend ≡ m.resend
    resend_is = ap (λ (x : Message). x.resend)
        (sym (not_lacking (lack_by kinds (rules_for None m) m)
        (by_rules kinds (rules_for None m) m) w down).1)

    kept : (table50 : Table Kind) (known : List ℕ) (letter : ℕ) (items : List (Item Kind))
        → IsOf fields known table50 m → IsReport50 m → HasHeader table50
        → IsSound judge (table letter items) w → table_at w.letter ≡ table letter items
        → AreFew (content (table letter items) w)
        → items_behind (table letter items) (head_value (type_of fields) (head_down fields)) w
        ≡ true
        → table_fits (table letter items) (front (table letter items)
        (head_value (type_of fields) (head_down fields)) w) ≡ true
        → ((x : List Field) → message42 known x None
        ≡ told (message_of judge (table letter items) x)) → Keeps
    kept table50 known letter items of report header sound is few behind fits reads =
        let stands = goes_down None tt m w report down in
        let head : List Field = (35, type_of fields) ∷ carried (head_down fields) in
        let P : Table Kind → Type 0 = λ t. AreFew (content t w) in
        record {
          means = stands.means ∙ unfilled (report50 m);
          books = stands.books;
          few = subst P (sym is) few;
          again = ap (λ (t : List ℕ). message42 t (head ++ written w) None) of.type_is
              ∙ ap (λ (t : Table Kind). message42 known (head ++ content t w) None) is
              ∙ reads (head ++ content (table letter items) w)
              ∙ behind_head table50 known letter items w of header resend_is sound behind fits;
        }

    -- WHAT GOES DOWN means the same, and is read again behind its header
    pub keeps : Keeps
    unfolding is_data_tag times message42
    keeps = by either
      where
        by : IsEither fields m → Keeps
        by (Eight of) =
            let c = of.read.complete in
            let sound = report_sound m w c (down_by None m w (down_rules (Same 41))
            (rules_of None m 56 c.sound.letter) down) in
            kept report_table (codes "8") 56 reports42.execution_report of (Reports50 c)
            report_header sound (ap table_at sound.letter)
            (few_of judge execution_report_table w refl (lit≤ tt) sound) refl refl (λ x. refl)
        by (Nine of) =
            let c = of.read.complete in
            let sound = reject_sound None tt m w c (down_by None m w (down_rules (Original None))
            (rules_of None m 57 c.sound.letter) down) in
            kept cancel_reject_table (codes "9") 57 reports42.cancel_reject of (Rejects50 c)
            reject_header sound (ap table_at sound.letter)
            (few_of judge reject_table42 w refl (lit≤ tt) sound) refl refl (λ x. refl)

    pub reads_again : message42 (type_of (head_down fields))
        (with_content (head_down fields) (written w)) None ≡ Ok w
    reads_again =
        ap (λ (t : List ℕ). message42 t ((35, t) ∷ carried (head_down fields) ++ written w) None)
        (type_down fields (type_is (type_of fields) fields None m e)) ∙ keeps.again

    pub splits_again : SplitsInto (body_of (with_content (head_down fields) (written w)))
        (with_content (head_down fields) (written w)) None
    splits_again =
        clear_again (head_down fields) (written w) (head_clear fields clear) down_type keeps.few
