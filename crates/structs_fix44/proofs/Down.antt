-- A report as a struct: its content, that of an execution report without its parties, goes down by
-- the rules behind its MsgType, and is read again.
use Rattle.std.proofs.Common.{◌≡◌, ◌++◌, ◌∙◌, ℕ, List, [], ◌∷◌, false, true, Option, None, Ok, Err}
use Rattle.std.proofs.Common.{Some, codes, drop, lit≤, map, refl, sym, ap, subst, take}
use Rattle.std.specs.Prelude.{IfSome, Result}
use Rattle.field_groups.specs.Data.{is_data_tag}
use Rattle.field_groups.specs.declared.fault.SplitFault.{SplitFault}
use Rattle.field_groups.specs.Field.{Field, body_of, field_bytes}
use Rattle.field_groups.specs.Fields.{SplitsInto}
use Rattle.message_tables.specs.Content.{content}
use Rattle.message_tables.specs.FirstFault.{message_of}
use Rattle.message_tables.specs.Tables.{Item, Message, Role, Said, Table}
use Rattle.message_tables.specs.Tables.{first_of}
use Rattle.row_values.specs.Kinds.{Kind, judge}
use Rattle.row_values.specs.Lines.{party_cells}
use Rattle.order_meaning.specs.declared.fault.Lack.{Lack}
use Rattle.order_meaning.specs.declared.fault.Lack.TheVariants as reasons
use Rattle.order_meaning.specs.declared.party.Three.{Three}
use Rattle.first_faults.specs.Faults.{told}
use Rattle.rows_fix50.specs.Header.{completed_by, table as table50}
use Rattle.party_translate.specs.Parties.{parties_of, three_of}
use Rattle.reports_fix44.specs.Message.{cancel_reject_table as reject_table44, report_by}
use Rattle.reports_fix44.specs.Message.{report_table as report_table44}
use Rattle.reports_fix44.specs.Said as said44
use Rattle.reports_fix44.specs.declared.reports.CancelReject44.{CancelReject44}
use Rattle.reports_fix50.specs.Message.{cancel_reject_table, message50, report_table}
use Rattle.reports_fix50.specs.Reports.{cancel_reject, execution_report}
use Rattle.reports_fix50.specs.Said.{cancel_reject_says, report_says}
use Rattle.reports_fix50.specs.declared.reports.CancelReject50.{CancelReject50}
use Rattle.reports_fix50.specs.declared.reports.Report50.{Report50}
use Rattle.sound_laws.specs.Complete.{IsComplete}
use Rattle.sound_laws.specs.Sound.{without_resend}
use Rattle.sound_laws.proofs.Completed.{completed_again}
use Rattle.sound_laws.proofs.Lookups.{places_apart}
use Rattle.sound_laws.proofs.PlainFields.{AreFew, few_of, times}
use Rattle.sound_laws.proofs.RowsSaid.{optional_said}
use Rattle.sound_laws.proofs.TableFits as fits
use Rattle.sound_laws.proofs.TableFits.{table_fits}
use Rattle.rule_rows.specs.ByRules.{by_rules, lack_by, or_lack}
use Rattle.rule_rows.specs.Rules.{By}
use Rattle.report_rules.specs.Down.{IsId, Rejects50, Reports50}
use Rattle.report_rules.proofs.SenseDown.{not_lacking}
use Rattle.translation.specs.Going.{Appends}
use Rattle.translation.proofs.BehindHeader.{IsHead, front, items_behind, read_behind, whole}
use Rattle.translation.proofs.CarriedHeader.{head_value, own_said}
use Rattle.report_translate.specs.Reading.{report_message}
use Rattle.exec_translate.specs.Down.{bare, once}
use Rattle.exec_translate.proofs.Shell.{bare_complete, few}
use Rattle.request_translate.proofs.AsStructs.{few_again, split_is}
use Rattle.translate_fix44.specs.Laws.{StandsDown}
use Rattle.translate_fix44.specs.Rules.{Else, Rule, Same, down_content, down_message, down_rules}
use Rattle.translate_fix44.specs.Rules.{kinds}
use Rattle.translate_fix44.specs.Translation.{down, down_by}
use Rattle.translate_fix44.proofs.Go as go
use Rattle.translate_fix44.proofs.Go.{go_down, reject_goes_down, report_goes_down}
use Rattle.structs_fix44.specs.Down.{IsDown, Says, with_parties}
use Rattle.structs_fix44.specs.Up.{IsLackOf}
use Rattle.structs_fix44.proofs.Typed.{IsTyped, behind_type, puts, same_lack, typed, typed_as}

-- ---- a content of FIX 5.0 SP2 behind its MsgType

module _ (letter : ℕ) (items : List (Item Kind)) (r : Message) (is : IsTyped letter) where
  abbrev t : Table Kind
  t = table50 letter items

  abbrev values : ℕ → Option (List ℕ)
  values = head_value (letter ∷ []) (typed letter)

  header_said : IsHead t values r
  header_said = search (own_said, optional_said) parts 20

  reads_typed : items_behind t values r ≡ true → table_fits t (front t values r) ≡ true
      → IsComplete t r → false ≡ r.resend
      → completed_by (told (message_of judge t (typed letter ++ content t r))) ≡ Ok r
  reads_typed behind fit c flag =
      let places = fits.places_are_apart t (whole t values r) (front t values r) fit in
      ap completed_by (read_behind t values r behind header_said fit c.sound refl flag)
      ∙ ap (λ (x : Message). Ok x) (completed_again r c.month (ap places_apart c.sound.places
      ∙ places) r.resend)

-- ---- what such a body says, and what goes down of it

-- it says the same, whatever id is known besides
pub known_says : (known : Said) {body : List ℕ} {m : Message} → Says down body m
    → Says (down_by known) body m
known_says known s =
    record { fields = s.fields; bytes = s.bytes; again = s.again; reads = s.reads }

pub is_down : (known : Said) {body : List ℕ} {m : Message} → Says down body m
    → {fields : List Field} {stopped : Option SplitFault} → SplitsInto body fields stopped
    → {before after : List ℕ} → before ≡ [] → Appends (down_by known) fields stopped before after
    → IsDown known m after
is_down known {body} {m} said split {before} {after} start h =
    let p = puts (known_says known said) split before after h in record {
      w = p.w;
      goes = p.goes;
      bytes = p.put ∙ ap (λ (x : List ℕ). x ++ body_of (down_content known m)) start;
    }

pub copied_says : {text body : List ℕ} → body ≡ text → {m : Message} → Says down text m
    → Says down body m
copied_says copied s = record {
  fields = s.fields;
  bytes = copied ∙ s.bytes;
  again = s.again;
  reads = s.reads;
}

-- what goes down is read again
module _ {t : Table Kind} {known : Said} {m : Message} {content body : List ℕ}
    {fields : List Field} {stopped : Option SplitFault} (there : IsDown known m content)
    (d : go.IsDown t known m there.w)
    (copied : body ≡ content) (split : SplitsInto body fields stopped) where
  read_down : (r : Message) → report_by t fields stopped ≡ Ok r → r ≡ without_resend there.w
  read_down r read =
      let few = subst (λ (fs : List Field). AreFew fs) (sym d.gone.is) d.few in
      let same = split_is body (down_content known m) fields stopped (copied ∙ there.bytes)
      (few_again (down_content known m) few) split in
      let e = sym read ∙ (λ i. report_by t (same.0 i) (same.1 i)) ∙ d.gone.again in
      cc

-- a lack of the message that a body says is one of another message that lacks the same
lack_of : {x y : Result Message ℕ} → ((tag : ℕ) → x ≡ Err tag → y ≡ Err tag) → (lack : Lack)
    → IsLackOf x lack → IsLackOf y lack
lack_of same reasons.NoMemory h = tt
lack_of same (reasons.Tag tag) h = same tag h

-- ---- an execution report

-- the parties that have a place are those of the lines that were made of them
three_again : (a b c : Said)
    → three_of (parties_of (record { client = a; broker = b; firm = c }))
    ≡ record { client = a; broker = b; firm = c }
three_again None None None = refl
three_again None None (Some c) = refl
three_again None (Some b) None = refl
three_again None (Some b) (Some c) = refl
three_again (Some a) None None = refl
three_again (Some a) None (Some c) = refl
three_again (Some a) (Some b) None = refl
three_again (Some a) (Some b) (Some c) = refl

module _ (msg : Report50) (c : IsComplete report_table (report_says msg)) where
  abbrev b : Message
  b = report_says (bare msg)

  pub report_said : {none first body : List ℕ} → none ≡ []
      → first ≡ none ++ field_bytes (35, codes "8")
      → body ≡ first ++ body_of (content report_table b) → Says down body b
  unfolding report_message message50
  report_said empty put wrote = record {
    fields = typed 56 ++ content report_table b;
    bytes = wrote ∙ ap (λ (x : List ℕ). x ++ body_of (content report_table b)) (put
        ∙ ap (λ (x : List ℕ). x ++ field_bytes (35, codes "8")) empty);
    again = behind_type 56 (typed_as 56 refl) (content report_table b) (few msg c);
    reads = reads_typed 56 execution_report b (typed_as 56 refl) refl refl (bare_complete msg c) refl;
  }

  pub report_lacks : (lack : Lack) → IsLackOf (down_message None b) lack
      → IsLackOf (down_message None (report_says msg)) lack
  unfolding first_of
  report_lacks =
      let all = down_rules (Same 41) in
      lack_of (same_lack (lack_by kinds all b) (by_rules kinds all b)
      (by_rules kinds all (report_says msg)))

  -- ---- and what goes down of it

  abbrev patch : Three → Message → Message
  patch three x = record x {
    resend = msg.resend;
    cells = take 4 x.cells ++ (Role 3, three.client) ∷ (Role 1, three.broker)
        ∷ (Role 4, three.firm) ∷ drop 7 x.cells;
    groups = (453, map party_cells (parties_of (three_of msg.parties))) ∷ drop 1 x.groups;
  }

  by_parties : (w : Message) (r : Report50) → down_message None b ≡ Ok w
      → said44.report_says r ≡ without_resend w
      → down_message None (report_says msg) ≡ Ok (said44.report_says (with_parties msg r))
  unfolding first_of
  by_parties w r goes is =
      let all = down_rules (Same 41) in
      let three = three_of msg.parties in
      let again = three_again three.client three.broker three.firm in
      let d = not_lacking (lack_by kinds all b) (by_rules kinds all b) w goes in
      let put : said44.report_says (with_parties msg r) ≡ by_rules kinds all (report_says msg) =
      ap (patch (three_of (parties_of three))) (is ∙ ap without_resend (sym d.1))
      ∙ ap (λ (t : Three). patch t (without_resend (by_rules kinds all b))) again in
      ap (λ (l : Option ℕ). or_lack l (by_rules kinds all (report_says msg))) d.0
      ∙ ap (λ (x : Message). Ok x) (sym put)

  module _ {text body : List ℕ} {fields : List Field} {stopped : Option SplitFault}
      (there : IsDown None b text) (copied : body ≡ text) (split : SplitsInto body fields stopped)
      (r : Report50) (read : report_by report_table44 fields stopped ≡ Ok (said44.report_says r))
      (x : Report50) (is : x ≡ with_parties msg r) where
    pub report_down : down_message None (report_says msg) ≡ Ok (said44.report_says x)
    report_down =
        let d = report_goes_down None b there.w (bare_complete msg c) there.goes in
        by_parties there.w r there.goes
        (read_down {t = report_table44} there d copied split (said44.report_says r) read)
        ∙ ap (λ (y : Report50). Ok (said44.report_says y)) (sym is)

    pub report_stands : StandsDown None (report_says msg) (said44.report_says x)
    report_stands = go_down None tt (report_says msg) (said44.report_says x) (Reports50 c)
        report_down

-- ---- a cancel reject

-- a cancel reject as a body
module _ (msg : CancelReject50) where
  abbrev once_said : Message
  once_said = cancel_reject_says (once msg)

  pub once_complete : IsComplete cancel_reject_table (cancel_reject_says msg)
      → IsComplete cancel_reject_table once_said
  once_complete c = record {
    sound = record { letter = refl; places = refl; counts = refl; items = c.sound.items };
    month = refl;
  }

  pub reject_said : IsComplete cancel_reject_table once_said → {none first body : List ℕ}
      → none ≡ [] → first ≡ none ++ field_bytes (35, codes "9")
      → body ≡ first ++ body_of (content cancel_reject_table once_said) → Says down body once_said
  unfolding report_message message50 is_data_tag times
  reject_said c empty put wrote =
      let own = content cancel_reject_table once_said in record {
        fields = typed 57 ++ own;
        bytes = wrote ∙ ap (λ (x : List ℕ). x ++ body_of own) (put
            ∙ ap (λ (x : List ℕ). x ++ field_bytes (35, codes "9")) empty);
        again = behind_type 57 (typed_as 57 refl) own
            (few_of judge cancel_reject_table once_said refl (lit≤ tt) c.sound);
        reads = reads_typed 57 cancel_reject once_said (typed_as 57 refl) refl refl c refl;
      }

module _ (known : Said) (msg : CancelReject50) (id : IfSome known IsId)
    (c : IsComplete cancel_reject_table (cancel_reject_says msg)) where
  abbrev n : Message
  n = cancel_reject_says msg

  abbrev q : Message
  q = cancel_reject_says (once msg)

  abbrev all : List Rule
  all = down_rules (By (Else 41 known))

  pub reject_lacks : (lack : Lack) → IsLackOf (down_message known q) lack
      → IsLackOf (down_message known n) lack
  unfolding first_of
  reject_lacks = lack_of (same_lack (lack_by kinds all q) (by_rules kinds all q)
      (by_rules kinds all n))

  -- ---- and what goes down of it

  by_resend : (w : Message) (r : CancelReject44) → down_message known q ≡ Ok w
      → said44.cancel_reject_says r ≡ without_resend w
      → down_message known n ≡ Ok (said44.cancel_reject_says (record r { resend = msg.resend }))
  unfolding first_of
  by_resend w r goes is =
      let d = not_lacking (lack_by kinds all q) (by_rules kinds all q) w goes in
      let put = ap (λ (x : Message). record x { resend = msg.resend }) (is
      ∙ ap without_resend (sym d.1)) in
      ap (λ (l : Option ℕ). or_lack l (by_rules kinds all n)) d.0
      ∙ ap (λ (x : Message). Ok x) (sym put)

  module _ {text body : List ℕ} {fields : List Field} {stopped : Option SplitFault}
      (there : IsDown known q text) (copied : body ≡ text) (split : SplitsInto body fields stopped)
      (r : CancelReject44)
      (read : report_by reject_table44 fields stopped ≡ Ok (said44.cancel_reject_says r)) where
    pub reject_down : down_message known n
        ≡ Ok (said44.cancel_reject_says (record r { resend = msg.resend }))
    reject_down =
        let d = reject_goes_down known id q there.w (once_complete msg c) there.goes in
        by_resend there.w r there.goes
        (read_down {t = reject_table44} there d copied split (said44.cancel_reject_says r) read)

    pub reject_stands : StandsDown known n
        (said44.cancel_reject_says (record r { resend = msg.resend }))
    reject_stands = go_down known id n _ (Rejects50 c) reject_down
