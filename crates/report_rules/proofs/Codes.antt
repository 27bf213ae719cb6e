-- The codes of a report that goes down mean what they meant, and are codes of FIX 4.2, which tell
-- of an execution, or of another one, exactly where the source does; and so are those of OrdType
-- and TimeInForce.
use Rattle.std.proofs.Common.{◌≡◌, ℕ, Bool, true, false, ◌==◌, ◌||◌, [], Option, Some, None, refl}
use Rattle.std.proofs.Common.{sym, ap, subst, ◌∙◌, if◌then◌else◌, codes, unwrap_or, option_map}
use Rattle.std.proofs.Common.{List, ◌∷◌, map}
use Rattle.std.specs.Prelude.{is_some, not, IfSome, ◌&&◌}
use Rattle.std.specs.List.{AllByRecursion, list_all, list_any}
use Rattle.std.proofs.lemmas.Bool.{eqb-true}
use Rattle.value_kinds.specs.ValueKind.{code_text, Code, is_code, spelling}
use Rattle.message_tables.specs.Tables.{Said, ◌>>=◌, code_of, Optional, Spells}
use Rattle.message_tables.specs.Tables.{is_listed, is_one_of, value_at}
use Rattle.reports_fix42.specs.Sense.{exec_of as exec42, phase_of as phase42}
use Rattle.reports_fix50.specs.Sense.{exec_of as exec50, phase_of as phase50}
use Rattle.sound_laws.proofs.Each.{both, one_of, all_true, each_map, not_true}
use Rattle.report_rules.specs.Rules.{coded, exec_type, id_down, is_event, is_status, lacks_type}
use Rattle.report_rules.specs.Rules.{status_if, trans_type, works_on, at_close, time_down}
use Rattle.report_rules.specs.Rules.{type_down}
use Rattle.field_groups.specs.Field.{Field, is_soh}
use Rattle.row_values.specs.Kinds.{TimeBeside, Value, is_at_close, judge, row, verdict_of}
use Rattle.rows_fix42.specs.Meaning.{is_on_close}
use Rattle.sound_laws.specs.Sound.{IsSaid}
use Rattle.sound_laws.proofs.Judged50.{counts}
use Rattle.sound_laws.proofs.RowsSaid.{codes_said, is_code_of}

coded_is : (code : Option ℕ) → (coded code >>= code_of) ≡ code
coded_is None = refl
coded_is (Some code) = refl

-- ---- ExecTransType and ExecType

-- what holds of each ExecType that has a counterpart
of_type : (P : ℕ → Type 0) → AllByRecursion P (codes "FGHIL03456789ABCDE") → (t : ℕ)
    → lacks_type (Some t) ≡ false → P t
of_type P each t lack =
    by (t == 70) (t == 71) (t == 72) (t == 73) (t == 76) (is_event t) refl refl refl refl refl refl
    lack
  where
    at : (k : ℕ) → P k → (t == k) ≡ true → P t
    at k holds e = subst P (sym (eqb-true t k e)) holds

    by : (f g h i l other : Bool) → (t == 70) ≡ f → (t == 71) ≡ g → (t == 72) ≡ h → (t == 73) ≡ i
        → (t == 76) ≡ l → is_event t ≡ other
        → not (is_some {T = ℕ} (if f then Some 48 else (if g then Some 50 else
        (if h then Some 49 else (if i || l then Some 51 else
        (if other then Some 48 else None)))))) ≡ false → P t
    by true g h i l other f' g' h' i' l' other' lack = at 70 each.0 f'
    by false true h i l other f' g' h' i' l' other' lack = at 71 each.1.0 g'
    by false false true i l other f' g' h' i' l' other' lack = at 72 each.1.1.0 h'
    by false false false true l other f' g' h' i' l' other' lack = at 73 each.1.1.1.0 i'
    by false false false false true other f' g' h' i' l' other' lack = at 76 each.1.1.1.1.0 l'
    by false false false false false true f' g' h' i' l' other' lack =
        one_of P (codes "03456789ABCDE") each.1.1.1.1.1 t other'
    by false false false false false false f' g' h' i' l' other' lack = absurd cc

abbrev Tells : ℕ → Bool → ℕ → Type 0
Tells s fill t = exec50 t ≡ Some (exec42 (unwrap_or (trans_type t) 0) (exec_type t s fill))

tells : (s : ℕ) (fill : Bool) (t : ℕ) → lacks_type (Some t) ≡ false → Tells s fill t
unfolding exec50 exec42
tells s true t = of_type (Tells s true) (search) t
tells s false t = of_type (Tells s false) (search) t

-- WHAT A REPORT TELLS OF
pub exec_kept : (code : Option ℕ) (s : ℕ) (fill : Bool) → lacks_type code ≡ false
    → exec50 (unwrap_or code 0)
    ≡ Some (exec42 (unwrap_or (coded (code >>= trans_type) >>= code_of) 0)
    (unwrap_or (option_map (λ c. code_text (exec_type c s fill)) code >>= code_of) 0))
unfolding exec50 exec42
exec_kept None s fill h = refl
exec_kept (Some t) s fill h =
    tells s fill t h
    ∙ ap (λ (c : Option ℕ). Some (exec42 (unwrap_or c 0) (exec_type t s fill)))
    (sym (coded_is (trans_type t)))

-- ---- ExecID

abbrev Named : Said → ℕ → Type 0
Named id t = (if unwrap_or (coded (trans_type t) >>= code_of) 0 == 51 then None
    else Some (unwrap_or (id_down (is_status t) id) []))
    ≡ (if t == 73 || t == 76 then None else Some (unwrap_or id []))

pub id_kept : (code : Option ℕ) (id : Said) → lacks_type code ≡ false
    → (if unwrap_or (coded (code >>= trans_type) >>= code_of) 0 == 51 then None
    else Some (unwrap_or (id_down (status_if code) id) []))
    ≡ (if unwrap_or code 0 == 73 || unwrap_or code 0 == 76 then None else Some (unwrap_or id []))
id_kept None None h = refl
id_kept None (Some id) h = refl
id_kept (Some t) None h = of_type (Named None) (search) t h
id_kept (Some t) (Some id) h = of_type (Named (Some id)) (search) t h

-- ---- OrdStatus

works_is : (status code : Option ℕ) → works_on status code ≡ true → status ≡ Some 48
works_is None code h = absurd cc
works_is (Some status) None h = absurd cc
works_is (Some status) (Some code) h =
    ap (λ (s : ℕ). Some s) (eqb-true status 48 (both (code == 53) (status == 48) h).1)

-- an order that was replaced works on as a new one
pub phase_kept : (code : Option ℕ) (status : Said)
    → phase42 (unwrap_or ((if works_on (status >>= code_of) code then Some (codes "5") else status)
    >>= code_of) 0) ≡ phase50 (unwrap_or (status >>= code_of) 0)
unfolding phase50
phase_kept code status =
    elim (works_on (status >>= code_of) code) as (λ b. works_on (status >>= code_of) code ≡ b
    → phase42 (unwrap_or ((if b then Some (codes "5") else status) >>= code_of) 0)
    ≡ phase50 (unwrap_or (status >>= code_of) 0)) [
      | true ↦ λ e. sym (ap (λ (s : Option ℕ). phase50 (unwrap_or s 0))
          (works_is (status >>= code_of) code e))
      | false ↦ λ e. refl
    ] refl

-- where one test holds, another one does
abbrev implied : Bool → Bool → Bool
implied a b = not a || b

pub so : (a b : Bool) → implied a b ≡ true → a ≡ true → b ≡ true
so true b h e = h
so false b h e = absurd cc

-- ---- ExecTransType and ExecType

-- the ExecTypes and OrdStatuses of FIX 4.2, and the ExecTypes of FIX 5.0 SP2
abbrev pub statuses : List ℕ
statuses = codes "0123456789ABCDE"

abbrev pub exec_types : List ℕ
exec_types = codes "03456789ABCDEFGHIJKL"

-- what makes a row required, by what stands at the tags that are looked at
abbrev pub about_another : Said → Bool
about_another trans = (is_listed (codes "12") trans && true) || false

abbrev pub executes : (trans exec : Said) → Bool
executes trans exec = (is_listed (codes "0") trans && (is_listed (codes "12") exec && true))
    || ((is_listed (codes "2") trans && true) || false)

abbrev pub typed_by : List ℕ → Said → Bool
typed_by listed type = (is_listed listed type && true) || false

-- codes of FIX 4.2 for an ExecType of the source, which asks for what they ask for
module _ (venue trans exec : ℕ) where
  abbrev another : Bool
  another = implied (about_another (Some (code_text trans)))
      (typed_by (codes "GH") (Some (code_text venue)))

  abbrev trade : Bool
  trade = implied (executes (Some (code_text trans)) (Some (code_text exec)))
      (typed_by (codes "FG") (Some (code_text venue)))

  pub record AreCodes : Type 0 where
    pub trans_type : is_one_of (codes "0123") trans ≡ true
    pub exec_type : is_one_of statuses exec ≡ true
    pub needs_another : another ≡ true
    pub needs_trade : trade ≡ true

abbrev fit : (venue exec : ℕ) → Option ℕ → Bool
fit venue exec None = true
fit venue exec (Some trans) = is_one_of (codes "0123") trans
    && (another venue trans exec && trade venue trans exec)

all_fit : (s : ℕ) (fill : Bool)
    → list_all (λ venue. fit venue (exec_type venue s fill) (trans_type venue)) exec_types ≡ true
all_fit s true = refl
all_fit s false = refl

all_listed : (s : ℕ) (fill : Bool) → is_one_of statuses s ≡ true → AllByRecursion (λ venue.
    IfSome (trans_type venue) (λ trans. is_one_of statuses (exec_type venue s fill) ≡ true))
    exec_types
all_listed s true h = search
all_listed s false h = search

-- THE CODES ARE THOSE OF FIX 4.2.
pub are_codes : (s : ℕ) (fill : Bool) → is_one_of statuses s ≡ true → (venue trans : ℕ)
    → is_one_of exec_types venue ≡ true → trans_type venue ≡ Some trans
    → AreCodes venue trans (exec_type venue s fill)
are_codes s fill h venue trans listed is =
    let exec = exec_type venue s fill in
    let P : Option ℕ → Type 0 = λ o. fit venue exec o ≡ true in
    let Q : Option ℕ → Type 0 = λ o. IfSome o (λ trans. is_one_of statuses exec ≡ true) in
    let all = both (is_one_of (codes "0123") trans)
    (another venue trans exec && trade venue trans exec)
    (subst P is (one_of (λ v. fit v (exec_type v s fill) (trans_type v) ≡ true) exec_types
    (all_true (λ v. fit v (exec_type v s fill) (trans_type v)) exec_types (all_fit s fill)) venue
    listed)) in
    let needs = both (another venue trans exec) (trade venue trans exec) all.1 in
    record {
      trans_type = all.0;
      exec_type = subst Q is (one_of (λ v. IfSome (trans_type v)
          (λ trans. is_one_of statuses (exec_type v s fill) ≡ true)) exec_types
          (all_listed s fill h) venue listed);
      needs_another = needs.0;
      needs_trade = needs.1;
    }

-- ---- OrdType and TimeInForce

-- none, or one of some codes
abbrev pub among_if : List ℕ → Said → Bool
among_if listed None = true
among_if listed (Some text) = is_code listed text

abbrev all_of : List ℕ → List Said
all_of listed = None ∷ map (λ c. Some (code_text c)) listed

said_among : (P : Said → Type 0) (listed : List ℕ) → AllByRecursion P (all_of listed)
    → (said : Said) → among_if listed said ≡ true → P said
said_among P listed each None h = each.0
said_among P listed each (Some []) h = absurd cc
said_among P listed each (Some (c ∷ [])) h = one_of (λ code. P (Some (code_text code))) listed
    (each_map P (λ code. Some (code_text code)) listed each.1) c h
said_among P listed each (Some (a ∷ b ∷ text)) h = absurd cc

-- a time at the close stands beside market and limit
abbrev pub is_beside : (type time : Said) → Bool
is_beside type None = true
is_beside type (Some time) = not (is_at_close time) || is_listed (codes "12") type

-- and is at the close there alone
abbrev closes : (type time : Option ℕ) → Bool
closes None time = true
closes (Some type) None = true
closes (Some type) (Some time) = if time == 55 then at_close (Some type) (Some time)
    else not (at_close (Some type) (Some time))

module _ (type time : Said) where
  abbrev are_terms : Bool
  are_terms = (among_if (codes "12345B") (type_down type time)
      && among_if (codes "0123456") (time_down type time))
      && (not (is_on_close (type >>= code_of)) && closes (type >>= code_of) (time >>= code_of))

  -- WHAT THEY ARE in FIX 4.2
  pub record AreTerms : Type 0 where
    pub type_listed : among_if (codes "12345B") (type_down type time) ≡ true
    pub time_listed : among_if (codes "0123456") (time_down type time) ≡ true
    pub plain : is_on_close (type >>= code_of) ≡ false
    pub close : IfSome (type >>= code_of) (λ c. IfSome (time >>= code_of)
        (λ t. (t == 55) ≡ at_close (Some c) (Some t)))

all_terms : list_all (λ type. list_all (λ time. implied (is_beside type time) (are_terms type time))
    (all_of (codes "01234567"))) (all_of (codes "1234")) ≡ true
all_terms = refl

closes_so : (type time : Option ℕ) → closes type time ≡ true
    → IfSome type (λ c. IfSome time (λ t. (t == 55) ≡ at_close (Some c) (Some t)))
closes_so None time h = tt
closes_so (Some type) None h = tt
closes_so (Some type) (Some time) h = by (time == 55) (at_close (Some type) (Some time)) h
  where
    by : (a b : Bool) → (if a then b else not b) ≡ true → a ≡ b
    by true b h = sym h
    by false b h = sym (not_true b h)

pub terms_are : (type time : Said) → among_if (codes "1234") type ≡ true
    → among_if (codes "01234567") time ≡ true → is_beside type time ≡ true → AreTerms type time
terms_are type time typed timed beside =
    let fits : Said → Said → Bool = λ x y. implied (is_beside x y) (are_terms x y) in
    let of_type : Said → Bool = λ x. list_all (fits x) (all_of (codes "01234567")) in
    let each = said_among (λ x. of_type x ≡ true) (codes "1234")
    (all_true of_type (all_of (codes "1234")) all_terms) type typed in
    let all = so (is_beside type time) (are_terms type time)
    (said_among (λ y. fits type y ≡ true) (codes "01234567")
    (all_true (fits type) (all_of (codes "01234567")) each) time timed) beside in
    let p = both _ _ all in
    let down = both _ _ p.0 in
    let rest = both (not (is_on_close (type >>= code_of))) _ p.1 in
    record {
      type_listed = down.0;
      time_listed = down.1;
      plain = not_true (is_on_close (type >>= code_of)) rest.0;
      close = closes_so (type >>= code_of) (time >>= code_of) rest.1;
    }

-- what is spelled is one of the codes, and what is one of the codes is said
pub code_among : (fields : List Field) (listed : List ℕ) (said : Said)
    → IfSome said (λ text. judge fields (Value (Code listed)) text ≡ Spells text)
    → among_if listed said ≡ true
code_among fields listed None h = refl
code_among fields listed (Some text) h =
    let code = is_code_of fields listed text h in
    let P : List ℕ → Type 0 = λ x. is_code listed x ≡ true in subst P (sym code.is) code.listed

pub among_said : (fields : List Field) (tag : ℕ) (listed : List ℕ) (said : Said)
    → list_any is_soh listed ≡ false → among_if listed said ≡ true
    → IsSaid judge fields (row Optional tag (Code listed)) said
among_said fields tag listed None none h = codes_said fields tag listed None none tt
among_said fields tag listed (Some []) none h = absurd cc
among_said fields tag listed (Some (c ∷ [])) none h = codes_said fields tag listed (Some c) none h
among_said fields tag listed (Some (a ∷ b ∷ text)) none h = absurd cc

pub time_among : (fields : List Field) (time : Said)
    → IfSome time (λ text. judge fields (TimeBeside 40) text ≡ Spells text)
    → (among_if (codes "01234567") time ≡ true) × (is_beside (value_at 40 fields) time ≡ true)
unfolding judge
time_among fields None h = (refl, refl)
time_among fields (Some text) h =
    let p = counts
    (not (is_at_close text) || is_listed (codes "12") (value_at 40 fields))
    (verdict_of (spelling (Code (codes "01234567")) text)) text h in
    (code_among fields (codes "01234567") (Some text) p.1, p.0)
