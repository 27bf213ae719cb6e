-- A request that goes on is read as a request of FIX 5.0 SP2 that means the same.
use Rattle.std.proofs.Common.{◌≡◌, ℕ, ◌==◌, Bool, true, false, List, [], ◌∷◌, Option, Some, None}
use Rattle.std.proofs.Common.{Ok, IfSome, refl, sym, ap, subst, ◌∙◌, if◌then◌else◌}
use Rattle.std.specs.List.{flat_map}
use Rattle.std.proofs.lemmas.Bool.{eqb-true}
use Rattle.field_groups.specs.Field.{Field}
use Rattle.message_tables.specs.Tables.{Item, Message, is_one_of, text_in}
use Rattle.message_tables.specs.FirstFault.{message_of}
use Rattle.message_tables.specs.Content.{content}
use Rattle.order_meaning.specs.declared.Side.TheVariants.{Client, Venue}
use Rattle.order_meaning.specs.Request.{Request, RequestKind, New}
use Rattle.first_faults.specs.Faults.{told}
use Rattle.row_values.specs.Asked.{letter_of, of_first}
use Rattle.row_values.specs.Kinds.{Kind, judge}
use Rattle.rows_fix50.specs.Header.{completed_by, table}
use Rattle.dict_fix42.specs.Sense.{request42, request_of as asked_in}
use Rattle.dict_fix50.specs.Message.{message50}
use Rattle.dict_fix50.specs.Requests.{asked50, items50}
use Rattle.dict_fix50.specs.Sense.{request50, request_of}
use Rattle.sound_laws.specs.Sound.{without_resend}
use Rattle.sound_laws.proofs.Completed.{completed_again}
use Rattle.sound_laws.proofs.ContentAgain.{read_again}
use Rattle.sound_laws.proofs.Lookups.{places_apart}
use Rattle.sound_laws.proofs.Stages.{item_tags}
use Rattle.sound_laws.proofs.TableFits as fits
use Rattle.sound_laws.proofs.TableFits.{table_fits}
use Rattle.request_rules.specs.Canonical.{IsCanonical, IsRequest}
use Rattle.message_answers.specs.Chains.{joining}
use Rattle.message_answers.proofs.SentFields.{AreGiven, request_given}
use Rattle.book_laws.specs.Heard as heard
use Rattle.book_laws.specs.Heard.{message_to, sort_of}
use Rattle.book_laws.proofs.On.{IsOn}

-- ---- what a message asks for

record Asks (m : Message) (r : Request) : Type 0 where
  letter : m.letter ≡ letter_of r.kind
  resend : m.resend ≡ r.resend
  id : text_in m.cells 11 ≡ r.cl_ord_id

asks : (m : Message) → IfSome (request42 m) (Asks m)
asks m = by (m.letter == 68) (m.letter == 70) (m.letter == 71) (m.letter == 72) refl refl refl refl
  where
    by : (d f g h : Bool) → (m.letter == 68) ≡ d → (m.letter == 70) ≡ f → (m.letter == 71) ≡ g
        → (m.letter == 72) ≡ h
        → IfSome (of_first d f g h (λ kind. asked_in kind m)) (Asks m)
    by true f g h a b c e =
        record { letter = eqb-true m.letter 68 a; resend = refl; id = refl }
    by false true g h a b c e =
        record { letter = eqb-true m.letter 70 b; resend = refl; id = refl }
    by false false true h a b c e =
        record { letter = eqb-true m.letter 71 c; resend = refl; id = refl }
    by false false false true a b c e =
        record { letter = eqb-true m.letter 72 e; resend = refl; id = refl }
    by false false false false a b c e = tt

-- ---- its content is read again

module _ (letter : ℕ) (items : List (Item Kind)) (fit : table_fits (table letter items) [] ≡ true)
    (bare : is_one_of (flat_map item_tags items) 97 ≡ false) where
  again : (m : Message) → IsCanonical letter items m → completed_by
      (told (message_of judge (table letter items) (content (table letter items) m)))
      ≡ Ok (without_resend m)
  again m c =
      let t = table letter items in
      ap completed_by (read_again t m fit bare c.sound)
      ∙ ap (λ (x : Message). Ok x)
      (completed_again m c.month (ap places_apart c.sound.places
      ∙ fits.places_are_apart t m [] fit) false)

-- ---- it goes on

module _ (m request : Message) (written : List Field) (means : request50 request ≡ request42 m)
  where
    by_kind : (kind : RequestKind) → request.letter ≡ letter_of kind
        → request50 request ≡ Some (request_of kind request)
        → sort_of (letter_of kind ∷ []) true ≡ heard.Request
        → message_to Venue (letter_of kind ∷ []) written ≡ Ok (without_resend request)
        → AreGiven written → IsOn Client m request written
    by_kind kind own is sort read given =
        let same : Asks m (request_of kind request) =
        subst (λ (o : Option Request). IfSome o (Asks m)) (sym means ∙ is) (asks m) in
        let letters : m.letter ≡ request.letter = same.letter ∙ sym own in
        let id : text_in m.cells 11 ≡ text_in request.cells 11 = same.id in
        record {
          sort = ap (λ (l : ℕ). sort_of (l ∷ []) true) same.letter ∙ sort;
          resend = same.resend;
          id = λ i. if is_one_of joining (letters i) then Some (id i) else None;
          carries = sym means;
          given = given;
          read = ap (λ (l : ℕ). message_to Venue (l ∷ []) written) same.letter ∙ read;
        }

    on_kind : (kind : RequestKind) → IsCanonical (letter_of kind) (items50 kind) request
        → written ≡ content (asked50 kind) request → AreGiven written
        → IsOn Client m request written
    unfolding message50
    on_kind New c is = by_kind New c.sound.letter (rw c.sound.letter refl) refl
        (ap (message_to Venue (68 ∷ [])) is ∙ again 68 (items50 New) refl refl request c)
    on_kind kind c is = by_kind kind c.sound.letter (rw c.sound.letter refl) refl
        (ap (message_to Venue (letter_of kind ∷ [])) is
        ∙ again (letter_of kind) (items50 kind) refl refl request c)

    -- A REQUEST GOES ON.
    pub request_on : IsRequest request written → IsOn Client m request written
    request_on r = on_kind r.kind r.canonical r.is (request_given request written r)
