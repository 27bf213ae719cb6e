-- What an entry does: it forwards a message, answers it off, passes a refusal on, says nothing, or
-- is the session's alone.
use Rattle.std.specs.Prelude.{◌≡◌, ℕ, ◌<◌, true, false, List, [], ◌∷◌, Some, None}
use Rattle.order_meaning.specs.declared.Side.{Side}
use Rattle.order_meaning.specs.declared.Side.TheVariants.{Client, Venue}
use Rattle.pair_entries.specs.declared.entry.Entry.{Entry}
use Rattle.book_laws.specs.Heard.{Refusal, Plain, Heard, Carries, is_reject}
use Rattle.book_laws.specs.HeardLaws.{sort_from}
use Rattle.book_laws.specs.SetAside.{names, counts}
use Rattle.book_laws.specs.Pairs.{given, taken}
use Rattle.book_laws.specs.Keeps.{In, KeepsRefusals}

-- the entry took this message from one side, and nothing from the other
pub record TakesFrom (near far : Side) (e : Entry) (m : Heard) : Type 0 where
  pub takes : taken near e ≡ Some m
  pub only : taken far e ≡ None

-- one message goes on
pub record Forwards (near far : Side) (e : Entry) (m out : Heard) : Type 0 where
  pub from : TakesFrom near far e m
  pub near_given : given near e ≡ []
  pub far_given : given far e ≡ out ∷ []
  pub sort : m.sort ≡ sort_from near
  pub out_sort : out.sort ≡ sort_from near
  pub resend : m.resend ≡ out.resend
  pub carries : Carries near m out

-- a Reject or j to the side itself; more that are plain may follow
pub record AnswersOff (near far : Side) (e : Entry) (m off : Heard) : Type 0 where
  pub from : TakesFrom near far e m
  pub more : List Heard
  pub near_given : given near e ≡ off ∷ more
  pub plain : (o : Heard) → In o more → o.sort ≡ Plain
  pub far_given : given far e ≡ []
  pub reject : is_reject off.sort ≡ true
  pub names_it : off.number_named ≡ Some m.number

-- a refusal of what was forwarded from the far side: a Reject or j there, of that side's own number
pub record PassesOn (before : List Entry) (near far : Side) (e : Entry) (r j : Heard) : Type 0 where
  pub from : TakesFrom near far e r
  pub near_given : given near e ≡ []
  pub far_given : given far e ≡ j ∷ []
  pub refusal : r.sort ≡ Refusal
  pub reject : is_reject j.sort ≡ true
  pub earlier : Entry
  pub is_earlier : In earlier before
  pub m : Heard
  pub out : Heard
  pub forwarded : Forwards far near earlier m out
  pub names_out : names r out ≡ true
  pub names_own : j.number_named ≡ Some m.number

-- nothing: a repeated request, or a refusal that names nothing that was forwarded so far
pub record SaysNothing (before : List Entry) (near far : Side) (e : Entry) (m : Heard) : Type 0
  where
    pub from : TakesFrom near far e m
    pub near_given : given near e ≡ []
    pub far_given : given far e ≡ []
    pub passed : counts near m ≡ false
    pub names_none : m.sort ≡ Refusal → (earlier : Entry) → In earlier before
        → (own out : Heard) → Forwards far near earlier own out → names m out ≡ false

pub data DoesFor (before : List Entry) (near far : Side) (e : Entry) : Type 0 where
  ItForwards : (m out : Heard) → Forwards near far e m out → DoesFor before near far e
  ItAnswers : (m off : Heard) → AnswersOff near far e m off → DoesFor before near far e
  ItPassesOn : (r j : Heard) → PassesOn before near far e r j → DoesFor before near far e
  ItSaysNothing : (m : Heard) → SaysNothing before near far e m → DoesFor before near far e

-- what the session alone does: nothing taken or given that counts
pub record Rests (e : Entry) : Type 0 where
  pub taken_plain : (side : Side) (m : Heard) → taken side e ≡ Some m → m.sort ≡ Plain
  pub given_plain : (side : Side) (m : Heard) → In m (given side e) → m.sort ≡ Plain

pub data Does (before : List Entry) (e : Entry) : Type 0 where
  ForClient : DoesFor before Client Venue e → Does before e
  ForVenue : DoesFor before Venue Client e → Does before e
  ForSession : Rests e → Does before e

-- what is forwarded to the venue has an id that no earlier one has
abbrev pub HasNewId : List Entry → Entry → Type 0
HasNewId before e = (m out : Heard) → Forwards Client Venue e m out → (x : Entry) → In x before
    → (a b : Heard) → Forwards Client Venue x a b → (id : List ℕ)
    → out.cl_ord_id ≡ Some id → b.cl_ord_id ≡ Some id → ⊥

-- what is forwarded to the client has none
abbrev pub HasNoId : Entry → Type 0
HasNoId e = (m out : Heard) → Forwards Venue Client e m out → out.cl_ord_id ≡ None

-- the numbers of an entry are above all earlier ones
pub record IsNew (before : List Entry) (e : Entry) : Type 0 where
  pub taken : (side : Side) (m : Heard) → taken side e ≡ Some m
      → (x : Entry) → In x before → (a : Heard) → taken side x ≡ Some a → a.number < m.number
  pub given : (side : Side) (m : Heard) → In m (given side e)
      → (x : Entry) → In x before → (a : Heard) → In a (given side x) → a.number < m.number

-- ALL THAT IS NEEDED OF AN ENTRY
pub record Goes (before : List Entry) (e : Entry) : Type 0 where
  pub does : Does before e
  pub new_ids : HasNewId before e
  pub no_ids : HasNoId e
  pub is_new : IsNew before e
  pub keeps : (side : Side) → KeepsRefusals side before e
