-- What an entry of a lawful journal does: one of the shapes that both books need.
use Rattle.std.proofs.Common.{◌≡◌, ◌==◌, ◌&&◌, ◌||◌, ℕ, Bool, true, false, not, List, []}
use Rattle.std.proofs.Common.{◌∷◌, map, Option, Some, None, Result, Ok, refl, sym, ap}
use Rattle.std.proofs.Common.{arith, option_map, subst, ◌∙◌, inl, inr, if◌then◌else◌}
use Rattle.std.specs.Prelude.{cond, is_some}
use Rattle.std.specs.Result.{result_ok}
use Rattle.std.proofs.lemmas.Bool.{eqb-true}
use Rattle.message_tables.specs.Tables.{Message, ◌>>=◌, is_one_of, text_in}
use Rattle.order_meaning.specs.declared.Side.{Side}
use Rattle.order_meaning.specs.declared.Side.TheVariants.{Client, Venue}
use Rattle.order_meaning.specs.declared.fault.Fault.{Fault}
use Rattle.order_meaning.specs.declared.names.Names.{Names}
use Rattle.order_chains.specs.Chains.{has_id, item_with, number_of}
use Rattle.order_chains.specs.declared.item.ChainItem.{ChainItem}
use Rattle.frame_grammar.specs.Frame.{IsBody}
use Rattle.pair_entries.specs.declared.entry.Took.{Took}
use Rattle.pair_entries.specs.declared.entry.Out.{Out}
use Rattle.pair_entries.specs.declared.entry.Entry.{Entry}
use Rattle.kept_entries.specs.Given.{source_of}
use Rattle.kept_entries.specs.Numbers.{first_numbers, is_side, outs_to}
use Rattle.row_values.specs.Kinds.{resend_of}
use Rattle.event_decisions.specs.Body.{fields_of}
use Rattle.event_decisions.specs.Laws.{AreAdmin, IsOfSession}
use Rattle.message_answers.specs.Answer.{is_used, other}
use Rattle.message_answers.specs.Chains.{chains_of, joining}
use Rattle.message_answers.specs.Known.{known_of, named, named_by_id}
use Rattle.message_answers.specs.Message.{is_refusal, is_refusal_type, message_of, refusal_in}
use Rattle.message_answers.proofs.ReadShapes.{resend_is, said_type}
use Rattle.life_laws.specs.Receiver.{IsSent}
use Rattle.book_laws.specs.Heard.{Heard, Sort, Request, Report, Refusal, Plain}
use Rattle.book_laws.specs.Heard.{cl_ord_id_in, heard_body, heard_out, is_among, is_reject}
use Rattle.book_laws.specs.Heard.{refusal_sort, report_types, request_types, sort_of}
use Rattle.book_laws.specs.HeardLaws.{HasItsId, IdsAreCompared, IsRefusalOf}
use Rattle.book_laws.specs.HeardLaws.{RefusalsAreHeard, SentSessionsAreHeardPlain, sort_from}
use Rattle.book_laws.specs.SetAside.{counts, is_id, is_request, is_report, names as names_message}
use Rattle.book_laws.specs.SetAside.{names_by}
use Rattle.book_laws.specs.Pairs.{given, taken}
use Rattle.book_laws.specs.Keeps.{In}
use Rattle.book_laws.specs.Laws.{HeadersSayNothing}
use Rattle.book_laws.proofs.Made.{GivesOne, Going, IsRead, IsTaken, Made, MadeNone, MadeOff}
use Rattle.book_laws.proofs.Made.{MadeOn, MadeRepeat, MadeRest, MadeTold}
use Rattle.book_laws.proofs.New.{AllMove, in_mapped, only_entry, own_or_far}
use Rattle.book_laws.proofs.Outs.{given_is}
use Rattle.book_laws.proofs.Shapes.{Does, DoesFor, Forwards, ForClient, ForVenue}
use Rattle.book_laws.proofs.Shapes.{ForSession, HasNewId, HasNoId, ItAnswers, ItForwards}
use Rattle.book_laws.proofs.Shapes.{ItPassesOn, ItSaysNothing, Rests, TakesFrom}
use Rattle.book_laws.proofs.Chains.{WentById, id_kept, id_went}
use Rattle.book_laws.proofs.Sides.{apart_side, far_side, in_outs, own_side, twice}
use Rattle.book_laws.proofs.Sources.{AreKnown, WentUnder, admin_out, found, only_out, own_among}
use Rattle.book_laws.proofs.Sources.{source_went}
use Rattle.book_laws.proofs.Tests.{and-false, counts-none, is-false, same-some}
use Rattle.book_laws.proofs.Tooks.{heard_raw, raw_is_body, raw_refuses, took_far, took_heard}
use Rattle.book_laws.proofs.Tooks.{took_none, took_plain}

-- ---- sorts

letter_sort : (l : ℕ) → (l == 51 || l == 106) ≡ false → is_refusal_type (l ∷ []) ≡ false
letter_sort l none = by (l == 51) (l == 106) none
  where
    by : (a b : Bool) → (a || b) ≡ false → (a && true || b && true) ≡ false
    by true b is = absurd (cc is)
    by false true is = absurd (cc is)
    by false false is = refl

no_refusal : (l : ℕ) (read : Bool) → is_refusal_type (l ∷ []) ≡ false
    → sort_of (l ∷ []) read ≡ Refusal → ⊥
no_refusal l read none is = by (is_refusal_type (l ∷ [])) (is_among request_types (l ∷ []))
    (is_among report_types (l ∷ [])) none is
  where
    by : (a b c : Bool) → a ≡ false → (if a then refusal_sort read else
        (if b then Request else (if c then Report else Plain))) ≡ Refusal → ⊥
    by true b c none is = absurd cc
    by false true c none is = absurd cc
    by false false true none is = absurd cc
    by false false false none is = absurd cc

plain_sort : (side : Side) → Plain ≡ sort_from side → ⊥
plain_sort Client is = absurd (cc is)
plain_sort Venue is = absurd (cc is)

reject_sort : (side : Side) (s : Sort) → is_reject s ≡ true → s ≡ sort_from side → ⊥
reject_sort Client s reject is = absurd (cc (reject, is))
reject_sort Venue s reject is = absurd (cc (reject, is))

-- ---- what is given of one out

-- each out of an entry can be sent
abbrev pub AreSentBy : Names → Entry → Type 0
AreSentBy names e = (side : Side) (out : Out) → In out (outs_to side e.outs) → IsSent names side out

taken_from : (e : Entry) (took : Took) → IsTaken e took
    → TakesFrom took.side (other took.side) e (heard_raw took.side took.number took.raw)
taken_from e took t = record {
  takes = took_heard e took t.is t.no_reset t.numbered;
  only = took_far e took t.is;
}

module _ (names : Names) (e : Entry) (sent : AreSentBy names e) where
  one_given : (side to : Side) (out : Out) {b : Bool} → GivesOne e to out → is_side side to ≡ b
      → given side e ≡ map heard_out (cond b (out ∷ []) [])
  one_given side to out gives is = given_is side names e (sent side)
      ∙ ap (λ (l : List Out). map heard_out (outs_to side l)) gives.outs
      ∙ ap (λ (b : Bool). map heard_out (cond b (out ∷ []) [])) (ap (is_side side) gives.to ∙ is)

  own_given : (side : Side) (out : Out) → GivesOne e side out → given side e ≡ heard_out out ∷ []
  own_given side out gives = one_given side side out gives (own_side side)

  far_given : (side : Side) (out : Out) → GivesOne e side out → given (other side) e ≡ []
  far_given side out gives = one_given (other side) side out gives (far_side side)

  near_given : (side : Side) (out : Out) → GivesOne e (other side) out → given side e ≡ []
  near_given side out gives = one_given side (other side) out gives (apart_side side)

  none_given : (side : Side) → e.outs ≡ [] → given side e ≡ []
  none_given side none = given_is side names e (sent side)
      ∙ ap (λ (l : List Out). map heard_out (outs_to side l)) none

  -- what a session says is plain
  admin_given : SentSessionsAreHeardPlain → AreAdmin e.outs → (side : Side) (m : Heard)
      → In m (given side e) → m.sort ≡ Plain
  admin_given plain admins side m i =
      let o = in_mapped heard_out m (outs_to side e.outs)
      (subst (In m) (given_is side names e (sent side)) i) in
      let among = in_outs side e.outs o.0 o.1 in
      ap (λ (h : Heard). h.sort) o.2
      ∙ plain names side o.0 (sent side o.0 o.1) (admin_out e.outs o.0 admins among.0)

  -- ---- what goes on

  module _ (says : HeadersSayNothing) (past : List Entry) (took : Took) (out : Out) (m : Message)
      (going : Going past e took out m) where
    raw_is : heard_raw took.side took.number took.raw ≡ heard_body took.side took.number took.raw
    raw_is = raw_is_body says took.side took.number took.raw m going.read.reads going.read.is

    going_takes : taken took.side e ≡ Some (heard_body took.side took.number took.raw)
    going_takes = took_heard e took going.taken.is going.taken.no_reset going.taken.numbered
        ∙ ap Some raw_is

    -- A MESSAGE THAT GOES ON IS FORWARDED.
    pub forwards : Forwards took.side (other took.side) e
        (heard_body took.side took.number took.raw) (heard_out out)
    forwards = record {
      from = record { takes = going_takes; only = took_far e took going.taken.is };
      near_given = near_given took.side out going.gives;
      far_given = own_given (other took.side) out going.gives;
      sort = going.on.sort;
      out_sort = going.on.out_sort;
      resend = going.on.resend;
      carries = going.on.carries;
    }

-- what was forwarded went on
pub record IsForwarded (past : List Entry) (near : Side) (e : Entry) (m out : Heard) : Type 0
  where
    pub took : Took
    pub own : Out
    pub message : Message
    pub going : Going past e took own message
    pub side : took.side ≡ near
    pub out_is : out ≡ heard_out own
    pub m_is : m ≡ heard_body took.side took.number took.raw

module _ (names : Names) (says : HeadersSayNothing) (plain : SentSessionsAreHeardPlain)
    (near : Side) (past : List Entry) (e : Entry) (sent : AreSentBy names e) (m out : Heard)
    (f : Forwards near (other near) e m out) where
  near_is : (took : Took) → IsTaken e took → near ≡ took.side
  near_is took t = elim (own_or_far near took.side) [
    | inl same ↦ same
    | inr other_side ↦ absurd (cc (
      took_far e took t.is,
      subst (λ (s : Side). taken s e ≡ Some m) other_side f.from.takes,
    ))
  ]

  no_given : given (other near) e ≡ [] → IsForwarded past near e m out
  no_given none = absurd (cc (none, f.far_given))

  -- WHAT IS FORWARDED IS A MESSAGE THAT GOES ON.
  pub forwarded : Made past e → IsForwarded past near e m out
  forwarded (MadeOn took own message going) =
      let same = near_is took going.taken in
      let given : given (other near) e ≡ heard_out own ∷ [] =
      ap (λ (s : Side). given (other s) e) same
      ∙ own_given names e sent (other took.side) own going.gives in
      let takes : taken near e ≡ Some (heard_body took.side took.number took.raw) =
      ap (λ (s : Side). taken s e) same
      ∙ going_takes names e sent says past took own message going in
      record {
        took = took;
        own = own;
        message = message;
        going = going;
        side = sym same;
        out_is = cc (f.far_given, given);
        m_is = same-some m (heard_body took.side took.number took.raw) (taken near e) f.from.takes
            takes;
      }
  forwarded (MadeOff took own t gives refuse) =
      let same = near_is took t in
      no_given (ap (λ (s : Side). given (other s) e) same
      ∙ far_given names e sent took.side own gives)
  forwarded (MadeTold took own t gives told) =
      let same = near_is took t in
      let given : given (other near) e ≡ heard_out own ∷ [] =
      ap (λ (s : Side). given (other s) e) same
      ∙ own_given names e sent (other took.side) own gives in
      let out_is : out ≡ heard_out own = cc (f.far_given, given) in
      absurd (reject_sort near (heard_out own).sort told.refuses.reject
      (ap (λ (h : Heard). h.sort) (sym out_is) ∙ f.out_sort))
  forwarded (MadeRepeat took message t outs read side resend) =
      no_given (none_given names e sent (other near) outs)
  forwarded (MadeNone took message t outs read none) =
      no_given (none_given names e sent (other near) outs)
  forwarded (MadeRest session admins) =
      let among : In out (given (other near) e) =
      subst (In out) (sym f.far_given) (inl refl) in
      absurd (plain_sort near (sym (admin_given names e sent plain admins (other near) out among)
      ∙ f.out_sort))

-- ---- ids

cl_ord_id_by : (b : Bool) (text id : List ℕ) → (if b then Some text else None) ≡ Some id
    → (b ≡ true) × (text ≡ id)
cl_ord_id_by false text id is = absurd (cc is)
cl_ord_id_by true text id is = (refl, cc is)

-- a request that went on has its id
went_id : (past : List Entry) (e : Entry) (took : Took) (own : Out) (m : Message) (id : List ℕ)
    → Going past e took own m → took.side ≡ Client → (heard_out own).cl_ord_id ≡ Some id
    → (is_one_of joining m.letter ≡ true) × (text_in m.cells 11 ≡ id)
went_id past e took own m id going client is =
    let on : HasItsId Client (heard_body took.side took.number took.raw) (heard_out own) =
    subst (λ (s : Side). HasItsId s (heard_body took.side took.number took.raw) (heard_out own))
    client going.on.id in
    let said : cl_ord_id_in m ≡ Some id =
    sym (ap (λ (r : Result Message Fault). result_ok r >>= cl_ord_id_in) going.read.reads)
    ∙ on ∙ is in
    cl_ord_id_by (is_one_of joining m.letter) (text_in m.cells 11) id said

abbrev source_by : ChainItem → ℕ × ℕ
source_by item = (item.number, item.letter)

has_none : (items : List ChainItem) (id : List ℕ) → number_of items id ≡ None
    → has_id items id ≡ true → ⊥
has_none items id none has = by (item_with items id) none has
  where
    by : (o : Option ChainItem) → option_map source_by o ≡ None → is_some o ≡ true → ⊥
    by None none has = absurd (cc has)
    by (Some item) none has = absurd (cc none)

-- ---- all

-- what is known of the entries before one
pub record AreBefore (names : Names) (before : List Entry) : Type 0 where
  pub known : AreKnown names before
  pub moves : AllMove first_numbers before
  pub bodies : (x : Entry) → In x before → (took : Took) → x.took ≡ Some took → IsBody took.raw

module _ (says : HeadersSayNothing) (ids : IdsAreCompared) (refusals : RefusalsAreHeard)
    (plain : SentSessionsAreHeardPlain) (names : Names) (before : List Entry)
    (b : AreBefore names before) where
  -- an earlier message that was forwarded
  earlier : (near : Side) (x : Entry) (i : In x before) (m out : Heard)
      → Forwards near (other near) x m out → IsForwarded (b.known x i).past near x m out
  earlier near x i m out f =
      let k = b.known x i in
      forwarded names says plain near k.past x k.sent m out f k.made

  -- its out has a number of its own
  one_number : (side : Side) (x : Entry) → In x before → (past : List Entry) (took : Took)
      → (out : Out) (m : Message) → Going past x took out m → out.side ≡ side
      → source_of side out.number before ≡ Some (took.number, m.letter)
  one_number side x i past took out m going to =
      found past x took out m going (b.bodies x i took going.taken.is) side to before i
      (λ y j o k same.
      let is : y ≡ x = only_entry side first_numbers before b.moves y x j i o out k
      (own_among x out going.gives.outs side to) same in (
        is,
        only_out x out o going.gives.outs
            (in_outs side x.outs o (subst (λ (z : Entry). In o (outs_to side z.outs)) is k)).0,
      ))

  -- what a refusal names, by its number and its id
  abbrev named_at : Side → Option (List ℕ) → Option ℕ → Option (ℕ × ℕ)
  named_at side id number = elim number [
    | Some k ↦ source_of side k before
    | None ↦ named_by_id (known_of before) side id
  ]

  module _ (e : Entry) (sent : AreSentBy names e) where
    for_side : (side : Side) → DoesFor before side (other side) e → Does before e
    for_side Client d = ForClient d
    for_side Venue d = ForVenue d

    -- ---- a refusal that is told

    module _ (took : Took) (t : IsTaken e took) (m : Message)
        (reads : message_of took.side took.raw ≡ Ok m) (is : is_refusal m ≡ true) where
      abbrev r : Heard
      r = heard_raw took.side took.number took.raw

      -- what an earlier out is named by
      pub record NamesEarlier (number : ℕ) : Type 0 where
        pub x : Entry
        pub among : In x before
        pub own : Heard
        pub out : Heard
        pub forwards : Forwards (other took.side) took.side x own out
        pub named : names_message r out ≡ true
        pub number_is : own.number ≡ number

      abbrev ByNames : Option ℕ → Option (List ℕ) → Heard → Type 0
      ByNames n id out = names_by n id out.number out.cl_ord_id ≡ true

      by_names : (n : Option ℕ) (id : Option (List ℕ)) (out : Heard) → r.number_named ≡ n
          → r.id_named ≡ id → ByNames n id out → names_message r out ≡ true
      by_names n id out number_is id_is named =
          (λ i. names_by (number_is i) (id_is i) out.number out.cl_ord_id) ∙ named

      turned : (at : Side) (x : Entry) (own out : Heard) → at ≡ other took.side
          → Forwards at (other at) x own out → Forwards (other took.side) took.side x own out
      turned at x own out same f =
          subst (λ (s : Side). Forwards (other took.side) s x own out) (twice took.side)
          (subst (λ (s : Side). Forwards s (other s) x own out) same f)

      flipped : (a c : Side) → a ≡ other c → c ≡ other a
      flipped Client Venue is = refl
      flipped Venue Client is = refl
      flipped a c is = absurd (cc is)

      heard : (refusal_in m).number ≡ r.number_named
      heard = sym (raw_refuses says took.side took.number took.raw m reads refusals is).number

      heard_id : (refusal_in m).id ≡ r.id_named
      heard_id = sym (raw_refuses says took.side took.number took.raw m reads refusals is).id

      same_number : (a c : ℕ) → a ≡ c → (c == a) ≡ true
      same_number a c is = ap (λ (x : ℕ). x == a) (sym is) ∙ itself a
        where
          itself : (a : ℕ) → (a == a) ≡ true
          itself a = grind arith

      under : (k number letter : ℕ) → (refusal_in m).number ≡ Some k
          → WentUnder names took.side k (number, letter) before → NamesEarlier number
      under k number letter is_k w =
          let g = w.went.going in
          let at : w.went.took.side ≡ other took.side =
          flipped took.side w.went.took.side (sym w.to ∙ g.gives.to) in
          let known = b.known w.e w.among in
          record {
            x = w.e;
            among = w.among;
            own = heard_body w.went.took.side w.went.took.number w.went.took.raw;
            out = heard_out w.out;
            forwards = turned w.went.took.side w.e _ _ at
                (forwards names w.e known.sent says w.went.past w.went.took w.out w.went.m g);
            named = by_names (Some k) _ (heard_out w.out) (sym heard ∙ is_k) refl
                (same_number w.out.number k w.out_number);
            number_is = w.went.number;
          }

      with_id : (id : List ℕ) (number letter : ℕ) → took.side ≡ Venue
          → (refusal_in m).number ≡ None → (refusal_in m).id ≡ Some id
          → WentById names id (number, letter) before → NamesEarlier number
      with_id id number letter side none said_id w =
          let g = w.going in
          let at : w.took.side ≡ other took.side = w.client ∙ ap other (sym side) in
          let known = b.known w.e w.among in
          let on : HasItsId Client (heard_body w.took.side w.took.number w.took.raw)
          (heard_out w.out) = subst (λ (s : Side). HasItsId s
          (heard_body w.took.side w.took.number w.took.raw) (heard_out w.out)) w.client g.on.id in
          let said : (heard_out w.out).cl_ord_id ≡ Some id =
          sym on
          ∙ ap (λ (x : Result Message Fault). result_ok x >>= cl_ord_id_in) g.read.reads
          ∙ ap (λ (c : Bool). if c then Some (text_in w.m.cells 11) else None) w.joins
          ∙ ap Some w.id_is in
          record {
            x = w.e;
            among = w.among;
            own = heard_body w.took.side w.took.number w.took.raw;
            out = heard_out w.out;
            forwards = turned w.took.side w.e _ _ at
                (forwards names w.e known.sent says w.past w.took w.out w.m g);
            named = by_names None (Some id) (heard_out w.out) (sym heard ∙ none)
                (sym heard_id ∙ said_id) (ap (is_id_of (Some id)) said ∙ ids.itself id);
            number_is = w.number;
          }
        where
          is_id_of : Option (List ℕ) → Option (List ℕ) → Bool
          is_id_of a c = is_id a c

      names_earlier : (number letter : ℕ)
          → named (known_of before) took.side (refusal_in m) ≡ Some (number, letter)
          → NamesEarlier number
      names_earlier number letter source = by (refusal_in m).number refl source
        where
          by_id : (s : Side) (id : Option (List ℕ)) → took.side ≡ s → (refusal_in m).id ≡ id
              → (refusal_in m).number ≡ None
              → named_by_id (known_of before) s id ≡ Some (number, letter) → NamesEarlier number
          by_id Client id side said none source = absurd (cc source)
          by_id Venue None side said none source = absurd (cc source)
          by_id Venue (Some id) side said none source = with_id id number letter side none said
              (id_went names before b.known id (number, letter) source)

          by : (n : Option ℕ) → (refusal_in m).number ≡ n
              → named_at took.side (refusal_in m).id n ≡ Some (number, letter) → NamesEarlier number
          by (Some k) is_k source = under k number letter is_k
              (source_went names took.side k before (number, letter) b.known source)
          by None none source = by_id took.side (refusal_in m).id refl refl none source

      told : (own : Out) → GivesOne e (other took.side) own → (number letter : ℕ)
          → named (known_of before) took.side (refusal_in m) ≡ Some (number, letter)
          → IsRefusalOf number (heard_out own) → Does before e
      told own gives number letter source refuse =
          let n = names_earlier number letter source in
          for_side took.side (ItPassesOn r
          (heard_out own) (record {
            from = taken_from e took t;
            near_given = near_given names e sent took.side own gives;
            far_given = own_given names e sent (other took.side) own gives;
            refusal =
                (raw_refuses says took.side took.number took.raw m reads refusals is).sort;
            reject = refuse.reject;
            earlier = n.x;
            is_earlier = n.among;
            m = n.own;
            out = n.out;
            forwarded = n.forwards;
            names_out = n.named;
            names_own = refuse.named ∙ ap Some (sym n.number_is);
          }))

      -- ---- a refusal that names nothing

      module _ (none : named (known_of before) took.side (refusal_in m) ≡ None) where
        names_nothing : (x : Entry) → In x before → (own_m out : Heard)
            → Forwards (other took.side) took.side x own_m out → names_message r out ≡ true → ⊥
        names_nothing x i own_m out f is_named =
            let at : Forwards (other took.side) (other (other took.side)) x own_m out =
            subst (λ (s : Side). Forwards (other took.side) s x own_m out) (sym (twice took.side))
            f in
            let g = earlier (other took.side) x i own_m out at in
            by (refusal_in m).number (refusal_in m).id refl refl none
            ((λ j. names_by (heard j) (heard_id j) out.number out.cl_ord_id) ∙ is_named) g
          where
            by_number : (k : ℕ) (g : IsForwarded (b.known x i).past (other took.side) x own_m out)
                → source_of took.side k before ≡ None → (k == out.number) ≡ true → ⊥
            by_number k g none test =
                let to : g.own.side ≡ took.side =
                g.going.gives.to ∙ ap other g.side ∙ twice took.side in
                let same : k ≡ g.own.number = eqb-true k out.number test
                ∙ ap (λ (h : Heard). h.number) g.out_is in
                absurd (cc (
                  none,
                  ap (λ (n : ℕ). source_of took.side n before) same,
                  one_number took.side x i (b.known x i).past g.took g.own g.message g.going to,
                ))

            venue_id : (id : List ℕ) (g : IsForwarded (b.known x i).past (other took.side) x own_m
                out)
                → took.side ≡ Venue → number_of (chains_of before) id ≡ None
                → (c : Option (List ℕ)) → out.cl_ord_id ≡ c → is_id (Some id) c ≡ true → ⊥
            venue_id id g side none None has test = absurd (cc test)
            venue_id id g side none (Some c) has test =
                let same : id ≡ c = ids.same id c test in
                let client : g.took.side ≡ Client = g.side ∙ ap other side in
                let w = went_id (b.known x i).past x g.took g.own g.message id g.going client
                (ap (λ (h : Heard). h.cl_ord_id) (sym g.out_is) ∙ has ∙ ap Some (sym same)) in
                has_none (chains_of before) id none
                (ap (has_id (chains_of before)) (sym w.1)
                ∙ id_kept (b.known x i).past x g.took g.own g.message g.going
                (b.bodies x i g.took g.going.taken.is) client w.0 before i)

            by_id : (s : Side) (id : Option (List ℕ)) → took.side ≡ s
                → (g : IsForwarded (b.known x i).past (other took.side) x own_m out)
                → named_by_id (known_of before) s id ≡ None → is_id id out.cl_ord_id ≡ true → ⊥
            by_id Client id side g none test =
                let venue : g.took.side ≡ Venue = g.side ∙ ap other side in
                let no_id : out.cl_ord_id ≡ None = ap (λ (h : Heard). h.cl_ord_id) g.out_is
                ∙ ids.none_out g.own (g.going.on.out_sort ∙ ap sort_from venue) in
                absurd (no_match id (sym (ap (is_id_with id) no_id) ∙ test))
              where
                is_id_with : Option (List ℕ) → Option (List ℕ) → Bool
                is_id_with a c = is_id a c

                no_match : (a : Option (List ℕ)) → is_id_with a None ≡ true → ⊥
                no_match None is = absurd (cc is)
                no_match (Some a) is = absurd (cc is)
            by_id Venue None side g none test = absurd (cc test)
            by_id Venue (Some id) side g none test =
                venue_id id g side none out.cl_ord_id refl test

            by : (n : Option ℕ) (id : Option (List ℕ)) → (refusal_in m).number ≡ n
                → (refusal_in m).id ≡ id → named_at took.side (refusal_in m).id n ≡ None
                → names_by n id out.number out.cl_ord_id ≡ true
                → IsForwarded (b.known x i).past (other took.side) x own_m out → ⊥
            by (Some k) id is_k said none test g = by_number k g none test
            by None id no_number said none test g = by_id took.side id refl g
                (ap (named_by_id (known_of before) took.side) (sym said) ∙ none) test

        says_none : e.outs ≡ [] → Does before e
        says_none outs =
            let refuses = (raw_refuses says took.side took.number took.raw m reads refusals is).sort
            in for_side took.side (ItSaysNothing r
            (record {
              from = taken_from e took t;
              near_given = none_given names e sent took.side outs;
              far_given = none_given names e sent (other took.side) outs;
              passed = counts-none took.side r (ap is_request refuses) (ap is_report refuses);
              names_none = λ sort x i own_m out f. is-false _ (names_nothing x i own_m out f);
            }))

    -- ---- a request that is repeated

    repeats : (took : Took) (m : Message) → IsTaken e took → e.outs ≡ []
        → IsRead took false m → took.side ≡ Client → m.resend ≡ true → Does before e
    repeats took m t outs read side resend =
        let raw_is = raw_is_body says took.side took.number took.raw m read.reads read.is in
        let own : m.resend ≡ resend_of (fields_of took.raw) =
        resend_is took.side took.raw m read.reads read.is in
        let again : (heard_raw took.side took.number took.raw).resend ≡ true =
        ap (λ (h : Heard). h.resend) raw_is ∙ sym own ∙ resend in
        let typed = said_type took.side took.raw m read.reads in
        for_side took.side (ItSaysNothing (heard_raw took.side took.number took.raw) (record {
          from = taken_from e took t;
          near_given = none_given names e sent took.side outs;
          far_given = none_given names e sent (other took.side) outs;
          passed = ap (λ (s : Side). counts s (heard_raw took.side took.number took.raw)) side
              ∙ ap (λ (c : Bool).
              is_request (heard_raw took.side took.number took.raw).sort && not c) again
              ∙ and-false (is_request (heard_raw took.side took.number took.raw).sort);
          names_none = λ sort x i own_m out f. absurd (no_refusal m.letter
              (is_some (heard_raw took.side took.number took.raw).said)
              (letter_sort m.letter read.is)
              (ap (λ (l : List ℕ). sort_of l
              (is_some (heard_raw took.side took.number took.raw).said)) (sym typed) ∙ sort));
        }))

    rests : IsOfSession e.took → AreAdmin e.outs → Rests e
    rests session admins = record {
      taken_plain = λ side m takes. by e.took refl session side m takes;
      given_plain = λ side m i. admin_given names e sent plain admins side m i;
    }
      where
        by : (o : Option Took) → e.took ≡ o → IsOfSession o → (side : Side) (m : Heard)
            → taken side e ≡ Some m → m.sort ≡ Plain
        by None is session side m takes = absurd (cc (took_none e side is, takes))
        by (Some took) is session side m takes = elim (own_or_far side took.side) [
          | inl same ↦ took_plain e took is session m
              (subst (λ (s : Side). taken s e ≡ Some m) same takes)
          | inr other_side ↦ absurd (cc (
            took_far e took is,
            subst (λ (s : Side). taken s e ≡ Some m) other_side takes,
          ))
        ]

    -- WHAT AN ENTRY DOES
    pub does : Made before e → Does before e
    does (MadeOn took own m going) = for_side took.side
        (ItForwards (heard_body took.side took.number took.raw) (heard_out own)
        (forwards names e sent says before took own m going))
    does (MadeOff took own t gives refuse) = for_side took.side
        (ItAnswers (heard_raw took.side took.number took.raw) (heard_out own) (record {
          from = taken_from e took t;
          more = [];
          near_given = own_given names e sent took.side own gives;
          plain = λ o i. absurd i;
          far_given = far_given names e sent took.side own gives;
          reject = refuse.reject;
          names_it = refuse.named;
        }))
    does (MadeTold took own t gives back) =
        told took t back.m back.read back.refusal own gives back.number back.letter back.source
        back.refuses
    does (MadeRepeat took m t outs read side resend) = repeats took m t outs read side resend
    does (MadeNone took m t outs read none) = says_none took t m read.reads read.is none outs
    does (MadeRest session admins) = ForSession (rests session admins)

    -- what goes to the venue has a new id
    pub new_ids : Made before e → HasNewId before e
    new_ids made m out f x i a c g id is also =
        let mine = forwarded names says plain Client before e sent m out f made in
        let his = earlier Client x i a c g in
        let w = went_id before e mine.took mine.own mine.message id mine.going mine.side
        (ap (λ (h : Heard). h.cl_ord_id) (sym mine.out_is) ∙ is) in
        let v = went_id (b.known x i).past x his.took his.own his.message id his.going his.side
        (ap (λ (h : Heard). h.cl_ord_id) (sym his.out_is) ∙ also) in
        let kept : has_id (chains_of before) (text_in mine.message.cells 11) ≡ true =
        ap (has_id (chains_of before)) (w.1 ∙ sym v.1)
        ∙ id_kept (b.known x i).past x his.took his.own his.message his.going
        (b.bodies x i his.took his.going.taken.is) his.side v.0 before i in
        let used : is_used (known_of before) mine.message ≡ true =
        (λ j. w.0 j && kept j) in
        absurd (cc (used, mine.going.unused mine.side))

    -- what goes to the client has none
    pub no_ids : Made before e → HasNoId e
    no_ids made m out f =
        let mine = forwarded names says plain Venue before e sent m out f made in
        ap (λ (h : Heard). h.cl_ord_id) mine.out_is
        ∙ ids.none_out mine.own (mine.going.on.out_sort ∙ ap sort_from mine.side)
