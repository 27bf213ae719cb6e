-- Both books of a journal: each entry gives both lists a message, or none.
use Rattle.std.proofs.Common.{◌≡◌, ℕ, Bool, true, false, List, [], ◌∷◌, refl, sym, ◌∙◌, ap}
use Rattle.std.proofs.Common.{subst, Some, None, inl, inr}
use Rattle.std.specs.Prelude.{◌==◌, ◌&&◌, ◌||◌, not, cond, filter, Option}
use Rattle.std.specs.List.{list_any, flat_map}
use Rattle.std.specs.Option.{option_to_list}
use Rattle.std.proofs.lemmas.Bool.{cases_eq}
use Rattle.std.proofs.lemmas.Slice.Eq.{bytes_eq-Decides}
use Rattle.std.specs.Str.{bytes_eq}
use Rattle.order_meaning.specs.declared.Side.{Side}
use Rattle.order_meaning.specs.declared.Side.TheVariants.{Client, Venue}
use Rattle.pair_entries.specs.declared.entry.Entry.{Entry}
use Rattle.book_laws.specs.Heard.{Refusal, Plain, Heard, Carries, is_reject}
use Rattle.book_laws.specs.SetAside.{Conversation, is_request, is_report, is_refusal, names_by}
use Rattle.book_laws.specs.SetAside.{names, answers, is_answered_off, refuses, is_refused, counts}
use Rattle.book_laws.specs.SetAside.{sent_by, took_of}
use Rattle.book_laws.specs.Books.{asked42, asked50, told42, told50, book42, book50}
use Rattle.book_laws.specs.Pairs.{given, pair, taken}
use Rattle.book_laws.specs.Keeps.{In, Each, KeepsRefusals}
use Rattle.book_laws.proofs.Lists.{option_any, any-flat, any-chosen, any-same, any-none, any-here}
use Rattle.book_laws.proofs.Lists.{filter-none, in-chosen, in-flat, Twins, twins-each, twins-one}
use Rattle.book_laws.proofs.Lists.{twins-map, twins-fold}
use Rattle.book_laws.proofs.Places.{Earlier, Itself, Behind, Place, place}
use Rattle.book_laws.proofs.Shapes.{Forwards, AnswersOff, PassesOn, SaysNothing, DoesFor}
use Rattle.book_laws.proofs.Shapes.{ItForwards, ItAnswers, ItPassesOn, ItSaysNothing, Rests}
use Rattle.book_laws.proofs.Shapes.{ForClient, ForVenue, ForSession, Goes}
use Rattle.book_laws.proofs.Tests.{letter-is-no-reject, letter-is-no-refusal, not-equal}
use Rattle.book_laws.proofs.Tests.{equal, is-equal, not-below, is-false, not-both, no-element}
use Rattle.book_laws.proofs.Tests.{in-head, same-head, same-some, sort-answers, other-answers}
use Rattle.book_laws.proofs.Tests.{named-answers, sort-refuses, off-refuses, heard-refuses}
use Rattle.book_laws.proofs.Tests.{none-refuses, counts-none, counts-reject, counts-plain}
use Rattle.book_laws.proofs.Tests.{counts-same, off-counts, no-counts}

same-bytes : (a b : List ℕ) → bytes_eq a b ≡ true → a ≡ b
same-bytes a b is = (bytes_eq-Decides a b).0 is

-- ---- numbers and ids that stand once

module _ (J : List Entry) (goes : Each Goes [] J) where
  abbrev Here : Entry → Type 0
  Here e = Place Goes [] J e

  here : (e : Entry) → In e J → Here e
  here e i = place Goes [] J goes e i

  within : (e : Entry) (h : Here e) (z : Entry) → In z h.past → In z J
  within e h z i = elim (h.within z i) [ inl none ↦ absurd none | inr some ↦ some ]

  same-taken : (side : Side) (x y : Entry) → In x J → In y J → (a b : Heard)
      → taken side x ≡ Some a → taken side y ≡ Some b → a.number ≡ b.number → x ≡ y
  same-taken side x y i j a b ta tb same =
      let h = here x i in
      elim (h.beside y j) [
        | Earlier k ↦ absurd (not-below b.number a.number (h.has.is_new.taken side a ta y k b tb)
            (sym same))
        | Itself is ↦ sym is
        | Behind past k g ↦ absurd (not-below a.number b.number (g.is_new.taken side b tb x k a
            ta) same)
      ]

  same-given : (side : Side) (x y : Entry) → In x J → In y J → (a b : Heard)
      → In a (given side x) → In b (given side y) → a.number ≡ b.number → x ≡ y
  same-given side x y i j a b ta tb same =
      let h = here x i in
      elim (h.beside y j) [
        | Earlier k ↦ absurd (not-below b.number a.number (h.has.is_new.given side a ta y k b tb)
            (sym same))
        | Itself is ↦ sym is
        | Behind past k g ↦ absurd (not-below a.number b.number (g.is_new.given side b tb x k a
            ta) same)
      ]

  same-id : (x y : Entry) → In x J → In y J → (m out m2 out2 : Heard)
      → Forwards Client Venue x m out → Forwards Client Venue y m2 out2
      → (id : List ℕ) → out.cl_ord_id ≡ Some id → out2.cl_ord_id ≡ Some id → x ≡ y
  same-id x y i j m out m2 out2 f g id a b =
      let h = here x i in
      elim (h.beside y j) [
        | Earlier k ↦ absurd (h.has.new_ids m out f y k m2 out2 g id a b)
        | Itself is ↦ sym is
        | Behind past k n ↦ absurd (n.new_ids m2 out2 g x k m out f id b a)
      ]

  -- what an entry does, seen from one side
  data Shown (near far : Side) (e : Entry) : Type 0 where
    Own : (h : Here e) → DoesFor h.past near far e → KeepsRefusals far h.past e → Shown near far e
    Far : (h : Here e) → DoesFor h.past far near e → KeepsRefusals far h.past e → Shown near far e
    Idle : Rests e → Shown near far e

  from-client : (e : Entry) → In e J → Shown Client Venue e
  from-client e i =
      let h = here e i in
      elim (h.has.does) [
        | ForClient d ↦ Own h d (h.has.keeps Venue)
        | ForVenue d ↦ Far h d (h.has.keeps Venue)
        | ForSession r ↦ Idle r
      ]

  from-venue : (e : Entry) → In e J → Shown Venue Client e
  from-venue e i =
      let h = here e i in
      elim (h.has.does) [
        | ForClient d ↦ Far h d (h.has.keeps Client)
        | ForVenue d ↦ Own h d (h.has.keeps Client)
        | ForSession r ↦ Idle r
      ]

  -- ---- one direction: what near sent, and what far took

  module _ (near far : Side)
      (shown : (e : Entry) → In e J → Shown near far e)
      (once-id : (x y : Entry) → In x J → In y J → (m out m2 out2 : Heard)
      → Forwards near far x m out → Forwards near far y m2 out2
      → (id : List ℕ) → out.cl_ord_id ≡ Some id → out2.cl_ord_id ≡ Some id → x ≡ y)
    where
      abbrev Given : List Heard
      Given = flat_map (given far) J

      -- an entry answers off the near side's number
      abbrev off_in : ℕ → Entry → Bool
      off_in n e = list_any (answers n) (given near e)

      -- an entry takes a refusal of an out to the far side
      abbrev refused_in : Heard → Entry → Bool
      refused_in out e = option_any (refuses Given out) (taken far e)

      off-nothing : (n : ℕ) (side : Side) (e : Entry) → given side e ≡ []
          → list_any (answers n) (given side e) ≡ false
      off-nothing n side e none = ap (list_any (answers n)) none

      off-one : (n : ℕ) (side : Side) (e : Entry) (o : Heard) → given side e ≡ o ∷ []
          → answers n o ≡ false → list_any (answers n) (given side e) ≡ false
      off-one n side e o one is = ap (list_any (answers n)) one ∙ ap (λ b. b || false) is

      off-plain : (n : ℕ) (side : Side) (e : Entry) → ((o : Heard) → In o (given side e)
          → o.sort ≡ Plain) → list_any (answers n) (given side e) ≡ false
      off-plain n side e plain = any-none (answers n) (given side e) (λ o i. sort-answers n o (ap
          is_reject (plain o i)))

      -- a Reject or j about another number, and what is plain behind it
      off-other : (n k : ℕ) (side : Side) (e : Entry) (o : Heard) (more : List Heard)
          → given side e ≡ o ∷ more → o.number_named ≡ Some k → (k ≡ n → ⊥)
          → ((x : Heard) → In x more → x.sort ≡ Plain) → list_any (answers n) (given side e) ≡ false
      off-other n k side e o more is named differ plain =
          ap (list_any (answers n)) is ∙ ap (λ b. b || list_any (answers n) more) (other-answers n
          k o named differ)
          ∙ any-none (answers n) more (λ x i. sort-answers n x (ap is_reject (plain x i)))

      refused-nothing : (out : Heard) (e : Entry) → taken far e ≡ None → refused_in out e ≡ false
      refused-nothing out e none = ap (option_any (refuses Given out)) none

      refused-one : (out r : Heard) (e : Entry) → taken far e ≡ Some r
          → refused_in out e ≡ refuses Given out r
      refused-one out r e some = ap (option_any (refuses Given out)) some

      -- a message of the far side that its own entry answered off
      is-off : (e : Entry) → In e J → (m off : Heard) → AnswersOff far near e m off
          → is_answered_off Given m ≡ true
      is-off e i m off a =
          any-flat (answers m.number) (given far) J
          ∙ any-here (λ x. list_any (answers m.number) (given far x)) J e i
          (any-here (answers m.number) (given far e) off (in-head off a.more (given far e)
          a.near_given)
          (named-answers m.number m.number off a.reject a.names_it ∙ equal m.number m.number refl))

      -- a refusal that was passed on is not answered off
      is-heard : (e : Entry) → In e J → (past : List Entry) (r j : Heard)
          → PassesOn past far near e r j → is_answered_off Given r ≡ false
      is-heard e i past r j p = any-flat (answers r.number) (given far) J
          ∙ any-none (λ x. list_any (answers r.number) (given far x)) J at
        where
          own : (x : Entry) → In x J → (h : Here x) → DoesFor h.past near far x
              → list_any (answers r.number) (given far x) ≡ false
          own x k h (ItForwards m out f) = off-one r.number far x out f.far_given (sort-answers
              r.number out (ap is_reject f.out_sort ∙ letter-is-no-reject near))
          own x k h (ItAnswers m off a) = off-nothing r.number far x a.far_given
          own x k h (ItPassesOn r2 j2 q) =
              off-one r.number far x j2 q.far_given
              (other-answers r.number q.m.number j2 q.names_own
              (λ same.
              let is = same-taken far q.earlier e (within x h q.earlier q.is_earlier) i q.m r
              q.forwarded.from.takes p.from.takes same in
              let head = same-head q.out j (given near e) (subst (λ y. given near y
              ≡ q.out ∷ []) is q.forwarded.far_given) p.far_given in
              not-both (is_reject j.sort) p.reject (ap (λ o. is_reject o.sort) (sym head)
              ∙ ap is_reject q.forwarded.out_sort ∙ letter-is-no-reject far)))
          own x k h (ItSaysNothing m n) = off-nothing r.number far x n.far_given

          other : (x : Entry) → In x J → (h : Here x) → DoesFor h.past far near x
              → list_any (answers r.number) (given far x) ≡ false
          other x k h (ItForwards m out f) = off-nothing r.number far x f.near_given
          other x k h (ItAnswers m off a) =
              off-other r.number m.number far x off a.more a.near_given a.names_it
              (λ same.
              let is = same-taken far x e k i m r a.from.takes p.from.takes same in
              no-element off a.more (given far e) p.near_given (subst (λ y. given far y
              ≡ off ∷ a.more) is a.near_given)) a.plain
          other x k h (ItPassesOn r2 j2 q) = off-nothing r.number far x q.near_given
          other x k h (ItSaysNothing m n) = off-nothing r.number far x n.near_given

          at : (x : Entry) → In x J → list_any (answers r.number) (given far x) ≡ false
          at x k = elim (shown x k) [
            | Own h d g ↦ own x k h d
            | Far h d g ↦ other x k h d
            | Idle rests ↦ off-plain r.number far x (rests.given_plain far)
          ]

      -- a refusal names one out
      names-once : (r : Heard) (x y : Entry) → In x J → In y J → (m out m2 out2 : Heard)
          → Forwards near far x m out → Forwards near far y m2 out2
          → names r out ≡ true → names r out2 ≡ true → x ≡ y
      names-once r x y i j m out m2 out2 f g a b = go r.number_named r.id_named out.cl_ord_id
          out2.cl_ord_id refl refl a b
        where
          go : (n : Option ℕ) (id c d : Option (List ℕ)) → out.cl_ord_id ≡ c → out2.cl_ord_id ≡ d
              → names_by n id out.number c ≡ true → names_by n id out2.number d ≡ true → x ≡ y
          go (Some k) id c d ec ed na nb =
              same-given far x y i j out out2 (in-head out [] (given far x) f.far_given) (in-head
              out2 [] (given far y) g.far_given)
              (sym (is-equal k out.number na) ∙ is-equal k out2.number nb)
          go None (Some k) (Some c) (Some d) ec ed na nb =
              once-id x y i j m out m2 out2 f g k (ec ∙ ap Some (sym (same-bytes k c na))) (ed
              ∙ ap Some (sym (same-bytes k d nb)))
          go None id c d ec ed na nb = absurd cc

      -- a refusal that nothing was said about names no out, earlier or later
      names-nothing : (y : Entry) → In y J → (h : Here y) → KeepsRefusals far h.past y
          → (r : Heard) → SaysNothing h.past far near y r → r.sort ≡ Refusal
          → (e : Entry) → In e J → (m out : Heard) → Forwards near far e m out → names r out ≡ false
      names-nothing y j h keeps r n refusal e i m out f = is-false (names r out) (λ is. go
          r.number_named r.id_named out.cl_ord_id refl refl refl is is)
        where
          named-earlier : In e h.past → names r out ≡ true → ⊥
          named-earlier k is = not-both (names r out) is (n.names_none refusal e k m out f)

          go : (a : Option ℕ) (id c : Option (List ℕ)) → r.number_named ≡ a → r.id_named ≡ id
              → out.cl_ord_id ≡ c → names_by a id out.number c ≡ true → names r out ≡ true → ⊥
          go (Some k) id c ea eid ec na is =
              let o = keeps.number r n.from.takes refusal k ea in
              let before = in-flat (given far) h.past o.0 o.1 in
              let same = same-given far before.0 e (within y h before.0 before.1) i o.0 out
              before.2 (in-head out [] (given far e) f.far_given) (o.2
              ∙ is-equal k out.number na) in
              named-earlier (subst (λ z. In z h.past) same before.1) is
          go None (Some k) (Some c) ea eid ec na is =
              elim (h.beside e i) [
                | Earlier q ↦ named-earlier q is
                | Itself same ↦ absurd (cc (f.from.only, ap (taken far) same, n.from.takes))
                | Behind past q g ↦ (g.keeps far).id r (in-chosen (taken far) past y q r
                    n.from.takes) refusal ea k eid out (in-head out [] (given far e) f.far_given)
                    (ec ∙ ap Some (sym (same-bytes k c na)))
              ]
          go None id c ea eid ec na is = absurd (cc na)

      -- each other entry answers the message off exactly where it takes a refusal of its out
      flags : (e : Entry) → In e J → (m out : Heard) → Forwards near far e m out → (x : Entry)
          → In x J → off_in m.number x ≡ refused_in out x
      flags e i m out f x k =
          elim (shown x k) [
            | Own h d keeps ↦ own h d
            | Far h d keeps ↦ other h keeps d
            | Idle rests ↦ off-plain m.number near x (rests.given_plain near)
                ∙ sym (idle rests (taken far x) refl)
          ]
        where
          quiet : given near x ≡ [] → taken far x ≡ None → off_in m.number x ≡ refused_in out x
          quiet none nothing = off-nothing m.number near x none
              ∙ sym (refused-nothing out x nothing)

          own : (h : Here x) → DoesFor h.past near far x → off_in m.number x ≡ refused_in out x
          own h (ItForwards m2 out2 g) = quiet g.near_given g.from.only
          own h (ItAnswers m2 off a) =
              off-other m.number m2.number near x off a.more a.near_given a.names_it
              (λ same.
              let is = same-taken near x e k i m2 m a.from.takes f.from.takes same in
              no-element off a.more (given near e) f.near_given (subst (λ y. given near y
              ≡ off ∷ a.more) is a.near_given)) a.plain
              ∙ sym (refused-nothing out x a.from.only)
          own h (ItPassesOn r j p) = quiet p.near_given p.from.only
          own h (ItSaysNothing m2 n) = quiet n.near_given n.from.only

          other : (h : Here x) → KeepsRefusals far h.past x → DoesFor h.past far near x
              → off_in m.number x ≡ refused_in out x
          other h keeps (ItForwards m2 out2 g) =
              off-one m.number near x out2 g.far_given (sort-answers m.number out2 (ap is_reject
              g.out_sort ∙ letter-is-no-reject far))
              ∙ sym (refused-one out m2 x g.from.takes
              ∙ sort-refuses Given out m2 (ap is_refusal g.sort ∙ letter-is-no-refusal far))
          other h keeps (ItAnswers m2 off a) =
              off-nothing m.number near x a.far_given ∙ sym (refused-one out m2 x a.from.takes
              ∙ off-refuses Given out m2 (is-off x k m2 off a))
          other h keeps (ItPassesOn r j p) =
              ap (list_any (answers m.number)) p.far_given
              ∙ ap (λ b. b || false) (named-answers m.number p.m.number j p.reject p.names_own)
              ∙ or-false (p.m.number == m.number) ∙ named
              ∙ sym (refused-one out r x p.from.takes
              ∙ heard-refuses Given out r p.refusal (is-heard x k h.past r j p))
            where
              or-false : (b : Bool) → (b || false) ≡ b
              or-false true = refl
              or-false false = refl

              earlier-in : In p.earlier J
              earlier-in = within x h p.earlier p.is_earlier

              named : (p.m.number == m.number) ≡ names r out
              named = elim (cases_eq p.m.number m.number) [
                | inl same ↦
                    let is = same-taken near p.earlier e earlier-in i p.m m p.forwarded.from.takes
                    f.from.takes same in
                    let head = same-head p.out out (given far e) (subst (λ y. given far y
                    ≡ p.out ∷ []) is p.forwarded.far_given) f.far_given in
                    equal p.m.number m.number same ∙ sym (ap (names r) (sym head) ∙ p.names_out)
                | inr differ ↦
                    not-equal p.m.number m.number differ
                    ∙ sym (is-false (names r out)
                    (λ is.
                    let same = names-once r p.earlier e earlier-in i p.m p.out m out p.forwarded f
                    p.names_out is in
                    let one = same-some p.m m (taken near e) (subst (λ y. taken near y
                    ≡ Some p.m) same p.forwarded.from.takes) f.from.takes in
                    differ (ap (λ (h : Heard). h.number) one)))
              ]
          other h keeps (ItSaysNothing m2 n) =
              off-nothing m.number near x n.far_given
              ∙ sym (refused-one out m2 x n.from.takes
              ∙ none-refuses Given out m2 (λ refusal. names-nothing x k h keeps m2 n refusal e
              i m out f))

          idle : Rests x → (o : Option Heard) → taken far x ≡ o → refused_in out x ≡ false
          idle rests None is = refused-nothing out x is
          idle rests (Some r) is = refused-one out r x is
              ∙ sort-refuses Given out r (ap is_refusal (rests.taken_plain far r is))

      abbrev Near : Conversation
      Near = pair near J

      abbrev Other : Conversation
      Other = pair far J

      -- a forwarded message is answered off exactly where its out is refused
      both-or-none : (e : Entry) → In e J → (m out : Heard) → Forwards near far e m out
          → is_answered_off Near.took m ≡ is_refused Other out
      both-or-none e i m out f =
          any-flat (answers m.number) (given near) J
          ∙ any-same (off_in m.number) (refused_in out) J (flags e i m out f)
          ∙ sym (any-chosen (refuses Given out) (taken far) J)

      abbrev stays : Heard → Bool
      stays m = counts near m && not (is_answered_off Near.took m)

      abbrev stays_there : Heard → Bool
      stays_there out = counts near out && not (is_refused Other out)

      -- what stays of what an entry took is what stays of what it gave
      abbrev IsTwin : Entry → Type 0
      IsTwin e = Twins (Carries near) (filter stays (option_to_list (taken near e)))
          (filter stays_there (given far e))

      nothing : (e : Entry) → ((m : Heard) → taken near e ≡ Some m → stays m ≡ false)
          → ((o : Heard) → In o (given far e) → stays_there o ≡ false) → IsTwin e
      nothing e none-took none-given =
          subst (λ l. Twins (Carries near) (filter stays (option_to_list (taken near e))) l) (sym
          (filter-none stays_there (given far e) none-given))
          (go (taken near e) refl)
        where
          go : (o : Option Heard) → taken near e ≡ o
              → Twins (Carries near) (filter stays (option_to_list o)) []
          go None is = tt
          go (Some m) is = subst (λ b. Twins (Carries near) (cond b (m ∷ []) []) []) (sym
              (none-took m is)) tt

      -- what one entry gives to both lists
      step : (e : Entry) → In e J → IsTwin e
      step e i = elim (shown e i) [
        | Own h d keeps ↦ own h d
        | Far h d keeps ↦ other h d
        | Idle rests ↦ nothing e (λ m is. plain m (rests.taken_plain near m is)) (λ o k.
            plain_there o (rests.given_plain far o k))
      ]
        where
          plain : (m : Heard) → m.sort ≡ Plain → stays m ≡ false
          plain m is = no-counts near m (is_answered_off Near.took m) (counts-plain near m is)

          plain_there : (m : Heard) → m.sort ≡ Plain → stays_there m ≡ false
          plain_there m is = no-counts near m (is_refused Other m) (counts-plain near m is)

          none-given : given far e ≡ [] → (o : Heard) → In o (given far e) → stays_there o ≡ false
          none-given is o k = absurd (subst (In o) is k)

          none-taken : taken near e ≡ None → (m : Heard) → taken near e ≡ Some m → stays m ≡ false
          none-taken is m k = absurd (cc (is, k))

          off-taken : (m off : Heard) → AnswersOff near far e m off → (x : Heard)
              → taken near e ≡ Some x → stays x ≡ false
          off-taken m off a x is =
              let same = same-some m x (taken near e) a.from.takes is in
              off-counts near x (is_answered_off Near.took x)
              (any-flat (answers x.number) (given near) J
              ∙ any-here (λ y. list_any (answers x.number) (given near y)) J e i
              (any-here (answers x.number) (given near e) off (in-head off a.more (given near e)
              a.near_given)
              (named-answers x.number m.number off a.reject a.names_it
              ∙ equal m.number x.number (ap (λ (h : Heard). h.number) same))))

          reject-given : (off : Heard) (more : List Heard) → given far e ≡ off ∷ more
              → is_reject off.sort ≡ true → ((o : Heard) → In o more → o.sort ≡ Plain)
              → (o : Heard) → In o (given far e) → stays_there o ≡ false
          reject-given off more is reject rest o k = go (subst (In o) is k)
            where
              go : In o (off ∷ more) → stays_there o ≡ false
              go (inl same) = no-counts near o (is_refused Other o) (counts-reject near o (ap (λ
                  y. is_reject y.sort) same ∙ reject))
              go (inr q) = plain_there o (rest o q)

          counts-taken : (m : Heard) → taken near e ≡ Some m → counts near m ≡ false
              → (x : Heard) → taken near e ≡ Some x → stays x ≡ false
          counts-taken m takes none x is = no-counts near x (is_answered_off Near.took x) (ap
              (counts near) (sym (same-some m x (taken near e) takes is)) ∙ none)

          own : (h : Here e) → DoesFor h.past near far e → IsTwin e
          own h (ItForwards m out f) =
              subst (λ o. Twins (Carries near) (filter stays (option_to_list o)) (filter
              stays_there (given far e))) (sym f.from.takes)
              (subst (λ l. Twins (Carries near) (filter stays (m ∷ [])) (filter stays_there l))
              (sym f.far_given)
              (twins-one (Carries near) m out (stays m) (stays_there out)
              (ap (λ b. b && not (is_answered_off Near.took m)) (counts-same near m out f.sort
              f.out_sort f.resend)
              ∙ ap (λ b. counts near out && not b) (both-or-none e i m out f)) f.carries))
          own h (ItAnswers m off a) = nothing e (off-taken m off a) (none-given a.far_given)
          own h (ItPassesOn r j p) =
              nothing e (counts-taken r p.from.takes (counts-none near r (ap is_request p.refusal)
              (ap is_report p.refusal))) (reject-given j [] p.far_given p.reject (λ o k.
              absurd k))
          own h (ItSaysNothing m n) = nothing e (counts-taken m n.from.takes n.passed) (none-given
              n.far_given)

          other : (h : Here e) → DoesFor h.past far near e → IsTwin e
          other h (ItForwards m out f) = nothing e (none-taken f.from.only) (none-given
              f.near_given)
          other h (ItAnswers m off a) = nothing e (none-taken a.from.only) (reject-given off
              a.more a.near_given a.reject a.plain)
          other h (ItPassesOn r j p) = nothing e (none-taken p.from.only) (none-given p.near_given)
          other h (ItSaysNothing m n) = nothing e (none-taken n.from.only) (none-given n.near_given)

      -- the messages of near that stay are those of far, one to one and in order
      correspond : Twins (Carries near) (sent_by near Near) (took_of near Other)
      correspond = twins-each (Carries near) (taken near) (given far) stays stays_there J step

  requests : Twins (Carries Client) (sent_by Client (pair Client J)) (took_of Client (pair Venue J))
  requests = correspond Client Venue from-client same-id

  none-twice : (x y : Entry) → In x J → In y J → (m out m2 out2 : Heard)
      → Forwards Venue Client x m out → Forwards Venue Client y m2 out2 → (id : List ℕ)
      → out.cl_ord_id ≡ Some id → out2.cl_ord_id ≡ Some id → x ≡ y
  none-twice x y i j m out m2 out2 f g id a b =
      absurd (cc (a, (here x i).has.no_ids m out f))

  reports : Twins (Carries Venue) (sent_by Venue (pair Venue J)) (took_of Venue (pair Client J))
  reports = correspond Venue Client from-venue none-twice

  -- BOTH BOOKS OF THE ENTRIES ARE EQUAL.
  pub agree : book42 (pair Client J) ≡ book50 (pair Venue J)
  agree =
      let asked = twins-map (Carries Client) asked42 asked50 (λ m out c. c)
      (sent_by Client (pair Client J)) (took_of Client (pair Venue J)) requests in
      let told = twins-fold (Carries Venue) told50 told42 (λ m out c b. c b)
      (sent_by Venue (pair Venue J)) (took_of Venue (pair Client J)) reports [] in
      λ i. record { requests = asked i; book = sym told i }
