-- A peer's own conversation is whole beside a journal.
use Rattle.std.proofs.Common.{◌≡◌, ◌≤◌, ◌<◌, ◌⊎◌, ℕ, zero, suc, ◌+◌, ◌-◌, Bool, true, false, List}
use Rattle.std.proofs.Common.{[], ◌∷◌, ◌++◌, length, map, refl, sym, ◌∙◌, ap, subst, arith}
use Rattle.std.proofs.Common.{Option, Some, None, inl, inr, if◌then◌else◌}
use Rattle.std.specs.Prelude.{not, cond, filter, slice_get, IsTrue, is_some}
use Rattle.std.specs.List.{AllByRecursion, cons_option, flat_map}
use Rattle.std.specs.Option.{option_map}
use Rattle.std.proofs.lemmas.List.{length-append, length-map, map-append, take_all}
use Rattle.std.proofs.lemmas.Option.{slice_get-map}
use Rattle.std.proofs.lemmas.Simd.{map-map}
use Rattle.order_meaning.specs.declared.Side.{Side}
use Rattle.order_meaning.specs.declared.Side.TheVariants.{Client, Venue}
use Rattle.order_meaning.specs.declared.names.Names.{Names}
use Rattle.pair_entries.specs.declared.entry.Took.{Took}
use Rattle.pair_entries.specs.declared.entry.Entry.{Entry}
use Rattle.pair_entries.specs.Payload.{Next}
use Rattle.kept_entries.specs.Numbers.{GoesOn, InStays, Taking}
use Rattle.kept_entries.specs.Numbers.{Takes as TakesNumber, first_numbers, is_side, next_in}
use Rattle.kept_entries.specs.Numbers.{next_out, numbers_after, outs_to}
use Rattle.wires.specs.Wire.{Connection}
use Rattle.message_answers.specs.Answer.{other}
use Rattle.life_laws.specs.Bodies.{bodies_read}
use Rattle.life_laws.specs.Forms.{Placed, all_placed, placed_at}
use Rattle.life_laws.specs.Justified.{IsJustified, IsSublist, raw_of, tooks_of}
use Rattle.life_laws.specs.Receiver.{AreSent, is_administrative, message_of_out, read_body}
use Rattle.life_laws.specs.Taken.{Message, Read, GapFill, Reset, Other, TakesInOrder, taken_from}
use Rattle.life_laws.proofs.Grown.{some_and}
use Rattle.book_laws.specs.Heard.{Heard, Plain}
use Rattle.book_laws.specs.HeardLaws.{BodiesAreReadAlike, HasNumber}
use Rattle.book_laws.proofs.Session.{plain_type}
use Rattle.book_laws.specs.Pairs.{given, heard_at, heard_from, message_in, taken}
use Rattle.book_laws.specs.Keeps.{AreAlike, AreNumbered, Filled, In, Keeps, KeepsFrame}
use Rattle.book_laws.specs.Keeps.{conversation}
use Rattle.book_laws.proofs.New.{AllCounted, Counted, goes_by, numbered_by, out_goes, own_or_far}
use Rattle.book_laws.proofs.Outs.{placed_sent}
use Rattle.book_laws.proofs.Peers.{Fills, IsWhole, Passes, PassesAll, Stands, Takes, heard}
use Rattle.book_laws.proofs.Peers.{is_heard}
use Rattle.book_laws.proofs.Sides.{far_side, own_side}
use Rattle.book_laws.proofs.Tooks.{took_far, took_near, took_none}

-- ---- lists

numbered_get : (l : List Message) (n i : ℕ) (c : Message) → AreNumbered n l
    → slice_get l i ≡ Some c → c.number ≡ n + i
numbered_get [] n i c are is = absurd (cc is)
numbered_get (m ∷ l) n zero c are is =
    let same : m ≡ c = cc is in sym (ap (λ (x : Message). x.number) same) ∙ are.0 ∙ omega arith
numbered_get (m ∷ l) n (suc i) c are is = numbered_get l (n + 1) i c are.1 is ∙ omega arith

same_message : (a b : Message) → a.number ≡ b.number → AreAlike a b → a ≡ b
same_message a b n alike = λ i. record {
  number = n i;
  msg_type = alike.0 i;
  resend = alike.1 i;
  fields = alike.2 i;
}

first_out : (side : Side) → next_out side first_numbers ≡ 1
first_out Client = refl
first_out Venue = refl

first_in : (side : Side) → next_in side first_numbers ≡ 1
first_in Client = refl
first_in Venue = refl

module _ (side : Side) where
  -- messages of a session are plain
  plain_from : (m : Message) → is_administrative m.msg_type ≡ true
      → (heard_from side m).sort ≡ Plain
  plain_from m admin = plain_type m.msg_type (is_some (heard_from side m).said) admin

  plain_at : (m : Message) → is_administrative m.msg_type ≡ true → (heard_at side m).sort ≡ Plain
  plain_at m admin = plain_type m.msg_type (is_some (heard_at side m).said) admin

  -- ---- what was taken

  abbrev said : Placed → Heard
  said p = heard_at side (message_of_out p.out)

  given_all : (entries : List Entry)
      → flat_map (given side) entries ≡ map said (all_placed side entries)
  given_all [] = refl
  given_all (e ∷ entries) =
      let here = map (placed_at e.at) (outs_to side e.outs) in
      ap (λ (l : List Heard). given side e ++ l) (given_all entries)
      ∙ ap (λ (l : List Heard). l ++ map said (all_placed side entries))
      (sym (map-map said (placed_at e.at) (outs_to side e.outs)))
      ∙ sym (map-append said here (all_placed side entries))

  heard_placed : (ps : List Placed)
      → ((p : Placed) → In p ps → p.out.admin ≡ true → (said p).sort ≡ Plain)
      → heard (map said (filter (λ p. not p.out.admin) ps)) ≡ heard (map said ps)
  heard_placed [] plain = refl
  heard_placed (p ∷ ps) plain =
      by p.out.admin refl (heard_placed ps (λ q i. plain q (inr i))) (plain p (inl refl))
    where
      by : (b : Bool) → p.out.admin ≡ b
          → heard (map said (filter (λ (x : Placed). not x.out.admin) ps)) ≡ heard (map said ps)
          → (p.out.admin ≡ true → (said p).sort ≡ Plain)
          → heard (map said (cond (not b) (p ∷ filter (λ (x : Placed). not x.out.admin) ps)
          (filter (λ (x : Placed). not x.out.admin) ps))) ≡ heard (map said (p ∷ ps))
      by true is more plain = more ∙ sym (ap (λ k. cond (is_heard k)
          (said p ∷ heard (map said ps)) (heard (map said ps))) (plain is))
      by false is more plain = ap (λ (l : List Heard). cond (is_heard (said p).sort)
          (said p ∷ l) l) more

  counted_outs : (next : Next) (entries : List Entry) → AllCounted next entries
      → next_out side (numbers_after next entries)
      ≡ next_out side next + length (all_placed side entries)
  counted_outs next [] all = omega arith
  counted_outs next (e ∷ entries) all =
      let here = map (placed_at e.at) (outs_to side e.outs) in
      let out = out_goes side next e all.0.goes in
      let rest = counted_outs e.next entries all.1 in
      let joined : length (here ++ all_placed side entries)
      ≡ length here + length (all_placed side entries) =
      length-append here (all_placed side entries) in
      let mapped : length here ≡ length (outs_to side e.outs) =
      length-map (outs_to side e.outs) (placed_at e.at) in
      omega (arith, rest, out.next, joined, mapped)

  -- ---- what was sent

  in_stays : (next : Next) (e : Entry) → GoesOn next e → InStays side next e
  in_stays next e goes = by side
    where
      by : (s : Side) → InStays s next e
      by Client = goes.client_in
      by Venue = goes.venue_in

  -- InStays, by what was taken
  abbrev stays_at : Next → Entry → Bool → Type 0
  stays_at next e own = elim own [
    | true ↦ Unit {0}
    | false ↦ next_in side e.next ≡ next_in side next
  ]

  abbrev stays_by : Next → Entry → Option Took → Type 0
  stays_by next e took = elim took [
    | None ↦ next_in side e.next ≡ next_in side next
    | Some x ↦ stays_at next e (is_side side x.side)
  ]

  stays_none : (next : Next) (e : Entry) → e.took ≡ None → InStays side next e
      → next_in side e.next ≡ next_in side next
  stays_none next e is stays = subst (stays_by next e) is stays

  stays_far : (next : Next) (e : Entry) (took : Took) → e.took ≡ Some took
      → is_side side took.side ≡ false → InStays side next e
      → next_in side e.next ≡ next_in side next
  stays_far next e took is apart stays =
      subst (stays_at next e) apart (subst (stays_by next e) is stays)

  module _ (alike : BodiesAreReadAlike) (messages : List Message)
      (numbered : AreNumbered 1 messages) where
    abbrev sent : List Heard
    sent = map (heard_from side) messages

    -- a frame that was taken deals with the peer's messages up to a number
    read_passes : (r : Read) (number before after : ℕ) → HasNumber number r
        → KeepsFrame messages r → 1 ≤ before
        → ((m : Message) (admin : Bool) → r ≡ Other m admin
        → (number ≡ before) × (after ≡ number + 1))
        → ((n to : ℕ) → r ≡ GapFill n to
        → (number ≡ before) × ((after ≡ to) ⊎ (after ≡ number + 1)))
        → Passes sent (before - 1) (after - 1) (option_map (heard_from side) (message_in r))
        × (1 ≤ after)
    read_passes (Other m admin) number before after has keeps low counts fills =
        let moved = counts m admin refl in
        let c = some_and (slice_get messages (m.number - 1)) (AreAlike m) keeps.1 in
        let own : c.0.number ≡ 1 + (m.number - 1) =
        numbered_get messages 1 (m.number - 1) c.0 numbered c.1 in
        let same : m.number ≡ c.0.number = omega (arith, keeps.0, own) in
        let one : m ≡ c.0 = same_message m c.0 same c.2 in
        let at : m.number - 1 ≡ before - 1 = ap (λ n. n - 1) (has ∙ moved.0) in (
          Takes (heard_from side c.0)
              (sym (ap (slice_get sent) at)
              ∙ slice_get-map (heard_from side) messages (m.number - 1)
              ∙ ap (option_map (heard_from side)) c.1)
              (omega (arith, moved.0, moved.1, low))
              (ap (λ (x : Message). Some (heard_from side x)) one),
          omega (arith, moved.1),
        )
    read_passes (GapFill n to) number before after has keeps low counts fills =
        let moved = fills n to refl in
        let up : (after ≤ to) × (before < after) = elim moved.1 [
          | inl all ↦ (omega (arith, all), omega (arith, all, moved.0, has, keeps.0))
          | inr one ↦ (omega (arith, one, has, keeps.0), omega (arith, one, moved.0))
        ] in (
          Fills (omega (arith, up.1)) (λ k from below.
              let c = some_and (slice_get messages (k + 1 - 1))
              (λ m. IsTrue (is_administrative m.msg_type))
              (keeps.2 (k + 1) (omega (arith, from, has, moved.0, low))
              (omega (arith, below, up.0, low))) in
              let at : k + 1 - 1 ≡ k = omega arith in (
                heard_from side c.0,
                slice_get-map (heard_from side) messages k ∙ ap (option_map (heard_from side))
                    (sym (ap (slice_get messages) at) ∙ c.1),
                plain_from c.0 c.2,
              )) refl,
          omega (arith, low, up.1),
        )
    read_passes Reset number before after has keeps low counts fills = absurd keeps

    abbrev Done : Next → Entry → Type 0
    Done next e = Passes sent (next_in side next - 1) (next_in side e.next - 1) (taken side e)
        × (1 ≤ next_in side e.next)

    one_passes : (next : Next) (e : Entry) → Counted next e
        → ((raw : List ℕ) → raw_of side e.took ≡ Some raw → KeepsFrame messages (read_body raw))
        → 1 ≤ next_in side next
        → Passes sent (next_in side next - 1) (next_in side e.next - 1) (taken side e)
        × (1 ≤ next_in side e.next)
    one_passes next e c keeps low = by e.took refl
      where
        stands : next_in side e.next ≡ next_in side next → taken side e ≡ None → Done next e
        stands same none = (
          Stands (ap (λ n. n - 1) same) none,
          subst (λ n. 1 ≤ n) (sym same) low,
        )

        own_took : (took : Took) → e.took ≡ Some took → side ≡ took.side → Done next e
        own_took took is same =
            let at : Passes sent (next_in took.side next - 1) (next_in took.side e.next - 1)
            (option_map (heard_from side) (message_in (read_body took.raw)))
            × (1 ≤ next_in took.side e.next) =
            read_passes (read_body took.raw) took.number (next_in took.side next)
            (next_in took.side e.next) (numbered_by alike next e took is c.numbered)
            (keeps took.raw (ap (raw_of side) is
            ∙ ap (λ (b : Bool). if b then Some took.raw else None)
            (ap (λ (s : Side). is_side s took.side) same ∙ own_side took.side)))
            (subst (λ (s : Side). 1 ≤ next_in s next) same low)
            (λ m admin reads. subst (λ (t : Taking). TakesNumber t took.number
            (next_in took.side next) (next_in took.side e.next))
            ((alike took.side took.raw).message m admin reads) (goes_by alike next e took is
            c.taking))
            (λ n to reads. subst (λ (t : Taking). TakesNumber t took.number
            (next_in took.side next) (next_in took.side e.next))
            ((alike took.side took.raw).fill n to reads) (goes_by alike next e took is c.taking)) in
            let takes : taken side e
            ≡ option_map (heard_from side) (message_in (read_body took.raw)) =
            ap (λ (s : Side). taken s e) same ∙ took_near e took is
            ∙ ap (λ (s : Side). option_map (heard_from s) (message_in (read_body took.raw)))
            (sym same) in
            let turn = subst (λ (s : Side). Passes sent (next_in s next - 1) (next_in s e.next - 1)
            (option_map (heard_from side) (message_in (read_body took.raw)))
            × (1 ≤ next_in s e.next)) (sym same) at in (
              subst (λ (o : Option Heard). Passes sent (next_in side next - 1)
                  (next_in side e.next - 1) o) (sym takes) turn.0,
              turn.1,
            )

        far_took : (took : Took) → e.took ≡ Some took → side ≡ other took.side → Done next e
        far_took took is same =
            stands (stays_far next e took is
            (ap (λ (s : Side). is_side s took.side) same ∙ far_side took.side)
            (in_stays next e c.goes)) (ap (λ (s : Side). taken s e) same ∙ took_far e took is)

        by : (t : Option Took) → e.took ≡ t → Done next e
        by None is = stands (stays_none next e is (in_stays next e c.goes)) (took_none e side is)
        by (Some took) is = elim (own_or_far side took.side) [
          | inl same ↦ own_took took is same
          | inr same ↦ far_took took is same
        ]

    abbrev Keeping : List ℕ → Type 0
    Keeping raw = KeepsFrame messages (read_body raw)

    split_keeps : (o : Option (List ℕ)) (l : List (List ℕ))
        → AllByRecursion Keeping (cons_option o l)
        → ((raw : List ℕ) → o ≡ Some raw → Keeping raw) × AllByRecursion Keeping l
    split_keeps None l keeps = (λ raw is. absurd (cc is), keeps)
    split_keeps (Some body) l keeps =
        (λ raw is. let same : body ≡ raw = cc is in subst Keeping same keeps.0, keeps.1)

    sublist_keeps : (xs ys : List (List ℕ)) → IsSublist xs ys → AllByRecursion Keeping ys
        → AllByRecursion Keeping xs
    sublist_keeps [] ys sub keeps = tt
    sublist_keeps (x ∷ xs) [] sub keeps = absurd sub
    sublist_keeps (x ∷ xs) (y ∷ ys) (inl here) keeps =
        (subst Keeping (sym here.0) keeps.0, sublist_keeps xs ys here.1 keeps.1)
    sublist_keeps (x ∷ xs) (y ∷ ys) (inr later) keeps = sublist_keeps (x ∷ xs) ys later keeps.1

    all_pass : (next : Next) (entries : List Entry) → AllCounted next entries
        → AllByRecursion Keeping (tooks_of side entries) → 1 ≤ next_in side next
        → PassesAll side sent (next_in side next - 1) entries
        (next_in side (numbers_after next entries) - 1)
    all_pass next [] all keeps low = refl
    all_pass next (e ∷ entries) all keeps low =
        let here = split_keeps (raw_of side e.took) (tooks_of side entries) keeps in
        let step = one_passes next e all.0 here.0 low in
        (next_in side e.next - 1, step.0, all_pass e.next entries all.1 here.1 step.1)

  -- THE CONVERSATION OF A PEER IS WHOLE.
  pub whole : BodiesAreReadAlike → (names : Names) (entries : List Entry)
      (connections : List Connection) (messages : List Message) (fronts : List (List ℕ))
      → AllCounted first_numbers entries → AreSent names side entries
      → IsJustified names entries side connections
      → TakesInOrder read_body message_of_out side entries connections
      → Keeps side messages connections entries → Filled side messages connections fronts entries
      → IsWhole side (conversation side messages fronts) entries
  whole alike names entries connections messages fronts counted sends justified in_order keeps
      filled =
      let placed = all_placed side entries in
      let taking = taken_from read_body message_of_out side fronts in
      let next = counted_outs first_numbers entries counted in
      let all : taking.next - 1 ≡ length placed =
      omega (arith, filled.took, next, first_out side) in
      let dealt = all_pass alike messages keeps.numbered first_numbers entries counted
      (sublist_keeps alike messages keeps.numbered (tooks_of side entries)
      (bodies_read side connections) justified.tooks keeps.frames)
      (omega (arith, first_in side)) in
      let from : next_in side first_numbers - 1 ≡ 0 = omega (arith, first_in side) in
      let to : next_in side (numbers_after first_numbers entries) - 1
      ≡ length (map (heard_from side) messages) =
      omega (arith, filled.sent, length-map messages (heard_from side)) in
      record {
        sent = subst (λ n. PassesAll side (map (heard_from side) messages) n entries
            (length (map (heard_from side) messages))) from
            (subst (λ n. PassesAll side (map (heard_from side) messages)
            (next_in side first_numbers - 1) entries n) to dealt);
        took = ap (λ (l : List Message). heard (map (heard_at side) l))
            (in_order fronts filled.came
            ∙ ap (λ (ps : List Placed). map (λ (p : Placed). message_of_out p.out)
            (filter (λ (p : Placed). not p.out.admin) ps))
            (take_all (taking.next - 1) placed (omega (arith, all))))
            ∙ ap heard (map-map (heard_at side) (λ (p : Placed). message_of_out p.out)
            (filter (λ (p : Placed). not p.out.admin) placed))
            ∙ heard_placed placed (λ p i admin. plain_at (message_of_out p.out)
            (sym (placed_sent side names entries sends p i).admin ∙ admin))
            ∙ ap heard (sym (given_all entries));
      }
