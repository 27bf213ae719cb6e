-- The out of a side and number, as a journal gives it and by its place.
use Rattle.std.proofs.Common.{◌≡◌, ℕ, zero, suc, ◌+◌, ◌-◌, ◌<◌, ◌≤◌, Bool, true, false, List, []}
use Rattle.std.proofs.Common.{◌∷◌, ◌++◌, length, refl, sym, ◌∙◌, ap, subst, arith, Some, None}
use Rattle.std.specs.Prelude.{◌==◌, if◌then◌else◌, slice_get, map}
use Rattle.std.specs.declared.option.Option.{Option}
use Rattle.std.proofs.lemmas.Bool.Decides.{nat_tests}
use Rattle.std.proofs.lemmas.List.{length-map}
use Rattle.order_meaning.specs.declared.Side.{Side}
use Rattle.order_meaning.specs.declared.Side.TheVariants.{Client, Venue}
use Rattle.pair_entries.specs.declared.entry.Out.{Out}
use Rattle.pair_entries.specs.declared.entry.Entry.{Entry}
use Rattle.pair_entries.specs.Payload.{Next}
use Rattle.kept_entries.specs.Numbers.{next_out, outs_to, Numbered, OutsGoOn, GoesOn, is_side}
use Rattle.kept_entries.specs.Numbers.{first_numbers}
use Rattle.kept_entries.specs.Entries.{AreEntries}
use Rattle.kept_entries.specs.Given.{Given, numbered, given_in, given}
use Rattle.pair_journal.specs.OutBuf.{OutAt, IsGivenAs}
use Rattle.life_laws.specs.Forms.{Placed, placed_at, all_placed, placed}
use Rattle.wire_sends.specs.Again.{placed_by}
use Rattle.wire_sends.proofs.Sendings.{same_side}

goes : (side : Side) (before : Next) (entry : Entry) → GoesOn before entry
    → OutsGoOn side before entry
goes Client before entry h = h.client_out
goes Venue before entry h = h.venue_out

-- among outs that count up from n, the one of number m stands m - n places on
in_outs : (n m : ℕ) (outs : List Out) (o : Out) → Numbered n outs → numbered m outs ≡ Some o
    → (n ≤ m) × (m < n + length outs) × (slice_get outs (m - n) ≡ Some o) × (o.number ≡ m)
in_outs n m [] o count is = absurd (cc is)
in_outs n m (x ∷ outs) o count is =
    at (λ h. in_outs (n + 1) m outs o count.1 h) (x.number == m) refl
  where
    step : (b : Bool) → (x.number == m) ≡ b → numbered m (x ∷ outs)
        ≡ elim b [ true ↦ Some x | false ↦ numbered m outs ]
    step b e = ap (λ t. elim t [ true ↦ Some x | false ↦ numbered m outs ]) e

    at : (numbered m outs ≡ Some o → (n + 1 ≤ m) × (m < n + 1 + length outs)
        × (slice_get outs (m - (n + 1)) ≡ Some o) × (o.number ≡ m))
        → (b : Bool) → (x.number == m) ≡ b
        → (n ≤ m) × (m < n + length (x ∷ outs)) × (slice_get (x ∷ outs) (m - n) ≡ Some o)
        × (o.number ≡ m)
    at more true e =
        let same : Some x ≡ Some o = sym (step true e) ∙ is in
        let number : x.number ≡ m = grind (arith, nat_tests) in
        let here : m ≡ n = sym number ∙ count.0 in
        let place : m - n ≡ 0 = omega (arith, here) in (
          omega (arith, here),
          omega (arith, here),
          ap (slice_get (x ∷ outs)) place ∙ same,
          ap (λ (y : Option Out). elim y [ None ↦ m | Some z ↦ z.number ]) (sym same) ∙ number,
        )
    at more false e =
        let later = more (sym (step false e) ∙ is) in
        let place : m - n ≡ suc (m - (n + 1)) = omega (arith, later.0) in (
          omega (arith, later.0),
          omega (arith, later.1),
          ap (slice_get (x ∷ outs)) place ∙ later.2,
          later.3,
        )

slice_get-front : (xs ys : List Placed) (k : ℕ) (p : Placed) → slice_get xs k ≡ Some p
    → slice_get (xs ++ ys) k ≡ Some p
slice_get-front [] ys k p is = absurd (cc is)
slice_get-front (x ∷ xs) ys zero p is = is
slice_get-front (x ∷ xs) ys (suc k) p is = slice_get-front xs ys k p is

slice_get-behind : (xs ys : List Placed) (k : ℕ)
    → slice_get (xs ++ ys) (length xs + k) ≡ slice_get ys k
slice_get-behind [] ys k = let e : 0 + k ≡ k = omega arith in ap (slice_get ys) e
slice_get-behind (x ∷ xs) ys k =
    let e : length (x ∷ xs) + k ≡ suc (length xs + k) = omega arith in
    ap (slice_get (x ∷ xs ++ ys)) e ∙ slice_get-behind xs ys k

slice_get-map : (f : Out → Placed) (outs : List Out) (k : ℕ) (o : Out) → slice_get outs k ≡ Some o
    → slice_get (map f outs) k ≡ Some (f o)
slice_get-map f [] k o is = absurd (cc is)
slice_get-map f (x ∷ outs) zero o is =
    ap (λ (y : Option Out). elim y [ None ↦ None | Some z ↦ Some (f z) ]) is
slice_get-map f (x ∷ outs) (suc k) o is = slice_get-map f outs k o is

-- an out to a side is of that side
of_side : (side : Side) (outs : List Out) (k : ℕ) (o : Out)
    → slice_get (outs_to side outs) k ≡ Some o → side ≡ o.side
of_side side [] k o is = absurd (cc is)
of_side side (x ∷ outs) k o is =
    at (λ j e. of_side side outs j o e) (is_side side x.side) refl k is
  where
    at : ((j : ℕ) → slice_get (outs_to side outs) j ≡ Some o → side ≡ o.side)
        → (b : Bool) → is_side side x.side ≡ b → (j : ℕ)
        → slice_get (if b then x ∷ outs_to side outs else outs_to side outs) j ≡ Some o
        → side ≡ o.side
    at later true e zero h =
        same_side side x.side e
        ∙ ap (λ (y : Option Out). elim y [ None ↦ side | Some z ↦ z.side ]) h
    at later true e (suc j) h = later j h
    at later false e j h = later j h

record IsPlaced (side : Side) (n first : ℕ) (placed : List Placed) (one : Given) : Type 0 where
  low : first ≤ n
  at : slice_get placed (n - first) ≡ Some (placed_at one.entry.at one.out)
  number : one.out.number ≡ n
  of : side ≡ one.out.side

is_placed : (side : Side) (n : ℕ) (before : Next) (entries : List Entry) (one : Given)
    → AreEntries before entries → given side n entries ≡ Some one
    → IsPlaced side n (next_out side before) (all_placed side entries) one
is_placed side n before [] one are is = absurd (cc is)
is_placed side n before (e ∷ es) one are is =
    at (λ h. is_placed side n e.next es one are.2 h) (numbered n (outs_to side e.outs)) refl
  where
    goes_on : OutsGoOn side before e
    goes_on = goes side before e are.1

    first : List Placed
    first = map (placed_at e.at) (outs_to side e.outs)

    opened : (o : Option Out) → numbered n (outs_to side e.outs) ≡ o
        → given side n (e ∷ es) ≡ elim o [
          | None ↦ given side n es
          | Some out ↦ Some (record { entry = e; out = out })
        ]
    opened None h = rw (h, given_in, given) refl
    opened (Some out) h = rw (h, given_in, given) refl

    at : (given side n es ≡ Some one
        → IsPlaced side n (next_out side e.next) (all_placed side es) one)
        → (o : Option Out) → numbered n (outs_to side e.outs) ≡ o
        → IsPlaced side n (next_out side before) (all_placed side (e ∷ es)) one
    at more None h =
        let later = more (sym (opened None h) ∙ is) in
        let size : length first ≡ length (outs_to side e.outs) =
        length-map (outs_to side e.outs) (placed_at e.at) in
        let place : n - next_out side before ≡ length first + (n - next_out side e.next) =
        omega (arith, later.low, goes_on.next, size) in
        record {
          low = omega (arith, later.low, goes_on.next);
          at = ap (slice_get (first ++ all_placed side es)) place
              ∙ slice_get-behind first (all_placed side es) (n - next_out side e.next) ∙ later.at;
          number = later.number;
          of = later.of;
        }
    at more (Some out) h =
        let same : Some (record { entry = e; out = out }) ≡ Some one =
        sym (opened (Some out) h) ∙ is in
        let is_one : record { entry = e; out = out } ≡ one =
        ap (λ (y : Option Given). elim y [ None ↦ one | Some z ↦ z ]) same in
        let here = in_outs (next_out side before) n (outs_to side e.outs) out goes_on.numbered h in
        subst (IsPlaced side n (next_out side before) (all_placed side (e ∷ es))) is_one
        (record {
          low = here.0;
          at = slice_get-front first (all_placed side es) (n - next_out side before)
              (placed_at e.at out) (slice_get-map (placed_at e.at) (outs_to side e.outs)
              (n - next_out side before) out here.2);
          number = here.3;
          of = of_side side e.outs (n - next_out side before) out here.2;
        })

to_place : (ps : List Placed) (n : ℕ) (p : Placed) → 1 ≤ n → slice_get ps (n - 1) ≡ Some p
    → (if n == 0 then None else slice_get ps (n - 1)) ≡ Some p
to_place ps n p some is =
    let no : (n == 0) ≡ false = grind (arith, nat_tests) in
    ap (λ b. if b then None else slice_get ps (n - 1)) no ∙ is

-- what a journal tells of an out is the out that has this place
pub told_is_placed : (side : Side) (n : ℕ) (entries : List Entry) (what : OutAt)
    → AreEntries first_numbers entries → IsGivenAs (given side n entries) what
    → placed side n entries ≡ Some (placed_by side n what)
told_is_placed side n entries what are tells = at (given side n entries) refl tells
  where
    one_first : (s : Side) → next_out s first_numbers ≡ 1
    one_first Client = refl
    one_first Venue = refl

    at : (o : Option Given) → given side n entries ≡ o → IsGivenAs o what
        → placed side n entries ≡ Some (placed_by side n what)
    at None h t = absurd t
    at (Some one) h t =
        let is = is_placed side n first_numbers entries one are h in
        let first = one_first side in
        let here : slice_get (all_placed side entries) (n - 1)
        ≡ Some (placed_at one.entry.at one.out) =
        ap (λ k. slice_get (all_placed side entries) (n - k)) (sym first) ∙ is.at in
        let same : placed_at one.entry.at one.out ≡ placed_by side n what =
        (λ i. record {
          out = record {
            side = sym is.of i;
            number = is.number i;
            admin = one.out.admin;
            resend = one.out.resend;
            msg_type = one.out.msg_type;
            content = one.out.content;
          };
          at = one.entry.at;
        }) ∙ ap (placed_by side n) (sym t) in
        to_place (all_placed side entries) n (placed_at one.entry.at one.out)
        (omega (arith, is.low, first)) here ∙ ap Some same
