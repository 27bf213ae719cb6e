-- What one call more does to a record as it is kept, and to its connections.
use Rattle.std.proofs.Common.{◌≡◌, ◌∙◌, ℕ, ◌-◌, ◌<◌, ◌==◌, zero, suc, Bool, true, false, List, []}
use Rattle.std.proofs.Common.{◌∷◌, ◌++◌, length, set, get_or, refl, sym, ap, arith}
use Rattle.std.specs.Prelude.{fold}
use Rattle.wires.specs.Wire.{WireCall, Connection, change_last, connections_after, transcript}
use Rattle.wires.specs.Wire.{within_after, is_within, HangUp}
use Rattle.wires.specs.Record.{call_of, calls_of, marked}
use Rattle.wires.specs.declared.record.Call.{Call}
use Rattle.wires.specs.declared.record.Noted.{Noted}

some_length : (k : ℕ) (all : List Connection) → k ≡ length all → false ≡ (k == 0) → 0 < length all
some_length zero all len some = absurd (cc some)
some_length (suc k) all len some = omega (arith, len)

last_set : (f : Connection → Connection) (all : List Connection) (d : Connection)
    → 0 < length all
    → set all (length all - 1) (f (get_or all (length all - 1) d)) ≡ change_last f all
last_set f [] d some = absurd (omega (arith, some))
last_set f (one ∷ []) d some = refl
last_set f (one ∷ next ∷ rest) d some =
    let e : length (one ∷ next ∷ rest) - 1 ≡ suc (length (next ∷ rest) - 1) = omega arith in
    rw e (ap (λ l. one ∷ l) (last_set f (next ∷ rest) d (omega arith)))

-- the last of some connections gave way to what a change makes of it
pub last_changed : (f : Connection → Connection) (all : List Connection) (n k : ℕ)
    (old new : Connection) → n ≡ length all → k ≡ n → false ≡ (n == 0)
    → old ≡ get_or all (k - 1) old → new ≡ f old → set all (k - 1) new ≡ change_last f all
last_changed f all n k old new is_length is_len some there is =
    ap (set all (k - 1)) (is ∙ ap f there)
    ∙ ap (λ m. set all (m - 1) (f (get_or all (m - 1) old))) (is_len ∙ is_length)
    ∙ last_set f all old (some_length n all is_length some)

-- a fold over one element more
fold_more : {A B : Type 0} (f : B → A → B) (start : B) (xs : List A) (x : A)
    → fold f start (xs ++ x ∷ []) ≡ f (fold f start xs) x
fold_more f start [] x = refl
fold_more f start (first ∷ xs) x = fold_more f (f start first) xs x

pub transcript_more : (calls : List WireCall) (call : WireCall)
    → transcript (calls ++ call ∷ []) ≡ connections_after (transcript calls) call
transcript_more calls call = fold_more connections_after [] calls call

marked_more : (hung_up : Bool) (calls more : List WireCall)
    → marked hung_up (calls ++ more) ≡ marked hung_up calls ++ more
marked_more true calls more = refl
marked_more false calls more = refl

pub kept_more : (kept : List Noted) (call : Call)
    → calls_of (kept ++ record { call = call; hung_up = false } ∷ [])
    ≡ calls_of kept ++ call_of call ∷ []
kept_more [] call = refl
kept_more (noted ∷ kept) call = ap (λ calls. call_of noted.call ∷ calls)
    (ap (marked noted.hung_up) (kept_more kept call)
    ∙ marked_more noted.hung_up (calls_of kept) (call_of call ∷ []))

-- the connections that are kept, after a call that is kept
pub connections_more : (kept new : List Noted) (call : Call) (before all : List Connection)
    → before ≡ transcript (calls_of kept) → all ≡ connections_after before (call_of call)
    → new ≡ kept ++ record { call = call; hung_up = false } ∷ [] → all ≡ transcript (calls_of new)
connections_more kept new call before all was now pushed =
    now ∙ ap (λ c. connections_after c (call_of call)) was
    ∙ sym (transcript_more (calls_of kept) (call_of call))
    ∙ ap transcript (sym (kept_more kept call)) ∙ ap (λ n. transcript (calls_of n)) (sym pushed)

-- within a connection no hang up stands at the end
not_marked : (within : Bool) (call : WireCall) (hung_up : Bool)
    → fold within_after within (call ∷ marked hung_up []) ≡ true → hung_up ≡ false
not_marked within call true inside = absurd (cc inside)
not_marked within call false inside = refl

-- whether a wire is within a connection behind a mark
behind_mark : (hung_up within : Bool) → Bool
behind_mark true within = false
behind_mark false within = within

under_mark : (hung_up within : Bool) (calls : List WireCall)
    → fold within_after within (marked hung_up calls)
    ≡ fold within_after (behind_mark hung_up within) calls
unfolding behind_mark
under_mark true within calls = refl
under_mark false within calls = refl

-- a mark at the end is a hang up more
marked_from : (within : Bool) (first : Noted) (rest : List Noted) (last : Noted)
    → fold within_after within (calls_of (first ∷ rest)) ≡ true
    → last ≡ get_or (first ∷ rest) (length rest) last
    → calls_of (set (first ∷ rest) (length rest) (record { call = last.call; hung_up = true }))
    ≡ calls_of (first ∷ rest) ++ HangUp ∷ []
marked_from within first [] last inside there =
    let bare = not_marked within (call_of first.call) first.hung_up inside in
    ap (λ n. call_of n.call ∷ HangUp ∷ []) there
    ∙ ap (λ h. (call_of first.call ∷ marked h []) ++ HangUp ∷ []) (sym bare)
marked_from within first (next ∷ rest) last inside there =
    let behind = within_after within (call_of first.call) in
    let calls = calls_of (next ∷ rest) in
    ap (λ more. call_of first.call ∷ more)
    (ap (marked first.hung_up) (marked_from (behind_mark first.hung_up behind) next rest last
    (sym (under_mark first.hung_up behind calls) ∙ inside) there)
    ∙ marked_more first.hung_up calls (HangUp ∷ []))

at_last : (kept : List Noted) (k : ℕ) (last : Noted) → k ≡ length kept
    → is_within (calls_of kept) ≡ true → last ≡ get_or kept (k - 1) last
    → calls_of (set kept (k - 1) (record { call = last.call; hung_up = true }))
    ≡ calls_of kept ++ HangUp ∷ []
at_last [] k last len inside there = absurd (cc inside)
at_last (first ∷ rest) k last len inside there =
    let e : k - 1 ≡ length rest = omega (arith, len) in
    rw e (marked_from false first rest last inside
    (there ∙ ap (λ i. get_or (first ∷ rest) i last) e))

-- the last call that is kept gave way to itself with a mark
module _ (kept : List Noted) (n k : ℕ) (last : Noted) (is_length : n ≡ length kept) (is_len : k ≡ n)
    (inside : is_within (calls_of kept) ≡ true) (there : last ≡ get_or kept (k - 1) last) where
  pub marked_last : calls_of (set kept (k - 1) (record { call = last.call; hung_up = true }))
      ≡ calls_of kept ++ HangUp ∷ []
  marked_last = at_last kept k last (is_len ∙ is_length) inside there

  -- and the connections stay
  pub connections_stay : (all : List Connection) → all ≡ transcript (calls_of kept) → all
      ≡ transcript (calls_of (set kept (k - 1) (record { call = last.call; hung_up = true })))
  connections_stay all was = was ∙ sym (transcript_more (calls_of kept) HangUp)
      ∙ ap transcript (sym marked_last)
