-- A script of which some was played.
use Rattle.std.proofs.Common.{◌≡◌, ◌∙◌, ℕ, ◌+◌, ◌≤◌, ◌<◌, ◌&&◌, zero, suc, Bool, true, false}
use Rattle.std.proofs.Common.{List, [], ◌∷◌}
use Rattle.std.proofs.Common.{length, map, drop, get_or, refl, sym, ap, arith}
use Rattle.std.specs.Prelude.{slice_get, Some, None, if◌then◌else◌}
use Rattle.std.proofs.lemmas.List.{drop-drop}
use Rattle.std.proofs.lemmas.Bool.{lt-ltb, le-ltb, ltb-true}
use Rattle.std.proofs.lemmas.Option.{slice_get_read}
use Rattle.std.proofs.Math.Dec.{ltb}
use Rattle.wires.specs.Wire.{Came, Nothing, Opened, Bytes, Closed, Broken}
use Rattle.wires.specs.Script.{item_of, next_of, rest_of}
use Rattle.wires.specs.Play.{cut, left_of, bytes_ahead}
use Rattle.wires.specs.declared.script.Script.{Script}

-- what is left at an item, and past the last
pub at_item : (items : List Script) (next given : ℕ) (item : Script)
    → slice_get items next ≡ Some item → left_of items next given
    ≡ cut given (item_of item ∷ drop (suc next) (map item_of items))
at_item [] next given item there = absurd (cc there)
at_item (first ∷ items) zero given item there =
    ap (λ i. cut given (i ∷ map item_of items)) (let e : first ≡ item = cc there in ap item_of e)
at_item (first ∷ items) (suc next) given item there = at_item items next given item there

pub at_end : (items : List Script) (next given : ℕ)
    → slice_get items next ≡ None → left_of items next given ≡ []
at_end [] zero given past = refl
at_end [] (suc next) given past = refl
at_end (first ∷ items) zero given past = absurd (cc past)
at_end (first ∷ items) (suc next) given past = at_end items next given past

-- what comes next is of the first item
ahead_first : (given : ℕ) (item : Came) (rest : List Came)
    → bytes_ahead (cut given (item ∷ rest)) ≡ bytes_ahead (cut given (item ∷ []))
ahead_first given (Bytes bytes) rest = refl
ahead_first given Nothing rest = refl
ahead_first given Opened rest = refl
ahead_first given Closed rest = refl
ahead_first given Broken rest = refl

next_first : (within : Bool) (room given : ℕ) (item : Came) (rest : List Came)
    → next_of within room (cut given (item ∷ rest)) ≡ next_of within room (cut given (item ∷ []))
next_first within room given (Bytes bytes) rest = refl
next_first within room given Nothing rest = refl
next_first within room given Opened rest = refl
next_first within room given Closed rest = refl
next_first within room given Broken rest = refl

pub cut_more : (given count : ℕ) (items : List Came)
    → cut (given + count) items ≡ cut count (cut given items)
cut_more given count [] = refl
cut_more given count (Bytes bytes ∷ rest) =
    ap (λ b. Bytes b ∷ rest) (sym (drop-drop count given bytes))
cut_more given count (Nothing ∷ rest) = refl
cut_more given count (Opened ∷ rest) = refl
cut_more given count (Closed ∷ rest) = refl
cut_more given count (Broken ∷ rest) = refl

cut_none : (items : List Came) → cut 0 items ≡ items
cut_none [] = refl
cut_none (Bytes bytes ∷ rest) = refl
cut_none (Nothing ∷ rest) = refl
cut_none (Opened ∷ rest) = refl
cut_none (Closed ∷ rest) = refl
cut_none (Broken ∷ rest) = refl

behind_cut : (given : ℕ) (items : List Came) → drop 1 (cut given items) ≡ drop 1 items
behind_cut given [] = refl
behind_cut given (Bytes bytes ∷ rest) = refl
behind_cut given (Nothing ∷ rest) = refl
behind_cut given (Opened ∷ rest) = refl
behind_cut given (Closed ∷ rest) = refl
behind_cut given (Broken ∷ rest) = refl

pub one_more : (items : List Script) (next given : ℕ)
    → left_of items (next + 1) 0 ≡ drop 1 (left_of items next given)
one_more items next given = cut_none (drop (next + 1) (map item_of items))
    ∙ sym (drop-drop 1 next (map item_of items))
    ∙ sym (behind_cut given (drop next (map item_of items)))

pub none_more : (items : List Script) (next given : ℕ)
    → length items ≤ next → left_of items next 0 ≡ drop 1 (left_of items next given)
none_more [] zero given past = refl
none_more [] (suc next) given past = refl
none_more (first ∷ items) zero given past = absurd (omega (arith, past))
none_more (first ∷ items) (suc next) given past = none_more items next given (omega (arith, past))

pub rest_cut : (within : Bool) (room : ℕ) (items : List Came)
    → within ≡ true → room < bytes_ahead items → rest_of within room items ≡ cut room items
rest_cut within room [] inside more = absurd (omega (arith, more))
rest_cut within room (Bytes bytes ∷ rest) inside more =
    rw (inside, lt-ltb room (length bytes) more) refl
rest_cut within room (Nothing ∷ rest) inside more = absurd (omega (arith, more))
rest_cut within room (Opened ∷ rest) inside more = absurd (omega (arith, more))
rest_cut within room (Closed ∷ rest) inside more = absurd (omega (arith, more))
rest_cut within room (Broken ∷ rest) inside more = absurd (omega (arith, more))

pub rest_away : (within : Bool) (room : ℕ) (items : List Came)
    → within ≡ false → rest_of within room items ≡ drop 1 items
rest_away within room [] away = refl
rest_away within room (Bytes bytes ∷ rest) away = rw away refl
rest_away within room (Nothing ∷ rest) away = refl
rest_away within room (Opened ∷ rest) away = refl
rest_away within room (Closed ∷ rest) away = refl
rest_away within room (Broken ∷ rest) away = refl

no_more : (within : Bool) (part rest : List Came)
    → (if within && false then part else rest) ≡ rest
no_more true part rest = refl
no_more false part rest = refl

pub rest_short : (within : Bool) (room : ℕ) (items : List Came)
    → bytes_ahead items ≤ room → rest_of within room items ≡ drop 1 items
rest_short within room [] enough = refl
rest_short within room (Bytes bytes ∷ rest) enough =
    rw (le-ltb room (length bytes) enough) (no_more within (Bytes (drop room bytes) ∷ rest) rest)
rest_short within room (Nothing ∷ rest) enough = refl
rest_short within room (Opened ∷ rest) enough = refl
rest_short within room (Closed ∷ rest) enough = refl
rest_short within room (Broken ∷ rest) enough = refl

pub ruleset going_on = (rest_cut, rest_away, rest_short)

pub ruleset passing = (one_more, none_more)

-- the item that a look gave
there : (items : List Script) (next : ℕ) (item : Script) → true ≡ ltb next (length items)
    → item ≡ get_or items next item → slice_get items next ≡ Some item
there items next item within read =
    let below = ltb-true next (length items) (sym within) in
    slice_get_read items (length items) next item refl below read

module _ (items : List Script) (next given : ℕ) where
  pub ahead_at : (item : Script) → true ≡ ltb next (length items) → item ≡ get_or items next item
      → bytes_ahead (left_of items next given) ≡ bytes_ahead (cut given (item_of item ∷ []))
  ahead_at item within read =
      ap bytes_ahead (at_item items next given item (there items next item within read))
      ∙ ahead_first given (item_of item) (drop (suc next) (map item_of items))

  pub ahead_end : slice_get items next ≡ None → bytes_ahead (left_of items next given) ≡ 0
  ahead_end past = ap bytes_ahead (at_end items next given past)

  pub next_at : (inside : Bool) (room : ℕ) (item : Script)
      → true ≡ ltb next (length items) → item ≡ get_or items next item
      → next_of inside room (left_of items next given)
      ≡ next_of inside room (cut given (item_of item ∷ []))
  next_at inside room item within read =
      ap (next_of inside room) (at_item items next given item (there items next item within read))
      ∙ next_first inside room given (item_of item) (drop (suc next) (map item_of items))

  pub next_end : (within : Bool) (room : ℕ) → slice_get items next ≡ None
      → next_of within room (left_of items next given) ≡ Nothing
  next_end within room past = ap (next_of within room) (at_end items next given past)

pub ruleset looking = (ahead_end, next_end)
