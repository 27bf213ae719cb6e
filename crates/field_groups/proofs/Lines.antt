-- The lines of a group, a member at a time.
use Rattle.std.proofs.Common.{Result, Ok, Err, IfOk, option_and_then, slice_get, ◌≡◌, ℕ, suc, ◌+◌}
use Rattle.std.proofs.Common.{◌-◌, ◌<◌, ◌≤◌, Bool, true, false, not, cond, eqb, List, [], ◌∷◌, ◌++◌}
use Rattle.std.proofs.Common.{length, get_or, set, map, take, drop, take_while, count_by}
use Rattle.std.proofs.Common.{Option, Some, None, refl, sym, ap, ◌∙◌, arith, append_assoc}
use Rattle.std.proofs.Common.{append-nil, one-add, eq-eqb}
use Rattle.std.specs.Option.{option_or}
use Rattle.std.specs.List.{prefix_len, last_or, take-map, drop-map}
use Rattle.std.proofs.lemmas.Bool.{ne_eqb, true≢false}
use Rattle.std.proofs.lemmas.List.{drop_more, drop_all, map-set, get_or-map, length-map}
use Rattle.std.proofs.lemmas.List.Sums.{sum_by-cons}
use Rattle.field_groups.specs.declared.group.GroupFault.{GroupFault}
use Rattle.field_groups.specs.declared.group.GroupFault.TheVariants.{Count, Order, TooMany}
use Rattle.field_groups.specs.declared.group.GroupFault.TheVariants.{NoMemory}
use Rattle.field_groups.specs.HeadValues.{number_in}
use Rattle.field_groups.specs.Field.{Field, says}
use Rattle.field_groups.specs.Group.{Tags, Member, placed, run, members_of, is_inside, is_skipped}
use Rattle.field_groups.specs.Group.{begins, before_lines, lines_of, is_astray, misplaced}
use Rattle.field_groups.specs.Group.{first_misplaced, is_counted, group_fault, group_lines, Lines}
use Rattle.field_groups.specs.Group.{TellsFault}

-- ---- one more member

-- a member behind lines, in the last of them
abbrev pub on_last : Member → List (List Member) → List (List Member)
on_last m [] = []
on_last m (line ∷ []) = (line ++ m ∷ []) ∷ []
on_last m (line ∷ next ∷ lines) = line ∷ on_last m (next ∷ lines)

-- there are lines, and each has a member
abbrev AreSome : List (List Member) → Type 0
AreSome [] = ⊥
AreSome (line ∷ lines) = 0 < length line

some_lines : (first : ℕ) (m : Member) (lines : List (List Member))
    → AreSome (before_lines first m lines)
some_lines first m [] = omega arith
some_lines first m (line ∷ lines) = by_test (begins first line)
  where
    by_test : (b : Bool) → AreSome (cond b ((m ∷ []) ∷ line ∷ lines) ((m ∷ line) ∷ lines))
    by_test true = omega arith
    by_test false = omega arith

some_lines_of : (first : ℕ) (m : Member) (ms : List Member) → AreSome (lines_of first (m ∷ ms))
unfolding lines_of
some_lines_of first m ms = some_lines first m (lines_of first ms)

-- a new line stays behind
before_new : (first : ℕ) (m : Member) (new : List Member) (lines : List (List Member))
    → AreSome lines →
    before_lines first m (lines ++ new ∷ []) ≡ before_lines first m lines ++ new ∷ []
before_new first m new [] some = absurd some
before_new first m new (line ∷ lines) some = by_test (begins first line)
  where
    by_test : (b : Bool)
        → cond b ((m ∷ []) ∷ line ∷ (lines ++ new ∷ [])) ((m ∷ line) ∷ (lines ++ new ∷ []))
        ≡ cond b ((m ∷ []) ∷ line ∷ lines) ((m ∷ line) ∷ lines) ++ new ∷ []
    by_test true = refl
    by_test false = refl

pub new_line : (first : ℕ) (before : List Member) (m : Member)
    → m.0 ≡ first → lines_of first (before ++ m ∷ []) ≡ lines_of first before ++ (m ∷ []) ∷ []
unfolding lines_of
new_line first [] m is = refl
new_line first (a ∷ []) m is = rw (eq-eqb m.0 first is) refl
new_line first (a ∷ b ∷ before) m is =
    ap (before_lines first a) (new_line first (b ∷ before) m is)
    ∙ before_new first a (m ∷ []) (lines_of first (b ∷ before)) (some_lines_of first b before)

before_last : (first : ℕ) (a m : Member) (lines : List (List Member)) → AreSome lines
    → before_lines first a (on_last m lines) ≡ on_last m (before_lines first a lines)
before_last first a m [] some = absurd some
before_last first a m ([] ∷ lines) some = absurd (omega (arith, some))
before_last first a m ((b ∷ line) ∷ []) some = by_test (eqb b.0 first)
  where
    by_test : (t : Bool)
        → cond t ((a ∷ []) ∷ (b ∷ (line ++ m ∷ [])) ∷ []) ((a ∷ b ∷ (line ++ m ∷ [])) ∷ [])
        ≡ on_last m (cond t ((a ∷ []) ∷ (b ∷ line) ∷ []) ((a ∷ b ∷ line) ∷ []))
    by_test true = refl
    by_test false = refl
before_last first a m ((b ∷ line) ∷ next ∷ lines) some = by_test (eqb b.0 first)
  where
    by_test : (t : Bool) → cond t ((a ∷ []) ∷ (b ∷ line) ∷ on_last m (next ∷ lines))
        ((a ∷ b ∷ line) ∷ on_last m (next ∷ lines))
        ≡ on_last m (cond t ((a ∷ []) ∷ (b ∷ line) ∷ next ∷ lines) ((a ∷ b ∷ line) ∷ next ∷ lines))
    by_test true = refl
    by_test false = refl

pub same_line : (first : ℕ) (a : Member) (before : List Member) (m : Member) → eqb m.0 first ≡ false
    → lines_of first ((a ∷ before) ++ m ∷ []) ≡ on_last m (lines_of first (a ∷ before))
unfolding lines_of
same_line first a [] m is = rw is refl
same_line first a (b ∷ before) m is =
    ap (before_lines first a) (same_line first b before m is)
    ∙ before_last first a m (lines_of first (b ∷ before)) (some_lines_of first b before)

-- the last line by its place
set_last : (m : Member) (lines : List (List Member))
    → set lines (length lines - 1) (get_or lines (length lines - 1) [] ++ m ∷ []) ≡ on_last m lines
set_last m [] = refl
set_last m (line ∷ []) = refl
set_last m (line ∷ next ∷ lines) =
    let place : length (line ∷ next ∷ lines) - 1 ≡ suc (length (next ∷ lines) - 1) = omega arith in
    rw place (ap (λ (ls : List (List Member)). line ∷ ls) (set_last m (next ∷ lines)))

pub in_last_line : (first : ℕ) (before : List Member) (m : Member) (lines : List (List Member))
    → (m.0 ≡ first → ⊥) → lines ≡ lines_of first before → 0 < length lines →
    set lines (length lines - 1) (get_or lines (length lines - 1) [] ++ m ∷ [])
    ≡ lines_of first (before ++ m ∷ [])
unfolding lines_of
in_last_line first [] m lines other is some =
    absurd (omega (arith, ap (λ (ls : List (List Member)). length ls) is))
in_last_line first (a ∷ before) m lines other is some =
    set_last m lines ∙ ap (on_last m) is ∙ sym (same_line first a before m (ne_eqb m.0 first other))

-- a member in order has a line
pub has_line : (tag : ℕ) (lines : List (List Member))
    → is_astray tag (last_or None lines) ≡ false → 0 < length lines
has_line tag [] is = absurd (true≢false is)
has_line tag (line ∷ lines) is = omega arith

-- a line that is seen through a view is replaced
pub set_view : {X : Type 0} (view : X → List Member) (xs : List X)
    (k : ℕ) (old new : X) (m : Member) → 0 < length (map view xs) → k ≡ length (map view xs) →
    old ≡ get_or xs (k - 1) old → view new ≡ view old ++ m ∷ [] →
    map view (set xs (k - 1) new) ≡ set (map view xs)
    (length (map view xs) - 1) (get_or (map view xs) (length (map view xs) - 1) [] ++ m ∷ [])
set_view view xs k old new m some len is more =
    let place : k - 1 ≡ length (map view xs) - 1 = omega arith in
    let there : get_or (map view xs) (k - 1) [] ≡ view old =
    get_or-map view xs (k - 1) old [] (omega (arith, length-map xs view)) ∙ ap view (sym is) in
    map-set view xs (k - 1) new
    ∙ ap (λ line. set (map view xs) (k - 1) line) (more ∙ ap (λ line. line ++ m ∷ []) (sym there))
    ∙ ap (λ i. set (map view xs) i (get_or (map view xs) i [] ++ m ∷ [])) place

-- ---- what was read so far

-- these members were read into these lines, and those are left
pub record Read (tags : Tags) (all left : List Member) (lines : List (List Member)) : Type 0 where
  pub before : List Member
  pub split : all ≡ before ++ left
  pub into : lines ≡ lines_of tags.first before
  pub same : first_misplaced tags [] all ≡ first_misplaced tags before left

pub none_read : (tags : Tags) (all : List Member) → Read tags all all []
unfolding lines_of
none_read tags all = record { before = []; split = refl; into = refl; same = refl }

pub one_read : (tags : Tags) (all left : List Member) (m : Member) (lines next : List (List Member))
    → (read : Read tags all (m ∷ left) lines) →
    next ≡ lines_of tags.first (read.before ++ m ∷ [])
    → misplaced tags read.before m ≡ None → Read tags all left next
unfolding first_misplaced
one_read tags all left m lines next read is good = record {
  before = read.before ++ m ∷ [];
  split = read.split ∙ sym (append_assoc read.before (m ∷ []) left);
  into = is;
  same = read.same ∙ ap (λ (f : Option GroupFault).
      option_or f (first_misplaced tags (read.before ++ m ∷ []) left)) good;
}

pub all_read : (tags : Tags) (all : List Member) (lines : List (List Member)) → Read
    tags all [] lines → (lines ≡ lines_of tags.first all) × (first_misplaced tags [] all ≡ None)
unfolding first_misplaced
all_read tags all lines read = (
  read.into
      ∙ ap (lines_of tags.first) (sym (append-nil read.before) ∙ sym read.split),
  read.same,
)

pub fault_read : (tags : Tags) (all left : List Member) (m : Member)
    (lines : List (List Member)) (fault : GroupFault) → (read : Read tags all (m ∷ left) lines) →
    misplaced tags read.before m ≡ Some fault → first_misplaced tags [] all ≡ Some fault
unfolding first_misplaced
fault_read tags all left m lines fault read is = read.same ∙ ap
    (λ (f : Option GroupFault). option_or f (first_misplaced tags (read.before ++ m ∷ []) left)) is

pub tells : (tags : Tags) (all left : List Member) (m : Member)
    (lines : List (List Member)) (e : GroupFault) → (read : Read tags all (m ∷ left) lines) →
    TellsFault e (misplaced tags read.before m) → TellsFault e (first_misplaced tags [] all)
tells tags all left m lines (Count tag) read is =
    fault_read tags all left m lines (Count tag) read is
tells tags all left m lines (Order tag) read is =
    fault_read tags all left m lines (Order tag) read is
tells tags all left m lines TooMany read is = fault_read tags all left m lines TooMany read is
tells tags all left m lines NoMemory read is = tt

-- ---- fields as members

pub length_placed : (place : ℕ) (fs : List Field) → length (placed place fs) ≡ length fs
length_placed place [] = refl
length_placed place (f ∷ fs) = ap suc (length_placed (place + 1) fs)

run_placed : (tags : Tags) (place : ℕ) (fs : List Field) → take_while (λ m. is_inside tags m.0)
    (placed place fs) ≡ placed place (take (prefix_len (λ f. is_inside tags f.0) fs) fs)
run_placed tags place [] = refl
run_placed tags place (f ∷ fs) = by_test (is_inside tags f.0) (run_placed tags (place + 1) fs)
  where
    by_test : (b : Bool) → take_while (λ m. is_inside tags m.0) (placed (place + 1) fs)
        ≡ placed (place + 1) (take (prefix_len (λ g. is_inside tags g.0) fs) fs) →
        take (cond b (1 + prefix_len (λ m. is_inside tags m.0) (placed (place + 1) fs)) 0)
        ((f.0, place) ∷ placed (place + 1) fs)
        ≡ placed place (take (cond b (1 + prefix_len (λ g. is_inside tags g.0) fs) 0) (f ∷ fs))
    by_test true later = rw (
      one-add (prefix_len (λ m. is_inside tags m.0) (placed (place + 1) fs)),
      one-add (prefix_len (λ g. is_inside tags g.0) fs),
    )
        (ap (λ (ms : List Member). (f.0, place) ∷ ms) later)
    by_test false later = refl

prefix_len_map : {X : Type 0} (p : Field → Bool) (view : X → Field) (xs : List X)
    → prefix_len p (map view xs) ≡ prefix_len (λ x. p (view x)) xs
prefix_len_map p view [] = refl
prefix_len_map p view (x ∷ xs) =
    ap (λ (n : ℕ). cond (p (view x)) (1 + n) 0) (prefix_len_map p view xs)

-- the fields behind the count, up to the first of another tag
pub run_is : {X : Type 0} (tags : Tags)
    (from n : ℕ) (view : X → Field) (xs : List X) (fs : List Field) → map view xs ≡ fs →
    n ≡ prefix_len (λ x. is_inside tags (view x).0) (drop (from + 1) xs) →
    placed (from + 1) (map view (take n (drop (from + 1) xs))) ≡ run tags from fs
run_is tags from n view xs fs is len =
    let inside : Field → Bool = λ f. is_inside tags f.0 in
    let dropped : map view (drop (from + 1) xs) ≡ drop (from + 1) fs =
    sym (drop-map view (from + 1) xs) ∙ ap (λ (gs : List Field). drop (from + 1) gs) is in
    let count : n ≡ prefix_len inside (drop (from + 1) fs) =
    len ∙ sym (prefix_len_map inside view (drop (from + 1) xs))
    ∙ ap (λ (gs : List Field). prefix_len inside gs) dropped in
    ap (λ (gs : List Field). placed (from + 1) gs) (sym (take-map view n (drop (from + 1) xs)))
    ∙ (λ i. placed (from + 1) (take (count i) (dropped i)))
    ∙ sym (run_placed tags (from + 1) (drop (from + 1) fs))

-- as many of them begin a line as have the first tag
pub count_is : {X : Type 0} (first place : ℕ) (view : X → Field) (xs : List X) → count_by
    (λ m. eqb m.0 first) (placed place (map view xs)) ≡ count_by (λ x. eqb (view x).0 first) xs
count_is first place view [] = refl
count_is first place view (x ∷ xs) =
    let begun : Member → ℕ = λ m. cond (eqb m.0 first) 1 0 in
    sum_by-cons begun ((view x).0, place) (placed (place + 1) (map view xs))
    ∙ ap (λ (n : ℕ). cond (eqb (view x).0 first) 1 0 + n) (count_is first (place + 1) view xs)
    ∙ sym (sum_by-cons (λ (y : _). cond (eqb (view y).0 first) 1 0) x xs)

-- ---- a loop over the fields

-- the members of the fields from the i-th on
abbrev pub members_from : {X : Type 0} → Tags → ℕ → (X → Field) → ℕ → List X → List Member
members_from tags place view i xs = members_of tags (placed (place + i) (map view (drop i xs)))

skipped_one : (tags : Tags) (place : ℕ) (f : Field) (fs : List Field) → is_skipped tags f.0 ≡ true
    → members_of tags (placed place (f ∷ fs)) ≡ members_of tags (placed (place + 1) fs)
skipped_one tags place f fs is = ap (λ (b : Bool). cond (not b) ((f.0, place)
    ∷ members_of tags (placed (place + 1) fs)) (members_of tags (placed (place + 1) fs))) is

taken_one : (tags : Tags) (place : ℕ) (f : Field) (fs : List Field)
    → is_skipped tags f.0 ≡ false → members_of tags (placed place (f ∷ fs))
    ≡ (f.0, place) ∷ members_of tags (placed (place + 1) fs)
taken_one tags place f fs is = ap (λ (b : Bool). cond (not b) ((f.0, place)
    ∷ members_of tags (placed (place + 1) fs)) (members_of tags (placed (place + 1) fs))) is

from_here : {X : Type 0} (tags : Tags) (place i : ℕ) (view : X → Field) (xs : List X) (d : X)
    → i < length xs →
    members_from tags place view i xs
    ≡ members_of tags (placed (place + i) (view (get_or xs i d) ∷ map view (drop (i + 1) xs)))
from_here tags place i view xs d lt =
    ap (λ (ys : _). members_of tags (placed (place + i) (map view ys))) (drop_more xs i d lt)

next_place : {X : Type 0} (tags : Tags) (place i : ℕ) (view : X → Field) (xs : List X)
    → members_of tags (placed (place + i + 1) (map view (drop (i + 1) xs)))
    ≡ members_from tags place view (i + 1) xs
next_place tags place i view xs =
    ap (λ (p : ℕ). members_of tags (placed p (map view (drop (i + 1) xs)))) (omega arith)

pub skips : {X : Type 0} (tags : Tags) (place i : ℕ) (view : X → Field) (xs : List X) (d : X)
    → i < length xs → is_skipped tags (view (get_or xs i d)).0 ≡ true →
    members_from tags place view i xs ≡ members_from tags place view (i + 1) xs
skips tags place i view xs d lt is = from_here tags place i view xs d lt
    ∙ skipped_one tags (place + i) (view (get_or xs i d)) (map view (drop (i + 1) xs)) is
    ∙ next_place tags place i view xs

pub takes : {X : Type 0} (tags : Tags) (place i : ℕ) (view : X → Field) (xs : List X) (d : X)
    → i < length xs → is_skipped tags (view (get_or xs i d)).0 ≡ false →
    members_from tags place view i xs
    ≡ ((view (get_or xs i d)).0, place + i) ∷ members_from tags place view (i + 1) xs
takes tags place i view xs d lt is =
    from_here tags place i view xs d lt
    ∙ taken_one tags (place + i) (view (get_or xs i d)) (map view (drop (i + 1) xs)) is
    ∙ ap (λ (ms : List Member). ((view (get_or xs i d)).0, place + i) ∷ ms)
    (next_place tags place i view xs)

pub from_start : {X : Type 0} (tags : Tags) (place : ℕ) (view : X → Field) (xs : List X)
    → members_of tags (placed place (map view xs)) ≡ members_from tags place view 0 xs
from_start tags place view xs =
    ap (λ (p : ℕ). members_of tags (placed p (map view xs))) (omega arith)

pub at_end : {X : Type 0} (tags : Tags) (place i : ℕ) (view : X → Field) (xs : List X)
    → length xs ≤ i → members_from tags place view i xs ≡ []
at_end tags place i view xs past =
    ap (λ (ys : _). members_of tags (placed (place + i) (map view ys))) (drop_all i xs past)

-- ---- the whole group

pub counts : {X : Type 0} (tags : Tags)
    (from n : ℕ) (view : X → Field) (xs : List X) (fs : List Field) (said : Option ℕ) →
    said ≡ option_and_then (λ f. number_in f.1) (slice_get fs from)
    → n ≡ count_by (λ x. eqb (view x).0 tags.first) xs →
    placed (from + 1) (map view xs) ≡ run tags from fs → says said n ≡ is_counted tags from fs
counts tags from n view xs fs said is count members =
    let begun : n ≡ count_by (λ m. eqb m.0 tags.first) (run tags from fs) =
    count ∙ sym (count_is tags.first (from + 1) view xs)
    ∙ ap (λ (ms : List Member). count_by (λ m. eqb m.0 tags.first) ms) members in
    λ i. says (is i) (begun i)

pub uncounted : (tags : Tags) (from : ℕ) (fs : List Field)
    → is_counted tags from fs ≡ false → group_fault tags from fs ≡ Some (Count tags.count)
uncounted tags from fs is = ap (λ (b : Bool). cond
    b (first_misplaced tags [] (members_of tags (run tags from fs))) (Some (Count tags.count))) is

pub counted : (tags : Tags) (from : ℕ) (fs : List Field) (ms : List Member)
    → is_counted tags from fs ≡ true → ms ≡ run tags from fs →
    first_misplaced tags [] (members_of tags ms) ≡ group_fault tags from fs
counted tags from fs ms is members =
    ap (λ (ns : List Member). first_misplaced tags [] (members_of tags ns)) members
    ∙ sym (ap (λ (b : Bool). cond b (first_misplaced tags [] (members_of tags (run tags from fs)))
    (Some (Count tags.count))) is)

pub lines_are : (tags : Tags) (from n : ℕ) (fs : List Field) (ms : List Member) (group : Lines)
    → ms ≡ run tags from fs → n ≡ length ms →
    group.lines ≡ lines_of tags.first (members_of tags ms)
    → group.end ≡ from + 1 + n → group ≡ group_lines tags from fs
lines_are tags from n fs ms group members len lines end =
    let there : group.lines ≡ lines_of tags.first (members_of tags (run tags from fs)) =
    lines ∙ ap (λ (ns : List Member). lines_of tags.first (members_of tags ns)) members in
    let last : group.end ≡ from + 1 + length (run tags from fs) =
    end ∙ ap (λ (k : ℕ). from + 1 + k) (len ∙ ap (λ (ns : List Member). length ns) members) in
    λ i. record { lines = there i; end = last i }

pub if_both : {T E : Type 0} (r : Result T E) {P Q R : T → Type 0}
    → ((x : T) → P x → Q x → R x) → IfOk r P → IfOk r Q → IfOk r R
if_both (Ok x) both p q = both x p q
if_both (Err e) both p q = tt
