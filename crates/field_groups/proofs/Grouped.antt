-- A group with no fault is in lines.
use Rattle.std.proofs.Common.{◌≡◌, ℕ, suc, ◌+◌, ◌<◌, ◌≤◌, ◌==◌, ◌||◌, nat_le, Bool, true, false}
use Rattle.std.proofs.Common.{cond, List, [], ◌∷◌, ◌++◌, length, count_by, Option, Some, None}
use Rattle.std.proofs.Common.{refl, sym, ap, subst, ◌∙◌, arith, append_assoc, append-nil}
use Rattle.std.proofs.Common.{length-append}
use Rattle.std.specs.Option.{option_or}
use Rattle.std.specs.List.{flat_map, last_or, AllByRecursion}
use Rattle.std.proofs.lemmas.Bool.{true≢false, false≢true, eqb-true}
use Rattle.std.proofs.lemmas.Bool.Decides.{nat_tests}
use Rattle.std.proofs.lemmas.List.Sums.{sum_by-cons}
use Rattle.field_groups.specs.declared.group.GroupFault.{GroupFault}
use Rattle.field_groups.specs.declared.group.GroupFault.TheVariants.{Count, Order, TooMany}
use Rattle.field_groups.specs.declared.group.TheConstants.{MAX_LINES}
use Rattle.field_groups.specs.Group.{Tags, Member, begins, before_lines, lines_of}
use Rattle.field_groups.specs.Group.{has_member, is_astray, misplaced, first_misplaced, members_of}
use Rattle.field_groups.specs.Group.{run, is_counted}
use Rattle.field_groups.specs.Laws.{IsOnce, IsLine, GroupsAreLines}
use Rattle.field_groups.proofs.Lines.{on_last, new_line, same_line}

-- ---- members and lines joined

joined_before : (first : ℕ) (m : Member) (lines : List (List Member))
    → flat_map (λ line. line) (before_lines first m lines) ≡ m ∷ flat_map (λ line. line) lines
joined_before first m [] = refl
joined_before first m (line ∷ lines) = by_test (begins first line)
  where
    by_test : (b : Bool) → flat_map (λ l. l) (cond b ((m ∷ []) ∷ line ∷ lines) ((m ∷ line) ∷ lines))
        ≡ m ∷ flat_map (λ l. l) (line ∷ lines)
    by_test true = refl
    by_test false = refl

joined_are : (first : ℕ) (ms : List Member) → flat_map (λ line. line) (lines_of first ms) ≡ ms
unfolding lines_of
joined_are first [] = refl
joined_are first (m ∷ ms) =
    joined_before first m (lines_of first ms) ∙ ap (λ rest. m ∷ rest) (joined_are first ms)

-- ---- one more member of a line

swapped : (a b : ℕ) → (a == b) ≡ false → (b == a) ≡ false
swapped a b h = grind (arith, nat_tests)

no_more : (tag : ℕ) (line : List Member) (m : Member)
    → has_member tag line ≡ false → (m.0 == tag) ≡ false → has_member tag (line ++ m ∷ []) ≡ false
no_more tag [] m none other = rw other refl
no_more tag (a ∷ line) m none other = by_test (a.0 == tag) none (no_more tag line m)
  where
    by_test : (b : Bool)
        → (b || has_member tag line) ≡ false → (has_member tag line ≡ false → (m.0 == tag) ≡ false
        → has_member tag (line ++ m ∷ []) ≡ false) → (b || has_member tag (line ++ m ∷ [])) ≡ false
    by_test true given later = absurd (false≢true (sym given))
    by_test false given later = later given other

once_more : (line : List Member) (m : Member)
    → IsOnce line → has_member m.0 line ≡ false → IsOnce (line ++ m ∷ [])
once_more [] m once none = (refl, tt)
once_more (a ∷ line) m once none = by_test (a.0 == m.0) refl none (once_more line m once.1)
  where
    by_test : (b : Bool) → (a.0 == m.0) ≡ b → (b || has_member m.0 line) ≡ false
        → (has_member m.0 line ≡ false → IsOnce (line ++ m ∷ [])) → IsOnce ((a ∷ line) ++ m ∷ [])
    by_test true same given later = absurd (false≢true (sym given))
    by_test false other given later =
        (no_more a.0 line m once.0 (swapped a.0 m.0 other), later given)

begun_more : (first : ℕ) (line : List Member) (m : Member)
    → begins first line ≡ true → begins first (line ++ m ∷ []) ≡ true
begun_more first [] m is = absurd (false≢true is)
begun_more first (a ∷ line) m is = is

line_more : (first : ℕ) (line : List Member) (m : Member)
    → IsLine first line → has_member m.0 line ≡ false → IsLine first (line ++ m ∷ [])
line_more first line m is none =
    record { begun = begun_more first line m is.begun; once = once_more line m is.once none }

each_more : (first : ℕ) (m : Member) (o : Option (List Member)) (lines : List (List Member))
    → AllByRecursion (IsLine first) lines
    → is_astray m.0 (last_or o lines) ≡ false → AllByRecursion (IsLine first) (on_last m lines)
each_more first m o [] each in_order = each
each_more first m o (line ∷ []) each in_order = (line_more first line m each.0 in_order, tt)
each_more first m o (line ∷ next ∷ lines) each in_order =
    (each.0, each_more first m (Some line) (next ∷ lines) each.1 in_order)

length_on_last : (m : Member) (lines : List (List Member)) → length (on_last m lines) ≡ length lines
length_on_last m [] = refl
length_on_last m (line ∷ []) = refl
length_on_last m (line ∷ next ∷ lines) = ap suc (length_on_last m (next ∷ lines))

each_new : (first : ℕ) (new : List Member) (lines : List (List Member)) → AllByRecursion
    (IsLine first) lines → IsLine first new → AllByRecursion (IsLine first) (lines ++ new ∷ [])
each_new first new [] each is = (is, tt)
each_new first new (line ∷ lines) each is = (each.0, each_new first new lines each.1 is)

count_more : (first : ℕ) (ms : List Member) (m : Member) → count_by
    (λ a. a.0 == first) (ms ++ m ∷ []) ≡ count_by (λ a. a.0 == first) ms + cond (m.0 == first) 1 0
count_more first [] m = refl
count_more first (a ∷ ms) m =
    let begun : Member → ℕ = λ x. cond (x.0 == first) 1 0 in
    sum_by-cons begun a (ms ++ m ∷ [])
    ∙ ap (λ n. begun a + n) (count_more first ms m) ∙ omega (arith, sum_by-cons begun a ms)

-- ---- members in order

record Good (tags : Tags) (ms : List Member) : Type 0 where
  each : AllByRecursion (IsLine tags.first) (lines_of tags.first ms)
  at_most : length (lines_of tags.first ms) ≤ MAX_LINES
  counted : count_by (λ m. m.0 == tags.first) ms ≡ length (lines_of tags.first ms)

none_good : (tags : Tags) → Good tags []
unfolding lines_of
none_good tags = record { each = tt; at_most = omega arith; counted = refl }

below : (n : ℕ) (fault : GroupFault)
    → cond (nat_le MAX_LINES n) (Some fault) None ≡ None → n < MAX_LINES
below n fault none = by_test (nat_le MAX_LINES n) refl none
  where
    by_test : (b : Bool) → nat_le MAX_LINES n ≡ b → cond b (Some fault) None ≡ None → n < MAX_LINES
    by_test true is given = absurd cc
    by_test false is given = grind (arith, nat_tests)

new_good : (tags : Tags) (ms : List Member) (m : Member) → Good tags ms → (m.0 == tags.first) ≡ true
    → length (lines_of tags.first ms) < MAX_LINES → Good tags (ms ++ m ∷ [])
new_good tags ms m good is few =
    let same : m.0 ≡ tags.first = eqb-true m.0 tags.first is in
    let lines = new_line tags.first ms m same in
    record {
      each = rw lines (each_new tags.first
          (m ∷ []) (lines_of tags.first ms) good.each (record { begun = is; once = (refl, tt) }));
      at_most =
          rw lines (omega (arith, length-append (lines_of tags.first ms) ((m ∷ []) ∷ []), few));
      counted = rw lines (count_more tags.first ms m ∙ rw is
          (omega (arith, good.counted, length-append (lines_of tags.first ms) ((m ∷ []) ∷ []))));
    }

more_good : (tags : Tags) (ms : List Member) (m : Member)
    → Good tags ms → (m.0 == tags.first) ≡ false
    → is_astray m.0 (last_or None (lines_of tags.first ms)) ≡ false → Good tags (ms ++ m ∷ [])
unfolding lines_of
more_good tags [] m good other in_order = absurd (true≢false in_order)
more_good tags (a ∷ ms) m good other in_order =
    let lines = same_line tags.first a ms m other in
    record {
      each =
          rw lines (each_more tags.first m None (lines_of tags.first (a ∷ ms)) good.each in_order);
      at_most =
          rw lines (omega (arith, length_on_last m (lines_of tags.first (a ∷ ms)), good.at_most));
      counted = rw lines (count_more tags.first (a ∷ ms) m ∙ rw other
          (omega (arith, good.counted, length_on_last m (lines_of tags.first (a ∷ ms)))));
    }

one_good : (tags : Tags) (ms : List Member) (m : Member)
    → Good tags ms → misplaced tags ms m ≡ None → Good tags (ms ++ m ∷ [])
one_good tags ms m good none = by_test (m.0 == tags.first) refl none
  where
    in_line : (b : Bool) → is_astray m.0 (last_or None (lines_of tags.first ms)) ≡ b
        → cond b (Some (Order m.0)) None ≡ None
        → is_astray m.0 (last_or None (lines_of tags.first ms)) ≡ false
    in_line true is given = absurd cc
    in_line false is given = is

    by_test : (b : Bool) → (m.0 == tags.first) ≡ b →
        cond b (cond (nat_le MAX_LINES (length (lines_of tags.first ms))) (Some TooMany) None)
        (cond (is_astray m.0 (last_or None (lines_of tags.first ms))) (Some (Order m.0)) None)
        ≡ None →
        Good tags (ms ++ m ∷ [])
    by_test true is given =
        new_good tags ms m good is (below (length (lines_of tags.first ms)) TooMany given)
    by_test false other given = more_good tags
        ms m good other (in_line (is_astray m.0 (last_or None (lines_of tags.first ms))) refl given)

neither : (a b : Option GroupFault) → option_or a b ≡ None → (a ≡ None) × (b ≡ None)
neither None b none = (refl, none)
neither (Some fault) b none = absurd cc

all_good : (tags : Tags) (before ms : List Member)
    → Good tags before → first_misplaced tags before ms ≡ None → Good tags (before ++ ms)
unfolding first_misplaced
all_good tags before [] good none =
    subst (λ (ns : List Member). Good tags ns) (sym (append-nil before)) good
all_good tags before (m ∷ ms) good none =
    let both =
    neither (misplaced tags before m) (first_misplaced tags (before ++ m ∷ []) ms) none in
    subst (λ (ns : List Member). Good tags ns) (append_assoc before (m ∷ []) ms)
    (all_good tags (before ++ m ∷ []) ms (one_good tags before m good both.0) both.1)

counted_first : (tags : Tags) (members : List Member) (b : Bool)
    → cond b (first_misplaced tags [] members) (Some (Count tags.count)) ≡ None
    → (b ≡ true) × (first_misplaced tags [] members ≡ None)
counted_first tags members true none = (refl, none)
counted_first tags members false none = absurd cc

pub groups_are : GroupsAreLines
groups_are tags from fields none =
    let members = members_of tags (run tags from fields) in
    let both = counted_first tags members (is_counted tags from fields) none in
    let good = all_good tags [] members (none_good tags) both.1 in (
      record {
        joined = joined_are tags.first members;
        each = good.each;
        at_most = good.at_most;
        counted = good.counted;
      },
      both.0,
    )
