-- What a message that rules made says at a place is what the rule of the place says, whatever the
-- kinds of the rules are.
use Rattle.std.proofs.Common.{◌≡◌, ℕ, List, [], ◌∷◌, ◌++◌, map, Bool, true, false, Option, Some}
use Rattle.std.proofs.Common.{None, refl, sym, ap, ◌∙◌}
use Rattle.std.proofs.lemmas.Bool.{eqb-true}
use Rattle.std.specs.Prelude.{not, ◌&&◌, ◌==◌, is_some, if◌then◌else◌}
use Rattle.std.specs.List.{AllByRecursion, flat_map, list_any}
use Rattle.message_tables.specs.Tables.{Place, Said, Cell, Message, is_place, lines_of, said_at}
use Rattle.sound_laws.proofs.Each.{both, each_same, each_two, either, none_each, none_there}
use Rattle.sound_laws.proofs.Each.{not_true}
use Rattle.sound_laws.proofs.Lookups.{place_is}
use Rattle.rule_rows.specs.ByRules.{Target, At, Grouped, Kinds, by_rules, cells_at, groups_at}
use Rattle.rule_rows.specs.ByRules.{has_any, has_place, lack_by, lack_if, outline, rule_cells}
use Rattle.rule_rows.specs.ByRules.{rule_groups}

-- ---- what the source does not have says nothing

pub none_at : (cells : List Cell) (place : Place)
    → list_any (λ one. is_place one place) (map (λ cell. cell.0) cells) ≡ false
    → said_at cells place ≡ None
none_at [] place h = refl
none_at (cell ∷ cells) place h =
    let p = either (is_place cell.0 place)
    (list_any (λ one. is_place one place) (map (λ cell. cell.0) cells)) h in
    rw p.0 (none_at cells place p.1)

pub no_lines : (groups : List (ℕ × List (List Cell))) (count : ℕ)
    → list_any (λ one. one == count) (map (λ group. group.0) groups) ≡ false
    → lines_of count groups ≡ []
no_lines [] count h = refl
no_lines (group ∷ groups) count h =
    let p = either (group.0 == count)
    (list_any (λ one. one == count) (map (λ group. group.0) groups)) h in
    rw p.0 (no_lines groups count p.1)

-- of these places none says a thing, where the message has none of them
pub absent : (m : Message) (places : List Place) → has_any (outline m) places ≡ false
    → AllByRecursion (λ place. said_at m.cells place ≡ None) places
absent m [] h = tt
absent m (place ∷ places) h =
    let p = either (has_place (outline m) place) (has_any (outline m) places) h in
    (none_at m.cells place p.0, absent m places p.1)

-- ---- targets

abbrev pub is_target : Target → Target → Bool
is_target (At a) (At b) = is_place a b
is_target (Grouped a) (Grouped b) = a == b
is_target a b = false

same_target : (a b : Target) → is_target a b ≡ true → a ≡ b
same_target (At a) (At b) h = ap (λ (place : Place). At place) (place_is a b h)
same_target (Grouped a) (Grouped b) h = ap (λ (count : ℕ). Grouped count) (eqb-true a b h)
same_target other more h = absurd cc

-- ---- rules

module _ {Rule : Type 0} (kinds : Kinds Rule) where
  -- KINDS OF RULES that say nothing where the source has nothing
  pub record AreKinds : Type 0 where
    pub none : (m : Message) (rule : Rule) → kinds.has (outline m) rule ≡ false
        → kinds.said m rule ≡ None
    pub no_lines : (m : Message) (rule : Rule) → kinds.has (outline m) rule ≡ false
        → kinds.lines m rule ≡ []

  -- the rule of a target
  abbrev pub rule_at : Target → List Rule → Option Rule
  rule_at target [] = None
  rule_at target (rule ∷ rules) =
      if is_target (kinds.target rule) target then Some rule else rule_at target rules

  -- rules that have a target each
  abbrev pub are_apart : List Rule → Bool
  are_apart [] = true
  are_apart (rule ∷ rules) = not (is_some (rule_at (kinds.target rule) rules)) && are_apart rules

  -- a rule behind one of the same target
  no_second : (rule : Rule) (rules : List Rule) (target : Target)
      → not (is_some (rule_at (kinds.target rule) rules)) ≡ true
      → is_target (kinds.target rule) target ≡ true → rule_at target rules ≡ None
  no_second rule rules target none here =
      ap (λ (t : Target). rule_at t rules) (sym (same_target (kinds.target rule) target here))
      ∙ none_there (rule_at (kinds.target rule) rules) (not_true _ none)

  module _ (m : Message) where
    abbrev pub said_by : Option Rule → Said
    said_by None = None
    said_by (Some rule) = kinds.said m rule

    abbrev pub lines_by : Option Rule → List (List Cell)
    lines_by None = []
    lines_by (Some rule) = kinds.lines m rule

  -- WHAT IS LOOKED UP at a target, among what rules make, is what the rule of the target says: of
  -- what a rule makes and more, it is that where the rule has the target, and else that of the more
  module _ {X R : Type 0} (look : List X → R) (entries : Rule → List X) (has : Rule → Bool)
      (of : Rule → R) (target : Target) where
    abbrev of_found : Option Rule → R
    of_found None = look []
    of_found (Some rule) = of rule

    there : ((rule : Rule) (more : List X) → look (entries rule ++ more)
        ≡ (if has rule && is_target (kinds.target rule) target then of rule else look more))
        → ((rule : Rule) → has rule ≡ false → of rule ≡ look [])
        → (rules : List Rule) → are_apart rules ≡ true
        → look (flat_map entries rules) ≡ of_found (rule_at target rules)
    there step none [] apart = refl
    there step none (rule ∷ rules) apart =
        let p = both (not (is_some (rule_at (kinds.target rule) rules))) (are_apart rules) apart in
        step rule (flat_map entries rules)
        ∙ by (has rule) (is_target (kinds.target rule) target) refl refl
        (there step none rules p.1) (λ here. no_second rule rules target p.0 here)
      where
        by : (there here : Bool) → has rule ≡ there → is_target (kinds.target rule) target ≡ here
            → look (flat_map entries rules) ≡ of_found (rule_at target rules)
            → (is_target (kinds.target rule) target ≡ true → rule_at target rules ≡ None)
            → (if there && here then of rule else look (flat_map entries rules))
            ≡ of_found (if here then Some rule else rule_at target rules)
        by true true e f rest second = refl
        by false true e f rest second = rest ∙ ap of_found (second f) ∙ sym (none rule e)
        by true false e f rest second = rest
        by false false e f rest second = rest

  module _ (are : AreKinds) (m : Message) where
    -- WHAT IS SAID at a place
    said_there : (rules : List Rule) → are_apart rules ≡ true → (place : Place)
        → said_at (flat_map (rule_cells kinds m) rules) place ≡ said_by m (rule_at (At place) rules)
    said_there rules apart place =
        there (λ cells. said_at cells place) (rule_cells kinds m) (kinds.has (outline m))
        (kinds.said m) (At place)
        (λ rule more. by (kinds.has (outline m) rule) (kinds.target rule) (kinds.said m rule) more)
        (are.none m) rules apart
      where
        by : (has : Bool) (target : Target) (said : Said) (more : List Cell)
            → said_at (cells_at has target said ++ more) place
            ≡ (if has && is_target target (At place) then said else said_at more place)
        by true (At own) said more = refl
        by has target said more = refl

    -- THE LINES of a group
    lines_there : (rules : List Rule) → are_apart rules ≡ true → (count : ℕ)
        → lines_of count (flat_map (rule_groups kinds m) rules)
        ≡ lines_by m (rule_at (Grouped count) rules)
    lines_there rules apart count =
        there (lines_of count) (rule_groups kinds m) (kinds.has (outline m)) (kinds.lines m)
        (Grouped count)
        (λ rule more. by (kinds.has (outline m) rule) (kinds.target rule) (kinds.lines m rule) more)
        (are.no_lines m) rules apart
      where
        by : (has : Bool) (target : Target) (lines : List (List Cell))
            (more : List (ℕ × List (List Cell)))
            → lines_of count (groups_at has target lines ++ more)
            ≡ (if has && is_target target (Grouped count) then lines else lines_of count more)
        by true (Grouped own) lines more = refl
        by has target lines more = refl

  -- ---- a list of rules

  -- RULES THAT HAVE A TARGET EACH
  pub record AreOwn (all : List Rule) : Type 0 where
    pub apart : are_apart all ≡ true
    pub found : map (λ rule. rule_at (kinds.target rule) all) all ≡ map (λ rule. Some rule) all

  module _ (are : AreKinds) (all : List Rule) (own : AreOwn all) (m : Message) where
    pub says : (place : Place)
        → said_at (by_rules kinds all m).cells place ≡ said_by m (rule_at (At place) all)
    says place = said_there are m all own.apart place

    pub has_lines_of : (count : ℕ)
        → lines_of count (by_rules kinds all m).groups ≡ lines_by m (rule_at (Grouped count) all)
    has_lines_of count = lines_there are m all own.apart count

  -- a rule that is found at its target
  abbrev pub IsFound : List Rule → Rule → Type 0
  IsFound all rule = rule_at (kinds.target rule) all ≡ Some rule

  pub all_found : (all : List Rule) → AreOwn all → AllByRecursion (IsFound all) all
  all_found all own =
      each_same (λ rule. rule_at (kinds.target rule) all) (λ rule. Some rule) all own.found

  -- what holds of each rule that fits and lacks nothing holds of all
  pub each_rule : (P Fits : Rule → Type 0) (all : List Rule) (m : Message)
      → ((rule : Rule) → IsFound all rule → Fits rule → kinds.lack m rule ≡ None → P rule)
      → AreOwn all → AllByRecursion Fits all → lack_by kinds all m ≡ None → AllByRecursion P all
  each_rule P Fits all m each own fit lack =
      each_two (IsFound all) _ P (λ rule found h. each rule found h.0 h.1) all (all_found all own)
      (each_two Fits _ (λ rule. Fits rule × (kinds.lack m rule ≡ None)) (λ rule f l. (f, l)) all fit
      (none_each (kinds.lack m) all lack))

-- no lack of a tag, where it would be lacking if this held
pub no_lack : (lacks : Bool) (tag : ℕ) → lack_if lacks tag ≡ None → lacks ≡ false
no_lack true tag h = absurd cc
no_lack false tag h = refl
