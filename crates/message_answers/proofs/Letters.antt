-- Letters that are among some, and the letter of a message that was read.
use Rattle.std.proofs.Common.{◌≡◌, ℕ, Bool, true, ◌==◌, ◌||◌, List, [], ◌∷◌, ◌∙◌, refl, arith}
use Rattle.std.proofs.Common.{Option, Some, None, if◌then◌else◌}
use Rattle.std.specs.List.{list_all, list_any}
use Rattle.std.proofs.lemmas.Bool.Decides.{nat_tests}
use Rattle.message_tables.specs.Tables.{◌>>=◌, is_one_of}
use Rattle.order_meaning.specs.declared.Side.{Side}
use Rattle.kept_entries.specs.Given.{letters_to}
use Rattle.sound_laws.proofs.Each.{all_true, one_of}
use Rattle.message_answers.specs.Chains.{joining}

-- the number and the letter of a message, where an out translates it
abbrev pub source_by : Bool → ℕ → ℕ → Option (ℕ × ℕ)
source_by b number letter = if b then Some (number, letter) else None

-- the letter, where it joins
abbrev pub joining_by : Option (ℕ × ℕ) → Option ℕ
joining_by source = source >>= (λ s. if is_one_of joining s.1 then Some s.1 else None)

-- what holds of each of some letters holds of one among them
pub among : (test : ℕ → Bool) (letters : List ℕ) (letter : ℕ) → list_all test letters ≡ true
    → is_one_of letters letter ≡ true → test letter ≡ true
among test letters letter all =
    one_of (λ l. test l ≡ true) letters (all_true test letters all) letter

-- and of one that is translated to a side
pub letter_to : (side : Side) (test : ℕ → Bool) (letter : ℕ)
    → list_all test (letters_to side) ≡ true
    → list_any (λ l. letter == l) (letters_to side) ≡ true → test letter ≡ true
letter_to side test letter all is =
    among test (letters_to side) letter all (turned (letters_to side) ∙ is)
  where
    turned : (letters : List ℕ) → is_one_of letters letter ≡ list_any (λ l. letter == l) letters
    turned [] = refl
    turned (l ∷ ls) =
        let here : (l == letter) ≡ (letter == l) = grind (arith, nat_tests) in
        let rest = turned ls in
        λ i. here i || rest i
