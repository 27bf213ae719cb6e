-- What `split_once` at a space, or at `<`, gives, and the words behind some.
use Rattle.std.proofs.Common.{◌≡◌, sym, ap, ℕ, zero, suc, List, [], length, take, drop, Bor}
use Rattle.std.proofs.Common.{arith, ◌-◌, ◌<◌, ◌+◌, Some, None}
use Rattle.std.specs.declared.option.Option.{Option}
use Rattle.std.specs.Option.{MatchOption}
use Rattle.std.specs.List.{position_or_len}
use Rattle.std.specs.Prelude.{◌==◌}
use Rattle.std.proofs.lemmas.Str.Pattern.{split_once_first, IsSplitOnceResult}
use Rattle.std.proofs.lemmas.List.{take_all, drop_all}
use Rattle.row_words.specs.Words.{first_of, rest_of, behind}
use Rattle.row_words.specs.Texts.{IsPlain}

-- all stands before a space that is nowhere, and nothing behind it
all_first : (text : List ℕ) → position_or_len (λ byte. byte == 32) text ≡ length text
    → text ≡ first_of text
all_first text nowhere = sym (take_all _ text (omega (arith, nowhere)))

no_rest : (text : List ℕ) → position_or_len (λ byte. byte == 32) text ≡ length text
    → [] ≡ rest_of text
no_rest text nowhere = sym (drop_all _ text (omega (arith, nowhere)))

pub split_at : (text : List ℕ) (parts : Option (Bor (List ℕ) × Bor (List ℕ)))
    → IsSplitOnceResult 32 text parts
    → MatchOption parts ((text ≡ first_of text) × ([] ≡ rest_of text))
    (λ x. (x.0.now ≡ first_of text) × (x.1.now ≡ rest_of text))
split_at text None is =
    let nowhere = split_once_first 32 text None is (omega arith) in
    (all_first text nowhere, no_rest text nowhere)
split_at text (Some x) is =
    let there = split_once_first 32 text (Some x) is (omega arith) in
    (there.1, there.2)

-- a text that is cut at `<` is not plain
pub cut : (text : List ℕ) (parts : Option (Bor (List ℕ) × Bor (List ℕ)))
    → IsSplitOnceResult 60 text parts
    → MatchOption parts (IsPlain text)
    (λ x. position_or_len (λ byte. byte == 60) text < length text)
cut text None is = split_once_first 60 text None is (omega arith)
cut text (Some x) is = (split_once_first 60 text (Some x) is (omega arith)).0

-- the words behind some, one by one
pub one_behind : (words : ℕ) (text : List ℕ) → 0 < words
    → behind words text ≡ behind (words - 1) (rest_of text)
one_behind zero text some = absurd (omega (arith, some))
one_behind (suc words) text some =
    let less : words ≡ suc words - 1 = omega arith in
    ap (λ n. behind n (rest_of text)) less
