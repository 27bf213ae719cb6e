-- The birth record of a journal of format 1, as format 2 has it.
use Rattle.std.proofs.Common.{◌≡◌, ℕ, List, [], ◌∷◌, ◌++◌, drop, Bool, is_some, Some, None}
use Rattle.std.proofs.Common.{MatchOption, sym, ◌∙◌, ap, subst, append-nil}
use Rattle.std.specs.declared.option.Option.{Option}
use Rattle.order_meaning.specs.declared.names.Names.{Names}
use Rattle.gate_log.specs.Records.{blocks}
use Rattle.pair_entries.specs.Birth.{mark, birth_bytes, AreNames}
use Rattle.journal_migrate.specs.Format1.{mark1}
use Rattle.journal_migrate.specs.Walk.{TellsBirth}
use Rattle.journal_migrate.proofs.Spelt.{remarked}

module _ (payload rest made read : List ℕ) (marked : payload ≡ mark1 ++ rest)
    (is : made ≡ blocks ((mark ++ rest) ∷ [])) (behind : read ≡ drop 5 made) where
  read_is : read ≡ mark ++ rest
  read_is = behind ∙ ap (drop 5) is ∙ append-nil (mark ++ rest)

  pub birth_told : (tells : Bool) (found : Option Names) → tells ≡ is_some found
      → MatchOption found ((names : Names) → AreNames names → read ≡ birth_bytes names → ⊥)
      (λ names. (read ≡ birth_bytes names) × AreNames names) → TellsBirth tells payload made
  birth_told tells None same none = subst (λ b. TellsBirth b payload made) (sym same)
      (λ names are written. none names are (read_is
      ∙ ap (λ (b : List ℕ). mark ++ drop 11 b) (sym marked ∙ written) ∙ sym (remarked names)))
  birth_told tells (Some names) same one =
      let whole : mark ++ rest ≡ birth_bytes names = sym read_is ∙ one.0 in
      subst (λ b. TellsBirth b payload made) (sym same) (record {
        names = names;
        named = one.1;
        written = marked ∙ ap (λ (b : List ℕ). mark1 ++ drop 11 b) whole;
        record_is = is ∙ ap (λ (b : List ℕ). blocks (b ∷ [])) whole;
      })
