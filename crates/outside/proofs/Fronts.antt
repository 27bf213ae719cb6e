-- Fronts of what is put, one after another.
use Rattle.std.proofs.Common.{◌≡◌, ℕ, ◌+◌, List, ◌++◌, length, take, drop, sym, ◌∙◌, ap, subst}
use Rattle.std.proofs.Common.{append_assoc}
use Rattle.std.specs.declared.option.Option.{Option}
use Rattle.std.specs.Io.KnownBytes.{Appends}
use Rattle.std.proofs.KnownBytes.{Appends-trans}
use Rattle.std.proofs.lemmas.List.{take-append-drop}
use Rattle.std.proofs.Math.Seq.{take-append_seam, take-append-add}
use Rattle.outside.specs.Bytes.{AppendsFront}

-- what was appended before, and a front of what was put then
pub appended_front : (old now new : Option (List ℕ)) (said more : List ℕ)
    → Appends old now said → AppendsFront now new more → AppendsFront old new (said ++ more)
appended_front old now new said more before (n, after) = (
  length said + n,
  subst (λ (l : List ℕ). Appends old new l) (sym (take-append-add said more n))
      (Appends-trans old now new said (take n more) before after),
)

-- a front of a part is a front of what the part begins
pub front_on : (old new : Option (List ℕ)) (part rest whole : List ℕ)
    → whole ≡ part ++ rest → AppendsFront old new part → AppendsFront old new whole
front_on old new part rest whole is (n, put) = (
  length (take n part),
  subst (λ (bytes : List ℕ). Appends old new bytes) (sym (
      ap (λ (bytes : List ℕ). take (length (take n part)) bytes) (is
      ∙ ap (λ (bytes : List ℕ). bytes ++ rest) (sym (take-append-drop n part))
      ∙ append_assoc (take n part) (drop n part) rest)
      ∙ take-append_seam (take n part) (drop n part ++ rest)
      )) put,
)
