use Rattle.std.proofs.Common.{◌≡◌, map, List, ℕ, Bor}
use Rattle.std.specs.List.{list_all}
use Rattle.std.specs.BTreeMap.{keys}
use Rattle.gateway_config.proofs.Tables.{is_among}
use Rattle.gateway_config.proofs.reading.has_only.Given as goal

-- what is left decides
abbrev pub invariant-loop-name : goal.invariant-loop-name
invariant-loop-name l =
    let known : List (List ℕ) = map {A = Bor (List ℕ)} (λ key. key.now) l.fn.known in
    list_all (is_among known) l.name-iterator ≡ list_all (is_among known) (keys l.fn.table)
