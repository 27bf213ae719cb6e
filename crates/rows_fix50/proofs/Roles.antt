-- The first party of a role, by the cells of the parties.
use Rattle.std.proofs.Common.{◌≡◌, ℕ, ◌<◌, ◌≤◌, ◌^◌, List, [], ◌∷◌, Some, None, Bool, true, false}
use Rattle.std.proofs.Common.{cond, eqb, map, refl, ap, ◌∙◌, arith}
use Rattle.std.specs.Prelude.{◌==◌}
use Rattle.std.specs.List.{AllByRecursion, AllZip, find}
use Rattle.std.specs.Option.{option_map}
use Rattle.std.specs.Str.{bytes_eq}
use Rattle.std.specs.Fmt.{decimal}
use Rattle.std.proofs.lemmas.Bool.Decides.{same_from_decides, Decides-like, Decides-eqb}
use Rattle.std.proofs.lemmas.Fmt.{decimal_injective}
use Rattle.std.proofs.lemmas.Slice.Eq.{bytes_eq-Decides}
use Rattle.field_groups.specs.Field.{Field}
use Rattle.message_tables.specs.Tables.{first_of, or_else, lines_in, tags_in, group_says, party_in}
use Rattle.order_meaning.specs.declared.party.PartyLine.{PartyLine}
use Rattle.row_values.specs.Kinds.{judge}
use Rattle.row_values.specs.Lines.{IsParty, party_cells}
use Rattle.row_values.specs.Groups.{parties, AreParties}
use Rattle.rows_fix50.specs.Meaning.{id_of}

abbrev pub AreSmall : List PartyLine → Type 0
AreSmall ps = AllByRecursion (λ p. p.role < 2 ^ 64) ps

pub small : (lines : List (List Field)) (ps : List PartyLine) → AllZip IsParty lines ps
    → AreSmall ps
small [] [] w = tt
small [] (p ∷ ps) w = absurd w
small (line ∷ lines) [] w = absurd w
small (line ∷ lines) (p ∷ ps) w = (below p.role w.0.bound, small lines ps w.1)
  where
    below : (role : ℕ) → role ≤ 1_000_000_000 → role < 2 ^ 64
    below role le = omega (arith, le)

pub same_role : (a b : ℕ) → a < 2 ^ 64 → b < 2 ^ 64 → bytes_eq (decimal a) (decimal b) ≡ (a == b)
same_role a b small_a small_b =
    same_from_decides {P = a ≡ b} (bytes_eq (decimal a) (decimal b)) (a == b)
    (Decides-like (bytes_eq (decimal a) (decimal b)) (decimal_injective a b small_a small_b)
    (ap decimal) (bytes_eq-Decides (decimal a) (decimal b)))
    (Decides-eqb a b)

-- the id of the first party of a role, by the cells of the parties
ids : (role : ℕ) → role < 2 ^ 64 → (ps : List PartyLine) → AreSmall ps
    → id_of role ps ≡ party_in role (map party_cells ps)
unfolding first_of
ids role r [] s = refl
ids role r (p ∷ ps) s =
    rw (same_role p.role role s.0 r) (here (eqb p.role role) (ids role r ps s.1))
  where
    here : (b : Bool) → id_of role ps ≡ party_in role (map party_cells ps)
        → option_map (λ line. line.id) (cond b (Some p) (find (λ line. line.role == role) ps))
        ≡ or_else (cond b (Some p.id) None) (party_in role (map party_cells ps))
    here true e = refl
    here false e = e

-- where the parties say these cells, so do their ids
pub of_role : (fields : List Field) (ps : List PartyLine) → AreParties fields ps
    → map party_cells ps ≡ (group_says judge fields parties).1 → (role : ℕ) → role < 2 ^ 64
    → id_of role ps ≡ party_in role (group_says judge fields parties).1
of_role fields ps w same role r =
    ids role r ps (small (lines_in (tags_in parties) fields) ps w) ∙ ap (party_in role) same
