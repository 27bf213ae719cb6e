-- The count and the lines of three parties are their group.
use Rattle.std.proofs.Common.{◌≡◌, ◌+◌, ◌++◌, ℕ, List, Some, None, refl, sym, ap, ◌∙◌, append_assoc}
use Rattle.std.proofs.Common.{length}
use Rattle.std.specs.Prelude.{Err, Ok, OnOk, Result}
use Rattle.field_groups.specs.Field.{Field, body_of}
use Rattle.message_tables.specs.Content.{group_fields}
use Rattle.message_tables.specs.Tables.{Said}
use Rattle.party_translate.specs.Parties.{line_of}
use Rattle.row_values.specs.Writing.{count_fields}
use Rattle.row_values.proofs.Contents.{body-append}
use Rattle.request_rules.specs.CodeRules.{party_fields}
use Rattle.request_rules.specs.Rules.{party_lines}

abbrev many : Said → Said → Said → ℕ
many client broker firm =
    length (line_of 0 client) + length (line_of 0 broker) + length (line_of 0 firm)

group_is : (client broker firm : Said)
    → count_fields 453 (many client broker firm)
    ++ (party_fields 3 client ++ (party_fields 1 broker ++ party_fields 4 firm))
    ≡ group_fields 453 (party_lines client broker firm)
group_is None None None = refl
group_is None (Some broker) None = refl
group_is (Some client) None None = refl
group_is (Some client) (Some broker) None = refl
group_is client broker firm = refl

four : (a b c d : List Field) (old : List ℕ)
    → (((old ++ body_of a) ++ body_of b) ++ body_of c) ++ body_of d
    ≡ old ++ body_of (a ++ (b ++ (c ++ d)))
four a b c d old =
    append_assoc ((old ++ body_of a) ++ body_of b) (body_of c) (body_of d)
    ∙ append_assoc (old ++ body_of a) (body_of b) (body_of c ++ body_of d)
    ∙ append_assoc old (body_of a) (body_of b ++ (body_of c ++ body_of d))
    ∙ ap (λ bytes. old ++ bytes)
    (ap (λ bytes. body_of a ++ (body_of b ++ bytes)) (sym (body-append c d))
    ∙ ap (λ bytes. body_of a ++ bytes) (sym (body-append b (c ++ d)))
    ∙ sym (body-append a (b ++ (c ++ d))))

pub parties_put : {E : Type 0} (r : Result (Unit {0}) E) (client broker firm : Said) (count : ℕ)
    (old counted one two new : List ℕ) → count ≡ many client broker firm
    → counted ≡ old ++ body_of (count_fields 453 count)
    → one ≡ counted ++ body_of (party_fields 3 client)
    → two ≡ one ++ body_of (party_fields 1 broker)
    → OnOk r (new ≡ two ++ body_of (party_fields 4 firm))
    → OnOk r (new ≡ old ++ body_of (group_fields 453 (party_lines client broker firm)))
parties_put (Err error) client broker firm count old counted one two new is a b c d = tt
parties_put (Ok done) client broker firm count old counted one two new is a b c d =
    d ∙ ap (λ bytes. bytes ++ body_of (party_fields 4 firm))
    (c ∙ ap (λ bytes. bytes ++ body_of (party_fields 1 broker))
    (b ∙ ap (λ bytes. bytes ++ body_of (party_fields 3 client))
    (a ∙ ap (λ n. old ++ body_of (count_fields 453 n)) is)))
    ∙ four (count_fields 453 (many client broker firm)) (party_fields 3 client)
    (party_fields 1 broker) (party_fields 4 firm) old
    ∙ ap (λ fs. old ++ body_of fs) (group_is client broker firm)
