-- What a refusal that was read says has its bounds.
use Rattle.std.proofs.Common.{◌≡◌, ℕ, ◌≤◌, Bool, true, false, List, [], ◌∷◌, length}
use Rattle.std.proofs.Common.{Option, Some, None, Ok, Err, refl, sym, ap, subst, arith}
use Rattle.std.proofs.Common.{if◌then◌else◌, nat_le, IfSome}
use Rattle.std.proofs.lemmas.Bool.{leb-true}
use Rattle.field_groups.specs.declared.fault.SplitFault.{SplitFault}
use Rattle.field_groups.specs.Field.{Field}
use Rattle.message_tables.specs.Tables.{Message, Tag, ◌>>=◌, said_at, text_of, value_at}
use Rattle.order_meaning.specs.declared.refusal.Refusal.{Refusal}
use Rattle.typed_fields.specs.declared.fault.FieldFault.TheVariants.{Range}
use Rattle.value_kinds.specs.ValueKind.{Id, spelling}
use Rattle.row_values.specs.Kinds.{Value, judge, verdict_of}
use Rattle.refusal_parts.specs.Once.{refusal_by}
use Rattle.refusal_parts.specs.Readable.{IsReadableRefusal, IsWhole}
use Rattle.refusal_parts.specs.Said.{business_reject_says}
use Rattle.reports_fix42.specs.Message as reports42
use Rattle.reports_fix50.specs.Message as reports50
use Rattle.reject_rules.specs.Laws.{IsBounded, IsWord, most_id}
use Rattle.message_answers.proofs.ReadShapes.{Business42, Business50, is_said}

abbrev IsShortId : Option (List ℕ) → Type 0
IsShortId id = IfSome id (λ id. length id ≤ most_id)

-- an id that is spelled has its bound
short_id : (fields : List Field) (value id : Option (List ℕ))
    → (value >>= (λ bytes. text_of (judge fields (Value Id) bytes))) ≡ id → IsShortId id
unfolding judge spelling
short_id fields None id is = subst IsShortId is tt
short_id fields (Some []) id is = subst IsShortId is tt
short_id fields (Some (b ∷ bs)) id is = by (nat_le (length (b ∷ bs)) 128) refl is
  where
    by : (t : Bool) → nat_le (length (b ∷ bs)) 128 ≡ t
        → text_of (verdict_of (if t then Ok (Some (b ∷ bs)) else Err Range)) ≡ id → IsShortId id
    by true e is = subst IsShortId is (leb-true (length (b ∷ bs)) 128 e)
    by false e is = subst IsShortId is tt

word : (number : Option ℕ) → IfSome number IsWhole → IsWord number
word None whole = tt
word (Some number) whole = omega (arith, whole)

bounded : (r : Refusal) → IsReadableRefusal r → IsShortId r.id → IsBounded r
bounded r readable id = record {
  tag = word r.tag readable.tag;
  reason = word r.reason readable.reason;
  id = id;
}

pub business_bounded42 : (fields : List Field) (fault : Option SplitFault) (r : Refusal)
    → refusal_by reports42.business_reject_table fields fault ≡ Ok (business_reject_says r)
    → IsReadableRefusal r → IsBounded r
business_bounded42 fields fault r is readable =
    bounded r readable (short_id fields (value_at 379 fields) r.id (sym
    (ap (λ (x : Message). said_at x.cells (Tag 379)) (is_said Business42 fields fault _ is))))

pub business_bounded50 : (fields : List Field) (fault : Option SplitFault) (r : Refusal)
    → refusal_by reports50.business_reject_table fields fault ≡ Ok (business_reject_says r)
    → IsReadableRefusal r → IsBounded r
business_bounded50 fields fault r is readable =
    bounded r readable (short_id fields (value_at 379 fields) r.id (sym
    (ap (λ (x : Message). said_at x.cells (Tag 379)) (is_said Business50 fields fault _ is))))

pub session_bounded : (r : Refusal) → IsReadableRefusal r → r.id ≡ None → IsBounded r
session_bounded r readable none = bounded r readable (subst IsShortId (sym none) tt)
