-- The sides, and the outs that go to each.
use Rattle.std.proofs.Common.{◌≡◌, ◌∙◌, Bool, true, false, List, [], ◌∷◌, refl, ap, inl, inr}
use Rattle.std.specs.Prelude.{cond}
use Rattle.order_meaning.specs.declared.Side.{Side}
use Rattle.order_meaning.specs.declared.Side.TheVariants.{Client, Venue}
use Rattle.pair_entries.specs.declared.entry.Out.{Out}
use Rattle.kept_entries.specs.Numbers.{is_side, outs_to}
use Rattle.message_answers.specs.Answer.{other}
use Rattle.book_laws.specs.Keeps.{In}

pub own_side : (side : Side) → is_side side side ≡ true
own_side Client = refl
own_side Venue = refl

pub far_side : (side : Side) → is_side (other side) side ≡ false
far_side Client = refl
far_side Venue = refl

pub apart_side : (side : Side) → is_side side (other side) ≡ false
apart_side Client = refl
apart_side Venue = refl

pub twice : (side : Side) → other (other side) ≡ side
twice Client = refl
twice Venue = refl

side_is : (side at : Side) → is_side side at ≡ true → at ≡ side
side_is Client Client is = refl
side_is Venue Venue is = refl
side_is side at is = absurd (cc is)

pub in_outs : (side : Side) (outs : List Out) (out : Out) → In out (outs_to side outs)
    → In out outs × (out.side ≡ side)
in_outs side [] out i = absurd i
in_outs side (x ∷ outs) out i = by (is_side side x.side) refl i (λ j. in_outs side outs out j)
  where
    by : (b : Bool) → is_side side x.side ≡ b
        → In out (cond b (x ∷ outs_to side outs) (outs_to side outs))
        → (In out (outs_to side outs) → In out outs × (out.side ≡ side))
        → In out (x ∷ outs) × (out.side ≡ side)
    by true is (inl same) later =
        (inl same, ap (λ (o : Out). o.side) same ∙ side_is side x.side is)
    by true is (inr j) later = let l = later j in (inr l.0, l.1)
    by false is j later = let l = later j in (inr l.0, l.1)
