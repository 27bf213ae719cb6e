-- What is given out is heard as it was said: its content says nothing that its header says.
use Rattle.std.proofs.Common.{◌≡◌, ℕ, ◌+◌, ◌-◌, ◌==◌, suc, Bool, false, List, [], ◌∷◌, ◌++◌, Some}
use Rattle.std.proofs.Common.{None, refl, sym, ap, subst, ◌∙◌, map, arith, inl, inr, if◌then◌else◌}
use Rattle.std.specs.Prelude.{slice_get}
use Rattle.std.specs.Result.{result_ok}
use Rattle.std.specs.Option.{option_map}
use Rattle.field_groups.specs.Field.{Field}
use Rattle.order_meaning.specs.declared.Side.{Side}
use Rattle.order_meaning.specs.declared.names.Names.{Names}
use Rattle.pair_entries.specs.declared.entry.Out.{Out}
use Rattle.pair_entries.specs.declared.entry.Entry.{Entry}
use Rattle.kept_entries.specs.Numbers.{outs_to}
use Rattle.event_decisions.specs.Body.{fields_of}
use Rattle.life_laws.specs.Forms.{Placed, placed_at, placed, all_placed}
use Rattle.life_laws.specs.Receiver.{IsSent, AreSent, message_of_out}
use Rattle.book_laws.specs.Heard.{Heard, heard_by, heard_out, message_to, with_resend}
use Rattle.book_laws.proofs.EntryFollows.{content_kept}
use Rattle.book_laws.proofs.Places.{in-front}
use Rattle.book_laws.proofs.Sides.{in_outs}
use Rattle.book_laws.specs.Pairs.{given, heard_at}
use Rattle.book_laws.specs.Keeps.{In}

-- ---- one out

-- an out is heard alike by its content and as its receiver sees it
pub heard_kept : (names : Names) (side : Side) (out : Out) → IsSent names side out
    → out.side ≡ side → heard_at side (message_of_out out) ≡ heard_out out
heard_kept names side out sent same =
    ap (λ (fields : List Field). heard_by out.number out.resend out.msg_type fields
    (option_map (with_resend out.resend) (result_ok (message_to side out.msg_type fields))))
    (content_kept out.content sent.fields sent.content sent.sendable.good sent.sendable.few
    sent.no_header)
    ∙ ap (λ (s : Side). heard_by out.number out.resend out.msg_type (fields_of out.content)
    (option_map (with_resend out.resend)
    (result_ok (message_to s out.msg_type (fields_of out.content))))) (sym same)

-- ---- each out of a journal

-- each element stands at a place
in-place : {X : Type 0} (x : X) (xs : List X) → In x xs → (k : ℕ) × (slice_get xs k ≡ Some x)
in-place x [] i = absurd i
in-place x (y ∷ ys) (inl same) = (0, ap Some (sym same))
in-place x (y ∷ ys) (inr i) = let at = in-place x ys i in (suc at.0, at.1)

in-right : {X : Type 0} (x : X) (xs ys : List X) → In x ys → In x (xs ++ ys)
in-right x [] ys i = i
in-right x (y ∷ xs) ys i = inr (in-right x xs ys i)

in-map : {X Y : Type 0} (f : X → Y) (x : X) (xs : List X) → In x xs → In (f x) (map f xs)
in-map f x [] i = absurd i
in-map f x (y ∷ xs) (inl same) = inl (ap f same)
in-map f x (y ∷ xs) (inr i) = inr (in-map f x xs i)

module _ (side : Side) where
  in-placed : (e : Entry) (entries : List Entry) → In e entries → (out : Out)
      → In out (outs_to side e.outs) → In (placed_at e.at out) (all_placed side entries)
  in-placed e [] i out o = absurd i
  in-placed e (x ∷ entries) (inl same) out o =
      in-front (placed_at e.at out) (map (placed_at x.at) (outs_to side x.outs))
      (all_placed side entries)
      (subst (λ (y : Entry). In (placed_at e.at out) (map (placed_at y.at) (outs_to side y.outs)))
      same (in-map (placed_at e.at) out (outs_to side e.outs) o))
  in-placed e (x ∷ entries) (inr i) out o =
      in-right (placed_at e.at out) (map (placed_at x.at) (outs_to side x.outs))
      (all_placed side entries) (in-placed e entries i out o)

  placed_is : (entries : List Entry) (k : ℕ) (p : Placed)
      → slice_get (all_placed side entries) k ≡ Some p → placed side (k + 1) entries ≡ Some p
  placed_is entries k p at =
      ap (λ (n : ℕ). if k + 1 == 0 then None else slice_get (all_placed side entries) n)
      (let same : k + 1 - 1 ≡ k = omega arith in same)
      ∙ ap (λ (b : Bool). if b then None else slice_get (all_placed side entries) k)
      (let none : (k + 1 == 0) ≡ false = grind arith in none) ∙ at

  pub placed_sent : (names : Names) (entries : List Entry) → AreSent names side entries
      → (p : Placed) → In p (all_placed side entries) → IsSent names side p.out
  placed_sent names entries sent p i =
      let at = in-place p (all_placed side entries) i in
      sent (at.0 + 1) p (placed_is entries at.0 p at.1)

  pub out_sent : (names : Names) (entries : List Entry) → AreSent names side entries
      → (e : Entry) → In e entries → (out : Out) → In out (outs_to side e.outs)
      → IsSent names side out
  out_sent names entries sent e i out o =
      placed_sent names entries sent (placed_at e.at out) (in-placed e entries i out o)

  map_same : (f g : Out → Heard) (outs : List Out) → ((out : Out) → In out outs → f out ≡ g out)
      → map f outs ≡ map g outs
  map_same f g [] same = refl
  map_same f g (x ∷ outs) same =
      λ i. same x (inl refl) i ∷ map_same f g outs (λ out o. same out (inr o)) i

  -- WHAT AN ENTRY GAVE TO A SIDE, by the contents
  pub given_is : (names : Names) (e : Entry)
      → ((out : Out) → In out (outs_to side e.outs) → IsSent names side out)
      → given side e ≡ map heard_out (outs_to side e.outs)
  given_is names e sent = map_same (λ out. heard_at side (message_of_out out)) heard_out
      (outs_to side e.outs)
      (λ out o. heard_kept names side out (sent out o) (in_outs side e.outs out o).1)
