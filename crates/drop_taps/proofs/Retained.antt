-- What `retain` keeps, where the test is a call of a trait's method through a reference.
use Rattle.std.proofs.Common.{◌≡◌, Bool, List, Bor, filter, ap, ◌∙◌}
use Rattle.std.specs.Fn.{Called, CalledAt}
use Rattle.std.specs.List.Retain.{IsFiltered}
use Rattle.std.proofs.lemmas.Fn.{filter_same}
use denote.Param.Members.{Mut}

-- the elements at which the test gives true, where each call answers by what its reference shows
pub filter_shown : {X F : Type 0} (g : Mut F (Bor X × Unit {0}) Bool) (test : X → Bool) (f : F)
    → ((y : Bor X) (b : Bool) (f' : F) → Called g f (y, tt) b f' → (b ≡ test y.now) × (f' ≡ f))
    → (xs ys : List X) → IsFiltered (CalledAt g) f xs ys → ys ≡ filter test xs
filter_shown g test f says xs ys is = filter_same (CalledAt g) test f
    (λ x b f' k. let said = says k.shown b f' k.called in (said.0 ∙ ap test k.shows, said.1))
    xs ys is
