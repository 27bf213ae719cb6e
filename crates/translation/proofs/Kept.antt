-- A frame and its translation have in common what their fields have, however they are read.
use Rattle.std.proofs.Common.{◌≡◌, ℕ, List, [], None, refl, sym, subst}
use Rattle.frame_grammar.specs.declared.frame.Kind.{Kind}
use Rattle.frame_grammar.specs.Frame.{IsFrame}
use Rattle.frame_grammar.proofs.Begins.{no_other}
use Rattle.field_groups.specs.Field.{Field}
use Rattle.field_groups.specs.Fields.{SplitsInto}
use Rattle.field_groups.proofs.Determined.{determined}
use Rattle.translation.specs.Bodies.{Direction, Goes, IsOther, IsTranslation, others}

one_body : (kind : Kind) (text body other : List ℕ)
    → IsFrame kind body text → IsFrame kind other text → body ≡ other
one_body kind text body other is also = (no_other kind body text [] other text [] is also refl).0

module _ (d : Direction) (from : Kind) (Same : List Field → List Field → Type 0)
    (same : (body : List ℕ) (fields : List Field) (g : Goes d body fields)
    → Same fields (others d fields g.read.message g.other)) where
  -- two bodies, whatever fields they are split into
  abbrev KeepSame : List ℕ → List ℕ → Type 0
  KeepSame body other = (fields read : List Field) → SplitsInto body fields None
      → SplitsInto other read None → Same fields read

  bodies_keep : (body other : List ℕ) → IsOther d body other → KeepSame body other
  bodies_keep body other is fields read split again =
      let g = is.stands in
      let here = (determined body fields is.fields None None split g.read.split).0 in
      let there =
      (determined other read (others d is.fields g.read.message g.other) None None again is.again).0
      in
      let P : List Field → Type 0 = λ fs. Same fs read in
      let Q : List Field → Type 0 = λ fs. Same is.fields fs in
      subst P (sym here) (subst Q (sym there) (same body is.fields g))

  -- and two frames, whatever bodies they are read as
  pub frames_keep : (body input text : List ℕ) → IsFrame from body input
      → IsTranslation d body text → (other sent : List ℕ) → IsFrame from other input
      → IsFrame d.kind sent text → KeepSame other sent
  frames_keep body input text framed is other sent read again =
      let P : List ℕ → Type 0 = λ b. KeepSame b sent in
      let Q : List ℕ → Type 0 = λ s. KeepSame body s in
      subst P (one_body from input body other framed read)
      (subst Q (one_body d.kind text is.other sent is.frame again)
      (bodies_keep body is.other is.stands))
