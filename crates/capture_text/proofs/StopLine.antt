-- The line of a stop, and those of none.
use Rattle.std.proofs.Common.{◌≡◌, ◌≢◌, ◌==◌, ℕ, ◌<◌, ◌≤◌, ◌^◌, List, [], ◌∷◌, ◌++◌, refl, sym, ◌∙◌}
use Rattle.std.proofs.Common.{ap, arith, decimal, codes, get_or, drop, Some, None}
use Rattle.std.specs.List.{join_with_byte}
use Rattle.std.proofs.lemmas.Fmt.{decimal_injective}
use Rattle.std.proofs.lemmas.List.Splits.{join_with_byte-slice_split, slice_split_at}
use Rattle.order_meaning.specs.declared.Side.TheVariants.{Client, Venue}
use Rattle.outside.specs.declared.mem_disk.Image.{Image}
use Rattle.outside.specs.declared.mem_disk.Image.TheVariants as image
use Rattle.capture_text.specs.declared.capture.Event.TheVariants as event
use Rattle.capture_text.specs.Capture.{image_word}
use Rattle.capture_text.specs.Header.{cuts}
use Rattle.capture_text.specs.Line.{LineSays}
use Rattle.capture_text.proofs.Bytes.{differ, behind}
use Rattle.capture_text.proofs.NamesLine.{word_of_digits}

-- what stands behind `stop ` in the line of a stop
abbrev text_of : ℕ → Image → List ℕ
text_of call image = join_with_byte 32 (decimal call ∷ image_word image ∷ [])

one_word : (image : Image) → cuts 32 (image_word image) ≡ image_word image ∷ []
one_word image.Old = refl
one_word image.New = refl
one_word image.Torn = refl

cut_text : (call : ℕ) (image : Image) → call ≤ 1000000
    → cuts 32 (text_of call image) ≡ decimal call ∷ image_word image ∷ []
cut_text call image small =
    slice_split_at (λ b. b == 32) (decimal call) 32 (image_word image)
    (word_of_digits call (omega (arith, small))) refl
    ∙ ap (λ (ws : List (List ℕ)). decimal call ∷ ws) (one_word image)

-- a text that is that of no stop
no_stop : (text : List ℕ)
    → ((call : ℕ) (image : Image) → 1 ≤ call → call ≤ 1000000
    → cuts 32 text ≡ decimal call ∷ image_word image ∷ [] → ⊥)
    → LineSays (codes "stop " ++ text) None
no_stop text none (event.Stop call image) (some, small) is = none call image some small
    (ap (λ (l : List ℕ). cuts 32 l) (behind 5 is) ∙ cut_text call image small)
no_stop text none (event.At ms) bounded is = differ 0 is refl
no_stop text none event.Tick bounded is = differ 0 is refl
no_stop text none (event.Opened Client) bounded is = differ 0 is refl
no_stop text none (event.Opened Venue) bounded is = differ 0 is refl
no_stop text none (event.Closed Client) bounded is = differ 0 is refl
no_stop text none (event.Closed Venue) bounded is = differ 0 is refl
no_stop text none (event.Text Client bytes) bounded is = differ 0 is refl
no_stop text none (event.Text Venue bytes) bounded is = differ 0 is refl
no_stop text none (event.Frame Client body) bounded is = differ 0 is refl
no_stop text none (event.Frame Venue body) bounded is = differ 0 is refl

pub no_blank : (text : List ℕ) → cuts 32 text ≡ text ∷ [] → LineSays (codes "stop " ++ text) None
no_blank text whole = no_stop text (λ call image some small is. absurd (cc (whole, is)))

module _ (text digits word : List ℕ) (cut : cuts 32 text ≡ digits ∷ cuts 32 word) where
  -- the parts of a text that is cut so twice
  number_is : (a b : List ℕ) → cuts 32 text ≡ a ∷ b ∷ [] → digits ≡ a
  number_is a b is = ap (λ (ws : List (List ℕ)). get_or ws 0 []) (sym cut ∙ is)

  image_is : (a b : List ℕ) → cuts 32 text ≡ a ∷ b ∷ [] → word ≡ b
  image_is a b is = sym (join_with_byte-slice_split 32 word)
      ∙ ap (λ (ws : List (List ℕ)). join_with_byte 32 (drop 1 ws)) (sym cut ∙ is)

  pub no_number : ((n : ℕ) → n < 2 ^ 64 → digits ≢ decimal n)
      → LineSays (codes "stop " ++ text) None
  no_number none = no_stop text (λ call image some small is.
      none call (omega (arith, small)) (number_is (decimal call) (image_word image) is))

  pub no_image : ((image : Image) → word ≢ image_word image)
      → LineSays (codes "stop " ++ text) None
  no_image none = no_stop text (λ call image some small is.
      none image (image_is (decimal call) (image_word image) is))

  module _ (call : ℕ) (number : digits ≡ decimal call) where
    pub out_of_bounds : call < 2 ^ 64 → (1 ≤ call → call ≤ 1000000 → ⊥)
        → LineSays (codes "stop " ++ text) None
    out_of_bounds fits out = no_stop text (λ n image some small is.
        let same : call ≡ n = decimal_injective call n fits (omega (arith, small))
        (sym number ∙ number_is (decimal n) (image_word image) is) in
        out (omega (arith, same, some)) (omega (arith, same, small)))

    pub is_stop : (image : Image) → word ≡ image_word image → 1 ≤ call → call ≤ 1000000
        → LineSays (codes "stop " ++ text) (Some (event.Stop call image))
    is_stop image named some small = (
      ap (λ (t : List ℕ). codes "stop " ++ t) (sym (join_with_byte-slice_split 32 text)
          ∙ ap (λ (ws : List (List ℕ)). join_with_byte 32 ws) (cut
          ∙ ap (λ (d : List ℕ). d ∷ cuts 32 word) number
          ∙ ap (λ (w : List ℕ). decimal call ∷ cuts 32 w) named
          ∙ ap (λ (ws : List (List ℕ)). decimal call ∷ ws) (one_word image))),
      (some, small),
    )

pub ruleset what_stops = (no_blank, no_number, no_image, out_of_bounds, is_stop)
