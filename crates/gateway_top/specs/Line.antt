-- Own: the lines that `check` prints, each ended by LF: one for a frame, for a garbled piece, and
-- for an end inside a frame; docs/DECISIONS.md, "Commands".
use Rattle.std.specs.Prelude.{ℕ, List, [], ◌∷◌, ◌++◌, codes, unwrap_or}
use Rattle.std.specs.Fmt.{decimal}
use Rattle.frame_grammar.specs.declared.frame.Garble.{Garble}
use Rattle.frame_grammar.specs.declared.frame.Garble.TheVariants.{BeginString, LengthField, TooLong}
use Rattle.frame_grammar.specs.declared.frame.Garble.TheVariants.{TypeField, Trailer, Sum}
use Rattle.gateway_top.specs.MsgType.{type_in}
use Rattle.gateway_top.specs.declared.finding.Finding.{Finding}
use Rattle.gateway_top.specs.declared.finding.Finding.TheVariants.{Session, Good, Reason}
use Rattle.gateway_top.specs.declared.finding.Finding.TheVariants.{NoCounterpart, NotSupported}

-- the byte that ends a line
abbrev pub LF : ℕ
LF = 10

-- the tag at which something is found
abbrev pub tag_words : ℕ → List ℕ
tag_words tag = codes " tag " ++ decimal tag

unfoldable pub no_counterpart : List ℕ
no_counterpart = codes " no counterpart"

-- what is found of a frame
abbrev pub finding_words : Finding → List ℕ
finding_words Session = codes " session"
finding_words Good = codes " ok"
finding_words (Reason tag reason) =
    tag_words (unwrap_or tag 0) ++ codes " reason " ++ decimal reason
finding_words (NoCounterpart tag) = tag_words tag ++ no_counterpart
finding_words NotSupported = codes " not supported"

abbrev pub cause_name : Garble → List ℕ
cause_name BeginString = codes "BeginString"
cause_name LengthField = codes "LengthField"
cause_name (TooLong said) = codes "TooLong"
cause_name TypeField = codes "TypeField"
cause_name Trailer = codes "Trailer"
cause_name Sum = codes "Sum"

-- what each line begins with: the place of a piece, what it is, and its length
abbrev pub head : ℕ → List ℕ → ℕ → List ℕ
head at what len = decimal at ++ what ++ decimal len

unfoldable pub frame_line : ℕ → ℕ → List ℕ → Finding → List ℕ
frame_line at len body finding =
    head at (codes " frame ") len ++ codes " " ++ type_in body ++ finding_words finding ++ LF ∷ []

unfoldable pub garbled_line : ℕ → ℕ → Garble → List ℕ
garbled_line at len cause =
    head at (codes " garbled ") len ++ codes " " ++ cause_name cause ++ LF ∷ []

unfoldable pub inside_line : ℕ → ℕ → List ℕ
inside_line at len = head at (codes " inside ") len ++ LF ∷ []
