use Rattle.std.proofs.Common.{◌≡◌, ℕ, ◌-◌, Bool, true, false, List, length, take, drop}
use Rattle.std.proofs.Common.{if◌then◌else◌, codes, Some, None, refl, ap, sym, ◌∙◌, arith}
use Rattle.std.proofs.Common.{length-drop, nat_eq}
use Rattle.std.specs.declared.option.Option.{Option}
use Rattle.std.specs.List.{starts_with}
use Rattle.std.proofs.lemmas.List.{take_all}
use Rattle.edge_logic.specs.declared.notice.TooLow.{TooLow}
use Rattle.edge_waits.specs.Said.{low_numbers, too_low}
use Rattle.edge_waits.proofs.said.too_low.Goals as goal

begins : (b : Bool) (said : Option TooLow) → b ≡ true → (if b then said else None) ≡ said
begins true said is = refl
begins false said is = absurd cc

low_behind : (text : List ℕ) (b : Bool) → b ≡ true
    → b ≡ starts_with nat_eq text (codes "MsgSeqNum too low, expecting ")
    → low_numbers (take (length text - 29) (drop 29 text)) ≡ too_low text
unfolding too_low
low_behind text b is starts =
    ap low_numbers (take_all (length text - 29) (drop 29 text)
    (omega (arith, length-drop 29 text)))
    ∙ sym (begins (starts_with nat_eq text (codes "MsgSeqNum too low, expecting "))
    (low_numbers (drop 29 text)) (sym starts ∙ is))

pub returns : goal.returns
returns c =
    c.low_numbers.ensures ∙ low_behind c.args.text.now c.starts_with.result
    c.if-not-starts_with.false c.starts_with.ensures.value
