use Rattle.std.proofs.Common.{◌∙◌, take, length, sym}
use Rattle.std.proofs.lemmas.Slice.Eq.{bytes_eq-Decides}
use Rattle.frame_grammar.proofs.Scanned.{came, more, wrong}
use Rattle.frame_grammar.proofs.scan.expect_text.Goals as goal

pub returns-then-begins-clause-leads : goal.returns-then-begins-clause-leads
returns-then-begins-clause-leads c go =
    let text = c.args.text.now in
    let bytes = c.args.bytes.now in
    let begins = bytes_eq-Decides text (take (length text) bytes) in
    came text bytes
    c.args.rule go (sym (begins.0 (sym c.begins.ensures ∙ c.if-begins.true)))

pub returns-then-starts_with-clause-leads : goal.returns-then-starts_with-clause-leads
returns-then-starts_with-clause-leads c go =
    let text = c.args.text.now in
    let bytes = c.args.bytes.now in
    let begins = bytes_eq-Decides text (take (length text) bytes) in
    let ends = bytes_eq-Decides bytes (take (length bytes) text) in
    more text bytes c.args.rule go (λ is. let yes = c.begins.ensures ∙ begins.1 (sym is)
    in let no = c.if-begins.false in absurd (cc (yes, no)))
    (sym (ends.0 (sym c.starts_with.ensures.value ∙ c.if-starts_with.true)))

pub returns-else-starts_with-clause-leads : goal.returns-else-starts_with-clause-leads
returns-else-starts_with-clause-leads c go =
    let text = c.args.text.now in
    let bytes = c.args.bytes.now in
    let begins = bytes_eq-Decides text (take (length text) bytes) in
    let ends = bytes_eq-Decides bytes (take (length bytes) text) in
    wrong text bytes c.args.rule go (λ is. let yes = c.begins.ensures ∙ begins.1 (sym is)
    in let no = c.if-begins.false in absurd (cc (yes, no)))
    (λ is. let yes = c.starts_with.ensures.value ∙ ends.1 (sym is) in let no =
    c.if-starts_with.false in absurd (cc (yes, no)))
