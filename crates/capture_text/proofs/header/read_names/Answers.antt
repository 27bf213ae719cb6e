use Rattle.std.proofs.Common.{refl, sym, subst, Some}
use Rattle.order_meaning.specs.declared.names.Names.{Names}
use Rattle.capture_text.specs.Header.{AreNames, NamesLine}
use Rattle.capture_text.proofs.NamesLine.{no_words, no_names, no_times, is_line}
use Rattle.capture_text.proofs.header.read_names.Goals as goal

pub returns-in_err-words : goal.returns-in_err-words
returns-in_err-words c = subst (NamesLine c.args.line.now) (sym c.from_residual.ensures)
    (no_words c.args.line.now (c.in_err-words.ensures.none refl))

pub returns-in_err-names : goal.returns-in_err-names
returns-in_err-names c =
    let w = c.in_ok-words.words in
    subst (NamesLine c.args.line.now) (sym c.from_residual-in_err-names.ensures)
    (no_names c.args.line.now w.client_our.now w.client_peer.now w.venue_our.now
    w.venue_peer.now w.times.now c.in_ok-words.ensures.some (c.in_err-names.ensures.none refl))

pub returns-in_err-heart : goal.returns-in_err-heart
returns-in_err-heart c =
    let w = c.in_ok-words.words in
    subst (NamesLine c.args.line.now) (sym c.from_residual-in_err-heart.ensures)
    (no_times c.args.line.now w.client_our.now w.client_peer.now w.venue_our.now
    w.venue_peer.now w.times.now c.in_ok-words.ensures.some c.in_err-heart.ensures)

pub returns : goal.returns
returns c =
    let w = c.in_ok-words.words in
    subst (λ (names : Names). NamesLine c.args.line.now
    (Some (names, c.in_ok-heart.heart, c.in_ok-heart.reset))) (sym c.in_ok-names.ensures.same)
    (is_line c.args.line.now w.client_our.now w.client_peer.now w.venue_our.now
    w.venue_peer.now w.times.now c.in_ok-heart.heart c.in_ok-heart.reset
    c.in_ok-words.ensures.some
    (subst AreNames c.in_ok-names.ensures.same c.in_ok-names.ensures.some)
    c.in_ok-heart.ensures)
