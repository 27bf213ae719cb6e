use Rattle.std.proofs.Common.{◌∙◌, ℕ, List, [], drop, sym}
use Rattle.translation.specs.Header.{head_down, header}
use Rattle.translation.proofs.FrontHeader.{Part, five_down, five_fit, five_up, front_is, none_of}
use Rattle.translation.proofs.FrontHeader.{seen, seen_five, text_at}
use Rattle.translation.proofs.head.header_at_front.Goals as goal

pub five_fields-requires : goal.five_fields-requires
five_fields-requires c =
    let parts = c.as_slice.result.now in
    let d : Part = (0, record { ref_ptr = (0, 0); now = [] }) in
    let t : ℕ → List ℕ = λ place. text_at parts d place in
    let is = sym c.as_slice.ensures ∙ seen_five parts d c.in-len5-up.len_at_least
    c.if-kind-eq35.true c.if-sender-eq49.true c.if-target-eq56.true c.if-number-eq34.true
    c.if-time-eq52.true in
    five_fit (t 0) (t 1) (t 2) (t 3) (t 4) c.args.body.now c.requires.0 c.args.fields.now
    (seen (drop 5 parts)) is c.requires.1

pub returns-then-time-le-MILLIS-clause-up : goal.returns-then-time-le-MILLIS-clause-up
returns-then-time-le-MILLIS-clause-up c =
    let parts = c.as_slice.result.now in
    let d : Part = (0, record { ref_ptr = (0, 0); now = [] }) in
    let t : ℕ → List ℕ = λ place. text_at parts d place in
    let is = sym c.as_slice.ensures ∙ seen_five parts d c.in-len5-up.len_at_least
    c.if-kind-eq35.true c.if-sender-eq49.true c.if-target-eq56.true c.if-number-eq34.true
    c.if-time-eq52.true in
    let none = c.in-None-None-None in
    front_is (t 0) (t 1) (t 2) (t 3) (t 4) c.args.body.now c.requires.0 c.args.fields.now
    (seen (drop 5 parts)) is c.requires.1 c.five_fields.result.now (header c.args.fields.now)
    c.five_fields.ensures (five_up (t 0) (t 1) (t 2) (t 3) (t 4) c.args.fields.now
    (seen (drop 5 parts)) is c.if-time-le-MILLIS.true (none_of _ _ none.is-0 c.value.ensures)
    (none_of _ _ none.is-1 c.value-2.ensures) (none_of _ _ none.is-2 c.value-3.ensures))

pub returns-then-time-le-MILLIS-clause-down : goal.returns-then-time-le-MILLIS-clause-down
returns-then-time-le-MILLIS-clause-down c =
    let parts = c.as_slice.result.now in
    let d : Part = (0, record { ref_ptr = (0, 0); now = [] }) in
    let t : ℕ → List ℕ = λ place. text_at parts d place in
    let is = sym c.as_slice.ensures ∙ seen_five parts d c.in-len5-up.len_at_least
    c.if-kind-eq35.true c.if-sender-eq49.true c.if-target-eq56.true c.if-number-eq34.true
    c.if-time-eq52.true in
    let none = c.in-None-None-None in
    front_is (t 0) (t 1) (t 2) (t 3) (t 4) c.args.body.now c.requires.0 c.args.fields.now
    (seen (drop 5 parts)) is c.requires.1 c.five_fields.result.now
    (header (head_down c.args.fields.now))
    c.five_fields.ensures (five_down (t 0) (t 1) (t 2) (t 3) (t 4) c.args.fields.now
    (seen (drop 5 parts)) is c.if-time-le-MILLIS.true (none_of _ _ none.is-0 c.value.ensures)
    (none_of _ _ none.is-1 c.value-2.ensures) (none_of _ _ none.is-2 c.value-3.ensures))
