use Rattle.std.proofs.Common.{◌++◌, [], length, ap, arith}
use Rattle.pair_entries.specs.Birth.{name_bytes}
use Rattle.pair_entries.proofs.Names.{behind_pair, behind_marked, spelt, nothing, some_and}
use Rattle.pair_entries.proofs.birth.read_birth.Goals as goal

pub returns-in_default-pair_front : goal.returns-in_default-pair_front
returns-in_default-pair_front c = λ names are is.
    let marked =
    behind_marked names c.in_ok-rest.rest.now c.args.bytes.now c.in_ok-rest.ensures is in
    let one = behind_pair c.in-Some.client_our.now c.in-Some.client_peer.now
    names.client_our names.client_peer c.in-Some.rest.now (name_bytes names.venue_our
    ++ (name_bytes names.venue_peer ++ [])) c.in_ok-rest.rest.now c.in-Some.ensures.0 marked in
    c.in_default-pair_front.ensures names.venue_our names.venue_peer [] are.2 are.3 one

pub returns-then-rest-gt0 : goal.returns-then-rest-gt0
returns-then-rest-gt0 c = λ names are is.
    let marked =
    behind_marked names c.in_ok-rest.rest.now c.args.bytes.now c.in_ok-rest.ensures is in
    let one = behind_pair c.in-Some.client_our.now c.in-Some.client_peer.now
    names.client_our names.client_peer c.in-Some.rest.now (name_bytes names.venue_our
    ++ (name_bytes names.venue_peer ++ [])) c.in_ok-rest.rest.now c.in-Some.ensures.0 marked in
    let none = behind_pair c.in-Some-pair_front.venue_our.now
    c.in-Some-pair_front.venue_peer.now names.venue_our names.venue_peer
    c.in-Some-pair_front.rest.now [] c.in-Some.rest.now c.in-Some-pair_front.ensures.0 one in
    absurd (omega (arith, ap length none))

pub returns : goal.returns
returns c =
    let none = nothing c.in-Some-pair_front.rest.now c.if-rest-gt0.false in
    some_and c.names_of.result _ _ _ c.names_of.ensures (
      spelt c.args.bytes.now c.in_ok-rest.rest.now c.in-Some.rest.now
          c.in-Some-pair_front.rest.now c.in-Some.client_our.now c.in-Some.client_peer.now
          c.in-Some-pair_front.venue_our.now c.in-Some-pair_front.venue_peer.now
          c.in_ok-rest.ensures c.in-Some.ensures.0 c.in-Some-pair_front.ensures.0 none,
      (
        c.in-Some.ensures.1,
        c.in-Some.ensures.2,
        c.in-Some-pair_front.ensures.1,
        c.in-Some-pair_front.ensures.2,
      ),
    )
