use Rattle.gate_log.proofs.Born.{born_of_stays, birth_ends, born, stands_born}
use Rattle.gate_log.proofs.Told.{on_ok}
use Rattle.gate_log.proofs.log.write_birth.Goals as goal

pub returns-in_err-shut_first_gate-clause-images : goal.returns-in_err-shut_first_gate-clause-images
returns-in_err-shut_first_gate-clause-images g c = born_of_stays
    _ c.args.len c.requires.unborn c.args.birth.now _ _ c.shut_first_gate.ensures.images

pub commit-requires-clause-ends : goal.commit-requires-clause-ends
commit-requires-clause-ends g c = birth_ends _ c.args.len c.requires.unborn c.args.birth.now
    _ c.in_ok-shut_first_gate.ensures.shut c.shut_first_gate.ensures.told c.requires.birth

pub returns-clause-images : goal.returns-clause-images
returns-clause-images g c = born _ c.args.len c.requires.unborn
    c.args.birth.now _ c.in_ok-shut_first_gate.ensures.shut c.shut_first_gate.ensures.told
    c.requires.birth _ _ _ c.in_ok-shut_first_gate.ensures.durable c.commit.ensures.images

pub returns-clause-stands : goal.returns-clause-stands
returns-clause-stands g c = on_ok c.commit.result (stands_born _ c.args.len c.requires.unborn
    c.args.birth.now _ c.in_ok-shut_first_gate.ensures.shut c.shut_first_gate.ensures.told
    c.requires.birth _ c.commit.ensures.told) c.commit.ensures.appended
