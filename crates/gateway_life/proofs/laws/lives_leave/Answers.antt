-- A life begins with all that holds between events, and leaves it.
use Rattle.gateway_life.proofs.Leaving.{leaves_on, are_taken}
use Rattle.gateway_life.proofs.laws.lives_leave.Goals as goal

pub returns-clause-lives : goal.returns-clause-lives
returns-clause-lives c = λ end config before days left client venue rounds did leaves follows.
    leaves_on c.lives_begin.ensures c.days_leave.ensures c.lives_that_fail_leave.ensures config
    before client venue leaves.ended leaves.present end rounds did days left follows

pub returns-clause-taken : goal.returns-clause-taken
returns-clause-taken c = are_taken c.lives_begin.ensures
    c.justified_transcripts_are_taken_in_order.ensures c.what_is_sent_is_read.ensures
    c.repeats_fill_gaps.ensures.frames c.sides_learn_what_was_said.ensures c.bodies_are_read.ensures
    c.answers_are_given_out.ensures c.peers_agree.ensures
