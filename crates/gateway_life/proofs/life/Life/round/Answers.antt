use Rattle.gateway_life.proofs.life.Life.round.Goals as goal

pub returns-clause-config : goal.returns-clause-config
returns-clause-config g c = c.round_over.ensures.kept.config

pub returns-clause-durable : goal.returns-clause-durable
returns-clause-durable g c = c.round_over.ensures.kept.durable

pub returns-clause-taps : goal.returns-clause-taps
returns-clause-taps g c = c.round_over.ensures.kept.taps

pub returns-clause-kept : goal.returns-clause-kept
returns-clause-kept g c = c.round_over.ensures.kept.left

pub returns-clause-only : goal.returns-clause-only
returns-clause-only g c = c.round_over.ensures.kept.only

pub returns-clause-journal_cause : goal.returns-clause-journal_cause
returns-clause-journal_cause g c = c.round_over.ensures.kept.journal_cause

pub returns-clause-told : goal.returns-clause-told
returns-clause-told g c = c.round_over.ensures.kept.told

pub returns-clause-cause : goal.returns-clause-cause
returns-clause-cause g c = c.round_over.ensures.kept.cause
