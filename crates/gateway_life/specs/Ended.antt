-- Own: how a life ends by what a layer below it answers.
use Rattle.pair_journal.specs.declared.error.JournalError.{JournalError}
use Rattle.pair_journal.specs.declared.error.JournalError.TheVariants as journal
use Rattle.gateway_core.specs.declared.plan.PlanError.{PlanError}
use Rattle.gateway_core.specs.declared.plan.PlanError.TheVariants as plan
use Rattle.gateway_life.specs.declared.end.LifeEnd.{LifeEnd}
use Rattle.gateway_life.specs.declared.end.LifeEnd.TheVariants as ends

-- by an error of the journal
abbrev pub end_of : JournalError → LifeEnd
end_of journal.DiskFault = ends.DiskFault
end_of (journal.Refused at) = ends.JournalRefused at
end_of (journal.NamesDiffer kept given) = ends.NamesDiffer kept given
end_of journal.Full = ends.JournalFull
end_of journal.NoMemory = ends.NoMemory

-- by the want of a plan
abbrev pub end_by : PlanError → LifeEnd
end_by (plan.NumbersSpent side) = ends.NumbersSpent side
end_by plan.NoMemory = ends.NoMemory
