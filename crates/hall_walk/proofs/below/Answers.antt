-- `below` hands the question on to the function of its kind.
use Rattle.hall_walk.proofs.Passed.{asked_as}
use Rattle.hall_walk.proofs.below.Goals as goal

pub call_below-requires : goal.call_below-requires
call_below-requires c = asked_as c.in-CrewCall.is c.requires

pub returns-in-CrewCall : goal.returns-in-CrewCall
returns-in-CrewCall c = λ k. c.call_below.ensures.below (asked_as c.in-CrewCall.is k)

pub line_below-requires : goal.line_below-requires
line_below-requires c = asked_as c.in-LineStop.is c.requires

pub returns-in-LineStop : goal.returns-in-LineStop
returns-in-LineStop c = λ k. c.line_below.ensures.below (asked_as c.in-LineStop.is k)

pub removal_below-requires : goal.removal_below-requires
removal_below-requires c = asked_as c.in-PartRemoval.is c.requires

pub returns-in-PartRemoval : goal.returns-in-PartRemoval
returns-in-PartRemoval c = λ k. c.removal_below.ensures.below (asked_as c.in-PartRemoval.is k)
