-- `number_of`: case by case.
use Rattle.findings.proofs.number_of.Goals as goal

pub returns-in-NoPlan : goal.returns-in-NoPlan
returns-in-NoPlan c = rw c.in-NoPlan.is

pub returns-in-Optimum : goal.returns-in-Optimum
returns-in-Optimum c = rw c.in-Optimum.is

pub returns-in-Cut : goal.returns-in-Cut
returns-in-Cut c = rw c.in-Cut.is

pub returns-in-CutBare : goal.returns-in-CutBare
returns-in-CutBare c = rw c.in-CutBare.is
