-- `number_of`: case by case.
use Rattle.serving.proofs.number_of.Goals as goal

pub returns-in-Some : goal.returns-in-Some
returns-in-Some c plan = rw c.in-Some.is

pub returns-in-None : goal.returns-in-None
returns-in-None c plan = rw c.in-None.is
