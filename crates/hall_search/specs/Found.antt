-- What the search of a hall hands back, as the model has it.
use Rattle.std.specs.Prelude.{List, [], ◌∷◌, take}
use Rattle.model.specs.Model.{Plan}
use Rattle.jobs.specs.declared.Plan as code
use Rattle.jobs.specs.declared.accepted.Accepted.{Accepted}
use Rattle.jobs.specs.Views.{plan_for}
use Rattle.search_state.specs.declared.Solved.{Solved}
use Rattle.search_state.specs.Answer.{answer_with}
use Rattle.hall_model.specs.Promise.{HallAnswer}
use Rattle.hall_jobs.specs.declared.HallJobs.{HallJobs}
use Rattle.hall_search.specs.declared.found.HallFound.{HallFound}

-- what a walk found, with these plans
abbrev pub hall_found_by : Solved → List code.Plan → HallFound
hall_found_by s ps = record { count = s.count; over = s.over; cost = s.cost; floor = s.floor; plans = ps }

-- each job's plan, in order
abbrev pub each_plan : List Accepted → List code.Plan → List Plan
each_plan [] ps = []
each_plan (a ∷ jobs) [] = []
each_plan (a ∷ jobs) (p ∷ ps) = plan_for a.job p ∷ each_plan jobs ps

-- the plans that the code holds for the lines of a hall, in order
abbrev pub plans_held : HallJobs → List code.Plan → List Plan
plans_held h ps = each_plan (take h.count h.jobs) ps

-- the plans that are found
abbrev pub plans_found : HallJobs → HallFound → List Plan
plans_found h r = plans_held h r.plans

-- the hall planner's answer, read off what the code holds
abbrev pub hall_said_in : HallJobs → HallFound → HallAnswer
hall_said_in h r = answer_with (plans_found h r) r.count r.floor r.over r.cost
