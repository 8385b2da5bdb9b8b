-- The code's structs in the model's terms.
use Rattle.std.specs.Prelude.{ℕ, ◌≤◌, Bool, false, List, [], map, get_or, take, replicate}
use Rattle.base.specs.Chosen.{numbers_of_lem}
use Rattle.model.specs.Model as model
use Rattle.model.specs.Limits.{last_step, most_openings, most_parts}
use Rattle.jobs.specs.declared.Opening.{Opening}
use Rattle.jobs.specs.declared.Part.{Part}
use Rattle.jobs.specs.declared.Job.{Job}
use Rattle.jobs.specs.declared.Changes.{Changes}
use Rattle.jobs.specs.declared.Plan.{Plan}

-- ---- a job

-- what stands past the end of an array of parts
abbrev pub blank_part_lem : Part
blank_part_lem = record { life = 0; left = 0; removal = 0; holders = []; prices = [] }

-- an opening's step and fee
abbrev pub opening_of : Opening → model.Opening
opening_of o = record { step = o.step; fee = o.fee }

-- a part whose first n prices count
abbrev pub part_of_lem : ℕ → Part → model.Part
part_of_lem n p = record { life = p.life; left = p.left; removal = p.removal; holders = numbers_of_lem p.holders; prices = take n p.prices }

-- the job that a struct holds: its first idle steps, openings, prices and parts, as many as it says
abbrev pub job_of : Job → model.Job
job_of j = record {
  horizon = j.horizon;
  idles = take j.idle_count j.idles;
  openings = map opening_of (take j.opening_count j.openings);
  parts = map (part_of_lem j.opening_count) (take j.part_count j.parts);
}

-- the counts stay within the arrays
pub record Sized (j : Job) : Type 0 where
  pub idles : j.idle_count ≤ last_step
  pub openings : j.opening_count ≤ most_openings
  pub parts : j.part_count ≤ most_parts

-- ---- a plan

-- what stands past the end of an array of change sets
abbrev pub blank_changes : Changes
blank_changes = record { at = [] }

-- the changes of the first m parts at the first n openings
abbrev pub changes_of : ℕ → ℕ → List Changes → List (List Bool)
changes_of n m cs = map (λ (c : Changes). take n c.at) (take m cs)

-- the plan that a struct holds for n openings and m parts
abbrev pub model_plan : ℕ → ℕ → Plan → model.Plan
model_plan n m p = record { stops = take n p.stops; changes = changes_of n m p.changes }

-- the plan of no stops and no changes
abbrev pub empty_plan : ℕ → ℕ → model.Plan
empty_plan n m = record { stops = replicate n false; changes = replicate m (replicate n false) }

-- part k + 1 is changed at opening i
abbrev pub changed_in : Plan → ℕ → ℕ → Bool
changed_in p i k = get_or (get_or p.changes k blank_changes).at i false

-- for the openings and parts that a job counts
abbrev pub changes_for : Job → List Changes → List (List Bool)
changes_for job cs = changes_of job.opening_count job.part_count cs

-- the plan that a struct holds, as far as the job's openings and parts go
abbrev pub plan_for : Job → Plan → model.Plan
plan_for job p = model_plan job.opening_count job.part_count p
