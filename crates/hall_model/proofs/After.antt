-- A hall plan against turns: where each line's blocks are not after those that the turns deal it, neither are the hall plan's decisions, and it has no more calls to pay.
use mathlib.Core.Path.{refl}
use mathlib.Core.Bool.{Bool}
use mathlib.Core.List.{List, [], ◌∷◌, map}
use mathlib.Core.Logic.{inl}
use Prim.Native.Nat.{ℕ, zero, suc, ◌≤◌, ◌<◌}
use native.Mathlib.Omega.{arith}
use lib.ListN.{length, get_or}
use Rattle.model.specs.Model.{Job, Plan, Each}
use Rattle.model.specs.Decisions.{plan_blocks}
use Rattle.hall_model.specs.Hall.{Hall, Proper, Placed, open_at, calls_of, KeepsAll}
use Rattle.hall_model.specs.Agenda.{crew_steps}
use Rattle.hall_model.specs.Decisions.{block_at, hall_decisions}
use Rattle.hall_model.specs.LowerBound.{priced}
use Rattle.hall_model.proofs.Turns.{Turn, Turns, spelled, column, called}
use Rattle.hall_model.proofs.Dealt.{Dealt, dealt_each}
use Rattle.hall_model.proofs.Order.{NotAfter, turns_after, calls_after}
use Rattle.hall_model.proofs.Plans.{no_plan_lem, turns_of, plan_turns, plan_needed, plan_column, plan_dealt, decisions_spelled, calls_turns}

-- every place is a line's
pub placed_of : (jobs : List Job) (d : ℕ) → d < length jobs → (job : Job) × Placed jobs d job
placed_of [] d l = absurd (omega arith)
placed_of (job ∷ jobs) zero l = (job, refl)
placed_of (job ∷ jobs) (suc d) l = placed_of jobs d (omega arith)

module _ (hall : Hall) (proper : Proper hall) (plans : List Plan) (keeps : KeepsAll hall plans) (ts : List Turn) (turns : Turns hall.jobs (crew_steps hall) ts) where
  abbrev jobs : List Job
  jobs = hall.jobs

  abbrev steps : List ℕ
  steps = crew_steps hall

  -- the blocks that the turns deal to a line, and the plan's are not after them
  pub record LineAfter (d : ℕ) (job : Job) : Type 0 where
    pub blocks : List (List Bool)
    -- at the steps where the line is open the turns deal it these blocks, in order, and nothing at the others
    pub dealt : Dealt (map (open_at job) steps) (column d ts) blocks
    pub after : Each NotAfter (plan_blocks job (get_or plans d no_plan_lem)) blocks

  module _ (lines : (d : ℕ) (job : Job) → Placed jobs d job → LineAfter d job) where
    columns_after : (d : ℕ) → d < length jobs → Each NotAfter (column d (turns_of jobs plans steps)) (column d ts)
    columns_after d l =
        let p = placed_of jobs d l in
        let plan = get_or plans d no_plan_lem in
        let a = lines d p.0 p.1 in
        rw (plan_column jobs plans keeps d p.0 p.1 steps)
        (dealt_each NotAfter (inl refl) (map (open_at p.0) steps) (map (block_at p.0 plan) steps) (column d ts) (plan_blocks p.0 plan) a.blocks
        (plan_dealt hall proper d p.0 p.1 plan) a.dealt a.after)

    -- a hall plan whose lines' blocks are not after those of the turns is not after the turns in walk order
    pub decisions_after : NotAfter (hall_decisions hall plans) (spelled ts)
    decisions_after =
        rw (decisions_spelled hall proper plans keeps)
        (turns_after jobs steps (turns_of jobs plans steps) ts (plan_turns jobs plans keeps steps) turns (plan_needed jobs plans keeps steps) columns_after)

    -- a hall plan whose lines' blocks are not after those of the turns pays no more calls than the turns
    pub fewer_calls : calls_of hall plans ≤ priced hall.call (called ts)
    fewer_calls =
        omega (
          arith,
          calls_turns hall proper plans keeps,
          calls_after jobs hall.call steps (turns_of jobs plans steps) ts (plan_turns jobs plans keeps steps) turns (plan_needed jobs plans keeps steps) columns_after,
        )
