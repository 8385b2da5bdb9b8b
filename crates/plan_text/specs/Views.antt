-- The code's structs in the terms of the grammar.
use Rattle.std.specs.Prelude.{ℕ, ◌+◌, List, Result}
use Rattle.lines.specs.Parser.{Outcome}
use Rattle.lines.specs.Reads as reads
use Rattle.lines.specs.Reads.{seen}
use Rattle.lines.specs.declared.fault.Fault.{Fault}
use Rattle.jobs.specs.declared.Job.{Job}
use Rattle.jobs.specs.declared.Plan.{Plan}
use Rattle.jobs.specs.Views.{changed_in, plan_for}
use Rattle.plan_grammar.specs.Grammar.{Stated}
use Rattle.base.specs.Chosen.{chosen}
use Rattle.plan_text.specs.declared.whole.PlanText.{PlanText}

-- the numbers of those of the first m parts that are changed at opening i
abbrev pub numbers_at : Plan → ℕ → ℕ → List ℕ
numbers_at p m i = chosen (changed_in p i) (λ k. k + 1) m

-- a cost and a plan
abbrev pub stated_for : Job → ℕ → Plan → Stated
stated_for job cost p = record { cost = cost; plan = plan_for job p }

-- what a text says
abbrev pub said : Job → PlanText → Stated
said job t = stated_for job t.cost t.plan

-- the answer r to a text: what it states, or its fault
abbrev pub outcome : Job → Result PlanText Fault → Outcome Stated
outcome job r = reads.outcome (seen (said job) r)
