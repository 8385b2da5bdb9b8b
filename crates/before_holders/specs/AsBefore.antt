-- E7.13. "With no holders and removals of 0, every printed answer to texts that were free of faults before is the one given before."
use Rattle.std.specs.Prelude.{ℕ, ◌≤◌, ◌≡◌, List, map, ◌↔◌, length, None, Some}
use Rattle.lines.specs.Parser.{accepted}
use Rattle.base.specs.Each.{All}
use Rattle.job_grammar.specs.Grammar as today
use Rattle.quotes.specs.Grammar.{single}
use Rattle.price_rules.specs.Grammar.{by_list}
use Rattle.part_lines.specs.Grammar.{PartText}
use Rattle.plan_grammar.specs.Grammar.{Stated}
use Rattle.plan_grammar.specs.Grammar as plans
use Rattle.answers.specs.Said.{lent}
use Rattle.planning.specs.Plan.{plan_said, plan_room}
use Rattle.judging.specs.Judge.{judge_said, judge_room}
use Rattle.counting.specs.Count.{count_said}
use Rattle.before_holders.specs.Texts.{Given, max_bytes, read_job_lem, read_plan_lem}
use Rattle.before_holders.specs.Answers as before

-- a job text was free of faults
pub record Accepted (text : List ℕ) : Type 0 where
  pub given : Given
  pub is : read_job_lem text ≡ accepted given

-- what it meant, as it is meant today: without the walk number, its prices single ones
abbrev pub as_today : Given → today.Given
as_today g = before.unbanded g.job

-- a part without lines of removal, whose prices are listed, each a single one, and of whose life something is left
pub record BarePart (p : PartText) : Type 0 where
  pub left : 1 ≤ p.left
  pub cover : p.cover ≡ None
  pub prices : List ℕ
  pub listed : p.prices ≡ by_list (map single prices)

-- what it says today has the walk line, no lines of removal, no rule, no pair and no left of 0
pub record BareText (t : today.JobText) : Type 0 where
  pub walk : ℕ
  pub there : t.walk ≡ Some walk
  pub parts : All BarePart t.parts

-- a job text and a plan text were
pub record BothAccepted (job plan : List ℕ) : Type 0 where
  pub job_text_lem2 : Accepted job
  pub stated : Stated
  pub is : read_plan_lem job_text_lem2.given.job plan ≡ accepted stated

-- of all texts and rooms: which texts were free of faults, what they said, and every call's answer
pub record AsBefore : Type 0 where
  -- exactly the job texts that are accepted today, with the walk line and without lines of removal, a rule, a pair or a left of 0, and not longer than a text might be, were accepted
  pub accepts : (text : List ℕ) → Accepted text ↔ ((length text ≤ max_bytes) × (t : today.JobText) × ((today.read_job_text text ≡ accepted t) × BareText t))
  -- the texts say what they said
  pub job_text_lem2 : (text : List ℕ) (a : Accepted text) → today.read_job_lem text ≡ accepted (as_today a.given)
  pub plan_text_lem2 : (job plan : List ℕ) (a : BothAccepted job plan) → plans.read_plan_lem a.job_text_lem2.given.job plan ≡ accepted a.stated
  -- every number handed over and every byte written is as before, in any room; the planner's where the call has the text's own walk number
  pub planner : (text : List ℕ) (a : Accepted text) (room : ℕ) → lent plan_room room (plan_said text a.given.walk) ≡ lent before.plan_room room (before.plan_said text)
  pub judge : (job plan : List ℕ) → BothAccepted job plan → (room : ℕ) → lent judge_room room (judge_said job plan) ≡ lent before.judge_room room (before.judge_said job plan)
  pub count : (text : List ℕ) → Accepted text → count_said text ≡ before.count_said text
