-- What the count promises, over the job text and what is handed over: E6.1 to E6.6, E7.12.
use Rattle.std.specs.Prelude.{ℕ, ◌≤◌, ◌<◌, ◌≡◌, true, false, List, ◌⊎◌, ◌↔◌, length}
use Rattle.lines.specs.Parser.{refused}
use Rattle.fault_lines.specs.Fault.{fault_line_lem, Cuts}
use Rattle.model.specs.Model.{has_holder_lem, HasPlan}
use Rattle.model.specs.Limits.{most_walk, most_count}
use Rattle.model.specs.Promise.{nodes_of, result_of, whole_count, answer_of}
use Rattle.longest_walk.specs.Longest.{longest}
use Rattle.job_grammar.specs.Grammar.{read_job_lem}
use Rattle.job_grammar.specs.Reading.{JobReading, job_in}
use Rattle.counting.specs.declared.Counted.{Counted}
use Rattle.counting.specs.Count.{holder_refusal, refusal_of}

module _ {text : List ℕ} where
  -- the job has a holder
  abbrev pub HasHolder : JobReading text → Type 0
  HasHolder r = has_holder_lem (job_in r) ≡ true

  -- it has none
  abbrev pub NoHolder : JobReading text → Type 0
  NoHolder r = has_holder_lem (job_in r) ≡ false

-- what is promised of the numbers c that are handed over for a text
pub record CountPromise (text : List ℕ) (c : Counted) : Type 0 where
  -- 0 exactly if the job is accepted and has no holder
  pub says_0 : (c.result ≡ 0) ↔ ((r : JobReading text) × NoHolder r)
  -- E7.12. "E6's count refuses jobs with a holder": its numbers are handed over exactly if the job is accepted and has a holder
  pub holders : (c ≡ holder_refusal) ↔ ((r : JobReading text) × HasHolder r)
  -- E6.1. "the number of points of a walk that drops a point only if its estimate is missing", below the cap
  pub below : (r : JobReading text) → NoHolder r → c.count < most_count → c.count ≡ longest (job_in r)
  -- E6.3. "The count stops at 4000000000, which then means that or more."
  pub cap : (r : JobReading text) → NoHolder r → (c.count ≡ most_count) ↔ (most_count ≤ longest (job_in r))
  pub most : c.count ≤ most_count
  -- E6.5. "No walk ever has more points than this count below the cap": not the whole walk, nor that of the planner's answer with any walk number up to the limit, nor that of an answer with a larger one
  pub whole : (r : JobReading text) → NoHolder r → c.count < most_count → whole_count (job_in r) ≤ c.count
  pub nodes : (r : JobReading text) → NoHolder r → (walk : ℕ) → walk ≤ most_walk → nodes_of (answer_of (job_in r) walk) ≤ c.count
  pub any_nodes : (r : JobReading text) → NoHolder r → c.count < most_count → (limit : ℕ) → nodes_of (answer_of (job_in r) limit) ≤ c.count
  -- so with a walk number of the count or more the planner never says 7
  pub enough : (r : JobReading text) → NoHolder r → c.count < most_count → (limit : ℕ) → c.count ≤ limit → result_of (answer_of (job_in r) limit) ≡ 7 → ⊥
  -- E6.6. "A job with no plan has result 0 and count 1."; a job without openings has count 1 too, and no other has
  pub one : (r : JobReading text) → NoHolder r → (c.count ≡ 1) ↔ ((HasPlan (job_in r) → ⊥) ⊎ (length (job_in r).openings ≡ 0))
  -- E6.2. "the count is 0 for a refused job text": the fault, its line and where it stands
  pub job_fault : (number line : ℕ) → read_job_lem text ≡ refused number line → c ≡ refusal_of text number line
  pub span : (number line : ℕ) → read_job_lem text ≡ refused number line → Cuts text (fault_line_lem line text) (record { start = c.fault_start; length = c.fault_length })
