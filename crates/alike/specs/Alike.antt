-- Two job texts that planner, judge, latest-time habit and count answer alike: the same numbers are handed over and the same bytes written. So are texts that differ in the `walk` line alone, and a text with rules and the one with the price lines written out.
use Rattle.std.specs.Prelude.{ℕ, ◌≡◌, List, map, length, Option}
use Rattle.lines.specs.Parser.{accepted}
use Rattle.price_rules.specs.Grammar.{written_out_lem}
use Rattle.part_lines.specs.Grammar.{PartText}
use Rattle.job_grammar.specs.Grammar.{JobText, meant, read_job_text}
use Rattle.job_grammar.specs.Rendering.{job_text_lem}
use Rattle.job_grammar.specs.Valid.{Allowed}
use Rattle.answers.specs.Said.{lent}
use Rattle.planning.specs.Plan.{plan_said, plan_room}
use Rattle.judging.specs.Judge.{judge_said, judge_room}
use Rattle.serving.specs.Serve.{latest_said, latest_room}
use Rattle.counting.specs.Count.{count_said}

-- by the planner, with any walk number, by the judge and by the latest-time habit, with any plan text, in any room; and by the count
pub record AnsweredAlike (s s' : List ℕ) : Type 0 where
  pub planner : (walk room : ℕ) → lent plan_room room (plan_said s walk) ≡ lent plan_room room (plan_said s' walk)
  pub judge : (plan : List ℕ) (room : ℕ) → lent judge_room room (judge_said s plan) ≡ lent judge_room room (judge_said s' plan)
  pub latest : (plan : List ℕ) (room : ℕ) → lent latest_room room (latest_said s plan) ≡ lent latest_room room (latest_said s' plan)
  pub count : count_said s ≡ count_said s'

-- what a text says, with this `walk` line or with none
abbrev pub with_walk : Option ℕ → JobText → JobText
with_walk o t = record { horizon = t.horizon; idles = t.idles; walk = o; openings = t.openings; parts = t.parts }

-- E10. "A job's `walk` line, if it still stands, is checked as before and set aside."
pub record WalkSetAside : Type 0 where
  -- accepted texts that differ in that line alone
  pub alike : (s s' : List ℕ) (t : JobText) (o : Option ℕ) → read_job_text s ≡ accepted t → read_job_text s' ≡ accepted (with_walk o t) → AnsweredAlike s s'
  -- an accepted text with the line taken out, put in or changed within its range is accepted, and says so
  pub accepts : (s : List ℕ) (t : JobText) → read_job_text s ≡ accepted t → (o : Option ℕ) → Allowed o → read_job_text (job_text_lem (with_walk o t)) ≡ accepted (with_walk o t)

-- E8. a part, and a text, "with the lines written out": a price line for each opening in place of a rule
abbrev pub part_out : ℕ → PartText → PartText
part_out n p = record { life = p.life; left = p.left; cover = p.cover; prices = written_out_lem n p.prices }

-- a text with the lines of each part's rule written out
abbrev pub rules_out : JobText → JobText
rules_out t = record { horizon = t.horizon; idles = t.idles; walk = t.walk; openings = t.openings; parts = map (part_out (length t.openings)) t.parts }

-- E8. "plans and verdicts are those of the job with the lines written out"
pub record RulesOut : Type 0 where
  -- what is said means the same
  pub means : (s : List ℕ) (t : JobText) → read_job_text s ≡ accepted t → meant t ≡ meant (rules_out t)
  -- the text with the lines written out is accepted, and says so
  pub accepts : (s : List ℕ) (t : JobText) → read_job_text s ≡ accepted t → read_job_text (job_text_lem (rules_out t)) ≡ accepted (rules_out t)
  -- and both are answered alike
  pub alike : (s : List ℕ) (t : JobText) → read_job_text s ≡ accepted t → AnsweredAlike s (job_text_lem (rules_out t))
