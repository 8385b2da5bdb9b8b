-- What the hall planner promises, over the hall text, the walk number of the call, the room lent and the answer.
use Rattle.std.specs.Prelude.{ℕ, ◌≤◌, ◌<◌, ◌≡◌, List, [], ◌∷◌, ◌++◌, ◌↔◌}
use Rattle.lines.specs.Text.{line_of}
use Rattle.lines.specs.Parser.{accepted, refused}
use Rattle.branch.specs.Planning.{no_plan_lem2, cut_none, cut, optimum, whole_count}
use Rattle.model.specs.Limits.{most_walk}
use Rattle.model.specs.Model.{Plan, cost_of_lem}
use Rattle.job_grammar.specs.Grammar.{JobText}
use Rattle.job_grammar.specs.Rendering.{job_text_lem}
use Rattle.plan_grammar.specs.Grammar.{read_plan_lem}
use Rattle.answers.specs.Said.{Said, Refuses, plainly, lent}
use Rattle.judging.specs.Judge.{cost_lines, judge_said}
use Rattle.planning.specs.Plan.{search_lines, walk_number_lem}
use Rattle.hall_model.specs.Hall.{HasPlans, SomeWithout}
use Rattle.hall_model.specs.Promise.{HallAnswer, hall_problem}
use Rattle.hall_model.specs.Promise as model
use Rattle.job_grammar.specs.Reading.{meant_job}
use Rattle.hall_grammar.specs.Grammar.{HallText, meant_hall}
use Rattle.hall_grammar.specs.Rendering.{hall_text}
use Rattle.hall_grammar.specs.Reading.{HallReading, hall_in, read_hall_lem}
use Rattle.hall_printing.specs.Lines.{hall_reply}
use Rattle.hall_planning.specs.Hall.{hall_said, hall_room}

-- ---- what is printed of the plans

-- the plan lines of one line: read against its job they say its plan and what that costs the line, without calls; and the judge, given the line's own job text as it stands in the hall's, accepts them with this cost
pub record PrintsLine (t : JobText) (plan : Plan) (lines : List ℕ) : Type 0 where
  pub reads_back : read_plan_lem (meant_job t) lines ≡ accepted (record { cost = cost_of_lem (meant_job t) plan; plan = plan })
  pub judged : judge_said (job_text_lem t) lines ≡ plainly 0 (cost_lines 0 (cost_of_lem (meant_job t) plan))

-- "each line's plan lines in order": the bytes are those of each line, one behind the other
abbrev pub PrintsLines : List JobText → List Plan → List ℕ → Type 0
PrintsLines [] [] bytes = bytes ≡ []
PrintsLines [] (plan ∷ plans) bytes = ⊥
PrintsLines (t ∷ ts) [] bytes = ⊥
PrintsLines (t ∷ ts) (plan ∷ plans) bytes = (lines : List ℕ) × (behind : List ℕ) × (bytes ≡ lines ++ behind) × PrintsLine t plan lines × PrintsLines ts plans behind

-- E14.8. behind `floor` stands "`cost` with calls included and then each line's plan lines in order, without `costlow`"
pub record PrintsPlans (said : HallText) (s : Said) (nodes floor cost : ℕ) (plans : List Plan) : Type 0 where
  pub lines : List ℕ
  pub written : s.bytes ≡ search_lines s.result nodes floor ++ (line_of "cost=" cost ++ lines)
  pub each : PrintsLines said.jobs plans lines

-- of an answer with plans; without any nothing stands behind `floor`
abbrev pub PrintsHall : HallText → Said → HallAnswer → Type 0
PrintsHall said s no_plan_lem2 = Unit {0}
PrintsHall said s (cut_none nodes floor) = s.bytes ≡ search_lines 7 nodes floor
PrintsHall said s (cut nodes floor cost plans) = PrintsPlans said s nodes floor cost plans
PrintsHall said s (optimum nodes floor cost plans) = PrintsPlans said s nodes floor cost plans

-- the answer s is written and handed over for an answer of the model that keeps every clause of the model's promise: 6, 7 and 0 exactly when they are due, nodes, floor, and of a hall plan that it keeps
-- every life, states its true cost with calls included, is least over all hall plans (with 7: over the nodes walked), is the tie rule's choice, and costs the sum of the lines' own least costs if a call is free
pub record ReportsHall (text : List ℕ) (walk : ℕ) (said : HallText) (s : Said) : Type 0 where
  -- the hall text is the lines `machines` and `call`, and behind them each line's job text
  pub stands : text ≡ hall_text said
  pub answer : HallAnswer
  pub promise : model.HallAnswerPromise (meant_hall said) (walk_number_lem walk) answer
  pub says : s ≡ hall_reply (meant_hall said) answer
  pub prints : PrintsHall said s answer

-- ---- the promise

-- what is promised of the answer s to a hall text and a walk number, where the output has `room` bytes
pub record HallPromise (text : List ℕ) (walk room : ℕ) (s : Said) : Type 0 where
  -- R8. "8: the output is shorter than 16,384 bytes."
  pub says_8 : (s.result ≡ 8) ↔ (room < hall_room)
  -- E14.7. "The result is 6 if some line has no plan.": exactly if the text is accepted and some line has none
  pub says_6 : (s.result ≡ 6) ↔ ((hall_room ≤ room) × ((r : HallReading text) × SomeWithout (hall_in r)))
  -- E14.7. "7 exactly if the whole walk has more points than that number"
  pub says_7 : (s.result ≡ 7) ↔ ((hall_room ≤ room) × ((r : HallReading text) × (HasPlans (hall_in r) × (walk_number_lem walk < whole_count (hall_problem (hall_in r))))))
  -- E14.7. "Otherwise 0"
  pub says_0 : (s.result ≡ 0) ↔ ((hall_room ≤ room) × ((r : HallReading text) × (HasPlans (hall_in r) × (whole_count (hall_problem (hall_in r)) ≤ walk_number_lem walk))))
  -- E14.8, E14.9. what is written with them, and what it is worth
  pub answers : hall_room ≤ room → (r : HallReading text) → ReportsHall text walk r.said s
  -- E14.2, E14.3, E14.10. a fault of the hall text, which is text 1, "its lines counted through"; R14. of a job that doesn't join, on that job's first line (`job_behind`)
  pub text_fault : hall_room ≤ room → (number line : ℕ) → read_hall_lem text ≡ refused number line → Refuses 1 text number line s
  -- with 0 any larger walk number gives the same bytes
  pub any_walk : s.result ≡ 0 → (other : ℕ) → walk ≤ other → lent hall_room room (hall_said text other) ≡ s
  -- E10. "a number above 4000000000 counts as 4000000000"
  pub above : most_walk ≤ walk → lent hall_room room (hall_said text most_walk) ≡ s
