-- What the call promises, over the job text, the walk number of the call, the room lent and the answer.
-- The promise is no equation: which floor is said with 7, how many of the planner's first nodes are looked at for a plan in hand, and whether 7 is said, is free within these sentences.
use Rattle.std.specs.Prelude.{ℕ, ◌≤◌, ◌<◌, ◌≡◌, Option, None, Some, List, ◌++◌, ◌↔◌, ◌⊎◌, length}
use Rattle.lines.specs.Text.{line_of}
use Rattle.lines.specs.Parser.{refused}
use Rattle.model.specs.Model.{Plan, HasPlan}
use Rattle.model.specs.Promise.{BestPlan, Any}
use Rattle.job_grammar.specs.Grammar.{Given, read_job_lem}
use Rattle.job_grammar.specs.Reading.{JobReading, job_in}
use Rattle.answers.specs.Said.{Said, Refuses, plainly, lent, Replied}
use Rattle.answers.specs.declared.Answer.{Answer}
use Rattle.plan_printing.specs.Printed.{printed_lines}
use Rattle.planning.specs.Plan.{search_lines, walk_number_lem, plan_said}
use Rattle.planning.specs.Promise.{PrintsBehind}
use Rattle.optimum_search.specs.Ends.{Beyond, InHand, NoneInHand}
use Rattle.optimizing.specs.Optimum.{floor_lines, optimum_room}

-- with 0: the plan keeps every life, states its true cost, costs no more than any plan of the model that keeps every life, and is the tie rule's choice; its lines are read back as this plan and this cost, and
-- the judge accepts them; and all that is written
pub record PrintsBest (text : List ℕ) (given : Given) (s : Said) : Type 0 where
  pub cost : ℕ
  pub plan : Plan
  pub best : BestPlan given.job Any cost plan
  pub prints : PrintsBehind text given (line_of "result=" 0) s cost plan
  pub all : s.bytes ≡ line_of "result=" 0 ++ printed_lines given cost plan

-- with 7 and a plan: it keeps every life and states its true cost, its lines are read back so, and the judge accepts them; and all that is written, so that the lines of a plan without stops stand too, which E5 would read of none
pub record PrintsInHand (text : List ℕ) (walk : ℕ) (given : Given) (floor : ℕ) (s : Said) (cost : ℕ) : Type 0 where
  pub plan : Plan
  pub in_hand : InHand given.job (walk_number_lem walk) cost plan
  pub prints : PrintsBehind text given (floor_lines floor) s cost plan
  pub all : s.bytes ≡ floor_lines floor ++ printed_lines given cost plan

-- with 7 and no plan: the floor alone is written, and none of the first nodes of the planner's walk is a plan
pub record PrintsNone (walk : ℕ) (given : Given) (floor : ℕ) (s : Said) : Type 0 where
  pub none : NoneInHand given.job (walk_number_lem walk)
  pub all : s.bytes ≡ floor_lines floor

-- what stands behind the floor: a plan in hand of this cost, or nothing where there is none
abbrev pub PrintsSo : List ℕ → ℕ → Given → ℕ → Said → Option ℕ → Type 0
PrintsSo text walk given floor s None = PrintsNone walk given floor s
PrintsSo text walk given floor s (Some cost) = PrintsInHand text walk given floor s cost

-- with 7: no plan costs less than the floor that is written, and neither the planner's walk nor one of those by shares ends within the nodes that it may have (`Beyond`)
pub record CutShort (text : List ℕ) (walk : ℕ) (given : Given) (s : Said) : Type 0 where
  pub floor : ℕ
  pub in_hand : Option ℕ
  pub beyond : Beyond given.job (walk_number_lem walk) floor in_hand
  pub writes : PrintsSo text walk given floor s in_hand

-- the same bytes behind `result` as behind the planner's `floor`
pub record SameBehind (s planner : Said) : Type 0 where
  pub nodes : ℕ
  pub floor : ℕ
  pub behind : List ℕ
  pub here : s.bytes ≡ line_of "result=" 0 ++ behind
  pub there : planner.bytes ≡ search_lines 0 nodes floor ++ behind

-- what is promised of the answer s to a text and a walk number, where the output has `room` bytes
pub record OptimumPromise (text : List ℕ) (walk room : ℕ) (s : Said) : Type 0 where
  -- 8: the output is shorter than 16,384 bytes
  pub says_8 : (s.result ≡ 8) ↔ (room < optimum_room)
  -- 6: exactly if the job is accepted and no plan keeps the lives
  pub says_6 : (s.result ≡ 6) ↔ ((optimum_room ≤ room) × ((r : JobReading text) × (HasPlan (job_in r) → ⊥)))
  -- 0 or 7: exactly if the job is accepted and has a plan
  pub says_0_or_7 : ((s.result ≡ 0) ⊎ (s.result ≡ 7)) ↔ ((optimum_room ≤ room) × ((r : JobReading text) × HasPlan (job_in r)))
  -- of an accepted job no text and no line is at fault
  pub no_fault : optimum_room ≤ room → JobReading text → s ≡ plainly s.result s.bytes
  -- what is written with them
  pub writes_6 : s.result ≡ 6 → s.bytes ≡ line_of "result=" 6
  pub writes_0 : (r : JobReading text) → s.result ≡ 0 → PrintsBest text r.given s
  pub writes_7 : (r : JobReading text) → s.result ≡ 7 → CutShort text walk r.given s
  -- at every walk number at which the planner says 0 it writes the same plan
  pub as_planner : s.result ≡ 0 → (other : ℕ) → (plan_said text other).result ≡ 0 → SameBehind s (plan_said text other)
  -- whatever else is an answer of 0 to the text, at any walk number, is the same bytes
  pub same : (r : JobReading text) → s.result ≡ 0 → (other : Said) → PrintsBest text r.given other → other.bytes ≡ s.bytes
  -- a fault of the job text
  pub job_fault : optimum_room ≤ room → (number line : ℕ) → read_job_lem text ≡ refused number line → Refuses 1 text number line s

-- what is promised of the numbers handed over and of every byte of the output, which held d before and holds e after: they are those of an answer that keeps the promise
pub record Answered (text : List ℕ) (walk : ℕ) (d e : List ℕ) (r : Answer) : Type 0 where
  pub said : Said
  pub replied : Replied optimum_room said d e r
  pub promise : OptimumPromise text walk (length d) (lent optimum_room (length d) said)
