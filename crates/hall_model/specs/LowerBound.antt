-- A node's lower bound, and the hall plan of a full node. E14.5. "An estimate is the sum of the lines' estimates and the calls decided."
use Rattle.std.specs.Prelude.{Bool, List, map, ℕ}
use Rattle.branch.specs.declared.Bound.{Bound}
use Rattle.branch.specs.declared.Bound.TheVariants.{Sum}
use Rattle.branch.specs.Lower.{add, total}
use Rattle.model.specs.Model.{Plan}
use Rattle.model.specs.LowerBound.{bound_of, plan_at}
use Rattle.hall_model.specs.Hall.{Hall, sum_of}
use Rattle.hall_model.specs.Agenda.{Line, lines_of, name_for, calls_at}

-- E14.5. a line's estimate, at its own decisions
abbrev pub line_bound : Hall → Line → List Bool → Bound
line_bound hall ln p = bound_of ln.job (name_for hall ln p)

-- these calls at n each
abbrev pub priced : ℕ → List Bool → ℕ
priced n cs = sum_of (map (λ (c : Bool). n) cs)

-- E14.5. "the calls decided", at the price of a call each
abbrev pub called_at : Hall → List Bool → ℕ
called_at hall p = priced hall.call (calls_at hall p)

-- E14.5. "the sum of the lines' estimates and the calls decided": the lower bound that the search prunes by
unfoldable pub hall_bound : Hall → List Bool → Bound
hall_bound hall p = add (Sum (called_at hall p)) (total (line_bound hall) (lines_of hall) p)

-- a line's plan at a full node is that of its own decisions
abbrev pub line_plan : Hall → List Bool → Line → Plan
line_plan hall s ln = plan_at ln.job (name_for hall ln s)

-- the hall plan of a full node
abbrev pub hall_plan_at : Hall → List Bool → List Plan
hall_plan_at hall s = map (line_plan hall s) (lines_of hall)
