-- `open_rows` hands over the part sums of a node that is walked on: by `tested` with its term, and with its part sums, which are no less than x.
use Prim.Native.Nat.{ℕ, ◌*◌, ◌≤◌}
use mathlib.Core.Path.{◌≡◌, refl, ap, ◌∙◌}
use native.Mathlib.Omega.{arith}
use lib.ListN.{get_or}
use Rattle.lane_rows.specs.Layout.{lane_count_lem, inf, suffix_base, term_place, lanes_in}
use Rattle.lane_rows.specs.Rows.{lane, sum_lanes, term_at}
use Rattle.search_state.specs.State.{due_s}
use Rattle.search_state.proofs.States.{sums_low}
use Rattle.search_state.proofs.Dues.{rows_drop, rows_fit, rows_open}
use Rattle.search_state.proofs.Search.open_rows.Goals as goal
use Rattle.search_state.proofs.Search.open_rows.Goals.{Start, After-tested}

-- the lanes' sum
abbrev sum : Start → ℕ
sum s = let a = s.args in sum_lanes (lanes_in a.t.now) (λ (q : ℕ). lane a.t.now a.w.now suffix_base a.j q a.rows)

low : (s : Start) → sum s ≤ lane_count_lem * inf
low s = let a = s.args in sums_low a.t.now a.w.now a.j a.rows (sum s) s.requires.0.stack.narrow refl

-- it is tested with its term: the one that is read, by the mark that is
told : (c : After-tested) → let a = c.args in c.tested.result ≡ due_s a.limit a.spent (term_at a.t.now a.w.now a.j a.rows) a.x a.self
told c = let a = c.args in
    c.tested.ensures
    ∙ ap (λ (h : ℕ). due_s a.limit a.spent h a.x a.self) c.term.ensures
    ∙ ap (λ (m : ℕ). due_s a.limit a.spent (get_or a.t.now (term_place a.j m) 0) a.x a.self) c.last_mark.ensures

pub tested-requires : goal.tested-requires
tested-requires c = omega (arith, c.requires.1, c.requires.2, low (goal.at.tested-requires c).Start)

pub returns-in_default-clause-opens : goal.returns-in_default-clause-opens
returns-in_default-clause-opens c = let a = c.args in
    let s = (goal.at.returns-in_default-clause-opens c).Start in
    rows_drop a.limit a.spent (term_at a.t.now a.w.now a.j a.rows) a.x a.self (told (goal.at.returns-in_default-clause-opens c).After-tested) (sum s) c.in_default.is (λ _. c.requires.1)

pub open-requires : goal.open-requires
open-requires c = let a = c.args in
    let s = (goal.at.open-requires c).Start in
    λ u f. rows_fit a.limit a.spent (term_at a.t.now a.w.now a.j a.rows) a.x a.self (told (goal.at.open-requires c).After-tested) (sum s) c.in-Sum.due c.lane_sum.result u c.in-Sum.is c.requires.2 (low s) c.lane_sum.ensures.sum f

pub returns-clause-opens : goal.returns-clause-opens
returns-clause-opens c = let a = c.args in
    let s = (goal.at.returns-clause-opens c).Start in
    c.«open».ensures ∙ rows_open a.limit a.spent (term_at a.t.now a.w.now a.j a.rows) a.x a.self (told (goal.at.returns-clause-opens c).After-tested) (sum s) c.in-Sum.due c.lane_sum.result c.in-Sum.is c.lane_sum.ensures.sum
