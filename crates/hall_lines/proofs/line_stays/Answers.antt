-- `line_stays` looks at the stop where the next holding part is not removed.
use Prim.Native.Nat.{ℕ, ◌+◌, ◌≤◌}
use mathlib.Core.Path.{◌≡◌, refl, sym, ap, subst, ◌∙◌}
use native.Mathlib.Omega.{arith}
use lib.Bits.{bit_or}
use lib.ListN.{get_or}
use Rattle.lane_rows.specs.Layout.{lanes_in}
use Rattle.lane_rows.specs.Tables.{sum_where}
use Rattle.lane_rows.specs.Rows.{sum_lanes}
use Rattle.held_lanes.specs.Places.{need_lanes_place}
use Rattle.held_stops.specs.Stops.{stop_lane}
use Rattle.search_state.specs.State.{open_s}
use Rattle.hall_lines.specs.Levels.{rows_in_lem}
use Rattle.hall_lines.proofs.Lines.{stop_needs, stays_rises, stays_fits, stays_none, stays_some}
use Rattle.hall_lines.proofs.line_stays.Goals as goal
use Rattle.hall_lines.proofs.line_stays.Goals.{After-stay_sums, Start}

-- the part sums where the stop is shut to these lanes
abbrev sums : Start → ℕ → ℕ
sums s x = let a = s.args in sum_lanes (lanes_in a.tables.now.t) (stop_lane a.tables.now.t a.own.now.w (a.at + 1) (rows_in_lem a.own.now.n a.at) (bit_or a.p.shut x))

pub removal_term-h-requires-clause-term_asks : goal.removal_term-h-requires-clause-term_asks
removal_term-h-requires-clause-term_asks c = (stop_needs c.requires.1.1.1).0

pub stay_sums-requires : goal.stay_sums-requires
stay_sums-requires c =
    let s = (goal.at.stay_sums-requires c).Start in
    let re = c.requires.1.1.1 in (
      (stop_needs re).1,
      (λ h. subst (λ (x : ℕ). c.args.p.sums ≤ sums s x) (sym c.number.ensures.value) (stays_rises re c.removal_term-h.result c.removal_term-h.ensures h)),
      omega (arith, c.args.test.room),
      re.given.low,
    )

-- what the test said
tested : (c : After-stay_sums) → let a = c.args in let h = c.removal_term-h.result in c.stay_sums.result ≡ open_s a.test.limit (a.test.rest + h) (sum_where h (sum_lanes (lanes_in a.tables.now.t) (stop_lane a.tables.now.t a.own.now.w (a.at + 1) (rows_in_lem a.own.now.n a.at) (bit_or a.p.shut (get_or a.tables.now.u (need_lanes_place a.p.next) 0))))) a.test.s
tested c = let a = c.args in let h = c.removal_term-h.result in c.stay_sums.ensures.opens ∙ ap (λ (x : ℕ). open_s a.test.limit (a.test.rest + h) (sum_where h (sum_lanes (lanes_in a.tables.now.t) (stop_lane a.tables.now.t a.own.now.w (a.at + 1) (rows_in_lem a.own.now.n a.at) (bit_or a.p.shut x)))) a.test.s) c.number.ensures.value

pub returns-in_default : goal.returns-in_default
returns-in_default c = let a = c.args in
    λ sheet ds paid re. stays_none re c.removal_term-h.result c.removal_term-h.ensures a.test.limit a.test.rest a.test.s c.stay_sums.new.w c.stay_sums.ensures.frame (sym (tested (goal.at.returns-in_default c).After-stay_sums) ∙ c.in_default.is)

pub returns : goal.returns
returns c =
    let a = c.args in
    let h = c.removal_term-h.result in
    let y = c.in-Sum.sums in
    λ sheet ds paid re.
    let e = sym (tested (goal.at.returns c).After-stay_sums) ∙ c.in-Sum.is in
    let f = stays_fits re h c.removal_term-h.ensures a.test.limit a.test.rest a.test.s y c.args.test.room e in
    stays_some re h c.removal_term-h.ensures a.test.limit a.test.rest a.test.s c.stay_sums.new.w c.stay_sums.ensures.frame (bit_or a.p.shut c.number.result) y (a.test.rest + h + y) c.stays-stop.result (ap (bit_or a.p.shut) c.number.ensures.value) c.stays-stop.ensures f.0 f.1 e refl
