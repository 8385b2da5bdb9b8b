-- `shut_row` is the sum: by how many fours of lanes there are.
use Prim.Native.Nat.{ℕ}
use mathlib.Core.Path.{◌≡◌, sym, subst}
use native.Mathlib.Omega.{arith}
use Rattle.lane_rows.specs.Layout.{lanes_in}
use Rattle.lane_rows.specs.Rows.{sum_lanes}
use Rattle.held_lanes.specs.Tables.{ShutAsks, shut_lane}
use Rattle.held_lanes.proofs.shut_row.Goals as goal
use Rattle.held_lanes.proofs.shut_row.Goals.{Else-fours-lt4, Start}

-- what so many lanes ask, where the job has so many
asks : (s : Start) (k : ℕ) → lanes_in s.args.t.now ≡ k → let a = s.args in ShutAsks k a.u.now a.w.now a.«yes» a.«no»
asks s k z = let a = s.args in subst (λ (wide : ℕ). ShutAsks wide a.u.now a.w.now a.«yes» a.«no») z s.requires

-- what they give
sums : (s : Start) (k r : ℕ) → lanes_in s.args.t.now ≡ k → let a = s.args in r ≡ sum_lanes k (shut_lane a.w.now a.«yes» a.«no» a.set) → r ≡ sum_lanes (lanes_in a.t.now) (shut_lane a.w.now a.«yes» a.«no» a.set)
sums s k r z u = let a = s.args in subst (λ (wide : ℕ). r ≡ sum_lanes wide (shut_lane a.w.now a.«yes» a.«no» a.set)) (sym z) u

-- not one, two or three fours
four : (c : Else-fours-lt4) → lanes_in c.args.t.now ≡ 16
four c = omega (arith, c.if-fours-lt4.false, c.requires.narrow)

pub shut_lanes-requires : goal.shut_lanes-requires
shut_lanes-requires c = asks (goal.at.shut_lanes-requires c).Start 4 (omega (arith, c.if-fours-lt2.true, c.requires.some))

pub returns-then-fours-lt2 : goal.returns-then-fours-lt2
returns-then-fours-lt2 c = sums (goal.at.returns-then-fours-lt2 c).Start 4 c.shut_lanes.result (omega (arith, c.if-fours-lt2.true, c.requires.some)) c.shut_lanes.ensures

pub shut_lanes-requires-then-fours-lt3 : goal.shut_lanes-requires-then-fours-lt3
shut_lanes-requires-then-fours-lt3 c = asks (goal.at.shut_lanes-requires-then-fours-lt3 c).Start 8 (omega (arith, c.if-fours-lt3.true, c.if-fours-lt2.false))

pub returns-then-fours-lt3 : goal.returns-then-fours-lt3
returns-then-fours-lt3 c = sums (goal.at.returns-then-fours-lt3 c).Start 8 c.shut_lanes-then-fours-lt3.result (omega (arith, c.if-fours-lt3.true, c.if-fours-lt2.false)) c.shut_lanes-then-fours-lt3.ensures

pub shut_lanes-requires-then-fours-lt4 : goal.shut_lanes-requires-then-fours-lt4
shut_lanes-requires-then-fours-lt4 c = asks (goal.at.shut_lanes-requires-then-fours-lt4 c).Start 12 (omega (arith, c.if-fours-lt4.true, c.if-fours-lt3.false))

pub returns-then-fours-lt4 : goal.returns-then-fours-lt4
returns-then-fours-lt4 c = sums (goal.at.returns-then-fours-lt4 c).Start 12 c.shut_lanes-then-fours-lt4.result (omega (arith, c.if-fours-lt4.true, c.if-fours-lt3.false)) c.shut_lanes-then-fours-lt4.ensures

pub shut_lanes-requires-2 : goal.shut_lanes-requires-2
shut_lanes-requires-2 c = asks (goal.at.shut_lanes-requires-2 c).Start 16 (four (goal.at.shut_lanes-requires-2 c).Else-fours-lt4)

pub returns : goal.returns
returns c = sums (goal.at.returns c).Start 16 c.shut_lanes-2.result (four (goal.at.returns c).Else-fours-lt4) c.shut_lanes-2.ensures
