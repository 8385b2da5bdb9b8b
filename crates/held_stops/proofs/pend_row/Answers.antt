-- `pend_row` stores the row of a stop: by how many fours of lanes there are.
use Prim.Native.Nat.{ℕ}
use mathlib.Core.Path.{◌≡◌, sym, subst}
use mathlib.Core.List.{List}
use native.Mathlib.Omega.{arith}
use Rattle.base.specs.Filled.{FilledBy}
use Rattle.lane_rows.specs.Layout.{lanes_in}
use Rattle.lane_rows.specs.Rows.{Owing, next_row}
use Rattle.held_lanes.specs.Places.{pending_place}
use Rattle.held_stops.proofs.pend_row.Goals as goal
use Rattle.held_stops.proofs.pend_row.Goals.{Else-fours-lt4, Start}

-- what so many lanes ask, where the job has so many
asks : (s : Start) (k : ℕ) → lanes_in s.args.t.now ≡ k → let a = s.args in Owing k a.t.now a.w.now a.j a.rows
asks s k z = let a = s.args in subst (λ (wide : ℕ). Owing wide a.t.now a.w.now a.j a.rows) z s.requires

-- what they put
pends : (s : Start) (k : ℕ) (v : List ℕ) → lanes_in s.args.t.now ≡ k → let a = s.args in FilledBy (pending_place a.rows) (next_row a.t.now a.w.now a.j a.rows) k a.v.now v
    → FilledBy (pending_place a.rows) (next_row a.t.now a.w.now a.j a.rows) (lanes_in a.t.now) a.v.now v
pends s k v z u = let a = s.args in subst (λ (wide : ℕ). FilledBy (pending_place a.rows) (next_row a.t.now a.w.now a.j a.rows) wide a.v.now v) (sym z) u

-- not one, two or three fours
four : (c : Else-fours-lt4) → lanes_in c.args.t.now ≡ 16
four c = omega (arith, c.if-fours-lt4.false, c.requires.stack.narrow)

pub pend_lanes-requires : goal.pend_lanes-requires
pend_lanes-requires c = asks (goal.at.pend_lanes-requires c).Start 4 (omega (arith, c.if-fours-lt2.true, c.requires.stack.some))

pub returns-then-fours-lt2 : goal.returns-then-fours-lt2
returns-then-fours-lt2 c = pends (goal.at.returns-then-fours-lt2 c).Start 4 c.pend_lanes.new.v (omega (arith, c.if-fours-lt2.true, c.requires.stack.some)) c.pend_lanes.ensures

pub pend_lanes-requires-then-fours-lt3 : goal.pend_lanes-requires-then-fours-lt3
pend_lanes-requires-then-fours-lt3 c = asks (goal.at.pend_lanes-requires-then-fours-lt3 c).Start 8 (omega (arith, c.if-fours-lt3.true, c.if-fours-lt2.false))

pub returns-then-fours-lt3 : goal.returns-then-fours-lt3
returns-then-fours-lt3 c = pends (goal.at.returns-then-fours-lt3 c).Start 8 c.pend_lanes-then-fours-lt3.new.v (omega (arith, c.if-fours-lt3.true, c.if-fours-lt2.false)) c.pend_lanes-then-fours-lt3.ensures

pub pend_lanes-requires-then-fours-lt4 : goal.pend_lanes-requires-then-fours-lt4
pend_lanes-requires-then-fours-lt4 c = asks (goal.at.pend_lanes-requires-then-fours-lt4 c).Start 12 (omega (arith, c.if-fours-lt4.true, c.if-fours-lt3.false))

pub returns-then-fours-lt4 : goal.returns-then-fours-lt4
returns-then-fours-lt4 c = pends (goal.at.returns-then-fours-lt4 c).Start 12 c.pend_lanes-then-fours-lt4.new.v (omega (arith, c.if-fours-lt4.true, c.if-fours-lt3.false)) c.pend_lanes-then-fours-lt4.ensures

pub pend_lanes-requires-2 : goal.pend_lanes-requires-2
pend_lanes-requires-2 c = asks (goal.at.pend_lanes-requires-2 c).Start 16 (four (goal.at.pend_lanes-requires-2 c).Else-fours-lt4)

pub returns : goal.returns
returns c = pends (goal.at.returns c).Start 16 c.pend_lanes-2.new.v (four (goal.at.returns c).Else-fours-lt4) c.pend_lanes-2.ensures
