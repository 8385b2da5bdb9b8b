-- `stop_row` writes the row of a stop: by how many fours of lanes there are.
use Prim.Native.Nat.{ℕ}
use mathlib.Core.Path.{◌≡◌, sym, subst}
use mathlib.Core.List.{List}
use native.Mathlib.Omega.{arith}
use Rattle.base.specs.Filled.{FilledBy}
use Rattle.lane_rows.specs.Layout.{lanes_in, row_place}
use Rattle.held_lanes.specs.Tables.{shut_row}
use Rattle.held_lanes.proofs.stop_row.Goals as goal
use Rattle.held_lanes.proofs.stop_row.Goals.{Else-fours-lt4, Start}

-- what so many lanes put, where the job has so many
puts : (s : Start) (k : ℕ) (w : List ℕ) → lanes_in s.args.t.now ≡ k → let a = s.args in FilledBy (row_place a.rows) (shut_row a.v.now a.rows a.set) k a.w.now w
    → FilledBy (row_place a.rows) (shut_row a.v.now a.rows a.set) (lanes_in a.t.now) a.w.now w
puts s k w z u = let a = s.args in subst (λ (wide : ℕ). FilledBy (row_place a.rows) (shut_row a.v.now a.rows a.set) wide a.w.now w) (sym z) u

-- not one, two or three fours
four : (c : Else-fours-lt4) → lanes_in c.args.t.now ≡ 16
four c = omega (arith, c.if-fours-lt4.false, c.requires.narrow)

pub returns-then-fours-lt2 : goal.returns-then-fours-lt2
returns-then-fours-lt2 c = puts (goal.at.returns-then-fours-lt2 c).Start 4 c.put_lanes.new.w (omega (arith, c.if-fours-lt2.true, c.requires.some)) c.put_lanes.ensures

pub returns-then-fours-lt3 : goal.returns-then-fours-lt3
returns-then-fours-lt3 c = puts (goal.at.returns-then-fours-lt3 c).Start 8 c.put_lanes-then-fours-lt3.new.w (omega (arith, c.if-fours-lt3.true, c.if-fours-lt2.false)) c.put_lanes-then-fours-lt3.ensures

pub returns-then-fours-lt4 : goal.returns-then-fours-lt4
returns-then-fours-lt4 c = puts (goal.at.returns-then-fours-lt4 c).Start 12 c.put_lanes-then-fours-lt4.new.w (omega (arith, c.if-fours-lt4.true, c.if-fours-lt3.false)) c.put_lanes-then-fours-lt4.ensures

pub returns : goal.returns
returns c = puts (goal.at.returns c).Start 16 c.put_lanes-2.new.w (four (goal.at.returns c).Else-fours-lt4) c.put_lanes-2.ensures
