-- A window of sixteen in a list: its numbers are the list's.
use Prim.Native.Nat.{ℕ, ◌+◌, ◌-◌, ◌≤◌, ◌<◌}
use mathlib.Core.Path.{◌≡◌, ◌∙◌}
use mathlib.Core.List.{List}
use native.Mathlib.Omega.{arith}
use lib.ListN.{length, get_or, take, drop, length-take, length-drop}
use lib.Seq.{get_or-take, get_or-drop}
use Rattle.lane_rows.specs.Layout.{lane_count_lem}

module _ (s : List ℕ) (a : ℕ) (h : a + lane_count_lem ≤ length s) where
  -- number q of the window that begins at a is the list's number a + q
  pub window_at : (q : ℕ) → q < lane_count_lem → get_or (take (a + lane_count_lem - a) (drop a s)) q 0 ≡ get_or s (a + q) 0
  window_at q l = get_or-take (a + lane_count_lem - a) (drop a s) q 0 (omega arith) ∙ get_or-drop a s q 0

  -- the window has a number for each of the sixteen lanes
  pub window_length : lane_count_lem ≤ length (take (a + lane_count_lem - a) (drop a s))
  window_length = simp (length-take, length-drop) (omega arith)
