-- A range of a list: its entries, and how many they are.
use Prim.Native.Nat.{ℕ, ◌+◌, ◌-◌, ◌<◌, ◌≤◌}
use mathlib.Core.Path.{◌≡◌, ◌∙◌}
use mathlib.Core.List.{List}
use native.Mathlib.Omega.{arith}
use lib.ListN.{length, get_or, take, drop, length-take, length-drop}
use lib.Seq.{get_or-take, get_or-drop}

-- an entry of a window of the list is the list's, further on
pub window_at : (u : List ℕ) (at n i : ℕ) → i < n → get_or (take (at + n - at) (drop at u)) i 0 ≡ get_or u (at + i) 0
window_at u at n i l = get_or-take (at + n - at) (drop at u) i 0 (omega (arith, l)) ∙ get_or-drop at u i 0

-- a window inside the list has its length
pub window_length : (u : List ℕ) (at n : ℕ) → at + n ≤ length u → length (take (at + n - at) (drop at u)) ≡ n
window_length u at n l = simp (length-take, length-drop) (omega (arith, l))
