use Prim.Native.Nat.{ℕ, ◌<◌}
use mathlib.Core.Path.{◌≡◌}
use lib.ListN.{get_or}
use Rattle.held_tables.proofs.put_leads.Given as goal

abbrev pub invariant-loop-c : goal.invariant-loop-c
invariant-loop-c l = (y : ℕ) → y < l.c → get_or l.place-items y 0 ≡ get_or l.classes.leads y 0
