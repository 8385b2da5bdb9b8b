-- R1 to R3, R9. The numbers that a plan text's fault can have.
use Rattle.std.specs.Prelude.{ℕ, ◌≤◌, ◌≡◌, ◌⊎◌}

-- 1 to 3, or 9
abbrev pub PlanFault : ℕ → Type 0
PlanFault n = ((1 ≤ n) × (n ≤ 3)) ⊎ (n ≡ 9)
