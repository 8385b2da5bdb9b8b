-- R1 to R5, R12, R13. The numbers that a job text's fault can have.
use Rattle.std.specs.Prelude.{ℕ, ◌≤◌, ◌⊎◌}

-- R20, E7.14, E11. the last number of a fault of a job text's line; the others are 2 to 5, and from 12 on
abbrev pub last_fault : ℕ
last_fault = 13

-- 1 to 5, or 12 to the last
abbrev pub JobFault : ℕ → Type 0
JobFault n = ((1 ≤ n) × (n ≤ 5)) ⊎ ((12 ≤ n) × (n ≤ last_fault))
