-- E14.10. Which numbers the fault of a hall text can have.
use Rattle.std.specs.Prelude.{ℕ, ◌≡◌, ◌⊎◌}
use Rattle.job_grammar.specs.Faults.{JobFault}

-- the numbers of a job's own faults, and 14
abbrev pub HallFault : ℕ → Type 0
HallFault n = JobFault n ⊎ (n ≡ 14)
