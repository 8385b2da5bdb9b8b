-- The verdict on the lives in the model's terms.
use Rattle.std.specs.Prelude.{ℕ, Option, Some, None, Result, Ok, Err}
use Rattle.model.specs.Verdict as model
use Rattle.plan_lives.specs.declared.lives.Late.{Late}

-- one part's gaps: none is too long, or the due step at the first that is
abbrev pub model_gaps : Option ℕ → model.Gaps
model_gaps None = model.in_time_lem2
model_gaps (Some due) = model.too_long due

-- the verdict on the lives: every part is kept, or the lowest that is not
abbrev pub model_verdict : Result (Unit {0}) Late → model.Verdict
model_verdict (Ok done) = model.keeps
model_verdict (Err late) = model.late late.part late.due
