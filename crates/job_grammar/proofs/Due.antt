-- The due step that the judge reports of an accepted text's job is the change before plus the life: the model's theorem, at what is known of an accepted job.
use Prim.Native.Nat.{ℕ, ◌<◌}
use native.Mathlib.Omega.{arith}
use mathlib.Core.Path.{◌≡◌}
use mathlib.Core.List.{List}
use lib.ListN.{length}
use Rattle.lines.specs.Parser.{accepted}
use Rattle.model.specs.Model.{Job, Plan}
use Rattle.model.specs.Verdict.{unkept, judged_of, no_part, part_at, LowestUnkept}
use Rattle.model.specs.Due.{DueIs}
use Rattle.model.proofs.Dues.{reports, judge_due}
use Rattle.job_grammar.specs.Grammar.{Given, read_job_lem}
use Rattle.jobs.specs.Valid.{ValidPart, ValidJob}
use Rattle.job_grammar.proofs.Accepted.{valid}
use Rattle.base.proofs.Lists.{all_at}

-- a part of a valid job is valid
pub part_at_lem : (job : Job) → ValidJob job → (i : ℕ) → i < length job.parts → ValidPart (length job.openings) (part_at job i)
part_at_lem job v i h = all_at (ValidPart (length job.openings)) job.parts no_part i v.parts h

module _ (s : List ℕ) (given : Given) (read : read_job_lem s ≡ accepted given) (plan : Plan) where
  -- the due step that the judge reports
  pub text_due : (cost part due : ℕ) → judged_of given.job cost plan ≡ unkept part due → (r : LowestUnkept given.job plan part due) × DueIs given.job plan part due r
  text_due cost part due e =
      let v = (valid s given read).job in
      let r = reports given.job plan part due cost e in
      (r, judge_due given.job plan part due v.rising (omega (arith, v.horizon_low)) r (part_at_lem given.job v r.place r.is_part).life_low)
