-- An accepted text's job in the papers' own terms: its plans are those of the published model. That model's theorems, at what is known of an accepted job.
use Prim.Native.Nat.{ℕ}
use mathlib.Core.Path.{◌≡◌}
use mathlib.Core.List.{List, []}
use Rattle.lines.specs.Parser.{accepted}
use Rattle.model.specs.Model.{Job, Plan}
use Rattle.published.specs.Published.{Published, PublishedRunning, ProperJob, Tied}
use Rattle.published.proofs.Published.{published, published_running}
use Rattle.job_grammar.specs.Grammar.{Given, read_job_lem}
use Rattle.jobs.specs.Valid.{ValidJob}
use Rattle.job_grammar.proofs.Accepted.{valid}
use Rattle.job_grammar.proofs.Due.{part_at_lem}

-- a valid job has what the published model asks
proper : (job : Job) → ValidJob job → ProperJob job
proper job v = record {
  openings = v.rising;
  idles = v.idles;
  left_high = λ i h. (part_at_lem job v i h).left_high;
  prices = λ i h. (part_at_lem job v i h).priced;
}

module _ (s : List ℕ) (given : Given) (read : read_job_lem s ≡ accepted given) (plan : Plan) where
  -- without idle lines: a plan keeps the lives exactly if it satisfies (2) and (3) of 001 for every part and every change is at a stop, and its cost is the objective of 000
  pub text_published : given.job.idles ≡ [] → Tied given.job plan (Published given.job plan)
  text_published none = published given.job (proper given.job (valid s given read).job) plan none

  -- with or without them: the same over windows of running steps
  pub text_published_running : Tied given.job plan (PublishedRunning given.job plan)
  text_published_running = published_running given.job (proper given.job (valid s given read).job) plan
