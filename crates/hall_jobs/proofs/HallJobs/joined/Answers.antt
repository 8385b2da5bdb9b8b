-- `joined` writes the line behind the others: the first so many are those, and it.
use Prim.Native.Nat.{◌+◌, ◌<◌}
use mathlib.Core.Path.{◌≡◌, sym, subst}
use mathlib.Core.List.{List, [], ◌∷◌, ◌++◌, map}
use native.Mathlib.Omega.{arith}
use borrow.Author.Rules.{rules}
use lib.ListN.{take, set}
use Rattle.base.proofs.Arrays.{map-take_more}
use Rattle.jobs.specs.Views.{job_of}
use Rattle.base.proofs.Lists.{firsts_size}
use Rattle.jobs.specs.declared.accepted.Accepted.{Accepted}
use Rattle.model.specs.Model.{Job}
use Rattle.hall_model.specs.Hall.{Hall, Proper}
use Rattle.hall_model.specs.Limits.{Fits}
use Rattle.hall_jobs.specs.Hall.{line_of_lem}
use Rattle.hall_jobs.specs.declared.HallJobs.{HallJobs}
use Rattle.hall_jobs.specs.Views.{jobs_of}
use Rattle.hall_jobs.proofs.Joined.{proper_more, fits_more}
use Rattle.hall_jobs.proofs.HallJobs.joined.Goals as goal

-- the lines behind the writing
lines_then : (h : HallJobs) (a : Accepted) → h.count < 4 → map line_of_lem (take (h.count + 1) (set h.jobs h.count a)) ≡ jobs_of h ++ (job_of a.job ∷ [])
lines_then h a l = map-take_more line_of_lem h.count h.jobs a (omega (arith, l, h.long))

pub invariant_of-result : goal.invariant_of-result
invariant_of-result c =
    let h = c.args.self in
    let a = c.args.job.now in
    let e = sym (lines_then h a c.requires.few) in
    let hall : List Job → Hall = λ jobs. record { call = h.call; jobs = jobs } in
    let size = firsts_size line_of_lem h.jobs h.count (omega (arith, h.few, h.long)) in
    record {
      long = search rules;
      few = omega (arith, c.requires.few);
      fits = subst (λ (jobs : List Job). Fits (hall jobs)) e (fits_more h.call (job_of a.job) (jobs_of h) (omega (arith, size, c.requires.few)) h.fits c.requires.joins);
      proper = subst (λ (jobs : List Job). Proper (hall jobs)) e (proper_more h.call (job_of a.job) (jobs_of h) h.fits.some h.proper a.valid.rising c.requires.joins);
    }

pub returns : goal.returns
returns c = let h = c.args.self in λ i. record { call = h.call; jobs = lines_then h c.args.job.now c.requires.few i }
