-- The plans of the job that a log leaves are the rests of the plans that begin with the log, and no others (`rests`): a plan of it, behind what the log did, is one of the whole job.
use mathlib.Core.Path.{◌≡◌, subst, sym}
use mathlib.Core.List.{List}
use Prim.Native.Nat.{ℕ}
use native.Mathlib.Omega.{arith}
use lib.ListN.{length}
use Rattle.model.specs.Model.{Plan, KeepsPart, KeepsLives}
use Rattle.model.proofs.Verdicts.{each_size}
use Rattle.jobs.specs.Valid.{ValidJob}
use Rattle.job_grammar.proofs.Accepted.{valid_text}
use Rattle.carry.specs.Carry.{Logged, carried}
use Rattle.carry.specs.Start.{continued, Starts, rest_of}
use Rattle.carry.proofs.Kin.{parts-length}
use Rattle.carry.proofs.Begun.{continued_starts, continued-rest, lives_begun}
use Rattle.log_grammar.proofs.Logs.{log_tells}
use Rattle.carry_texts.specs.Carries.{Carries, job_in, done_in}

-- each plan that keeps the new job's lives is such a rest
pub rests : (job log next : List ℕ) (c : Carries job log next) (rest : Plan) → KeepsLives (carried (job_in c) (done_in c)) rest
    → (plan : Plan) × Starts (job_in c) (done_in c) plan × (rest_of (job_in c) (done_in c) plan ≡ rest) × KeepsLives (job_in c) plan
rests job log next c rest keeps =
    let whole = job_in c in
    let done = done_in c in
    let left = carried whole done in
    let ok : ValidJob whole = (valid_text job c.text c.job_read).means.job in
    let logged : Logged whole done = (log_tells whole ok log c.said c.log_read).logged in
    let size : length rest.changes ≡ length whole.parts = omega (arith, each_size (KeepsPart left rest.stops) left.parts rest.changes keeps.parts, parts-length whole done) in
    let plan = continued whole done rest in
    let starts = continued_starts whole done logged rest in
    let same = continued-rest whole done logged rest size in
    (plan, starts, same, (lives_begun whole done plan starts ok.rising logged).1 (c.accepts.lives, subst (KeepsLives left) (sym same) keeps))
