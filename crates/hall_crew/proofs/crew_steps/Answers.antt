-- `crew_steps` looks at each step of the horizon.
use Prim.Native.Nat.{ℕ, zero, suc, ◌+◌, ◌-◌, ◌<◌}
use mathlib.Core.Path.{◌≡◌, refl, sym, ap, subst, ◌∙◌}
use mathlib.Core.Bool.{cond}
use mathlib.Core.List.{List, [], ◌∷◌, ◌++◌, append-nil}
use native.Mathlib.Omega.{arith}
use native.Mathlib.Numerals.{add-one}
use lib.ListN.{length, get_or, take, replicate}
use Rattle.model.specs.Model.{Job}
use Rattle.hall_model.specs.Hall.{horizon_of}
use Rattle.hall_model.specs.Agenda.{some_open, open_steps, crew_steps}
use Rattle.hall_steps.specs.Steps.{level_in}
use Rattle.hall_jobs.specs.declared.HallJobs.{HallJobs}
use Rattle.hall_jobs.specs.Views.{jobs_of, hall_of}
use Rattle.hall_jobs.proofs.Lines.{lines_count, horizon_is}
use Rattle.hall_crew.specs.Crew.{opened_in, Rowed}
use Rattle.hall_crew.proofs.Openings.{crew_few}
use Rattle.hall_crew.proofs.Rows.{steps_on, steps_left, crew_table}
use Rattle.hall_crew.proofs.crew_steps.Goals as goal

-- no line has an opening before the first row
none_yet : (d : ℕ) → ◌≡◌ {A = ℕ} (get_or (0 ∷ 0 ∷ 0 ∷ 0 ∷ []) d 0) 0
none_yet zero = refl
none_yet (suc zero) = refl
none_yet (suc (suc zero)) = refl
none_yet (suc (suc (suc zero))) = refl
none_yet (suc (suc (suc (suc d)))) = refl

none_before : (k d : ℕ) (job : Job) → k ≡ 0 → level_in (replicate 65 (0 ∷ 0 ∷ 0 ∷ 0 ∷ [])) k d ≡ opened_in job (take k [])
none_before k d job e = ap (λ (j : ℕ). level_in (replicate 65 (0 ∷ 0 ∷ 0 ∷ 0 ∷ [])) j d) e ∙ none_yet d ∙ sym (ap (λ (j : ℕ). opened_in job (take j [])) e)

pub loop-step-init : goal.loop-step-init
loop-step-init c =
    let h = c.args.hall.now in
    let T = horizon_of (jobs_of h) in
    let z : T + 1 - 1 ≡ T = omega arith in
    record {
      done = [];
      left = ap (open_steps (jobs_of h) 1) z;
      rowed = record { count = refl; few = omega arith; rows = λ k d job l at. none_before k d job (omega (arith, l)) };
      lines = refl;
      call = c.from.ensures;
    }

-- the steps that are left at a step
module _ (h : HallJobs) (step : ℕ) (done : List ℕ) (l : step < horizon_of (jobs_of h) + 1) (e : done ++ open_steps (jobs_of h) step (horizon_of (jobs_of h) + 1 - step) ≡ crew_steps (hall_of h)) where
  abbrev T : ℕ
  T = horizon_of (jobs_of h)

  here : done ++ open_steps (jobs_of h) step (suc (T - step)) ≡ crew_steps (hall_of h)
  here = let z : T + 1 - step ≡ suc (T - step) = omega (arith, l) in subst (λ (n : ℕ). done ++ open_steps (jobs_of h) step n ≡ crew_steps (hall_of h)) z e

  behind : (done ++ cond (some_open (jobs_of h) step) (step ∷ []) []) ++ open_steps (jobs_of h) (step + 1) (T + 1 - (step + 1)) ≡ crew_steps (hall_of h)
  behind =
      let z : T + 1 - (step + 1) ≡ T - step = omega (arith, l) in
      ap (λ (n : ℕ). (done ++ cond (some_open (jobs_of h) step) (step ∷ []) []) ++ open_steps (jobs_of h) (step + 1) n) z
      ∙ ap (λ (x : ℕ). (done ++ cond (some_open (jobs_of h) step) (step ∷ []) []) ++ open_steps (jobs_of h) x (T - step)) (add-one step)
      ∙ sym (steps_on (jobs_of h) done step (T - step))
      ∙ here

pub loop-step-preserved : goal.loop-step-preserved
loop-step-preserved c =
    let i = c.loop-step.invariant in
    let h = c.args.hall.now in
    let l : c.loop-step.step < horizon_of (jobs_of h) + 1 = omega (arith, c.loop-step-test.true, horizon_is h c.index-hall-0.result) in
    let e = c.look_at.ensures in
    record {
      done = i.done ++ cond (some_open (jobs_of h) c.loop-step.step) (c.loop-step.step ∷ []) [];
      left = behind h c.loop-step.step i.done l i.left;
      rowed = e.rows i.done i.rowed;
      lines = e.lines ∙ i.lines;
      call = e.call ∙ i.call;
    }

pub look_at-requires-clause-room : goal.look_at-requires-clause-room
look_at-requires-clause-room c there =
    let i = c.loop-step.invariant in
    let h = c.args.hall.now in
    let l : c.loop-step.step < horizon_of (jobs_of h) + 1 = omega (arith, c.loop-step-test.true, horizon_is h c.index-hall-0.result) in
    let n = horizon_of (jobs_of h) - c.loop-step.step in
    let all = here h c.loop-step.step i.done l i.left in
    omega (arith, i.rowed.count, steps_left (jobs_of h) i.done c.loop-step.step n there, ap length all, crew_few (hall_of h) h.proper, h.fits.openings)

pub returns : goal.returns
unfolding open_steps
returns c =
    let i = c.loop-step.invariant in
    let h = c.args.hall.now in
    let z : horizon_of (jobs_of h) + 1 - c.loop-step.step ≡ 0 = omega (arith, c.loop-step-test.false, horizon_is h c.index-hall-0.result) in
    let all : i.done ≡ crew_steps (hall_of h) = sym (append-nil i.done) ∙ ap (λ (n : ℕ). i.done ++ open_steps (jobs_of h) c.loop-step.step n) (sym z) ∙ i.left in
    crew_table (hall_of h) h.proper h.fits c.loop-step.ats (subst (λ (l : List ℕ). Rowed (jobs_of h) l c.loop-step.ats) all i.rowed) (i.lines ∙ sym (lines_count h)) i.call
