-- `Job::opens` is the search over the openings.
use Rattle.std.proofs.Common.{rules, tests, ℕ, eqb, take, ◌∙◌, List, [], ◌∷◌, ◌||◌, ◌≡◌, map, refl, ap}
use Rattle.std.proofs.lemmas.Iterator.{YieldsList-from_slice}
use Rattle.std.proofs.lemmas.Iterator.Search.{any_from_yields_List}
use Rattle.std.specs.List.{list_any}
use Rattle.model.specs.Model.{listed}
use Rattle.model.specs.Windows.{steps_of}
use Rattle.jobs.specs.declared.Opening.{Opening}
use Rattle.jobs.specs.Views.{opening_of}
use Rattle.jobs.proofs.Job.opens.Goals as goal

-- one of some openings has the step
any_step : (step : ℕ) (os : List Opening) → list_any (λ (o : Opening). eqb o.step step) os ≡ listed (steps_of (map opening_of os)) step
unfolding listed
any_step step [] = refl
any_step step (o ∷ os) = ap (λ b. eqb o.step step || b) (any_step step os)

pub returns : goal.returns
returns c = let job = c.args.self.now in
    let step = c.args.step in
    let os = take job.opening_count job.openings in
    any_from_yields_List (λ (o : Opening). eqb o.step step) _ _ c.any.result c.any.ensures.ran (YieldsList-from_slice os cc) (λ x b q k. search (rules, tests)) ∙ any_step step os
