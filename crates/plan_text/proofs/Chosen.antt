-- What the code's plan chooses is what the model's does: the parts changed at an opening (`numbers_are`) and the stops (`stops_are`). By place.
use Prim.Native.Nat.{ℕ, ◌+◌, ◌≤◌, ◌<◌}
use mathlib.Core.Path.{◌≡◌, refl, sym, ap, ◌∙◌}
use mathlib.Core.List.{List}
use mathlib.Core.Bool.{Bool, false}
use lib.ListN.{length, get_or, take}
use lib.Seq.{get_or-take}
use Rattle.base.specs.Chosen.{chosen}
use Rattle.base.proofs.Chosen.{chosen_same}
use Rattle.model.specs.Model.{Job}
use Rattle.plan_grammar.specs.Rendering.{is_changed_lem, parts_at, visit_at, visits_of}
use Rattle.jobs.specs.Views.{model_plan, blank_changes}
use Rattle.plan_text.specs.Views.{numbers_at}
use Rattle.jobs.specs.declared.Plan.{Plan}
use Rattle.jobs.proofs.Plans.{changes_size, changes_at_lem}

-- the parts changed at an opening of the code's plan are those of the model's
pub numbers_are : (n m : ℕ) (p : Plan) (i : ℕ) → m ≤ length p.changes → i < n → numbers_at p m i ≡ parts_at (model_plan n m p) i
numbers_are n m p i l h =
    chosen_same _ (is_changed_lem (model_plan n m p) i) _ (λ k. k + 1) m
    (λ k k<. sym (ap (λ (r : List Bool). get_or r i false) (changes_at_lem n m p.changes l k k<) ∙ get_or-take n (get_or p.changes k blank_changes).at i false h))
    (λ k k<. refl)
    ∙ ap (chosen (is_changed_lem (model_plan n m p) i) (λ k. k + 1)) (sym (changes_size n m p.changes l))

-- its stops at the openings that a job counts, too
pub stops_are : (job : Job) (n m : ℕ) (p : Plan) → length job.openings ≡ n
    → visits_of job (model_plan n m p) ≡ chosen (λ i. get_or p.stops i false) (visit_at job (model_plan n m p)) n
unfolding visits_of
stops_are job n m p e =
    ap (chosen (λ i. get_or (take n p.stops) i false) (visit_at job (model_plan n m p))) e
    ∙ chosen_same _ _ (visit_at job (model_plan n m p)) _ n (λ i h. get_or-take n p.stops i false h) (λ i h. refl)
