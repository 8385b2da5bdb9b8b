-- `some_opens` is the search over the lines.
use Rattle.std.proofs.Common.{rules, tests, ℕ, take, ◌∙◌, List, [], ◌∷◌, ◌||◌, ◌≡◌, map, refl, ap}
use Rattle.std.proofs.lemmas.Iterator.{YieldsList-from_slice}
use Rattle.std.proofs.lemmas.Iterator.Search.{any_from_yields_List}
use Rattle.std.specs.List.{list_any}
use Rattle.jobs.specs.declared.accepted.Accepted.{Accepted}
use Rattle.hall_model.specs.Hall.{open_at}
use Rattle.hall_model.specs.Agenda.{some_open}
use Rattle.hall_jobs.specs.Hall.{line_of_lem}
use Rattle.hall_crew.proofs.some_opens.Goals as goal

-- one of some lines is open at the step
any_open : (step : ℕ) (js : List Accepted) → list_any (λ (a : Accepted). open_at (line_of_lem a) step) js ≡ some_open (map line_of_lem js) step
any_open step [] = refl
any_open step (a ∷ js) = ap (λ b. open_at (line_of_lem a) step || b) (any_open step js)

pub returns : goal.returns
returns c = let hall = c.args.hall.now in
    let step = c.args.step in
    let js = take hall.count hall.jobs in
    any_from_yields_List (λ (a : Accepted). open_at (line_of_lem a) step) _ _ c.any.result c.any.ensures.ran (YieldsList-from_slice js cc) (λ x b q k. search (rules, tests)) ∙ any_open step js
