-- `due_of`: the first step from the last one back that is in time. The gap test is the model's, on small numbers.
use Rattle.std.proofs.Common.{rules, tests, arith, Option, None, Some, refl, ◌≡◌, ◌≤◌, ℕ, List, sym, ap, subst, ◌∙◌}
use lib.ListN.{get_or}
use lib.IntN.{ℤ, pos}
use mir.Syntax.{w32}
use mir.Val.{to_z, of_z}
use Rattle.std.specs.Option.{unwrap_or, option_map}
use Rattle.std.specs.List.{find}
use Rattle.std.proofs.lemmas.Iterator.Search.{find_from_yields_List}
use Rattle.std.proofs.lemmas.Iterator.Adapters.{serves_from_places}
use Rattle.model.specs.Limits.{last_position}
use Rattle.model.specs.Model.{Job, clock, within, due_of_lem}
use Rattle.jobs.specs.Views.{job_of}
use Rattle.clock.specs.Placed.{Position, Begins, Clocks}
use Rattle.clock.proofs.Ranges.{clocked, position_bits, before_bits}
use Rattle.clock.proofs.Backward.{down, backward, down_most, last_found}
use Rattle.clock.proofs.due_of.Goals as goal

-- the position of a step, as the code reads it
here : (job : Job) (at : List ℤ) → Clocks job at → (s : ℕ) → s ≤ last_position → to_z w32 (of_z w32 (get_or at s (pos 0))) ≡ clock job s
here job at e s h = position_bits (get_or at s (pos 0)) (subst Position (sym (e s h)) (clocked job s h)) ∙ e s h

same : (r : Option ℕ) → option_map (λ x. x) r ≡ r
same None = refl
same (Some x) = refl

pub find-requires-clause-callable : goal.find-requires-clause-callable
find-requires-clause-callable c = let a = c.args in
    let j = a.job.now in
    let n = j.job.horizon in
    let before = before_bits a.life a.prev c.requires.0 c.requires.1 in
    serves_from_places (backward n c.rev.result c.rev.ensures.source) (λ x q r. search (rules, tests))
    (λ x k l e y z.
    let low : y.now ≤ 365 = omega (arith, z, e, down_most n k x l, j.valid.horizon_high) in
    let at = here (job_of j.job) c.running_steps-at.result c.running_steps-at.ensures y.now (omega arith) in (
      λ _ _ _ _ _ _ _. record { fits = omega arith },
      λ _ _ _ _ _ _ _. omega arith,
      λ _ _ _ _ _ _ _ _ _. (c.requires.0, subst (Begins a.life) (sym (ap (λ (q : ℤ). to_z w32 (of_z w32 q)) before ∙ before)) c.requires.1, subst Position (sym at) (clocked (job_of j.job) y.now (omega arith))),
    ))

pub returns : goal.returns
unfolding due_of_lem
returns c = let a = c.args in
    let j = a.job.now in
    let n = j.job.horizon in
    let at = λ (s : ℕ). to_z w32 (of_z w32 (get_or c.running_steps-at.result s (pos 0))) in
    let test = λ (s : ℕ). within (pos a.life) a.prev (at s) in
    let found : option_map (λ x. x) c.find.result ≡ find test (down n) = find_from_yields_List test _ _ c.find.result c.find.ensures.ran (backward n c.rev.result c.rev.ensures.source) (λ x b q k. search (rules, tests)) in
    c.unwrap_or.ensures ∙ ap (λ r. unwrap_or r 0) (sym (same c.find.result) ∙ found) ∙ last_found (job_of j.job) (pos a.life) a.prev at n (λ s h. here (job_of j.job) c.running_steps-at.result c.running_steps-at.ensures s (omega (arith, h, j.valid.horizon_high)))
