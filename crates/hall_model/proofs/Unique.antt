-- The promise pins the hall planner's answer down: the hall plan's decisions tell each line its own, and within these each line's plan is determined.
use mathlib.Core.Path.{◌≡◌, refl, sym, ap, ◌∙◌}
use mathlib.Core.List.{List, [], ◌∷◌}
use Prim.Native.Nat.{ℕ, suc}
use lib.ListN.{get_or}
use Rattle.branch.proofs.Unique.{Determined, unique as problem-unique, only as problem-only}
use Rattle.model.specs.Model.{Job, Plan, Each, KeepsLives}
use Rattle.model.specs.Decisions.{decisions_of, WithinPlan}
use Rattle.model.proofs.Unique.{determined as line-determined}
use Rattle.hall_model.specs.Hall.{Hall, Proper, Placed}
use Rattle.hall_model.specs.Agenda.{name_for}
use Rattle.hall_model.specs.Promise.{hall_problem, HallAnswer, hall_answer, HallAnswerPromise}
use Rattle.hall_model.proofs.Plans.{no_plan_lem, told}
use Rattle.hall_model.proofs.Laws.{laws}

lines_determined : (jobs : List Job) (ps qs : List Plan) → Each KeepsLives jobs ps → Each KeepsLives jobs qs → Each WithinPlan jobs ps → Each WithinPlan jobs qs
    → ((d : ℕ) (job : Job) → Placed jobs d job → decisions_of job (get_or ps d no_plan_lem) ≡ decisions_of job (get_or qs d no_plan_lem)) → ps ≡ qs
lines_determined [] [] [] k l x y f = refl
lines_determined [] [] (q ∷ qs) k l x y f = absurd l
lines_determined [] (p ∷ ps) qs k l x y f = absurd k
lines_determined (job ∷ jobs) [] qs k l x y f = absurd k
lines_determined (job ∷ jobs) (p ∷ ps) [] k l x y f = absurd l
lines_determined (job ∷ jobs) (p ∷ ps) (q ∷ qs) k l x y f =
    let e = line-determined job p q k.0 l.0 x.0 y.0 (f 0 job refl) in
    let r = lines_determined jobs ps qs k.1 l.1 x.1 y.1 (λ d j at. f (suc d) j at) in
    λ i. e i ∷ r i

module _ (hall : Hall) (proper : Proper hall) where
  pub determined : Determined (hall_problem hall)
  determined ps qs k l x y e =
      lines_determined hall.jobs ps qs k l x y
      (λ d job at. sym (told hall proper ps k d job at) ∙ ap (name_for hall (record { place = d; job = job })) e ∙ told hall proper qs l d job at)

  -- two answers to a hall that both keep the promise are the same answer
  pub unique : (limit : ℕ) (a b : HallAnswer) → HallAnswerPromise hall limit a → HallAnswerPromise hall limit b → a ≡ b
  unique limit a b x y = problem-unique (hall_problem hall) determined limit a b x.planned y.planned

  -- an answer that keeps the promise is the computed one
  pub only : (limit : ℕ) (a : HallAnswer) → HallAnswerPromise hall limit a → a ≡ hall_answer hall limit
  unfolding hall_answer
  only limit a x = problem-only (hall_problem hall) determined limit (laws hall proper) a x.planned
