-- E13. The joined lines of two logs are the text of the model's joined log (`joined_is`), and are read as it (`joined_read`). By the visits, those of the first and then those of the second, shifted.
use mathlib.Core.Path.{◌≡◌, refl, sym, ap, ap₂, ◌∙◌}
use mathlib.Core.Bool.{Bool, true, false, cond}
use mathlib.Core.List.{List, [], ◌∷◌, ◌++◌, map, append-nil, append_assoc}
use Prim.Native.Nat.{ℕ, zero, suc, ◌+◌, ◌≤◌, ◌<◌}
use native.Mathlib.Omega.{arith}
use lib.ListN.{length, length-map, get_or, take, drop}
use lib.Seq.{get_or-take}
use Rattle.lines.specs.Text.{line_of}
use Rattle.base.specs.Joined.{joined}
use Rattle.lines.specs.Parser.{accepted}
use Rattle.base.specs.Chosen.{chosen}
use Rattle.base.proofs.Chosen.{chosen_same, chosen_none_after}
use Rattle.model.specs.Model.{Opening, Job, Plan, Each}
use Rattle.model.specs.Windows.{Rising, steps_of}
use Rattle.jobs.specs.Valid.{ValidJob}
use Rattle.plan_grammar.specs.Grammar.{Visit}
use Rattle.plan_grammar.specs.Rendering.{visits_of, plan_text_lem, plan_lines_of}
use Rattle.plan_grammar.specs.Rendering as plans
use Rattle.carry.specs.Carry.{Log, Logged, carried}
use Rattle.carry.specs.Start.{continued_by}
use Rattle.carry.specs.Joined.{joined_log}
use Rattle.carry.proofs.Splits.{at_front, at_back, map-append}
use Rattle.carry.proofs.Later.{later_at, steps_later}
use Rattle.carry.proofs.Lives.{past, past_most}
use Rattle.carry.proofs.Parts.{Done, logged_done, stops_front, changed_front, changed_back}
use Rattle.carry.proofs.Keeps.{openings_size}
use Rattle.carry.proofs.Kin.{parts-length}
use Rattle.carry.proofs.Joined.{joined_logged}
use Rattle.log_grammar.specs.Grammar.{read_log}
use Rattle.log_grammar.specs.Rendering.{log_text_lem, log_says, shifted, joined_text}
use Rattle.log_grammar.proofs.Logs.{log_back}

-- ---- what is chosen of two stretches of numbers

chosen_both : {A : Type 0} (test : ℕ → Bool) (f : ℕ → A) (n m : ℕ) → chosen test f (n + m) ≡ chosen test f n ++ chosen (λ i. test (n + i)) (λ i. f (n + i)) m
unfolding chosen joined
chosen_both test f n zero = let e : n + 0 ≡ n = omega arith in ap (chosen test f) e ∙ sym (append-nil (chosen test f n))
chosen_both {A} test f n (suc m) =
    let e : n + suc m ≡ suc (n + m) = omega arith in
    ap (chosen test f) e
    ∙ ap (λ (xs : List A). xs ++ cond (test (n + m)) (f (n + m) ∷ []) []) (chosen_both test f n m)
    ∙ append_assoc (chosen test f n) (chosen (λ i. test (n + i)) (λ i. f (n + i)) m) (cond (test (n + m)) (f (n + m) ∷ []) [])

chosen-map : {A B : Type 0} (g : A → B) (test : ℕ → Bool) (f : ℕ → A) (n : ℕ) → chosen test (λ i. g (f i)) n ≡ map g (chosen test f n)
unfolding chosen joined
chosen-map g test f zero = refl
chosen-map {B = B} g test f (suc n) =
    ap₂ (λ (xs ys : List B). xs ++ ys) (chosen-map g test f n) (one (test n)) ∙ sym (map-append g (chosen test f n) (cond (test n) (f n ∷ []) []))
  where
    one : (b : Bool) → cond b (g (f n) ∷ []) [] ≡ map g (cond b (f n ∷ []) [])
    one true = refl
    one false = refl

-- ---- the visits of a log continued by a second one

module _ (job : Job) (first second : Log) (rising : Rising 0 job.horizon (steps_of job.openings)) (logged : Logged job first) (again : Logged (carried job first) second) where
  abbrev n : ℕ
  n = past job first

  abbrev m : ℕ
  m = length (carried job first).openings

  abbrev all : Plan
  all = (joined_log job first second).plan

  did : Each (Done job first) job.parts first.plan.changes
  did = logged_done job first logged

  front : length (take n first.plan.stops) ≡ n
  front = stops_front job first logged.shaped

  sized : length second.plan.changes ≡ length job.parts
  sized = again.shaped.parts ∙ parts-length job first

  sets_size : (n : ℕ) (cs ds : List (List Bool)) → length (continued_by n cs ds) ≡ length cs
  sets_size n [] ds = refl
  sets_size n (c ∷ cs) ds = ap suc (sets_size n cs (drop 1 ds))

  -- up to the first step: its own
  front_visit : (i : ℕ) → i < n → plans.visit_at job all i ≡ plans.visit_at job first.plan i
  front_visit i h =
      let ps = ap (chosen (plans.is_changed_lem all i) (λ k. k + 1)) (sets_size n first.plan.changes second.plan.changes)
      ∙ chosen_same (plans.is_changed_lem all i) (plans.is_changed_lem first.plan i) (λ k. k + 1) (λ k. k + 1) (length first.plan.changes)
      (λ k _. changed_front job first job.parts first.plan.changes second.plan.changes did k i h) (λ k _. refl) in
      λ j. record { step = plans.step_at job i; parts = ps j }

  -- behind it: the second's, shifted
  back_visit : (i : ℕ) → i < m → plans.visit_at job all (n + i) ≡ shifted first.step (plans.visit_at (carried job first) second.plan i)
  back_visit i h =
      let steps = steps_of job.openings in
      let s = sym (later_at first.step 0 job.horizon steps rising i (omega (arith, openings_size job first, length-map job.openings (λ (o : Opening). o.step))))
      ∙ ap (λ (l : List ℕ). first.step + get_or l i 0) (sym (steps_later first.step job.openings n)) in
      let ps = ap (chosen (plans.is_changed_lem all (n + i)) (λ k. k + 1)) (sets_size n first.plan.changes second.plan.changes ∙ logged.shaped.parts ∙ sym sized)
      ∙ chosen_same (plans.is_changed_lem all (n + i)) (plans.is_changed_lem second.plan i) (λ k. k + 1) (λ k. k + 1) (length second.plan.changes)
      (λ k _. changed_back job first job.parts first.plan.changes second.plan.changes did sized k i) (λ k _. refl) in
      λ j. record { step = s j; parts = ps j }

  visits_joined : visits_of job all ≡ visits_of job first.plan ++ map (shifted first.step) (visits_of (carried job first) second.plan)
  unfolding visits_of
  visits_joined =
      ap (chosen stops (plans.visit_at job all)) (openings_size job first)
      ∙ chosen_both stops (plans.visit_at job all) n m
      ∙ ap₂ (λ (xs ys : List Visit). xs ++ ys)
      (chosen_same stops (λ i. get_or first.plan.stops i false) (plans.visit_at job all) (plans.visit_at job first.plan) n
      (λ i h. at_front (take n first.plan.stops) second.plan.stops n i false front h ∙ get_or-take n first.plan.stops i false h) front_visit
      ∙ sym (chosen_none_after (λ i. get_or first.plan.stops i false) (plans.visit_at job first.plan) n (length job.openings) (past_most job first)
      (λ j h _. quiet j h (get_or first.plan.stops j false) refl)))
      (chosen_same (λ i. stops (n + i)) (λ i. get_or second.plan.stops i false) (λ i. plans.visit_at job all (n + i))
      (λ i. shifted first.step (plans.visit_at (carried job first) second.plan i)) m
      (λ i _. at_back (take n first.plan.stops) second.plan.stops n i false front) back_visit
      ∙ chosen-map (shifted first.step) (λ i. get_or second.plan.stops i false) (plans.visit_at (carried job first) second.plan) m)
    where
      stops : ℕ → Bool
      stops i = get_or all.stops i false

      quiet : (j : ℕ) → n ≤ j → (b : Bool) → get_or first.plan.stops j false ≡ b → get_or first.plan.stops j false ≡ false
      quiet j h true e = absurd (omega (arith, logged.stopped j e))
      quiet j h false e = e

  -- E13.2. the joined lines are the text of the joined log
  pub joined_is : joined_text job first second ≡ log_text_lem job (joined_log job first second)
  unfolding joined_text log_text_lem plan_lines_of
  joined_is = ap (λ (vs : List Visit). line_of "step=" (first.step + second.step) ++ plan_text_lem (first.cost + second.cost) vs) (sym visits_joined)

  -- E13.1. "carrying on by the joined log shall be accepted": it is read as what the text of the joined log says
  pub joined_read : ValidJob job → first.cost + second.cost ≤ 4000000000 → read_log job (joined_text job first second) ≡ accepted (log_says job (joined_log job first second))
  joined_read ok h = ap (read_log job) joined_is ∙ log_back job ok (joined_log job first second) (joined_logged job first second rising logged again) h
