-- The laws of the hall's problem, of which branch's `promise` is made: of a node before which every full node costs more, the hall plan keeps every life, decides the node, states its cost, and each
-- line's plan is as one line's within its decisions.
use mathlib.Core.Path.{◌≡◌, refl, sym, ap, subst, ◌∙◌}
use mathlib.Core.Bool.{Bool, true, false, cond}
use mathlib.Core.List.{List, [], ◌∷◌}
use Prim.Native.Nat.{ℕ, suc}
use native.Mathlib.Omega.{arith}
use lib.ListN.{get_or}
use Rattle.branch.specs.declared.Bound.TheVariants.{Sum}
use Rattle.branch.specs.Search.{cost_at, plan, Before, Strict}
use Rattle.branch.proofs.Bounds.{sum_inj}
use Rattle.branch.proofs.Planned.{Settled, Laws}
use Rattle.model.specs.Model.{Job, Plan, sum, cost_of_lem, Each, KeepsLives}
use Rattle.model.specs.Decisions.{decisions_of, changed_at_lem, WithinPlan}
use Rattle.model.specs.LowerBound.{bound_of, plan_at}
use Rattle.model.proofs.Bounded.{full_bound}
use Rattle.model.proofs.Nodes.{own_cost, own_chosen}
use Rattle.hall_model.specs.Hall.{Hall, horizon_of, Proper, Placed, some_stops, hall_cost, KeepsAll}
use Rattle.hall_model.specs.Agenda.{name_for, calls_at}
use Rattle.hall_model.specs.Decisions.{hall_decisions}
use Rattle.hall_model.specs.LowerBound.{priced, hall_bound, hall_plan_at}
use Rattle.hall_model.specs.Promise.{hall_tree, hall_problem}
use Rattle.hall_model.proofs.Bounded.{tree_bounds, node_full, node_cost}
use Rattle.hall_model.proofs.Plans.{no_plan_lem, told, calls_needed, calls_heard, node_of}
use Rattle.hall_model.proofs.Nodes.{line_node, hall_keeps, own_placed, line_costs, hall_most, decides}
use Rattle.hall_model.proofs.Bare.{off, off_keeps, off_before, off_cost}
use Rattle.hall_model.proofs.Roots.{rooted, floor_least}

each_of : (R S : Job → Plan → Type 0) (jobs : List Job) (plans : List Plan) → Each S jobs plans → ((d : ℕ) (job : Job) → Placed jobs d job → R job (get_or plans d no_plan_lem)) → Each R jobs plans
each_of R S [] [] e f = tt
each_of R S [] (p ∷ plans) e f = absurd e
each_of R S (j ∷ jobs) [] e f = absurd e
each_of R S (j ∷ jobs) (p ∷ plans) e f = (f 0 j refl, each_of R S jobs plans e.1 (λ d job at. f (suc d) job at))

module _ (hall : Hall) (proper : Proper hall) where
  module _ (c : ℕ) (s : List Bool) (e : cost_at (hall_tree hall) s ≡ Sum c) (strict : Strict (hall_tree hall) (plan c s)) where
    costs : hall_bound hall s ≡ Sum c
    costs = sym (node_cost hall s (node_full hall s c e)) ∙ e

    abbrev own : List Plan
    own = hall_plan_at hall s

    keeps : KeepsAll hall own
    keeps = hall_keeps hall proper s (node_full hall s c e) c costs

    is_s : hall_decisions hall own ≡ s
    is_s = decides hall proper s (node_full hall s c e) c costs strict

    -- the cost is true
    true_cost_lem : hall_cost hall own ≡ c
    true_cost_lem =
        let b = node_of hall proper own keeps in
        let z = sum_inj (cost_at (hall_tree hall) s) b.bound c (subst (λ (t : List Bool). cost_at (hall_tree hall) t ≡ Sum b.bound) is_s b.node) e in
        omega (arith, z, b.le, hall_most hall proper s (node_full hall s c e) c costs)

    -- no call is decided but where some line stops: as many calls as there are such steps
    pub no_useless_call : priced 1 (calls_at hall s) ≡ sum 1 (horizon_of hall.jobs) (λ (step : ℕ). cond (some_stops hall.jobs own step) 1 0)
    no_useless_call = ap (λ (t : List Bool). priced 1 (calls_at hall t)) (sym is_s) ∙ ap (priced 1) (calls_heard hall proper own keeps) ∙ calls_needed hall proper own keeps 1

    -- ---- each line's plan within its decisions

    no_bare : (d : ℕ) (job : Job) → Placed hall.jobs d job → (i : ℕ) → get_or (get_or own d no_plan_lem).stops i false ≡ true → changed_at_lem (get_or own d no_plan_lem).changes i ≡ true
    no_bare d job at i t = go (changed_at_lem (get_or own d no_plan_lem).changes i) refl
      where
        go : (b : Bool) → changed_at_lem (get_or own d no_plan_lem).changes i ≡ b → b ≡ true
        go true f = refl
        go false f =
            let less = off hall proper own keeps d job at i t f in
            let b = node_of hall proper less (off_keeps hall proper own keeps d job at i t f) in
            let more = strict (hall_decisions hall less) b.bound (subst (Before (hall_decisions hall less)) is_s (off_before hall proper own keeps d job at i t f)) b.node in
            absurd (omega (arith, more, b.le, off_cost hall proper own keeps d job at i t f, true_cost_lem))

    -- a line's plan decides what the node tells the line
    line_decides : (d : ℕ) (job : Job) → Placed hall.jobs d job → decisions_of job (plan_at job (name_for hall (record { place = d; job = job }) s)) ≡ name_for hall (record { place = d; job = job }) s
    line_decides d job at =
        sym (ap (decisions_of job) (own_placed hall proper s (node_full hall s c e) c costs d job at)) ∙ sym (told hall proper own keeps d job at)
        ∙ ap (name_for hall (record { place = d; job = job })) is_s

    within_line : (d : ℕ) (job : Job) → Placed hall.jobs d job → WithinPlan job (get_or own d no_plan_lem)
    within_line d job at =
        let full = node_full hall s c e in
        let name = name_for hall (record { place = d; job = job }) s in
        let m = line_costs hall proper s full c costs d job at in
        record {
          chosen = rw (own_placed hall proper s full c costs d job at) (own_chosen job name (line_node hall proper s full d job at).line_full m.0 m.1 (line_decides d job at));
          no_bare = no_bare d job at;
        }

    -- for code: the line's own cost, which is printed with its plan, is its bound at the node
    pub line_states : (d : ℕ) (job : Job) → Placed hall.jobs d job → bound_of job (name_for hall (record { place = d; job = job }) s) ≡ Sum (cost_of_lem job (get_or own d no_plan_lem))
    line_states d job at =
        let full = node_full hall s c e in
        let name = name_for hall (record { place = d; job = job }) s in
        let line_full = (line_node hall proper s full d job at).line_full in
        let m = line_costs hall proper s full c costs d job at in
        full_bound job name line_full ∙ m.1
        ∙ ap Sum (sym (ap (cost_of_lem job) (own_placed hall proper s full c costs d job at) ∙ own_cost job name line_full m.0 m.1 (line_decides d job at)))

    settled : Settled (hall_problem hall) c s
    settled = record {
      keeps = keeps;
      decides = is_s;
      states = true_cost_lem;
      within = each_of WithinPlan KeepsLives hall.jobs own keeps within_line;
    }

  pub laws : Laws (hall_problem hall)
  laws = record {
    bounded = tree_bounds hall;
    rooted = rooted hall;
    root-of = λ h. let l = floor_least hall proper h.0 h.1 in (l.0, l.1);
    node_of = node_of hall proper;
    settled = settled;
  }
