-- The bound of a node is a lower bound: it never falls as more is decided, because each line's own bound does not and calls only add. So the theorems of the search hold of the hall's tree.
use mathlib.Core.Path.{◌≡◌, sym, subst}
use mathlib.Core.Bool.{Bool}
use mathlib.Core.List.{List, [], ◌∷◌, ◌++◌}
use Prim.Native.Nat.{ℕ, ◌≤◌}
use native.Mathlib.Omega.{arith}
use Rattle.branch.specs.declared.Bound.TheVariants.{Sum}
use Rattle.branch.specs.Search.{NoMore, Bounded, cost_at}
use Rattle.branch.specs.Questions.{Full}
use Rattle.branch.specs.Lower.{total}
use Rattle.branch.proofs.Asked.{asked_full, asked_cost, asked_bounded}
use Rattle.branch.proofs.Lower.{Rises, add_mono, total_mono}
use Rattle.model.specs.LowerBound.{bound_of}
use Rattle.model.proofs.Bounded.{rises as line-rises}
use Rattle.hall_model.specs.Hall.{Hall}
use Rattle.hall_model.specs.Agenda.{plain, agenda_of, Line, lines_of, to_line, to_crew, name_for, calls_at}
use Rattle.hall_model.specs.LowerBound.{line_bound, priced, called_at, hall_bound}
use Rattle.hall_model.specs.Promise.{hall_tree}
use Rattle.hall_model.proofs.Heard.{goes_on}

-- more calls cost no less
calls_more : (n : ℕ) (cs ds : List Bool) → priced n cs ≤ priced n (cs ++ ds)
calls_more n [] ds = omega arith
calls_more n (c ∷ cs) ds = omega (arith, calls_more n cs ds)

module _ (hall : Hall) where
  line_goes : (ln : Line) → Rises (line_bound hall ln)
  line_goes ln p t =
      let g = goes_on (to_line ln) (agenda_of hall) p t in
      subst (λ (n : List Bool). NoMore (line_bound hall ln p) (bound_of ln.job n)) (sym g.1) (line-rises ln.job (name_for hall ln p) g.0)

  calls_rise : Rises (λ p. Sum (called_at hall p))
  calls_rise p t =
      let g = goes_on to_crew (agenda_of hall) p t in
      subst (λ (cs : List Bool). called_at hall p ≤ priced hall.call cs) (sym g.1) (calls_more hall.call (calls_at hall p) g.0)

  -- a hall node's bound is no more than that of any node below it
  pub rises : Rises (hall_bound hall)
  unfolding hall_bound
  rises p t =
      add_mono (Sum (called_at hall p)) (Sum (called_at hall (p ++ t))) (total (line_bound hall) (lines_of hall) p) (total (line_bound hall) (lines_of hall) (p ++ t)) (calls_rise p t)
      (total_mono (line_bound hall) (lines_of hall) p (p ++ t) (λ ln. line_goes ln p t))

  -- so the tree is bounded; its full nodes are answers to the questions, each at its bound
  abbrev pub FullNode : List Bool → Type 0
  FullNode s = Full (plain (agenda_of hall)) s

  -- no full node of the hall's tree costs less than the bound of a node above it
  pub tree_bounds : Bounded (hall_tree hall)
  tree_bounds = asked_bounded (hall_bound hall) (plain (agenda_of hall)) (λ p s _. rises p s)

  -- a name that has a cost in the hall's tree answers all its questions
  pub node_full : (s : List Bool) (c : ℕ) → cost_at (hall_tree hall) s ≡ Sum c → FullNode s
  node_full s c e = asked_full (hall_bound hall) (plain (agenda_of hall)) s c e

  -- a full node of the hall's tree costs its own bound
  pub node_cost : (s : List Bool) → FullNode s → cost_at (hall_tree hall) s ≡ hall_bound hall s
  node_cost s full = asked_cost (hall_bound hall) (plain (agenda_of hall)) s full
