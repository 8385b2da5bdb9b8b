-- The first node: nothing is decided, counted or found.
use Prim.Native.Nat.{ℕ, ◌+◌, ◌<◌, min}
use mathlib.Core.Path.{◌≡◌, refl, ap, subst, ◌∙◌}
use mathlib.Core.Bool.{false}
use mathlib.Core.List.{List, []}
use native.Mathlib.Omega.{arith}
use borrow.Author.Tests.{le-ltb}
use lib.Dec.{ltb}
use lib.ListN.{length, get_or}
use Rattle.branch.specs.declared.Bound.{Bound}
use Rattle.branch.specs.declared.Bound.TheVariants.{Missing, Sum}
use Rattle.branch.specs.Lower.{add}
use Rattle.branch.specs.Search.{none}
use Rattle.branch.specs.Label.{limited_from, open_from}
use Rattle.model.specs.LastYes.{last_yes}
use Rattle.walk.specs.declared.Node.{Node}
use Rattle.search_state.specs.declared.Search.{Search}
use Rattle.lane_rows.specs.Layout.{lanes_in, term_place}
use Rattle.lane_rows.specs.Sheet.{Sheet, sheet_bound}
use Rattle.lane_rows.specs.Tables.{sum_where, Tables, FeeTerms}
use Rattle.lane_rows.specs.Rows.{sum_lanes, FirstRow}
use Rattle.search_state.specs.State.{bits, no_cost, view, counted_s, reached_s, open_s, over_s, solved_s}
use Rattle.walk.specs.State.{At, Solves}
use Rattle.walk.proofs.Nodes.{Due, due_at, due_bound, root_given, Opened, closed_walked, open-walked}
use Rattle.search_state.proofs.States.{found_is}

-- the root's numbers: nothing decided, one row, no fee paid
abbrev pub root : Node
root = record { at = 0; rows = 1; spent = 0; mask = 0 }

-- the search's state before the walk
abbrev pub fresh : Search
fresh = record { count = 0; cost = no_cost; mask = 0 }

-- nothing is counted and nothing found
fresh-view : (limit n : ℕ) → view limit n fresh ≡ record { count = 0; over = false; incumbent = none }
fresh-view limit n =
    let z : min 0 limit ≡ 0 = omega arith in
    λ i. record { count = z i; over = le-ltb limit 0 (omega arith) i; incumbent = none }

module _ (sheet : Sheet) (t w : List ℕ) (ta : Tables sheet t) (te : FeeTerms sheet t) (fr : FirstRow w) (due : ℕ) (d : due ≡ get_or t (term_place 0 0) 0) (b : Bound) (g : b ≡ sum_where due (sum_lanes (lanes_in t) (λ (q : ℕ). get_or t q 0))) where
  -- its part sums, by the table's term
  by_term : b ≡ sum_where (get_or t (term_place 0 0) 0) (sum_lanes (lanes_in t) (λ (q : ℕ). get_or t q 0))
  by_term = g ∙ ap (λ (h : ℕ). sum_where h (sum_lanes (lanes_in t) (λ (q : ℕ). get_or t q 0))) d

  -- its term, and what is due with the part sums b
  pub root_due : Due sheet root b due
  unfolding bits last_yes
  root_due =
      let z : 0 + get_or t (term_place 0 0) 0 ≡ due = omega (arith, d) in
      subst (Due sheet root b) z (due_at sheet t w root false b (root_given sheet t w ta te fr b by_term) 0 refl)

  -- it fits with the part sums
  pub root_fits : (x : ℕ) → b ≡ Sum x → due + x < no_cost
  root_fits x f = root_due.fits x f

  module _ (limit : ℕ) where
    -- where the walk stands once the first node is walked, and all below it
    abbrev pub Walked : Search → Type 0
    Walked s = let n = length sheet.positions in view limit n s ≡ limited_from (sheet_bound sheet) limit n [] (view limit n fresh)

    -- what is handed over of a last state
    pub root_ends : (floor : Bound) (s : Search) → floor ≡ add (Sum due) b → Walked s → Solves sheet limit (solved_s floor limit s)
    unfolding bits
    root_ends floor s f e =
        let n = length sheet.positions in
        record {
          floor = f ∙ due_bound sheet root b due root_due;
          walked = (λ i. record { count = min s.count limit; over = over_s limit s; incumbent = found_is (ltb s.cost no_cost) s.cost (bits n s.mask) i }) ∙ e ∙ ap (limited_from (sheet_bound sheet) limit n []) (fresh-view limit n);
        }

    -- the first node is not walked on
    pub root_closed : open_s limit due b fresh ≡ Missing → Walked (reached_s limit fresh)
    unfolding bits
    root_closed f = let n = length sheet.positions in closed_walked sheet root b due root_due limit n n fresh f

    -- the first node is walked on, with the part sums x
    pub root_opened : (x : ℕ) → open_s limit due b fresh ≡ Sum x → let n = length sheet.positions in Opened sheet root b due root_due limit n n fresh x
    root_opened x f = let n = length sheet.positions in open-walked sheet root b due root_due limit n n fresh x f

    -- so the walk is given it
    pub root_child : (x : ℕ) → open_s limit due b fresh ≡ Sum x → At sheet t w root false (Sum x)
    root_child x f = subst (At sheet t w root false) (root_opened x f).sums (root_given sheet t w ta te fr b by_term)

    -- and ends as the whole walk does
    pub root_walked : (x : ℕ) → open_s limit due b fresh ≡ Sum x → (s : Search) → let n = length sheet.positions in view limit n s ≡ open_from (sheet_bound sheet) limit n [] (view limit n (counted_s fresh)) → Walked s
    unfolding bits
    root_walked x f s e = e ∙ (root_opened x f).on
