-- What is due of a node before any lane is summed: part sums of x that drop it, larger ones drop too, and where it is not dropped its term is there.
use Prim.Native.Nat.{ℕ, ◌+◌, ◌*◌, ◌^◌, ◌<◌, ◌≤◌}
use mathlib.Core.Path.{◌≡◌, refl, sym, ap, ◌∙◌}
use native.Mathlib.Omega.{arith}
use native.Mathlib.Decide.{dec_lt}
use Rattle.branch.specs.declared.Bound.{Bound}
use Rattle.branch.specs.declared.Bound.TheVariants.{Missing, Sum}
use Rattle.branch.proofs.Bounds.{no_sum_lem, sum_inj}
use Rattle.lane_rows.specs.Layout.{lane_count_lem, inf}
use Rattle.lane_rows.specs.Tables.{sum_where}
use Rattle.lane_rows.proofs.Lanes.{where_some, where_none}
use Rattle.search_state.specs.declared.Search.{Search}
use Rattle.search_state.specs.State.{instead, open_s, due_s}
use Rattle.search_state.proofs.States.{open_none, open-drops}

-- where the number put in the place of another is Missing, the other was Missing
pub instead_none : (d : ℕ) (e : Bound) → instead d e ≡ Missing → e ≡ Missing
unfolding instead
instead_none d Missing f = refl
instead_none d (Sum x) f = absurd (no_sum_lem (Sum d) d f refl)

-- where a number stands in the place of another, that other was there, and it is the number put in
pub instead_some : (d y : ℕ) (e : Bound) → instead d e ≡ Sum y → (x : ℕ) × (e ≡ Sum x) × (y ≡ d)
unfolding instead
instead_some d y Missing f = absurd (no_sum_lem Missing y refl f)
instead_some d y (Sum x) f = (x, refl, sum_inj (Sum d) y d f refl)

module _ (limit spent h x : ℕ) (s : Search) where
  abbrev due : ℕ
  due = spent + h

  -- its term is Missing
  pub due_missing : inf ≤ h → Missing ≡ due_s limit spent h x s
  unfolding instead
  due_missing l = ap (instead due) (open_none limit due s (sum_where h x) (where_none h x l))

  -- its term is there
  pub due_there : h < inf → due_s limit spent h x s ≡ instead due (open_s limit due (Sum x) s)
  due_there l = ap (λ (e : Bound). instead due (open_s limit due e s)) (where_some h x l)

  -- a node that is dropped is dropped by larger part sums too
  pub due_none : {r : Bound} → r ≡ due_s limit spent h x s → r ≡ Missing → (y : ℕ) → (h < inf → x ≤ y) → open_s limit due (sum_where h y) s ≡ Missing
  due_none i j y k = go (dec_lt h inf)
    where
      go : Dec (h < inf) → open_s limit due (sum_where h y) s ≡ Missing
      go (yes l) =
          ap (λ (b : Bound). open_s limit due b s) (where_some h y l)
          ∙ sym (open-drops limit due s x y (k l) (instead_none due _ (sym (due_there l) ∙ sym i ∙ j)))
      go (no l) = sym (open_none limit due s (sum_where h y) (where_none h y (omega (arith, l))))

  -- one that is not has its term
  pub due_some : {r : Bound} (d : ℕ) → r ≡ due_s limit spent h x s → r ≡ Sum d → (d ≡ due) × (h < inf)
  due_some d i j = go (dec_lt h inf)
    where
      e : due_s limit spent h x s ≡ Sum d
      e = sym i ∙ j

      go : Dec (h < inf) → (d ≡ due) × (h < inf)
      go (yes l) = ((instead_some due d (open_s limit due (sum_where h x) s) e).2, l)
      go (no l) = absurd (no_sum_lem (due_s limit spent h x s) d (sym (due_missing (omega (arith, l)))) e)

  -- what the sums of the rows say then: they are y, and no less than x
  module _ {r : Bound} (i : r ≡ due_s limit spent h x s) (y : ℕ) where
    -- where the test drops the node they do
    pub rows_drop : r ≡ Missing → (h < inf → x ≤ y) → Missing ≡ open_s limit due (sum_where h y) s
    rows_drop j k = sym (due_none i j y k)

    -- else they fit with what is due, d
    pub rows_fit : (d z u : ℕ) → r ≡ Sum d → spent + inf + lane_count_lem * inf < 2 ^ 64 → y ≤ lane_count_lem * inf → z ≡ y → Sum z ≡ Sum u → d + u < 2 ^ 64
    rows_fit d z u j poor low e f = omega (arith, due_some d i j, poor, low, e, sum_inj (Sum z) z u refl f)

    -- and the node is tested with them
    pub rows_open : (d z : ℕ) → r ≡ Sum d → z ≡ y → open_s limit d (Sum z) s ≡ open_s limit due (sum_where h y) s
    rows_open d z j e =
        let g = due_some d i j in
        (λ k. open_s limit (g.0 k) (Sum (e k)) s) ∙ ap (λ (b : Bound). open_s limit due b s) (sym (where_some h y g.1))
