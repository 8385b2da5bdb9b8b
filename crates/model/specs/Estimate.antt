-- W2, W3, E4.1. What the least sums of a node's bound are, said over all change sets. That `least_over` computes them: `proofs/Offers`.
use Rattle.std.specs.Prelude.{◌≡◌, Bool, true, false, List, ℕ, ◌≤◌, length, get_or}
use Rattle.branch.specs.declared.Bound.{Bound}
use Rattle.branch.specs.declared.Bound.TheVariants.{Missing, Sum}
use Rattle.model.specs.Model.{Part, Job, kept_by, sum_at}

-- the change set keeps the part over the openings that p allows: "over the yes openings and all undecided ones" of the node p
pub record KeepsOver (job : Job) (part : Part) (p cs : List Bool) : Type 0 where
  pub size : length cs ≡ length job.openings
  pub at_open : (i : ℕ) → get_or cs i false ≡ true → get_or p i true ≡ true
  pub lives : kept_by job part cs ≡ true

-- the bound is the least sum of the numbers ns (prices, or fees) over all change sets that do
abbrev pub LeastOver : Job → Part → List ℕ → List Bool → Bound → Type 0
LeastOver job part ns p Missing = (cs : List Bool) → KeepsOver job part p cs → ⊥
LeastOver job part ns p (Sum n) =
    ((cs : List Bool) × KeepsOver job part p cs × (sum_at ns cs ≡ n)) × ((cs : List Bool) → KeepsOver job part p cs → n ≤ sum_at ns cs)
