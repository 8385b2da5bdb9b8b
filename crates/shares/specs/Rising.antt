-- Cutoffs from below: the walk of the planner's tree from one cutoff after the other, until one lets a plan come out. No plan need be known before.
use Rattle.std.specs.Prelude.{Bool, List, [], ◌∷◌, ℕ}
use Rattle.branch.specs.declared.Bound.{Bound}
use Rattle.model.specs.Model.{Job, Plan}
use Rattle.model.specs.LowerBound.{plan_at}
use Rattle.shares.specs.Optimum.{tree_by}
use Rattle.shares.specs.Certificate.{Certificate, least, cheaper, further, certify, NoneUnder}

-- what cutoffs in turn end with
pub data Risen : Type 0 where
  found : (cost : ℕ) → Plan → Risen  -- the planner's plan
  passed : Risen  -- no plan costs less than any of the cutoffs
  longer : Risen  -- a walk has more nodes than the limit

-- by one walk, and what the further cutoffs say
abbrev pub risen_by : Certificate → Risen → Risen
risen_by (least n) r = r
risen_by (cheaper n c p) r = found c p
risen_by (further n) r = longer

-- the cutoffs in turn, each walk with at most `limit` nodes
unfoldable pub rising : Job → (List Bool → Bound) → ℕ → List ℕ → Risen
rising job bound limit [] = passed
rising job bound limit (k ∷ ks) = risen_by (certify (tree_by job bound) (plan_at job) k limit) (rising job bound limit ks)

-- no plan costs less than any of these
abbrev pub NoneUnderAny : Job → List ℕ → Type 0
NoneUnderAny job [] = Unit {0}
NoneUnderAny job (k ∷ ks) = NoneUnder job k × NoneUnderAny job ks
