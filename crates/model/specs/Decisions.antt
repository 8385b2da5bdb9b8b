-- What a plan decides, in the walk's order, and what the best plan is within its decisions: E7.8. "Ties compare stops and removals in walk order."
use Rattle.std.specs.Prelude.{◌≡◌, Bool, true, false, cond, not, ◌&&◌, ◌||◌, List, [], ◌∷◌, ◌++◌, map, ℕ, suc, ◌+◌, length, get_or, drop}
use Rattle.model.specs.Model.{Part, Job, Plan, select, table, comes_out, holding, out_at, Each, Chosen}

-- ---- E7.5. the parts that are "somebody's holder", whose removals are decided

-- of a list with an entry for each part, the entries of those parts, "by rising number"
abbrev pub of_holders : {A : Type 0} → Job → List A → List A
of_holders job xs = select xs (holding job)

-- a part as it is planned for: its prices, with its removal where it "holds nobody"; and, of the parts that are somebody's holder, those that come out with it
pub record Held : Type 0 where
  pub part : Part
  pub needs : List Bool

-- E7.6. "a part that holds nobody adds its removal to its price", the part at place i
abbrev pub charge : Job → ℕ → Part → ℕ
charge job i part = cond (get_or (holding job) i false) 0 part.removal

-- the part at place i with that on each of its prices
abbrev pub charged : Job → ℕ → Part → Part
charged job i part = record {
  life = part.life;
  left = part.left;
  removal = part.removal;
  holders = part.holders;
  prices = table (λ k. get_or part.prices k 0 + charge job i part) (length job.openings);
}

-- E7.4. the part at place i as it is planned for: it needs the holding parts that come out with it
abbrev pub held_at : Job → ℕ → Part → Held
held_at job i part = record { part = charged job i part; needs = of_holders job (comes_out job i) }

-- the parts from place i on
unfoldable pub held_from : Job → ℕ → List Part → List Held
held_from job i [] = []
held_from job i (part ∷ parts) = held_at job i part ∷ held_from job (suc i) parts

-- all parts of the job as they are planned for
abbrev pub held_parts : Job → List Held
held_parts job = held_from job 0 job.parts

-- ---- the decisions at one opening, its block: no; or yes, and then a removal for each part that is somebody's holder, as far as decided

-- every part that is needed is "removed or undecided"
unfoldable pub accessible : List Bool → List Bool → Bool
accessible [] removed = true
accessible (need ∷ needs) removed = (not need || get_or removed 0 true) && accessible needs (drop 1 removed)

-- E7.6. "a part can be changed only where it and its holders are removed or undecided"
abbrev pub allows : List Bool → List Bool → Bool
allows needs block = get_or block 0 true && accessible needs (drop 1 block)

-- the openings at which blocks let a part be changed
abbrev pub places_in : Held → List (List Bool) → List Bool
places_in held bs = map (allows held.needs) bs

-- what the plan decides at opening k: a stop or none, and after a stop which of the parts that are somebody's holder come out there
abbrev pub block_of : Job → Plan → ℕ → List Bool
block_of job plan k = cond (get_or plan.stops k false) (true ∷ of_holders job (out_at job plan.changes k)) (false ∷ [])

-- what the plan decides, opening by opening
abbrev pub plan_blocks : Job → Plan → List (List Bool)
plan_blocks job plan = table (block_of job plan) (length job.openings)

-- blocks one after the other
unfoldable pub concat : List (List Bool) → List Bool
concat [] = []
concat (b ∷ bs) = b ++ concat bs

-- the plan's decisions in walk order
unfoldable pub decisions_of : Job → Plan → List Bool
decisions_of job plan = concat (plan_blocks job plan)

-- ---- within the decisions

-- some part is changed at opening i
abbrev pub changed_at_lem : List (List Bool) → ℕ → Bool
changed_at_lem [] i = false
changed_at_lem (c ∷ cs) i = get_or c i false || changed_at_lem cs i

-- T2, T3. each part's changes are chosen by the tie rule within the plan's stops and removals, and the plan "has no stop without a change"
pub record WithinPlan (job : Job) (plan : Plan) : Type 0 where
  pub chosen : Each (λ (held : Held). Chosen job (places_in held (plan_blocks job plan)) held.part) (held_parts job) plan.changes
  pub no_bare : (i : ℕ) → get_or plan.stops i false ≡ true → changed_at_lem plan.changes i ≡ true
