-- W2. The estimate of a point: the lower bound of a node of the search. And the plan of a full node.
use Rattle.std.specs.Prelude.{Bool, true, false, ◌&&◌, cond, List, [], ◌∷◌, map, ℕ, zero, suc, ◌+◌, ltb, length, get_or, take, drop, ℤ, pos}
use Rattle.branch.specs.declared.Bound.{Bound}
use Rattle.branch.specs.declared.Bound.TheVariants.{Missing, Sum}
use Rattle.branch.specs.Lower.{add, total, largest}
use Rattle.model.specs.Model.{Part, Job, Plan, positions, last_change_lem, end, within, sum_at, fee_of, removal_of_lem}
use Rattle.model.specs.Decisions.{of_holders, Held, held_parts, places_in}

-- ---- one part over the openings that are allowed to it

-- an opening as one part sees it; `allowed`: the node says yes there, or has not decided
pub record Offer : Type 0 where
  pub position : ℤ
  pub price : ℕ
  pub allowed : Bool

-- a price more
abbrev pub plus : ℕ → Bound → Bound
plus p Missing = Missing
plus p (Sum n) = Sum (p + n)

-- is b strictly lower than a
abbrev pub lower_than : Bound → Bound → Bool
lower_than a Missing = false
lower_than Missing (Sum b) = true
lower_than (Sum a) (Sum b) = ltb b a

-- the lower of the two, and a where they are equal
abbrev pub lower : Bound → Bound → Bound
lower a b = cond (lower_than a b) b a

-- the price with a change at o, where the rest costs e
abbrev pub change_at_lem : ℤ → ℤ → Offer → Bound → Bound
change_at_lem life prev o e = cond (o.allowed && within life prev o.position) (plus o.price e) Missing

-- W2. "the least price of a change set that keeps it": at each opening the lower of no change and a change
unfoldable pub least_of_lem : ℤ → ℤ → ℤ → List Offer → Bound
least_of_lem life end prev [] = cond (within life prev end) (Sum 0) Missing
least_of_lem life end prev (o ∷ os) = lower (least_of_lem life end prev os) (change_at_lem life prev o (least_of_lem life end o.position os))

-- T2. the change set of that price which the tie rule takes: a change only where it is strictly lower
unfoldable pub choice_of : ℤ → ℤ → ℤ → List Offer → List Bool
choice_of life end prev [] = []
choice_of life end prev (o ∷ os) =
    cond (lower_than (least_of_lem life end prev os) (change_at_lem life prev o (least_of_lem life end o.position os)))
    (true ∷ choice_of life end o.position os)
    (false ∷ choice_of life end prev os)

-- W2. openings at these positions, as a part with these prices sees them where p says which are allowed; all past its end are: "the yes openings and all undecided ones"
unfoldable pub offers : List ℤ → List ℕ → List Bool → List Offer
offers [] ns p = []
offers (s ∷ ss) ns p = record { position = s; price = get_or ns 0 0; allowed = get_or p 0 true } ∷ offers ss (drop 1 ns) (drop 1 p)

-- the least sum of these prices over the change sets that keep the part at openings which p allows
abbrev pub least_over : Job → Part → List ℕ → List Bool → Bound
least_over job part ns p = least_of_lem (pos part.life) (end job) (last_change_lem part) (offers (positions job) ns p)

-- and the change set of that sum which the tie rule takes
abbrev pub choice_over : Job → Part → List ℕ → List Bool → List Bool
choice_over job part ns p = choice_of (pos part.life) (end job) (last_change_lem part) (offers (positions job) ns p)

-- ---- the node: W1. "A point is a yes or no for the first j openings."; E7.5. "After a yes, the walk decides for each part that is somebody's holder"

-- the blocks of a node's name, of n openings at most, where h removals are decided after a yes
unfoldable pub blocks : ℕ → ℕ → List Bool → List (List Bool)
blocks h zero p = []
blocks h (suc n) [] = []
blocks h (suc n) (false ∷ p) = (false ∷ []) ∷ blocks h n p
blocks h (suc n) (true ∷ p) = (true ∷ take h p) ∷ blocks h n (drop h p)

-- how many removals are decided after a yes
abbrev pub inner : Job → ℕ
inner job = length (of_holders job job.parts)

-- the blocks of the job's node named p
abbrev pub node_at : Job → List Bool → List (List Bool)
node_at job p = blocks (inner job) (length job.openings) p

-- the stops that blocks decide
abbrev pub stops_in : List (List Bool) → List Bool
stops_in bs = map (λ (b : List Bool). get_or b 0 true) bs

-- the stops of the job's node named p
abbrev pub stops_at : Job → List Bool → List Bool
stops_at job p = stops_in (node_at job p)

-- E7.6. "Decided removals are charged", at these removals of the parts that are somebody's holder
abbrev pub removed_in : List ℕ → List (List Bool) → ℕ
removed_in rs [] = 0
removed_in rs (b ∷ bs) = sum_at rs (drop 1 b) + removed_in rs bs

-- what the job's node named p pays for its decided removals
abbrev pub removed_at : Job → List Bool → ℕ
removed_at job p = removed_in (of_holders job (map removal_of_lem job.parts)) (node_at job p)

-- where the part can be changed at the node p
abbrev pub places_at : Job → Held → List Bool → List Bool
places_at job held p = places_in held (node_at job p)

-- W2. "the least price of a change set that keeps it", at the node p
abbrev pub part_bound : Job → Held → List Bool → Bound
part_bound job held p = least_over job held.part held.part.prices (places_at job held p)

-- T2. and the change set of that price which the tie rule takes
abbrev pub part_choice_lem : Job → Held → List Bool → List Bool
part_choice_lem job held p = choice_over job held.part held.part.prices (places_at job held p)

-- W2. "the fees of its yes openings", and the decided removals
abbrev pub paid_at : Job → List Bool → ℕ
paid_at job p = sum_at (map fee_of job.openings) (stops_at job p) + removed_at job p

-- W2, W3. "the fees of its yes openings, plus, for each part, the least price of a change set that keeps it over the yes openings and all undecided ones.
-- If some part has none, the estimate is missing." Of a full node this is the least cost of its decisions
unfoldable pub stop_cost : Job → List Bool → Bound
stop_cost job p = add (Sum (paid_at job p)) (total (part_bound job) (held_parts job) p)

-- ---- E4.1, E4.2: "A floor that knows about stops."

-- the fees of the "undecided openings"; a decided opening has its fee paid, or is shut, and counts 0
unfoldable pub undecided_fees : List ℕ → List Bool → List ℕ
undecided_fees fees [] = fees
undecided_fees [] (x ∷ p) = []
undecided_fees (fee ∷ fees) (x ∷ p) = 0 ∷ undecided_fees fees p

-- E4.1. "For each part, take the least total fee of undecided openings in any change set that keeps it over the yes and undecided openings."; E7.7. "E4's term uses these same places."
abbrev pub part_fee : Job → Held → List Bool → Bound
part_fee job held p = least_over job held.part (undecided_fees (map fee_of job.openings) (stops_at job p)) (places_at job held p)

-- E4.2. "The largest of these over the parts is added to a point's estimate.": the lower bound that the search prunes by
unfoldable pub bound_of : Job → List Bool → Bound
bound_of job p = add (stop_cost job p) (largest (part_fee job) (held_parts job) p)

-- the plan of a full node: its yes openings are the stops, and each part is changed by its choice
abbrev pub plan_at : Job → List Bool → Plan
plan_at job s = record { stops = stops_at job s; changes = map (λ (held : Held). part_choice_lem job held s) (held_parts job) }
