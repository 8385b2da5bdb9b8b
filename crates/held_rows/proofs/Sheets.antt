-- The sheet of a job with holders has the job's bound at every node: each part's lane has its least price and its term, and a lane past the last part adds nothing, as it can be kept exactly where the
-- first part can. By recursion over the lanes.
use Prim.Native.Nat.{ℕ, suc, ◌+◌, ◌<◌, ◌≤◌}
use mathlib.Core.Path.{◌≡◌, refl, sym, ap, ap₂, ◌∙◌}
use mathlib.Core.Bool.{Bool, true}
use mathlib.Core.List.{List, [], ◌∷◌, map}
use native.Mathlib.Omega.{arith}
use lib.ListN.{length, get_or, take, length-map}
use Rattle.branch.specs.declared.Bound.{Bound}
use Rattle.branch.specs.declared.Bound.TheVariants.{Missing, Sum}
use Rattle.branch.specs.Lower.{add, total, larger, largest}
use Rattle.model.specs.Model.{Part, Job, holding, sum_at, removal_of_lem}
use Rattle.model.specs.Decisions.{allows, Held, held_at, held_from, held_parts}
use Rattle.model.specs.LowerBound.{least_of_lem, offers, undecided_fees, blocks, inner, node_at, stops_in, removed_in, part_bound, part_fee, stop_cost, bound_of}
use Rattle.model.specs.Verdict.{no_part}
use Rattle.model.proofs.Fees.{undecided_same}
use Rattle.model.proofs.Positions.{positions_size}
use Rattle.model.proofs.Totals.{select-length}
use Rattle.model.proofs.Unpaid.{unpaid, unpaid_least}
use Rattle.lane_rows.specs.Sheet.{column_bound, column_fee}
use Rattle.held_rows.specs.Held.{HeldColumn, HeldSheet, no_lane, needs_of_lem, node_of, lane_bound, lane_fee, held_bound, Laid, SheetOf}

module _ (job : Job) (sheet : HeldSheet) (so : SheetOf job sheet) (p : List Bool) where
  abbrev bs : List (List Bool)
  bs = node_of sheet p

  -- the same blocks
  node_same : bs ≡ node_at job p
  node_same =
      let h : length sheet.removals ≡ inner job = ap length so.removals ∙ select-length (map removal_of_lem job.parts) job.parts (holding job) (length-map job.parts removal_of_lem) in
      let n : length sheet.positions ≡ length job.openings = ap length so.places ∙ positions_size job in
      ap₂ (λ (k m : ℕ). blocks k m p) h n

  -- ---- one lane

  abbrev part_of_lem : ℕ → Held
  part_of_lem q = held_at job q (get_or job.parts q no_part)

  module _ (lane : HeldColumn) (held : Held) (la : Laid sheet lane held) where
    own : lane_bound sheet bs lane [] ≡ part_bound job held p
    unfolding column_bound
    own = λ i. least_of_lem (la.life i) (so.ends i) (la.first i) (offers (so.places i) (la.prices i) (map (allows (la.needs i)) (node_same i)))

    own_fee : lane_fee sheet bs lane [] ≡ part_fee job held p
    unfolding column_fee
    own_fee =
        let same : undecided_fees sheet.fees (map (allows (needs_of_lem sheet lane.class)) bs) ≡ undecided_fees sheet.fees (stops_in bs) =
        undecided_same sheet.fees (map (allows (needs_of_lem sheet lane.class)) bs) (stops_in bs) (length-map bs (allows (needs_of_lem sheet lane.class)) ∙ sym (length-map bs (λ (b : List Bool). get_or b 0 true))) in
        ap (λ (fs : List ℕ). least_of_lem lane.column.life sheet.end lane.column.first (offers sheet.positions fs (map (allows (needs_of_lem sheet lane.class)) bs))) same
        ∙ (λ i. least_of_lem (la.life i) (so.ends i) (la.first i) (offers (so.places i) (undecided_fees (so.fees i) (stops_in (node_same i))) (map (allows (la.needs i)) (node_same i))))

  -- past the last part
  abbrev begin : Bound
  begin = lane_bound sheet bs (get_or sheet.lanes 0 no_lane) []

  idle : (q : ℕ) → length job.parts ≤ q → q < length sheet.lanes → lane_bound sheet bs (get_or sheet.lanes q no_lane) [] ≡ unpaid begin
  unfolding column_bound
  idle q l g =
      let f = so.fills q l g in
      let lane = get_or sheet.lanes q no_lane in
      let first = get_or sheet.lanes 0 no_lane in
      (λ i. least_of_lem (f.life i) sheet.end (f.first i) (offers sheet.positions lane.column.prices (map (allows (f.needs i)) bs)))
      ∙ unpaid_least first.column.life sheet.end first.column.first sheet.positions lane.column.prices first.column.prices (map (allows (needs_of_lem sheet first.class)) bs) f.prices

  -- ---- all lanes

  -- xs are the lanes from q on, ps the parts
  abbrev LanesFrom : List HeldColumn → ℕ → Type 0
  LanesFrom xs q = (i : ℕ) → i < length xs → get_or xs i no_lane ≡ get_or sheet.lanes (q + i) no_lane

  abbrev PartsFrom : List Part → ℕ → Type 0
  PartsFrom ps q = (i : ℕ) → i < length ps → get_or ps i no_part ≡ get_or job.parts (q + i) no_part

  lanes_next : (x : HeldColumn) (xs : List HeldColumn) (q : ℕ) → LanesFrom (x ∷ xs) q → (x ≡ get_or sheet.lanes q no_lane) × LanesFrom xs (suc q)
  lanes_next x xs q f =
      let z : q + 0 ≡ q = omega arith in
      (f 0 (omega arith) ∙ ap (λ (i : ℕ). get_or sheet.lanes i no_lane) z, λ i l. let y : q + suc i ≡ suc q + i = omega arith in f (suc i) (omega arith) ∙ ap (λ (j : ℕ). get_or sheet.lanes j no_lane) y)

  parts_next : (x : Part) (ps : List Part) (q : ℕ) → PartsFrom (x ∷ ps) q → (x ≡ get_or job.parts q no_part) × PartsFrom ps (suc q)
  parts_next x ps q f =
      let z : q + 0 ≡ q = omega arith in
      (f 0 (omega arith) ∙ ap (λ (i : ℕ). get_or job.parts i no_part) z, λ i l. let y : q + suc i ≡ suc q + i = omega arith in f (suc i) (omega arith) ∙ ap (λ (j : ℕ). get_or job.parts j no_part) y)

  -- the part at q
  own_at : (f : HeldColumn → List Bool → Bound) (g : Held → List Bool → Bound) → ((q : ℕ) → q < length job.parts → f (get_or sheet.lanes q no_lane) [] ≡ g (part_of_lem q) p)
      → (x : HeldColumn) (y : Part) (q : ℕ) → q < length job.parts → x ≡ get_or sheet.lanes q no_lane → y ≡ get_or job.parts q no_part → f x [] ≡ g (held_at job q y) p
  own_at f g e x y q l a b = ap (λ (z : HeldColumn). f z []) a ∙ e q l ∙ ap (λ (z : Part). g (held_at job q z) p) (sym b)

  fillers : (x₀ : ℕ) → begin ≡ Sum x₀ → (xs : List HeldColumn) (q : ℕ) → length job.parts ≤ q → q + length xs ≡ length sheet.lanes → LanesFrom xs q → total (lane_bound sheet bs) xs [] ≡ Sum 0
  fillers x₀ b [] q l m f = refl
  fillers x₀ b (x ∷ xs) q l m f =
      let n = lanes_next x xs q f in
      ap₂ add (ap (λ (z : HeldColumn). lane_bound sheet bs z []) n.0 ∙ idle q l (omega arith) ∙ ap unpaid b) (fillers x₀ b xs (suc q) (omega arith) (omega arith) n.1)

  lanes-total : (x₀ : ℕ) → begin ≡ Sum x₀ → (xs : List HeldColumn) (ps : List Part) (q : ℕ) → q + length ps ≡ length job.parts → q + length xs ≡ length sheet.lanes → LanesFrom xs q → PartsFrom ps q
      → total (lane_bound sheet bs) xs [] ≡ total (part_bound job) (held_from job q ps) p
  unfolding held_from
  lanes-total x₀ b xs [] q m n f g = fillers x₀ b xs q (omega arith) n f
  lanes-total x₀ b [] (y ∷ ps) q m n f g = absurd (omega (arith, so.real))
  lanes-total x₀ b (x ∷ xs) (y ∷ ps) q m n f g =
      let a = lanes_next x xs q f in
      let c = parts_next y ps q g in
      ap₂ add (own_at (lane_bound sheet bs) (part_bound job) (λ i l. own (get_or sheet.lanes i no_lane) (part_of_lem i) (so.lane i l)) x y q (omega arith) a.0 c.0)
      (lanes-total x₀ b xs ps (suc q) (omega arith) (omega arith) a.1 c.1)

  lanes-largest : (xs : List HeldColumn) (ps : List Part) (q : ℕ) → q + length ps ≡ length job.parts → q + length xs ≡ length sheet.lanes → LanesFrom xs q → PartsFrom ps q
      → largest (lane_fee sheet bs) (take (length ps) xs) [] ≡ largest (part_fee job) (held_from job q ps) p
  unfolding held_from
  lanes-largest xs [] q m n f g = refl
  lanes-largest [] (y ∷ ps) q m n f g = absurd (omega (arith, so.real))
  lanes-largest (x ∷ xs) (y ∷ ps) q m n f g =
      let a = lanes_next x xs q f in
      let c = parts_next y ps q g in
      ap₂ larger (own_at (lane_fee sheet bs) (part_fee job) (λ i l. own_fee (get_or sheet.lanes i no_lane) (part_of_lem i) (so.lane i l)) x y q (omega arith) a.0 c.0)
      (lanes-largest xs ps (suc q) (omega arith) (omega arith) a.1 c.1)

  all_lanes : LanesFrom sheet.lanes 0
  all_lanes = λ i l. let z : i ≡ 0 + i = omega arith in ap (λ (j : ℕ). get_or sheet.lanes j no_lane) z

  all_parts : PartsFrom job.parts 0
  all_parts = λ i l. let z : i ≡ 0 + i = omega arith in ap (λ (j : ℕ). get_or job.parts j no_part) z

  -- where the first part can't be kept, both sums are Missing
  missing_lanes : (xs : List HeldColumn) → 0 < length xs → lane_bound sheet bs (get_or xs 0 no_lane) [] ≡ Missing → total (lane_bound sheet bs) xs [] ≡ Missing
  missing_lanes [] g b = absurd (omega arith)
  missing_lanes (x ∷ xs) g b = ap (λ (y : Bound). add y (total (lane_bound sheet bs) xs [])) b

  missing_parts : (ps : List Part) → 0 < length ps → part_bound job (held_at job 0 (get_or ps 0 no_part)) p ≡ Missing → total (part_bound job) (held_from job 0 ps) p ≡ Missing
  unfolding held_from
  missing_parts [] g b = absurd (omega arith)
  missing_parts (x ∷ ps) g b = ap (λ (y : Bound). add y (total (part_bound job) (held_from job 1 ps) p)) b

  all_total : (b : Bound) → begin ≡ b → total (lane_bound sheet bs) sheet.lanes [] ≡ total (part_bound job) (held_parts job) p
  all_total (Sum x) b = lanes-total x b sheet.lanes job.parts 0 (omega arith) (omega arith) all_lanes all_parts
  all_total Missing b =
      missing_lanes sheet.lanes (omega (arith, so.some, so.real)) b
      ∙ sym (missing_parts job.parts so.some (sym (own (get_or sheet.lanes 0 no_lane) (part_of_lem 0) (so.lane 0 so.some)) ∙ b))

  all_largest : largest (lane_fee sheet bs) (take sheet.parts sheet.lanes) [] ≡ largest (part_fee job) (held_parts job) p
  all_largest =
      ap (λ (n : ℕ). largest (lane_fee sheet bs) (take n sheet.lanes) []) so.parts ∙ lanes-largest sheet.lanes job.parts 0 (omega arith) (omega arith) all_lanes all_parts

  -- the bound of the sheet at a node is that of the job
  pub held_bound_lem : held_bound sheet p ≡ bound_of job p
  unfolding held_bound bound_of stop_cost
  held_bound_lem =
      ap₂ add (ap₂ add (λ i. Sum (sum_at (so.fees i) (stops_in (node_same i)) + removed_in (so.removals i) (node_same i))) (all_total begin refl)) all_largest
