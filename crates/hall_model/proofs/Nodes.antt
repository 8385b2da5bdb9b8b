-- From full nodes to hall plans: each line's own node is full, its plan keeps the lives and costs no more than its bound there; so the hall plan, whose decisions are not after the node's name and which
-- pays no more calls. Where every full node before the node costs more, the decisions are the node's: a call after which no line stops comes after no call.
use mathlib.Core.Path.{◌≡◌, refl, sym, ap, subst, ◌∙◌}
use mathlib.Core.Bool.{Bool}
use mathlib.Core.List.{List, [], ◌∷◌, map}
use mathlib.Core.Logic.{⊎_elim}
use Prim.Native.Nat.{ℕ, zero, suc, ◌+◌, ◌≤◌}
use native.Mathlib.Omega.{arith}
use lib.ListN.{length, get_or}
use Rattle.branch.specs.declared.Bound.TheVariants.{Sum}
use Rattle.branch.specs.Search.{plan, Strict}
use Rattle.branch.specs.Lower.{total}
use Rattle.branch.proofs.Lower.{Split, split}
use Rattle.branch.proofs.Bounds.{sum_inj}
use Rattle.model.specs.Model.{Job, Plan, Each, KeepsLives}
use Rattle.model.specs.Decisions.{block_of, plan_blocks, concat}
use Rattle.model.specs.LowerBound.{inner, node_at, stop_cost, bound_of, plan_at}
use Rattle.model.proofs.Lists.{table-length}
use Rattle.model.proofs.Blocks.{Wholes, blocks_full}
use Rattle.model.proofs.Bounded.{FullNode as LineFull, full_bound}
use Rattle.model.proofs.Under.{Under, under_before}
use Rattle.model.proofs.Nodes.{own_keeps, blocks_under, own_most}
use Rattle.hall_model.specs.Hall.{Hall, Proper, Placed, open_at, costs_of, hall_cost, KeepsAll}
use Rattle.hall_model.specs.Agenda.{crew_steps, Line, lines_from, lines_of, name_for}
use Rattle.hall_model.specs.Decisions.{block_at, hall_decisions}
use Rattle.hall_model.specs.LowerBound.{line_bound, priced, called_at, hall_bound, line_plan, hall_plan_at}
use Rattle.hall_model.specs.Promise.{hall_tree}
use Rattle.hall_model.proofs.Bounded.{FullNode}
use Rattle.hall_model.proofs.Turns.{Turn, Turns, spelled, column, called, turns_of_lem, line_hears, crew_hears}
use Rattle.hall_model.proofs.Dealt.{Dealt, dealt_joined, dealt_length, dealt_turns}
use Rattle.hall_model.proofs.Order.{NotAfter}
use Rattle.hall_model.proofs.Plans.{no_plan_lem, plan_dealt, node_of}
use Rattle.hall_model.proofs.After.{LineAfter, decisions_after, fewer_calls}

each_under : (bs cs : List (List Bool)) → Each Under bs cs → Each NotAfter bs cs
each_under [] [] e = tt
each_under [] (c ∷ cs) e = absurd e
each_under (b ∷ bs) [] e = absurd e
each_under (b ∷ bs) (c ∷ cs) e = (under_before e.0, each_under bs cs e.1)

-- the plan of a line by its place
pub plan_placed : (g : Line → Plan) (j : ℕ) (js : List Job) (i : ℕ) (job : Job) → Placed js i job → get_or (map g (lines_from j js)) i no_plan_lem ≡ g (record { place = j + i; job = job })
unfolding lines_from
plan_placed g j [] i job at = absurd at
plan_placed g j (x ∷ js) zero job at = let z : j ≡ j + 0 = omega arith in λ k. g (record { place = z k; job = at k })
plan_placed g j (x ∷ js) (suc i) job at = let z : suc j + i ≡ j + suc i = omega arith in plan_placed g (suc j) js i job at ∙ ap (λ (n : ℕ). g (record { place = n; job = job })) z

module _ (hall : Hall) (proper : Proper hall) (s : List Bool) (full : FullNode hall s) where
  abbrev jobs : List Job
  jobs = hall.jobs

  abbrev steps : List ℕ
  steps = crew_steps hall

  abbrev read : (ts : List Turn) × Turns jobs steps ts × (s ≡ spelled ts)
  read = turns_of_lem jobs steps s full

  abbrev ts : List Turn
  ts = read.0

  -- ---- one line

  abbrev name : ℕ → Job → List Bool
  name d job = name_for hall (record { place = d; job = job }) s

  pub record LineNode (d : ℕ) (job : Job) : Type 0 where
    -- the blocks of the line's own node
    pub blocks : List (List Bool)
    -- the turns of the hall's full node deal the line these blocks at the steps where it is open
    pub dealt : Dealt (map (open_at job) steps) (column d ts) blocks
    -- the line's own node is full
    pub line_full : LineFull job (name d job)
    pub node : node_at job (name d job) ≡ blocks

  -- at a full node of the hall each line is at a full node of its own
  pub line_node : (d : ℕ) (job : Job) → Placed jobs d job → LineNode d job
  line_node d job at =
      let r = dealt_turns jobs d job at steps ts read.1 in
      let bs = r.0 in
      let size : length bs ≡ length job.openings =
      dealt_length (map (open_at job) steps) (column d ts) (map (block_at job no_plan_lem) steps) bs (plan_blocks job no_plan_lem) r.1 (plan_dealt hall proper d job at no_plan_lem)
      ∙ table-length (block_of job no_plan_lem) (length job.openings) in
      let b = blocks_full (inner job) (length job.openings) bs (subst (λ (n : ℕ). Wholes (inner job) n bs) size r.2) in
      let is : name d job ≡ concat bs =
      ap (name_for hall (record { place = d; job = job })) read.2 ∙ line_hears jobs (record { place = d; job = job }) at steps ts read.1
      ∙ dealt_joined (map (open_at job) steps) (column d ts) bs r.1 in
      record { blocks = bs; dealt = r.1; line_full = subst (LineFull job) (sym is) b.0; node = ap (node_at job) is ∙ b.1 }

  -- ---- all lines

  lines_own : (j : ℕ) (js : List Job) (n : ℕ) → total (line_bound hall) (lines_from j js) s ≡ Sum n → ((i : ℕ) (job : Job) → Placed js i job → LineFull job (name (j + i) job))
      → Each KeepsLives js (map (line_plan hall s) (lines_from j js)) × (costs_of js (map (line_plan hall s) (lines_from j js)) ≤ n)
  unfolding lines_from
  lines_own j [] n e f = (tt, omega arith)
  lines_own j (job ∷ js) n e f =
      let d = split (line_bound hall (record { place = j; job = job }) s) (total (line_bound hall) (lines_from (suc j) js) s) n e in
      let z : j + 0 ≡ j = omega arith in
      let full = subst (λ (k : ℕ). LineFull job (name k job)) z (f 0 job refl) in
      let costs : stop_cost job (name j job) ≡ Sum d.a = sym (full_bound job (name j job) full) ∙ d.left in
      let r = lines_own (suc j) js d.b d.right (λ i x at. let w : j + suc i ≡ suc j + i = omega arith in subst (λ (k : ℕ). LineFull x (name k x)) w (f (suc i) x at)) in
      ((own_keeps job (name j job) full d.a costs, r.0), omega (arith, own_most job (name j job) full d.a costs, r.1, d.sum))

  lines_bound : (j : ℕ) (js : List Job) (n : ℕ) → total (line_bound hall) (lines_from j js) s ≡ Sum n → (i : ℕ) (job : Job) → Placed js i job → (m : ℕ) × (bound_of job (name (j + i) job) ≡ Sum m)
  unfolding lines_from
  lines_bound j [] n e i job at = absurd at
  lines_bound j (x ∷ js) n e zero job at =
      let d = split (line_bound hall (record { place = j; job = x }) s) (total (line_bound hall) (lines_from (suc j) js) s) n e in
      let z : j + 0 ≡ j = omega arith in
      (d.a, (λ k. bound_of (sym at k) (name (z k) (sym at k))) ∙ d.left)
  lines_bound j (x ∷ js) n e (suc i) job at =
      let d = split (line_bound hall (record { place = j; job = x }) s) (total (line_bound hall) (lines_from (suc j) js) s) n e in
      let r = lines_bound (suc j) js d.b d.right i job at in
      let w : j + suc i ≡ suc j + i = omega arith in
      (r.0, ap (λ (k : ℕ). bound_of job (name k job)) w ∙ r.1)

  module _ (c : ℕ) (costs : hall_bound hall s ≡ Sum c) where
    parted : Split (Sum (called_at hall s)) (total (line_bound hall) (lines_of hall) s) c
    unfolding hall_bound
    parted = split (Sum (called_at hall s)) (total (line_bound hall) (lines_of hall) s) c costs

    abbrev own : List Plan
    own = hall_plan_at hall s

    abbrev lines : Each KeepsLives jobs own × (costs_of jobs own ≤ parted.b)
    lines = lines_own 0 jobs parted.b parted.right (λ i job at. let z : i ≡ 0 + i = omega arith in subst (λ (k : ℕ). LineFull job (name k job)) z (line_node i job at).line_full)

    -- the hall plan of a full node that has a cost keeps every life
    pub hall_keeps : KeepsAll hall own
    hall_keeps = lines.0

    -- in the hall plan of a full node each line has the plan of its own node
    pub own_placed : (d : ℕ) (job : Job) → Placed jobs d job → get_or own d no_plan_lem ≡ plan_at job (name d job)
    own_placed d job at = let z : 0 + d ≡ d = omega arith in plan_placed (line_plan hall s) 0 jobs d job at ∙ ap (λ (n : ℕ). plan_at job (name n job)) z

    -- a line's cost at its own node
    pub line_costs : (d : ℕ) (job : Job) → Placed jobs d job → (m : ℕ) × (stop_cost job (name d job) ≡ Sum m)
    line_costs d job at =
        let z : d ≡ 0 + d = omega arith in
        let r = lines_bound 0 jobs parted.b parted.right d job at in
        (r.0, sym (full_bound job (name d job) (line_node d job at).line_full) ∙ ap (λ (n : ℕ). bound_of job (name n job)) z ∙ r.1)

    line_after : (d : ℕ) (job : Job) → Placed jobs d job → LineAfter hall proper own hall_keeps ts read.1 d job
    line_after d job at =
        let l = line_node d job at in
        let m = line_costs d job at in
        record {
          blocks = l.blocks;
          dealt = l.dealt;
          after = rw (own_placed d job at) (subst (Each NotAfter (plan_blocks job (plan_at job (name d job)))) l.node
              (each_under (plan_blocks job (plan_at job (name d job))) (node_at job (name d job)) (blocks_under job (name d job) l.line_full m.0 m.1)));
        }

    -- the decisions are not after the node, and the cost is no more
    pub own_after : NotAfter (hall_decisions hall own) s
    own_after = subst (NotAfter (hall_decisions hall own)) (sym read.2) (decisions_after hall proper own hall_keeps ts read.1 line_after)

    -- the hall plan of a full node costs no more than the node
    pub hall_most : hall_cost hall own ≤ c
    hall_most =
        let calls : called_at hall s ≡ priced hall.call (called ts) = ap (called_at hall) read.2 ∙ ap (priced hall.call) (crew_hears jobs steps ts read.1) in
        let paid = sum_inj (Sum (called_at hall s)) (called_at hall s) parted.a refl parted.left in
        omega (arith, lines.1, fewer_calls hall proper own hall_keeps ts read.1 line_after, calls, paid, parted.sum)

    -- ---- where every full node before s costs more

    module _ (strict : Strict (hall_tree hall) (plan c s)) where
      -- the decisions are the node's
      pub decides : hall_decisions hall own ≡ s
      decides = ⊎_elim (λ e. e)
          (λ h. let b = node_of hall proper own hall_keeps in absurd (omega (arith, strict (hall_decisions hall own) b.bound h b.node, b.le, hall_most)))
          own_after
