-- The cost of a plan by its decisions: the fees of its stops, the removals decided, and each part's changes at prices that have the removal in them where the part holds nobody.
-- A part that holds nobody comes out only where it is changed, so its removals are the same sum taken part by part.
use mathlib.Core.Path.{◌≡◌, refl, sym, ap, ◌∙◌}
use mathlib.Core.Bool.{Bool, true, false, cond, false≢true}
use mathlib.Core.List.{List, [], ◌∷◌, map}
use Prim.Native.Nat.{ℕ, zero, suc, ◌+◌, ◌<◌}
use native.Mathlib.Omega.{arith}
use lib.ListN.{length, length-map, get_or, drop}
use Rattle.model.specs.Model.{Part, Job, Plan, table, holding, sum_at, sum, fee_of, removal_of_lem, prices_of_lem, out_at, removals_of_lem, cost_of_lem, Each, KeepsPart, KeepsLives}
use Rattle.model.specs.Decisions.{of_holders, Held, charge, charged, held_from, held_parts, block_of, plan_blocks, concat, decisions_of}
use Rattle.model.specs.LowerBound.{inner, node_at, stops_in, removed_in}
use Rattle.model.proofs.Lists.{table_at, table_same, table-map, table_list}
use Rattle.model.proofs.Sums.{sum_same, sum_both, sum_shift, sum_swap}
use Rattle.model.proofs.Totals.{sum_at_lem, sum_empty, outside, sum_split, outside-length, outside_at, select-length, select_none}
use Rattle.model.proofs.Outs.{holding-length, outs_length, brought, alone}
use Rattle.model.proofs.Blocks.{Whole, Wholes, blocks_full}
use Rattle.model.proofs.Bounded.{FullNode}

-- a choice of a sum is the sum of choices
pub cond_plus : (b : Bool) (x y : ℕ) → cond b (x + y) 0 ≡ cond b x 0 + cond b y 0
cond_plus true x y = refl
cond_plus false x y = omega arith

-- every change is at a stop
pub changed_stop : (job : Job) (stops : List Bool) (ps : List Part) (cs : List (List Bool)) → Each (KeepsPart job stops) ps cs
    → (i k : ℕ) → get_or (get_or cs i []) k false ≡ true → get_or stops k false ≡ true
changed_stop job stops [] [] e i k t = absurd (false≢true t)
changed_stop job stops [] (c ∷ cs) e i k t = absurd e
changed_stop job stops (p ∷ ps) [] e i k t = absurd e
changed_stop job stops (p ∷ ps) (c ∷ cs) e zero k t = e.0.at_stops k t
changed_stop job stops (p ∷ ps) (c ∷ cs) e (suc i) k t = changed_stop job stops ps cs e.1 i k t

-- the parts of a list as they are planned for
abbrev pub parts_of : List Held → List Part
parts_of hs = map (λ (held : Held). held.part) hs

-- what is removed over blocks that are given by a function
removed_sum : (rs : List ℕ) (f : ℕ → List Bool) (n : ℕ) → removed_in rs (table f n) ≡ sum 0 n (λ k. sum_at rs (drop 1 (f k)))
unfolding table sum
removed_sum rs f zero = refl
removed_sum rs f (suc n) = omega (arith, removed_sum rs (λ k. f (suc k)) n, sum_shift n 0 (λ k. sum_at rs (drop 1 (f k))))

module _ (job : Job) where
  abbrev size : ℕ
  size = length job.parts

  abbrev steps : ℕ
  steps = length job.openings

  abbrev removals : List ℕ
  removals = map removal_of_lem job.parts

  -- ---- each part's charge

  charges_from : ℕ → List Part → List ℕ
  charges_from i [] = []
  charges_from i (p ∷ ps) = charge job i p ∷ charges_from (suc i) ps

  charges_at : (i : ℕ) (ps : List Part) (j : ℕ) → j < length ps → get_or (charges_from i ps) j 0 ≡ cond (get_or (holding job) (i + j) false) 0 (get_or (map removal_of_lem ps) j 0)
  unfolding charges_from
  charges_at i [] j l = absurd (omega arith)
  charges_at i (p ∷ ps) zero l = let z : i ≡ i + 0 = omega arith in ap (λ (m : ℕ). cond (get_or (holding job) m false) 0 p.removal) z
  charges_at i (p ∷ ps) (suc j) l =
      let z : suc i + j ≡ i + suc j = omega arith in
      charges_at (suc i) ps j (omega arith) ∙ ap (λ (m : ℕ). cond (get_or (holding job) m false) 0 (get_or (map removal_of_lem ps) j 0)) z

  -- what the part at place j is charged at opening k
  abbrev due : List ℕ → List (List Bool) → ℕ → ℕ → ℕ
  due ns cs k j = cond (get_or (get_or cs j []) k false) (get_or ns j 0) 0

  one_charged : (i : ℕ) (p : Part) (c : List Bool) → length c ≡ steps → sum_at (charged job i p).prices c ≡ sum_at p.prices c + sum 0 steps (λ k. cond (get_or c k false) (charge job i p) 0)
  one_charged i p c h =
      sum_at_lem (table price steps) c steps h
      ∙ sum_same steps 0 (λ k. cond (get_or c k false) (get_or (table price steps) k 0) 0) (λ k. cond (get_or c k false) (get_or p.prices k 0) 0 + cond (get_or c k false) (charge job i p) 0)
      (λ k _ l. ap (λ (x : ℕ). cond (get_or c k false) x 0) (table_at price steps k 0 (omega arith)) ∙ cond_plus (get_or c k false) (get_or p.prices k 0) (charge job i p))
      ∙ sum_both steps 0 (λ k. cond (get_or c k false) (get_or p.prices k 0) 0) (λ k. cond (get_or c k false) (charge job i p) 0)
      ∙ ap (λ (x : ℕ). x + sum 0 steps (λ k. cond (get_or c k false) (charge job i p) 0)) (sym (sum_at_lem p.prices c steps h))
    where
      price : ℕ → ℕ
      price k = get_or p.prices k 0 + charge job i p

  -- each change set has a Bool for each opening
  abbrev pub Sizes : List Part → List (List Bool) → Type 0
  Sizes ps cs = Each (λ (part : Part) (c : List Bool). length c ≡ steps) ps cs

  keeps_sizes : (stops : List Bool) (ps : List Part) (cs : List (List Bool)) → Each (KeepsPart job stops) ps cs → Sizes ps cs
  keeps_sizes stops [] [] e = tt
  keeps_sizes stops [] (c ∷ cs) e = e
  keeps_sizes stops (p ∷ ps) [] e = e
  keeps_sizes stops (p ∷ ps) (c ∷ cs) e = (e.0.size, keeps_sizes stops ps cs e.1)

  all_charged : (i : ℕ) (ps : List Part) (cs : List (List Bool)) → Sizes ps cs
      → prices_of_lem (parts_of (held_from job i ps)) cs ≡ prices_of_lem ps cs + sum 0 (length ps) (λ j. sum 0 steps (λ k. due (charges_from i ps) cs k j))
  unfolding charges_from held_from sum
  all_charged i [] [] e = refl
  all_charged i [] (c ∷ cs) e = absurd e
  all_charged i (p ∷ ps) [] e = absurd e
  all_charged i (p ∷ ps) (c ∷ cs) e =
      omega (
        arith,
        one_charged i p c e.0,
        all_charged (suc i) ps cs e.1,
        sum_shift (length ps) 0 (λ j. sum 0 steps (λ k. due (charges_from i (p ∷ ps)) (c ∷ cs) k j)),
      )

  -- ---- the removals of an opening

  -- those of the parts that hold nobody
  rest_charged : (cs : List (List Bool)) (k : ℕ) → sum_at removals (outside (out_at job cs k) (holding job)) ≡ sum 0 size (due (charges_from 0 job.parts) cs k)
  rest_charged cs k =
      sum_at_lem removals (outside (out_at job cs k) (holding job)) size (outside-length (out_at job cs k) (holding job) ∙ outs_length job cs k)
      ∙ sum_same size 0 (λ j. cond (get_or (outside (out_at job cs k) (holding job)) j false) (get_or removals j 0) 0) (due (charges_from 0 job.parts) cs k) (λ j _ l. each j (omega arith))
    where
      by : (j : ℕ) → j < size → (b : Bool) → get_or (holding job) j false ≡ b
          → cond (cond b false (get_or (out_at job cs k) j false)) (get_or removals j 0) 0 ≡ cond (get_or (get_or cs j []) k false) (cond b 0 (get_or removals j 0)) 0
      by j l true e = none (get_or (get_or cs j []) k false)
        where
          none : (b : Bool) → ◌≡◌ {A = ℕ} 0 (cond b 0 0)
          none true = refl
          none false = refl
      by j l false e = ap (λ (b : Bool). cond b (get_or removals j 0) 0) (alone job cs k j l e)

      each : (j : ℕ) → j < size → cond (get_or (outside (out_at job cs k) (holding job)) j false) (get_or removals j 0) 0 ≡ due (charges_from 0 job.parts) cs k j
      each j l =
          let z : 0 + j ≡ j = omega arith in
          ap (λ (b : Bool). cond b (get_or removals j 0) 0) (outside_at (out_at job cs k) (holding job) j)
          ∙ by j l (get_or (holding job) j false) refl
          ∙ ap (λ (x : ℕ). cond (get_or (get_or cs j []) k false) x 0)
          (sym (charges_at 0 job.parts j l ∙ ap (λ (m : ℕ). cond (get_or (holding job) m false) 0 (get_or removals j 0)) z))

  -- what is paid at opening k for the parts that are somebody's holder
  abbrev pub held_out : List (List Bool) → ℕ → ℕ
  held_out cs k = sum_at (of_holders job removals) (of_holders job (out_at job cs k))

  removals_split : (cs : List (List Bool)) → removals_of_lem job cs ≡ sum 0 steps (held_out cs) + sum 0 size (λ j. sum 0 steps (λ k. due (charges_from 0 job.parts) cs k j))
  removals_split cs =
      sum_same steps 0 (λ k. sum_at removals (out_at job cs k)) (λ k. held_out cs k + sum 0 size (due (charges_from 0 job.parts) cs k))
      (λ k _ _. sum_split removals (out_at job cs k) (holding job) (outs_length job cs k ∙ sym sized) (holding-length job ∙ sym sized)
      ∙ ap (λ (x : ℕ). held_out cs k + x) (rest_charged cs k))
      ∙ sum_both steps 0 (held_out cs) (λ k. sum 0 size (due (charges_from 0 job.parts) cs k))
      ∙ ap (λ (x : ℕ). sum 0 steps (held_out cs) + x) (sum_swap size 0 steps 0 (λ j k. due (charges_from 0 job.parts) cs k j))
    where
      sized : length removals ≡ size
      sized = length-map job.parts removal_of_lem

  -- prices and removals: those of the parts that are somebody's holder, and each part's changes as it is charged for them
  pub prices_removals : (cs : List (List Bool)) → Sizes job.parts cs → prices_of_lem job.parts cs + removals_of_lem job cs ≡ sum 0 steps (held_out cs) + prices_of_lem (parts_of (held_parts job)) cs
  prices_removals cs e = omega (arith, removals_split cs, all_charged 0 job.parts cs e)

  -- ---- a plan's decisions

  module _ (plan : Plan) where
    block_whole : (k : ℕ) → Whole (inner job) (block_of job plan k)
    block_whole k = go (get_or plan.stops k false)
      where
        go : (b : Bool) → Whole (inner job) (cond b (true ∷ of_holders job (out_at job plan.changes k)) (false ∷ []))
        go true = select-length (out_at job plan.changes k) job.parts (holding job) (outs_length job plan.changes k)
        go false = refl

    wholes : (f : ℕ → List Bool) (n : ℕ) → ((k : ℕ) → Whole (inner job) (f k)) → Wholes (inner job) n (table f n)
    unfolding table
    wholes f zero h = tt
    wholes f (suc n) h = (h 0, wholes (λ k. f (suc k)) n (λ k. h (suc k)))

    abbrev known : FullNode job (concat (plan_blocks job plan)) × (node_at job (concat (plan_blocks job plan)) ≡ plan_blocks job plan)
    known = blocks_full (inner job) steps (plan_blocks job plan) (wholes (block_of job plan) steps block_whole)

    -- they are a full node, with the plan's blocks
    pub decisions_full : FullNode job (decisions_of job plan)
    unfolding decisions_of
    decisions_full = known.0

    -- the node of a plan's decisions has the blocks that the plan decides
    pub decisions_node : node_at job (decisions_of job plan) ≡ plan_blocks job plan
    unfolding decisions_of
    decisions_node = known.1

    -- and with the plan's stops, whatever an empty block would say
    pub block_firsts : (d : Bool) → length plan.stops ≡ steps → map (λ (b : List Bool). get_or b 0 d) (plan_blocks job plan) ≡ plan.stops
    block_firsts d h =
        table-map (λ (b : List Bool). get_or b 0 d) (block_of job plan) steps
        ∙ table_same first (λ k. get_or plan.stops k false) steps (λ k l. go k (get_or plan.stops k false)) ∙ table_list false plan.stops steps h
      where
        first : ℕ → Bool
        first k = get_or (block_of job plan k) 0 d

        go : (k : ℕ) (b : Bool) → get_or (cond b (true ∷ of_holders job (out_at job plan.changes k)) (false ∷ [])) 0 d ≡ b
        go k true = refl
        go k false = refl

    -- the stops in a plan's blocks are the plan's stops, if it has one for each opening
    pub block_stops : length plan.stops ≡ steps → stops_in (plan_blocks job plan) ≡ plan.stops
    block_stops h = block_firsts true h

    module _ (keeps : KeepsLives job plan) where
      removed_out : removed_in (of_holders job removals) (plan_blocks job plan) ≡ sum 0 steps (held_out plan.changes)
      removed_out =
          removed_sum (of_holders job removals) (block_of job plan) steps
          ∙ sum_same steps 0 (λ k. sum_at (of_holders job removals) (drop 1 (block_of job plan k))) (held_out plan.changes) (λ k _ _. go k (get_or plan.stops k false) refl)
        where
          none : (k : ℕ) → get_or plan.stops k false ≡ false → (j : ℕ) → get_or (out_at job plan.changes k) j false ≡ true → ⊥
          none k e j t =
              let r = brought job plan.changes k j t in
              false≢true (sym e ∙ changed_stop job plan.stops job.parts plan.changes keeps.parts r.0 k r.2)

          go : (k : ℕ) (b : Bool) → get_or plan.stops k false ≡ b
              → sum_at (of_holders job removals) (drop 1 (cond b (true ∷ of_holders job (out_at job plan.changes k)) (false ∷ []))) ≡ held_out plan.changes k
          go k true e = refl
          go k false e =
              sum_empty (of_holders job removals) [] (λ i t. false≢true t)
              ∙ sym (sum_empty (of_holders job removals) (of_holders job (out_at job plan.changes k)) (select_none (out_at job plan.changes k) (holding job) (none k e)))

      -- the cost by the decisions
      pub cost_by : cost_of_lem job plan ≡ sum_at (map fee_of job.openings) (stops_in (plan_blocks job plan)) + removed_in (of_holders job removals) (plan_blocks job plan)
          + prices_of_lem (parts_of (held_parts job)) plan.changes
      cost_by =
          rw (block_stops keeps.size)
          (omega (arith, removed_out, prices_removals plan.changes (keeps_sizes plan.stops job.parts plan.changes keeps.parts)))
