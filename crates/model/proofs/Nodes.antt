-- From full nodes to plans: the plan of a full node keeps the lives by the chosen changes, decides no more removals than the node, and costs no more. Where every full node before the node
-- costs more, the plan's decisions are the node's, because a node with a useless removal comes after the one without it.
use mathlib.Core.Path.{◌≡◌, refl, sym, ap, subst, ◌∙◌}
use mathlib.Core.Bool.{Bool, true, false, cond}
use mathlib.Core.List.{List, [], ◌∷◌, map}
use mathlib.Core.Logic.{inl, inr, ⊎_elim}
use Prim.Native.Nat.{ℕ, zero, suc, ◌+◌, ◌≤◌, ◌<◌}
use native.Mathlib.Omega.{arith}
use lib.ListN.{length, length-map, get_or}
use Rattle.branch.specs.declared.Bound.{Bound}
use Rattle.branch.specs.declared.Bound.TheVariants.{Sum}
use Rattle.branch.specs.Search.{plan, Before, Strict}
use Rattle.branch.specs.Lower.{total}
use Rattle.branch.proofs.Lower.{Split, split}
use Rattle.branch.proofs.Bounds.{sum_inj}
use Rattle.model.specs.Model.{Part, Job, Plan, table, comes_out, holding, out_at, sum_at, fee_of, removal_of_lem, prices_of_lem, cost_of_lem, Each, KeepsPart, KeepsLives, Chosen}
use Rattle.model.specs.Decisions.{of_holders, Held, held_at, held_from, held_parts, allows, places_in, block_of, plan_blocks, decisions_of}
use Rattle.model.specs.LowerBound.{inner, node_at, stops_at, places_at, part_bound, part_choice_lem, paid_at, stop_cost, plan_at}
use Rattle.model.specs.Promise.{searched}
use Rattle.base.proofs.Bools.{inside, yes_open, open-yes}
use Rattle.model.proofs.Least.{AtMost}
use Rattle.model.proofs.Offers.{to_over, from_over, part_most, part_tie, part_found}
use Rattle.model.proofs.Totals.{select-length, select_place}
use Rattle.model.proofs.Closure.{out_length}
use Rattle.model.proofs.Outs.{holding-length, outs_length, brought}
use Rattle.model.proofs.Blocks.{places_open, Whole, whole_at, accessible_out}
use Rattle.model.proofs.Bounded.{FullNode, node_wholes, node_joined, node_length, stops-length}
use Rattle.model.proofs.Charges.{parts_of, cost_by, decisions_node, block_stops}
use Rattle.model.proofs.Under.{Under, ends, same, under_of, under_before, under_joined, under_removed}
use Rattle.model.proofs.Plans.{map_at, stops_bound}

-- ---- lists

-- R holds of a table's entries and a list pair by pair, if it does at every place
pub each_table : {A B : Type 0} (R : A → B → Type 0) (f : ℕ → A) (n : ℕ) (l : List B) (d : B) → length l ≡ n → ((k : ℕ) → k < n → R (f k) (get_or l k d)) → Each R (table f n) l
unfolding table
each_table R f zero [] d h r = tt
each_table R f zero (x ∷ l) d h r = absurd (omega arith)
each_table R f (suc n) [] d h r = absurd (omega arith)
each_table R f (suc n) (x ∷ l) d h r = (r 0 (omega arith), each_table R (λ k. f (suc k)) n l d (omega arith) (λ k q. r (suc k) (omega arith)))

module _ (job : Job) where
  abbrev size : ℕ
  size = length job.parts

  abbrev steps : ℕ
  steps = length job.openings

  places_length : (held : Held) (bs : List (List Bool)) → length bs ≡ steps → length (places_in held bs) ≡ steps
  places_length held bs h = length-map bs (allows held.needs) ∙ h

  -- the part at one place of the list
  each_held : (R : Held → List Bool → Type 0) (i : ℕ) (ps : List Part) (cs : List (List Bool)) → Each R (held_from job i ps) cs
      → (j : ℕ) → j < length ps → (part : Part) × R (held_at job (i + j) part) (get_or cs j [])
  unfolding held_from
  each_held R i [] cs e j l = absurd (omega arith)
  each_held R i (p ∷ ps) [] e j l = absurd e
  each_held R i (p ∷ ps) (c ∷ cs) e zero l = let z : i ≡ i + 0 = omega arith in (p, subst (λ (m : ℕ). R (held_at job m p) c) z e.0)
  each_held R i (p ∷ ps) (c ∷ cs) e (suc j) l =
      let r = each_held R (suc i) ps cs e.1 j (omega arith) in
      let z : suc i + j ≡ i + suc j = omega arith in
      (r.0, subst (λ (m : ℕ). R (held_at job m r.0) (get_or cs j [])) z r.1)

  -- ---- the choices of a full node

  module _ (s : List Bool) (full : FullNode job s) where
    chosen : (held : Held) (n : ℕ) → part_bound job held s ≡ Sum n
        → Chosen job (places_at job held s) held.part (part_choice_lem job held s) × (sum_at held.part.prices (part_choice_lem job held s) ≡ n)
    chosen held n e =
        let part = held.part in
        let at = places_at job held s in
        let found = part_found job part part.prices at n e in
        let cs = part_choice_lem job held s in (
          record {
            keeps = from_over job part at cs (places_length held (node_at job s) (node_length job s full)) found.0;
            least = λ ds k.
                let h : n ≤ sum_at part.prices ds = subst (λ (x : Bound). AtMost x (sum_at part.prices ds)) e (part_most job part part.prices at ds (to_over job part at ds k)) in
                omega (arith, h, found.1);
            first = λ ds k q.
                let z : n ≡ sum_at part.prices ds = omega (arith, found.1, q) in
                ⊎_elim (λ t. inl (sym t)) (λ t. inr t) (part_tie job part part.prices at ds (to_over job part at ds k) (e ∙ ap Sum z));
          },
          found.1,
        )

    all_chosen : (hs : List Held) (n : ℕ) → total (part_bound job) hs s ≡ Sum n
        → Each (λ (held : Held). Chosen job (places_at job held s) held.part) hs (map (λ (held : Held). part_choice_lem job held s) hs)
        × (prices_of_lem (parts_of hs) (map (λ (held : Held). part_choice_lem job held s) hs) ≡ n)
    all_chosen [] n e = (tt, sum_inj (Sum 0) 0 n refl e)
    all_chosen (held ∷ hs) n e =
        let d = split (part_bound job held s) (total (part_bound job) hs s) n e in
        let one = chosen held d.a d.left in
        let rest = all_chosen hs d.b d.right in
        ((one.0, rest.0), omega (arith, one.1, rest.1, d.sum))

    -- ---- they are at the node's stops

    on_stops : (held : Held) (cs : List Bool) → KeepsPart job (places_at job held s) held.part cs → (i : ℕ) → get_or cs i false ≡ true → get_or (stops_at job s) i false ≡ true
    on_stops held cs k i t =
        open-yes (stops_at job s) i (omega (arith, inside cs i t, k.size, stops-length job s full))
        (places_open held (node_at job s) i (yes_open (places_at job held s) i (k.at_stops i t)))

    each_keeps : (i : ℕ) (ps : List Part) (cs : List (List Bool)) → Each (λ (held : Held). Chosen job (places_at job held s) held.part) (held_from job i ps) cs → Each (KeepsPart job (stops_at job s)) ps cs
    unfolding held_from
    each_keeps i [] [] e = tt
    each_keeps i [] (c ∷ cs) e = absurd e
    each_keeps i (p ∷ ps) [] e = absurd e
    each_keeps i (p ∷ ps) (c ∷ cs) e =
        (record { size = e.0.keeps.size; at_stops = on_stops (held_at job i p) c e.0.keeps; lives = e.0.keeps.lives }, each_keeps (suc i) ps cs e.1)

    module _ (c : ℕ) (costs : stop_cost job s ≡ Sum c) where
      parted : Split (Sum (paid_at job s)) (total (part_bound job) (held_parts job) s) c
      unfolding stop_cost
      parted = split (Sum (paid_at job s)) (total (part_bound job) (held_parts job) s) c costs

      abbrev own : Plan
      own = plan_at job s

      abbrev choices : Each (λ (held : Held). Chosen job (places_at job held s) held.part) (held_parts job) own.changes
      choices = (all_chosen (held_parts job) parted.b parted.right).0

      -- the plan of a full node that has a cost keeps the lives
      pub own_keeps : KeepsLives job own
      own_keeps = record { size = stops-length job s full; parts = each_keeps 0 job.parts own.changes choices }

      -- ---- its decisions are under the node's

      -- at a stop, a part comes out only if the node has decided so
      removed_there : (k : ℕ) (r : List Bool) → k < steps → get_or (node_at job s) k [] ≡ true ∷ r → length r ≡ inner job
          → (j : ℕ) → get_or (of_holders job (out_at job own.changes k)) j false ≡ true → get_or r j false ≡ true
      removed_there k r l e w j t =
          let m = select_place (holding job) j in
          let out = sym (m.1 (out_at job own.changes k) (outs_length job own.changes k ∙ sym (holding-length job))) ∙ t in
          let b = brought job own.changes k m.0 out in
          let need = m.1 (comes_out job b.0) (out_length job b.0 ∙ sym (holding-length job)) ∙ b.3 in
          let h = each_held (λ (held : Held). Chosen job (places_at job held s) held.part) 0 job.parts own.changes choices b.0 b.1 in
          let z : 0 + b.0 ≡ b.0 = omega arith in
          let held : Chosen job (places_at job (held_at job b.0 h.0) s) (held_at job b.0 h.0).part (get_or own.changes b.0 []) =
          subst (λ (i : ℕ). Chosen job (places_at job (held_at job i h.0) s) (held_at job i h.0).part (get_or own.changes b.0 [])) z h.1 in
          let needs = of_holders job (comes_out job b.0) in
          let at : allows needs (true ∷ r) ≡ true =
          ap (allows needs) (sym e) ∙ sym (map_at (allows needs) (node_at job s) k [] false (omega (arith, node_length job s full))) ∙ held.keeps.at_stops k b.2 in
          open-yes r j (omega (arith, inside (of_holders job (out_at job own.changes k)) j t, select-length (out_at job own.changes k) job.parts (holding job) (outs_length job own.changes k), w))
          (accessible_out needs r at j need)

      block_under : (k : ℕ) → k < steps → Under (block_of job own k) (get_or (node_at job s) k [])
      block_under k l = go (get_or (node_at job s) k []) refl (whole_at (inner job) steps (node_at job s) (node_wholes job s full) k l)
        where
          stop : get_or (stops_at job s) k false ≡ get_or (get_or (node_at job s) k []) 0 true
          stop = map_at (λ (b : List Bool). get_or b 0 true) (node_at job s) k [] false (omega (arith, node_length job s full))

          block : Bool → List Bool
          block b = cond b (true ∷ of_holders job (out_at job own.changes k)) (false ∷ [])

          go : (d : List Bool) → get_or (node_at job s) k [] ≡ d → Whole (inner job) d → Under (block (get_or (stops_at job s) k false)) d
          go [] e w = absurd w
          go (false ∷ r) e w =
              subst (λ (b : Bool). Under (block b) (false ∷ r)) (sym (stop ∙ ap (λ (d : List Bool). get_or d 0 true) e)) (subst (λ (l : List Bool). Under (false ∷ []) (false ∷ l)) (sym w) (same ends))
          go (true ∷ r) e w =
              subst (λ (b : Bool). Under (block b) (true ∷ r)) (sym (stop ∙ ap (λ (d : List Bool). get_or d 0 true) e))
              (same (under_of (of_holders job (out_at job own.changes k)) r
              (select-length (out_at job own.changes k) job.parts (holding job) (outs_length job own.changes k) ∙ sym w)
              (removed_there k r l e w)))

      -- block by block, the node's own plan decides no more removals than the node
      pub blocks_under : Each Under (plan_blocks job own) (node_at job s)
      blocks_under = each_table Under (block_of job own) steps (node_at job s) [] (node_length job s full) block_under

      -- so it costs no more
      pub own_most : cost_of_lem job own ≤ c
      own_most =
          let paid = sum_inj (Sum (paid_at job s)) (paid_at job s) parted.a refl parted.left in
          let prices = (all_chosen (held_parts job) parted.b parted.right).1 in
          let stops = ap (sum_at (map fee_of job.openings)) (block_stops job own (stops-length job s full)) in
          omega (arith, cost_by job own own_keeps, stops, under_removed (of_holders job (map removal_of_lem job.parts)) (plan_blocks job own) (node_at job s) blocks_under, paid, prices, parted.sum)

      -- ---- where every full node before s costs more

      -- the decisions are the node's: "an incumbent never has a useless removal"
      pub settled : Strict (searched job) (plan c s) → decisions_of job own ≡ s
      unfolding decisions_of
      settled strict = ⊎_elim (λ e. e ∙ node_joined job s full)
          (λ h.
          let b = stops_bound job own own_keeps in
          absurd (omega (arith, strict (decisions_of job own) b.bound (subst (Before (decisions_of job own)) (node_joined job s full) h) b.node, b.le, own_most)))
          (under_before (under_joined (plan_blocks job own) (node_at job s) blocks_under))

      -- ---- where the decisions are the node's

      module _ (decides : decisions_of job own ≡ s) where
        -- where the plan's decisions are the node's name, its blocks are the node's blocks
        pub own_blocks : plan_blocks job own ≡ node_at job s
        own_blocks = sym (decisions_node job own) ∙ ap (node_at job) decides

        -- the cost is the plan's true cost
        pub own_cost : cost_of_lem job own ≡ c
        own_cost =
            let b = stops_bound job own own_keeps in
            omega (arith, sum_inj (stop_cost job s) b.bound c (sym (ap (stop_cost job) decides) ∙ b.is) costs, b.le, own_most)

        -- each part's changes are chosen by the tie rule at the places that the plan's blocks leave
        pub own_chosen : Each (λ (held : Held). Chosen job (places_in held (plan_blocks job own)) held.part) (held_parts job) own.changes
        own_chosen = subst (λ (bs : List (List Bool)). Each (λ (held : Held). Chosen job (places_in held bs) held.part) (held_parts job) own.changes) (sym own_blocks) choices
