-- E12.6. "If the log is the start of a plan the planner printed with 0, the least cost of the new job is that plan's remaining cost." More than that: the rest of the plan is the
-- tie rule's choice in the new job. A plan of the new job that were better would make a better one of the old job, behind the log.
use mathlib.Core.Path.{◌≡◌, refl, sym, ap, ap₂, subst, ◌∙◌}
use mathlib.Core.Bool.{Bool, true, false, cond, ◌||◌}
use mathlib.Core.List.{List, [], ◌∷◌, ◌++◌, map}
use mathlib.Core.Logic.{◌⊎◌, ◌↔◌}
use Prim.Native.Nat.{ℕ, suc, ◌+◌, ◌-◌, ◌<◌}
use native.Mathlib.Omega.{arith}
use lib.ListN.{length, length-map, get_or, take, drop}
use lib.Seq.{get_or-take, get_or-drop, drop-append_seam}
use Rattle.branch.specs.Search.{Before}
use Rattle.branch.proofs.Unique.{best_cost, best_same}
use Rattle.model.specs.Model.{Part, Job, Plan, table, comes_out, out_at, sum_at, cost_of_lem, Each, KeepsPart, KeepsLives, Chosen}
use Rattle.model.specs.Windows.{Rising, steps_of}
use Rattle.model.specs.Decisions.{of_holders, Held, charge, charged, held_at, held_from, held_parts, allows, places_in, block_of, plan_blocks, concat, decisions_of, changed_at_lem}
use Rattle.model.specs.Promise.{PlannerAnswer, job_problem, BestPlan, no_plan_lem2, cut_none, cut, optimum, result_of, answer_of, Any, Promise}
use Rattle.model.proofs.Verdicts.{lives_shaped}
use Rattle.model.proofs.Lists.{table-length, table_same}
use Rattle.model.proofs.Promised.{promise}
use Rattle.model.proofs.Unique.{determined}
use Rattle.carry.specs.Carry.{Log, Logged, Lasts, Accepts, carried_part, carried_parts, carried}
use Rattle.carry.specs.Start.{continued_by, continued, Starts, rest_of}
use Rattle.model.proofs.Blocks.{concat_append}
use Rattle.carry.proofs.Splits.{table_append, at_front, at_back, Sub, sub_front, first_back, map-append}
use Rattle.carry.proofs.Lives.{past, past_most}
use Rattle.carry.proofs.Parts.{Done, logged_done, stops_front, front_size, changed_front, changed_back}
use Rattle.carry.proofs.Keeps.{openings_size, part_cut, lives_cut}
use Rattle.carry.proofs.Kin.{parts-length, comes_same, holding_same, out_at_same, outs_same, of_holders_same}
use Rattle.carry.proofs.Costs.{sum_cut, cost_cut}
use Rattle.carry.proofs.Begun.{begun, rest_size, lives_begun, cost_begun}

module _ (job : Job) (log : Log) (rising : Rising 0 job.horizon (steps_of job.openings)) (logged : Logged job log) where
  abbrev next : Job
  next = carried job log

  abbrev n : ℕ
  n = past job log

  did : Each (Done job log) job.parts log.plan.changes
  did = logged_done job log logged

  -- ---- the decisions: the log's, then the rest's

  abbrev done_blocks : List (List Bool)
  done_blocks = table (block_of job log.plan) n

  module _ (rest : Plan) (size : length rest.changes ≡ length job.parts) where
    abbrev all : Plan
    all = continued job log rest

    stops_size : length (take n log.plan.stops) ≡ n
    stops_size = stops_front job log logged.shaped

    block_front : (k : ℕ) → k < n → block_of job all k ≡ block_of job log.plan k
    block_front k l =
        let s = at_front (take n log.plan.stops) rest.stops n k false stops_size l ∙ get_or-take n log.plan.stops k false l in
        let o = out_at_same job all.changes log.plan.changes k k (λ i. changed_front job log job.parts log.plan.changes rest.changes did i k l) in
        λ i. cond (s i) (true ∷ of_holders job (o i)) (false ∷ [])

    block_back : (k : ℕ) → block_of job all (n + k) ≡ block_of next rest k
    block_back k =
        let s = at_back (take n log.plan.stops) rest.stops n k false stops_size in
        let o = out_at_same job all.changes rest.changes (n + k) k (λ i. changed_back job log job.parts log.plan.changes rest.changes did size i k) in
        let h = ap (of_holders job) (o ∙ sym (outs_same job log rest.changes k)) ∙ sym (of_holders_same job log (out_at next rest.changes k)) in
        λ i. cond (s i) (true ∷ h i) (false ∷ [])

    blocks_cut : plan_blocks job all ≡ done_blocks ++ plan_blocks next rest
    blocks_cut =
        let m = length next.openings in
        let f = table_same (block_of job all) (block_of job log.plan) n block_front in
        let b = table_same (λ k. block_of job all (n + k)) (block_of next rest) m (λ k l. block_back k) in
        ap (table (block_of job all)) (openings_size job log) ∙ table_append (block_of job all) n m ∙ λ i. f i ++ b i

    decisions_cut : decisions_of job all ≡ concat done_blocks ++ decisions_of next rest
    unfolding decisions_of
    decisions_cut = ap concat blocks_cut ∙ concat_append done_blocks (plan_blocks next rest)

  -- ---- the parts as they are planned for

  charge_same : (i : ℕ) (part : Part) (c : List Bool) → charge next i (carried_part job log.step part c) ≡ charge job i part
  charge_same i part c = ap (λ (h : List Bool). cond (get_or h i false) 0 part.removal) (holding_same job log)

  prices_same : (i : ℕ) (part : Part) (c : List Bool) → (charged next i (carried_part job log.step part c)).prices ≡ drop n (charged job i part).prices
  prices_same i part c =
      let m = length next.openings in
      let f : ℕ → ℕ = λ k. get_or part.prices k 0 + charge job i part in
      table_same (λ k. get_or (drop n part.prices) k 0 + charge next i (carried_part job log.step part c)) (λ k. get_or part.prices (n + k) 0 + charge job i part) m
      (λ k l. ap₂ (λ (a b : ℕ). a + b) (get_or-drop n part.prices k 0) (charge_same i part c))
      ∙ sym (ap (λ (k : ℕ). drop n (table f k)) (openings_size job log) ∙ ap (drop n) (table_append f n m)
      ∙ ap (λ (k : ℕ). drop k (table f n ++ table (λ k. f (n + k)) m)) (sym (table-length f n)) ∙ drop-append_seam (table f n) (table (λ k. f (n + k)) m))

  held_same : (i : ℕ) (part : Part) (c : List Bool) → held_at next i (carried_part job log.step part c) ≡ record { part = carried_part job log.step (charged job i part) c; needs = of_holders job (comes_out job i) }
  held_same i part c =
      let p = prices_same i part c in
      let h = of_holders_same job log (comes_out next i) ∙ ap (of_holders job) (comes_same job log i) in
      let left = (carried_part job log.step part c).left in
      λ i. record { part = record { life = part.life; left = left; removal = part.removal; holders = part.holders; prices = p i }; needs = h i }

  -- ---- one part's choice

  module _ (front back : List Bool) (fits : length front ≡ n) (part : Part) (c d : List Bool) (done : Done job log part c) where
    abbrev Kept : List Bool → Type 0
    Kept = KeepsPart next back (carried_part job log.step part c)

    -- the price of the log's changes and then these
    prices_paid : (other : List Bool) → sum_at part.prices (take n c ++ other) ≡ sum_at part.prices c + sum_at (drop n part.prices) other
    prices_paid other = sum_cut part.prices c other n (omega (arith, past_most job log, done.size)) done.over

    cut_with : Sub (take n c) front → (other : List Bool) → KeepsPart job (front ++ back) part (take n c ++ other) ↔ (Lasts job log.step part c × Kept other)
    cut_with sub other = part_cut job log 0 job.horizon rising (omega (arith, logged.step_high)) logged.shaped logged.stopped front back fits part c other done sub

    chosen_cut : Chosen job (front ++ back) part (take n c ++ d) → Chosen next back (carried_part job log.step part c) d
    chosen_cut x =
        let sub = sub_front (take n c) front d back (front_size job log part c done ∙ sym fits) x.keeps.at_stops in
        let r = (cut_with sub d).0 x.keeps in
        record {
          keeps = r.1;
          least = λ o k. omega (arith, x.least (take n c ++ o) ((cut_with sub o).1 (r.0, k)), prices_paid o, prices_paid d);
          first = λ o k e. first_back (take n c) d o (x.first (take n c ++ o) ((cut_with sub o).1 (r.0, k)) (omega (arith, prices_paid o, prices_paid d, e)));
        }

  all_chosen : (bs : List (List Bool)) (i : ℕ) (ps : List Part) (cs ds : List (List Bool)) → Each (Done job log) ps cs → length ds ≡ length ps
      → Each (λ (held : Held). Chosen job (places_in held (done_blocks ++ bs)) held.part) (held_from job i ps) (continued_by n cs ds)
      → Each (λ (held : Held). Chosen next (places_in held bs) held.part) (held_from next i (carried_parts job log.step ps cs)) ds
  unfolding held_from carried_parts
  all_chosen bs i [] [] [] h s x = tt
  all_chosen bs i [] [] (d ∷ ds) h s x = absurd (omega arith)
  all_chosen bs i [] (c ∷ cs) ds h s x = absurd h
  all_chosen bs i (p ∷ ps) [] ds h s x = absurd h
  all_chosen bs i (p ∷ ps) (c ∷ cs) [] h s x = absurd (omega arith)
  all_chosen bs i (p ∷ ps) (c ∷ cs) (d ∷ ds) h s x =
      let held = held_at job i p in
      let fits = length-map done_blocks (allows held.needs) ∙ table-length (block_of job log.plan) n in
      let places = map-append (allows held.needs) done_blocks bs in
      let y = subst (λ (l : List Bool). Chosen job l held.part (take n c ++ d)) places x.0 in
      let done : Done job log held.part c = record { size = h.0.size; over = h.0.over; at_stops = h.0.at_stops } in (
        subst (λ (g : Held). Chosen next (places_in g bs) g.part d) (sym (held_same i p c)) (chosen_cut (places_in held done_blocks) (places_in held bs) fits held.part c d done y),
        all_chosen bs (suc i) ps cs ds h.1 (omega arith) x.1,
      )

  -- ---- no stop without a change

  changed_left : (cs : List (List Bool)) (i : ℕ) → changed_at_lem (map (drop n) cs) i ≡ changed_at_lem cs (n + i)
  changed_left [] i = refl
  changed_left (c ∷ cs) i = ap₂ (λ (a b : Bool). a || b) (get_or-drop n c i false) (changed_left cs i)

  -- ---- the promise

  module _ (cost : ℕ) (plan : Plan) (best : BestPlan job Any cost plan) (starts : Starts job log plan) (honest : log.cost ≡ cost_of_lem job log.plan) where
    abbrev rest : Plan
    rest = rest_of job log plan

    lives : Each (Lasts job log.step) job.parts log.plan.changes × KeepsLives next rest
    lives = (lives_begun job log plan starts rising logged).0 best.keeps

    paid : cost_of_lem job plan ≡ cost_of_lem job log.plan + cost_of_lem next rest
    paid = cost_begun job log plan starts rising logged

    -- the log is accepted
    pub best_accepts : Accepts job log
    best_accepts = record { lives = lives.0; true_cost_lem = honest }

    -- a plan of the new job, behind the log, is one of the old job
    sized : (other : Plan) → KeepsLives next other → length other.changes ≡ length job.parts
    sized other k = (lives_shaped next other k).parts ∙ parts-length job log

    whole : (other : Plan) → KeepsLives next other → KeepsLives job (continued job log other)
    whole other k = (lives_cut job log 0 job.horizon rising (omega (arith, logged.step_high)) logged.shaped logged.stopped other (sized other k)).1 (lives.0, k)

    costs : (other : Plan) → KeepsLives next other → cost_of_lem job (continued job log other) ≡ cost_of_lem job log.plan + cost_of_lem next other
    costs other k = cost_cut job log logged.shaped logged.stopped other (sized other k)

    plan_decisions : decisions_of job plan ≡ concat done_blocks ++ decisions_of next rest
    plan_decisions = ap (decisions_of job) (sym (begun job log plan starts)) ∙ decisions_cut rest (rest_size job log plan starts logged)

    -- its rest is the new job's best plan, at what the plan had left to pay
    pub best_rest : BestPlan next Any (cost - log.cost) rest
    best_rest = record {
      keeps = lives.1;
      among = tt;
      states = omega (arith, paid, best.states, honest);
      least = λ o k a. omega (arith, best.least (continued job log o) (whole o k) tt, costs o k, paid, best.states, honest);
      first = λ o k a e.
          let d = decisions_cut o (sized o k) in
          let f = best.first (continued job log o) (whole o k) tt (omega (arith, costs o k, paid, best.states, honest, e)) in
          first_back (concat done_blocks) (decisions_of next rest) (decisions_of next o)
          (subst (λ (l : List Bool). (l ≡ concat done_blocks ++ decisions_of next rest) ⊎ Before (concat done_blocks ++ decisions_of next rest) l) d
          (subst (λ (l : List Bool). (decisions_of job (continued job log o) ≡ l) ⊎ Before l (decisions_of job (continued job log o))) plan_decisions f));
      within = record {
        chosen =
            let p = begun job log plan starts in
            let b = ap (plan_blocks job) (sym p) ∙ blocks_cut rest (rest_size job log plan starts logged) in
            all_chosen (plan_blocks next rest) 0 job.parts log.plan.changes rest.changes did (rest_size job log plan starts logged)
            (subst (λ (cs : List (List Bool)). Each (λ (held : Held). Chosen job (places_in held (done_blocks ++ plan_blocks next rest)) held.part) (held_parts job) cs) (ap (λ (q : Plan). q.changes) (sym p))
            (subst (λ (bs : List (List Bool)). Each (λ (held : Held). Chosen job (places_in held bs) held.part) (held_parts job) plan.changes) b best.within.chosen));
        no_bare = λ i e. changed_left plan.changes i ∙ best.within.no_bare (n + i) (sym (get_or-drop n plan.stops i false) ∙ e);
      };
    }

    -- so a planner that answers 0 to the new job prints the rest of the plan, at its remaining cost
    pub rest_printed : (limit : ℕ) → result_of (answer_of next limit) ≡ 0 → (nodes floor : ℕ) × (answer_of next limit ≡ optimum nodes floor (cost - log.cost) rest)
    rest_printed limit e = go (answer_of next limit) (promise next limit) e
      where
        go : (a : PlannerAnswer) → Promise next limit a → result_of a ≡ 0 → (nodes floor : ℕ) × (a ≡ optimum nodes floor (cost - log.cost) rest)
        go no_plan_lem2 x z = absurd (omega arith)
        go (cut_none m f) x z = absurd (omega arith)
        go (cut m f c p) x z = absurd (omega arith)
        go (optimum m f c p) x z =
            let k = best_cost (job_problem next) (determined next) Any c (cost - log.cost) p rest x.plan_for_lem best_rest in
            let q = best_same (job_problem next) (determined next) Any c (cost - log.cost) p rest x.plan_for_lem best_rest in
            (m, f, λ i. optimum m f (k i) (q i))
