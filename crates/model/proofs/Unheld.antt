-- A job without holders is planned for by the openings alone: its bound, tree, plans, decisions, cost and answer are E4's (`specs/Unheld`) of the job whose prices have the removals added. Nothing is
-- decided after a yes, so blocks are stops; a part comes out where it is changed, and nowhere else.
-- E7.13. With removals of 0 too they are those of the job itself: "every printed answer [..] is the one given before".
use mathlib.Core.Path.{◌≡◌, refl, sym, ap, ◌∙◌}
use mathlib.Core.Bool.{Bool, true, false, cond}
use mathlib.Core.List.{List, [], ◌∷◌, ◌++◌, map}
use Prim.Native.Nat.{ℕ, zero, suc, ◌+◌, ◌<◌}
use native.Mathlib.Omega.{arith}
use lib.ListN.{length, length-map, get_or, take}
use lib.Seq.{take_all, get_or-take}
use lib.IntN.{pos}
use Rattle.branch.specs.declared.Bound.{Bound}
use Rattle.branch.specs.declared.Bound.TheVariants.{Missing, Sum}
use Rattle.branch.specs.Search.{Incumbent, none, plan, at_most}
use Rattle.branch.specs.Label.{tree_of}
use Rattle.branch.specs.Lower.{add, total, larger, largest}
use Rattle.branch.specs.Planning.{answered, answered_at}
use Rattle.branch.proofs.Among.{limited_best}
use Rattle.branch.proofs.Labels.{full_size}
use Rattle.model.specs.Model.{Part, Job, Plan, positions, end, last_change_lem, clock, table, holding, NoHolders, sum_at, sum, fee_of, removal_of_lem, prices_of_lem, out_at, cost_of_lem}
use Rattle.model.specs.Decisions.{of_holders, Held, charge, charged, held_at, held_from, block_of, concat, decisions_of}
use Rattle.model.specs.LowerBound.{Offer, least_of_lem, choice_of, offers, node_at, stops_at, removed_in, places_at, part_bound, part_choice_lem, paid_at, stop_cost, undecided_fees, part_fee, bound_of, plan_at}
use Rattle.model.specs.Promise.{cut, optimum, searched, answer_of}
use Rattle.model.specs.Verdict.{judged, judged_of, verdict_of_lem, Shaped}
use Rattle.model.specs.Unheld.{charged_part, charged_job, plain_part_bound, plain_part_choice, plain_part_fee, plain_bound, plain_plan, plain_tree, plain_answer, plain_cost}
use Rattle.model.proofs.Positions.{positions_size}
use Rattle.model.proofs.Offers.{sum_none, offers_same}
use Rattle.model.proofs.Lists.{table_list, table_same}
use Rattle.model.proofs.Sums.{sum_same, sum_none as sum_zeros}
use Rattle.model.proofs.Totals.{sum_at_lem}
use Rattle.model.proofs.Charges.{parts_of, held_out, prices_removals}
use Rattle.model.proofs.Verdicts.{at_each}
use Rattle.model.proofs.NoHolders.{none_holding, removed_plain, no_holders, same_stops, same_places, plain_tree_lem}

-- ---- lists

sum_take : (ns : List ℕ) (n : ℕ) (p : List Bool) → length ns ≡ n → sum_at ns (take n p) ≡ sum_at ns p
unfolding sum_at
sum_take [] zero [] h = refl
sum_take [] zero (x ∷ p) h = refl
sum_take [] (suc n) p h = absurd (omega arith)
sum_take (m ∷ ns) zero p h = absurd (omega arith)
sum_take (m ∷ ns) (suc n) [] h = refl
sum_take (m ∷ ns) (suc n) (false ∷ p) h = sum_take ns n p (omega arith)
sum_take (m ∷ ns) (suc n) (true ∷ p) h = ap (λ (x : ℕ). m + x) (sum_take ns n p (omega arith))

fees_take : (ns : List ℕ) (n : ℕ) (p : List Bool) → length ns ≡ n → undecided_fees ns (take n p) ≡ undecided_fees ns p
unfolding undecided_fees
fees_take [] zero [] h = refl
fees_take [] zero (x ∷ p) h = refl
fees_take [] (suc n) p h = absurd (omega arith)
fees_take (m ∷ ns) zero p h = absurd (omega arith)
fees_take (m ∷ ns) (suc n) [] h = refl
fees_take (m ∷ ns) (suc n) (x ∷ p) h = ap (λ (l : List ℕ). 0 ∷ l) (fees_take ns n p (omega arith))

-- blocks of a stop alone
single : (f : ℕ → List Bool) (g : ℕ → Bool) (n : ℕ) → ((k : ℕ) → f k ≡ g k ∷ []) → concat (table f n) ≡ table g n
unfolding concat table
single f g zero h = refl
single f g (suc n) h = let r = single (λ k. f (suc k)) (λ k. g (suc k)) n (λ k. h (suc k)) in λ i. h 0 i ++ r i

module _ (job : Job) (unheld : NoHolders job.parts) where
  abbrev steps : ℕ
  steps = length job.openings

  abbrev fees : List ℕ
  fees = map fee_of job.openings

  fees-length : length fees ≡ steps
  fees-length = length-map job.openings fee_of

  -- ---- the node

  same_paid : (p : List Bool) → paid_at job p ≡ sum_at fees p
  same_paid p =
      omega (
        arith,
        ap (sum_at fees) (same_stops job unheld p) ∙ sum_take fees steps p fees-length,
        ap (λ (rs : List ℕ). removed_in rs (node_at job p)) (no_holders job unheld (map removal_of_lem job.parts)) ∙ removed_plain (node_at job p),
      )

  -- ---- one part

  -- every part holds nobody
  same_charge : (i : ℕ) (part : Part) → charge job i part ≡ part.removal
  same_charge i part = go (get_or (holding job) i false) refl
    where
      go : (b : Bool) → get_or (holding job) i false ≡ b → cond b 0 part.removal ≡ part.removal
      go true e = absurd (none_holding job unheld i e)
      go false e = refl

  same_prices : (i : ℕ) (part : Part) → (charged job i part).prices ≡ (charged_part steps part).prices
  same_prices i part = table_same (λ k. get_or part.prices k 0 + charge job i part) (λ k. get_or part.prices k 0 + part.removal) steps (λ k l. ap (λ (c : ℕ). get_or part.prices k 0 + c) (same_charge i part))

  same_allowed : (i : ℕ) (part : Part) (p : List Bool) (k : ℕ) → k < length (positions job) → get_or (places_at job (held_at job i part) p) k true ≡ get_or p k true
  same_allowed i part p k l = ap (λ (q : List Bool). get_or q k true) (same_places job unheld i part p) ∙ get_or-take steps p k true (omega (arith, positions_size job))

  same_offers : (i : ℕ) (part : Part) (p : List Bool)
      → offers (positions job) (charged job i part).prices (places_at job (held_at job i part) p) ≡ offers (positions job) (charged_part steps part).prices p
  same_offers i part p =
      offers_same (positions job) (charged job i part).prices (charged_part steps part).prices (places_at job (held_at job i part) p) p
      (λ k l. ap (λ (ns : List ℕ). get_or ns k 0) (same_prices i part))
      (same_allowed i part p)

  same_fees : (i : ℕ) (part : Part) (p : List Bool)
      → offers (positions job) (undecided_fees fees (stops_at job p)) (places_at job (held_at job i part) p) ≡ offers (positions job) (undecided_fees fees p) p
  same_fees i part p =
      offers_same (positions job) (undecided_fees fees (stops_at job p)) (undecided_fees fees p) (places_at job (held_at job i part) p) p
      (λ k l. ap (λ (ns : List ℕ). get_or ns k 0) (ap (undecided_fees fees) (same_stops job unheld p) ∙ fees_take fees steps p fees-length))
      (same_allowed i part p)

  -- ---- all parts

  abbrev least_by : Part → List Offer → Bound
  least_by part os = least_of_lem (pos part.life) (end job) (last_change_lem part) os

  same_total : (i : ℕ) (ps : List Part) (p : List Bool) → total (part_bound job) (held_from job i ps) p ≡ total (plain_part_bound (charged_job job)) (map (charged_part steps) ps) p
  unfolding held_from clock
  same_total i [] p = refl
  same_total i (q ∷ ps) p = let x = ap (least_by q) (same_offers i q p) in let y = same_total (suc i) ps p in λ k. add (x k) (y k)

  same_largest : (i : ℕ) (ps : List Part) (p : List Bool) → largest (part_fee job) (held_from job i ps) p ≡ largest (plain_part_fee (charged_job job)) (map (charged_part steps) ps) p
  unfolding held_from clock
  same_largest i [] p = refl
  same_largest i (q ∷ ps) p = let x = ap (least_by q) (same_fees i q p) in let y = same_largest (suc i) ps p in λ k. larger (x k) (y k)

  same_choices : (i : ℕ) (ps : List Part) (p : List Bool)
      → map (λ (held : Held). part_choice_lem job held p) (held_from job i ps) ≡ map (λ (part : Part). plain_part_choice (charged_job job) part p) (map (charged_part steps) ps)
  unfolding held_from clock
  same_choices i [] p = refl
  same_choices i (q ∷ ps) p =
      let x = ap (choice_of (pos q.life) (end job) (last_change_lem q)) (same_offers i q p) in
      let y = same_choices (suc i) ps p in
      λ k. x k ∷ y k

  -- a job's bound without holders is E4's, of the job with removals added to its prices
  pub same_bound : (p : List Bool) → bound_of job p ≡ plain_bound (charged_job job) p
  unfolding bound_of stop_cost plain_bound
  same_bound p =
      let x = same_paid p in
      let y = same_total 0 job.parts p in
      let z = same_largest 0 job.parts p in
      λ k. add (add (Sum (x k)) (y k)) (z k)

  -- a job's tree without holders is E4's, of the job with removals added to its prices
  pub same_tree : searched job ≡ plain_tree (charged_job job)
  same_tree =
      plain_tree_lem job unheld ∙ ap (λ (bound : List Bool → Bound). tree_of bound steps []) (λ i p. same_bound p i)

  -- without holders a full node's plan is E4's, of the job with removals added to its prices
  pub same_plan : (s : List Bool) → length s ≡ steps → plan_at job s ≡ plain_plan (charged_job job) s
  same_plan s h =
      let x = same_stops job unheld s ∙ take_all steps s (omega arith) in
      let y = same_choices 0 job.parts s in
      λ k. record { stops = x k; changes = y k }

  -- ---- the answers

  same_answered : (floor nodes : ℕ) (over : Bool) (b : Incumbent) → ((c : ℕ) (s : List Bool) → b ≡ plan c s → length s ≡ steps)
      → answered (plan_at job) floor nodes over b ≡ answered (plain_plan (charged_job job)) floor nodes over b
  same_answered floor nodes true none f = refl
  same_answered floor nodes true (plan c s) f = ap (cut nodes floor c) (same_plan s (f c s refl))
  same_answered floor nodes false none f = refl
  same_answered floor nodes false (plan c s) f = ap (optimum nodes floor c) (same_plan s (f c s refl))

  -- without holders the answer is E4's, of the job with removals added to its prices, at any walk number
  pub same_answer : (limit : ℕ) → answer_of job limit ≡ plain_answer (charged_job job) limit
  unfolding answer_of plain_answer
  same_answer limit =
      let x = same_bound [] in
      let t = same_tree in
      (λ i. answered_at (plan_at job) (x i) (at_most limit (t i))) ∙ go (plain_bound (charged_job job) [])
    where
      go : (x : Bound) → answered_at (plan_at job) x (at_most limit (plain_tree (charged_job job))) ≡ answered_at (plain_plan (charged_job job)) x (at_most limit (plain_tree (charged_job job)))
      go Missing = refl
      go (Sum f) =
          let l = at_most limit (plain_tree (charged_job job)) in
          same_answered f l.count l.over l.incumbent (λ c s e. full_size (plain_bound (charged_job job)) steps [] s c ((limited_best (plain_tree (charged_job job)) limit).costs c s e))

  -- a plan's decisions are its stops, so the tie rule is T1
  pub same_decisions : (q : Plan) → length q.stops ≡ steps → decisions_of job q ≡ q.stops
  unfolding decisions_of
  same_decisions q h =
      single (block_of job q) (λ k. get_or q.stops k false) steps (λ k. go (of_holders job (out_at job q.changes k)) (no_holders job unheld (out_at job q.changes k)) (get_or q.stops k false))
      ∙ table_list false q.stops steps h
    where
      go : (out : List Bool) → out ≡ [] → (b : Bool) → cond b (true ∷ out) (false ∷ []) ≡ b ∷ []
      go out e true = ap (λ (l : List Bool). true ∷ l) e
      go out e false = refl

  -- ---- a plan's cost

  charged_prices : (i : ℕ) (ps : List Part) (cs : List (List Bool)) → prices_of_lem (parts_of (held_from job i ps)) cs ≡ prices_of_lem (map (charged_part steps) ps) cs
  unfolding held_from
  charged_prices i [] cs = refl
  charged_prices i (p ∷ ps) [] = refl
  charged_prices i (p ∷ ps) (c ∷ cs) = let x = same_prices i p in let y = charged_prices (suc i) ps cs in λ k. sum_at (x k) c + y k

  none_out : (cs : List (List Bool)) → sum 0 steps (held_out job cs) ≡ 0
  none_out cs =
      sum_same steps 0 (held_out job cs) (λ k. 0)
      (λ k _ _. ap (λ (ns : List ℕ). sum_at ns (of_holders job (out_at job cs k))) (no_holders job unheld (map removal_of_lem job.parts)) ∙ sum_none (of_holders job (out_at job cs k)))
      ∙ sum_zeros steps 0

  module _ (q : Plan) (shaped : Shaped job q) where
    -- without holders a plan's cost is its fees and prices, in the job with removals added to them
    pub same_cost : cost_of_lem job q ≡ plain_cost (charged_job job) q
    same_cost =
        omega (
          arith,
          prices_removals job q.changes (at_each (λ (part : Part) (c : List Bool). length c ≡ steps) job.parts q.changes shaped.parts (λ i l. shaped.sizes i l)),
          none_out q.changes,
          charged_prices 0 job.parts q.changes,
        )

    -- without holders a plan is judged by the kept lives and the cost in the charged job
    pub same_judgement : (cost : ℕ) → judged_of job cost q ≡ judged cost (plain_cost (charged_job job) q) (verdict_of_lem job q)
    unfolding judged_of
    same_judgement cost = ap (λ (c : ℕ). judged cost c (verdict_of_lem job q)) same_cost

-- ---- E7.13. a job with "no holders and removals of 0", and a price for each opening

-- each part has no holders, a removal of 0 and n prices
abbrev pub Plain : ℕ → List Part → Type 0
Plain n [] = Unit {0}
Plain n (part ∷ parts) = (part.holders ≡ []) × (part.removal ≡ 0) × (length part.prices ≡ n) × Plain n parts

-- parts with no holders and removals of 0 are parts without holders
pub plain_unheld : (n : ℕ) (ps : List Part) → Plain n ps → NoHolders ps
plain_unheld n [] h = tt
plain_unheld n (p ∷ ps) h = (h.0, plain_unheld n ps h.3)

plain_parts : (n : ℕ) (ps : List Part) → Plain n ps → map (charged_part n) ps ≡ ps
plain_parts n [] h = refl
plain_parts n (p ∷ ps) h =
    let rest = plain_parts n ps h.3 in
    let free = h.1 in
    let held = h.0 in
    let prices = table_same (λ k. get_or p.prices k 0 + p.removal) (λ k. get_or p.prices k 0) n (λ k l. omega (arith, free)) ∙ table_list 0 p.prices n h.2 in
    λ i. record { life = p.life; left = p.left; removal = sym free i; holders = sym held i; prices = prices i } ∷ rest i

module _ (job : Job) (plain : Plain (length job.openings) job.parts) where
  -- nothing is added to its prices
  pub plain_charged : charged_job job ≡ job
  plain_charged = let e = plain_parts (length job.openings) job.parts plain in λ i. record { horizon = job.horizon; idles = job.idles; openings = job.openings; parts = e i }

  -- "every printed answer [..] is the one given before"
  pub answer_before : (limit : ℕ) → answer_of job limit ≡ plain_answer job limit
  answer_before limit = same_answer job (plain_unheld (length job.openings) job.parts plain) limit ∙ ap (λ (j : Job). plain_answer j limit) plain_charged

  -- and so is the cost, of any plan
  pub cost_before : (q : Plan) → cost_of_lem job q ≡ plain_cost job q
  cost_before q =
      omega (
        arith,
        sum_same (length job.openings) 0 (λ k. sum_at (map removal_of_lem job.parts) (out_at job q.changes k)) (λ k. 0)
            (λ k _ _. free (map removal_of_lem job.parts) (out_at job q.changes k) (none_paid job.parts plain))
            ∙ sum_zeros (length job.openings) 0,
      )
    where
      none_paid : (ps : List Part) → Plain (length job.openings) ps → (k : ℕ) → get_or (map removal_of_lem ps) k 0 ≡ 0
      none_paid [] h zero = refl
      none_paid [] h (suc k) = refl
      none_paid (p ∷ ps) h zero = h.1
      none_paid (p ∷ ps) h (suc k) = none_paid ps h.3 k

      free : (ns : List ℕ) (cs : List Bool) → ((k : ℕ) → get_or ns k 0 ≡ 0) → sum_at ns cs ≡ 0
      free ns cs f = sum_at_lem ns cs (length cs) refl ∙ sum_same (length cs) 0 (λ k. cond (get_or cs k false) (get_or ns k 0) 0) (λ k. 0) (λ k _ _. either (get_or cs k false) (get_or ns k 0) (f k)) ∙ sum_zeros (length cs) 0
        where
          either : (b : Bool) (n : ℕ) → n ≡ 0 → cond b n 0 ≡ 0
          either true n e = e
          either false n e = refl
