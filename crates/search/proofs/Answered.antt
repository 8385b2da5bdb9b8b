-- What the code hands back is the model's answer: the walk of the sheet is that of the job, the stops are the mask's decisions, the rows are the tie rule's changes.
use Prim.Native.Nat.{ℕ, suc, ◌-◌, ◌<◌}
use mathlib.Core.Path.{◌≡◌, refl, sym, ap, ap₂, subst, ◌∙◌}
use mathlib.Core.Bool.{Bool, true, false, cond}
use mathlib.Core.List.{List, [], ◌∷◌, ◌++◌, map}
use native.Mathlib.Omega.{arith}
use lib.ListN.{length, get_or, take, replicate, length-map, get_or-map}
use lib.Seq.{take_at, get_or-take, length-take-le, ext_get_or}
use lib.IntN.{ℤ, pos}
use Rattle.branch.specs.Search.{at_most}
use Rattle.branch.specs.Label.{tree_of}
use Rattle.model.specs.Model.{Opening, Part, Job, clock, last_change_lem}
use Rattle.model.specs.Limits.{most_openings}
use Rattle.model.specs.LowerBound.{Offer, lower_than, change_at_lem, least_of_lem, offers, choice_of}
use Rattle.model.specs.Unheld.{plain_part_choice, plain_bound, plain_plan, plain_answer}
use Rattle.model.specs.Verdict.{no_part}
use Rattle.branch.specs.Planning.{answered_at}
use Rattle.base.proofs.Bools.{there}
use Rattle.model.proofs.Offers.{offers-length}
use Rattle.jobs.specs.declared.Plan as code
use Rattle.search.specs.declared.Found.{Found}
use Rattle.search_tables.specs.Arrays.{lane_part, sheet_of, JobArrays}
use Rattle.search.specs.Plan.{choice_at, no_row, Chooses}
use Rattle.search.specs.Found.{found_by_lem, stops_found, row_in, changes_in, limited_in, Finds, plan_found, said_in}
use Rattle.search_tables.proofs.Sheets.{sheet_bound_lem}
use Rattle.search_state.specs.State.{bits, found_as}
use Rattle.walk.specs.State.{Solves}
use Rattle.search_state.proofs.States.{bits-length}
use Rattle.search_state.proofs.Answers.{answer_named}
use Rattle.search_state.specs.declared.Solved.{Solved}

-- the tie rule's changes have an entry for each opening that is offered
pub choice_size : (life end prev : ℤ) (os : List Offer) → length (choice_of life end prev os) ≡ length os
unfolding choice_of
choice_size life end prev [] = refl
choice_size life end prev (o ∷ os) =
    go (lower_than (least_of_lem life end prev os) (change_at_lem life prev o (least_of_lem life end o.position os))) (choice_size life end o.position os) (choice_size life end prev os)
  where
    go : (t : Bool) → length (choice_of life end o.position os) ≡ length os → length (choice_of life end prev os) ≡ length os
        → length (cond t (true ∷ choice_of life end o.position os) (false ∷ choice_of life end prev os)) ≡ suc (length os)
    go true a b = ap suc a
    go false a b = ap suc b

-- ---- the stops

-- the first n entries of the stops array are the mask's n decisions
pub stops_are : (n mask : ℕ) (stops : List Bool) → stops ≡ bits n mask ++ replicate (most_openings - n) false → take n stops ≡ bits n mask
stops_are n mask stops f = ap (take n) f ∙ take_at (bits n mask) (replicate (most_openings - n) false) n (bits-length n mask)

-- the first n entries of the stops array are n
pub stops-length : (n mask : ℕ) (stops : List Bool) → stops ≡ bits n mask ++ replicate (most_openings - n) false → length (take n stops) ≡ n
stops-length n mask stops f = ap length (stops_are n mask stops f) ∙ bits-length n mask

-- ---- what the code holds, as it is handed back

module _ (job : Job) (e : ℤ) (ss : List ℤ) (fs ls rs ps : List ℕ) (h : JobArrays job e ss fs ls rs ps) (limit : ℕ) (s : Solved) (g : Solves (sheet_of e ss fs ls rs ps) limit s)
    (plan : code.Plan) (f : plan.stops ≡ bits (length ss) s.mask ++ replicate (most_openings - length ss) false) (c : Chooses e ss ls rs ps (take (length ss) plan.stops) plan.changes (length ls)) where
  size : length ss ≡ length job.openings
  size = ap length h.places ∙ length-map job.openings (λ (o : Opening). clock job o.step)

  walked : limited_in (length ss) (found_by_lem s plan) ≡ at_most limit (tree_of (plain_bound job) (length ss) [])
  walked =
      (λ i. record { count = s.count; over = s.over; incumbent = found_as (stops_are (length ss) s.mask plan.stops f i) s.cost })
      ∙ g.walked
      ∙ (λ i. at_most limit (tree_of (λ p. sheet_bound_lem job e ss fs ls rs ps h p i) (length ss) []))

  abbrev chosen : Part → List Bool
  chosen part = plain_part_choice job part (take (length ss) plan.stops)

  row_is : (q : ℕ) → q < length ls → row_in (length ss) (get_or plan.changes q no_row) ≡ chosen (get_or job.parts q no_part)
  row_is q l =
      let z = sym (h.part q l) in
      let part = lane_part (length ss) ls rs ps q in
      let x = choice_at e ss part (take (length ss) plan.stops) in
      ap (take (length ss)) (c.row q l)
      ∙ take_at x (replicate (most_openings - length ss) false) (length ss) (choice_size (pos part.life) e (last_change_lem part) (offers ss part.prices (take (length ss) plan.stops)) ∙ offers-length ss part.prices (take (length ss) plan.stops))
      ∙ (λ i. choice_of (pos (z i).life) (h.ends i) (last_change_lem (z i)) (offers (h.places i) (z i).prices (take (length ss) plan.stops)))

  changes : changes_in (length ss) (length job.parts) (found_by_lem s plan) ≡ map chosen job.parts
  changes =
      ext_get_or (row_in (length ss) no_row) (map (row_in (length ss)) (take m plan.changes)) (map chosen job.parts) (long ∙ sym (length-map job.parts chosen)) at
    where
      m : ℕ
      m = length job.parts

      long : length (map (row_in (length ss)) (take m plan.changes)) ≡ m
      long = length-map (take m plan.changes) (row_in (length ss)) ∙ length-take-le m plan.changes (omega (arith, c.size, h.parts, h.arrays.lanes))

      at : (q : ℕ) → q < length (map (row_in (length ss)) (take m plan.changes)) → get_or (map (row_in (length ss)) (take m plan.changes)) q (row_in (length ss) no_row) ≡ get_or (map chosen job.parts) q (row_in (length ss) no_row)
      at q l =
          get_or-map (row_in (length ss)) (take m plan.changes) q no_row
          ∙ ap (row_in (length ss)) (get_or-take m plan.changes q no_row (omega (arith, long)))
          ∙ row_is q (omega (arith, long, h.parts))
          ∙ sym (get_or-map chosen job.parts q no_part)
          ∙ there (map chosen job.parts) q (chosen no_part) (row_in (length ss) no_row) (omega (arith, long, length-map job.parts chosen))

  -- what is handed over is what the walk over the job's openings finds
  pub finds : Finds job limit (found_by_lem s plan)
  finds =
      record {
        walked = subst (λ (k : ℕ). limited_in k (found_by_lem s plan) ≡ at_most limit (tree_of (plain_bound job) k [])) size walked;
        floor = g.floor ∙ sheet_bound_lem job e ss fs ls rs ps h [];
        changes = subst (λ (k : ℕ). changes_in k (length job.parts) (found_by_lem s plan) ≡ map (λ (part : Part). plain_part_choice job part (take k plan.stops)) job.parts) size changes;
      }

-- ---- so it is the model's answer

module _ (job : Job) (limit : ℕ) (r : Found) (a : Finds job limit r) where
  plan_is : plan_found (length job.openings) (length job.parts) r ≡ plain_plan job (stops_found (length job.openings) r)
  plan_is = λ i. record { stops = stops_found (length job.openings) r; changes = a.changes i }

  -- what is found says the planner's answer for the walk over the openings alone
  pub said : said_in (length job.openings) (length job.parts) r ≡ plain_answer job limit
  unfolding plain_answer
  said =
      answer_named (plain_plan job) (stops_found (length job.openings) r) (plan_found (length job.openings) (length job.parts) r) r.count r.over r.cost (λ c e. plan_is) r.floor
      ∙ ap₂ (answered_at (plain_plan job)) a.floor a.walked
