-- What the code hands back is the model's answer: the incumbent is a full node, its stops are the name's first decisions, and the rows are the tie rule's changes at its places.
use Prim.Native.Nat.{ℕ, ◌-◌, ◌<◌}
use mathlib.Core.Path.{◌≡◌, sym, ap, ap₂, ◌∙◌}
use mathlib.Core.Bool.{Bool, true, false}
use mathlib.Core.List.{List, [], ◌∷◌, map}
use native.Mathlib.Omega.{arith}
use lib.ListN.{length, get_or, take, replicate, length-map, get_or-map}
use lib.Seq.{take_at, get_or-take, length-take-le, ext_get_or}
use lib.IntN.{ℤ, pos, ◌-ℤ◌}
use Rattle.std.specs.Prelude.{Some}
use Rattle.branch.specs.Search.{plan, Limited, at_most}
use Rattle.branch.specs.Questions.{ask_from, left_at}
use Rattle.branch.proofs.Among.{limited_best}
use Rattle.model.specs.Model.{Job, Plan}
use Rattle.model.specs.Decisions.{Held, held_parts}
use Rattle.model.specs.LowerBound.{offers, blocks, stops_at, inner, part_choice_lem, bound_of, plan_at}
use Rattle.model.specs.Promise.{answered_at, answer_of, searched}
use Rattle.base.proofs.Bools.{there}
use Rattle.model.proofs.Offers.{offers-length}
use Rattle.model.proofs.Bounded.{node_full, stops-length}
use Rattle.model.proofs.Held.{held_at_lem}
use Rattle.model.specs.Decisions.{held_at}
use Rattle.model.specs.Verdict.{part_at}
use Rattle.jobs.specs.declared.Changes.{Changes}
use Rattle.search.specs.declared.Found.{Found}
use Rattle.search.specs.Found.{found_by_lem, row_in, plan_found, said_in}
use Rattle.search.proofs.Answered.{choice_size}
use Rattle.held_places.specs.Blocks.{Entries}
use Rattle.held_places.specs.Arrays.{prices_at, Lanes, HeldJobArrays}
use Rattle.held_places.specs.Changes.{places_of, lane_choice}
use Rattle.held_places.proofs.Held.{opened, nodes_are, held_size_lem, choice_is}
use Rattle.held_rows.specs.Held.{HeldSheet, held, held_bound, SheetOf}
use Rattle.held_rows.proofs.Sheets.{held_bound_lem}
use Rattle.search_state.proofs.Answers.{answer_named}
use Rattle.search_state.specs.State.{found_as}
use Rattle.search_state.specs.declared.Solved.{Solved}
use Rattle.jobs.specs.declared.Plan as code
use Rattle.search.specs.Plan.{no_row}
use Rattle.held_nodes.specs.State as stop
use Rattle.held_search.specs.Solved.{limited_by, SolvesJob, Chooses}

-- ---- the walk over the sheet is the search of the job

-- what the walk over a job's sheet gives is what the search of the job gives
pub solves_job : (job : Job) (sheet : HeldSheet) (limit : ℕ) (v : List ℕ) (r : Solved) → SheetOf job sheet → held sheet ≡ inner job → length sheet.positions ≡ length job.openings → stop.HeldSolves sheet limit v r
    → SolvesJob job limit (stop.best_name (held sheet) (length sheet.positions) v r.mask) r
unfolding ask_from
solves_job job sheet limit v r so h n s =
    let bound : held_bound sheet ≡ bound_of job = λ i p. held_bound_lem job sheet so p i in
    record { floor = s.floor ∙ held_bound_lem job sheet so []; walked = s.walked ∙ (λ i. at_most limit (left_at (bound i) (h i) 0 (n i) [])) }

-- ---- the plan of a name: its stops and the rows of changes

module _ (job : Job) (e : ℤ) (ss : List ℤ) (fs ls rs ps : List ℕ) (nd : List Bool) (rm : List ℕ) (ar : Lanes e ss ls rs ps (length rm)) (ho : HeldJobArrays job e ss fs ls rs ps nd rm) (name : List Bool)
    (stops : List Bool) (st : Entries false (λ (k : ℕ). get_or (get_or (blocks (length rm) (length ss) name) k (false ∷ [])) 0 true) (length ss) stops)
    (rows : List Changes) (ch : Chooses e ss ls rs ps nd (length rm) name rows (length ls)) where
  abbrev n : ℕ
  n = length job.openings

  abbrev m : ℕ
  m = length job.parts

  stops_are : length (stops_at job name) ≡ n → take n stops ≡ stops_at job name
  stops_are f = ext_get_or false (take n stops) (stops_at job name) (long ∙ sym f) at
    where
      size : length ss ≡ n
      size = opened job e ss fs ls rs ps nd rm ho

      long : length (take n stops) ≡ n
      long = length-take-le n stops (omega (arith, st.size, size, ar.timed.few))

      at : (k : ℕ) → k < length (take n stops) → get_or (take n stops) k false ≡ get_or (stops_at job name) k false
      at k l =
          get_or-take n stops k false (omega (arith, long)) ∙ st.at k (omega (arith, long, size))
          ∙ ap (λ (bs : List (List Bool)). get_or (get_or bs k (false ∷ [])) 0 true) (nodes_are job e ss fs ls rs ps nd rm ho name)
          ∙ sym (get_or-map (λ (b : List Bool). get_or b 0 true) (Rattle.model.specs.LowerBound.node_at job name) k (false ∷ []))

  row_is : (q : ℕ) → q < length ls → row_in n (get_or rows q no_row) ≡ part_choice_lem job (held_at job q (part_at job q)) name
  row_is q l =
      let size = opened job e ss fs ls rs ps nd rm ho in
      let x = lane_choice e ss (get_or ls q 0) (get_or rs q 0) (prices_at (length ss) ps q) (places_of (length ss) (length rm) nd q name) in
      let os = offers ss (prices_at (length ss) ps q) (places_of (length ss) (length rm) nd q name) in
      ap (λ (k : ℕ). take k (get_or rows q no_row).at) (sym size)
      ∙ ap (take (length ss)) (ch.row q l)
      ∙ take_at x (replicate (64 - length ss) false) (length ss)
      (choice_size (pos (get_or ls q 0)) e (pos (get_or rs q 0) -ℤ pos (get_or ls q 0)) os ∙ offers-length ss (prices_at (length ss) ps q) (places_of (length ss) (length rm) nd q name))
      ∙ choice_is job e ss fs ls rs ps nd rm ho q l name

  changes_are : map (row_in n) (take m rows) ≡ map (λ (held : Held). part_choice_lem job held name) (held_parts job)
  changes_are = ext_get_or (row_in n no_row) (map (row_in n) (take m rows)) (map choose (held_parts job)) (long ∙ sym (length-map (held_parts job) choose ∙ held_size_lem job e ss fs ls rs ps nd rm ho ∙ sym ho.parts)) at
    where
      choose : Held → List Bool
      choose held = part_choice_lem job held name

      long : length (map (row_in n) (take m rows)) ≡ m
      long = length-map (take m rows) (row_in n) ∙ length-take-le m rows (omega (arith, ch.size, ho.parts, ar.parts))

      at : (q : ℕ) → q < length (map (row_in n) (take m rows)) → get_or (map (row_in n) (take m rows)) q (row_in n no_row) ≡ get_or (map choose (held_parts job)) q (row_in n no_row)
      at q l =
          let own = held_at job q (part_at job q) in
          get_or-map (row_in n) (take m rows) q no_row
          ∙ ap (row_in n) (get_or-take m rows q no_row (omega (arith, long)))
          ∙ row_is q (omega (arith, long, ho.parts))
          ∙ ap choose (sym (held_at_lem job q own (omega (arith, long))))
          ∙ sym (get_or-map choose (held_parts job) q own)
          ∙ there (map choose (held_parts job)) q (choose own) (row_in n no_row) (omega (arith, long, length-map (held_parts job) choose, held_size_lem job e ss fs ls rs ps nd rm ho, ho.parts))

  -- what the code holds is the plan of the name, where that is a full node
  pub plan_read : length (stops_at job name) ≡ n → ◌≡◌ {A = Plan} (record { stops = take n stops; changes = map (row_in n) (take m rows) }) (plan_at job name)
  plan_read f = λ i. record { stops = stops_are f i; changes = changes_are i }

-- ---- what the code holds, as it is handed back

module _ (job : Job) (e : ℤ) (ss : List ℤ) (fs ls rs ps : List ℕ) (nd : List Bool) (rm : List ℕ) (ar : Lanes e ss ls rs ps (length rm)) (ho : HeldJobArrays job e ss fs ls rs ps nd rm) (limit : ℕ) (name : List Bool) (s : Solved)
    (so : SolvesJob job limit name s) (kept : code.Plan) (st : Entries false (λ (k : ℕ). get_or (get_or (blocks (length rm) (length ss) name) k (false ∷ [])) 0 true) (length ss) kept.stops)
    (ch : Chooses e ss ls rs ps nd (length rm) name kept.changes (length ls)) where
  abbrev r : Found
  r = found_by_lem s kept

  abbrev all : ℕ
  all = length job.openings

  abbrev parts : ℕ
  parts = length job.parts

  -- an incumbent is a full node
  full_length : (c : ℕ) → (limited_by name s).incumbent ≡ plan c name → length (stops_at job name) ≡ all
  full_length c f =
      stops-length job name (node_full job name c ((limited_best (searched job) limit).costs c name (sym (ap (λ (l : Limited). l.incumbent) so.walked) ∙ f)))

  plan_is : (c : ℕ) → (limited_by name s).incumbent ≡ plan c name → plan_found all parts r ≡ plan_at job name
  plan_is c f = plan_read job e ss fs ls rs ps nd rm ar ho name kept.stops st kept.changes ch (full_length c f)

  -- the incumbent is the plan of the name, where it has a cost
  costs : (c : ℕ) → r.cost ≡ Some c → (limited_by name s).incumbent ≡ plan c name
  costs c f = ap (found_as name) f

  -- what the code hands over says the model's answer for the job and the limit
  pub said : said_in all parts r ≡ answer_of job limit
  unfolding answer_of
  said = answer_named (plan_at job) name (plan_found all parts r) r.count r.over r.cost (λ c f. plan_is c (costs c f)) r.floor ∙ ap₂ (answered_at job) so.floor so.walked
