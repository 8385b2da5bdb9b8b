-- From hall plans to full nodes: a hall plan's decisions are the name of a full node, which tells each line its own plan's decisions and the crew its calls. So it costs no less than that node.
use mathlib.Core.Path.{◌≡◌, refl, sym, ap, subst, ◌∙◌}
use mathlib.Core.Bool.{Bool, true, false, cond, ◌||◌, false≢true}
use mathlib.Core.List.{List, [], ◌∷◌, ◌++◌, map}
use Prim.Native.Nat.{ℕ, zero, suc, ◌+◌, ◌≤◌}
use native.Mathlib.Omega.{arith}
use lib.ListN.{length, length-map, get_or}
use lib.Dec.{eqb}
use Rattle.branch.specs.declared.Bound.TheVariants.{Sum}
use Rattle.branch.specs.Lower.{total}
use Rattle.model.specs.Model.{Opening, Job, Plan, listed, sum, Each, KeepsLives}
use Rattle.model.specs.Windows.{Rising, steps_of, at_step}
use Rattle.model.specs.Decisions.{block_of, plan_blocks, concat, decisions_of}
use Rattle.model.specs.LowerBound.{inner, bound_of}
use Rattle.base.proofs.Bools.{or_split, or_left, or_right}
use Rattle.model.proofs.Lists.{table-length}
use Rattle.model.proofs.Blocks.{Whole, Wholes}
use Rattle.model.proofs.Bounded.{node_wholes, full_bound}
use Rattle.model.proofs.Charges.{decisions_full, decisions_node, block_firsts}
use Rattle.model.proofs.Plans.{stops_bound}
use Rattle.branch.proofs.Planned.{NodeOf}
use Rattle.hall_model.specs.Hall.{Hall, horizon_of, idles_of, Alike, AllAlike, Proper, Placed, open_at, line_stops, some_stops, calls_of, costs_of, hall_cost, KeepsAll, sum_of}
use Rattle.hall_model.specs.Agenda.{some_open, crew_steps, Line, lines_from, name_for, calls_at}
use Rattle.hall_model.specs.Decisions.{block_at, blocks_at, turn_at, hall_decisions}
use Rattle.hall_model.specs.LowerBound.{line_bound, priced, called_at, hall_bound}
use Rattle.hall_model.specs.Promise.{hall_problem}
use Rattle.hall_model.proofs.Bounded.{FullNode, node_cost}
use Rattle.hall_model.proofs.Turns.{Cell, Row, Turn, Turns, spelled, column, called, turns_full, line_hears, crew_hears}
use Rattle.hall_model.proofs.Dealt.{Dealt, dealt_joined, unlisted, spread, sum_open}
use Rattle.hall_model.proofs.Order.{stop_in, Needed}

-- ---- one line at a step

at_map : {A B : Type 0} (f : A → B) (d : A) (ss : List ℕ) (l : List A) (x : ℕ) → at_step (f d) ss (map f l) x ≡ f (at_step d ss l x)
unfolding at_step
at_map f d [] l x = refl
at_map f d (s ∷ ss) [] x = go (eqb s x) (at_map f d ss [] x)
  where
    go : (t : Bool) → at_step (f d) ss [] x ≡ f (at_step d ss [] x) → cond t (f d) (at_step (f d) ss [] x) ≡ f (cond t d (at_step d ss [] x))
    go true e = refl
    go false e = e
at_map f d (s ∷ ss) (a ∷ l) x = go (eqb s x) (at_map f d ss l x)
  where
    go : (t : Bool) → at_step (f d) ss (map f l) x ≡ f (at_step d ss l x) → cond t (f a) (at_step (f d) ss (map f l) x) ≡ f (cond t a (at_step d ss l x))
    go true e = refl
    go false e = e

at_whole : (h : ℕ) (ss : List ℕ) (bs : List (List Bool)) (x : ℕ) → Wholes h (length ss) bs → listed ss x ≡ true → Whole h (at_step [] ss bs x)
unfolding at_step listed
at_whole h [] bs x w e = absurd (false≢true e)
at_whole h (s ∷ ss) [] x w e = absurd w
at_whole h (s ∷ ss) (b ∷ bs) x w e = go (eqb s x) e (λ q. at_whole h ss bs x w.1 q)
  where
    go : (t : Bool) → (t || listed ss x) ≡ true → (listed ss x ≡ true → Whole h (at_step [] ss bs x)) → Whole h (cond t b (at_step [] ss bs x))
    go true q f = w.0
    go false q f = f q

module _ (job : Job) (plan : Plan) (size : length plan.stops ≡ length job.openings) where
  abbrev first : List Bool → Bool
  first b = get_or b 0 false

  -- the line stops where its block says so
  stop_block : (x : ℕ) → line_stops job plan x ≡ first (block_at job plan x)
  stop_block x = ap (λ (l : List Bool). at_step false (steps_of job.openings) l x) (sym (block_firsts job plan false size)) ∙ at_map first [] (steps_of job.openings) (plan_blocks job plan) x

  steps_length : length (steps_of job.openings) ≡ length job.openings
  steps_length = length-map job.openings (λ (o : Opening). o.step)

  block_whole : (x : ℕ) → open_at job x ≡ true → Whole (inner job) (block_at job plan x)
  block_whole x e =
      let w = subst (Wholes (inner job) (length job.openings)) (decisions_node job plan) (node_wholes job (decisions_of job plan) (decisions_full job plan)) in
      at_whole (inner job) (steps_of job.openings) (plan_blocks job plan) x (rw steps_length w) e

  line_cell : (x : ℕ) (called : Bool) → (called ≡ false → line_stops job plan x ≡ false) → Cell called (open_at job x) (inner job) (block_at job plan x)
  line_cell x called f = go (open_at job x) refl called f
    where
      no : (b : List Bool) → Whole (inner job) b → first b ≡ false → b ≡ false ∷ []
      no [] w e = absurd w
      no (false ∷ b) w e = ap (λ (l : List Bool). false ∷ l) w
      no (true ∷ b) w e = absurd (false≢true (sym e))

      go : (o : Bool) → open_at job x ≡ o → (c : Bool) → (c ≡ false → line_stops job plan x ≡ false) → Cell c o (inner job) (block_at job plan x)
      go false e c g = unlisted [] (steps_of job.openings) (plan_blocks job plan) x e
      go true e true g = block_whole x e
      go true e false g = no (block_at job plan x) (block_whole x e) (sym (stop_block x) ∙ g refl)

-- ---- all lines

-- a plan without stops and changes, in the place of one that is not there
abbrev pub no_plan_lem : Plan
no_plan_lem = record { stops = []; changes = [] }

-- what holds of each line and its plan holds of the line at place d
pub each_placed : (R : Job → Plan → Type 0) (jobs : List Job) (plans : List Plan) → Each R jobs plans → (d : ℕ) (job : Job) → Placed jobs d job → R job (get_or plans d no_plan_lem)
each_placed R [] plans e d job at = absurd at
each_placed R (j ∷ jobs) [] e d job at = absurd e
each_placed R (j ∷ jobs) (p ∷ plans) e zero job at = subst (λ (x : Job). R x p) at e.0
each_placed R (j ∷ jobs) (p ∷ plans) e (suc d) job at = each_placed R jobs plans e.1 d job at

module _ (x : ℕ) where
  blocks_placed : (jobs : List Job) (plans : List Plan) → Each KeepsLives jobs plans → (d : ℕ) (job : Job) → Placed jobs d job
      → get_or (blocks_at jobs plans x) d [] ≡ block_at job (get_or plans d no_plan_lem) x
  blocks_placed [] plans e d job at = absurd at
  blocks_placed (j ∷ jobs) [] e d job at = absurd e
  blocks_placed (j ∷ jobs) (p ∷ plans) e zero job at = ap (λ (y : Job). block_at y p x) at
  blocks_placed (j ∷ jobs) (p ∷ plans) e (suc d) job at = blocks_placed jobs plans e.1 d job at

  plan_row : (called : Bool) (jobs : List Job) (plans : List Plan) → Each KeepsLives jobs plans → (called ≡ false → some_stops jobs plans x ≡ false) → Row called x jobs (blocks_at jobs plans x)
  plan_row called [] [] e f = tt
  plan_row called [] (p ∷ plans) e f = absurd e
  plan_row called (j ∷ jobs) [] e f = absurd e
  plan_row called (j ∷ jobs) (p ∷ plans) e f = (
    line_cell j p e.0.size x called (λ c. (or_split (line_stops j p x) (some_stops jobs plans x) (f c)).0),
    plan_row called jobs plans e.1 (λ c. (or_split (line_stops j p x) (some_stops jobs plans x) (f c)).1),
  )

  stops_in_lem : (jobs : List Job) (plans : List Plan) → Each KeepsLives jobs plans → some_stops jobs plans x ≡ stop_in (blocks_at jobs plans x)
  stops_in_lem [] plans e = refl
  stops_in_lem (j ∷ jobs) [] e = refl
  stops_in_lem (j ∷ jobs) (p ∷ plans) e = λ i. stop_block j p e.0.size x i || stops_in_lem jobs plans e.1 i

  -- nobody stops where no line is open
  none_open : (jobs : List Job) (plans : List Plan) → some_open jobs x ≡ false → some_stops jobs plans x ≡ false
  none_open [] plans e = refl
  none_open (j ∷ jobs) [] e = refl
  none_open (j ∷ jobs) (p ∷ plans) e =
      let o = or_split (open_at j x) (some_open jobs x) e in
      rw (unlisted false (steps_of j.openings) p.stops x o.0) (none_open jobs plans o.1)

  placed_open : (jobs : List Job) (d : ℕ) (job : Job) → Placed jobs d job → open_at job x ≡ true → some_open jobs x ≡ true
  placed_open [] d job at e = absurd at
  placed_open (j ∷ jobs) zero job at e = or_left (open_at j x) (some_open jobs x) (ap (λ (y : Job). open_at y x) at ∙ e)
  placed_open (j ∷ jobs) (suc d) job at e = or_right (open_at j x) (some_open jobs x) (placed_open jobs d job at e)

-- ---- the plan's turns

-- a hall plan's turns: at each step whether some line stops, and the lines' blocks there
abbrev pub turns_of : List Job → List Plan → List ℕ → List Turn
turns_of jobs plans steps = map (λ (x : ℕ). record { called = some_stops jobs plans x; said = blocks_at jobs plans x }) steps

module _ (jobs : List Job) (plans : List Plan) (keeps : Each KeepsLives jobs plans) where
  -- a hall plan that keeps every life has a proper turn at each step
  pub plan_turns : (steps : List ℕ) → Turns jobs steps (turns_of jobs plans steps)
  plan_turns [] = tt
  plan_turns (x ∷ steps) = (plan_row x (some_stops jobs plans x) jobs plans keeps (λ e. e), plan_turns steps)

  -- a hall plan's turns call the crew only where some line stops
  pub plan_needed : (steps : List ℕ) → Needed (turns_of jobs plans steps)
  plan_needed [] = tt
  plan_needed (x ∷ steps) = (stops_in_lem x jobs plans keeps, plan_needed steps)

  -- a hall plan's decisions at these steps are what its turns spell
  pub plan_spelled : (steps : List ℕ) → concat (map (turn_at jobs plans) steps) ≡ spelled (turns_of jobs plans steps)
  unfolding concat spelled
  plan_spelled [] = refl
  plan_spelled (x ∷ steps) = ap (λ (l : List Bool). turn_at jobs plans x ++ l) (plan_spelled steps)

  -- a line's blocks in the hall plan's turns are those of its own plan, step by step
  pub plan_column : (d : ℕ) (job : Job) → Placed jobs d job → (steps : List ℕ) → column d (turns_of jobs plans steps) ≡ map (block_at job (get_or plans d no_plan_lem)) steps
  plan_column d job at [] = refl
  plan_column d job at (x ∷ steps) = λ i. blocks_placed x jobs plans keeps d job at i ∷ plan_column d job at steps i

  plan_calls : (n : ℕ) (steps : List ℕ) → priced n (called (turns_of jobs plans steps)) ≡ sum_of (map (λ (x : ℕ). cond (some_stops jobs plans x) n 0) steps)
  unfolding called
  plan_calls n [] = refl
  plan_calls n (x ∷ steps) = go (some_stops jobs plans x) (plan_calls n steps)
    where
      rest : List Bool
      rest = called (turns_of jobs plans steps)

      sums : ℕ
      sums = sum_of (map (λ (x : ℕ). cond (some_stops jobs plans x) n 0) steps)

      go : (s : Bool) → priced n rest ≡ sums → priced n (cond s (true ∷ rest) rest) ≡ cond s n 0 + sums
      go true e = ap (λ (m : ℕ). n + m) e
      go false e = omega arith

-- ---- the hall

placed_alike : (T : ℕ) (is : List ℕ) (jobs : List Job) → AllAlike T is jobs → (d : ℕ) (job : Job) → Placed jobs d job → Alike T is job
placed_alike T is [] a d job at = absurd at
placed_alike T is (j ∷ jobs) a zero job at = subst (Alike T is) at a.0
placed_alike T is (j ∷ jobs) a (suc d) job at = placed_alike T is jobs a.1 d job at

module _ (hall : Hall) (proper : Proper hall) where
  abbrev jobs : List Job
  jobs = hall.jobs

  abbrev steps : List ℕ
  steps = crew_steps hall

  -- as many blocks as a line has openings, by step, are dealt to the steps
  pub blocks_dealt : (d : ℕ) (job : Job) → Placed jobs d job → (bs : List (List Bool)) → length bs ≡ length job.openings
      → Dealt (map (open_at job) steps) (map (at_step [] (steps_of job.openings) bs) steps) bs
  blocks_dealt d job at bs h =
      let T = horizon_of jobs in
      let alike = placed_alike T (idles_of jobs) jobs proper d job at in
      let z : job.horizon ≡ 0 + T = omega (arith, alike.same_horizon) in
      spread jobs T 0 (steps_of job.openings) bs (λ x. placed_open x jobs d job at) (subst (λ (n : ℕ). Rising 0 n (steps_of job.openings)) z alike.rising)
      (h ∙ sym (length-map job.openings (λ (o : Opening). o.step)))

  -- a line's blocks by its plan are dealt to the crew's steps at which the line is open
  pub plan_dealt : (d : ℕ) (job : Job) → Placed jobs d job → (plan : Plan) → Dealt (map (open_at job) steps) (map (block_at job plan) steps) (plan_blocks job plan)
  plan_dealt d job at plan = blocks_dealt d job at (plan_blocks job plan) (table-length (block_of job plan) (length job.openings))

  module _ (plans : List Plan) (keeps : KeepsAll hall plans) where
    abbrev turns : List Turn
    turns = turns_of jobs plans steps

    -- a hall plan's decisions are what its turns at the crew's steps spell
    pub decisions_spelled : hall_decisions hall plans ≡ spelled turns
    unfolding hall_decisions
    decisions_spelled = plan_spelled jobs plans keeps steps

    -- the decisions of a hall plan that keeps every life are the name of a full node
    pub hall_full : FullNode hall (hall_decisions hall plans)
    hall_full = rw decisions_spelled (turns_full jobs steps turns (plan_turns jobs plans keeps steps))

    -- each line is told its own plan's decisions
    pub told : (d : ℕ) (job : Job) → Placed jobs d job → name_for hall (record { place = d; job = job }) (hall_decisions hall plans) ≡ decisions_of job (get_or plans d no_plan_lem)
    unfolding decisions_of
    told d job at =
        let ln : Line = record { place = d; job = job } in
        let plan = get_or plans d no_plan_lem in
        ap (name_for hall ln) decisions_spelled
        ∙ line_hears jobs ln at steps turns (plan_turns jobs plans keeps steps)
        ∙ ap concat (plan_column jobs plans keeps d job at steps)
        ∙ dealt_joined (map (open_at job) steps) (map (block_at job plan) steps) (plan_blocks job plan) (plan_dealt d job at plan)

    -- and the calls are the plan's: one for each step at which some line stops, at any price
    pub calls_needed : (n : ℕ) → priced n (called turns) ≡ sum 1 (horizon_of jobs) (λ (x : ℕ). cond (some_stops jobs plans x) n 0)
    calls_needed n =
        plan_calls jobs plans keeps n steps
        ∙ sum_open jobs (λ (x : ℕ). cond (some_stops jobs plans x) n 0) (λ x e. ap (λ (b : Bool). cond b n 0) (none_open x jobs plans e)) (horizon_of jobs) 1

    -- the calls in a hall plan's turns cost what the hall plan pays for calls
    pub calls_turns : priced hall.call (called turns) ≡ calls_of hall plans
    calls_turns = calls_needed hall.call

    -- so the crew is told them
    pub calls_heard : calls_at hall (hall_decisions hall plans) ≡ called turns
    calls_heard = ap (calls_at hall) decisions_spelled ∙ crew_hears jobs steps turns (plan_turns jobs plans keeps steps)

    calls_told : called_at hall (hall_decisions hall plans) ≡ calls_of hall plans
    calls_told = ap (priced hall.call) calls_heard ∙ calls_turns

    -- the lines' bounds there, from place j on
    costs_told : (j : ℕ) (js : List Job) (ps : List Plan) → Each KeepsLives js ps
        → ((i : ℕ) (job : Job) → Placed js i job → name_for hall (record { place = j + i; job = job }) (hall_decisions hall plans) ≡ decisions_of job (get_or ps i no_plan_lem))
        → (m : ℕ) × (total (line_bound hall) (lines_from j js) (hall_decisions hall plans) ≡ Sum m) × (m ≤ costs_of js ps)
    unfolding lines_from
    costs_told j [] ps k f = (0, refl, omega arith)
    costs_told j (job ∷ js) [] k f = absurd k
    costs_told j (job ∷ js) (p ∷ ps) k f =
        let s = hall_decisions hall plans in
        let b = stops_bound job p k.0 in
        let z : j ≡ j + 0 = omega arith in
        let name : name_for hall (record { place = j; job = job }) s ≡ decisions_of job p = ap (λ (n : ℕ). name_for hall (record { place = n; job = job }) s) z ∙ f 0 job refl in
        let own : line_bound hall (record { place = j; job = job }) s ≡ Sum b.bound = ap (bound_of job) name ∙ full_bound job (decisions_of job p) (decisions_full job p) ∙ b.is in
        let r = costs_told (suc j) js ps k.1
        (λ i x at. let w : suc j + i ≡ j + suc i = omega arith in ap (λ (n : ℕ). name_for hall (record { place = n; job = x }) s) w ∙ f (suc i) x at) in
        (b.bound + r.0, rw (own, r.1) refl, omega (arith, b.le, r.2))

    hall_bound_lem : (m : ℕ) × (hall_bound hall (hall_decisions hall plans) ≡ Sum m) × (m ≤ hall_cost hall plans)
    unfolding hall_bound
    hall_bound_lem =
        let s = hall_decisions hall plans in
        let r = costs_told 0 jobs plans keeps (λ i x at. let w : 0 + i ≡ i = omega arith in ap (λ (n : ℕ). name_for hall (record { place = n; job = x }) s) w ∙ told i x at) in
        (called_at hall s + r.0, rw r.1 refl, omega (arith, r.2, calls_told))

    -- a hall plan that keeps every life costs no less than the full node of its decisions
    pub node_of : NodeOf (hall_problem hall) plans
    node_of =
        let b = hall_bound_lem in
        record { bound = b.0; node = node_cost hall (hall_decisions hall plans) hall_full ∙ b.1; le = b.2 }
