-- What the walk leaves: its last state is the search's, and each line has its part of the incumbent's name.
use Prim.Native.Nat.{ℕ, zero, suc, ◌+◌, ◌<◌, min}
use mathlib.Core.Path.{◌≡◌, refl, sym, ap, ap₂, subst, ◌∙◌}
use mathlib.Core.Bool.{Bool, true, false, cond}
use mathlib.Core.List.{List, [], ◌∷◌, map}
use Rattle.std.specs.Prelude.{Option, Some, None}
use Rattle.std.proofs.lemmas.Option.{none-some}
use native.Mathlib.Omega.{arith}
use borrow.Author.Tests.{ltb-true}
use lib.Dec.{ltb}
use lib.ListN.{length, get_or, length-map}
use Rattle.branch.specs.declared.Bound.{Bound}
use Rattle.branch.specs.Search.{limited}
use Rattle.model.specs.Model.{Job, holding, removal_of_lem}
use Rattle.model.specs.LowerBound.{inner}
use Rattle.model.proofs.Positions.{positions_size}
use Rattle.model.proofs.Totals.{select-length}
use Rattle.held_rows.specs.Held.{HeldSheet, held, SheetOf}
use Rattle.search_state.specs.declared.Search.{Search}
use Rattle.search_state.specs.State.{no_cost, over_s, view_of, reached_s, solved_s}
use Rattle.search_state.proofs.States.{found_is}
use Rattle.search_state.proofs.Trees.{DueAt}
use Rattle.held_nodes.specs.State.{best_name}
use Rattle.held_nodes.proofs.Root.{fresh}
use Rattle.held_search.specs.Solved.{limited_by}
use Rattle.hall_model.specs.Hall.{Hall, Placed}
use Rattle.hall_model.specs.Agenda.{Agenda, Line, lines_from, name_for}
use Rattle.hall_model.specs.LowerBound.{hall_bound}
use Rattle.hall_model.specs.Steps.{tree_from}
use Rattle.hall_nodes.specs.Walk.{PartsOf}
use Rattle.hall_nodes.proofs.Root.{whole, ends_closed}
use Rattle.hall_state.specs.declared.Ground.{Ground}
use Rattle.hall_state.specs.declared.Spot.{Spot}
use Rattle.hall_state.specs.Courses.{Arrays, rows_at, Course, course_in, slots_at}
use Rattle.hall_state.proofs.Courses.{slot_sheet, slot_aside}
use Rattle.hall_walk.specs.Walk.{Reaches, HallWalked}
use Rattle.hall_search.specs.Walked.{HallSearched}
use Rattle.hall_search.proofs.Begins.{all_left}

-- ---- the incumbent's name

-- a line's part of a name
abbrev PartIn : Hall → List Bool → Line → HeldSheet → List ℕ → ℕ → Type 0
PartIn hall best ln sheet v m = name_for hall ln best ≡ best_name (held sheet) (length sheet.positions) v m

-- each line's part of the name is that of its slot
part_at : (hall : Hall) (best : List Bool) (g : Ground) (a : Arrays) (j : ℕ) (js : List Job) (cs : List Course) (masks : List ℕ) → PartsOf hall best (lines_from j js) (slots_at g a j cs) masks
    → (i : ℕ) (job : Job) → Placed js i job → PartIn hall best (record { place = j + i; job = job }) (course_in cs i).sheet (rows_at a (j + i)).v (get_or masks i 0)
unfolding lines_from
part_at hall best g a j [] cs masks p i job at = absurd at
part_at hall best g a j (x ∷ js) [] masks p i job at = absurd p
part_at hall best g a j (x ∷ js) (c ∷ cs) [] p i job at = absurd p
part_at hall best g a j (x ∷ js) (c ∷ cs) (m ∷ masks) p zero job at =
    let z : j ≡ j + 0 = omega arith in
    let e : name_for hall (record { place = j; job = job }) best ≡ name_for hall (record { place = j; job = x }) best = ap (λ (y : Job). name_for hall (record { place = j; job = y }) best) (sym at) in
    subst (λ (k : ℕ). PartIn hall best (record { place = k; job = job }) c.sheet (rows_at a k).v m) z
    (e ∙ p.0 ∙ ap₂ (λ (s : HeldSheet) (v : List ℕ). best_name (held s) (length s.positions) v m) (slot_sheet g a j c) (slot_aside g a j c))
part_at hall best g a j (x ∷ js) (c ∷ cs) (m ∷ masks) p (suc i) job at =
    let z : suc j + i ≡ j + suc i = omega arith in
    subst (λ (k : ℕ). PartIn hall best (record { place = k; job = job }) (course_in cs i).sheet (rows_at a k).v (get_or masks i 0)) z (part_at hall best g a (suc j) js cs masks p.1 i job at)

-- a job's sheet has as many removals as parts that are somebody's holder, and as many positions as openings
sheet_name : (job : Job) (sheet : HeldSheet) → SheetOf job sheet → (v : List ℕ) (m : ℕ) → best_name (held sheet) (length sheet.positions) v m ≡ best_name (inner job) (length job.openings) v m
sheet_name job sheet so v m =
    let h = ap length so.removals ∙ select-length (map removal_of_lem job.parts) job.parts (holding job) (length-map job.parts removal_of_lem) in
    let n = ap length so.places ∙ positions_size job in
    ap₂ (λ (k l : ℕ). best_name k l v m) h n

-- ---- the end

-- what is handed over of the last state is the state
solved_view : (name : List Bool) (floor : Bound) (limit : ℕ) (s : Search) → limited_by name (solved_s floor limit s) ≡ view_of limit (λ _. name) s
solved_view name floor limit s = λ i. record { count = min s.count limit; over = over_s limit s; incumbent = found_is (ltb s.cost no_cost) s.cost name i }

-- where a cost is handed over there is an incumbent
cost_there : (s : Search) (c : ℕ) → cond (ltb s.cost no_cost) (Some s.cost) None ≡ Some c → s.cost < no_cost
cost_there s c e = go (ltb s.cost no_cost) refl e
  where
    go : (b : Bool) → ltb s.cost no_cost ≡ b → cond b (Some s.cost) None ≡ Some c → s.cost < no_cost
    go true f h = ltb-true s.cost no_cost f
    go false f h = absurd (none-some c h)

-- and a node that is passed by finds none
none_there : (limit : ℕ) → (reached_s limit fresh).cost ≡ no_cost
none_there limit = go (over_s limit fresh)
  where
    go : (b : Bool) → (cond b fresh (record { count = 0 + 1; cost = no_cost; mask = 0 })).cost ≡ no_cost
    go true = refl
    go false = refl

module _ {hall : Hall} {g : Ground} {a a' : Arrays} {cs : List Course} {limit : ℕ} {masks masks' : List ℕ} {q : Option Spot} {r : Search} (floor : Bound) (is : floor ≡ hall_bound hall []) (h : Reaches hall g a q [] [] 0 cs masks limit fresh) (left : h.left ≡ all_left hall)
    (holds : (t : Spot) → q ≡ Some t → (d : ℕ) (job : Job) → Placed hall.jobs d job → SheetOf job (course_in cs d).sheet) (w : HallWalked hall h.left g a a' q [] [] cs masks masks' limit fresh r) where
  -- what the walk leaves, by whether the first node was walked on
  ended : (t : Option Spot) → q ≡ t → HallSearched hall limit a' masks' (solved_s floor limit r)
  ended None e =
      let p = w.passed e in
      record {
        found = [];
        floor = is;
        walked = solved_view [] floor limit r ∙ ap (view_of limit (λ _. [])) p.0 ∙ ends_closed hall limit (subst (λ (l : List Agenda). DueAt (tree_from (hall_bound hall) l []) h.e h.due) left h.due_at) (h.closed e);
        names = λ c f. let l = cost_there r c f in let z = ap (λ (s : Search). s.cost) p.0 ∙ none_there limit in absurd (omega (arith, l, z));
      }
  ended (Some t) e =
      let p = w.walked t e in
      record {
        found = p.found;
        floor = is;
        walked = solved_view p.found floor limit r ∙ p.search ∙ ap (λ (l : List Agenda). limited limit (tree_from (hall_bound hall) l []) [] (view_of limit (λ _. []) fresh)) left ∙ whole hall limit;
        names = λ c f d job at.
            let l = cost_there r c f in
            let z : 0 + d ≡ d = omega arith in
            let part = part_at hall p.found g a' 0 hall.jobs cs masks' (p.sees l) d job at in
            subst (λ (k : ℕ). PartIn hall p.found (record { place = k; job = job }) (course_in cs d).sheet (rows_at a' k).v (get_or masks' d 0)) z part ∙ sheet_name job (course_in cs d).sheet (holds t e d job at) (rows_at a' d).v (get_or masks' d 0);
      }

  -- what the walk leaves is the search of the hall
  pub searched : HallSearched hall limit a' masks' (solved_s floor limit r)
  searched = ended q refl
