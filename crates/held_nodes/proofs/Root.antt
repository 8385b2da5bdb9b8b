-- The first node: nothing is decided, so its part sums and its term are those without holders, and what the walk is given of it.
use Prim.Native.Nat.{ℕ, zero, suc, ◌-◌, ◌*◌, ◌≤◌, min}
use mathlib.Core.Path.{◌≡◌, refl, sym, ap, ap₂, subst, ◌∙◌}
use mathlib.Core.Bool.{Bool, false, false≢true}
use mathlib.Core.List.{List, [], ◌∷◌, map}
use native.Mathlib.Omega.{arith}
use borrow.Author.Tests.{le-ltb}
use lib.Dec.{ltb}
use lib.ListN.{length, get_or, take}
use Rattle.branch.specs.declared.Bound.{Bound}
use Rattle.branch.specs.declared.Bound.TheVariants.{Missing, Sum}
use Rattle.branch.specs.Lower.{add, total, larger, largest}
use Rattle.branch.specs.Search.{none, limited}
use Rattle.branch.specs.Questions.{left_at}
use Rattle.branch.proofs.Steps.{left_bound}
use Rattle.model.specs.Model.{sum_at}
use Rattle.model.specs.Decisions.{concat}
use Rattle.model.specs.LastYes.{last_yes}
use Rattle.base.specs.Filled.{FilledBy}
use Rattle.lane_rows.specs.Layout.{lane_count_lem, top, inf, suffix_base, lanes_in}
use Rattle.lane_rows.specs.Sheet.{Column, column_bound, column_fee, part_sums, fee_term}
use Rattle.lane_rows.specs.Tables.{Coded, sum_where, Tables}
use Rattle.lane_rows.specs.Rows.{lane, sum_lanes, FirstRow}
use Rattle.lane_rows.proofs.Lanes.{lane_most, first_sums_lem, rows_root}
use Rattle.lane_rows.proofs.Memory.{memo_root}
use Rattle.lane_rows.proofs.Terms.{node_term, sums_by}
use Rattle.held_rows.specs.Held.{HeldColumn, HeldSheet, column_in, plain, held, paid_in, lane_bound, lane_fee, held_sums, held_term, held_bound, Classed}
use Rattle.held_rows.proofs.Rows as held
use Rattle.held_lanes.specs.Places.{offset, top_place, classes_place, last_place, aside_size}
use Rattle.held_lanes.specs.Tables.{HeldTables}
use Rattle.held_lanes.proofs.Coded.{root_coded}
use Rattle.held_stops.proofs.Children.{bound_in}
use Rattle.held_stops.proofs.Names.{opening_bound}
use Rattle.search_state.specs.declared.Search.{Search}
use Rattle.search_state.specs.State.{no_cost, over_s, solved_s}
use Rattle.held_nodes.specs.declared.Node.{Node}
use Rattle.held_nodes.specs.State.{blocks_of, best_name, view, tree_at, At, HeldSolves}
use Rattle.search_state.proofs.States.{found_is}
use Rattle.search_state.proofs.Trees.{DueAt, where_there}
use Rattle.held_nodes.proofs.Given.{sums_low}

-- ---- nothing decided is as without holders

total_columns : (f : HeldColumn → List Bool → Bound) (g : Column → List Bool → Bound) (xs : List HeldColumn) → ((x : HeldColumn) → f x [] ≡ g x.column []) → total f xs [] ≡ total g (map column_in xs) []
total_columns f g [] e = refl
total_columns f g (x ∷ xs) e = ap₂ add (e x) (total_columns f g xs e)

largest_columns : (f : HeldColumn → List Bool → Bound) (g : Column → List Bool → Bound) (k : ℕ) (xs : List HeldColumn) → ((x : HeldColumn) → f x [] ≡ g x.column []) → largest f (take k xs) [] ≡ largest g (take k (map column_in xs)) []
largest_columns f g zero xs e = refl
largest_columns f g (suc k) [] e = refl
largest_columns f g (suc k) (x ∷ xs) e = ap₂ larger (e x) (largest_columns f g k xs e)

-- where nothing is decided the part sums are those without holders
pub sums_first : (sheet : HeldSheet) → held_sums sheet [] ≡ part_sums (plain sheet) []
sums_first sheet = total_columns (lane_bound sheet []) (column_bound (plain sheet)) sheet.lanes (λ x. refl)

-- where nothing is decided the term is that without holders
pub term_first : (sheet : HeldSheet) → held_term sheet [] ≡ fee_term (plain sheet) []
term_first sheet = largest_columns (lane_fee sheet []) (column_fee (plain sheet)) sheet.parts sheet.lanes (λ x. refl)

paid_first : (sheet : HeldSheet) → paid_in sheet [] ≡ 0
unfolding sum_at
paid_first sheet = refl

-- the node
abbrev pub root_n : ℕ → Node
root_n h = record { at = 0; rows = 1; next = h; owed = false; shut = 0; removed = 0; spent = 0; mask = 0 }

module _ (sheet : HeldSheet) (t u w : List ℕ) (ta : Tables (plain sheet) t) (he : HeldTables sheet u) (fit : Classed sheet) (fr : FirstRow w) where
  -- the term, the table's top number there
  abbrev due : ℕ
  due = get_or u (top_place 0) 0

  due_coded : Coded (top * (length sheet.positions - 0)) due (fee_term (plain sheet) [])
  due_coded = subst (Coded (top * (length sheet.positions - 0)) due) (term_first sheet) (root_coded sheet fit u he)

  -- the part sums, over the tables' first row
  abbrev firsts : ℕ
  firsts = sum_lanes (lanes_in t) (λ (q : ℕ). get_or t q 0)

  sums_are : held_sums sheet [] ≡ sum_where due firsts
  sums_are =
      sums_first sheet
      ∙ sym (sums_by (plain sheet) t ta [] due due_coded (omega arith) w 1 (rows_root (plain sheet) w (omega (arith, ta.wide, ta.narrow)) fr))
      ∙ ap (sum_where due) (sym (first_sums_lem (plain sheet) t ta w fr))

  term_is : (x : ℕ) → sum_where due firsts ≡ Sum x → (held_term sheet [] ≡ Sum due) × (due ≤ top * length sheet.positions)
  term_is x e =
      let d = node_term (plain sheet) t ta [] due due_coded x (sym (sums_first sheet) ∙ sums_are ∙ e) in
      (term_first sheet ∙ d.0, omega (arith, d.1))

  low_is : (x : ℕ) → sum_where due firsts ≡ Sum x → x ≤ lane_count_lem * inf
  low_is x e =
      sums_low (λ (q : ℕ). lane t w suffix_base 0 q 1) (lanes_in t) x ta.narrow (λ q. lane_most t w suffix_base 0 q 1) (sym (where_there due firsts x e).1 ∙ first_sums_lem (plain sheet) t ta w fr)

  -- its bound
  pub bound_first : held_bound sheet [] ≡ add (Sum due) (sum_where due firsts)
  unfolding concat
  bound_first = opening_bound sheet 0 [] tt (omega arith) ∙ go (sum_where due firsts) refl
    where
      go : (b : Bound) → sum_where due firsts ≡ b → bound_in sheet [] ≡ add (Sum due) b
      go Missing e = (λ i. add (add (Sum (paid_in sheet [])) ((sums_are ∙ e) i)) (held_term sheet []))
      go (Sum x) e = (λ i. add (add (Sum (paid_first sheet i)) ((sums_are ∙ e) i)) ((term_is x e).0 i)) ∙ ap Sum (omega arith)

  -- at the first node the table's first top number is all that is owed beside the part sums
  pub root_due : (h : ℕ) → DueAt (tree_at sheet (root_n h) []) (sum_where due firsts) due
  unfolding concat
  root_due h =
      let b = left_bound (held_bound sheet) 0 (held sheet) (held sheet - h) (length sheet.positions - 0) [] ∙ bound_first in
      record {
        none = λ e. b ∙ ap (add (Sum due)) e;
        some = λ x e. b ∙ ap (add (Sum due)) e;
        fits = λ x e. omega (arith, (term_is x e).1, low_is x e, ta.few);
      }

  -- what is given of it
  pub root_given : (v₀ v : List ℕ) (h x : ℕ) → length v₀ ≡ aside_size → FilledBy (last_place 0) (offset 0) (get_or u classes_place 0) v₀ v → h ≡ held sheet → sum_where due firsts ≡ Sum x → At sheet [] t u w v (root_n h) x due
  unfolding blocks_of last_yes
  root_given v₀ v h x size f n e =
      record {
        tables = ta;
        holders = he;
        fit = fit;
        aside = f.size ∙ size;
        inside = omega arith;
        mask = omega arith;
        spent = sym (paid_first sheet);
        poor = omega arith;
        sums = sums_are ∙ e;
        low = low_is x e;
        term = (term_is x e).0;
        cheap = omega (arith, (term_is x e).1);
        pending = λ o. absurd (false≢true o);
        stop = λ o. absurd (false≢true o);
        opening = λ o. record {
          all = record {
            size = refl;
            rows_are = held.rows_root (plain sheet) w (omega (arith, ta.wide, ta.narrow)) fr;
            memo = memo_root t w fr;
            lasts = λ c l. f.done c (omega (arith, he.classes));
            blocks = refl;
          };
          next = n;
        };
      }

  -- by the numbers that are read: the term d and the part sums b
  module _ (d : ℕ) (k : d ≡ due) (b : Bound) (f : b ≡ sum_where d firsts) where
    g : b ≡ sum_where due firsts
    g = f ∙ ap (λ (h : ℕ). sum_where h firsts) k

    -- what is due of it
    pub begun_due : (h : ℕ) → DueAt (tree_at sheet (root_n h) []) b d
    begun_due h = subst (DueAt (tree_at sheet (root_n h) []) b) (sym k) (subst (λ (e : Bound). DueAt (tree_at sheet (root_n h) []) e due) (sym g) (root_due h))

    -- they make its bound
    pub begun_bound : add (Sum d) b ≡ held_bound sheet []
    begun_bound = ap₂ (λ (n : ℕ) (e : Bound). add (Sum n) e) k g ∙ sym bound_first

    -- they are part of what the walk is given
    pub begun_given : (v₀ v : List ℕ) (h x : ℕ) → length v₀ ≡ aside_size → FilledBy (last_place 0) (offset 0) (get_or u classes_place 0) v₀ v → h ≡ held sheet → b ≡ Sum x → At sheet [] t u w v (root_n h) x d
    begun_given v₀ v h x size m n e = subst (At sheet [] t u w v (root_n h) x) (sym k) (root_given v₀ v h x size m n (sym g ∙ e))

-- ---- the end

-- nothing is counted and nothing found
abbrev pub fresh : Search
fresh = record { count = 0; cost = no_cost; mask = 0 }

fresh-view : (limit : ℕ) (sheet : HeldSheet) (v : List ℕ) → view limit sheet v fresh ≡ record { count = 0; over = false; incumbent = none }
fresh-view limit sheet v =
    let z : min 0 limit ≡ 0 = omega arith in
    λ i. record { count = z i; over = le-ltb limit 0 (omega arith) i; incumbent = none }

-- what is handed over of a last state
pub root_ends : (limit : ℕ) (sheet : HeldSheet) (v v' : List ℕ) (h : ℕ) (s : Search) (floor : Bound) → h ≡ held sheet → floor ≡ held_bound sheet [] → view limit sheet v' s ≡ limited limit (tree_at sheet (root_n h) []) (concat []) (view limit sheet v fresh)
    → HeldSolves sheet limit v' (solved_s floor limit s)
unfolding concat
root_ends limit sheet v v' h s floor n f e =
    let z : held sheet - h ≡ 0 = omega (arith, n) in
    let y : length sheet.positions - 0 ≡ length sheet.positions = omega arith in
    record {
      floor = f;
      walked = (λ i. record { count = min s.count limit; over = over_s limit s; incumbent = found_is (ltb s.cost no_cost) s.cost (best_name (held sheet) (length sheet.positions) v' s.mask) i }) ∙ e ∙ (λ i. limited limit (left_at (held_bound sheet) (held sheet) (z i) (y i) []) [] (fresh-view limit sheet v i));
    }
