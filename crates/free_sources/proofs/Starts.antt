-- The stacks that walks begin with: the row of the first lives is that of the job's own walk, and the rows of a level's free sources are those of the walk from them.
use Prim.Native.Nat.{ℕ, zero, suc, ◌+◌, ◌-◌, ◌*◌, ◌≤◌, ◌<◌, max}
use mathlib.Core.Path.{◌≡◌, refl, sym, ap, ap₂, subst, ◌∙◌}
use mathlib.Core.Bool.{Bool, cond}
use mathlib.Core.List.{List, [], ◌∷◌}
use native.Mathlib.Omega.{arith}
use native.Mathlib.Numerals.{add-one}
use lib.ListN.{length, get_or, length-map}
use lib.IntN.{ℤ, pos}
use borrow.Author.Tests.{lt-ltb, le-ltb}
use Rattle.branch.specs.declared.Bound.{Bound}
use Rattle.branch.specs.declared.Bound.TheVariants.{Missing, Sum}
use Rattle.model.specs.Model.{Job, Opening, clock, positions, last_change_lem}
use Rattle.model.specs.Decisions.{Held, held_parts}
use Rattle.model.specs.LowerBound.{plus, lower}
use Rattle.shares.specs.Shares.{Shares}
use Rattle.shares.specs.Sources.{Source, least_from, mark_of, rest_at, or_zero, highest, with_mark, free_up_to, rest_free, top_of, tops_from, tops}
use Rattle.lane_rows.specs.Layout.{lane_count_lem, dear, inf, suffix_base, place, row_place}
use Rattle.lane_rows.specs.Sheet.{Mark, solid_then, solid}
use Rattle.lane_rows.specs.Tables.{value_of, Coded}
use Rattle.lane_rows.specs.Rows.{sum_from, sum_lanes, marks_in, Level, FirstRow}
use Rattle.lane_rows.proofs.Lanes.{value_some, value_none, first_mark, first_level}
use Rattle.lane_rows.proofs.Memory.{memo_root}
use Rattle.share_rows.specs.Tables.{no_held, lane_at}
use Rattle.share_rows.specs.Stacked.{Course, Idle, marks_of, row_most}
use Rattle.share_rows.proofs.Lanes.{stacked_sources}
use Rattle.share_walk.specs.State.{blocks_at, Solvable, Ready}
use Rattle.share_walk.specs.Courses.{job_course, free_course}
use Rattle.share_walk.proofs.Roots.{bare_long}
use Rattle.free_sources.specs.Free.{higher, highest_in, lacks, FreeRows}

-- ---- numbers

module _ (b : ℕ) (small : b < inf) where
  higher_is : (v e : ℕ) (x : Bound) → Coded b e x → higher v e ≡ max (or_zero x) v
  higher_is v e Missing c = ap (λ (a : Bool). cond a (max v e) v) (le-ltb e inf (omega arith)) ∙ omega arith
  higher_is v e (Sum x) c = ap (λ (a : Bool). cond a (max v e) v) (lt-ltb e inf (omega arith)) ∙ omega arith

  higher_most : (v e : ℕ) (x : Bound) → Coded b e x → v ≤ b → higher v e ≤ b
  higher_most v e Missing c h = omega (arith, higher_is v e Missing c)
  higher_most v e (Sum x) c h = omega (arith, higher_is v e (Sum x) c)

  -- a mark in front with what its number lacks of the highest
  front_one : (top e : ℕ) (x : Bound) → Coded b e x → top ≤ b → (at : ℤ) (fr : List Mark) (ss : List Source) → solid fr ≡ marks_of ss → solid_then at (value_of (lacks top e)) (solid fr) ≡ marks_of (with_mark top at x ss)
  front_one top e Missing c h at fr ss q =
      let z : lacks top e ≡ inf = ap (λ (a : Bool). cond a (top - e) inf) (le-ltb e inf (omega arith)) in
      ap (λ (y : Bound). solid_then at y (solid fr)) (ap value_of z ∙ value_none inf (omega arith)) ∙ q
  front_one top e (Sum x) c h at fr ss q =
      let z : lacks top e ≡ top - x = ap (λ (a : Bool). cond a (top - e) inf) (lt-ltb e inf (omega arith)) ∙ omega (arith, c) in
      ap (λ (y : Bound). solid_then at y (solid fr)) (ap value_of z ∙ value_some (top - x) (omega arith)) ∙ (λ i. record { at = at; cost = Sum (top - x) } ∷ q i)

  lacks_level : (top e m : ℕ) (x : Bound) → Coded b e x → top ≤ b → b ≤ m → Level m (lacks top e)
  lacks_level top e m Missing c h g = let z : lacks top e ≡ inf = ap (λ (a : Bool). cond a (top - e) inf) (le-ltb e inf (omega arith)) in record { some = λ k. absurd (omega arith); most = omega arith }
  lacks_level top e m (Sum x) c h g = let z : lacks top e ≡ top - x = ap (λ (a : Bool). cond a (top - e) inf) (lt-ltb e inf (omega arith)) ∙ omega (arith, c) in record { some = λ k. omega arith; most = omega arith }

-- ---- lanes that cost nothing

-- after marks where nothing is left to pay the highest is 0, and each free source counts 0
none_highest : (r : ℤ → Bound) (mark : ℕ → ℤ) (l : ℕ) → ((k : ℕ) → k ≤ l → r (mark k) ≡ Sum 0) → highest r mark l ≡ 0
unfolding highest
none_highest r mark zero h = ap or_zero (h 0 (omega arith))
none_highest r mark (suc l) h = omega (arith, ap or_zero (h (suc l) (omega arith)), none_highest r mark l (λ k g. h k (omega arith)))

free_none : (r free : ℤ → Bound) (mark : ℕ → ℤ) (l : ℕ) → ((k : ℕ) → k ≤ l → r (mark k) ≡ Sum 0) → ((k : ℕ) → k ≤ l → free (mark k) ≡ Sum 0) → least_from r (free_up_to free mark 0 l) ≡ Sum 0
unfolding free_up_to least_from
free_none r free mark zero h g = (λ i. least_from r (with_mark 0 (mark 0) (g 0 (omega arith) i) [])) ∙ ap (λ (x : Bound). lower (plus 0 x) Missing) (h 0 (omega arith))
free_none r free mark (suc l) h g =
    (λ i. least_from r (with_mark 0 (mark (suc l)) (g (suc l) (omega arith) i) (free_up_to free mark 0 l)))
    ∙ ap₂ (λ (x y : Bound). lower (plus 0 x) y) (h (suc l) (omega arith)) (free_none r free mark l (λ k u. h k (omega arith)) (λ k u. g k (omega arith)))

module _ (job : Job) (shares : Shares) (lanes : List Held) (t x lifts : List ℕ) (so : Solvable job shares lanes t x) (lift : ℕ → ℕ) (ok : (k : ℕ) → k ≤ length job.openings → get_or lifts k 0 ≡ lift k) where
  -- ---- the job's own walk

  first_idle : Idle job shares (job_course lanes lift)
  unfolding least_from
  first_idle q f l bs = ap (λ (y : Bound). lower (plus 0 y) Missing) (so.lanes_are.spare q f l 0 bs 0 (omega arith))

  first_fronts : (w : List ℕ) → FirstRow w → (q : ℕ) → q < lane_count_lem → solid (marks_in (last_change_lem (lane_at lanes q).part) (positions job) w q 1) ≡ marks_of (record { at = last_change_lem (lane_at lanes q).part; cost = 0 } ∷ [])
  unfolding marks_in solid
  first_fronts w r q l =
      let z : 0 * lane_count_lem + q ≡ q = omega arith in
      let y : get_or w (row_place 0 q) 0 ≡ 0 = ap (λ (k : ℕ). get_or w k 0) z ∙ r.lanes q l in
      (λ i. solid_then (get_or (last_change_lem (lane_at lanes q).part ∷ positions job) (r.mark i) (pos 0)) (value_of (y i)) [])

  -- the row of the first lives is what the job's own walk begins with
  pub first_ready : (w : List ℕ) → FirstRow w → Ready job shares (job_course lanes lift) 0 t x lifts w
  first_ready w r =
      let course = job_course lanes lift in
      record {
        solvable = so;
        idle = first_idle;
        begins = refl;
        inside = omega arith;
        lift = ok;
        rows = stacked_sources job shares course (blocks_at job course []) w 1 (bare_long job course) r.size (omega arith) (omega arith) (first_mark r) (λ k q h g. first_level r (row_most 0) k q h g) (first_fronts w r);
        memo = memo_root t w r;
      }

  -- ---- the walk from a level's free sources

  module _ (level : ℕ) (fits : level ≤ length job.openings) where
    abbrev course : Course
    course = free_course job shares lanes lift level

    long : length (positions job) ≡ length job.openings
    long = length-map job.openings (λ (o : Opening). clock job o.step)

    abbrev most : ℕ
    most = dear * (length (positions job) - level)

    small : most < inf
    small = omega (arith, long, so.tables.few)

    free_idle : Idle job shares course
    free_idle q f l bs =
        let held = lane_at lanes q in
        let free = rest_free job shares level q held in
        let none : (k : ℕ) → k ≤ level → free (mark_of job held k) ≡ Sum 0 = λ k g. so.lanes_are.spare q f l level [] k (omega arith) in
        ap (λ (top : ℕ). least_from (rest_at job shares level bs q held) (free_up_to free (mark_of job held) top level)) (none_highest free (mark_of job held) level none)
        ∙ free_none (rest_at job shares level bs q held) free (mark_of job held) level (λ k g. so.lanes_are.spare q f l level bs k (omega arith)) none

    -- ---- one lane

    module _ (q : ℕ) (l : q < lane_count_lem) where
      abbrev held : Held
      held = lane_at lanes q

      abbrev free : ℤ → Bound
      free = rest_free job shares level q held

      abbrev mark : ℕ → ℤ
      mark = mark_of job held

      abbrev number : ℕ → ℕ
      number k = get_or t (place suffix_base level k q) 0

      coded : (k : ℕ) → k ≤ level → Coded most (number k) (free (mark k))
      coded k h = (so.tables.lane q l).suffix level k h (omega (arith, long))

      highest_up : (k : ℕ) → k ≤ level → highest_in t level q (suc k) ≡ highest free mark k
      unfolding highest_in highest
      highest_up zero h = higher_is most small 0 (number 0) (free (mark 0)) (coded 0 h) ∙ omega arith
      highest_up (suc k) h = higher_is most small (highest_in t level q (suc k)) (number (suc k)) (free (mark (suc k))) (coded (suc k) h) ∙ ap (max (or_zero (free (mark (suc k))))) (highest_up k (omega arith))

      highest_most : (k : ℕ) → k ≤ level + 1 → highest_in t level q k ≤ most
      unfolding highest_in
      highest_most zero h = omega arith
      highest_most (suc k) h = higher_most most small (highest_in t level q k) (number k) (free (mark k)) (coded k (omega arith)) (highest_most k (omega arith))

      abbrev top : ℕ
      top = highest_in t level q (level + 1)

      -- the lane's highest number is the highest that its part's estimate has
      top_is : top ≡ top_of job shares level q held
      top_is = ap (highest_in t level q) (add-one level) ∙ highest_up level (omega arith)

      module _ (w : List ℕ) (fr : FreeRows t level w (level + 1)) where
        fronts_up : (k : ℕ) → k ≤ level → solid (marks_in (last_change_lem held.part) (positions job) w q (suc k)) ≡ marks_of (free_up_to free mark top k)
        unfolding marks_in solid free_up_to
        fronts_up k h = go k h
          where
            first : ℤ
            first = last_change_lem held.part

            one : (k : ℕ) → k ≤ level → (ss : List Source) → solid (marks_in first (positions job) w q k) ≡ marks_of ss → solid (marks_in first (positions job) w q (suc k)) ≡ marks_of (with_mark top (mark k) (free (mark k)) ss)
            one k h ss e =
                (λ i. solid_then (mark (fr.marks k (omega arith) i)) (value_of (fr.rows k q (omega arith) l i)) (solid (marks_in first (positions job) w q k)))
                ∙ front_one most small top (number k) (free (mark k)) (coded k h) (highest_most (level + 1) (omega arith)) (mark k) (marks_in first (positions job) w q k) ss e

            go : (k : ℕ) → k ≤ level → solid (marks_in first (positions job) w q (suc k)) ≡ marks_of (free_up_to free mark top k)
            go zero h = one zero h [] refl
            go (suc k) h = one (suc k) h (free_up_to free mark top k) (go k (omega arith))

        rows_level : (k : ℕ) → k < level + 1 → Level (row_most level) (get_or w (row_place k q) 0)
        rows_level k h =
            subst (Level (row_most level)) (sym (fr.rows k q h l))
            (lacks_level most small top (number k) (row_most level) (free (mark k)) (coded k (omega arith)) (highest_most (level + 1) (omega arith)) (omega (arith, long, so.tables.few)))

    -- the rows of the free sources are what the walk from them begins with
    pub free_ready : (w : List ℕ) → FreeRows t level w (level + 1) → Ready job shares course level t x lifts w
    free_ready w fr =
        record {
          solvable = so;
          idle = free_idle;
          begins = refl;
          inside = fits;
          lift = ok;
          rows = stacked_sources job shares course (blocks_at job course []) w (level + 1) (bare_long job course) fr.size (omega arith) (omega arith) (λ k h. omega (arith, fr.marks k h)) (λ k q h g. rows_level q g w fr k h)
              (λ q l. ap (λ (k : ℕ). solid (marks_in (last_change_lem (held q l).part) (positions job) w q k)) (add-one level) ∙ fronts_up q l w fr level (omega arith) ∙ ap (λ (v : ℕ). marks_of (free_up_to (free q l) (mark q l) v level)) (top_is q l));
          memo = fr.memo so.tables.wide;
        }

    -- ---- the tops

    abbrev tops_by : ℕ → ℕ
    tops_by q = highest_in t level q (level + 1)

    tops_part : (i : ℕ) (hs : List Held) → i + length hs ≤ lane_count_lem → ((j : ℕ) → j < length hs → lane_at lanes (i + j) ≡ get_or hs j no_held) → tops_from job shares level i hs ≡ sum_from tops_by i (length hs)
    unfolding tops_from sum_from
    tops_part i [] h e = refl
    tops_part i (held ∷ hs) h e =
        let z : i + 0 ≡ i = omega arith in
        let g : lane_at lanes i ≡ held = ap (lane_at lanes) (sym z) ∙ e 0 (omega arith) in
        ap₂ (λ (a b : ℕ). a + b) (ap (top_of job shares level i) (sym g) ∙ sym (top_is i (omega arith)))
        (tops_part (suc i) hs (omega arith) (λ j l. let y : suc i + j ≡ i + suc j = omega arith in ap (lane_at lanes) y ∙ e (suc j) (omega arith)))

    sum_more : (f : ℕ → ℕ) (q a b : ℕ) → a ≤ b → sum_from f q a ≤ sum_from f q b
    unfolding sum_from
    sum_more f q zero b h = omega arith
    sum_more f q (suc a) zero h = absurd (omega arith)
    sum_more f q (suc a) (suc b) h = omega (arith, sum_more f (suc q) a b (omega arith))

    -- the sum of the lanes' highest numbers is no less than the tops
    pub tops_least : tops job shares level ≤ sum_lanes lane_count_lem tops_by
    tops_least =
        let la = so.lanes_are in
        omega (
          arith,
          tops_part 0 (held_parts job) (omega (arith, la.few)) (λ j l. let z : 0 + j ≡ j = omega arith in ap (lane_at lanes) z ∙ la.real j l),
          sum_more tops_by 0 (length (held_parts job)) lane_count_lem la.few,
        )
