-- What is paid for removals at an opening, and how much it can be.
use Prim.Native.Nat.{ℕ, zero, suc, ◌*◌, ◌≤◌, ◌<◌}
use mathlib.Core.Path.{◌≡◌, sym, ap, ap₂, ◌∙◌}
use mathlib.Core.Bool.{Bool, true, false, ◌||◌, ◌&&◌, false≢true}
use mathlib.Core.List.{List, [], ◌∷◌, map}
use native.Mathlib.Omega.{arith}
use native.Mathlib.Nat.{mul-suc}
use lib.ListN.{length, get_or, take, replicate, length-map, get_or-replicate}
use lib.Seq.{get_or-take}
use Rattle.model.specs.Limits.{most_parts}
use Rattle.model.specs.Model.{Job, table, comes_out, out_by, out_at, removal_of_lem, sum_at, sum, removals_of_lem}
use Rattle.model.proofs.Offers.{sum_none}
use Rattle.model.proofs.Lists.{table-length, table_at, table_same}
use Rattle.jobs.specs.Views.{changes_of}
use Rattle.jobs.specs.declared.Changes.{Changes}
use Rattle.base.proofs.Lists.{firsts_at}
use Rattle.coming_out.specs.Rows.{place, Row, Rows, some, union, Removals}
use Rattle.coming_out.proofs.Some.{some_same, out_some}
use Rattle.coming_out.proofs.Rows.{row-take}
use Rattle.jobs.specs.Views.{blank_changes}
use Rattle.plan_costs.specs.Dearest.{Cheap, dearest_stop}
use Rattle.plan_costs.proofs.Sums.{sum_most}
use Rattle.base.proofs.Bools.{blank}

module _ (job : Job) (m n : ℕ) (changes : List Changes) where
  abbrev outs : List (List Bool)
  outs = table (comes_out job) (length job.parts)

  -- the removals at opening k
  abbrev pub paid_at : ℕ → ℕ
  paid_at k = sum_at (map removal_of_lem job.parts) (out_at job (changes_of n m changes) k)

  -- the parts changed at opening k
  abbrev pub changed_at_lem : ℕ → ℕ → Bool
  changed_at_lem k i = get_or (get_or changes i blank_changes).at k false

  module _ (parts : length job.parts ≡ m) (few : m ≤ most_parts) (long : m ≤ length changes) (matrix : List Bool) (rows : Rows m (comes_out job) matrix) where
    -- those that stand in the row of one changed there come out there
    union_out : (k : ℕ) (changed : List Bool) → k < n → Row false (table (changed_at_lem k) most_parts) changed → union m matrix (replicate most_parts false) changed ≡ out_at job (changes_of n m changes) k
    union_out k changed h r = table_same _ _ m at ∙ ap (table (out_by outs (changes_of n m changes) k)) (sym parts)
      where
        set_is : (i : ℕ) → i < m → get_or changed i false ≡ get_or (get_or (changes_of n m changes) i []) k false
        set_is i l =
            r.at i
            ∙ table_at (changed_at_lem k) most_parts i false (omega (arith, l, few))
            ∙ sym (get_or-take n (get_or changes i blank_changes).at k false h)
            ∙ ap (λ (c : List Bool). get_or c k false) (sym (firsts_at (λ (c : Changes). take n c.at) changes m long i blank_changes [] l))

        row_is : (i j : ℕ) → i < m → j < m → get_or matrix (place i j) false ≡ get_or (get_or outs i []) j false
        row_is i j l g = rows.at i j l (omega (arith, g, few)) ∙ ap (λ (o : List Bool). get_or o j false) (sym (table_at (comes_out job) (length job.parts) i [] (omega (arith, l, parts))))

        at : (j : ℕ) → j < m → (get_or (replicate most_parts false) j false || some m (λ i. get_or changed i false && get_or matrix (place i j) false)) ≡ out_by outs (changes_of n m changes) k j
        at j g =
            ap (λ (b : Bool). b || some m (λ i. get_or changed i false && get_or matrix (place i j) false)) (blank false most_parts j)
            ∙ some_same m _ _ (λ i l. ap₂ ◌&&◌ (set_is i l) (row_is i j l g))
            ∙ ap (λ (x : ℕ). some x (λ i. get_or (get_or (changes_of n m changes) i []) k false && get_or (get_or outs i []) j false)) (sym (table-length (comes_out job) (length job.parts) ∙ parts))
            ∙ sym (out_some outs (changes_of n m changes) k j)

    -- what is paid there
    pub paid_is : (k : ℕ) (changed out : List Bool) (removals : List ℕ) → k < n → Row false (table (changed_at_lem k) most_parts) changed → Row false (union m matrix (replicate most_parts false) changed) out → Removals job removals
        → sum_at (take m removals) (take m out) ≡ paid_at k
    paid_is k changed out removals h r o s =
        ap₂ sum_at (row-take 0 (map removal_of_lem job.parts) removals m (length-map job.parts removal_of_lem ∙ parts) few s)
        (row-take false (union m matrix (replicate most_parts false) changed) out m (table-length _ m) few o ∙ union_out k changed h r)

-- ---- how much

sum_within : (most n from : ℕ) (f : ℕ → ℕ) → ((t : ℕ) → f t ≤ most) → sum from n f ≤ most * n
unfolding sum
sum_within most zero from f h = omega arith
sum_within most (suc n) from f h = omega (arith, h from, sum_within most n (suc from) f h, mul-suc most n)

-- at one opening
pub stop_most : (ns : List ℕ) (cs : List Bool) → length ns ≤ most_parts → Cheap ns → sum_at ns cs ≤ dearest_stop
stop_most ns cs h c = omega (arith, h, sum_most ns cs c)

-- at all
pub removals_most : (job : Job) (cs : List (List Bool)) → length job.parts ≤ most_parts → Cheap (map removal_of_lem job.parts) → removals_of_lem job cs ≤ dearest_stop * length job.openings
removals_most job cs few cheap =
    sum_within dearest_stop (length job.openings) 0 (λ k. sum_at (map removal_of_lem job.parts) (out_at job cs k))
    (λ k. stop_most (map removal_of_lem job.parts) (out_at job cs k) (omega (arith, few, length-map job.parts removal_of_lem)) cheap)

-- no set has more than all
all_most : (ns : List ℕ) (cs all : List Bool) → ((j : ℕ) → j < length ns → get_or all j false ≡ true) → sum_at ns cs ≤ sum_at ns all
unfolding sum_at
all_most [] cs all h = omega (arith, sum_none cs)
all_most (n ∷ ns) [] all h = omega arith
all_most (n ∷ ns) (c ∷ cs) [] h = absurd (false≢true (h 0 (omega arith)))
all_most (n ∷ ns) (c ∷ cs) (false ∷ all) h = absurd (false≢true (h 0 (omega arith)))
all_most (n ∷ ns) (false ∷ cs) (true ∷ all) h = omega (arith, all_most ns cs all (λ j l. h (suc j) (omega arith)))
all_most (n ∷ ns) (true ∷ cs) (true ∷ all) h = omega (arith, all_most ns cs all (λ j l. h (suc j) (omega arith)))

-- where all removals sum up to 0 nothing is paid
pub nothing_paid : (job : Job) (cs : List (List Bool)) (m : ℕ) (removals : List ℕ) → length job.parts ≡ m → m ≤ most_parts → Removals job removals
    → sum_at (take m removals) (take m (replicate most_parts true)) ≡ 0 → removals_of_lem job cs ≡ 0
nothing_paid job cs m removals e few r none =
    let ns = map removal_of_lem job.parts in
    let size : length ns ≡ m = length-map job.parts removal_of_lem ∙ e in
    let free : sum_at ns (take m (replicate most_parts true)) ≡ 0 = ap (λ (xs : List ℕ). sum_at xs (take m (replicate most_parts true))) (sym (row-take 0 ns removals m size few r)) ∙ none in
    omega (
      arith,
      sum_within 0 (length job.openings) 0 (λ k. sum_at ns (out_at job cs k))
          (λ k. omega (
            arith,
            free,
            all_most ns (out_at job cs k) (take m (replicate most_parts true))
                (λ j l. get_or-take m (replicate most_parts true) j false (omega (arith, l, size)) ∙ get_or-replicate most_parts j true false (omega (arith, l, size, few))),
          )),
    )
