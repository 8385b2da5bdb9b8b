-- What comes out at an opening: a part comes out exactly if one changed there brings it out; and a part that holds nobody exactly if it is changed there itself.
use mathlib.Core.Path.{◌≡◌, sym, subst, ◌∙◌}
use mathlib.Core.Bool.{Bool, true, false, ◌&&◌, and-eq-true_iff, false≢true}
use mathlib.Core.List.{List, [], ◌∷◌}
use mathlib.Core.Logic.{⊎_elim}
use Prim.Native.Nat.{ℕ, zero, suc, ◌<◌}
use native.Mathlib.Omega.{arith}
use lib.ListN.{length, get_or, drop, replicate}
use Rattle.model.specs.Model.{Job, table, comes_out, holding, holds_one, out_by, out_at}
use Rattle.base.proofs.Bools.{after_one, inside, or_cases, or_left, or_right, same_test}
use Rattle.model.proofs.Lists.{table-length, table_at, table_yes}
use Rattle.model.proofs.Closure.{out_length, comes_itself, comes_only}

by_one : (outs cs : List (List Bool)) (k j : ℕ) → out_by outs cs k j ≡ true
    → (i : ℕ) × (i < length outs) × (get_or (get_or cs i []) k false ≡ true) × (get_or (get_or outs i []) j false ≡ true)
unfolding out_by
by_one [] cs k j e = absurd (false≢true e)
by_one (out ∷ outs) cs k j e = ⊎_elim
    (λ a. let b = (and-eq-true_iff (get_or (get_or cs 0 []) k false) (get_or out j false)).0 a in (0, omega arith, b.0, b.1))
    (λ a. let r = by_one outs (drop 1 cs) k j a in
    (suc r.0, omega (arith, r.1), subst (λ (c : List Bool). get_or c k false ≡ true) (after_one cs r.0 []) r.2, r.3))
    (or_cases (get_or (get_or cs 0 []) k false && get_or out j false) (out_by outs (drop 1 cs) k j) e)

one_by : (outs cs : List (List Bool)) (k j i : ℕ) → i < length outs → get_or (get_or cs i []) k false ≡ true → get_or (get_or outs i []) j false ≡ true → out_by outs cs k j ≡ true
unfolding out_by
one_by [] cs k j i l e f = absurd (omega arith)
one_by (out ∷ outs) cs k j zero l e f =
    or_left (get_or (get_or cs 0 []) k false && get_or out j false) (out_by outs (drop 1 cs) k j) ((and-eq-true_iff (get_or (get_or cs 0 []) k false) (get_or out j false)).1 (e, f))
one_by (out ∷ outs) cs k j (suc i) l e f =
    or_right (get_or (get_or cs 0 []) k false && get_or out j false) (out_by outs (drop 1 cs) k j)
    (one_by outs (drop 1 cs) k j i (omega arith) (subst (λ (c : List Bool). get_or c k false ≡ true) (sym (after_one cs i [])) e) f)

module _ (job : Job) where
  abbrev size : ℕ
  size = length job.parts

  abbrev outs : List (List Bool)
  outs = table (comes_out job) size

  -- the set of parts that are somebody's holder is over all parts of the job
  pub holding-length : length (holding job) ≡ size
  unfolding holding
  holding-length = table-length (λ j. holds_one job.parts (replicate size true) (suc j)) size

  module _ (cs : List (List Bool)) (k : ℕ) where
    -- what comes out at an opening is a set over all parts of the job
    pub outs_length : length (out_at job cs k) ≡ size
    outs_length = table-length (out_by outs cs k) size

    -- a part that comes out at an opening comes out with some part that is changed there
    pub brought : (j : ℕ) → get_or (out_at job cs k) j false ≡ true → (i : ℕ) × (i < size) × (get_or (get_or cs i []) k false ≡ true) × (get_or (comes_out job i) j false ≡ true)
    brought j e =
        let t = table_yes (out_by outs cs k) size j e in
        let r = by_one outs cs k j t.1 in
        let l : r.0 < size = omega (arith, r.1, table-length (comes_out job) size) in
        (r.0, l, r.2, subst (λ (o : List Bool). get_or o j false ≡ true) (table_at (comes_out job) size r.0 [] l) r.3)

    pub brings : (i j : ℕ) → i < size → get_or (get_or cs i []) k false ≡ true → get_or (comes_out job i) j false ≡ true → get_or (out_at job cs k) j false ≡ true
    brings i j l e f =
        let j-in : j < size = omega (arith, inside (comes_out job i) j f, out_length job i) in
        table_at (out_by outs cs k) size j false j-in
        ∙ one_by outs cs k j i (omega (arith, table-length (comes_out job) size)) e (subst (λ (o : List Bool). get_or o j false ≡ true) (sym (table_at (comes_out job) size i [] l)) f)

    -- a part that holds nobody
    pub alone : (j : ℕ) → j < size → get_or (holding job) j false ≡ false → get_or (out_at job cs k) j false ≡ get_or (get_or cs j []) k false
    alone j l h =
        same_test (get_or (out_at job cs k) j false) (get_or (get_or cs j []) k false)
        (λ e. let r = brought j e in subst (λ (i : ℕ). get_or (get_or cs i []) k false ≡ true) (comes_only job r.0 j r.1 r.3 h) r.2)
        (λ e. brings j j l e (comes_itself job j l))
