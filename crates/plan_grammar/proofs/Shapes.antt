-- The plan that visits make is a plan of the job (`made_shaped`), and so is the one that an accepted text states (`shaped`). By index.
use Prim.Native.Nat.{ℕ, ◌+◌, ◌<◌}
use mathlib.Core.Path.{◌≡◌, refl, sym, ap, ◌∙◌, subst}
use mathlib.Core.List.{List, [], ◌∷◌}
use mathlib.Core.Bool.{Bool, true, false, ◌&&◌, ◌||◌, or-true, and-eq-true_iff}
use native.Mathlib.Omega.{arith}
use lib.Dec.{eqb}
use lib.ListN.{length, get_or, length-map}
use Rattle.lines.specs.Parser.{accepted}
use Rattle.model.specs.Model.{Opening, Job, listed}
use Rattle.model.specs.Verdict.{Shaped}
use Rattle.base.proofs.Bools.{inside}
use Rattle.plan_grammar.specs.Grammar.{Visit, Stated, any, visited, changed, table, openings_at, plan_of, read_plan_lem}
use Rattle.plan_grammar.specs.Rendering.{step_at}
use Rattle.plan_grammar.proofs.Lists.{table-length, table_at}
use Rattle.plan_grammar.proofs.Steps.{openings-table}
use Rattle.plan_grammar.proofs.Accepted.{valid}

-- a test that implies another
any_weaker : {A : Type 0} (p q : A → Bool) → ((x : A) → p x ≡ true → q x ≡ true) → (xs : List A) → any p xs ≡ true → any q xs ≡ true
unfolding any
any_weaker p q h [] e = e
any_weaker p q h (x ∷ xs) e = go (p x) refl (any_weaker p q h xs)
  where
    go : (b : Bool) → p x ≡ b → (any p xs ≡ true → any q xs ≡ true) → (q x || any q xs) ≡ true
    go true f rest = rw (h x f)
    go false f rest = rw (rest (rw (any, f) at e)) (or-true (q x))

-- the mark of opening i is the test's answer at its step
pub openings_at_lem : (job : Job) (test : ℕ → Bool) (i : ℕ) → i < length job.openings → get_or (openings_at job test) i false ≡ test (step_at job i)
openings_at_lem job test i h =
    ap (λ (xs : List Bool). get_or xs i false) (openings-table job test)
    ∙ table_at (λ j. test (step_at job j)) (length job.openings) i false h

-- the plan that some visits make has the job's shape
pub made_shaped : (job : Job) (vs : List Visit) → Shaped job (plan_of job vs)
unfolding plan_of
made_shaped job vs = record {
  stops = length-map job.openings (λ (o : Opening). visited vs o.step);
  parts = table-length row m;
  sizes = λ k h. ap length (table_at row m k [] h) ∙ length-map job.openings (λ (o : Opening). changed vs (k + 1) o.step);
  at_stops = at_stops;
}
  where
    m : ℕ
    m = length job.parts

    row : ℕ → List Bool
    row k = openings_at job (changed vs (k + 1))

    at_stops : (k i : ℕ) → k < m → get_or (get_or (table row m) k []) i false ≡ true → get_or (openings_at job (visited vs)) i false ≡ true
    at_stops k i k< e =
        let f : get_or (row k) i false ≡ true = sym (ap (λ (r : List Bool). get_or r i false) (table_at row m k [] k<)) ∙ e in
        let i< : i < length job.openings = omega (arith, inside (row k) i f, length-map job.openings (λ (o : Opening). changed vs (k + 1) o.step)) in
        openings_at_lem job (visited vs) i i<
        ∙ any_weaker (λ (v : Visit). eqb v.step (step_at job i) && listed v.parts (k + 1)) (λ (v : Visit). eqb v.step (step_at job i)) (λ v g. ((and-eq-true_iff (eqb v.step (step_at job i)) (listed v.parts (k + 1))).0 g).0) vs
        (sym (openings_at_lem job (changed vs (k + 1)) i i<) ∙ f)

-- the plan of an accepted text has the job's shape
pub shaped : (job : Job) (s : List ℕ) (stated : Stated) → read_plan_lem job s ≡ accepted stated → Shaped job stated.plan
shaped job s stated e = let v = valid job s stated e in subst (Shaped job) v.makes (made_shaped job v.vs)
