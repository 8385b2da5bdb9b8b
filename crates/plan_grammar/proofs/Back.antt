-- Visits and plans are two ways to write the same: the visits of the plan that valid visits make are those visits (`visits_back`),
-- and the plan that a plan's visits make is that plan (`plan_back`). By index, from the openings' rising steps.
use Prim.Native.Nat.{ℕ, zero, suc, ◌+◌, ◌-◌, ◌≤◌, ◌<◌}
use mathlib.Core.Path.{◌≡◌, refl, sym, ap, ap₂, ◌∙◌}
use mathlib.Core.List.{List, [], ◌∷◌, ◌++◌}
use mathlib.Core.Bool.{Bool, true, false, cond, ◌&&◌, ◌||◌, or-false, and-true, and-false}
use mathlib.Core.Logic.{⊎_elim}
use native.Mathlib.Nat.{eq-or-lt_of_le, le_of_suc-le-suc}
use native.Mathlib.Decide.{dec_lt}
use native.Mathlib.Omega.{arith}
use borrow.Author.Tests.{eq-eqb, ne_eqb, eqb-true}
use lib.Dec.{eqb}
use lib.ListN.{length, get_or}
use Rattle.base.specs.Joined.{joined}
use Rattle.base.specs.Each.{Chained, All}
use Rattle.model.specs.Model.{Opening, Job, Plan, listed}
use Rattle.model.specs.Windows.{open_at}
use Rattle.model.specs.Verdict.{Shaped}
use Rattle.jobs.specs.Valid.{ValidJob}
use Rattle.plan_grammar.specs.Grammar.{Visit, any, visited, changed, table, openings_at, plan_of}
use Rattle.base.specs.Chosen.{chosen}
use Rattle.plan_grammar.specs.Rendering.{is_changed_lem, parts_at, step_at, visit_at, visits_of}
use Rattle.base.proofs.Chosen.{chosen_front}
use Rattle.plan_grammar.proofs.Lists.{any_append, any_index, table_at, table_is, listed_any}
use Rattle.plan_grammar.proofs.Steps.{openings-table}
use Rattle.plan_grammar.proofs.Valid.{ValidPart, ValidParts, ValidVisit, ValidVisits, step_of}
use Rattle.plan_grammar.proofs.Shapes.{openings_at_lem, made_shaped}
use Rattle.plan_grammar.proofs.Steps.{no_opening, step_is, open_any, step_rises}

-- ---- a rising list is what the test for its members chooses

module _ {A : Type 0} (key : A → ℕ) where
  -- x is one of f 0, .. f (n - 1), and later than the one before
  pub record Found (f : ℕ → A) (n before : ℕ) (x : A) : Type 0 where
    -- the member's key is above that of the one before it
    pub later : before < key x
    -- the place at which f has the member x
    pub i : ℕ
    -- the place is one of the first n, at which f is looked at
    pub inside : i < n
    pub is : f i ≡ x

  -- x is in the list
  abbrev has : List A → ℕ → Bool
  has xs k = any (λ (x : A). eqb (key x) k) xs

  none_before : (f : ℕ → A) (n before k : ℕ) (xs : List A) → k ≤ before → Chained (Found f n) (λ _. key) before xs → has xs k ≡ false
  unfolding any
  none_before f n before k [] h c = refl
  none_before f n before k (x ∷ xs) h c = rw (any, ne_eqb (key x) k (λ e. omega (arith, c.0.later))) (none_before f n (key x) k xs (omega (arith, c.0.later)) c.1)

  -- f 0 is not among those behind it
  shifted : (f : ℕ → A) (n before : ℕ) (xs : List A) → key (f 0) ≤ before → Chained (Found f (suc n)) (λ _. key) before xs → Chained (Found (λ i. f (suc i)) n) (λ _. key) before xs
  shifted f n before [] h c = tt
  shifted f n before (x ∷ xs) h c = (go c.0.i c.0.inside c.0.is, shifted f n (key x) xs (omega (arith, c.0.later)) c.1)
    where
      go : (i : ℕ) → i < suc n → f i ≡ x → Found (λ i. f (suc i)) n before x
      go zero l e = absurd (omega (arith, c.0.later, ap key e))
      go (suc i) l e = record { later = c.0.later; i = i; inside = omega arith; is = e }

  -- a rising list of values of f is what the test for its members chooses of them
  pub chosen_is : (n : ℕ) (test : ℕ → Bool) (f : ℕ → A) (before : ℕ) (xs : List A)
      → ((i j : ℕ) → i < j → j < n → key (f i) < key (f j)) → Chained (Found f n) (λ _. key) before xs
      → ((i : ℕ) → i < n → test i ≡ has xs (key (f i))) → chosen test f n ≡ xs
  unfolding chosen joined any
  chosen_is zero test f before [] rise c t = refl
  chosen_is zero test f before (x ∷ xs) rise c t = absurd (omega (arith, c.0.inside))
  chosen_is (suc n) test f before [] rise c t =
      chosen_front test f n
      ∙ ap₂ (λ (b : Bool) (ys : List A). cond b (f 0 ∷ []) [] ++ ys) (t 0 (omega arith))
      (chosen_is n (λ i. test (suc i)) (λ i. f (suc i)) before [] (λ i j k l. rise (suc i) (suc j) (omega arith) (omega arith)) tt (λ i h. t (suc i) (omega arith)))
  chosen_is (suc n) test f before (x ∷ xs) rise c t = go c.0.i c.0.inside c.0.is
      (chosen_is n (λ i. test (suc i)) (λ i. f (suc i)))
    where
      rise' : (i j : ℕ) → i < j → j < n → key (f (suc i)) < key (f (suc j))
      rise' i j k l = rise (suc i) (suc j) (omega arith) (omega arith)

      go : (i : ℕ) → i < suc n → f i ≡ x
          → ((before : ℕ) (ys : List A) → ((i j : ℕ) → i < j → j < n → key (f (suc i)) < key (f (suc j))) → Chained (Found (λ i. f (suc i)) n) (λ _. key) before ys
          → ((i : ℕ) → i < n → test (suc i) ≡ has ys (key (f (suc i)))) → chosen (λ i. test (suc i)) (λ i. f (suc i)) n ≡ ys)
          → chosen test f (suc n) ≡ x ∷ xs
      go zero l e rec =
          let here : test 0 ≡ true = t 0 (omega arith) ∙ rw (any, eq-eqb (key x) (key (f 0)) (ap key (sym e))) in
          chosen_front test f n ∙ ap₂ (λ (b : Bool) (ys : List A). cond b (f 0 ∷ []) [] ++ ys) here
          (rec (key x) xs rise' (shifted f n (key x) xs (omega (arith, ap key e)) c.1)
          (λ i h. t (suc i) (omega arith) ∙ rw (any, ne_eqb (key x) (key (f (suc i))) (λ q. omega (arith, ap key e, rise 0 (suc i) (omega arith) (omega arith))))))
          ∙ ap (λ (y : A). y ∷ xs) e
      go (suc i) l e rec =
          let low : key (f 0) < key x = omega (arith, ap key e, rise 0 (suc i) (omega arith) l) in
          let here : test 0 ≡ false = t 0 (omega arith) ∙ rw (any, ne_eqb (key x) (key (f 0)) (λ q. omega arith)) (none_before f (suc n) (key x) (key (f 0)) xs (omega arith) c.1) in
          chosen_front test f n ∙ ap₂ (λ (b : Bool) (ys : List A). cond b (f 0 ∷ []) [] ++ ys) here
          (rec (key (f 0)) (x ∷ xs) rise' (record { later = low; i = i; inside = omega arith; is = e }, shifted f n (key x) xs (omega arith) c.1)
          (λ j h. t (suc j) (omega arith)))

-- ---- the visits of the plan that visits make

-- rising parts are what the test for them chooses
parts_back : (m : ℕ) (test : ℕ → Bool) (ks : List ℕ) → ValidParts m ks → ((k : ℕ) → k < m → test k ≡ listed ks (k + 1)) → chosen test (λ k. k + 1) m ≡ ks
parts_back m test ks v t = chosen_is (λ (k : ℕ). k) m test (λ k. k + 1) 0 ks (λ i j h l. omega arith) (found 0 ks v) (λ k l. t k l ∙ listed_any ks (k + 1))
  where
    found : (before : ℕ) (ks : List ℕ) → Chained (ValidPart m) (λ _ k. k) before ks → Chained (Found (λ (k : ℕ). k) (λ k. k + 1) m) (λ _ k. k) before ks
    found before [] c = tt
    found before (k ∷ ks) c = (record { later = c.0.0; i = k - 1; inside = omega (arith, c.0); is = omega (arith, c.0) }, found k ks c.1)

-- no part is changed at a step before all visits
changed_none : (job : Job) (before t k : ℕ) (vs : List Visit) → t ≤ before → Chained (ValidVisit job) (λ _. step_of) before vs → changed vs k t ≡ false
unfolding any
changed_none job before t k [] h c = refl
changed_none job before t k (v ∷ vs) h c =
    rw (any, ne_eqb v.step t (λ e. omega (arith, c.0.later))) (changed_none job v.step t k vs (omega (arith, c.0.later)) c.1)

-- the parts changed at a visit's step are the visit's
Own : List Visit → Visit → Type 0
Own vs v = (k : ℕ) → changed vs k v.step ≡ listed v.parts k

own_visits : (job : Job) (before : ℕ) (vs : List Visit) → Chained (ValidVisit job) (λ _. step_of) before vs → All (Own vs) vs
unfolding Own any
own_visits job before [] c = tt
own_visits job before (v ∷ vs) c = (
  λ k. rw (any, eq-eqb v.step v.step refl, changed_none job v.step v.step k vs (omega arith) c.1) (or-false (listed v.parts k)),
  behind v.step vs vs (omega arith) c.1 (own_visits job v.step vs c.1),
)
  where
    behind : (before : ℕ) (us ws : List Visit) → v.step ≤ before → Chained (ValidVisit job) (λ _. step_of) before us → All (Own ws) us → All (Own (v ∷ ws)) us
    behind before [] ws h c a = tt
    behind before (u ∷ us) ws h c a =
        (λ k. rw (any, ne_eqb v.step u.step (λ e. omega (arith, c.0.later))) (a.0 k), behind u.step us ws (omega (arith, c.0.later)) c.1 a.1)

-- an opening at a step
opening_at_lem : (job : Job) (t : ℕ) → open_at job t ≡ true → (i : ℕ) × (i < length job.openings) × (step_at job i ≡ t)
opening_at_lem job t e =
    let r = any_index (λ (o : Opening). eqb o.step t) job.openings no_opening (sym (open_any job.openings t) ∙ e) in
    (r.0, r.1, step_is job r.0 ∙ eqb-true _ t r.2)

-- what the made plan says of opening i and part k + 1
made_at : (job : Job) (vs : List Visit) (i k : ℕ) → i < length job.openings → k < length job.parts → is_changed_lem (plan_of job vs) i k ≡ changed vs (k + 1) (step_at job i)
unfolding plan_of
made_at job vs i k h l =
    ap (λ (r : List Bool). get_or r i false) (table_at (λ k. openings_at job (changed vs (k + 1))) (length job.parts) k [] l)
    ∙ openings_at_lem job (changed vs (k + 1)) i h

-- the visit at a visit's step is that visit
visit_back : (job : Job) (vs : List Visit) (v : Visit) (i : ℕ) → i < length job.openings → step_at job i ≡ v.step → ValidParts (length job.parts) v.parts → Own vs v
    → visit_at job (plan_of job vs) i ≡ v
unfolding Own
visit_back job vs v i h e ok own = λ j. record { step = e j; parts = parts j }
  where
    parts : parts_at (plan_of job vs) i ≡ v.parts
    parts =
        ap (chosen (is_changed_lem (plan_of job vs) i) (λ k. k + 1)) (made_shaped job vs).parts
        ∙ parts_back (length job.parts) (is_changed_lem (plan_of job vs) i) v.parts ok (λ k l. made_at job vs i k h l ∙ ap (changed vs (k + 1)) e ∙ own (k + 1))

visits_found : (job : Job) (vs : List Visit) (before : ℕ) (us : List Visit) → Chained (ValidVisit job) (λ _. step_of) before us → All (Own vs) us
    → Chained (Found step_of (visit_at job (plan_of job vs)) (length job.openings)) (λ _. step_of) before us
visits_found job vs before [] c a = tt
visits_found job vs before (u ∷ us) c a =
    let o = opening_at_lem job u.step c.0.opening in (
      record { later = c.0.later; i = o.0; inside = o.1; is = visit_back job vs u o.0 o.1 o.2 c.0.parts a.0 },
      visits_found job vs u.step us c.1 a.1,
    )

-- the visits of the plan that some visits make are these visits
pub visits_back : (job : Job) → ValidJob job → (vs : List Visit) → ValidVisits job vs → visits_of job (plan_of job vs) ≡ vs
unfolding visits_of plan_of
visits_back job ok vs v =
    chosen_is step_of (length job.openings) _ (visit_at job (plan_of job vs)) 0 vs (step_rises job ok)
    (visits_found job vs 0 vs v.each (own_visits job 0 vs v.each))
    (λ i h. openings_at_lem job (visited vs) i h)

-- ---- the plan that a plan's visits make

-- of what is chosen, at most f i passes
cond-any : {A : Type 0} (p : A → Bool) (b : Bool) (x : A) → any p (cond b (x ∷ []) []) ≡ (b && p x)
unfolding any
cond-any p true x = or-false (p x)
cond-any p false x = refl

any_no : {A : Type 0} (p : A → Bool) (test : ℕ → Bool) (f : ℕ → A) (n : ℕ) → ((j : ℕ) → j < n → p (f j) ≡ false) → any p (chosen test f n) ≡ false
unfolding chosen joined any
any_no p test f zero h = refl
any_no p test f (suc n) h =
    any_append p (chosen test f n) (cond (test n) (f n ∷ []) [])
    ∙ ap₂ ◌||◌ (any_no p test f n (λ j l. h j (omega arith))) (cond-any p (test n) (f n) ∙ ap (λ (b : Bool). test n && b) (h n (omega arith)) ∙ and-false (test n))

any_one : {A : Type 0} (p : A → Bool) (test : ℕ → Bool) (f : ℕ → A) (n i : ℕ) → i < n → ((j : ℕ) → j < n → (j ≡ i → ⊥) → p (f j) ≡ false) → any p (chosen test f n) ≡ (test i && p (f i))
unfolding chosen joined
any_one p test f zero i h o = absurd (omega arith)
any_one p test f (suc n) i h o =
    any_append p (chosen test f n) (cond (test n) (f n ∷ []) [])
    ∙ ap (λ (b : Bool). any p (chosen test f n) || b) (cond-any p (test n) (f n))
    ∙ ⊎_elim
    (λ (e : i ≡ n). ap (λ (b : Bool). b || (test n && p (f n))) (any_no p test f n (λ j l. o j (omega arith) (λ q. omega arith))) ∙ ap (λ (j : ℕ). test j && p (f j)) (sym e))
    (λ (l : i < n).
    ap₂ ◌||◌ (any_one p test f n i l (λ j k q. o j (omega arith) q)) (ap (λ (b : Bool). test n && b) (o n (omega arith) (λ q. omega arith)) ∙ and-false (test n))
    ∙ or-false (test i && p (f i)))
    (eq-or-lt_of_le (le_of_suc-le-suc h))

module _ (job : Job) (ok : ValidJob job) (plan : Plan) (shape : Shaped job plan) where
  -- openings differ in their steps
  step_differs : (i j : ℕ) → i < length job.openings → j < length job.openings → (j ≡ i → ⊥) → eqb (step_at job j) (step_at job i) ≡ false
  step_differs i j h l d = ne_eqb (step_at job j) (step_at job i) (λ e. go e (dec_lt i j))
    where
      go : step_at job j ≡ step_at job i → Dec (i < j) → ⊥
      go e (yes k) = omega (arith, step_rises job ok i j k l)
      go e (no k) = let m : j < i = omega (arith, k, d) in omega (arith, step_rises job ok j i m h)

  -- at opening i a stop is made if the plan makes one
  stop_back : (i : ℕ) → i < length job.openings → visited (visits_of job plan) (step_at job i) ≡ get_or plan.stops i false
  unfolding visits_of
  stop_back i h =
      any_one (λ (v : Visit). eqb v.step (step_at job i)) (λ j. get_or plan.stops j false) (visit_at job plan) (length job.openings) i h (λ j l d. step_differs i j h l d)
      ∙ ap (λ (b : Bool). get_or plan.stops i false && b) (eq-eqb (step_at job i) (step_at job i) refl)
      ∙ and-true (get_or plan.stops i false)

  -- part k + 1 is among the parts changed there if the plan changes it
  part_back : (i k : ℕ) → k < length job.parts → listed (parts_at plan i) (k + 1) ≡ is_changed_lem plan i k
  part_back i k h =
      listed_any (parts_at plan i) (k + 1)
      ∙ any_one (λ (j : ℕ). eqb j (k + 1)) (is_changed_lem plan i) (λ j. j + 1) (length plan.changes) k (omega (arith, shape.parts)) (λ j l d. ne_eqb (j + 1) (k + 1) (λ e. d (omega arith)))
      ∙ ap (λ (b : Bool). is_changed_lem plan i k && b) (eq-eqb (k + 1) (k + 1) refl)
      ∙ and-true (is_changed_lem plan i k)

  -- a change is at a stop
  at_stop : (i k : ℕ) → k < length job.parts → (b : Bool) → is_changed_lem plan i k ≡ b → (get_or plan.stops i false && b) ≡ b
  at_stop i k h true e = and-true (get_or plan.stops i false) ∙ shape.at_stops k i h e
  at_stop i k h false e = and-false (get_or plan.stops i false)

  change_back : (i k : ℕ) → i < length job.openings → k < length job.parts → changed (visits_of job plan) (k + 1) (step_at job i) ≡ is_changed_lem plan i k
  unfolding visits_of
  change_back i k h l =
      any_one (λ (v : Visit). eqb v.step (step_at job i) && listed v.parts (k + 1)) (λ j. get_or plan.stops j false) (visit_at job plan) (length job.openings) i h
      (λ j m d. ap (λ (b : Bool). b && listed (parts_at plan j) (k + 1)) (step_differs i j h m d))
      ∙ ap (λ (b : Bool). get_or plan.stops i false && b) (ap (λ (b : Bool). b && listed (parts_at plan i) (k + 1)) (eq-eqb (step_at job i) (step_at job i) refl) ∙ part_back i k l)
      ∙ at_stop i k l (is_changed_lem plan i k) refl

  pub plan_back : plan_of job (visits_of job plan) ≡ plan
  unfolding plan_of
  plan_back = λ j. record { stops = stops j; changes = changes j }
    where
      n : ℕ
      n = length job.openings

      stops : openings_at job (visited (visits_of job plan)) ≡ plan.stops
      stops = openings-table job (visited (visits_of job plan)) ∙ sym (table_is plan.stops false _ n shape.stops (λ i h. sym (stop_back i h)))

      row : (k : ℕ) → k < length job.parts → openings_at job (changed (visits_of job plan) (k + 1)) ≡ get_or plan.changes k []
      row k l = openings-table job (changed (visits_of job plan) (k + 1)) ∙ sym (table_is (get_or plan.changes k []) false _ n (shape.sizes k l) (λ i h. sym (change_back i k h l)))

      changes : table (λ k. openings_at job (changed (visits_of job plan) (k + 1))) (length job.parts) ≡ plan.changes
      changes = sym (table_is plan.changes [] _ (length job.parts) shape.parts (λ k l. sym (row k l)))
