-- A job without holders: no removal is decided, so blocks are stops, each part can be changed at every stop, and nothing is paid for decided removals.
use mathlib.Core.Path.{◌≡◌, refl, sym, ap, ap₂, ◌∙◌}
use mathlib.Core.Bool.{Bool, true, false, ◌&&◌, ◌||◌, false≢true}
use mathlib.Core.List.{List, [], ◌∷◌, map}
use Prim.Native.Nat.{ℕ, zero, suc}
use native.Mathlib.Omega.{arith}
use lib.ListN.{length, get_or, take, drop, replicate}
use lib.Dec.{ltb}
use borrow.Author.Tests.{ltb-false}
use Rattle.branch.specs.Label.{tree_of}
use Rattle.branch.specs.Questions.{done, repeated, asked}
use Rattle.branch.proofs.Asked.{asked_fixed}
use Rattle.model.specs.Model.{Part, Job, comes_out, listed, holds_one, holding, is_held, any_held, NoHolders, select}
use Rattle.model.specs.Decisions.{of_holders, held_at, accessible, allows}
use Rattle.model.specs.LowerBound.{blocks, inner, node_at, stops_in, stops_at, removed_in, places_at, bound_of}
use Rattle.model.specs.Promise.{searched}
use Rattle.base.proofs.Bools.{or_split}
use Rattle.model.proofs.Offers.{sum_none}
use Rattle.model.proofs.Lists.{table_yes}

-- ---- lists

-- an empty set selects nothing
pub select_off : {A : Type 0} (xs : List A) (ms : List Bool) → ((j : ℕ) → get_or ms j false ≡ true → ⊥) → select xs ms ≡ []
unfolding select
select_off [] ms f = refl
select_off (x ∷ xs) [] f = refl
select_off (x ∷ xs) (false ∷ ms) f = select_off xs ms (λ j. f (suc j))
select_off (x ∷ xs) (true ∷ ms) f = absurd (f 0 refl)

-- ---- blocks where nothing is decided after a yes

stops_plain : (n : ℕ) (p : List Bool) → stops_in (blocks 0 n p) ≡ take n p
unfolding blocks
stops_plain zero p = refl
stops_plain (suc n) [] = refl
stops_plain (suc n) (false ∷ p) = ap (λ (l : List Bool). false ∷ l) (stops_plain n p)
stops_plain (suc n) (true ∷ p) = ap (λ (l : List Bool). true ∷ l) (stops_plain n p)

-- a part that needs nobody can be changed at each stop that blocks decide, and only there
pub places_plain : (bs : List (List Bool)) → map (allows []) bs ≡ stops_in bs
unfolding accessible
places_plain [] = refl
places_plain (b ∷ bs) = let e = go (get_or b 0 true) in let r = places_plain bs in λ i. e i ∷ r i
  where
    go : (x : Bool) → (x && true) ≡ x
    go true = refl
    go false = refl

-- with no removals to decide, blocks pay nothing for decided removals
pub removed_plain : (bs : List (List Bool)) → removed_in [] bs ≡ 0
removed_plain [] = refl
removed_plain (b ∷ bs) = omega (arith, sum_none (drop 1 b), removed_plain bs)

-- ---- the test: `has_holder_lem` is false exactly of the jobs without holders

empty : (hs : List ℕ) → ltb 0 (length hs) ≡ false → hs ≡ []
empty [] e = refl
empty (h ∷ hs) e = absurd (omega (arith, ltb-false 0 (length (h ∷ hs)) e))

-- where the test finds no part with a holder, every part's list of holders is empty
pub none_held : (ps : List Part) → any_held ps ≡ false → NoHolders ps
unfolding any_held
none_held [] e = tt
none_held (p ∷ ps) e = let z = or_split (is_held p) (any_held ps) e in (empty p.holders z.0, none_held ps z.1)

-- where every part's list of holders is empty, the test finds no part with a holder
pub held_none : (ps : List Part) → NoHolders ps → any_held ps ≡ false
unfolding any_held
held_none [] h = refl
held_none (p ∷ ps) h = ap₂ ◌||◌ (ap (λ (hs : List ℕ). ltb 0 (length hs)) h.0) (held_none ps h.1)

-- ---- the job

nobody : (ps : List Part) (out : List Bool) (n : ℕ) → NoHolders ps → holds_one ps out n ≡ false
unfolding holds_one listed
nobody [] out n h = refl
nobody (p ∷ ps) out n h = rw (h.0, nobody ps (drop 1 out) n h.1) (go (get_or out 0 false))
  where
    go : (b : Bool) → ((b && false) || false) ≡ false
    go true = refl
    go false = refl

module _ (job : Job) (none : NoHolders job.parts) where
  -- in a job without holders no part is somebody's holder
  pub none_holding : (j : ℕ) → get_or (holding job) j false ≡ true → ⊥
  unfolding holding
  none_holding j e =
      let t = table_yes held (length job.parts) j e in
      false≢true (sym (nobody job.parts (replicate (length job.parts) true) (suc j) none) ∙ t.1)
    where
      held : ℕ → Bool
      held j = holds_one job.parts (replicate (length job.parts) true) (suc j)

  -- in a job without holders, nothing of a list belongs to somebody's holder
  pub no_holders : {A : Type 0} (xs : List A) → of_holders job xs ≡ []
  no_holders xs = select_off xs (holding job) none_holding

  -- in a job without holders no removal is decided after a yes
  pub nothing_inner : inner job ≡ 0
  nothing_inner = ap length (no_holders job.parts)

  -- ---- the node

  -- in a job without holders a node's stops are its decisions, up to the openings' number
  pub same_stops : (p : List Bool) → stops_at job p ≡ take (length job.openings) p
  same_stops p = ap (λ (h : ℕ). stops_in (blocks h (length job.openings) p)) nothing_inner ∙ stops_plain (length job.openings) p

  -- in a job without holders a part can be changed at every stop of the node
  pub same_places : (i : ℕ) (part : Part) (p : List Bool) → places_at job (held_at job i part) p ≡ take (length job.openings) p
  same_places i part p = ap (λ (needs : List Bool). map (allows needs) (node_at job p)) (no_holders (comes_out job i)) ∙ places_plain (node_at job p) ∙ same_stops p

  -- no removal is asked for, so the tree is that of W4
  pub plain_tree_lem : searched job ≡ tree_of (bound_of job) (length job.openings) []
  plain_tree_lem = ap (λ (h : ℕ). asked (bound_of job) (repeated (length job.openings) (repeated h done done) done)) nothing_inner ∙ asked_fixed (bound_of job) (length job.openings)
