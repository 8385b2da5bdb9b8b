-- For proofs of code: what one decision more does to what a part owes for a change, and how much that can be.
use mathlib.Core.Path.{◌≡◌, refl, sym, ap, subst, ◌∙◌}
use mathlib.Core.Bool.{Bool, true, false, cond}
use mathlib.Core.List.{List, [], ◌∷◌}
use Prim.Native.Nat.{ℕ, zero, suc, ◌+◌, ◌≤◌, ◌<◌}
use native.Mathlib.Omega.{arith}
use lib.Dec.{eqb, eqb-suc-suc}
use lib.ListN.{length, get_or}
use borrow.Author.Tests.{eqb-true, ne_eqb}
use Rattle.branch.specs.Search.{snoc}
use Rattle.model.specs.Model.{Job, sum}
use Rattle.model.specs.Decisions.{Held, held_parts}
use Rattle.model.proofs.Sums.{sum_same, sum_mono, sum_both, sum_one}
use Rattle.shares.specs.Shares.{things, worth, Shares, bears, borne, FairShares, owes}

module _ (job : Job) (shares : Shares) where
  -- with nothing decided, all shares of what a change takes
  pub owes_fresh : (i : ℕ) (held : Held) (k : ℕ) → owes job shares i held k [] ≡ sum 0 (things job) (bears shares i k held)
  owes_fresh i held k = refl

  get_d_more : (b : List Bool) (x : Bool) (m : ℕ) → get_or (snoc b x) m false ≡ cond (eqb (length b) m) x (get_or b m false)
  get_d_more [] x zero = refl
  get_d_more [] x (suc m) = rw (ne_eqb 0 (suc m) (λ e. omega (arith, e)))
  get_d_more (y ∷ b) x zero = rw (ne_eqb (suc (length b)) 0 (λ e. omega (arith, e)))
  get_d_more (y ∷ b) x (suc m) = rw (eqb-suc-suc (length b) m) (get_d_more b x m)

  past_end : (b : List Bool) → get_or b (length b) false ≡ false
  past_end [] = refl
  past_end (y ∷ b) = past_end b

  -- a no leaves it, and a yes takes the share of that thing away
  pub owes_no : (i : ℕ) (held : Held) (k : ℕ) (b : List Bool) → owes job shares i held k (snoc b false) ≡ owes job shares i held k b
  owes_no i held k b =
      sum_same (things job) 0 (λ m. cond (get_or (snoc b false) m false) 0 (bears shares i k held m)) (λ m. cond (get_or b m false) 0 (bears shares i k held m))
      (λ m _ _. ap (λ (a : Bool). cond a 0 (bears shares i k held m)) (get_d_more b false m ∙ go m (eqb (length b) m) refl))
    where
      go : (m : ℕ) (a : Bool) → eqb (length b) m ≡ a → cond a false (get_or b m false) ≡ get_or b m false
      go m true e = let z : length b ≡ m = eqb-true (length b) m e in sym (ap (λ (j : ℕ). get_or b j false) (sym z) ∙ past_end b)
      go m false e = refl

  -- a thing decided yes takes the part's share of it off what the part owes
  pub owes_yes : (i : ℕ) (held : Held) (k : ℕ) (b : List Bool) → length b < things job → owes job shares i held k (snoc b true) + bears shares i k held (length b) ≡ owes job shares i held k b
  owes_yes i held k b l =
      let n = things job in
      let one = sum_one (length b) (bears shares i k held (length b)) n 0 (omega arith) (omega arith) in
      let both = sum_both n 0 (λ m. cond (get_or (snoc b true) m false) 0 (bears shares i k held m)) (λ m. cond (eqb (length b) m) (bears shares i k held (length b)) 0) in
      let same = sum_same n 0 (λ m. cond (get_or (snoc b true) m false) 0 (bears shares i k held m) + cond (eqb (length b) m) (bears shares i k held (length b)) 0)
      (λ m. cond (get_or b m false) 0 (bears shares i k held m)) (λ m _ _. each m (eqb (length b) m) refl) in
      omega (arith, one, both, same)
    where
      each : (m : ℕ) (a : Bool) → eqb (length b) m ≡ a
          → cond (get_or (snoc b true) m false) 0 (bears shares i k held m) + cond a (bears shares i k held (length b)) 0 ≡ cond (get_or b m false) 0 (bears shares i k held m)
      each m true e =
          let z : length b ≡ m = eqb-true (length b) m e in
          let x : get_or (snoc b true) m false ≡ true = get_d_more b true m ∙ ap (λ (a : Bool). cond a true (get_or b m false)) e in
          let y : get_or b m false ≡ false = sym (ap (λ (j : ℕ). get_or b j false) z) ∙ past_end b in
          rw (x, y) (omega (arith, ap (bears shares i k held) z))
      each m false e =
          let x : get_or (snoc b true) m false ≡ get_or b m false = get_d_more b true m ∙ ap (λ (a : Bool). cond a true (get_or b m false)) e in
          rw x (omega arith)

  -- ---- how much it can be: fair shares of a part are no more than the things cost

  borne_one : (k m i j : ℕ) (hs : List Held) (d : Held) → j < length hs → bears shares (i + j) k (get_or hs j d) m ≤ borne shares k m i hs
  unfolding borne
  borne_one k m i j [] d l = absurd (omega arith)
  borne_one k m i zero (held ∷ hs) d l = let z : i + 0 ≡ i = omega arith in rw z (omega arith)
  borne_one k m i (suc j) (held ∷ hs) d l =
      let z : i + suc j ≡ suc i + j = omega arith in
      rw z (omega (arith, borne_one k m (suc i) j hs d (omega arith)))

  -- what a part owes at an opening by fair shares is no more than all things there cost
  pub owes_most : FairShares job shares → (j k : ℕ) (b : List Bool) (d : Held) → j < length (held_parts job) → k < length job.openings
      → owes job shares j (get_or (held_parts job) j d) k b ≤ sum 0 (things job) (λ m. get_or (worth job k) m 0)
  owes_most fair j k b d l u =
      sum_mono (things job) 0 (λ m. cond (get_or b m false) 0 (bears shares j k (get_or (held_parts job) j d) m)) (λ m. get_or (worth job k) m 0) (λ m _ w. go m (get_or b m false) (omega arith))
    where
      go : (m : ℕ) (a : Bool) → m < things job → cond a 0 (bears shares j k (get_or (held_parts job) j d) m) ≤ get_or (worth job k) m 0
      go m true w = omega arith
      go m false w =
          let z : 0 + j ≡ j = omega arith in
          let o : bears shares j k (get_or (held_parts job) j d) m ≤ borne shares k m 0 (held_parts job) =
          subst (λ (i : ℕ). bears shares i k (get_or (held_parts job) j d) m ≤ borne shares k m 0 (held_parts job)) z (borne_one k m 0 j (held_parts job) d l) in
          omega (arith, o, fair k m u w)
