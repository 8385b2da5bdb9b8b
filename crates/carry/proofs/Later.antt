-- Steps after a step, renumbered; and the clock of the new job, which is the old one less what had run. For every list of steps, in order or not.
use mathlib.Core.Path.{◌≡◌, refl, sym, ap, ap₂, ◌∙◌}
use mathlib.Core.Bool.{Bool, true, false, cond, ◌||◌}
use mathlib.Core.List.{List, [], ◌∷◌, map}
use mathlib.Core.Logic.{◌↔◌}
use Prim.Native.Nat.{ℕ, zero, suc, ◌+◌, ◌-◌, ◌≤◌, ◌<◌}
use native.Mathlib.Omega.{arith}
use native.Mathlib.Decide.{ℕ_discrete, dec_le}
use borrow.Author.Tests.{leb-true, leb-false, le-leb, lt-leb, eq-eqb, ne_eqb}
use lib.Dec.{leb, eqb}
use lib.ListN.{length, get_or, drop, get_or-map}
use lib.Seq.{drop-drop, get_or-drop}
use Rattle.model.specs.Model.{Opening, listed, running}
use Rattle.model.specs.Windows.{Rising, steps_of}
use Rattle.model.proofs.Positions.{rising_above}
use Rattle.carry.specs.Carry.{count_to, later, renumbered}
use Rattle.carry.proofs.Splits.{map-drop}

-- ---- how many steps are up to a step

-- no more of some steps are up to a step than there are steps
pub count_most : (step : ℕ) (ss : List ℕ) → count_to step ss ≤ length ss
unfolding count_to
count_most step [] = omega arith
count_most step (s ∷ ss) = go (leb s step) (count_most step ss)
  where
    go : (b : Bool) → count_to step ss ≤ length ss → cond b (suc (count_to step ss)) 0 ≤ suc (length ss)
    go true h = omega arith
    go false h = omega arith

-- after a first step, up to a second one in the new numbering
pub count_add : (a b : ℕ) (ss : List ℕ) → count_to (a + b) ss ≡ count_to a ss + count_to b (later a ss)
unfolding count_to
count_add a b [] = omega arith
count_add a b (s ∷ ss) = go (leb s a) refl (count_add a b ss)
  where
    -- beyond the first step
    beyond : (ss : List ℕ) → count_to (a + b) ss ≡ count_to b (map (λ (s : ℕ). s - a) ss)
    beyond [] = refl
    beyond (s ∷ ss) = by (leb s (a + b)) refl (beyond ss)
      where
        by : (t : Bool) → leb s (a + b) ≡ t → count_to (a + b) ss ≡ count_to b (map (λ (s : ℕ). s - a) ss)
            → cond t (suc (count_to (a + b) ss)) 0 ≡ cond (leb (s - a) b) (suc (count_to b (map (λ (s : ℕ). s - a) ss))) 0
        by true e h = let l : s - a ≤ b = omega (arith, leb-true s (a + b) e) in rw (le-leb (s - a) b l) (ap suc h)
        by false e h = let l : b < s - a = omega (arith, leb-false s (a + b) e) in rw (lt-leb (s - a) b l)

    go : (t : Bool) → leb s a ≡ t → count_to (a + b) ss ≡ count_to a ss + count_to b (later a ss)
        → count_to (a + b) (s ∷ ss) ≡ cond t (suc (count_to a ss)) 0 + count_to b (map (λ (s : ℕ). s - a) (drop (cond t (suc (count_to a ss)) 0) (s ∷ ss)))
    go true e h = let l : s ≤ a + b = omega (arith, leb-true s a e) in rw (le-leb s (a + b) l) (omega (arith, h))
    go false e h = omega (arith, beyond (s ∷ ss))

-- twice later is later
pub later-later : (a b : ℕ) (ss : List ℕ) → later b (later a ss) ≡ later (a + b) ss
later-later a b ss =
    ap (map (λ (s : ℕ). s - b)) (sym (map-drop (λ (s : ℕ). s - a) (count_to b (later a ss)) (drop (count_to a ss) ss)))
    ∙ ap (λ (l : List ℕ). map (λ (s : ℕ). s - b) (map (λ (s : ℕ). s - a) l)) (drop-drop (count_to b (later a ss)) (count_to a ss) ss)
    ∙ ap (λ (n : ℕ). map (λ (s : ℕ). s - b) (map (λ (s : ℕ). s - a) (drop n ss))) (sym (count_add a b ss))
    ∙ twice (drop (count_to (a + b) ss) ss)
  where
    twice : (l : List ℕ) → map (λ (s : ℕ). s - b) (map (λ (s : ℕ). s - a) l) ≡ map (λ (s : ℕ). s - (a + b)) l
    twice [] = refl
    twice (s ∷ l) = let e : s - a - b ≡ s - (a + b) = omega arith in let f = twice l in λ i. e i ∷ f i

-- the new openings' steps
pub steps_later : (step : ℕ) (os : List Opening) (n : ℕ) → steps_of (map (renumbered step) (drop n os)) ≡ map (λ (s : ℕ). s - step) (drop n (steps_of os))
steps_later step [] zero = refl
steps_later step [] (suc n) = refl
steps_later step (o ∷ os) zero = ap (λ (l : List ℕ). (o.step - step) ∷ l) (steps_later step os 0)
steps_later step (o ∷ os) (suc n) = steps_later step os n

-- ---- those that are left come after the step, where steps rise

module _ (step : ℕ) where
  -- every step of a list comes after
  abbrev pub After : List ℕ → Type 0
  After [] = Unit {0}
  After (s ∷ ss) = (step < s) × After ss

  rising_after : (from T : ℕ) (ss : List ℕ) → step ≤ from → Rising from T ss → After ss
  rising_after from T [] h r = tt
  rising_after from T (s ∷ ss) h r = (omega (arith, r.0), rising_after s T ss (omega (arith, r.0)) r.2)

  -- of steps that rise, those left behind the count up to a step are all after that step
  pub left_after : (from T : ℕ) (ss : List ℕ) → Rising from T ss → After (drop (count_to step ss) ss)
  unfolding count_to
  left_after from T [] r = tt
  left_after from T (s ∷ ss) r = go (leb s step) refl (left_after s T ss r.2)
    where
      go : (t : Bool) → leb s step ≡ t → After (drop (count_to step ss) ss) → After (drop (cond t (suc (count_to step ss)) 0) (s ∷ ss))
      go true e h = h
      go false e h = (leb-false s step e, rising_after s T ss (omega (arith, leb-false s step e)) r.2)

-- a place of a rising list is among those up to the step exactly if its step is
pub count_is : (step from T : ℕ) (ss : List ℕ) → Rising from T ss → (k : ℕ) → k < length ss → (k < count_to step ss) ↔ (get_or ss k 0 ≤ step)
unfolding count_to
count_is step from T [] r k l = absurd (omega arith)
count_is step from T (s ∷ ss) r k l = go (leb s step) refl k l (λ k l. count_is step s T ss r.2 k l)
  where
    go : (t : Bool) → leb s step ≡ t → (k : ℕ) → k < suc (length ss) → ((k : ℕ) → k < length ss → (k < count_to step ss) ↔ (get_or ss k 0 ≤ step))
        → (k < cond t (suc (count_to step ss)) 0) ↔ (get_or (s ∷ ss) k 0 ≤ step)
    go true e zero l h = ((λ _. leb-true s step e), λ _. omega arith)
    go true e (suc k) l h = let r = h k (omega arith) in ((λ q. r.0 (omega arith)), λ q. omega (arith, r.1 q))
    go false e zero l h = ((λ q. absurd (omega arith)), λ q. absurd (omega (arith, leb-false s step e)))
    go false e (suc k) l h = ((λ q. absurd (omega arith)), λ q. absurd (omega (arith, leb-false s step e, rising_above T s ss r.2 k (omega arith))))

-- a step of the new job is the old one, shifted
pub later_at : (step from T : ℕ) (ss : List ℕ) → Rising from T ss → (k : ℕ) → count_to step ss + k < length ss → step + get_or (later step ss) k 0 ≡ get_or ss (count_to step ss + k) 0
later_at step from T ss r k l =
    let n = count_to step ss in
    let e = get_or-map (λ (s : ℕ). s - step) (drop n ss) k 0 in
    let z : 0 - step ≡ 0 = omega arith in
    let f = ap (λ (d : ℕ). get_or (later step ss) k d) (sym z) ∙ e ∙ ap (λ (s : ℕ). s - step) (get_or-drop n ss k 0) in
    omega (arith, f, go (dec_le (get_or ss (n + k) 0) step))
  where
    go : Dec (get_or ss (count_to step ss + k) 0 ≤ step) → step ≤ get_or ss (count_to step ss + k) 0
    go (yes h) = absurd (omega (arith, (count_is step from T ss r (count_to step ss + k) l).1 h))
    go (no h) = omega (arith, h)

-- ---- the clock

-- an idle step of the new job is one of the old
idle_beyond : (step : ℕ) (is : List ℕ) (k : ℕ) → listed (map (λ (s : ℕ). s - step) is) (suc k) ≡ listed is (step + suc k)
unfolding listed
idle_beyond step [] k = refl
idle_beyond step (i ∷ is) k = ap₂ (λ (a b : Bool). a || b) (same (ℕ_discrete i (step + suc k))) (idle_beyond step is k)
  where
    same : Dec (i ≡ step + suc k) → eqb (i - step) (suc k) ≡ eqb i (step + suc k)
    same (yes e) = let f : i - step ≡ suc k = omega arith in eq-eqb (i - step) (suc k) f ∙ sym (eq-eqb i (step + suc k) e)
    same (no e) = ne_eqb (i - step) (suc k) (λ f. e (omega arith)) ∙ sym (ne_eqb i (step + suc k) e)

-- a step of the new job is among the renumbered idles exactly where the old step was an idle
pub idle_later : (step : ℕ) (is : List ℕ) (k : ℕ) → listed (later step is) (suc k) ≡ listed is (step + suc k)
unfolding count_to listed
idle_later step [] k = refl
idle_later step (i ∷ is) k = go (leb i step) refl (idle_later step is k)
  where
    go : (t : Bool) → leb i step ≡ t → listed (later step is) (suc k) ≡ listed is (step + suc k)
        → listed (map (λ (s : ℕ). s - step) (drop (cond t (suc (count_to step is)) 0) (i ∷ is))) (suc k) ≡ listed (i ∷ is) (step + suc k)
    go true e h = rw (ne_eqb i (step + suc k) (λ f. omega (arith, f, leb-true i step e))) h
    go false e h = idle_beyond step (i ∷ is) k

-- running steps up to step + k: those up to step, and then k more of the new job's
pub running-later : (step : ℕ) (is : List ℕ) (k : ℕ) → running is (step + k) ≡ running is step + running (later step is) k
unfolding running
running-later step is zero = let e : step + 0 ≡ step = omega arith in rw e (omega arith)
running-later step is (suc k) =
    let e : step + suc k ≡ suc (step + k) = omega arith in
    let f : listed (later step is) (suc k) ≡ listed is (suc (step + k)) = idle_later step is k ∙ ap (listed is) e in
    rw (e, f) (omega (arith, running-later step is k))
