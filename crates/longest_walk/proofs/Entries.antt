-- The count of E6 for code: no number above the cap, and the least life and the least first life of the parts in place of them all. By recursion over the openings, and over the parts.
use mathlib.Core.Path.{◌≡◌, refl, sym, ap, ◌∙◌}
use mathlib.Core.Bool.{Bool, true, cond, ◌&&◌, and_assoc, and-eq-true_iff, and-true}
use mathlib.Core.List.{List, [], ◌∷◌}
use mathlib.Core.Logic.{◌↔◌}
use Prim.Native.Nat.{ℕ, zero, suc, ◌+◌, ◌-◌, ◌≤◌, min}
use native.Mathlib.Omega.{arith}
use lib.ListN.{length, get_or}
use lib.IntN.{ℤ, pos, ◌-ℤ◌}
use Rattle.model.specs.Model.{Part, Job, positions, last_change_lem, end, within, kept}
use Rattle.model.specs.Limits.{longest_life, most_count}
use Rattle.longest_walk.specs.Count.{in_time_lem, each_reaches, reaches, each_kept, count_from, open_count, least_among, least_life, least_left, count_for}
use Rattle.base.proofs.Bools.{same_test}
use Rattle.base.proofs.Integers.{difference}
use Rattle.model.proofs.Positions.{positions_size, near, near_within}

-- ---- the numbers of the table

-- none is above the cap, so no sum of three wraps in 64 bits
pub count_most : (test : ℕ → ℕ → Bool) (k j m : ℕ) → count_from test k j m ≤ most_count
unfolding count_from
count_most test zero j m = omega arith
count_most test (suc k) j m = omega arith

-- equal tests give equal numbers
count_same : (f g : ℕ → ℕ → Bool) → ((m k : ℕ) → f m k ≡ g m k) → (k j m : ℕ) → count_from f k j m ≡ count_from g k j m
unfolding count_from
count_same f g e zero j m = refl
count_same f g e (suc k) j m =
    λ i. min most_count (1 + cond (e m (suc j) i) (count_same f g e k (suc j) m i) 1 + count_same f g e k (suc j) (suc j) i)

-- ---- the first test: whether changes at all openings keep a part, opening by opening

kept_steps : (life end prev : ℤ) (ss : List ℤ) → (kept life end prev ss ≡ true) ↔ ((k : ℕ) → k ≤ length ss → in_time_lem life end prev ss k k ≡ true)
unfolding kept
kept_steps life end prev [] = (to, λ f. f 0 (omega arith))
  where
    to : within life prev end ≡ true → (k : ℕ) → k ≤ 0 → in_time_lem life end prev [] k k ≡ true
    to e zero h = e
    to e (suc k) h = absurd (omega arith)
kept_steps life end prev (s ∷ ss) = (
  (λ k. let d = (and-eq-true_iff (within life prev s) (kept life end s ss)).0 k in to d.0 ((kept_steps life end s ss).0 d.1)),
  λ f. (and-eq-true_iff (within life prev s) (kept life end s ss)).1 (f 0 (omega arith), (kept_steps life end s ss).1 (λ k h. from k (f (suc k) (omega arith)))),
)
  where
    to : within life prev s ≡ true → ((k : ℕ) → k ≤ length ss → in_time_lem life end s ss k k ≡ true) → (k : ℕ) → k ≤ suc (length ss) → in_time_lem life end prev (s ∷ ss) k k ≡ true
    to e f zero h = e
    to e f (suc zero) h = f 0 (omega arith)
    to e f (suc (suc k)) h = f (suc k) (omega arith)

    from : (k : ℕ) → in_time_lem life end prev (s ∷ ss) (suc k) (suc k) ≡ true → in_time_lem life end s ss k k ≡ true
    from zero e = e
    from (suc k) e = e

module _ (job : Job) where
  kept_reaches : (each_kept job job.parts ≡ true) ↔ ((k : ℕ) → k ≤ length job.openings → reaches job k k ≡ true)
  unfolding each_kept each_reaches
  kept_reaches = (to job.parts, from job.parts)
    where
      keeps : Part → Bool
      keeps part = kept (pos part.life) (end job) (last_change_lem part) (positions job)

      at : Part → ℕ → Bool
      at part k = in_time_lem (pos part.life) (end job) (last_change_lem part) (positions job) k k

      to : (parts : List Part) → each_kept job parts ≡ true → (k : ℕ) → k ≤ length job.openings → each_reaches job k k parts ≡ true
      to [] e k h = refl
      to (part ∷ parts) e k h =
          let d = (and-eq-true_iff (keeps part) (each_kept job parts)).0 e in
          (and-eq-true_iff (at part k) (each_reaches job k k parts)).1
          ((kept_steps (pos part.life) (end job) (last_change_lem part) (positions job)).0 d.0 k (omega (arith, positions_size job)), to parts d.1 k h)

      from : (parts : List Part) → ((k : ℕ) → k ≤ length job.openings → each_reaches job k k parts ≡ true) → each_kept job parts ≡ true
      from [] f = refl
      from (part ∷ parts) f =
          (and-eq-true_iff (keeps part) (each_kept job parts)).1 (
            (kept_steps (pos part.life) (end job) (last_change_lem part) (positions job)).1 (λ k h. (split k (omega (arith, positions_size job))).0),
            from parts (λ k h. (split k h).1),
          )
        where
          split : (k : ℕ) → k ≤ length job.openings → (at part k ≡ true) × (each_reaches job k k parts ≡ true)
          split k h = (and-eq-true_iff (at part k) (each_reaches job k k parts)).0 (f k h)

-- ---- the tests by the least life and the least first life

-- what two lives reach the smaller one reaches
within_both : (a b : ℕ) (x y : ℤ) → (within (pos a) x y && within (pos b) x y) ≡ within (pos (min a b)) x y
within_both a b x y = same_test (within (pos a) x y && within (pos b) x y) (within (pos (min a b)) x y)
    (λ e. let d = (and-eq-true_iff (within (pos a) x y) (within (pos b) x y)).0 e in near_within (pos (min a b)) x y (omega (arith, near (pos a) x y d.0, near (pos b) x y d.1)))
    (λ e. let n = near (pos (min a b)) x y e in (and-eq-true_iff (within (pos a) x y) (within (pos b) x y)).1 (near_within (pos a) x y (omega arith), near_within (pos b) x y (omega arith)))

-- a first life is counted from 0: its end is R, whatever the life
within-left : (life left : ℕ) (y : ℤ) → within (pos life) (pos left -ℤ pos life) y ≡ within (pos left) (pos 0) y
within-left life left y = same_test (within (pos life) (pos left -ℤ pos life) y) (within (pos left) (pos 0) y)
    (λ e. near_within (pos left) (pos 0) y (omega (arith, near (pos life) (pos left -ℤ pos life) y e, difference (pos left) (pos life))))
    (λ e. near_within (pos life) (pos left -ℤ pos life) y (omega (arith, near (pos left) (pos 0) y e, difference (pos left) (pos life))))

module _ (job : Job) where
  -- a part with this life and first life
  abbrev test : ℕ → ℕ → ℕ → ℕ → Bool
  test life left m k = in_time_lem (pos life) (end job) (pos left -ℤ pos life) (positions job) m k

  both : (a b c d m k : ℕ) → (test a b m k && test c d m k) ≡ test (min a c) (min b d) m k
  both a b c d zero k =
      let y = get_or (positions job) k (end job) in
      (λ i. within-left a b y i && within-left c d y i) ∙ within_both b d (pos 0) y ∙ sym (within-left (min a c) (min b d) y)
  both a b c d (suc i) k = within_both a c (get_or (positions job) i (pos 0)) (get_or (positions job) k (end job))

  among : (a b m k : ℕ) (parts : List Part)
      → (test a b m k && each_reaches job m k parts) ≡ test (least_among (λ (part : Part). part.life) a parts) (least_among (λ (part : Part). part.left) b parts) m k
  unfolding each_reaches
  among a b m k [] = and-true (test a b m k)
  among a b m k (part ∷ parts) =
      sym (and_assoc (test a b m k) (test part.life part.left m k) (each_reaches job m k parts))
      ∙ ap (λ (t : Bool). t && each_reaches job m k parts) (both a b part.life part.left m k)
      ∙ among (min a part.life) (min b part.left) m k parts

  -- the first part's lives are not above the longest, and there is a part
  abbrev pub Brief : List Part → Type 0
  Brief [] = ⊥
  Brief (part ∷ parts) = (part.life ≤ longest_life) × (part.left ≤ longest_life)

  module _ (brief : Brief job.parts) where
    reaches_least : (m k : ℕ) → reaches job m k ≡ test (least_life job) (least_left job) m k
    unfolding each_reaches
    reaches_least m k = go job.parts brief
      where
        go : (parts : List Part) → Brief parts
            → each_reaches job m k parts ≡ test (least_among (λ (part : Part). part.life) longest_life parts) (least_among (λ (part : Part). part.left) longest_life parts) m k
        go [] h = absurd h
        go (part ∷ parts) h =
            let life : part.life ≡ min longest_life part.life = omega (arith, h.0) in
            let left : part.left ≡ min longest_life part.left = omega (arith, h.1) in
            among part.life part.left m k parts
            ∙ (λ i. test (least_among (λ (part : Part). part.life) (life i) parts) (least_among (λ (part : Part). part.left) (left i) parts) m k)

    kept_least : each_kept job job.parts ≡ kept (pos (least_life job)) (end job) (pos (least_left job) -ℤ pos (least_life job)) (positions job)
    kept_least = same_test (each_kept job job.parts) (kept L E P ss)
        (λ e. (kept_steps L E P ss).1 (λ k h. sym (reaches_least k k) ∙ (kept_reaches job).0 e k (omega (arith, positions_size job))))
        (λ e. (kept_reaches job).1 (λ k h. reaches_least k k ∙ (kept_steps L E P ss).0 e k (omega (arith, positions_size job))))
      where
        L : ℤ
        L = pos (least_life job)

        E : ℤ
        E = end job

        P : ℤ
        P = pos (least_left job) -ℤ pos (least_life job)

        ss : List ℤ
        ss = positions job

    -- the count by these two numbers
    pub count_least : open_count job ≡ count_for (pos (least_life job)) (end job) (pos (least_left job) -ℤ pos (least_life job)) (positions job)
    unfolding open_count count_for
    count_least =
        let z : length job.openings - 0 ≡ length (positions job) = omega (arith, positions_size job) in
        (λ i. cond (kept_least i) (count_from (reaches job) (z i) 0 0) 1)
        ∙ ap (λ (n : ℕ). cond (kept (pos (least_life job)) (end job) (pos (least_left job) -ℤ pos (least_life job)) (positions job)) n 1)
        (count_same (reaches job) (test (least_life job) (least_left job)) reaches_least (length (positions job)) 0 0)
