-- A line's blocks dealt to the steps at which it is open, in order, with nothing at the others. Because its openings rise, its blocks by step are dealt so; and so are those of a full node's turns.
use mathlib.Core.Path.{◌≡◌, refl, sym, ap, subst, ◌∙◌}
use mathlib.Core.Bool.{Bool, true, false, cond, ◌||◌, false≢true, true≢false}
use mathlib.Core.List.{List, [], ◌∷◌, ◌++◌, map}
use mathlib.Core.Logic.{◌⊎◌, inl, inr}
use Prim.Native.Nat.{ℕ, zero, suc, ◌+◌, ◌≤◌, ◌<◌}
use native.Mathlib.Omega.{arith}
use lib.ListN.{length, get_or, drop}
use lib.Dec.{eqb}
use borrow.Author.Tests.{eqb-true, eqb-false, ne_eqb}
use Rattle.model.specs.Model.{Job, listed, sum, Each}
use Rattle.model.specs.Windows.{Rising, at_step}
use Rattle.model.specs.Decisions.{concat}
use Rattle.model.specs.LowerBound.{inner}
use Rattle.base.proofs.Bools.{or_split, or_right}
use Rattle.model.proofs.Blocks.{Whole, Wholes}
use Rattle.hall_model.specs.Hall.{Placed, open_at, sum_of}
use Rattle.hall_model.specs.Agenda.{some_open, open_steps}
use Rattle.hall_model.proofs.Turns.{Cell, cell_at, Turn, Turns, column}

-- by whether the line is open: what it says at each step, and its blocks
abbrev pub Dealt : List Bool → List (List Bool) → List (List Bool) → Type 0
Dealt [] [] bs = bs ≡ []
Dealt [] (x ∷ xs) bs = ⊥
Dealt (o ∷ os) [] bs = ⊥
Dealt (false ∷ os) (x ∷ xs) bs = (x ≡ []) × Dealt os xs bs
Dealt (true ∷ os) (x ∷ xs) [] = ⊥
Dealt (true ∷ os) (x ∷ xs) (b ∷ bs) = (x ≡ b) × Dealt os xs bs

-- what a line says at all steps, joined, is its blocks joined
pub dealt_joined : (os : List Bool) (xs bs : List (List Bool)) → Dealt os xs bs → concat xs ≡ concat bs
unfolding concat
dealt_joined [] [] bs w = rw w
dealt_joined [] (x ∷ xs) bs w = absurd w
dealt_joined (false ∷ os) [] bs w = absurd w
dealt_joined (true ∷ os) [] bs w = absurd w
dealt_joined (false ∷ os) (x ∷ xs) bs w = rw w.0 (dealt_joined os xs bs w.1)
dealt_joined (true ∷ os) (x ∷ xs) [] w = absurd w
dealt_joined (true ∷ os) (x ∷ xs) (b ∷ bs) w = λ i. w.0 i ++ dealt_joined os xs bs w.1 i

-- two lists of blocks, dealt to the same steps

-- two lists of blocks dealt to the same steps are as long as each other
pub dealt_length : (os : List Bool) (xs ys bs cs : List (List Bool)) → Dealt os xs bs → Dealt os ys cs → length bs ≡ length cs
dealt_length [] [] [] bs cs v w = ap length v ∙ sym (ap length w)
dealt_length [] [] (y ∷ ys) bs cs v w = absurd w
dealt_length [] (x ∷ xs) ys bs cs v w = absurd v
dealt_length (false ∷ os) [] ys bs cs v w = absurd v
dealt_length (true ∷ os) [] ys bs cs v w = absurd v
dealt_length (false ∷ os) (x ∷ xs) [] bs cs v w = absurd w
dealt_length (true ∷ os) (x ∷ xs) [] bs cs v w = absurd w
dealt_length (false ∷ os) (x ∷ xs) (y ∷ ys) bs cs v w = dealt_length os xs ys bs cs v.1 w.1
dealt_length (true ∷ os) (x ∷ xs) (y ∷ ys) [] cs v w = absurd v
dealt_length (true ∷ os) (x ∷ xs) (y ∷ ys) (b ∷ bs) [] v w = absurd w
dealt_length (true ∷ os) (x ∷ xs) (y ∷ ys) (b ∷ bs) (c ∷ cs) v w = ap suc (dealt_length os xs ys bs cs v.1 w.1)

module _ (R : List Bool → List Bool → Type 0) (nothing : R [] []) where
  -- what holds between the blocks of two lists, one by one, holds step by step where both are dealt
  pub dealt_each : (os : List Bool) (xs ys bs cs : List (List Bool)) → Dealt os xs bs → Dealt os ys cs → Each R bs cs → Each R xs ys
  dealt_each [] [] [] bs cs v w e = tt
  dealt_each [] [] (y ∷ ys) bs cs v w e = absurd w
  dealt_each [] (x ∷ xs) ys bs cs v w e = absurd v
  dealt_each (false ∷ os) [] ys bs cs v w e = absurd v
  dealt_each (true ∷ os) [] ys bs cs v w e = absurd v
  dealt_each (false ∷ os) (x ∷ xs) [] bs cs v w e = absurd w
  dealt_each (true ∷ os) (x ∷ xs) [] bs cs v w e = absurd w
  dealt_each (false ∷ os) (x ∷ xs) (y ∷ ys) bs cs v w e = (rw (v.0, w.0) nothing, dealt_each os xs ys bs cs v.1 w.1 e)
  dealt_each (true ∷ os) (x ∷ xs) (y ∷ ys) [] cs v w e = absurd v
  dealt_each (true ∷ os) (x ∷ xs) (y ∷ ys) (b ∷ bs) [] v w e = absurd w
  dealt_each (true ∷ os) (x ∷ xs) (y ∷ ys) (b ∷ bs) (c ∷ cs) v w e = (rw (v.0, w.0) e.0, dealt_each os xs ys bs cs v.1 w.1 e.1)

-- ---- the turns of a full node deal a line's blocks

cell_whole : (called o : Bool) (h : ℕ) (b : List Bool) → Cell called o h b → ((o ≡ false) × (b ≡ [])) ⊎ ((o ≡ true) × Whole h b)
cell_whole called false h b c = inl (refl, c)
cell_whole false true h b c = inr (refl, rw c refl)
cell_whole true true h b c = inr (refl, c)

-- the turns of a full node deal whole blocks to each line at the steps where it is open
pub dealt_turns : (jobs : List Job) (d : ℕ) (job : Job) → Placed jobs d job → (steps : List ℕ) (ts : List Turn) → Turns jobs steps ts
    → (bs : List (List Bool)) × Dealt (map (open_at job) steps) (column d ts) bs × Wholes (inner job) (length bs) bs
dealt_turns jobs d job at [] [] w = ([], refl, tt)
dealt_turns jobs d job at [] (t ∷ ts) w = absurd w
dealt_turns jobs d job at (step ∷ steps) [] w = absurd w
dealt_turns jobs d job at (step ∷ steps) (t ∷ ts) w =
    go (open_at job step) (get_or t.said d []) (cell_whole t.called (open_at job step) (inner job) (get_or t.said d []) (cell_at t.called step jobs t.said w.0 d job at))
    (dealt_turns jobs d job at steps ts w.1)
  where
    go : (o : Bool) (b : List Bool) → ((o ≡ false) × (b ≡ [])) ⊎ ((o ≡ true) × Whole (inner job) b)
        → ((bs : List (List Bool)) × Dealt (map (open_at job) steps) (column d ts) bs × Wholes (inner job) (length bs) bs)
        → (bs : List (List Bool)) × Dealt (o ∷ map (open_at job) steps) (b ∷ column d ts) bs × Wholes (inner job) (length bs) bs
    go false b (inl e) r = (r.0, (e.1, r.1), r.2)
    go true b (inl e) r = absurd (true≢false e.0)
    go false b (inr e) r = absurd (false≢true e.0)
    go true b (inr e) r = (b ∷ r.0, (refl, r.1), (e.1, r.2))

-- ---- steps

-- where a step is none of these
pub unlisted : {A : Type 0} (d : A) (ss : List ℕ) (l : List A) (x : ℕ) → listed ss x ≡ false → at_step d ss l x ≡ d
unfolding listed at_step
unlisted d [] l x e = refl
unlisted d (s ∷ ss) l x e = let o = or_split (eqb s x) (listed ss x) e in rw o.0 (unlisted d ss (drop 1 l) x o.1)

-- where steps rise, an earlier one is none of them
earlier : (s T : ℕ) (ss : List ℕ) (x : ℕ) → Rising s T ss → x ≤ s → listed ss x ≡ false
unfolding listed
earlier s T [] x r l = refl
earlier s T (t ∷ ts) x r l = rw (ne_eqb t x (λ e. absurd (omega (arith, r.0)))) (earlier t T ts x r.2 (omega (arith, r.0)))

module _ (jobs : List Job) where
  map_after : {A : Type 0} (f g : ℕ → A) (n a : ℕ) → ((x : ℕ) → a < x → f x ≡ g x) → map f (open_steps jobs (suc a) n) ≡ map g (open_steps jobs (suc a) n)
  unfolding open_steps
  map_after f g zero a h = refl
  map_after {A} f g (suc n) a h = go (some_open jobs (suc a)) (map_after f g n (suc a) (λ x l. h x (omega arith)))
    where
      rest : List ℕ
      rest = open_steps jobs (suc (suc a)) n

      go : (o : Bool) → map f rest ≡ map g rest → map f (cond o (suc a ∷ rest) rest) ≡ map g (cond o (suc a ∷ rest) rest)
      go true e = λ i. h (suc a) (omega arith) i ∷ e i
      go false e = e

  -- the line of these openings is one of the hall's
  abbrev pub OpenWith : List ℕ → Type 0
  OpenWith ss = (x : ℕ) → listed ss x ≡ true → some_open jobs x ≡ true

  -- blocks for openings that rise are dealt to their steps
  pub spread : (n a : ℕ) (ss : List ℕ) (bs : List (List Bool)) → OpenWith ss → Rising a (a + n) ss → length bs ≡ length ss
      → Dealt (map (listed ss) (open_steps jobs (suc a) n)) (map (at_step [] ss bs) (open_steps jobs (suc a) n)) bs
  unfolding open_steps listed at_step
  spread zero a [] [] k r h = refl
  spread zero a [] (b ∷ bs) k r h = absurd (omega arith)
  spread zero a (s ∷ ss) bs k r h = absurd (omega (arith, r.0, r.1))
  spread (suc n) a [] [] k r h = go (some_open jobs (suc a)) (spread n (suc a) [] [] k tt refl)
    where
      rest : List ℕ
      rest = open_steps jobs (suc (suc a)) n

      go : (o : Bool) → Dealt (map (listed []) rest) (map (at_step [] [] []) rest) [] → Dealt (map (listed []) (cond o (suc a ∷ rest) rest)) (map (at_step [] [] []) (cond o (suc a ∷ rest) rest)) []
      go true w = (refl, w)
      go false w = w
  spread (suc n) a [] (b ∷ bs) k r h = absurd (omega arith)
  spread (suc n) a (s ∷ ss) [] k r h = absurd (omega arith)
  spread (suc n) a (s ∷ ss) (b ∷ bs) k r h =
      go (eqb s (suc a)) refl (some_open jobs (suc a)) (k (suc a))
      (λ q. spread n (suc a) ss bs (λ x e. k x (or_right (eqb s x) (listed ss x) e)) q (omega arith)) (λ q. spread n (suc a) (s ∷ ss) (b ∷ bs) k q (omega arith))
    where
      z : a + suc n ≡ suc a + n
      z = omega arith

      rest : List ℕ
      rest = open_steps jobs (suc (suc a)) n

      Rest : List ℕ → List (List Bool) → List (List Bool) → Type 0
      Rest xs cs ds = Dealt (map (listed xs) rest) (map (at_step [] xs cs) rest) ds

      later : (Rising (suc a) (suc a + n) (s ∷ ss) → Rest (s ∷ ss) (b ∷ bs) (b ∷ bs)) → eqb s (suc a) ≡ false → Rest (s ∷ ss) (b ∷ bs) (b ∷ bs)
      later g e =
          let l : suc a < s = omega (arith, r.0, eqb-false s (suc a) e) in
          g (l, subst (λ (k : ℕ). s ≤ k) z r.1, subst (λ (k : ℕ). Rising s k ss) z r.2)

      go : (t : Bool) → eqb s (suc a) ≡ t → (o : Bool) → ((t || listed ss (suc a)) ≡ true → o ≡ true)
          → (Rising (suc a) (suc a + n) ss → Rest ss bs bs) → (Rising (suc a) (suc a + n) (s ∷ ss) → Rest (s ∷ ss) (b ∷ bs) (b ∷ bs))
          → Dealt (map (listed (s ∷ ss)) (cond o (suc a ∷ rest) rest)) (map (at_step [] (s ∷ ss) (b ∷ bs)) (cond o (suc a ∷ rest) rest)) (b ∷ bs)
      go true e false m f g = absurd (false≢true (m refl))
      go true e true m f g =
          let q = eqb-true s (suc a) e in
          let past : (x : ℕ) → suc a < x → eqb s x ≡ false = λ x l. ne_eqb s x (λ w. absurd (omega arith)) in
          let os : map (listed (s ∷ ss)) rest ≡ map (listed ss) rest =
          map_after (listed (s ∷ ss)) (listed ss) n (suc a) (λ x l. ap (λ (t : Bool). t || listed ss x) (past x l)) in
          let xs : map (at_step [] (s ∷ ss) (b ∷ bs)) rest ≡ map (at_step [] ss bs) rest =
          map_after (at_step [] (s ∷ ss) (b ∷ bs)) (at_step [] ss bs) n (suc a) (λ x l. ap (λ (t : Bool). cond t b (at_step [] ss bs x)) (past x l)) in
          rw (e, os, xs) (refl, f (subst (λ (k : ℕ). Rising k (suc a + n) ss) q (subst (λ (k : ℕ). Rising s k ss) z r.2)))
      go false e false m f g = later g e
      go false e true m f g =
          let u = earlier s (a + suc n) ss (suc a) r.2 (omega (arith, r.0)) in
          rw (e, u, unlisted [] ss bs (suc a) u) (refl, later g e)

  -- a sum over the steps at which some line is open is one over all steps, where there is nothing at the others
  pub sum_open : (g : ℕ → ℕ) → ((x : ℕ) → some_open jobs x ≡ false → g x ≡ 0) → (n from : ℕ) → sum_of (map g (open_steps jobs from n)) ≡ sum from n g
  unfolding open_steps sum
  sum_open g h zero from = refl
  sum_open g h (suc n) from = go (some_open jobs from) refl (sum_open g h n (suc from))
    where
      rest : List ℕ
      rest = open_steps jobs (suc from) n

      go : (o : Bool) → some_open jobs from ≡ o → sum_of (map g rest) ≡ sum (suc from) n g → sum_of (map g (cond o (from ∷ rest) rest)) ≡ g from + sum (suc from) n g
      go true e r = ap (λ (k : ℕ). g from + k) r
      go false e r = omega (arith, h from e, r)
