-- E4's term of one part, at a node where changes can keep it: a yes opening costs nothing, so all yes openings are used, and the term depends on the last yes and on how many openings
-- are decided, and on nothing else. By recursion over the decided openings: a change at a yes is in time, and the later the change before, the less is left to pay.
use mathlib.Core.Path.{◌≡◌, refl, sym, ap, subst, ◌∙◌}
use mathlib.Core.Bool.{Bool, true, false, cond, ◌&&◌, false≢true}
use mathlib.Core.List.{List, [], ◌∷◌, ◌++◌, map}
use Prim.Native.Nat.{ℕ, zero, suc, ◌+◌, ◌≤◌}
use native.Mathlib.Omega.{arith}
use borrow.Author.Tests.{ltb-false}
use lib.Dec.{ltb}
use lib.ListN.{length, get_or, drop, replicate}
use lib.IntN.{ℤ, pos, ◌-ℤ◌}
use Rattle.branch.specs.declared.Bound.{Bound}
use Rattle.branch.specs.declared.Bound.TheVariants.{Missing, Sum}
use Rattle.branch.specs.Search.{NoMore, snoc}
use Rattle.branch.proofs.Bounds.{no_sum_lem, there_is}
use Rattle.model.specs.Model.{Opening, Job, running, clock, positions, end, within}
use Rattle.model.specs.Windows.{Rising, steps_of}
use Rattle.model.specs.LowerBound.{Offer, plus, lower_than, lower, change_at_lem, least_of_lem, offers, undecided_fees}
use Rattle.model.specs.LastYes.{after_one_lem, last_yes, mark_in, Climbs}
use Rattle.model.proofs.Lower.{no_more_refl, no_more_trans, lower_first, lower_second, lower_both, plus_0}
use Rattle.base.proofs.Integers.{AtMostℤ, at_most, at_most_test, difference}
use Rattle.model.proofs.Positions.{never_falls, within_earlier, within_later}

-- ---- the last yes

-- a no added at the end leaves the last yes where it is
pub last_no : (p : List Bool) → last_yes (snoc p false) ≡ last_yes p
unfolding last_yes
last_no [] = refl
last_no (x ∷ p) = ap (after_one_lem x) (last_no p)

-- a yes added at the end is the last yes, numbered one past those before
pub last_yes_lem : (p : List Bool) → last_yes (snoc p true) ≡ suc (length p)
unfolding last_yes
last_yes_lem [] = refl
last_yes_lem (x ∷ p) = ap (after_one_lem x) (last_yes_lem p)

-- its position

-- where the first opening is a no, the last yes is where it is without that opening
pub mark_no : (prev s : ℤ) (ss : List ℤ) (m : ℕ) → mark_in prev (s ∷ ss) (after_one_lem false m) ≡ mark_in prev ss m
mark_no prev s ss zero = refl
mark_no prev s ss (suc m) = refl

-- where the first opening is a yes, it stands for the change before the openings behind it
pub mark_yes : (prev s : ℤ) (ss : List ℤ) (m : ℕ) → mark_in prev (s ∷ ss) (after_one_lem true m) ≡ mark_in s ss m
mark_yes prev s ss zero = refl
mark_yes prev s ss (suc m) = refl

-- ---- positions that never fall

-- positions that never fall from q on never fall from an earlier p on
pub climbs_from : (end p q : ℤ) (ss : List ℤ) → AtMostℤ p q → Climbs end q ss → Climbs end p ss
climbs_from end p q [] h c = at_most_test p end (omega (arith, at_most q end c))
climbs_from end p q (s ∷ ss) h c = (at_most_test p s (omega (arith, at_most q s c.0)), c.1)

-- a job's do, from the start on
module _ (job : Job) where
  steps_climb : (from : ℕ) (os : List Opening) → from ≤ job.horizon → Rising from job.horizon (steps_of os) → Climbs (end job) (clock job from) (map (λ (o : Opening). clock job o.step) os)
  steps_climb from [] h r = at_most_test (clock job from) (end job) (never_falls job from (job.horizon + 1) (omega arith))
  steps_climb from (o ∷ os) h r = (at_most_test (clock job from) (clock job o.step) (never_falls job from o.step (omega (arith, r.0))), steps_climb o.step os r.1 r.2)

  -- the positions of openings that rise never fall, from 0 up to the job's end
  pub job_climbs : Rising 0 job.horizon (steps_of job.openings) → Climbs (end job) (pos 0) (positions job)
  unfolding clock running
  job_climbs r = steps_climb 0 job.openings (omega arith) r

-- and from the last change on, which is zero or negative
pub first_climbs : (end : ℤ) (ss : List ℤ) (left life : ℕ) → left ≤ life → Climbs end (pos 0) ss → Climbs end (pos left -ℤ pos life) ss
first_climbs end ss left life h c = climbs_from end (pos left -ℤ pos life) (pos 0) ss (omega (arith, difference (pos left) (pos life))) c

-- ---- least prices

-- the second, where it is no more than the first
lower_is : (a b : Bound) → NoMore b a → lower a b ≡ b
lower_is Missing Missing h = refl
lower_is Missing (Sum b) h = refl
lower_is (Sum a) Missing h = absurd h
lower_is (Sum a) (Sum b) h = go (ltb b a) refl
  where
    go : (t : Bool) → ltb b a ≡ t → cond t (Sum b) (Sum a) ≡ Sum b
    go true e = refl
    go false e = ap Sum (omega (arith, ltb-false b a e))

module _ (life end : ℤ) where
  -- the later the change before, the less is left to pay
  later_change : (p q : ℤ) (o : Offer) (e : Bound) → AtMostℤ p q → NoMore (change_at_lem life q o e) (change_at_lem life p o e)
  later_change p q o e h = go o.allowed (within life p o.position) (within life q o.position) (within_later life p q o.position h)
    where
      go : (a x y : Bool) → (x ≡ true → y ≡ true) → NoMore (cond (a && y) (plus o.price e) Missing) (cond (a && x) (plus o.price e) Missing)
      go false x y f = tt
      go true false y f = tt
      go true true true f = no_more_refl (plus o.price e)
      go true true false f = absurd (false≢true (f refl))

  -- the later the change before, the less the least price is, if there was one
  pub later_least : (p q : ℤ) (os : List Offer) → AtMostℤ p q → NoMore (least_of_lem life end q os) (least_of_lem life end p os)
  unfolding least_of_lem
  later_least p q [] h = go (within life p end) (within life q end) (within_later life p q end h)
    where
      go : (x y : Bool) → (x ≡ true → y ≡ true) → NoMore (cond y (Sum 0) Missing) (cond x (Sum 0) Missing)
      go false y f = tt
      go true true f = omega arith
      go true false f = absurd (false≢true (f refl))
  later_least p q (o ∷ os) h =
      let e = least_of_lem life end o.position os in
      let x = least_of_lem life end q os in
      let y = change_at_lem life q o e in
      lower_both (lower x y) (least_of_lem life end p os) (change_at_lem life p o e)
      (no_more_trans (lower x y) x (least_of_lem life end p os) (lower_first x y) (later_least p q os h))
      (no_more_trans (lower x y) y (change_at_lem life p o e) (lower_second x y) (later_change p q o e h))

  -- a place that no opening and not the end comes before is in time, where changes can keep the part
  in_time_lem2 : (prev s : ℤ) (ss : List ℤ) (ns : List ℕ) (p : List Bool) (n : ℕ) → Climbs end s ss → least_of_lem life end prev (offers ss ns p) ≡ Sum n → within life prev s ≡ true
  unfolding least_of_lem offers
  in_time_lem2 prev s [] ns p n c e = go (within life prev end) refl e
    where
      go : (t : Bool) → within life prev end ≡ t → cond t (Sum 0) Missing ≡ Sum n → within life prev s ≡ true
      go true f g = within_earlier life prev s end (at_most s end c) f
      go false f g = absurd (no_sum_lem Missing n refl g)
  in_time_lem2 prev s (r ∷ ss) ns p n c e = go (lower_than skip chg) e (λ f. in_time_lem2 prev s ss (drop 1 ns) (drop 1 p) n (climbs_from end s r ss (at_most s r c.0) c.1) f)
    where
      skip : Bound
      skip = least_of_lem life end prev (offers ss (drop 1 ns) (drop 1 p))

      rest : Bound
      rest = least_of_lem life end r (offers ss (drop 1 ns) (drop 1 p))

      chg : Bound
      chg = cond (get_or p 0 true && within life prev r) (plus (get_or ns 0 0) rest) Missing

      go : (t : Bool) → cond t chg skip ≡ Sum n → (skip ≡ Sum n → within life prev s ≡ true) → within life prev s ≡ true
      go false f later = later f
      go true f later = by (get_or p 0 true) (within life prev r) refl f
        where
          by : (a w : Bool) → within life prev r ≡ w → cond (a && w) (plus (get_or ns 0 0) rest) Missing ≡ Sum n → within life prev s ≡ true
          by true true g h = within_earlier life prev s r (at_most s r c.0) g
          by true false g h = absurd (no_sum_lem Missing n refl h)
          by false w g h = absurd (no_sum_lem Missing n refl h)

-- ---- the fees of what is undecided

unpaid_none : (p : List Bool) → undecided_fees [] p ≡ []
unfolding undecided_fees
unpaid_none [] = refl
unpaid_none (x ∷ p) = refl

decided_free : (fees : List ℕ) (x : Bool) (p : List Bool) → get_or (undecided_fees fees (x ∷ p)) 0 0 ≡ 0
unfolding undecided_fees
decided_free [] x p = refl
decided_free (f ∷ fees) x p = refl

decided_rest : (fees : List ℕ) (x : Bool) (p : List Bool) → drop 1 (undecided_fees fees (x ∷ p)) ≡ undecided_fees (drop 1 fees) p
unfolding undecided_fees
decided_rest [] x p = sym (unpaid_none p)
decided_rest (f ∷ fees) x p = refl

-- ---- the law

module _ (life end : ℤ) where
  plus_more : (m : ℕ) (x : Bound) → NoMore x (plus m x)
  plus_more m Missing = tt
  plus_more m (Sum a) = omega arith

  -- after a yes there is a change set too
  yes_there : (prev s : ℤ) (ss : List ℤ) (ns : List ℕ) (p : List Bool) (n : ℕ) → AtMostℤ prev s → least_of_lem life end prev (offers (s ∷ ss) ns (true ∷ p)) ≡ Sum n
      → (m : ℕ) × (least_of_lem life end s (offers ss (drop 1 ns) p) ≡ Sum m)
  unfolding least_of_lem offers
  yes_there prev s ss ns p n h e =
      let os = offers ss (drop 1 ns) p in
      let x = least_of_lem life end s os in
      let chg = cond (within life prev s) (plus (get_or ns 0 0) x) Missing in
      let t = there_is x n (subst (NoMore x) e (lower_both x (least_of_lem life end prev os) chg (later_least life end prev s os h) (go x (within life prev s)))) in
      (t.0, t.1)
    where
      go : (x : Bound) (w : Bool) → NoMore x (cond w (plus (get_or ns 0 0) x) Missing)
      go x true = plus_more (get_or ns 0 0) x
      go x false = tt

  -- after no decision but no's nothing is changed yet
  none_alone : (prev : ℤ) (ss : List ℤ) (fees : List ℕ) (k : ℕ) → k ≤ length ss
      → least_of_lem life end prev (offers ss (undecided_fees fees (replicate k false)) (replicate k false)) ≡ least_of_lem life end prev (drop (length (replicate k false)) (offers ss fees []))
  unfolding least_of_lem offers undecided_fees
  none_alone prev ss fees zero l = refl
  none_alone prev [] fees (suc k) l = absurd (omega arith)
  none_alone prev (s ∷ ss) fees (suc k) l =
      ap (λ (fs : List ℕ). least_of_lem life end prev (offers ss fs (replicate k false))) (decided_rest fees false (replicate k false)) ∙ none_alone prev ss (drop 1 fees) k (omega arith)

  -- the part can be kept at the node p: so the law holds there, and below it after any number of no's, whether or not the part can be kept then
  pub last_alone : (prev : ℤ) (ss : List ℤ) (fees ns : List ℕ) (p : List Bool) (k n : ℕ) → Climbs end prev ss → length p + k ≤ length ss → least_of_lem life end prev (offers ss ns p) ≡ Sum n
      → let d = p ++ replicate k false in least_of_lem life end prev (offers ss (undecided_fees fees d) d) ≡ least_of_lem life end (mark_in prev ss (last_yes p)) (drop (length d) (offers ss fees []))
  unfolding least_of_lem offers undecided_fees last_yes
  last_alone prev ss fees ns [] k n c l e = none_alone prev ss fees k (omega arith)
  last_alone prev [] fees ns (x ∷ p) k n c l e = absurd (omega arith)
  last_alone prev (s ∷ ss) fees ns (false ∷ p) k n c l e =
      let d = p ++ replicate k false in
      ap (λ (fs : List ℕ). least_of_lem life end prev (offers ss fs d)) (decided_rest fees false d)
      ∙ last_alone prev ss (drop 1 fees) (drop 1 ns) p k n (climbs_from end prev s ss (at_most prev s c.0) c.1) (omega arith) e
      ∙ ap (λ (m : ℤ). least_of_lem life end m (drop (length d) (offers ss (drop 1 fees) []))) (sym (mark_no prev s ss (last_yes p)))
  last_alone prev (s ∷ ss) fees ns (true ∷ p) k n c l e =
      let d = p ++ replicate k false in
      let os = offers ss (undecided_fees (drop 1 fees) d) d in
      let a = least_of_lem life end prev os in
      let b = least_of_lem life end s os in
      let w = in_time_lem2 life end prev s (s ∷ ss) ns (true ∷ p) n (at_most_test s s (omega arith), c.1) e in
      let t = yes_there prev s ss ns p n (at_most prev s c.0) e in
      (λ i. let fs = decided_rest fees true d i in
      lower (least_of_lem life end prev (offers ss fs d)) (cond (w i) (plus (decided_free fees true d i) (least_of_lem life end s (offers ss fs d))) Missing))
      ∙ ap (lower a) (plus_0 b) ∙ lower_is a b (later_least life end prev s os (at_most prev s c.0))
      ∙ last_alone s ss (drop 1 fees) (drop 1 ns) p k t.0 c.1 (omega arith) t.1
      ∙ ap (λ (m : ℤ). least_of_lem life end m (drop (length d) (offers ss (drop 1 fees) []))) (sym (mark_yes prev s ss (last_yes p)))
