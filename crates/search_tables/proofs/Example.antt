-- What the search asks of its caller can be met: the arrays of 01's one job entire hold it. By computation.
use Prim.Native.Nat.{ℕ, zero, suc, ◌+◌, ◌-◌, ◌*◌, ◌≤◌, ◌<◌}
use mathlib.Core.Path.{◌≡◌, refl, ap, ◌∙◌}
use mathlib.Core.Bool.{Bool, true, ◌&&◌, and-eq-true_iff}
use mathlib.Core.List.{List, [], ◌∷◌, ◌++◌}
use native.Mathlib.Omega.{arith}
use borrow.Author.Tests.{leb-true}
use lib.Dec.{leb}
use lib.ListN.{length, get_or, drop, replicate}
use lib.Seq.{get_or-drop}
use lib.IntN.{ℤ, pos}
use lib.Signed.{mag}
use Rattle.model.specs.Model.{Job, listed, running, clock}
use Rattle.model.specs.Verdict.{no_part}
use Rattle.held_places.specs.Arrays.{price_stride}
use Rattle.search_tables.specs.Arrays.{lane_part, JobArrays}
use Rattle.lane_rows.specs.Layout.{top, dear}
use Rattle.model.specs.Limits.{last_position, longest_life}

-- every number of the list is at most b
abbrev all_up_to : ℕ → List ℕ → Bool
all_up_to b [] = true
all_up_to b (x ∷ l) = leb x b && all_up_to b l

all_up_to_lem : (b : ℕ) (l : List ℕ) → all_up_to b l ≡ true → (j : ℕ) → get_or l j 0 ≤ b
all_up_to_lem b [] e j = omega arith
all_up_to_lem b (x ∷ l) e zero = leb-true x b ((and-eq-true_iff (leb x b) (all_up_to b l)).0 e).0
all_up_to_lem b (x ∷ l) e (suc j) = all_up_to_lem b l ((and-eq-true_iff (leb x b) (all_up_to b l)).0 e).1 j

-- a job of four openings and two parts
abbrev pub job : Job
job =
    record {
      horizon = 6;
      idles = [];
      openings = record { step = 2; fee = 10 } ∷ record { step = 3; fee = 10 } ∷ record { step = 4; fee = 10 } ∷ record { step = 5; fee = 10 } ∷ [];
      parts = record { life = 3; left = 2; removal = 0; holders = []; prices = 5 ∷ 5 ∷ 5 ∷ 5 ∷ [] } ∷ record { life = 4; left = 4; removal = 0; holders = []; prices = 7 ∷ 7 ∷ 7 ∷ 7 ∷ [] } ∷ [];
    }

-- the positions of the example's four openings
abbrev pub places : List ℤ
places = pos 2 ∷ pos 3 ∷ pos 4 ∷ pos 5 ∷ []

-- the fees of the example's four openings
abbrev pub fees : List ℕ
fees = 10 ∷ 10 ∷ 10 ∷ 10 ∷ []

-- the lives of the example's two parts
abbrev pub lives : List ℕ
lives = 3 ∷ 4 ∷ []

-- the first lives of the example's two parts
abbrev pub lefts : List ℕ
lefts = 2 ∷ 4 ∷ []

-- the example's prices as the array has them: each part's from a multiple of 64 on
abbrev pub flat : List ℕ
flat = 5 ∷ 5 ∷ 5 ∷ 5 ∷ replicate 60 0 ++ (7 ∷ 7 ∷ 7 ∷ 7 ∷ replicate 956 0)

near : (j : ℕ) → mag (get_or places j (pos 0)) ≤ last_position
near zero = omega arith
near (suc zero) = omega arith
near (suc (suc zero)) = omega arith
near (suc (suc (suc zero))) = omega arith
near (suc (suc (suc (suc j)))) = omega arith

free : (j : ℕ) → length lives * price_stride ≤ j → get_or flat j 0 ≡ 0
free j h =
    let n = length lives * price_stride in
    let z : n + (j - n) ≡ j = omega arith in
    omega (arith, all_up_to_lem 0 (drop n flat) refl (j - n), get_or-drop n flat (j - n) 0 ∙ ap (λ (k : ℕ). get_or flat k 0) z)

first : (q : ℕ) → get_or lefts q 0 ≤ get_or lives q 0
first zero = omega arith
first (suc zero) = omega arith
first (suc (suc q)) = omega arith

own : (q : ℕ) → q < 2 → get_or job.parts q no_part ≡ lane_part 4 lives lefts flat q
own zero h = refl
own (suc zero) h = refl
own (suc (suc q)) h = absurd (omega arith)

-- the example's arrays hold its job
pub held : JobArrays job (pos 7) places fees lives lefts flat
unfolding clock running listed
held =
    record {
      arrays = record {
        few = omega arith;
        paid = refl;
        lives = record { some = omega arith; lefts = refl; brief = all_up_to_lem longest_life lives refl; begun = all_up_to_lem longest_life lefts refl; first = first };
        lanes = omega arith;
        prices = refl;
        fair = all_up_to_lem top fees refl;
        cheap = all_up_to_lem dear flat refl;
        free = free;
        near = near;
        late = omega arith;
        climbs = (refl, (refl, (refl, (refl, refl))));
      };
      ends = refl;
      places = refl;
      fees = refl;
      parts = refl;
      part = own;
    }
