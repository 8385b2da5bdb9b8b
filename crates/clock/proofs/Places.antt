-- The positions of a job's openings, place by place, and how an array comes to hold them.
use Prim.Native.Nat.{ℕ, ◌+◌, ◌<◌}
use mathlib.Core.Path.{◌≡◌, sym, ap, ap₂, subst, ◌∙◌}
use mathlib.Core.List.{List, [], ◌∷◌, ◌++◌}
use native.Mathlib.Omega.{arith}
use native.Mathlib.Numerals.{add-one}
use lib.ListN.{length, get_or, take, set}
use lib.Seq.{get_or-take, take-suc, take_all}
use lib.IntN.{ℤ, pos}
use Rattle.base.proofs.Arrays.{take_more}
use Rattle.model.specs.Model as model
use Rattle.model.specs.Model.{clock, positions, end}
use Rattle.jobs.specs.Views.{job_of}
use Rattle.jobs.specs.Valid.{ValidJob}
use Rattle.jobs.specs.declared.Job.{Job}
use Rattle.clock.specs.Placed.{Position, Placed}
use Rattle.clock.specs.declared.positions.Positions.{Positions}
use Rattle.clock.proofs.Ranges.{clocked}
use Rattle.jobs.proofs.Jobs.{opening_at, opening_count_lem2, seen_count, seen_at, valid_opening}

-- one more stored: the first i + 1 agree
pub take_next : {A : Type 0} (k l : List A) (i : ℕ) (x d : A) → i < length k → i < length l → take i k ≡ take i l → x ≡ get_or l i d → take (i + 1) (set k i x) ≡ take (i + 1) l
take_next {A} k l i x d g h t e = take_more i k x g ∙ rw (add-one, take-suc l i d h) (ap₂ (λ (a : List A) (y : A). a ++ y ∷ []) t e)

module _ (j : Job) where
  abbrev clocks : model.Opening → ℤ
  clocks o = clock (job_of j) o.step

  -- there are as many positions as the job counts openings
  pub position_count : length (positions (job_of j)) ≡ j.opening_count
  position_count = seen_count j clocks

  -- the position of opening i is the clock at its step
  pub position_at : (i : ℕ) → i < j.opening_count → get_or (positions (job_of j)) i (pos 0) ≡ clock (job_of j) (opening_at j i).step
  position_at = seen_at j clocks (pos 0)

  -- as many of the array's entries as there are openings are their positions
  pub places_are : (p : Positions) → Placed (job_of j) p → take j.opening_count p.at ≡ positions (job_of j)
  places_are p placed = subst (λ (k : ℕ). take k p.at ≡ positions (job_of j)) (opening_count_lem2 j) placed.openings

  -- the array's first entries that count are as many as the job's openings
  pub place_count : (p : Positions) → Placed (job_of j) p → length (take j.opening_count p.at) ≡ j.opening_count
  place_count p placed = ap length (places_are p placed) ∙ position_count

  module _ (valid : ValidJob (job_of j)) where
    -- the position of an opening, and the end
    pub here_range : (i : ℕ) → i < j.opening_count → Position (clock (job_of j) (opening_at j i).step)
    here_range i h = clocked (job_of j) (opening_at j i).step (omega (arith, (valid_opening j valid i h).step_high))

    -- the end of a valid job's lives lies at most at the last position
    pub end_range : Position (end (job_of j))
    end_range = clocked (job_of j) (j.horizon + 1) (omega (arith, valid.horizon_high))

    -- as many entries as there are openings are the positions
    pub placed : (p : Positions) → take j.opening_count p.at ≡ take j.opening_count (positions (job_of j)) → p.end ≡ end (job_of j) → Placed (job_of j) p
    placed p t s =
        record {
          openings = rw (opening_count_lem2 j) same;
          end = s;
          ranges = λ i h.
              let g : i < j.opening_count = rw (opening_count_lem2 j) at h in
              subst Position (sym (position_at i g) ∙ ap (λ (l : List ℤ). get_or l i (pos 0)) (sym same) ∙ get_or-take j.opening_count p.at i (pos 0) g) (here_range i g);
          end_range = subst Position (sym s) end_range;
        }
      where
        same : take j.opening_count p.at ≡ positions (job_of j)
        same = t ∙ take_all j.opening_count (positions (job_of j)) (omega (arith, position_count))

-- what the struct holds at place i
pub place_is : {job : model.Job} (p : Positions) → Placed job p → (i : ℕ) → i < length job.openings → get_or p.at i (pos 0) ≡ get_or (positions job) i (pos 0)
place_is {job} p placed i h = sym (get_or-take (length job.openings) p.at i (pos 0) h) ∙ ap (λ (l : List ℤ). get_or l i (pos 0)) placed.openings
