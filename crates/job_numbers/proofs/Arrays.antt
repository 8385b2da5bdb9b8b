-- The arrays of any accepted job, with something added to the prices of each part, are such as the searches ask for.
use Prim.Native.Nat.{ℕ, ◌≤◌, ◌<◌}
use mathlib.Core.Path.{sym, subst, ◌∙◌}
use mathlib.Core.List.{List}
use native.Mathlib.Omega.{arith}
use lib.ListN.{get_or, take}
use lib.IntN.{ℤ, pos}
use Rattle.model.specs.Model.{positions}
use Rattle.model.specs.Limits.{dearest}
use Rattle.model.specs.LastYes.{Climbs}
use Rattle.model.proofs.LastYes.{job_climbs}
use Rattle.jobs.specs.Views.{job_of}
use Rattle.jobs.specs.Valid.{ValidJob}
use Rattle.jobs.specs.declared.Job.{Job}
use Rattle.jobs.proofs.Jobs.{part_count}
use Rattle.clock.proofs.Places.{places_are}
use Rattle.search_tables.specs.Arrays.{Arrays}
use Rattle.job_numbers.specs.Laid.{Numbered, prices_with, Laid}
use Rattle.job_numbers.specs.declared.Numbers.{Numbers}
use Rattle.job_numbers.proofs.Counts.{Counted, counted, position_range, end_range, fee_at_most, life_at_most, left_at_most, left_within_life, prices_range}

module _ (j : Job) (valid : ValidJob (job_of j)) where
  abbrev n : ℕ
  n = j.opening_count

  abbrev m : ℕ
  m = j.part_count

  module _ (r : Numbers) (numbered : Numbered (job_of j) n m r) (added : List ℕ) (range : (q : ℕ) → q < m → get_or added q 0 ≤ dearest) (ps : List ℕ) (laid : Laid m (prices_with (job_of j) added) ps) where
    long : Counted n m r
    long = counted j r numbered

    -- the job's numbers, with at most the dearest removal added to each price, are what the plain search asks for
    pub plain_arrays : Arrays r.placed.end (take n r.placed.at) (take n r.fees) (take m r.lives) (take m r.lefts) ps
    plain_arrays =
        record {
          few = omega (arith, long.places, j.few_openings);
          paid = long.fees ∙ sym long.places;
          lives = record {
            some = omega (arith, long.lives, part_count j, valid.some_part);
            lefts = long.lefts ∙ sym long.lives;
            brief = life_at_most j r numbered valid;
            begun = left_at_most j r numbered valid;
            first = left_within_life j r numbered valid;
          };
          lanes = omega (arith, long.lives, j.few_parts);
          prices = laid.size;
          fair = fee_at_most j r numbered valid;
          cheap = prices_range j valid added dearest range ps laid;
          free = λ x h. laid.rest x (omega (arith, h, long.lives));
          near = position_range j r numbered;
          late = end_range j r numbered;
          climbs = subst (λ (ss : List ℤ). Climbs r.placed.end (pos 0) ss) (sym (places_are j r.placed numbered.placed))
              (subst (λ (e : ℤ). Climbs e (pos 0) (positions (job_of j))) (sym numbered.placed.end) (job_climbs (job_of j) valid.rising));
        }
