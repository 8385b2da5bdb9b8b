-- The arrays of a job without holders, with its removals added to its prices, hold the job so charged (`model/Unheld`) as the search over the openings asks; and what that search finds is the model's answer.
use Prim.Native.Nat.{ℕ, ◌+◌, ◌*◌, ◌≤◌, ◌<◌}
use mathlib.Core.Path.{◌≡◌, sym, ap, ap₂, ◌∙◌}
use mathlib.Core.Bool.{false}
use mathlib.Core.List.{List, []}
use native.Mathlib.Omega.{arith}
use lib.ListN.{length, get_or, take, drop, length-map, get_or-map}
use Rattle.model.specs.Model.{clock, table, has_holder_lem, removal_of_lem}
use Rattle.model.specs.Limits.{dearest}
use Rattle.model.specs.Verdict.{no_part, part_at}
use Rattle.model.specs.Promise.{answer_of}
use Rattle.model.specs.Unheld.{charged_part, charged_job}
use Rattle.model.proofs.NoHolders.{none_held}
use Rattle.model.proofs.Unheld.{same_answer}
use Rattle.jobs.specs.Views.{job_of}
use Rattle.jobs.specs.Valid.{ValidJob}
use Rattle.jobs.specs.declared.Job.{Job}
use Rattle.base.proofs.Lists.{map_at}
use Rattle.jobs.proofs.Jobs.{opening_count_lem2, part_count}
use Rattle.clock.proofs.Places.{places_are}
use Rattle.coming_out.specs.Rows.{Removals}
use Rattle.held_places.specs.Arrays.{price_stride}
use Rattle.search_tables.specs.Arrays.{lane_part, JobArrays}
use Rattle.search.specs.declared.Found.{Found}
use Rattle.search.specs.Found.{Finds, said_in}
use Rattle.search.proofs.Answered.{said}
use Rattle.job_numbers.specs.Laid.{Numbered, prices_with, Laid}
use Rattle.job_numbers.specs.declared.Numbers.{Numbers}
use Rattle.job_numbers.proofs.Counts.{removal_range, Counted, counted, life_at_lem, left_at_lem, prices_at_lem}
use Rattle.job_numbers.proofs.Arrays.{plain_arrays}

module _ (j : Job) where
  abbrev n : ℕ
  n = j.opening_count

  abbrev m : ℕ
  m = j.part_count

  -- as many parts
  charged_count : length (charged_job (job_of j)).parts ≡ m
  charged_count = length-map (job_of j).parts (charged_part (length (job_of j).openings)) ∙ part_count j

  -- what the search hands back, read with the struct's counts, is the model's answer
  pub job_said : has_holder_lem (job_of j) ≡ false → (limit : ℕ) (r : Found) → Finds (charged_job (job_of j)) limit r → said_in n m r ≡ answer_of (job_of j) limit
  job_said free limit r a =
      ap₂ (λ (n m : ℕ). said_in n m r) (sym (opening_count_lem2 j)) (sym charged_count)
      ∙ said (charged_job (job_of j)) limit r a
      ∙ sym (same_answer (job_of j) (none_held (job_of j).parts free) limit)

  module _ (valid : ValidJob (job_of j)) (added : List ℕ) (removals : Removals (job_of j) added) where
    -- what is added is the part's removal
    removed : (q : ℕ) → get_or added q 0 ≡ (part_at (job_of j) q).removal
    removed q = removals.at q ∙ get_or-map removal_of_lem (job_of j).parts q no_part

    -- what is added to a part's prices is at most the dearest removal
    pub removed_range : (q : ℕ) → get_or added q 0 ≤ dearest
    removed_range q = omega (arith, removed q, removal_range (length (job_of j).openings) (job_of j).parts valid.parts q)

    -- ---- the arrays

    module _ (r : Numbers) (numbered : Numbered (job_of j) n m r) (ps : List ℕ) (laid : Laid m (prices_with (job_of j) added) ps) where
      long : Counted n m r
      long = counted j r numbered

      -- the part, charged
      part : (q : ℕ) → q < length (take m r.lives) → part_at (charged_job (job_of j)) q ≡ lane_part (length (take n r.placed.at)) (take m r.lives) (take m r.lefts) ps q
      part q l =
          let h : q < m = omega (arith, l, long.lives) in
          let ns = (part_at (job_of j) q).prices in
          let life = life_at_lem j r numbered q (get_or (take m r.lives) 0 0) h in
          let left = left_at_lem j r numbered q (get_or (take m r.lefts) 0 0) h in
          let prices = ap (λ (k : ℕ). take k (drop (q * price_stride) ps)) long.places ∙ prices_at_lem j added ps laid q h ∙ ap (λ (c : ℕ). table (λ k. get_or ns k 0 + c) (length (job_of j).openings)) (removed q) in
          map_at (charged_part (length (job_of j).openings)) (job_of j).parts q no_part no_part (omega (arith, h, part_count j))
          ∙ (λ i. record { life = sym life i; left = sym left i; removal = 0; holders = []; prices = sym prices i })

      -- the arrays of the job's numbers hold the job with each removal added to its part's prices
      pub holds_charged : JobArrays (charged_job (job_of j)) r.placed.end (take n r.placed.at) (take n r.fees) (take m r.lives) (take m r.lefts) ps
      unfolding clock
      holds_charged =
          record {
            arrays = plain_arrays j valid r numbered added (λ q h. removed_range q) ps laid;
            ends = numbered.placed.end;
            places = places_are j r.placed numbered.placed;
            fees = numbered.fees;
            parts = charged_count ∙ sym long.lives;
            part = part;
          }
