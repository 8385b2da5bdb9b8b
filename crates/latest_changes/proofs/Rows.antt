-- The parts one after the other: the changes of the first k are made, and once all are, with the job's positions, it is the model's plan. By the law of one store.
use Prim.Native.Nat.{ℕ, ◌+◌, ◌<◌}
use mathlib.Core.Path.{◌≡◌, sym, ap, ◌∙◌}
use mathlib.Core.Bool.{Bool}
use mathlib.Core.List.{List, [], ◌∷◌, ◌++◌, map, map-append, map-map}
use native.Mathlib.Omega.{arith}
use native.Mathlib.Numerals.{add-one}
use lib.ListN.{length, get_or, take, set}
use lib.Seq.{take-suc}
use lib.IntN.{pos}
use Rattle.base.proofs.Arrays.{map-take_more}
use Rattle.model.specs.Model.{Plan, last_change_lem}
use Rattle.jobs.specs.Views.{blank_part_lem, part_of_lem, job_of, changes_of, changes_for}
use Rattle.jobs.specs.declared.Part.{Part}
use Rattle.jobs.specs.declared.Job.{Job}
use Rattle.jobs.specs.declared.Changes.{Changes}
use Rattle.jobs.proofs.Jobs.{opening_count_lem2}
use Rattle.clock.specs.Placed.{Placed}
use Rattle.clock.specs.declared.positions.Positions.{Positions}
use Rattle.clock.proofs.Places.{places_are}
use Rattle.latest.specs.Latest.{latest_from, latest_of_lem, latest_plan_of}
use Rattle.latest_changes.specs.Stops.{Ranged}

module _ (n : ℕ) (p : Positions) (stops : List Bool) where
  -- a part's latest changes, by the arrays that the code reads
  abbrev pub row_of : Part → List Bool
  row_of part = latest_from (pos part.life) p.end (last_change_lem (part_of_lem n part)) (take n p.at) (take n stops)

  -- those of the first k parts are made
  abbrev pub RowsTo : List Part → ℕ → List Changes → Type 0
  RowsTo parts k rows = changes_of n k rows ≡ map row_of (take k parts)

  -- one part's changes stored behind the first k make those of k + 1 parts
  pub rows_more : (parts : List Part) (k : ℕ) (rows : List Changes) (row : Changes) → k < length parts → k < length rows → take n row.at ≡ row_of (get_or parts k blank_part_lem) → RowsTo parts k rows
      → RowsTo parts (k + 1) (set rows k row)
  rows_more parts k rows row h g e r =
      map-take_more (λ (c : Changes). take n c.at) k rows row g
      ∙ (λ i. r i ++ e i ∷ [])
      ∙ sym (ap (λ (q : ℕ). map row_of (take q parts)) (add-one k) ∙ ap (map row_of) (take-suc parts k blank_part_lem h) ∙ map-append row_of (take k parts) (get_or parts k blank_part_lem ∷ []))

module _ (j : Job) (p : Positions) (placed : Placed (job_of j) p) where
  -- the positions of a job are ranged
  pub ranged : Ranged j.opening_count p
  ranged = record {
    few = j.few_openings;
    long = omega (arith, j.few_openings, p.long);
    openings = λ i h. placed.ranges i (rw (opening_count_lem2 j) h);
    end = placed.end_range;
  }

  -- the struct with all parts' changes made is the plan of the latest changes at these stops
  pub plan_is : (stops : List Bool) (rows : List Changes) → RowsTo j.opening_count p stops j.parts j.part_count rows
      → ◌≡◌ {A = Plan} (record { stops = take j.opening_count stops; changes = changes_for j rows }) (latest_plan_of (job_of j) (take j.opening_count stops))
  plan_is stops rows r =
      let ss = take j.opening_count stops in
      let f : (part : Part) → row_of j.opening_count p stops part ≡ latest_of_lem (job_of j) ss (part_of_lem j.opening_count part) =
      λ part i. latest_from (pos part.life) (placed.end i) (last_change_lem (part_of_lem j.opening_count part)) (places_are j p placed i) ss in
      let g = r ∙ (λ i. map (λ (part : Part). f part i) (take j.part_count j.parts)) ∙ sym (map-map (latest_of_lem (job_of j) ss) (part_of_lem j.opening_count) (take j.part_count j.parts)) in
      λ i. record { stops = ss; changes = g i }
