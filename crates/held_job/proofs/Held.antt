-- The arrays of any accepted job, with its charges added to the prices, hold the job as the search over openings and removals asks.
use Prim.Native.Nat.{ℕ, zero, suc, ◌+◌, ◌*◌, ◌≤◌, ◌<◌}
use mathlib.Core.Path.{◌≡◌, sym, ap, subst, ◌∙◌}
use mathlib.Core.Bool.{Bool, true, false, cond}
use mathlib.Core.List.{List, [], ◌∷◌, map}
use native.Mathlib.Omega.{arith}
use lib.ListN.{length, get_or, take, drop, length-map, length-drop, get_or-map}
use lib.Seq.{get_or-take, get_or-drop, length-take-le, ext_get_or}
use Rattle.model.specs.Limits.{dearest, most_parts}
use Rattle.model.specs.Model as model
use Rattle.model.specs.Model.{select, table, holding, comes_out, removal_of_lem}
use Rattle.model.specs.Decisions.{of_holders, charge, held_at}
use Rattle.model.specs.Verdict.{part_at, no_part}
use Rattle.model.proofs.Closure.{out_length}
use Rattle.model.proofs.Totals.{select-length}
use Rattle.jobs.specs.Views.{job_of}
use Rattle.jobs.specs.Valid.{ValidJob}
use Rattle.jobs.specs.declared.Job.{Job}
use Rattle.jobs.proofs.Jobs.{part_count}
use Rattle.clock.proofs.Places.{places_are}
use Rattle.coming_out.proofs.Rows.{row-take}
use Rattle.held_places.specs.Arrays.{need_stride, prices_at, needs_at, Lane, HeldJobArrays}
use Rattle.job_numbers.specs.Laid.{Numbered, prices_with, Laid}
use Rattle.held_job.specs.Removed.{HolderNumbersOf}
use Rattle.job_numbers.specs.declared.Numbers.{Numbers}
use Rattle.held_job.specs.declared.holders.HolderNumbers.{HolderNumbers}
use Rattle.job_numbers.proofs.Counts.{removal_range, Counted, counted, life_at_lem, left_at_lem, prices_at_lem}

-- what is added to a price is nothing, or a removal
charge_range : (job : model.Job) → ValidJob job → (q : ℕ) → charge job q (part_at job q) ≤ dearest
charge_range job valid q = go (get_or (holding job) q false)
  where
    go : (b : Bool) → cond b 0 (part_at job q).removal ≤ dearest
    go true = omega arith
    go false = removal_range (length job.openings) job.parts valid.parts q

-- no number of a selection is above all numbers
select_most : (xs : List ℕ) (ms : List Bool) (b : ℕ) → ((j : ℕ) → get_or xs j 0 ≤ b) → (i : ℕ) → get_or (select xs ms) i 0 ≤ b
unfolding select
select_most [] ms b f i = f i
select_most (x ∷ xs) [] b f i = omega arith
select_most (x ∷ xs) (false ∷ ms) b f i = select_most xs ms b (λ j. f (suc j)) i
select_most (x ∷ xs) (true ∷ ms) b f zero = f 0
select_most (x ∷ xs) (true ∷ ms) b f (suc i) = select_most xs ms b (λ j. f (suc j)) i

removals_range : (job : model.Job) → ValidJob job → (q : ℕ) → get_or (map removal_of_lem job.parts) q 0 ≤ dearest
removals_range job valid q = rw (get_or-map removal_of_lem job.parts q no_part) (removal_range (length job.openings) job.parts valid.parts q)

module _ (job : model.Job) (t : HolderNumbers) (holders : HolderNumbersOf job t) where
  -- of a list with an entry for each part, as many entries as there are parts that are somebody's holder
  held_count : {A : Type 0} (xs : List A) → length xs ≡ length job.parts → length (of_holders job xs) ≡ t.holding
  held_count xs e = select-length xs job.parts (holding job) e ∙ sym holders.holding

  -- the first entries of the removals array are the removals of the parts that are somebody's holder
  pub removals_are : take t.holding t.removals ≡ of_holders job (map removal_of_lem job.parts)
  removals_are =
      row-take 0 (of_holders job (map removal_of_lem job.parts)) t.removals t.holding (held_count (map removal_of_lem job.parts) (length-map job.parts removal_of_lem)) holders.few holders.removals

  -- there are as many removals as parts that are somebody's holder
  pub removals_long : length (take t.holding t.removals) ≡ t.holding
  removals_long = ap length removals_are ∙ held_count (map removal_of_lem job.parts) (length-map job.parts removal_of_lem)

  -- no removal is above the dearest
  pub removals_cheap : ValidJob job → (b : ℕ) → get_or (take t.holding t.removals) b 0 ≤ dearest
  removals_cheap valid b = omega (arith, ap (λ (l : List ℕ). get_or l b 0) removals_are, select_most (map removal_of_lem job.parts) (holding job) dearest (removals_range job valid) b)

  -- what is added to a part's prices is at most the dearest removal
  pub charges_range : ValidJob job → (q : ℕ) → q < most_parts → get_or t.charges q 0 ≤ dearest
  charges_range valid q h = subst (λ (x : ℕ). x ≤ dearest) (sym (holders.charges q h)) (charge_range job valid q)

  -- a part's needs, cut out of all of them
  needs_at_lem : (q : ℕ) → q < length job.parts → length job.parts ≤ most_parts → needs_at t.holding t.needs q ≡ of_holders job (comes_out job q)
  needs_at_lem q h most =
      ext_get_or false (needs_at t.holding t.needs q) (of_holders job (comes_out job q)) (long ∙ sym (held_count (comes_out job q) (out_length job q)))
      (λ i l. let g : i < t.holding = omega (arith, l, long) in
      get_or-take t.holding (drop (q * need_stride) t.needs) i false g ∙ get_or-drop (q * need_stride) t.needs i false ∙ holders.needs.at q i h (omega (arith, g, holders.few)))
    where
      long : length (needs_at t.holding t.needs q) ≡ t.holding
      long = length-take-le t.holding (drop (q * need_stride) t.needs) (omega (arith, length-drop (q * need_stride) t.needs, holders.needs.size, holders.few, h, most))

module _ (j : Job) (valid : ValidJob (job_of j)) (r : Numbers) (numbered : Numbered (job_of j) j.opening_count j.part_count r) (t : HolderNumbers)
    (holders : HolderNumbersOf (job_of j) t) (ps : List ℕ) (laid : Laid j.part_count (prices_with (job_of j) t.charges) ps) where
  abbrev n : ℕ
  n = j.opening_count

  abbrev m : ℕ
  m = j.part_count

  abbrev decided : List ℕ
  decided = take t.holding t.removals

  long : Counted n m r
  long = counted j r numbered

  -- the part as it is planned for
  lane : (q : ℕ) → q < length (take m r.lives)
      → Lane (held_at (job_of j) q (part_at (job_of j) q)) (get_or (take m r.lives) q 0) (get_or (take m r.lefts) q 0) (prices_at (length (take n r.placed.at)) ps q) (needs_at (length decided) t.needs q)
  lane q l =
      let h : q < m = omega (arith, l, long.lives) in
      let ns = (part_at (job_of j) q).prices in
      let added = ap (λ (c : ℕ). table (λ k. get_or ns k 0 + c) (length (job_of j).openings)) (holders.charges q (omega (arith, h, j.few_parts))) in
      record {
        life = sym (life_at_lem j r numbered q 0 h);
        left = sym (left_at_lem j r numbered q 0 h);
        prices = sym (ap (λ (k : ℕ). prices_at k ps q) long.places ∙ prices_at_lem j t.charges ps laid q h ∙ added);
        needs = sym (ap (λ (k : ℕ). needs_at k t.needs q) (removals_long (job_of j) t holders) ∙ needs_at_lem (job_of j) t holders q (omega (arith, h, part_count j)) (omega (arith, j.few_parts, part_count j)));
      }

  -- the arrays hold the job: its openings, its removals, and each part's life, prices and needs
  pub holds : HeldJobArrays (job_of j) r.placed.end (take n r.placed.at) (take n r.fees) (take m r.lives) (take m r.lefts) ps t.needs decided
  holds =
      record {
        ends = numbered.placed.end;
        places = places_are j r.placed numbered.placed;
        fees = numbered.fees;
        removals = removals_are (job_of j) t holders;
        parts = part_count j ∙ sym long.lives;
        lane = lane;
      }
