-- The arrays that the code lays out: as many numbers as the job has openings and parts, and their ranges at every place.
use Prim.Native.Nat.{ℕ, zero, suc, ◌+◌, ◌*◌, ◌/◌, ◌%◌, ◌≤◌, ◌<◌}
use mathlib.Core.Path.{◌≡◌, sym, ap, subst, ◌∙◌}
use mathlib.Core.List.{List, [], ◌∷◌, map}
use native.Mathlib.Omega.{arith}
use native.Mathlib.Decide.{dec_lt}
use native.Mathlib.Nat.{mod-lt, div-add-mod'}
use lib.ListN.{length, get_or, take, drop, length-map, length-drop, get_or-map, get_or-eq_default}
use lib.Seq.{get_or-take, get_or-drop, length-take-le, ext_get_or}
use lib.IntN.{ℤ, pos}
use lib.Signed.{mag}
use Rattle.model.specs.Model as model
use Rattle.model.specs.Model.{fee_of}
use Rattle.model.specs.Verdict.{no_part}
use Rattle.model.specs.Limits.{last_position, longest_life, dearest, most_openings, most_parts}
use Rattle.base.proofs.Bools.{there}
use Rattle.model.proofs.Lists.{table-length, table_at}
use Rattle.jobs.specs.Views.{opening_of, job_of}
use Rattle.base.specs.Each.{All}
use Rattle.jobs.specs.Valid.{ValidOpening, ValidPrice, ValidPart, ValidJob}
use Rattle.jobs.specs.declared.Job.{Job}
use Rattle.jobs.proofs.Jobs.{blank_opening, opening_count_lem2, part_count, seen_count, valid_parts}
use Rattle.clock.proofs.Places.{place_count}
use Rattle.clock.proofs.Ranges.{position_small}
use Rattle.coming_out.proofs.Rows.{past}
use Rattle.held_places.specs.Arrays.{price_stride}
use Rattle.job_numbers.specs.Laid.{life_of_lem, left_of, Numbered, prices_with, Laid}
use Rattle.job_numbers.specs.declared.Numbers.{Numbers}

-- ---- ranges at every place, past the end too

every : {A : Type 0} (P Q : A → Type 0) (d : A) → Q d → ((a : A) → P a → Q a) → (l : List A) → All P l → (i : ℕ) → Q (get_or l i d)
every P Q d q f [] h i = q
every P Q d q f (x ∷ l) h zero = f x h.0
every P Q d q f (x ∷ l) h (suc i) = every P Q d q f l h.1 i

fee_range : (os : List model.Opening) → All ValidOpening os → (i : ℕ) → get_or (map fee_of os) i 0 ≤ dearest
fee_range os h i =
    subst (λ (x : ℕ). x ≤ dearest) (sym (get_or-map fee_of os i (opening_of blank_opening)))
    (every ValidOpening (λ (o : model.Opening). o.fee ≤ dearest) (opening_of blank_opening) (omega arith) (λ o v. v.fee) os h i)

module _ (n : ℕ) (parts : List model.Part) (valid : All (ValidPart n) parts) where
  life_range : (q : ℕ) → get_or (map life_of_lem parts) q 0 ≤ longest_life
  life_range q =
      subst (λ (x : ℕ). x ≤ longest_life) (sym (get_or-map life_of_lem parts q no_part))
      (every (ValidPart n) (λ (p : model.Part). p.life ≤ longest_life) no_part (omega arith) (λ p v. v.life_high) parts valid q)

  left_range : (q : ℕ) → get_or (map left_of parts) q 0 ≤ longest_life
  left_range q =
      subst (λ (x : ℕ). x ≤ longest_life) (sym (get_or-map left_of parts q no_part))
      (every (ValidPart n) (λ (p : model.Part). p.left ≤ longest_life) no_part (omega arith) (λ p v. omega (arith, v.left_high, v.life_high)) parts valid q)

  -- "R at most L"
  left_life : (q : ℕ) → get_or (map left_of parts) q 0 ≤ get_or (map life_of_lem parts) q 0
  left_life q =
      rw (get_or-map left_of parts q no_part, get_or-map life_of_lem parts q no_part)
      (every (ValidPart n) (λ (p : model.Part). p.left ≤ p.life) no_part (omega arith) (λ p v. v.left_high) parts valid q)

  -- the removal of a valid job's part is at most the highest that the text allows
  pub removal_range : (q : ℕ) → (get_or parts q no_part).removal ≤ dearest
  removal_range = every (ValidPart n) (λ (p : model.Part). p.removal ≤ dearest) no_part (omega arith) (λ p v. omega (arith, v.removal)) parts valid

  -- every price of a valid job's part is at most the highest that the text allows
  pub price_range : (q i : ℕ) → get_or (get_or parts q no_part).prices i 0 ≤ dearest
  price_range =
      every (ValidPart n) (λ (p : model.Part). (i : ℕ) → get_or p.prices i 0 ≤ dearest) no_part (λ i. omega arith)
      (λ p v. every ValidPrice (λ (x : ℕ). x ≤ dearest) 0 (omega arith) (λ x h. h.1) p.prices v.prices) parts valid

-- ---- prices, by their place

-- as many as there are openings
pub with_length : (job : model.Job) (added : List ℕ) (q : ℕ) → length (prices_with job added q) ≡ length job.openings
with_length job added q = table-length (λ k. get_or (get_or job.parts q no_part).prices k 0 + get_or added q 0) (length job.openings)

with_range : (job : model.Job) (added : List ℕ) (b : ℕ) → All (ValidPart (length job.openings)) job.parts → (q i : ℕ) → get_or added q 0 ≤ b → get_or (prices_with job added q) i 0 ≤ dearest + b
with_range job added b valid q i f = go (dec_lt i (length job.openings))
  where
    price : ℕ → ℕ
    price k = get_or (get_or job.parts q no_part).prices k 0 + get_or added q 0

    go : Dec (i < length job.openings) → get_or (prices_with job added q) i 0 ≤ dearest + b
    go (yes l) = rw (table_at price (length job.openings) i 0 l) (omega (arith, price_range (length job.openings) job.parts valid q i, f))
    go (no l) = rw (past 0 price (length job.openings) i (omega (arith, l))) (omega arith)

module _ (m : ℕ) (row : ℕ → List ℕ) (ps : List ℕ) (laid : Laid m row ps) where
  laid_range : (b : ℕ) → ((q i : ℕ) → q < m → get_or (row q) i 0 ≤ b) → (x : ℕ) → get_or ps x 0 ≤ b
  laid_range b f x = go (dec_lt (x / price_stride) m)
    where
      go : Dec (x / price_stride < m) → get_or ps x 0 ≤ b
      go (yes l) =
          subst (λ (y : ℕ). y ≤ b)
          (sym (ap (λ (y : ℕ). get_or ps y 0) (sym (div-add-mod' x price_stride)) ∙ laid.price (x / price_stride) (x % price_stride) l (mod-lt x (omega arith))))
          (f (x / price_stride) (x % price_stride) l)
      go (no l) = rw (laid.rest x (omega (arith, l))) (omega arith)

  -- a row, cut out of all of them
  pub row_is : (n q : ℕ) → q < m → n ≤ most_openings → m ≤ most_parts → length (row q) ≡ n → take n (drop (q * price_stride) ps) ≡ row q
  row_is n q h few most e =
      ext_get_or 0 (take n (drop (q * price_stride) ps)) (row q) (long ∙ sym e)
      (λ i l. let g : i < n = omega (arith, l, long) in get_or-take n (drop (q * price_stride) ps) i 0 g ∙ get_or-drop (q * price_stride) ps i 0 ∙ laid.price q i h (omega (arith, g, few)))
    where
      long : length (take n (drop (q * price_stride) ps)) ≡ n
      long = length-take-le n (drop (q * price_stride) ps) (omega (arith, length-drop (q * price_stride) ps, laid.size, h, few, most))

-- ---- counts

-- there are n openings and m parts
pub record Counted (n m : ℕ) (r : Numbers) : Type 0 where
  -- the array of positions has n entries that count, one for each opening
  pub places : length (take n r.placed.at) ≡ n
  -- the array of fees has n entries that count, one for each opening
  pub fees : length (take n r.fees) ≡ n
  -- the array of lives has m entries that count, one for each part
  pub lives : length (take m r.lives) ≡ m
  -- the array of first lives has m entries that count, one for each part
  pub lefts : length (take m r.lefts) ≡ m

module _ (j : Job) where
  abbrev n : ℕ
  n = j.opening_count

  abbrev m : ℕ
  m = j.part_count

  lane_count : (f : model.Part → ℕ) (l : List ℕ) → take m l ≡ map f (job_of j).parts → length (take m l) ≡ m
  lane_count f l e = ap length e ∙ length-map (job_of j).parts f ∙ part_count j

  -- a part's number in its lane
  lane_at_lem : (f : model.Part → ℕ) (l : List ℕ) → take m l ≡ map f (job_of j).parts → (q d : ℕ) → q < m → get_or (take m l) q d ≡ f (get_or (job_of j).parts q no_part)
  lane_at_lem f l e q d h =
      ap (λ (x : List ℕ). get_or x q d) e
      ∙ there (map f (job_of j).parts) q d (f no_part) (omega (arith, length-map (job_of j).parts f, part_count j))
      ∙ get_or-map f (job_of j).parts q no_part

  -- with at most b added to a price
  pub prices_range : (valid : ValidJob (job_of j)) (added : List ℕ) (b : ℕ) → ((q : ℕ) → q < m → get_or added q 0 ≤ b) → (ps : List ℕ) → Laid m (prices_with (job_of j) added) ps → (x : ℕ) → get_or ps x 0 ≤ dearest + b
  prices_range valid added b f ps laid = laid_range m (prices_with (job_of j) added) ps laid (dearest + b) (λ q i h. with_range (job_of j) added b valid.parts q i (f q h))

  -- a part's prices, cut out of all of them
  pub prices_at_lem : (added ps : List ℕ) → Laid m (prices_with (job_of j) added) ps → (q : ℕ) → q < m → take n (drop (q * price_stride) ps) ≡ prices_with (job_of j) added q
  prices_at_lem added ps laid q h =
      row_is m (prices_with (job_of j) added) ps laid n q h j.few_openings j.few_parts (with_length (job_of j) added q ∙ opening_count_lem2 j)

  module _ (r : Numbers) (numbered : Numbered (job_of j) n m r) where
    -- the arrays of a job's numbers hold as many as it has openings and parts
    pub counted : Counted n m r
    counted =
        record {
          places = place_count j r.placed numbered.placed;
          fees = ap length numbered.fees ∙ seen_count j fee_of;
          lives = lane_count life_of_lem r.lives numbered.lives;
          lefts = lane_count left_of r.lefts numbered.lefts;
        }

    -- the life laid out for part q is the life of the job's part there
    pub life_at_lem : (q d : ℕ) → q < m → get_or (take m r.lives) q d ≡ (get_or (job_of j).parts q no_part).life
    life_at_lem = lane_at_lem life_of_lem r.lives numbered.lives

    -- the first life laid out for part q is that of the job's part there
    pub left_at_lem : (q d : ℕ) → q < m → get_or (take m r.lefts) q d ≡ (get_or (job_of j).parts q no_part).left
    left_at_lem = lane_at_lem left_of r.lefts numbered.lefts

    -- a position is at most the last one, either way; past the end it is 0
    pub position_range : (i : ℕ) → mag (get_or (take n r.placed.at) i (pos 0)) ≤ last_position
    position_range i = go (dec_lt i n)
      where
        go : Dec (i < n) → mag (get_or (take n r.placed.at) i (pos 0)) ≤ last_position
        go (yes h) =
            subst (λ (z : ℤ). mag z ≤ last_position) (sym (get_or-take n r.placed.at i (pos 0) h))
            (position_small (get_or r.placed.at i (pos 0)) (numbered.placed.ranges i (rw (opening_count_lem2 j) h)))
        go (no h) =
            subst (λ (z : ℤ). mag z ≤ last_position) (sym (get_or-eq_default (take n r.placed.at) (pos 0) {n = i} (omega (arith, h, counted.places)))) (omega arith)

    -- so is the end
    pub end_range : mag r.placed.end ≤ last_position
    end_range = position_small r.placed.end numbered.placed.end_range

    module _ (valid : ValidJob (job_of j)) where
      -- a fee is at most the dearest
      pub fee_at_most : (i : ℕ) → get_or (take n r.fees) i 0 ≤ dearest
      fee_at_most i = subst (λ (l : List ℕ). get_or l i 0 ≤ dearest) (sym numbered.fees) (fee_range (job_of j).openings valid.openings i)

      -- a life is at most the longest
      pub life_at_most : (q : ℕ) → get_or (take m r.lives) q 0 ≤ longest_life
      life_at_most q = subst (λ (l : List ℕ). get_or l q 0 ≤ longest_life) (sym numbered.lives) (life_range n (job_of j).parts (valid_parts j valid) q)

      -- so is a first life
      pub left_at_most : (q : ℕ) → get_or (take m r.lefts) q 0 ≤ longest_life
      left_at_most q = subst (λ (l : List ℕ). get_or l q 0 ≤ longest_life) (sym numbered.lefts) (left_range n (job_of j).parts (valid_parts j valid) q)

      -- "R at most L"
      pub left_within_life : (q : ℕ) → get_or (take m r.lefts) q 0 ≤ get_or (take m r.lives) q 0
      left_within_life q =
          subst (λ (l : List ℕ). get_or l q 0 ≤ get_or (take m r.lives) q 0) (sym numbered.lefts)
          (subst (λ (l : List ℕ). get_or (map left_of (job_of j).parts) q 0 ≤ get_or l q 0) (sym numbered.lives) (left_life n (job_of j).parts (valid_parts j valid) q))
