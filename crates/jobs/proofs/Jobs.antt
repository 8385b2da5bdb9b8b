-- The job that a struct holds, place by place: as many openings and parts as it counts, each valid where the job is. By the laws of `map` and `take`, and the arrays' lengths, which the type tells.
use Prim.Native.Nat.{ℕ, ◌≤◌, ◌<◌}
use mathlib.Core.Path.{◌≡◌, sym, ap, subst, ◌∙◌}
use mathlib.Core.List.{List, [], map}
use native.Mathlib.Omega.{arith}
use lib.ListN.{length, get_or, take, length-map, get_or-map}
use lib.Seq.{get_or-take, length-take-le, take-nil}
use Rattle.base.specs.Joined.{joined}
use Rattle.base.specs.Chosen.{chosen}
use Rattle.jobs.specs.Views.{blank_part_lem, opening_of, part_of_lem, job_of, Sized}
use Rattle.base.specs.Each.{All}
use Rattle.jobs.specs.Valid.{ValidOpening, ValidPart, ValidJob}
use Rattle.jobs.specs.declared.Opening.{Opening}
use Rattle.jobs.specs.declared.Part.{Part}
use Rattle.jobs.specs.declared.Job.{Job}
use Rattle.model.specs.Model as model
use Rattle.model.specs.Verdict.{no_part}
use Rattle.base.proofs.Lists.{all_at, map_at, firsts_size, firsts_at}

-- what stands past the end of an array of openings
abbrev pub blank_opening : Opening
blank_opening = record { step = 0; fee = 0 }

-- the record at place i of the struct's openings, a blank one past their end
abbrev pub opening_at : Job → ℕ → Opening
opening_at j i = get_or j.openings i blank_opening

-- the record at place k of the struct's parts, a blank one past their end
abbrev pub part_at : Job → ℕ → Part
part_at j k = get_or j.parts k blank_part_lem

-- the first m records, as parts with n prices
abbrev pub viewed : ℕ → ℕ → List Part → List model.Part
viewed n m parts = map (part_of_lem n) (take m parts)

-- the model's part at a place among the first m is made of the record there
pub part_viewed : (n m : ℕ) (parts : List Part) (k : ℕ) → k < m → get_or (viewed n m parts) k no_part ≡ part_of_lem n (get_or parts k blank_part_lem)
unfolding chosen joined
part_viewed n m parts k h =
    ap (λ (prices : List ℕ). get_or (viewed n m parts) k (record { life = 0; left = 0; removal = 0; holders = []; prices = prices })) (sym (take-nil n))
    ∙ get_or-map (part_of_lem n) (take m parts) k blank_part_lem
    ∙ ap (part_of_lem n) (get_or-take m parts k blank_part_lem h)

-- the counts of any job stay within its arrays
abbrev pub sized : (j : Job) → Sized j
sized j = record { idles = j.few_idles; openings = j.few_openings; parts = j.few_parts }

module _ (j : Job) where
  abbrev n : ℕ
  n = j.opening_count

  abbrev m : ℕ
  m = j.part_count

  -- the array of idle steps has as many entries as the job counts
  pub idles_long : j.idle_count ≤ length j.idles
  idles_long = omega (arith, j.few_idles, j.long_idles)

  pub openings_long : n ≤ length j.openings
  openings_long = omega (arith, j.few_openings, j.long_openings)

  -- the array of parts has as many records as the job counts
  pub parts_long : m ≤ length j.parts
  parts_long = omega (arith, j.few_parts, j.long_parts)

  -- as many idle steps are lent as it counts
  pub idles_taken : length (take j.idle_count j.idles) ≡ j.idle_count
  idles_taken = length-take-le j.idle_count j.idles idles_long

  -- as many openings
  pub openings_taken : length (take n j.openings) ≡ n
  openings_taken = length-take-le n j.openings openings_long

  -- and as many parts
  pub parts_taken : length (take m j.parts) ≡ m
  parts_taken = length-take-le m j.parts parts_long

  -- a part that is lent is the struct's record
  pub taken_at : (k : ℕ) → k < length (take m j.parts) → get_or (take m j.parts) k blank_part_lem ≡ part_at j k
  taken_at k h = get_or-take m j.parts k blank_part_lem (omega (arith, h, parts_taken))

  pub opening_count_lem2 : length (job_of j).openings ≡ n
  opening_count_lem2 = firsts_size opening_of j.openings n openings_long

  -- the model's job has as many parts as the struct counts
  pub part_count : length (job_of j).parts ≡ m
  part_count = firsts_size (part_of_lem n) j.parts m parts_long

  pub opening_at_lem : (i : ℕ) → i < n → get_or (job_of j).openings i (opening_of blank_opening) ≡ opening_of (opening_at j i)
  opening_at_lem i h = firsts_at opening_of j.openings n openings_long i blank_opening (opening_of blank_opening) h

  -- part k of the model's job is made of the struct's record k
  pub part_at_lem : (k : ℕ) → k < m → get_or (job_of j).parts k no_part ≡ part_of_lem n (part_at j k)
  part_at_lem k h = part_viewed n m j.parts k h

  -- the openings, seen through g
  pub seen_count : {B : Type 0} (g : model.Opening → B) → length (map g (job_of j).openings) ≡ n
  seen_count g = length-map (job_of j).openings g ∙ opening_count_lem2

  -- opening i of the model's job, seen through g, is the struct's opening i seen so
  pub seen_at : {B : Type 0} (g : model.Opening → B) (e : B) (i : ℕ) → i < n → get_or (map g (job_of j).openings) i e ≡ g (opening_of (opening_at j i))
  seen_at g e i h = map_at g (job_of j).openings i (opening_of blank_opening) e (rw opening_count_lem2 h) ∙ ap g (opening_at_lem i h)

  module _ (valid : ValidJob (job_of j)) where
    -- each opening that a valid job counts has its step and fee in range
    pub valid_opening : (i : ℕ) → i < n → ValidOpening (opening_of (opening_at j i))
    valid_opening i h = subst ValidOpening (opening_at_lem i h) (all_at ValidOpening (job_of j).openings (opening_of blank_opening) i valid.openings (rw opening_count_lem2 h))

    -- each part of a valid job is valid, with as many prices as openings are counted
    pub valid_parts : All (ValidPart n) (job_of j).parts
    valid_parts = subst (λ (x : ℕ). All (ValidPart x) (job_of j).parts) opening_count_lem2 valid.parts

    -- the struct's record of each part that a valid job counts makes a valid part
    pub valid_part : (k : ℕ) → k < m → ValidPart n (part_of_lem n (part_at j k))
    valid_part k h = subst (ValidPart n) (part_at_lem k h) (all_at (ValidPart n) (job_of j).parts no_part k valid_parts (rw part_count h))

    -- and so does each part that is lent
    pub valid_taken : (k : ℕ) → k < length (take m j.parts) → ValidPart n (part_of_lem n (get_or (take m j.parts) k blank_part_lem))
    valid_taken k h = subst (λ (p : Part). ValidPart n (part_of_lem n p)) (sym (taken_at k h)) (valid_part k (omega (arith, h, parts_taken)))
