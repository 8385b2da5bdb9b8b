-- The least of the parts' lives, part by part. By one unfolding of the definition.
use Prim.Native.Nat.{ℕ, ◌+◌, ◌≤◌, ◌<◌, min}
use mathlib.Core.Path.{◌≡◌, refl, sym, ap, ◌∙◌}
use mathlib.Core.List.{List, [], ◌∷◌, map}
use native.Mathlib.Omega.{arith}
use native.Mathlib.Numerals.{add-one}
use lib.ListN.{length, get_or, drop, drop_of_length-le}
use lib.Seq.{drop-cons}
use Rattle.model.specs.Model.{Part}
use Rattle.model.specs.Verdict.{no_part}
use Rattle.model.specs.Limits.{longest_life}
use Rattle.longest_walk.specs.Count.{least_among}
use Rattle.jobs.specs.declared.Part as code
use Rattle.jobs.specs.Views.{part_of_lem}

module _ (f : Part → ℕ) (parts : List Part) where
  -- a is the least of the first q parts, so that with the rest after them it is the least of all
  abbrev pub Least : ℕ → ℕ → Type 0
  Least q a = least_among f a (drop q parts) ≡ least_among f longest_life parts

  -- the smaller of the least so far and the next part's value is the least of one part more
  pub least_more : (q a x : ℕ) → q < length parts → x ≡ min a (f (get_or parts q no_part)) → Least q a → Least (q + 1) x
  least_more q a x h e l = rw (add-one q, e) (sym (ap (least_among f a) (drop-cons parts q no_part h)) ∙ l)

  -- after all parts, the least so far is the least of them all
  pub least_all : (q a : ℕ) → length parts ≤ q → Least q a → a ≡ least_among f longest_life parts
  least_all q a h l = sym (ap (least_among f a) (drop_of_length-le parts {i = q} h)) ∙ l

-- the least of a number and of the parts' values is at most that number
pub least_most : (f : Part → ℕ) (a : ℕ) (parts : List Part) → least_among f a parts ≤ a
least_most f a [] = omega arith
least_most f a (part ∷ parts) = omega (arith, least_most f (min a (f part)) parts)

-- the prices of a record do not matter
pub same_lives : (f : Part → ℕ) (n : ℕ) → ((p : code.Part) → f (part_of_lem 0 p) ≡ f (part_of_lem n p)) → (l : List code.Part) (a : ℕ) → least_among f a (map (part_of_lem 0) l) ≡ least_among f a (map (part_of_lem n) l)
same_lives f n g [] a = refl
same_lives f n g (p ∷ l) a = same_lives f n g l (min a (f (part_of_lem 0 p))) ∙ ap (λ (x : ℕ). least_among f (min a x) (map (part_of_lem n) l)) (g p)
