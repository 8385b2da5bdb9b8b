-- What is known of an accepted job is a fact: it has one proof at most. By the structure of what is known, and recursion over lists.
use Prim.Native.Nat.{ℕ, suc}
use mathlib.Core.List.{List, [], ◌∷◌}
use lib.ListN.{length}
use Rattle.std.proofs.Props.{props}
use Rattle.model.specs.Model.{Opening, Part, Job}
use Rattle.model.specs.Windows.{Rising}
use Rattle.base.specs.Each.{All}
use Rattle.jobs.specs.Valid.{ValidOpening, ValidPrice, ValidPart, ValidHolders, HeldFrom, ValidJob}

-- of each of a list
pub all_fact : {A : Type 0} (P : A → Type 0) → ((a : A) → IsProp (P a)) → (l : List A) → IsProp (All P l)
all_fact P p [] = Prim.hlevel props
all_fact P p (x ∷ xs) = Prim.hlevel (props, p, all_fact P p xs)

-- that steps rise
pub rising_fact : (from T : ℕ) (ss : List ℕ) → IsProp (Rising from T ss)
rising_fact from T [] = Prim.hlevel props
rising_fact from T (s ∷ ss) = Prim.hlevel (props, rising_fact s T ss)

-- of a part's holders
holders_fact : (m k before : ℕ) (hs : List ℕ) → IsProp (ValidHolders m k before hs)
holders_fact m k before [] = Prim.hlevel props
holders_fact m k before (h ∷ hs) = Prim.hlevel (props, holders_fact m k h hs)

held_fact : (m k : ℕ) (ps : List Part) → IsProp (HeldFrom m k ps)
held_fact m k [] = Prim.hlevel props
held_fact m k (p ∷ ps) = Prim.hlevel (props, holders_fact m k 0 p.holders, held_fact m (suc k) ps)

opening_fact : (o : Opening) → IsProp (ValidOpening o)
opening_fact o = Prim.hlevel props

price_fact : (n : ℕ) → IsProp (ValidPrice n)
price_fact n = Prim.hlevel props

part_fact : (n : ℕ) (p : Part) → IsProp (ValidPart n p)
part_fact n p = Prim.hlevel (props, all_fact ValidPrice price_fact p.prices)

-- that a job is valid
pub valid_fact : (j : Job) → IsProp (ValidJob j)
valid_fact j = Prim.hlevel (props, rising_fact, all_fact ValidOpening opening_fact j.openings, all_fact (ValidPart (length j.openings)) (part_fact (length j.openings)) j.parts, held_fact)
