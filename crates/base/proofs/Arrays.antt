-- What a loop's array holds after one more element was stored at the end of what it has, by the library's law of one store.
use Prim.Native.Nat.{ℕ, ◌+◌, ◌<◌}
use mathlib.Core.Path.{◌≡◌}
use mathlib.Core.List.{List, [], ◌∷◌, ◌++◌, map, map-append}
use native.Mathlib.Numerals.{add-one}
use lib.ListN.{length, take, set}
use lib.Seq.{take-suc-set}

-- one element stored behind the first i gives an array whose first i + 1 are those and it
pub take_more : {A : Type 0} (i : ℕ) (xs : List A) (x : A) → i < length xs → take (i + 1) (set xs i x) ≡ take i xs ++ x ∷ []
take_more i xs x h = rw (add-one, take-suc-set xs i x h)

-- one element stored behind the first i puts its value under f behind theirs
pub map-take_more : {A B : Type 0} (f : A → B) (i : ℕ) (xs : List A) (x : A) → i < length xs → map f (take (i + 1) (set xs i x)) ≡ map f (take i xs) ++ f x ∷ []
map-take_more f i xs x h = rw take_more (map-append f (take i xs) (x ∷ []))
