-- The last yes of a node, where positions never fall: what its term of E4 is found by, and whether its bound is missing (E6).
use Rattle.std.specs.Prelude.{◌≡◌, Bool, true, false, List, [], ◌∷◌, ℕ, zero, suc, get_or, ℤ, pos}
use Rattle.std.specs.Int.Signed.{le_z}

-- one decision before others whose last yes is known
abbrev pub after_one_lem : Bool → ℕ → ℕ
after_one_lem x (suc i) = suc (suc i)
after_one_lem true zero = 1
after_one_lem false zero = 0

-- the last yes of a node, numbered from 1; 0 if there is none: the first decision counts only where none after it is a yes
unfoldable pub last_yes : List Bool → ℕ
last_yes [] = 0
last_yes (x ∷ p) = after_one_lem x (last_yes p)

-- the position of mark m, of openings at these positions: mark 0 is the change before the first opening, "last changed at step R − L"; mark k + 1, the number of a last yes, is opening k
abbrev pub mark_in : ℤ → List ℤ → ℕ → ℤ
mark_in prev ss m = get_or (prev ∷ ss) m (pos 0)

-- positions that never fall, from `prev` up to the end
abbrev pub Climbs : ℤ → ℤ → List ℤ → Type 0
Climbs end prev [] = le_z prev end ≡ true
Climbs end prev (s ∷ ss) = (le_z prev s ≡ true) × Climbs end s ss
