-- Low ends of which one is there.
use Rattle.std.specs.Prelude.{ℕ, Bool, false, ◌||◌, List, [], ◌∷◌, Option, is_some}

-- one of these is there
unfoldable pub one_of : List (Option ℕ) → Bool
one_of [] = false
one_of (l ∷ ls) = is_some l || one_of ls
