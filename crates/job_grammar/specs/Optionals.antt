-- The idle steps of a job, as a text has them.
use Rattle.std.specs.Prelude.{ℕ, List, [], ◌∷◌, Option, Some, None}

-- idle steps as a text has them: it has no lines of none
unfoldable pub idle_lines : List ℕ → Option (List ℕ)
idle_lines [] = None
idle_lines (i ∷ is) = Some (i ∷ is)
