-- Idle steps that are written or not (`some_idles`, `idle_steps_lem2`). By the steps.
use Rattle.std.specs.Prelude.{Some}
use Prim.Native.Nat.{ℕ, ◌≤◌}
use mathlib.Core.Path.{◌≡◌, refl}
use mathlib.Core.List.{List, [], ◌∷◌}
use native.Mathlib.Omega.{arith}
use lib.ListN.{length}
use Rattle.job_grammar.specs.Grammar.{idle_in}
use Rattle.job_grammar.specs.Optionals.{idle_lines}

-- idle steps, of which there are some
pub some_idles : (is : List ℕ) → 1 ≤ length is → Some is ≡ idle_lines is
unfolding idle_lines
some_idles [] h = absurd (omega arith)
some_idles (i ∷ is) h = refl

-- idle steps are what their lines say
pub idle_steps_lem2 : (is : List ℕ) → is ≡ idle_in (idle_lines is)
unfolding idle_lines
idle_steps_lem2 [] = refl
idle_steps_lem2 (i ∷ is) = refl
