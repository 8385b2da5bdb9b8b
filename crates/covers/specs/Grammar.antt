-- E7.2. "After each `left` a job may have `removal` 0..1000000, `inside` 0..15 and that many `holder` lines, 1..16, rising; a part without them has removal 0 and no holders."
use Rattle.std.specs.Prelude.{ℕ, List, Bool, not, eqb, Option}
use Rattle.lines.specs.Parser.{Parser, ◌>>=◌, return, row, optional, if_present, checked, chain, rising}
use Rattle.model.specs.Limits.{dearest, most_parts, most_inside}

-- what the lines say: what removing the part costs, and the numbers of the parts that hold it, rising
pub record Cover : Type 0 where
  pub removal : ℕ
  pub holders : List ℕ

-- any part but k
abbrev pub other : ℕ → ℕ → Bool
other k h = not (eqb h k)

-- E7.14. "12 for a holder that doesn't rise, is above `parts` or is the part itself, on its line after 3": a holder of part k of m after the holder before
unfoldable pub holder : ℕ → ℕ → ℕ → Parser ℕ
holder m k before = checked 12 (other k) (checked 12 (rising before m) (row "holder=" 1 most_parts))

-- all n holders of part k of m, each after the one before
unfoldable pub holders : ℕ → ℕ → ℕ → Parser (List ℕ)
holders m k n = chain (holder m k) (λ _ h. h) n 0

-- what follows the removal r
unfoldable pub inside : ℕ → ℕ → ℕ → Parser Cover
inside m k r = do
  n ← row "inside=" 0 most_inside
  hs ← holders m k n
  return (record { removal = r; holders = hs })

-- the lines of part k of m, which may be missing: they are told by the key of the first
unfoldable pub cover : ℕ → ℕ → Parser (Option Cover)
cover m k = do
  r ← optional "removal=" 0 dearest
  if_present (inside m k) r
