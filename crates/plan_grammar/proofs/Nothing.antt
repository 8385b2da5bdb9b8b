-- How a plan text is read by its length: an empty one is doing nothing (`read_none`), the lines of one that is not empty (`read_lines`) decide, number 1 of one over the limit (`read_long`). By cases on the text.
-- The empty text is read as the text of no stops and cost 0 is (`nothing_is`). By computation.
use Prim.Native.Nat.{ℕ, ◌≤◌, ◌<◌}
use mathlib.Core.Path.{◌≡◌, refl, ◌∙◌}
use mathlib.Core.List.{List, [], ◌∷◌}
use native.Mathlib.Omega.{arith}
use lib.ListN.{length}
use Rattle.lines.specs.Text.{bytes}
use Rattle.lines.specs.Line.{digits, number_from, starts_with, read_value_lem, read_line_lem}
use Rattle.lines.specs.Parser.{◌>>=◌, return, in_range, read_field_lem, taken, row_at, chain, end, whole, accepted, refused, read_text}
use Rattle.lines.proofs.Parsing.{text_long}
use Rattle.model.specs.Model.{Job}
use Rattle.plan_grammar.specs.Grammar.{visits, plan_lines, max_bytes, nothing, read_plan_lem}

-- a text without bytes says the plan of doing nothing
pub read_none : (job : Job) (s : List ℕ) → length s ≡ 0 → accepted (nothing job) ≡ read_plan_lem job s
unfolding read_plan_lem
read_none job [] h = refl
read_none job (b ∷ s) h = absurd (omega (arith, h))

-- a text with bytes is read by its lines
pub read_lines : (job : Job) (s : List ℕ) → 1 ≤ length s → read_text max_bytes (plan_lines job) s ≡ read_plan_lem job s
unfolding read_plan_lem
read_lines job [] h = absurd (omega (arith, h))
read_lines job (b ∷ s) h = refl

-- a text over the limit is at fault with number 1
pub read_long : (job : Job) (s : List ℕ) → max_bytes < length s → refused 1 0 ≡ read_plan_lem job s
read_long job s h = text_long max_bytes (plan_lines job) s h ∙ read_lines job s (omega arith)

-- the empty text says what `cost=0` and `stops=0` say
pub nothing_is : (job : Job) → read_plan_lem job [] ≡ read_plan_lem job (bytes "cost=0\nstops=0\n")
unfolding bytes digits number_from starts_with read_value_lem read_line_lem ◌>>=◌ return in_range read_field_lem taken row_at chain end whole read_text visits plan_lines read_plan_lem
nothing_is job = refl
