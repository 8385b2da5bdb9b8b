-- O8. "The host also gets the line at fault, as it stands in its own text, up to its byte 10 or the text's end; empty for number 1, for a missing line".
use Rattle.std.specs.Prelude.{ℕ, zero, suc, ◌+◌, ◌-◌, ◌≤◌, ◌≡◌, List, [], ◌∷◌, true, false, length, take, drop, eqb}
use Rattle.fault_lines.specs.declared.fault.Span.{Span}

-- the bytes before the first byte 10, and those after it
unfoldable pub before_break : List ℕ → List ℕ
before_break [] = []
before_break (b ∷ bs) = elim (eqb b 10) [ true ↦ [] | false ↦ b ∷ before_break bs ]

-- what follows the first line; nothing if no byte 10 ends it
unfoldable pub after_break : List ℕ → List ℕ
after_break [] = []
after_break (b ∷ bs) = elim (eqb b 10) [ true ↦ bs | false ↦ after_break bs ]

-- what follows the first k lines
unfoldable pub skipped : ℕ → List ℕ → List ℕ
skipped zero s = s
skipped (suc k) s = skipped k (after_break s)

-- line n, from 1, up to its byte 10 or the end; empty for line 0 and for a missing line
unfoldable pub fault_line_lem : ℕ → List ℕ → List ℕ
fault_line_lem zero s = []
fault_line_lem (suc n) s = before_break (skipped n s)

-- no line: 0 and 0
abbrev pub nowhere : Span
nowhere = record { start = 0; length = 0 }

-- the first line of what is left of a text; nothing left is no line
abbrev pub span_in : List ℕ → List ℕ → Span
span_in s [] = nowhere
span_in s (b ∷ rest) = record { start = length s - length (b ∷ rest); length = length (before_break (b ∷ rest)) }

-- where line n stands in the text: start and length. An empty line that stands there has its own start; line 0 and a missing line have 0 and 0
unfoldable pub fault_span_lem : ℕ → List ℕ → Span
fault_span_lem zero s = nowhere
fault_span_lem (suc n) s = span_in s (skipped n s)

-- a span that stands in the text s and cuts xs out of it
pub record Cuts (s xs : List ℕ) (p : Span) : Type 0 where
  pub inside : p.start + p.length ≤ length s
  pub is : take p.length (drop p.start s) ≡ xs
