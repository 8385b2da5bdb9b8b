-- The lines `key=N` of a table's text, the pieces behind them, and where to read on.
use Rattle.std.specs.Prelude.{ℕ, ◌+◌, ◌≤◌, ◌<◌, ◌≡◌, cond, List, [], ◌∷◌, leb, ltb, length, drop, Option, Some, None}
use Rattle.lines.specs.Line.{read_line_lem}
use Rattle.fault_lines.specs.declared.fault.Span.{Span}
use Rattle.table_text.specs.declared.Head.{Head}

-- the line that was read at a place of a table of so many bytes
unfoldable pub head_of : ℕ → ℕ → Option (ℕ × ℕ) → Head
head_of size at (Some (n, k)) = record { number = n; behind = at + k }
head_of size at None = record { number = 0; behind = size }

-- the line `key=N` at a place: its number and the place behind it, or 0 and the table's end
abbrev pub head_at_lem : List ℕ → ℕ → List ℕ → Head
head_at_lem table at key = head_of (length table) at (read_line_lem key (drop at table))

-- the bytes behind a line, if they are all there
abbrev pub piece_of : ℕ → Head → Span
piece_of size h = cond (leb (h.behind + h.number) size) (record { start = h.behind; length = h.number }) (record { start = size; length = 0 })

-- where the piece at a place stands: the N bytes behind its line
abbrev pub piece_at : List ℕ → ℕ → List ℕ → Span
piece_at table at key = piece_of (length table) (head_at_lem table at key)

-- the place behind a row, past the place where it begins
abbrev pub onward_from : ℕ → ℕ → ℕ → ℕ
onward_from size at next = cond (ltb at next) next size

-- rows that are read from a place on, from the state f to the state h: each by a step, which answers where it ends
unfoldable pub Walks : {F : Type 0} → (F → ℕ → ℕ → F → Type 0) → ℕ → ℕ → F → List ℕ → F → Type 0
Walks step size at f [] h = (size ≤ at) × (f ≡ h)
Walks {F} step size at f (next ∷ ends) h = (at < size) × ((g : F) × step f at next g × Walks step size (onward_from size at next) g ends h)
