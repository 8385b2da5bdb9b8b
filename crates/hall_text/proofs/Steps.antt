-- The loop over a hall's jobs: what is read so far, and what the grammar reads behind it, is what it reads of all (`Onward`).
use Prim.Native.Nat.{ℕ, suc}
use mathlib.Core.Path.{◌≡◌, sym, ap, ◌∙◌}
use Rattle.lines.specs.Parser.{good, fault, ◌>>=◌}
use Rattle.lines.proofs.Parsing.{bind_good, bind_fault}
use Rattle.lines.specs.Fault.{number_of_lem}
use Rattle.lines.specs.declared.fault.Fault.{Fault}
use Rattle.lines.specs.declared.rows.Lines.{Lines}
use Rattle.hall_model.specs.Hall.{Hall}
use Rattle.hall_grammar.specs.Reading.{line_behind, lines_behind}
use Rattle.hall_grammar.proofs.Rows.{lines_none, lines_more}

-- n jobs behind a hall from here on are k jobs behind this one from there on
abbrev pub Onward : ℕ → Hall → Lines → ℕ → Hall → Lines → Type 0
Onward n hall b k now m = lines_behind n hall b.rest.now b.line ≡ lines_behind k now m.rest.now m.line

module _ (n k j : ℕ) (hall now : Hall) (b m : Lines) (e : k ≡ suc j) (so : Onward n hall b k now m) where
  -- behind this one there is a job more
  one_more : lines_behind n hall b.rest.now b.line ≡ (line_behind now >>= lines_behind j) m.rest.now m.line
  one_more = so ∙ ap (λ (i : ℕ). lines_behind i now m.rest.now m.line) e ∙ lines_more j now m.rest.now m.line

  -- it is read
  pub onward_read : (next : Hall) (a : Lines) → good next a.rest.now a.line ≡ line_behind now m.rest.now m.line → Onward n hall b j next a
  onward_read next a h = one_more ∙ bind_good (line_behind now) (lines_behind j) (sym h)

  -- its fault is the whole's
  pub onward_fault : (f : Fault) → fault (number_of_lem f.kind) f.line ≡ line_behind now m.rest.now m.line → fault (number_of_lem f.kind) f.line ≡ lines_behind n hall b.rest.now b.line
  onward_fault f h = sym (one_more ∙ bind_fault (line_behind now) (lines_behind j) (sym h))

-- all are read
pub onward_all : (n k : ℕ) (hall now : Hall) (b m : Lines) → k ≡ 0 → Onward n hall b k now m → good now m.rest.now m.line ≡ lines_behind n hall b.rest.now b.line
onward_all n k hall now b m e so = sym (so ∙ ap (λ (i : ℕ). lines_behind i now m.rest.now m.line) e ∙ lines_none now m.rest.now m.line)
