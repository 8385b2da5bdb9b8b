-- A part's lines, written, are read back as exactly what they say (`part_complete`). By the grammar's lines, one after the other.
use Prim.Native.Nat.{ℕ, ◌≤◌}
use mathlib.Core.Path.{◌≡◌, ap, ◌∙◌}
use mathlib.Core.List.{List, ◌++◌, append_assoc}
use native.Mathlib.Omega.{arith}
use Rattle.lines.specs.Text.{bytes, line_of, optional_text}
use Rattle.lines.specs.Parser.{good, return, row, checked, up_to}
use Rattle.lines.proofs.Parsing.{bind_good, up_to_yes}
use Rattle.lines.proofs.Complete.{row_complete, checked_complete}
use Rattle.price_rules.specs.Grammar.{prices}
use Rattle.price_rules.specs.Rendering.{prices_text}
use Rattle.price_rules.proofs.Complete.{prices_complete}
use Rattle.covers.specs.Grammar.{cover}
use Rattle.covers.specs.Rendering.{cover_text}
use Rattle.covers.proofs.Complete.{cover_complete}
use Rattle.part_lines.specs.Grammar.{PartText, after_left, part}
use Rattle.part_lines.specs.Rendering.{part_text}
use Rattle.part_lines.specs.Valid.{KnownPart}
use Rattle.part_lines.specs.Behind.{BehindPart}
use Rattle.part_lines.proofs.Accepted.{known_cover}
use Rattle.part_lines.proofs.Behind.{removal_next}

-- the lines of a known part are read as this part, whatever stands behind them but a further line of its own
pub part_complete : (m n k : ℕ) → m ≤ 16 → (p : PartText) → KnownPart m n k p → (s : List ℕ) (l : ℕ) → BehindPart p s → (l' : ℕ) × (part m n k (part_text p ++ s) l ≡ good p s l')
unfolding part after_left return part_text
part_complete m n k most p known s l next =
    let v = known.0 in
    let life = line_of "life=" p.life in
    let left = line_of "left=" p.left in
    let cs = optional_text cover_text p.cover in
    let ts = prices_text p.prices in
    let a = row_complete (bytes "life=") 1 1000 (omega arith) p.life (v.life_low, v.life_high) (left ++ (cs ++ (ts ++ s))) l in
    let b = checked_complete 5 (up_to p.life) (row "left=" 0 1000) (line_of "left=") _ (row_complete _ 0 1000 (omega arith)) p.left
    ((omega arith, omega (arith, v.left_high, v.life_high)), up_to_yes p.life p.left v.left_high) (cs ++ (ts ++ s)) a.0 in
    let d = cover_complete m k most p.cover (known_cover m n k p known) (ts ++ s) b.0 (λ h. removal_next p.prices s (next.removal h)) in
    let c = prices_complete n p.prices known.2 s d.0 next.base in (
      c.0,
      ap (λ (x : List ℕ). part m n k x l) (append_assoc (life ++ left ++ cs) ts s ∙ append_assoc (life ++ left) cs (ts ++ s) ∙ append_assoc life left (cs ++ (ts ++ s)))
          ∙ bind_good (row "life=" 1 1000) _ a.1 ∙ bind_good (checked 5 (up_to p.life) (row "left=" 0 1000)) _ b.1 ∙ bind_good (cover m k) _ d.1
          ∙ bind_good (prices n) _ c.1,
    )
