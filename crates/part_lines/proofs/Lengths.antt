-- How long a part's lines are: with the line of its own number, which no holder has, at most 1,797 bytes (`part_short`). By the lengths of the lines.
use Rattle.std.specs.Prelude.{Option, Some, None}
use Prim.Native.Nat.{ℕ, ◌+◌, ◌*◌, ◌≤◌}
use mathlib.Core.Path.{◌≡◌, refl}
use mathlib.Core.List.{List, [], ◌∷◌, ◌++◌}
use native.Mathlib.Omega.{arith}
use lib.ListN.{length, length-append}
use Rattle.lines.specs.Text.{bytes, line_of, texts, optional_text}
use Rattle.lines.proofs.Writing.{line_short}
use Rattle.base.specs.Each.{All}
use Rattle.covers.specs.Grammar.{Cover}
use Rattle.covers.specs.Rendering.{cover_text}
use Rattle.covers.specs.Valid.{ValidLines}
use Rattle.covers.proofs.Lengths.{cover_short}
use Rattle.price_rules.proofs.Lengths.{prices_short}
use Rattle.part_lines.specs.Grammar.{PartText}
use Rattle.part_lines.specs.Rendering.{part_text}
use Rattle.part_lines.specs.Valid.{KnownPart}
use Rattle.part_lines.proofs.Accepted.{known_cover}

-- the most bytes of a part's lines with the line of its own number
abbrev pub most_part : ℕ
most_part = 1797

key_length : (length (bytes "life=") ≡ 5) × (length (bytes "left=") ≡ 5) × (length (bytes "holder=") ≡ 7)
unfolding bytes
key_length = (refl, refl, refl)

-- texts of at most m bytes each
pub texts_short : {A : Type 0} (P : A → Type 0) (w : A → List ℕ) (m : ℕ) → ((x : A) → P x → length (w x) ≤ m) → (xs : List A) → All P xs → length (texts w xs) ≤ length xs * m
texts_short P w m h [] v = omega arith
texts_short P w m h (x ∷ xs) v = rw (length-append (w x)) (omega (arith, h x v.0, texts_short P w m h xs v.1))

-- the lines of removal of part k of m, if any, with the line of its own number, which no holder has
lines_short : (m k : ℕ) (o : Option Cover) → m ≤ 16 → 1 ≤ k → k ≤ 16 → ValidLines m k o → length (optional_text cover_text o) + length (line_of "holder=" k) ≤ 177
lines_short m k None few low high v = omega (arith, key_length, line_short (bytes "holder=") 1 k (omega arith))
lines_short m k (Some c) few low high v = cover_short m k c few low high v

-- a part's lines, with the line of its own number
pub part_short : (m n k : ℕ) (p : PartText) → n ≤ 64 → m ≤ 16 → 1 ≤ k → k ≤ 16 → KnownPart m n k p → length (part_text p) + length (line_of "holder=" k) ≤ most_part
unfolding part_text
part_short m n k p few most low high v =
    let life = line_of "life=" p.life in
    let left = line_of "left=" p.left in
    let cover = optional_text cover_text p.cover in
    rw (length-append (life ++ left ++ cover), length-append (life ++ left), length-append life)
    (omega (
      arith,
      key_length,
      line_short (bytes "life=") 3 p.life (omega (arith, v.0.life_high)),
      line_short (bytes "left=") 3 p.left (omega (arith, v.0.life_high, v.0.left_high)),
      lines_short m k p.cover most low high (known_cover m n k p v),
      prices_short n p.prices few v.2,
    ))
