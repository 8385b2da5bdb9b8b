-- How long a part's lines of removal are: with the line of its own number, which no holder has, at most 177 bytes (`cover_short`). Holders rise, so they are among 1 to 16.
use Prim.Native.Nat.{ℕ, zero, suc, ◌+◌, ◌-◌, ◌≤◌, ◌<◌}
use mathlib.Core.Path.{◌≡◌, refl, sym, ap}
use mathlib.Core.List.{List, [], ◌∷◌, ◌++◌}
use mathlib.Core.Bool.{cond}
use mathlib.Core.Logic.{⊎_elim}
use native.Mathlib.Omega.{arith}
use native.Mathlib.Nat.{eq-or-lt_of_le, le_of_suc-le-suc}
use lib.Dec.{eqb}
use lib.ListN.{length, length-append}
use borrow.Author.Tests.{eq-eqb, ne_eqb}
use Rattle.lines.specs.Text.{bytes, decimal_in, line, line_of, texts}
use Rattle.base.specs.Joined.{joined}
use Rattle.base.specs.Each.{Chained}
use Rattle.lines.proofs.Writing.{line_short}
use Rattle.base.proofs.Joined.{joined_grows}
use Rattle.lines.proofs.Texts.{rising_room}
use Rattle.covers.specs.Grammar.{Cover}
use Rattle.covers.specs.Rendering.{cover_text}
use Rattle.jobs.specs.Valid.{ValidHolders}
use Rattle.covers.specs.Valid.{ValidCover}

key_length : (length (bytes "removal=") ≡ 8) × (length (bytes "inside=") ≡ 7)
unfolding bytes
key_length = (refl, refl)

-- the line of holder j + 1
unfoldable pub holder_line : ℕ → List ℕ
holder_line j = line_of "holder=" (j + 1)

-- all sixteen: 9 lines of 9 bytes and 7 of 10
pub all_holders : length (joined holder_line 16) ≡ 151
unfolding holder_line joined line bytes decimal_in
all_holders = refl

-- all but the one at place i
others : ℕ → ℕ → List ℕ
others i j = cond (eqb j i) [] (holder_line j)

others_before : (i n : ℕ) → n ≤ i → joined (others i) n ≡ joined holder_line n
unfolding others joined
others_before i zero h = refl
others_before i (suc n) h = rw (others_before i n (omega arith), ne_eqb n i (λ e. omega arith))

others-length : (i n : ℕ) → i < n → length (joined (others i) n) + length (holder_line i) ≡ length (joined holder_line n)
unfolding others joined
others-length i zero h = absurd (omega arith)
others-length i (suc n) h =
    ⊎_elim
    (λ (e : i ≡ n). rw (length-append (joined (others i) n), length-append (joined holder_line n), eq-eqb n i (sym e)) (omega (arith, ap length (others_before i n (omega arith)), ap (λ (k : ℕ). length (holder_line k)) e)))
    (λ (l : i < n). rw (length-append (joined (others i) n), length-append (joined holder_line n), ne_eqb n i (λ e. omega arith)) (omega (arith, others-length i n l)))
    (eq-or-lt_of_le (le_of_suc-le-suc h))

-- holders are some of them
holds_chained : (m k before : ℕ) (hs : List ℕ) → 1 ≤ k → ValidHolders m k before hs → Chained (λ b h. (b < h) × (h ≤ m) × (length (line_of "holder=" h) ≤ length (others (k - 1) (h - 1)))) (λ _ h. h) before hs
unfolding others holder_line
holds_chained m k before [] low v = tt
holds_chained m k before (h ∷ hs) low v =
    let e : h ≡ h - 1 + 1 = omega (arith, v.0) in
    let same = ap (λ (i : ℕ). length (line_of "holder=" i)) e in
    ((v.0, v.1, rw (ne_eqb (h - 1) (k - 1) (λ q. v.2 (omega (arith, v.0)))) (omega (arith, same))), holds_chained m k h hs low v.3)

holders_short : (m k : ℕ) (hs : List ℕ) → m ≤ 16 → 1 ≤ k → k ≤ 16 → ValidHolders m k 0 hs → length (texts (line_of "holder=") hs) + length (line_of "holder=" k) ≤ 151
unfolding holder_line
holders_short m k hs few low high v =
    let e : k - 1 + 1 ≡ k = omega arith in
    let own = ap (λ (i : ℕ). length (line_of "holder=" i)) e in
    omega (arith, rising_room (line_of "holder=") (others (k - 1)) m 0 hs (omega arith) (holds_chained m k 0 hs low v), joined_grows (others (k - 1)) m 16 few, others-length (k - 1) 16 (omega arith), all_holders, own)

-- the lines of removal have few bytes, as few as the numbers of the parts allow
pub cover_short : (m k : ℕ) (c : Cover) → m ≤ 16 → 1 ≤ k → k ≤ 16 → ValidCover m k c → length (cover_text c) + length (line_of "holder=" k) ≤ 177
unfolding cover_text
cover_short m k c few low high v =
    rw (length-append (line_of "removal=" c.removal ++ line_of "inside=" (length c.holders)), length-append (line_of "removal=" c.removal))
    (omega (
      arith,
      key_length,
      line_short (bytes "removal=") 6 c.removal (omega (arith, v.removal)),
      line_short (bytes "inside=") 1 (length c.holders) (omega (arith, v.few)),
      holders_short m k c.holders few low high v.holders,
    ))
