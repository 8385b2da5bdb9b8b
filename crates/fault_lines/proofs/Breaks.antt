-- Laws of the lines of a text.
use Prim.Native.Nat.{ℕ, zero, suc, ◌+◌, ◌-◌, ◌≤◌, ◌<◌}
use mathlib.Core.Path.{◌≡◌, refl, sym, ap, ◌∙◌}
use mathlib.Core.List.{List, [], ◌∷◌}
use mathlib.Core.Bool.{Bool, true, false, cond}
use native.Mathlib.Omega.{arith}
use native.Mathlib.Numerals.{add-one}
use lib.Dec.{eqb}
use lib.ListN.{length, take, drop, length-drop, drop_of_length-le}
use lib.Seq.{drop-drop}
use Rattle.std.specs.List.{position_or_len}
use Rattle.std.proofs.lemmas.List.Recursion.{is_position_or_len}
use Rattle.fault_lines.specs.Fault.{before_break, after_break, skipped, fault_line_lem, nowhere, span_in, fault_span_lem, Cuts}

-- a line ends at the first byte 10, or at the text's end
pub break_is : (s : List ℕ) → position_or_len (λ (b : ℕ). eqb b 10) s ≡ length (before_break s)
unfolding before_break
break_is s = sym (is_position_or_len (λ (bs : List ℕ). length (before_break bs)) (λ (b : ℕ). eqb b 10) refl (λ b bs. go bs (eqb b 10) b refl) s)
  where
    go : (bs : List ℕ) (t : Bool) (b : ℕ) → eqb b 10 ≡ t → length (before_break (b ∷ bs)) ≡ cond (eqb b 10) 0 (1 + length (before_break bs))
    go bs true b e = rw (before_break, e) refl
    go bs false b e = rw (before_break, e) (omega arith)

-- the two sides of the first byte 10, by where it stands
sides : (s : List ℕ) → (before_break s ≡ take (length (before_break s)) s) × (after_break s ≡ drop (length (before_break s) + 1) s) × (length (before_break s) ≤ length s)
unfolding before_break after_break
sides [] = (refl, refl, omega arith)
sides (b ∷ bs) = go (eqb b 10) refl (sides bs)
  where
    go : (t : Bool) → eqb b 10 ≡ t → (before_break bs ≡ take (length (before_break bs)) bs) × (after_break bs ≡ drop (length (before_break bs) + 1) bs) × (length (before_break bs) ≤ length bs)
        → (before_break (b ∷ bs) ≡ take (length (before_break (b ∷ bs))) (b ∷ bs)) × (after_break (b ∷ bs) ≡ drop (length (before_break (b ∷ bs)) + 1) (b ∷ bs)) × (length (before_break (b ∷ bs)) ≤ length (b ∷ bs))
    go true e h = rw (before_break, after_break, e) (refl, refl, omega arith)
    go false e h = rw (before_break, after_break, e) (ap (λ (l : List ℕ). b ∷ l) h.0, rw add-one (rw add-one at h.1), omega arith)

-- the bytes before the first byte 10 are the text's first ones, as many as they are
pub before_is : (s : List ℕ) → before_break s ≡ take (length (before_break s)) s
before_is s = (sides s).0

-- what follows the first line is the text past it and past its byte 10
pub after_is : (s : List ℕ) → after_break s ≡ drop (length (before_break s) + 1) s
after_is s = (sides s).1

-- the first line of a text is no longer than the text
pub before_le : (s : List ℕ) → length (before_break s) ≤ length s
before_le s = (sides s).2

-- lines that are not there
pub skipped_none : (k : ℕ) → skipped k [] ≡ []
unfolding skipped after_break
skipped_none zero = refl
skipped_none (suc k) = skipped_none k

-- one line more
pub skipped_more : (s : List ℕ) (n k i : ℕ) → i < k → n ≡ length (before_break s) → skipped (k - i) s ≡ skipped (k - (i + 1)) (drop (n + 1) s)
unfolding skipped
skipped_more s n k i h e =
    let z : k - i ≡ suc (k - (i + 1)) = omega arith in
    ap (λ (j : ℕ). skipped j s) z ∙ ap (skipped (k - (i + 1))) (after_is s ∙ rw (← e) refl)

-- no line more
pub skipped_end : (s : List ℕ) (n k i : ℕ) → i < k → n ≡ length (before_break s) → length s ≤ n → [] ≡ skipped (k - i) s
skipped_end s n k i h e l = sym (skipped_more s n k i h e ∙ ap (skipped (k - (i + 1))) (drop_of_length-le s {i = n + 1} (omega arith)) ∙ skipped_none (k - (i + 1)))

-- where no lines are left to skip, the text stays as it is
pub skipped_zero : (s : List ℕ) (k i : ℕ) → k ≤ i → skipped (k - i) s ≡ s
unfolding skipped
skipped_zero s k i h = let z : k - i ≡ 0 = omega arith in ap (λ (j : ℕ). skipped j s) z

-- where a line stands, by where it begins
pub span_zero : (s : List ℕ) (n : ℕ) → n ≡ 0 → nowhere ≡ fault_span_lem n s
unfolding fault_span_lem
span_zero s n e = rw e

-- where line n stands, from 1 on, is the first line behind the n - 1 before it
pub span_is : (s : List ℕ) (n : ℕ) → (n ≡ 0 → ⊥) → fault_span_lem n s ≡ span_in s (skipped (n - 1) s)
unfolding fault_span_lem
span_is s zero h = absurd (h refl)
span_is s (suc n) h = let z : n ≡ suc n - 1 = omega arith in ap (λ (j : ℕ). span_in s (skipped j s)) z

-- where nothing is left of the text, there is no line and its span is 0 and 0
pub span_missing : (s rest : List ℕ) → length rest ≡ 0 → nowhere ≡ span_in s rest
span_missing s [] h = refl
span_missing s (b ∷ rest) h = absurd (omega arith)

-- a line of which something is left stands where that begins, with its bytes up to byte 10
pub span_there : (s rest : List ℕ) (n : ℕ) → (length rest ≡ 0 → ⊥) → n ≡ length (before_break rest) → record { start = length s - length rest; length = n } ≡ span_in s rest
span_there s [] n h e = absurd (h refl)
span_there s (b ∷ rest) n h e = λ i. record { start = length s - length (b ∷ rest); length = e i }

-- what is left of a text behind some lines is the text from a place on
skipped-drop : (k : ℕ) (s : List ℕ) → (at : ℕ) × (skipped k s ≡ drop at s)
unfolding skipped
skipped-drop zero s = (0, refl)
skipped-drop (suc k) s =
    let r = skipped-drop k (after_break s) in
    let m = length (before_break s) + 1 in
    (m + r.0, r.1 ∙ ap (drop r.0) (after_is s) ∙ drop-drop r.0 m s)

-- and no longer than the text
pub skipped_le : (k : ℕ) (s : List ℕ) → length (skipped k s) ≤ length s
skipped_le k s = let r = skipped-drop k s in omega (arith, ap length r.1, length-drop r.0 s)

-- the span of line n stands in the text and cuts the line out of it
pub span_cuts : (s : List ℕ) (n : ℕ) → Cuts s (fault_line_lem n s) (fault_span_lem n s)
unfolding fault_line_lem fault_span_lem before_break
span_cuts s zero = record { inside = omega arith; is = refl }
span_cuts s (suc n) = go (skipped n s) (skipped-drop n s).0 (skipped-drop n s).1
  where
    go : (rest : List ℕ) (at : ℕ) → rest ≡ drop at s → Cuts s (before_break rest) (span_in s rest)
    go [] at e = record { inside = omega arith; is = refl }
    go (b ∷ rest) at e =
        let l : length (b ∷ rest) ≡ length s - at = ap length e ∙ length-drop at s in
        let z : length s - length (b ∷ rest) ≡ at = omega arith in
        record {
          inside = omega (arith, before_le (b ∷ rest));
          is = ap (λ (j : ℕ). take (length (before_break (b ∷ rest))) (drop j s)) z
              ∙ ap (take (length (before_break (b ∷ rest)))) (sym e) ∙ sym (before_is (b ∷ rest));
        }
