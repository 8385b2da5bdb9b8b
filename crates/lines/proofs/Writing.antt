-- Laws of writing: one write behind another is one write (`then`), how long digits and lines are. By recursion over what is written.
use Prim.Native.Nat.{ℕ, zero, suc, ◌+◌, ◌/◌, ◌%◌, ◌^◌, ◌≤◌, ◌<◌}
use mathlib.Core.Path.{◌≡◌, refl, sym, ap, ◌∙◌, subst}
use mathlib.Core.Bool.{true, false, Bool}
use mathlib.Core.List.{List, [], ◌∷◌, ◌++◌}
use native.Mathlib.Nat.{add-zero, zero-add, add-suc, suc-add, div-lt_iff_lt-mul, pow-suc}
use native.Mathlib.Omega.{arith}
use lib.Dec.{ltb}
use lib.ListN.{length, drop, set, length-append}
use lib.Seq.{sets, length-sets, sets-eq, length-take-le}
use Rattle.lines.specs.Text.{decimal_in, decimal, line}
use Rattle.lines.specs.Wrote.{Wrote, Counted}
use Rattle.lines.proofs.Written.{decimal_one}

-- two stores, the second right behind the first, are one store of both lists joined
pub sets-sets : (d : List ℕ) (at : ℕ) (xs ys : List ℕ) → sets (sets d at xs) (at + length xs) ys ≡ sets d at (xs ++ ys)
sets-sets d at [] ys = rw add-zero
sets-sets d at (x ∷ xs) ys = rw (add-suc, ← suc-add) (sets-sets (set d at x) (suc at) xs ys)

-- nothing is written
pub none : {d : List ℕ} {at : ℕ} → Wrote d at [] d at
none {d} {at} = record { bytes = refl; next = omega arith }

-- one byte is stored
pub one : {d : List ℕ} {at : ℕ} (b : ℕ) → Wrote d at (b ∷ []) (set d at b) (at + 1)
one b = record { bytes = refl; next = omega arith }

-- one write after another
pub then : {d : List ℕ} {at : ℕ} {xs e : List ℕ} {r : ℕ} {ys f : List ℕ} {s : ℕ} → Wrote d at xs e r → Wrote e r ys f s → Wrote d at (xs ++ ys) f s
then {d} {at} {xs} {e} {r} {ys} {f} {s} v w =
    record {
      bytes = w.bytes ∙ rw (v.bytes, v.next) (sets-sets d at xs ys);
      next = rw length-append (omega (arith, v.next, w.next));
    }

-- a write keeps the length
pub kept : {d : List ℕ} {at : ℕ} {xs e : List ℕ} {r : ℕ} → Wrote d at xs e r → length e ≡ length d
kept {d} {at} {xs} w = ap length w.bytes ∙ length-sets d at xs

-- a tenth of a number below a power of ten is below the power before
pub tenth : (k n : ℕ) → n < 10 ^ suc (suc k) → n / 10 < 10 ^ suc k
tenth k n h = (div-lt_iff_lt-mul {k = 10} (omega arith)).1 (subst (λ (m : ℕ). n < m) (pow-suc 10 (suc k)) h)

-- a place more changes nothing where the digits fit
pub digits_more : (k n : ℕ) → n < 10 ^ suc k → decimal_in (suc (suc k)) n ≡ decimal_in (suc k) n
unfolding decimal_in
digits_more zero n h = decimal_one 1 n h ∙ sym (decimal_one 0 n h)
digits_more (suc k) n h = ap (λ (l : List ℕ). elim (ltb n 10) [ true ↦ (48 + n) ∷ [] | false ↦ l ++ (48 + n % 10) ∷ [] ]) (digits_more k (n / 10) (tenth k n h))

elim_short : (b : Bool) (xs ys : List ℕ) (m : ℕ) → length xs ≤ m → length ys ≤ m → length {A = ℕ} (elim b [ true ↦ xs | false ↦ ys ]) ≤ m
elim_short true xs ys m hx hy = hx
elim_short false xs ys m hx hy = hy

-- a number below 10 ^ (j + 1) has at most j + 1 digits
digits_short : (j k n : ℕ) → n < 10 ^ suc j → length (decimal_in k n) ≤ suc j
unfolding decimal_in
digits_short j zero n h = omega arith
digits_short zero (suc k) n h = rw (decimal_one k n h) (omega arith)
digits_short (suc j) (suc k) n h =
    let rest : length (decimal_in k (n / 10)) ≤ suc j = digits_short j k (n / 10) (tenth j n h) in
    elim_short (ltb n 10) _ _ (suc (suc j)) (omega arith) (rw length-append (omega arith))

-- a number below 10 to the power j + 1 has at most j + 1 digits
pub decimal_short : (j n : ℕ) → n < 10 ^ suc j → length (decimal n) ≤ suc j
decimal_short j n h = digits_short j 10 n h

-- no number is written with more than ten digits
digits_most : (k n : ℕ) → length (decimal_in k n) ≤ k
unfolding decimal_in
digits_most zero n = omega arith
digits_most (suc k) n = elim_short (ltb n 10) _ _ (suc k) (omega arith) (rw length-append (omega (arith, digits_most k (n / 10))))

-- the same write, said of equal bytes and an equal place
pub same : {d : List ℕ} {at : ℕ} {xs ys e : List ℕ} {r s : ℕ} → Wrote d at xs e r → xs ≡ ys → r ≡ s → Wrote d at ys e s
same {d} {at} w p q = record { bytes = w.bytes ∙ ap (sets d at) p; next = sym q ∙ w.next ∙ ap (λ (l : List ℕ). at + length l) p }

-- a line has the bytes of its key, of its digits and byte 10
pub line-length : (key : List ℕ) (n : ℕ) → length (line key n) ≡ length key + length (decimal n) + 1
unfolding line
line-length key n = simp length-append (omega arith)

-- a line whose value has at most j + 1 digits has j + 2 bytes more than its key, at most
pub line_short : (key : List ℕ) (j n : ℕ) → n < 10 ^ suc j → length (line key n) ≤ length key + j + 2
line_short key j n h = omega (arith, line-length key n, decimal_short j n h)

-- a line has at most 11 bytes more than its key
pub line_most : (key : List ℕ) (n : ℕ) → length (line key n) ≤ length key + 11
line_most key n = omega (arith, line-length key n, digits_most 10 n)

-- from the start: the bytes, and then what stood there
pub written : {d xs e : List ℕ} {r : ℕ} → length xs ≤ length d → Wrote d 0 xs e r → (e ≡ xs ++ drop (length xs) d) × (r ≡ length xs)
written {d} {xs} h w =
    (w.bytes ∙ sets-eq xs d 0 (omega arith) ∙ ap (λ (n : ℕ). xs ++ drop n d) (zero-add (length xs)), w.next ∙ zero-add (length xs))

-- a number up to a list's length counts bytes at its start
pub counted : (n : ℕ) (xs : List ℕ) → n ≤ length xs → Counted n xs
counted n xs h = (h, sym (length-take-le n xs h))
