-- An accepted line is the line that is written for its value.
use Rattle.std.specs.Prelude.{Option, Some, None}
use Prim.Native.Nat.{ℕ, suc, ◌+◌, ◌-◌, ◌*◌, ◌/◌, ◌%◌, ◌≤◌, ◌<◌}
use mathlib.Core.Path.{◌≡◌, refl, sym, ap, ap₂, ◌∙◌}
use mathlib.Core.List.{List, [], ◌∷◌, ◌++◌, append_assoc, append-nil}
use mathlib.Core.Bool.{Bool, true, false, ◌&&◌, and-eq-true_iff, false≢true, ◌||◌, not}
use native.Mathlib.Omega.{arith}
use native.Mathlib.Nat.{zero-add}
use lib.Dec.{leb, eqb}
use lib.ListN.{length, get_or, drop}
use borrow.Author.Tests.{le-ltb, lt-ltb, leb-true, eq-eqb, eqb-true, ne_eqb}
use Rattle.lines.specs.Line.{is_digit, digits, number_from, plain, starts_with, read_value_lem, read_line_lem, after}
use Rattle.lines.specs.Text.{decimal, decimal_in, line}
use Rattle.lines.proofs.Reading.{drop_step, get_d_inside, line_is, line_not}
use lib.Seq.{drop-drop}

-- every byte of the list is one from `0` to `9`
abbrev pub AllDigits : List ℕ → Type 0
AllDigits [] = Unit {0}
AllDigits (d ∷ ds) = (48 ≤ d) × (d ≤ 57) × AllDigits ds

-- the digits of a list are digits
all_digits : (s : List ℕ) → AllDigits (digits s)
unfolding digits
all_digits [] = tt
all_digits (b ∷ bs) = go (is_digit b) refl (all_digits bs)
  where
    go : (t : Bool) → is_digit b ≡ t → AllDigits (digits bs) → AllDigits (digits (b ∷ bs))
    go true e h =
        let w = (and-eq-true_iff (leb 48 b) (leb b 57)).0 e in
        rw (digits, e) (leb-true 48 b w.0, leb-true b 57 w.1, h)
    go false e h = rw (digits, e) tt

decimal_last : (k v e : ℕ) → 1 ≤ v → e < 10 → decimal_in (suc k) (v * 10 + e) ≡ decimal_in k v ++ (48 + e) ∷ []
unfolding decimal_in
decimal_last k v e h l =
    let q : (v * 10 + e) / 10 ≡ v = omega arith in
    let r : (v * 10 + e) % 10 ≡ e = omega arith in
    rw (decimal_in, le-ltb (v * 10 + e) 10 (omega arith)) (ap₂ (λ (x y : ℕ). decimal_in k x ++ (48 + y) ∷ []) q r)

-- a number below 10 is written as its one digit
pub decimal_one : (k v : ℕ) → v < 10 → decimal_in (suc k) v ≡ (48 + v) ∷ []
unfolding decimal_in
decimal_one k v h = rw (decimal_in, lt-ltb v 10 h)

-- two digits or more: the digits of a tenth, and one more
pub decimal_two : (k v : ℕ) → 10 ≤ v → decimal_in (suc k) v ≡ decimal_in k (v / 10) ++ (48 + v % 10) ∷ []
unfolding decimal_in
decimal_two k v h = rw (decimal_in, le-ltb v 10 h)

-- digits after a number that is not 0
decimal_more : (k v : ℕ) (ds : List ℕ) → 1 ≤ v → AllDigits ds → decimal_in (length ds + k) (number_from v ds) ≡ decimal_in k v ++ ds
unfolding number_from
decimal_more k v [] h a = ap (λ (j : ℕ). decimal_in j v) (zero-add k) ∙ sym (append-nil (decimal_in k v))
decimal_more k v (d ∷ ds) h a =
    let w : suc (length ds) + k ≡ length ds + suc k = omega arith in
    let x : 48 + (d - 48) ≡ d = omega arith in
    ap (λ (j : ℕ). decimal_in j (number_from (v * 10 + (d - 48)) ds)) w
    ∙ decimal_more (suc k) (v * 10 + (d - 48)) ds (omega arith) a.2
    ∙ ap (λ (l : List ℕ). l ++ ds) (decimal_last k v (d - 48) h (omega arith) ∙ ap (λ (j : ℕ). decimal_in k v ++ j ∷ []) x)
    ∙ append_assoc (decimal_in k v) (d ∷ []) ds

-- the number of plain digits is written with those digits
pub decimal_plain : (ds : List ℕ) → AllDigits ds → plain ds ≡ true → decimal_in 10 (number_from 0 ds) ≡ ds
unfolding number_from
decimal_plain [] a p = absurd (false≢true p)
decimal_plain (d ∷ []) a p =
    let x : 48 + (0 * 10 + (d - 48)) ≡ d = omega arith in
    decimal_one 9 (0 * 10 + (d - 48)) (omega arith) ∙ ap (λ (j : ℕ). j ∷ []) x
decimal_plain (d ∷ e ∷ es) a p =
    let w = (and-eq-true_iff (leb 1 (suc (suc (length es))) && leb (suc (suc (length es))) 10) (eqb (suc (suc (length es))) 1 || not (eqb d 48))).0 p in
    let m = leb-true (suc (suc (length es))) 10 ((and-eq-true_iff (leb 1 (suc (suc (length es)))) _).0 w.0).1 in
    let nz : d ≡ 48 → ⊥ = λ z. not_zero z w.1 in
    let f : 10 ≡ length (e ∷ es) + suc (9 - length (e ∷ es)) = omega arith in
    let x : 48 + (0 * 10 + (d - 48)) ≡ d = omega arith in
    ap (λ (j : ℕ). decimal_in j (number_from 0 (d ∷ e ∷ es))) f
    ∙ decimal_more (suc (9 - length (e ∷ es))) (0 * 10 + (d - 48)) (e ∷ es) (omega (arith, nz)) a.2
    ∙ ap (λ (l : List ℕ). l ++ e ∷ es) (decimal_one (9 - length (e ∷ es)) (0 * 10 + (d - 48)) (omega arith) ∙ ap (λ (j : ℕ). j ∷ []) x)
  where
    not_zero : d ≡ 48 → (eqb (suc (suc (length es))) 1 || not (eqb d 48)) ≡ true → ⊥
    not_zero z t = false≢true (simp (ne_eqb (suc (suc (length es))) 1 (omega arith), eq-eqb d 48 z) at t)

-- a list is its digits and what follows them
digits_split : (s : List ℕ) → s ≡ digits s ++ drop (length (digits s)) s
unfolding digits
digits_split [] = refl
digits_split (b ∷ bs) = go (is_digit b) refl (digits_split bs)
  where
    go : (t : Bool) → is_digit b ≡ t → bs ≡ digits bs ++ drop (length (digits bs)) bs → b ∷ bs ≡ digits (b ∷ bs) ++ drop (length (digits (b ∷ bs))) (b ∷ bs)
    go true e rest = rw (digits, e) (ap (λ (l : List ℕ). b ∷ l) rest)
    go false e rest = rw (digits, e)

starts_split : (key s : List ℕ) → starts_with key s ≡ true → s ≡ key ++ drop (length key) s
unfolding starts_with
starts_split [] s e = refl
starts_split (k ∷ ks) [] e = absurd (false≢true e)
starts_split (k ∷ ks) (b ∷ bs) e =
    let w = (and-eq-true_iff (eqb k b) (starts_with ks bs)).0 e in
    ap₂ (λ (x : ℕ) (l : List ℕ). x ∷ l) (sym (eqb-true k b w.0)) (starts_split ks bs w.1)

-- what stands where a value was read
abbrev Written : List ℕ → Option (ℕ × ℕ) → Type 0
Written s (Some (v, n)) = s ≡ decimal v ++ 10 ∷ drop n s
Written s None = Unit {0}

value_written : (s : List ℕ) → Written s (read_value_lem s)
unfolding read_value_lem
value_written s = go (plain ds && eqb (get_or s (length ds) 0) 10) refl
  where
    ds : List ℕ
    ds = digits s

    go : (t : Bool) → (plain ds && eqb (get_or s (length ds) 0) 10) ≡ t → Written s (read_value_lem s)
    go true e =
        let w = (and-eq-true_iff (plain ds) (eqb (get_or s (length ds) 0) 10)).0 e in
        let m = eqb-true (get_or s (length ds) 0) 10 w.1 in
        rw (read_value_lem, e) (digits_split s ∙ ap₂ (λ (x y : List ℕ). x ++ y) (sym (decimal_plain ds (all_digits s) w.0))
        (drop_step s (length ds) (get_d_inside s (length ds) (omega arith)) ∙ ap (λ (x : ℕ). x ∷ drop (length ds + 1) s) m))
    go false e = rw (read_value_lem, e) tt

-- a line that was read, byte for byte
abbrev pub Stands : List ℕ → List ℕ → Option (ℕ × ℕ) → Type 0
Stands key s (Some (v, n)) = s ≡ line key v ++ drop n s
Stands key s None = Unit {0}

-- a line that was read stands in the text as it is written for its value
pub line_written : (key s : List ℕ) → Stands key s (read_line_lem key s)
unfolding line
line_written key s = go (starts_with key s) refl
  where
    k : ℕ
    k = length key

    behind : s ≡ key ++ drop k s → (l : Option (ℕ × ℕ)) → Written (drop k s) l → Stands key s (after k l)
    behind q (Some (v, n)) h = q ∙ ap (λ (r : List ℕ). key ++ r) (h ∙ ap (λ (r : List ℕ). decimal v ++ 10 ∷ r) (drop-drop n k s)) ∙ sym (append_assoc key (decimal v ++ 10 ∷ []) (drop (k + n) s) ∙ ap (λ (r : List ℕ). key ++ r) (append_assoc (decimal v) (10 ∷ []) (drop (k + n) s)))
    behind q None h = tt

    go : (t : Bool) → starts_with key s ≡ t → Stands key s (read_line_lem key s)
    go true e = rw (line_is key s e) (behind (starts_split key s e) (read_value_lem (drop k s)) (value_written (drop k s)))
    go false e = rw (← line_not key s e) tt
