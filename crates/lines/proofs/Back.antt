-- A line that is written is read back.
use Rattle.std.specs.Prelude.{Some}
use Prim.Native.Nat.{ℕ, zero, suc, ◌+◌, ◌-◌, ◌*◌, ◌/◌, ◌%◌, ◌^◌, ◌≤◌, ◌<◌}
use mathlib.Core.Path.{◌≡◌, refl, sym, ap, ◌∙◌}
use mathlib.Core.List.{List, [], ◌∷◌, ◌++◌, append_assoc}
use mathlib.Core.Bool.{true, false}
use native.Mathlib.Omega.{arith}
use native.Mathlib.Nat.{pow-suc}
use native.Mathlib.Decide.{dec_lt}
use lib.ListN.{length, get_or, length-append, get_or-append}
use lib.Seq.{drop-append_seam, get_or-append_seam}
use borrow.Author.Tests.{eq-eqb}
use Rattle.lines.specs.Line.{is_digit, digits, number_from, starts_with, read_value_lem, read_line_lem, after}
use Rattle.lines.specs.Text.{decimal, decimal_in, line}
use Rattle.lines.proofs.Reading.{digit_yes, line_is, value_good}
use Rattle.lines.proofs.Written.{AllDigits, decimal_one, decimal_two}

-- digits up to a byte that is none
digits_before : (ds : List ℕ) (b : ℕ) (rest : List ℕ) → AllDigits ds → is_digit b ≡ false → digits (ds ++ b ∷ rest) ≡ ds
unfolding digits
digits_before [] b rest a n = rw (digits, n)
digits_before (d ∷ ds) b rest a n = rw (digits, digit_yes d a.0 a.1) (ap (λ (l : List ℕ). d ∷ l) (digits_before ds b rest a.2 n))

all_append : (xs : List ℕ) (d : ℕ) → AllDigits xs → 48 ≤ d → d ≤ 57 → AllDigits (xs ++ d ∷ [])
all_append [] d a l h = (l, h, tt)
all_append (x ∷ xs) d a l h = (a.0, a.1, all_append xs d a.2 l h)

number_snoc : (u : ℕ) (ds : List ℕ) (d : ℕ) → number_from u (ds ++ d ∷ []) ≡ number_from u ds * 10 + (d - 48)
unfolding number_from
number_snoc u [] d = refl
number_snoc u (x ∷ ds) d = number_snoc (u * 10 + (x - 48)) ds d

-- what holds of the digits of v, where it has at most suc k
pub record Plain (k v : ℕ) (ds : List ℕ) : Type 0 where
  -- every byte of them is one of the digits `0` to `9`
  pub all : AllDigits ds
  -- there is at least one digit, for a zero too
  pub some : 1 ≤ length ds
  -- there are at most k digits, the most that are asked for
  pub few : length ds ≤ k
  -- the digits, read as a decimal number, are v again
  pub value : number_from 0 ds ≡ v
  -- the first digit of a number of 1 or more is not a zero
  pub head : 1 ≤ v → 48 < get_or ds 0 0
  -- a number below 10 is written with one digit
  pub short : v < 10 → length ds ≡ 1

is_one : (k v : ℕ) → v < 10 → Plain (suc k) v (decimal_in (suc k) v)
unfolding number_from
is_one k v h = rw (decimal_one k v h) (record {
  all = (omega arith, omega arith, tt);
  some = omega arith;
  few = omega arith;
  value = omega arith;
  head = λ l. omega arith;
  short = λ l. refl;
})

is_more : (k v : ℕ) (ds : List ℕ) → 10 ≤ v → Plain k (v / 10) ds → Plain (suc k) v (ds ++ (48 + v % 10) ∷ [])
is_more k v ds h p = record {
  all = all_append ds (48 + v % 10) p.all (omega arith) (omega arith);
  some = omega (arith, n, p);
  few = omega (arith, n, p);
  value = number_snoc 0 ds (48 + v % 10) ∙ (let q : number_from 0 ds ≡ v / 10 = p.value in omega arith);
  head = λ l. rw (get_or-append ds ((48 + v % 10) ∷ []) 0 0 p.some) (p.head (omega arith));
  short = λ l. absurd (omega arith);
}
  where
    n : length (ds ++ (48 + v % 10) ∷ []) ≡ length ds + 1
    n = length-append ds ((48 + v % 10) ∷ [])

-- the decimal digits of a number below the power of ten are plain, and are its own
pub decimal_is : (k v : ℕ) → v < 10 ^ suc k → Plain (suc k) v (decimal_in (suc k) v)
decimal_is zero v h = is_one zero v (omega arith)
decimal_is (suc k) v h = go (dec_lt v 10) (decimal_is k (v / 10))
  where
    go : Dec (v < 10) → (v / 10 < 10 ^ suc k → Plain (suc k) (v / 10) (decimal_in (suc k) (v / 10))) → Plain (suc (suc k)) v (decimal_in (suc (suc k)) v)
    go (yes l) r = is_one (suc k) v l
    go (no n) r =
        let t : 10 ≤ v = omega (arith, n) in
        rw (decimal_two (suc k) v t) (is_more (suc k) v (decimal_in (suc k) (v / 10)) t (r (omega (arith, pow-suc 10 (suc k)))))

-- a value is read back
pub value_back : (v : ℕ) (rest : List ℕ) → v < 10 ^ 10 → read_value_lem (decimal v ++ 10 ∷ rest) ≡ Some (v, length (decimal v) + 1)
value_back v rest h =
    sym (value_good s n (sym (ap length d)) p.some p.few (get_or-append_seam ds 10 rest 0) (λ l z. lead l z))
    ∙ ap (λ (x : ℕ). Some (x, n + 1)) (ap (number_from 0) d ∙ p.value)
  where
    ds : List ℕ
    ds = decimal v

    n : ℕ
    n = length ds

    s : List ℕ
    s = ds ++ 10 ∷ rest

    p : Plain 10 v ds
    p = decimal_is 9 v h

    d : digits s ≡ ds
    d = digits_before ds 10 rest p.all refl

    lead : 1 < n → get_or s 0 0 ≡ 48 → ⊥
    lead l z = big (dec_lt v 10)
      where
        big : Dec (v < 10) → ⊥
        big (yes q) = omega (arith, p.short q)
        big (no q) = omega (arith, p.head (omega (arith, q)), get_or-append ds (10 ∷ rest) 0 0 p.some)

-- a text that is a key with anything behind it starts with that key
pub starts_own : (key s : List ℕ) → starts_with key (key ++ s) ≡ true
unfolding starts_with
starts_own [] s = refl
starts_own (k ∷ ks) s = rw (starts_with, eq-eqb k k refl) (starts_own ks s)

-- a line is read back
pub line_back : (key : List ℕ) (v : ℕ) (rest : List ℕ) → v < 10 ^ 10 → read_line_lem key (line key v ++ rest) ≡ Some (v, length (line key v))
unfolding line
line_back key v rest h =
    ap (read_line_lem key) (append_assoc key (decimal v ++ 10 ∷ []) rest ∙ ap (λ (r : List ℕ). key ++ r) (append_assoc (decimal v) (10 ∷ []) rest))
    ∙ line_is key (key ++ (decimal v ++ 10 ∷ rest)) (starts_own key _)
    ∙ ap (after (length key)) (ap read_value_lem (drop-append_seam key (decimal v ++ 10 ∷ rest)) ∙ value_back v rest h)
    ∙ ap (λ (m : ℕ). Some (v, m)) (sym (length-append key (decimal v ++ 10 ∷ []) ∙ ap (λ (j : ℕ). length key + j) (length-append (decimal v) (10 ∷ []))))
