-- Laws of the definitions of a line that the proofs cite.
use Rattle.std.specs.Prelude.{Option, Some, None, Result, Ok, Err}
use Prim.Native.Nat.{ℕ, ◌+◌, ◌-◌, ◌*◌, ◌^◌, ◌≤◌, ◌<◌}
use mathlib.Core.Path.{◌≡◌, refl, sym, ap, ap₂, ◌∙◌}
use mathlib.Core.List.{List, [], ◌∷◌}
use mathlib.Core.Bool.{Bool, true, false, cond, ◌&&◌}
use native.Mathlib.Nat.{pow-suc, pow-le-pow_right}
use native.Mathlib.Numerals.{add-one}
use native.Mathlib.Omega.{arith}
use native.Mathlib.Decide.{dec_lt}
use mathlib.Core.Bool.{and-eq-true_iff, ◌||◌, not, and-false, false≢true}
use mathlib.Core.Logic.{◌⊎◌, inl, inr}
use lib.Dec.{leb, eqb}
use Rattle.std.proofs.Math.Decide.{ℕ_discrete}
use lib.Pointwise.{pointwise}
use lib.ListN.{length, get_or, drop, take, length-drop, get_or-eq_default}
use lib.Seq.{drop-cons, take_all}
use borrow.Author.Tests.{le-leb, lt-leb, leb-true, eqb-true, eq-eqb, ne_eqb}
use Rattle.std.specs.List.{position_or_len}
use Rattle.std.proofs.lemmas.List.Recursion.{is_position_or_len}
use Rattle.lines.specs.Line.{is_digit, digits, number_from, plain, starts_with, read_value_lem, read_line_lem, after}
use Rattle.lines.specs.Parser.{in_range, read_field_lem}

-- one more element, at the code's i + 1
pub drop_step : (s : List ℕ) (i : ℕ) → i < length s → drop i s ≡ get_or s i 0 ∷ drop (i + 1) s
drop_step s i h = rw (add-one, drop-cons s i 0)

-- the part of a slice from k on, as the borrow checker gives it
pub rest_of : (s : List ℕ) (k : ℕ) → take (length s - k) (drop k s) ≡ drop k s
rest_of s k = take_all (length s - k) (drop k s) (simp length-drop (omega arith))

-- a byte from that of `0` to that of `9` is a digit
pub digit_yes : (b : ℕ) → 48 ≤ b → b ≤ 57 → is_digit b ≡ true
digit_yes b l h = simp (le-leb 48 b l, le-leb b 57 h)

-- a list from i on begins with a digit, or not
pub digits_more : (s : List ℕ) (i : ℕ) → i < length s → is_digit (get_or s i 0) ≡ true → digits (drop i s) ≡ get_or s i 0 ∷ digits (drop (i + 1) s)
unfolding digits
digits_more s i h d = rw (drop_step s i h, digits, d)

-- from a byte that is no digit on there are no digits
pub digits_stop : (s : List ℕ) (i : ℕ) → i < length s → is_digit (get_or s i 0) ≡ false → digits (drop i s) ≡ []
unfolding digits
digits_stop s i h d = rw (drop_step s i h, digits, d)

-- from the end of the text on there are no digits
pub digits_end : (s : List ℕ) (i : ℕ) → length s ≤ i → digits (drop i s) ≡ []
unfolding digits
digits_end s i h = rw (lib.ListN.drop_of_length-le s h)

-- where a digit stands at i
pub record Digit (s : List ℕ) (i : ℕ) : Type 0 where
  -- the digit at i lies within the text
  pub inside : i < length s
  -- its byte is at least that of `0`
  pub low : 48 ≤ get_or s i 0
  -- its byte is at most that of `9`
  pub high : get_or s i 0 ≤ 57
  -- the digits from i on are it and those from the next place on
  pub next : digits (drop i s) ≡ get_or s i 0 ∷ digits (drop (i + 1) s)

-- where the digits from i on are not none, a digit stands at i
pub digit_at : (s : List ℕ) (i : ℕ) → 0 < length (digits (drop i s)) → Digit s i
digit_at s i h = inside (dec_lt i (length s))
  where
    test : i < length s → (t : Bool) → is_digit (get_or s i 0) ≡ t → Digit s i
    test l true e =
        let b = (and-eq-true_iff (leb 48 (get_or s i 0)) (leb (get_or s i 0) 57)).0 e in
        record { inside = l; low = leb-true _ _ b.0; high = leb-true _ _ b.1; next = digits_more s i l e }
    test l false e = absurd (omega (arith, ap length (digits_stop s i l e)))

    inside : Dec (i < length s) → Digit s i
    inside (yes l) = test l (is_digit (get_or s i 0)) refl
    inside (no n) = absurd (omega (arith, ap length (digits_end s i (omega (arith, n)))))

-- the next power of ten is ten times the one before
pub pow_step : (i : ℕ) → 10 ^ (i + 1) ≡ 10 ^ i * 10
pow_step i = rw add-one (pow-suc 10 i)

-- a power of ten with exponent at most 9 is at most 1000000000
pub pow_nine : (i : ℕ) → i < 10 → 10 ^ i ≤ 1000000000
pow_nine i h = pow-le-pow_right (omega arith) {j = 9} (omega arith)

-- the digits' number, a digit at a time
pub number_next : (v d : ℕ) (ds : List ℕ) {es : List ℕ} → es ≡ d ∷ ds → number_from v es ≡ number_from (v * 10 + (d - 48)) ds
unfolding number_from
number_next v d ds e = ap (number_from v) e

-- no more digits leave the number that was read so far
pub number_end : (v : ℕ) (ds : List ℕ) → length ds ≡ 0 → v ≡ number_from v ds
unfolding number_from
number_end v [] h = refl
number_end v (d ∷ ds) h = absurd (omega arith)

-- what a value is, by n, the number of digits
module _ (s : List ℕ) (n : ℕ) (e : n ≡ length (digits s)) where
  tested : Bool
  tested = plain (digits s) && eqb (get_or s (length (digits s)) 0) 10

  refused : tested ≡ false → None ≡ read_value_lem s
  unfolding tested read_value_lem
  refused t = rw (read_value_lem, t)

  -- a value without any digit is no good value
  pub none_bad : n < 1 → None ≡ read_value_lem s
  unfolding tested
  none_bad h = refused (simp (← e, lt-leb 1 n h))

  -- a value of more than ten digits is no good value
  pub long_bad : 10 < n → None ≡ read_value_lem s
  unfolding tested
  long_bad h = refused (simp (← e, le-leb 1 n (omega arith), lt-leb n 10 h))

  -- a value whose digits byte 10 does not follow is no good value
  pub mark_bad : (get_or s n 0 ≡ 10 → ⊥) → None ≡ read_value_lem s
  unfolding tested
  mark_bad h = refused (simp (← e, ne_eqb (get_or s n 0) 10 h, and-false))

  head : 1 ≤ n → get_or (digits s) 0 0 ≡ get_or s 0 0
  head h = ap (λ (l : List ℕ). get_or l 0 0) (digit_at s 0 (omega arith)).next

  -- a value of two or more digits with a leading zero is no good value
  pub zero_bad : 1 < n → get_or s 0 0 ≡ 48 → None ≡ read_value_lem s
  unfolding tested
  zero_bad h z = refused (simp (← e, head (omega arith), z, le-leb 1 n (omega arith), ne_eqb n 1 (omega arith), and-false))

  accepted : tested ≡ true → Some (number_from 0 (digits s), length (digits s) + 1) ≡ read_value_lem s
  unfolding tested read_value_lem
  accepted t = rw (read_value_lem, t)

  -- 1 to 10 digits without leading zero, with byte 10 behind, are read as their number
  pub value_good : 1 ≤ n → n ≤ 10 → get_or s n 0 ≡ 10 → (1 < n → get_or s 0 0 ≡ 48 → ⊥) → Some (number_from 0 (digits s), n + 1) ≡ read_value_lem s
  unfolding tested
  value_good l h m z = rw e (accepted (simp (← e, le-leb 1 n l, le-leb n 10 h, eq-eqb (get_or s n 0) 10 m, plain_zero (dec_lt 1 n))))
    where
      plain_zero : Dec (1 < n) → (eqb n 1 || not (eqb (get_or (digits s) 0 0) 48)) ≡ true
      plain_zero (yes g) = simp (ne_eqb n 1 (omega arith), head (omega arith), ne_eqb (get_or s 0 0) 48 (z g))
      plain_zero (no g) = simp (eq-eqb n 1 (omega arith))

-- the library's comparison of a text's first bytes with a key, as a definition of ours
pub starts_same : (key s : List ℕ) → pointwise eqb key (take (length key) s) ≡ starts_with key s
unfolding starts_with
starts_same [] s = refl
starts_same (k ∷ ks) [] = refl
starts_same (k ∷ ks) (b ∷ bs) = ap (λ (t : Bool). eqb k b && t) (starts_same ks bs)

-- a text begins with a key where the library's comparison says so
pub starts_told : (key s : List ℕ) {t b : Bool} → t ≡ pointwise eqb key (take (length key) s) → t ≡ b → starts_with key s ≡ b
starts_told key s e h = sym (starts_same key s) ∙ sym e ∙ h

-- a comparison of two numbers, the other way round
eqb_turned : (a b : ℕ) → eqb a b ≡ eqb b a
eqb_turned a b = go (ℕ_discrete a b)
  where
    go : Dec (a ≡ b) → eqb a b ≡ eqb b a
    go (yes e) = eq-eqb a b e ∙ sym (eq-eqb b a (sym e))
    go (no n) = ne_eqb a b n ∙ sym (ne_eqb b a (λ e. n (sym e)))

-- the library's comparison of a prefix that is taken off, which has the text in front
pub strips_same : (key s : List ℕ) → pointwise eqb (take (length key) s) key ≡ starts_with key s
unfolding starts_with
strips_same [] s = refl
strips_same (k ∷ ks) [] = refl
strips_same (k ∷ ks) (b ∷ bs) = ap₂ (λ (t u : Bool). t && u) (eqb_turned b k) (strips_same ks bs)

-- a list's digits end where the library finds its first byte that is none
pub run_is : (s : List ℕ) → position_or_len (λ (b : ℕ). not (is_digit b)) s ≡ length (digits s)
unfolding digits
run_is s = sym (is_position_or_len (λ (bs : List ℕ). length (digits bs)) (λ (b : ℕ). not (is_digit b)) refl (λ b bs. go bs (is_digit b) b refl) s)
  where
    go : (bs : List ℕ) (t : Bool) (b : ℕ) → is_digit b ≡ t → length (digits (b ∷ bs)) ≡ cond (not (is_digit b)) 0 (1 + length (digits bs))
    go bs true b e = rw (digits, e) (omega arith)
    go bs false b e = rw (digits, e) refl

-- the first bytes of a text, as many as its digits, are its digits
pub digits_first : (s : List ℕ) → take (length (digits s)) s ≡ digits s
unfolding digits
digits_first [] = refl
digits_first (b ∷ bs) = go (is_digit b) refl (digits_first bs)
  where
    go : (t : Bool) → is_digit b ≡ t → take (length (digits bs)) bs ≡ digits bs → take (length (digits (b ∷ bs))) (b ∷ bs) ≡ digits (b ∷ bs)
    go true e h = rw (digits, e) (ap (λ (ds : List ℕ). b ∷ ds) h)
    go false e h = rw (digits, e) refl

-- digits begin with all of themselves
pub digits_own : (s : List ℕ) → digits (digits s) ≡ digits s
unfolding digits
digits_own [] = refl
digits_own (b ∷ bs) = go (is_digit b) refl (digits_own bs)
  where
    go : (t : Bool) → is_digit b ≡ t → digits (digits bs) ≡ digits bs → digits (digits (b ∷ bs)) ≡ digits (b ∷ bs)
    go true e h = rw (digits, e, digits, e) (ap (λ (ds : List ℕ). b ∷ ds) h)
    go false e h = rw (digits, e) refl

-- a key that stands there is no longer than the text
pub starts_le : (key s : List ℕ) → starts_with key s ≡ true → length key ≤ length s
unfolding starts_with
starts_le [] s e = omega arith
starts_le (k ∷ ks) [] e = absurd (false≢true e)
starts_le (k ∷ ks) (b ∷ bs) e = omega (arith, starts_le ks bs ((and-eq-true_iff (eqb k b) (starts_with ks bs)).0 e).1)

-- a line, by whether its key stands there
pub line_not : (key s : List ℕ) → starts_with key s ≡ false → None ≡ read_line_lem key s
unfolding read_line_lem
line_not key s e = rw (read_line_lem, e)

-- a line that starts with its key is read as the value behind the key
pub line_is : (key s : List ℕ) → starts_with key s ≡ true → read_line_lem key s ≡ after (length key) (read_value_lem (drop (length key) s))
unfolding read_line_lem
line_is key s e = rw (read_line_lem, e)

-- a list that has something other than 0 at i is longer than i
pub get_d_inside : (s : List ℕ) (i : ℕ) → 0 < get_or s i 0 → i < length s
get_d_inside s i h = go (dec_lt i (length s))
  where
    go : Dec (i < length s) → i < length s
    go (yes l) = l
    go (no n) = absurd (omega (arith, get_or-eq_default s 0 {n = i} (omega (arith, n))))

-- a line that was read has bytes, and no more than there are
abbrev pub Within : ℕ → Option (ℕ × ℕ) → Type 0
Within m (Some (v, n)) = (1 ≤ n) × (n ≤ m)
Within m None = Unit {0}

-- a value that was read has a byte at least, and no more than the text
pub value_within : (s : List ℕ) → Within (length s) (read_value_lem s)
unfolding tested
value_within s = go (tested s (length (digits s)) refl) refl
  where
    go : (t : Bool) → tested s (length (digits s)) refl ≡ t → Within (length s) (read_value_lem s)
    go true e =
        rw (← accepted s (length (digits s)) refl e)
        (omega (arith, get_d_inside s (length (digits s)) (omega (arith, eqb-true (get_or s (length (digits s)) 0) 10 ((and-eq-true_iff (plain (digits s)) _).0 e).1))))
    go false e = rw (← refused s (length (digits s)) refl e) tt

-- a line that was read has a byte at least, and no more than the text
pub line_within : (key s : List ℕ) → Within (length s) (read_line_lem key s)
line_within key s = go (starts_with key s) refl
  where
    behind : (l : Option (ℕ × ℕ)) → Within (length (drop (length key) s)) l → length key ≤ length s → Within (length s) (after (length key) l)
    behind (Some (w, m)) h k = omega (arith, length-drop (length key) s)
    behind None h k = tt

    go : (t : Bool) → starts_with key s ≡ t → Within (length s) (read_line_lem key s)
    go true t = rw (line_is key s t) (behind (read_value_lem (drop (length key) s)) (value_within (drop (length key) s)) (starts_le key s t))
    go false t = rw (← line_not key s t) tt

-- a field, by its line
module _ (key s : List ℕ) (lo hi : ℕ) where
  -- a bad line is fault 2, whatever range its value may have
  pub field_none : read_line_lem key s ≡ None → Err 2 ≡ read_field_lem key lo hi s
  unfolding read_field_lem in_range
  field_none e = rw e

  -- a value below its range makes the field fault 3
  pub field_low : {v n : ℕ} → read_line_lem key s ≡ Some (v, n) → v < lo → Err 3 ≡ read_field_lem key lo hi s
  unfolding read_field_lem in_range
  field_low {v} e h = rw (e, in_range, lt-leb lo v h)

  -- a value above its range makes the field fault 3
  pub field_high : {v n : ℕ} → read_line_lem key s ≡ Some (v, n) → lo ≤ v → hi < v → Err 3 ≡ read_field_lem key lo hi s
  unfolding read_field_lem in_range
  field_high {v} e l h = rw (e, in_range, le-leb lo v l, lt-leb v hi h)

  -- a line whose value is in its range gives the field with that value
  pub field_good : {v n : ℕ} → read_line_lem key s ≡ Some (v, n) → lo ≤ v → v ≤ hi → Ok (v, n) ≡ read_field_lem key lo hi s
  unfolding read_field_lem in_range
  field_good {v} e l h = rw (e, in_range, le-leb lo v l, le-leb v hi h)

-- a field that was read is in range and within the text; a fault is number 2 or 3
abbrev pub InField : ℕ → ℕ → ℕ → Result (ℕ × ℕ) ℕ → Type 0
InField lo hi m (Ok (v, n)) = (1 ≤ n) × (n ≤ m) × (lo ≤ v) × (v ≤ hi)
InField lo hi m (Err k) = (k ≡ 2) ⊎ (k ≡ 3)

range_in : (lo hi m : ℕ) (l : Option (ℕ × ℕ)) → Within m l → InField lo hi m (in_range lo hi l)
unfolding in_range
range_in lo hi m (Some (v, n)) w = go (leb lo v && leb v hi) refl
  where
    go : (t : Bool) → (leb lo v && leb v hi) ≡ t → InField lo hi m (in_range lo hi (Some (v, n)))
    go true e =
        let b = (and-eq-true_iff (leb lo v) (leb v hi)).0 e in
        rw (in_range, e) (w.0, w.1, leb-true lo v b.0, leb-true v hi b.1)
    go false e = rw (in_range, e) (inr refl)
range_in lo hi m None w = inl refl

-- a field is in range and within the text, or it is fault 2 or 3
pub field_in : (key s : List ℕ) (lo hi : ℕ) → InField lo hi (length s) (read_field_lem key lo hi s)
unfolding read_field_lem
field_in key s lo hi = range_in lo hi (length s) (read_line_lem key s) (line_within key s)
