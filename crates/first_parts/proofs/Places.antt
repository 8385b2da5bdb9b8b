-- The parts that lists make, one by one: the first stands before those of the lists behind it (`parts_next`), and these agree (`agree_next`). By the lists' cases.
use Prim.Native.Nat.{ℕ, zero, suc, ◌+◌, ◌-◌, ◌*◌, ◌≤◌, ◌<◌}
use mathlib.Core.Path.{◌≡◌, refl, sym, ap, ◌∙◌}
use mathlib.Core.Bool.{cond}
use mathlib.Core.List.{List, [], ◌∷◌}
use native.Mathlib.Omega.{arith}
use native.Mathlib.Nat.{suc-mul}
use lib.Dec.{eqb}
use lib.ListN.{length, get_or, take, drop, length-drop}
use Rattle.base.specs.Each.{All}
use Rattle.quotes.specs.Grammar.{Quote}
use Rattle.part_lines.specs.Grammar.{PartText}
use Rattle.form_facts.specs.Facts.{PartLists, covers_of, rules_of, quotes_in, grouped, parts_of, sum_of, PartsAgree}
use Rattle.form_facts.proofs.Facts.{marks_few, quotes_drop}
use Rattle.first_parts.specs.Fronts.{listed_first, first_part, behind_first}

-- the parts behind the first, with these prices
abbrev rest : ℕ → PartLists → List Quote → List PartText
rest n x qs = let y = behind_first n x in grouped n y.lives y.lefts (covers_of y.covered y.removals y.insides y.holders) (rules_of y.ruled y.bases y.drops y.leasts) qs

-- the lists of the first part, by its marks
next : (n l r c u : ℕ) (ls rs cs vs is hs us bs ds ms zs ws ps : List ℕ) → c ≤ 1 → u ≤ 1
    → let x : PartLists = record { lives = l ∷ ls; lefts = r ∷ rs; covered = c ∷ cs; removals = vs; insides = is; holders = hs; ruled = u ∷ us; bases = bs; drops = ds; leasts = ms; banded = zs; lows = ws; prices = ps } in
    parts_of n x ≡ first_part n x ∷ rest n x (drop (listed_first n x) (quotes_in x))
unfolding grouped covers_of rules_of
next n l r zero zero ls rs cs vs is hs us bs ds ms zs ws ps h g = refl
next n l r (suc zero) zero ls rs cs vs is hs us bs ds ms zs ws ps h g = refl
next n l r zero (suc zero) ls rs cs vs is hs us bs ds ms zs ws ps h g = refl
next n l r (suc zero) (suc zero) ls rs cs vs is hs us bs ds ms zs ws ps h g = refl
next n l r (suc (suc c)) u ls rs cs vs is hs us bs ds ms zs ws ps h g = absurd (omega arith)
next n l r zero (suc (suc u)) ls rs cs vs is hs us bs ds ms zs ws ps h g = absurd (omega arith)
next n l r (suc zero) (suc (suc u)) ls rs cs vs is hs us bs ds ms zs ws ps h g = absurd (omega arith)

-- the first part of the lists is the one that their first entries give
pub parts_next : (n : ℕ) (x : PartLists) → PartsAgree n x → 0 < length x.lives → parts_of n x ≡ first_part n x ∷ parts_of n (behind_first n x)
parts_next n x h some =
    go x.lives x.lefts x.covered x.ruled h.lefts h.covered h.ruled h.marks h.rule_marks some
    ∙ ap (λ (qs : List Quote). first_part n x ∷ rest n x qs) (sym (quotes_drop (listed_first n x) x.banded x.lows x.prices h.band_marks h.banded))
  where
    go : (ls rs cs us : List ℕ) → length rs ≡ length ls → length cs ≡ length ls → length us ≡ length ls → All (λ (c : ℕ). c ≤ 1) cs → All (λ (u : ℕ). u ≤ 1) us → 0 < length ls
        → let y : PartLists = record { lives = ls; lefts = rs; covered = cs; removals = x.removals; insides = x.insides; holders = x.holders; ruled = us; bases = x.bases; drops = x.drops; leasts = x.leasts; banded = x.banded; lows = x.lows; prices = x.prices } in
        parts_of n y ≡ first_part n y ∷ rest n y (drop (listed_first n y) (quotes_in y))
    go [] rs cs us e f g m q some = absurd (omega arith)
    go (l ∷ ls) [] cs us e f g m q some = absurd (omega arith)
    go (l ∷ ls) (r ∷ rs) [] us e f g m q some = absurd (omega arith)
    go (l ∷ ls) (r ∷ rs) (c ∷ cs) [] e f g m q some = absurd (omega arith)
    go (l ∷ ls) (r ∷ rs) (c ∷ cs) (u ∷ us) e f g m q some = next n l r c u ls rs cs x.removals x.insides x.holders us x.bases x.drops x.leasts x.banded x.lows x.prices m.0 q.0

-- what is left of the holders
held : (c : ℕ) (is hs : List ℕ) → c ≤ 1 → c ≤ length is → length hs ≡ sum_of is → length (drop (cond (eqb c 1) (get_or is 0 0) 0) hs) ≡ sum_of (drop c is)
held zero is hs h i e = e
held (suc zero) [] hs h i e = absurd (omega arith)
held (suc zero) (v ∷ is) hs h i e = length-drop v hs ∙ (let q : length hs ≡ v + sum_of is = e in omega (arith, q))
held (suc (suc c)) is hs h i e = absurd (omega arith)

-- the prices of the first part, with m parts behind it of which k have a rule, and what is left of them
pub listed_here : (n u m k p : ℕ) → u ≤ 1 → k ≤ m → p ≡ (suc m - (u + k)) * n → (cond (eqb u 1) 0 n ≤ p) × (p - cond (eqb u 1) 0 n ≡ (m - k) * n)
listed_here n zero m k p h few e =
    let z : suc m - (0 + k) ≡ suc (m - k) = omega arith in
    let q : p ≡ (m - k) * n + n = e ∙ ap (λ (i : ℕ). i * n) z ∙ suc-mul (m - k) n in
    (omega (arith, q), omega (arith, q))
listed_here n (suc zero) m k p h few e = let z : suc m - (1 + k) ≡ m - k = omega arith in (omega arith, (let q : p ≡ (m - k) * n = e ∙ ap (λ (i : ℕ). i * n) z in omega (arith, q)))
listed_here n (suc (suc u)) m k p h few e = absurd (omega arith)

all_drop : (i : ℕ) (zs : List ℕ) → All (λ (z : ℕ). z ≤ 1) zs → All (λ (z : ℕ). z ≤ 1) (drop i zs)
all_drop zero zs m = m
all_drop (suc i) [] m = tt
all_drop (suc i) (z ∷ zs) m = all_drop i zs m.1

sum_split : (i : ℕ) (zs : List ℕ) → sum_of zs ≡ sum_of (take i zs) + sum_of (drop i zs)
sum_split zero zs = omega arith
sum_split (suc i) [] = omega arith
sum_split (suc i) (z ∷ zs) = omega (arith, sum_split i zs)

-- the lists behind the first part's entries agree with each other too
pub agree_next : (n : ℕ) (x : PartLists) → PartsAgree n x → 0 < length x.lives → PartsAgree n (behind_first n x)
agree_next n x h some = go x.lives x.lefts x.covered x.ruled h.lefts h.covered h.ruled h.marks h.rule_marks h.removals h.insides h.bases h.drops h.leasts h.prices some
  where
    go : (ls rs cs us : List ℕ) → length rs ≡ length ls → length cs ≡ length ls → length us ≡ length ls → All (λ (c : ℕ). c ≤ 1) cs → All (λ (u : ℕ). u ≤ 1) us
        → length x.removals ≡ sum_of cs → length x.insides ≡ sum_of cs → length x.bases ≡ sum_of us → length x.drops ≡ sum_of us → length x.leasts ≡ sum_of us
        → length x.prices ≡ (length ls - sum_of us) * n → 0 < length ls
        → PartsAgree n (behind_first n (record { lives = ls; lefts = rs; covered = cs; removals = x.removals; insides = x.insides; holders = x.holders; ruled = us; bases = x.bases; drops = x.drops; leasts = x.leasts; banded = x.banded; lows = x.lows; prices = x.prices }))
    go [] rs cs us e f g m q a b i j k p some = absurd (omega arith)
    go (l ∷ ls) [] cs us e f g m q a b i j k p some = absurd (omega arith)
    go (l ∷ ls) (r ∷ rs) [] us e f g m q a b i j k p some = absurd (omega arith)
    go (l ∷ ls) (r ∷ rs) (c ∷ cs) [] e f g m q a b i j k p some = absurd (omega arith)
    go (l ∷ ls) (r ∷ rs) (c ∷ cs) (u ∷ us) e f g m q a b i j k p some = record {
      lefts = omega arith;
      covered = omega arith;
      marks = m.1;
      removals = length-drop c x.removals ∙ (omega (arith, a));
      insides = length-drop c x.insides ∙ (omega (arith, b));
      holders = held c x.insides x.holders m.0 (omega (arith, b)) h.holders;
      ruled = omega arith;
      rule_marks = q.1;
      bases = length-drop u x.bases ∙ (omega (arith, i));
      drops = length-drop u x.drops ∙ (omega (arith, j));
      leasts = length-drop u x.leasts ∙ (omega (arith, k));
      prices = length-drop (cond (eqb u 1) 0 n) x.prices ∙ (listed_here n u (length ls) (sum_of us) (length x.prices) q.0 (omega (arith, marks_few us q.1, g)) p).1;
      banded = length-drop (cond (eqb u 1) 0 n) x.banded ∙ ap (λ (i : ℕ). i - cond (eqb u 1) 0 n) h.banded ∙ sym (length-drop (cond (eqb u 1) 0 n) x.prices);
      band_marks = all_drop (cond (eqb u 1) 0 n) x.banded h.band_marks;
      lows = length-drop (sum_of (take (cond (eqb u 1) 0 n) x.banded)) x.lows ∙ (omega (arith, h.lows, sum_split (cond (eqb u 1) 0 n) x.banded));
    }
