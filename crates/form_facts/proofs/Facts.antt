-- What lists state: as many openings as steps, where those agree in length (`paired_size`, `paired_at`), as many parts as lives (`parts_size`); prices from a place on (`quotes_drop`, `quotes_take`); and what it says that lists agree
-- (`agree_says`, `says_agree`). By the lists' cases.
use Rattle.std.specs.Prelude.{Option, Some, None, IfSome}
use Prim.Native.Nat.{ℕ, zero, suc, ◌+◌, ◌-◌, ◌*◌, ◌≤◌, ◌<◌}
use mathlib.Core.Path.{◌≡◌, refl, sym, ap, ap₂, ◌∙◌, subst}
use mathlib.Core.Bool.{Bool, true, false, cond, ◌&&◌, and-eq-true_iff}
use mathlib.Core.List.{List, [], ◌∷◌}
use native.Mathlib.Omega.{arith}
use native.Mathlib.Nat.{mul-le-mul_right}
use native.Mathlib.Numerals.{add-one}
use borrow.Author.Tests.{eq-eqb, eqb-true, leb-true, le-leb}
use lib.Dec.{eqb, leb}
use lib.ListN.{length, get_or, take, drop}
use lib.Seq.{drop-drop, get_or-drop}
use Rattle.std.specs.List.{list_all, sum_by}
use Rattle.std.proofs.lemmas.List.Recursion.{is_sum_by}
use Rattle.model.specs.Model.{Opening}
use Rattle.base.specs.Each.{All}
use Rattle.covers.specs.Grammar.{Cover}
use Rattle.quotes.specs.Grammar.{Quote, single, pair}
use Rattle.quotes.specs.Views.{quote_of}
use Rattle.price_rules.specs.Rule.{Rule}
use Rattle.form_facts.specs.Facts.{PartLists, paired, covers_of, rules_of, quotes_from, quotes_in, counted_for, grouped, parts_of, sum_of, all_marks, covers_agree_lem, prices_agree_lem, bands_agree_lem, parts_agree_lem, PartsAgree}

-- openings from equally long lists of steps and fees are as many
pub paired_size : (os fs : List ℕ) → length fs ≡ length os → length (paired os fs) ≡ length os
unfolding paired
paired_size [] fs e = refl
paired_size (o ∷ os) [] e = absurd (omega arith)
paired_size (o ∷ os) (f ∷ fs) e = ap suc (paired_size os fs (omega arith))

-- the opening at place i has the step and the fee of that place
pub paired_at : (os fs : List ℕ) → length fs ≡ length os → (i : ℕ) (d : Opening) → i < length os → get_or (paired os fs) i d ≡ record { step = get_or os i 0; fee = get_or fs i 0 }
unfolding paired
paired_at [] fs e i d h = absurd (omega arith)
paired_at (o ∷ os) [] e i d h = absurd (omega arith)
paired_at (o ∷ os) (f ∷ fs) e zero d h = refl
paired_at (o ∷ os) (f ∷ fs) e (suc i) d h = paired_at os fs (omega arith) i d (omega arith)

-- there are lines of removal, or none, for each of the marks
pub covers_size : (cs vs is hs : List ℕ) → length (covers_of cs vs is hs) ≡ length cs
unfolding covers_of
covers_size [] vs is hs = refl
covers_size (zero ∷ cs) vs is hs = ap suc (covers_size cs vs is hs)
covers_size (suc c ∷ cs) vs is hs = ap suc (covers_size cs (drop 1 vs) (drop 1 is) (drop (get_or is 0 0) hs))

-- there are as many rules, stated or not, as marks
pub rules_size : (us bs ds ms : List ℕ) → length (rules_of us bs ds ms) ≡ length us
unfolding rules_of
rules_size [] bs ds ms = refl
rules_size (zero ∷ us) bs ds ms = ap suc (rules_size us bs ds ms)
rules_size (suc u ∷ us) bs ds ms = ap suc (rules_size us (drop 1 bs) (drop 1 ds) (drop 1 ms))

-- there is a part for each life, where first lives and lines of removal are as many
pub grouped_size : (n : ℕ) (ls rs : List ℕ) (cs : List (Option Cover)) (us : List (Option Rule)) (qs : List Quote) → length rs ≡ length ls → length cs ≡ length ls → length us ≡ length ls
    → length (grouped n ls rs cs us qs) ≡ length ls
unfolding grouped
grouped_size n [] rs cs us qs e f g = refl
grouped_size n (l ∷ ls) [] cs us qs e f g = absurd (omega arith)
grouped_size n (l ∷ ls) (r ∷ rs) [] us qs e f g = absurd (omega arith)
grouped_size n (l ∷ ls) (r ∷ rs) (c ∷ cs) [] qs e f g = absurd (omega arith)
grouped_size n (l ∷ ls) (r ∷ rs) (c ∷ cs) (u ∷ us) qs e f g = ap suc (grouped_size n ls rs cs us (drop (counted_for n u) qs) (omega arith) (omega arith) (omega arith))

-- lists that agree make as many parts as they have lives
pub parts_size : (n : ℕ) (x : PartLists) → PartsAgree n x → length (parts_of n x) ≡ length x.lives
parts_size n x h =
    grouped_size n x.lives x.lefts (covers_of x.covered x.removals x.insides x.holders) (rules_of x.ruled x.bases x.drops x.leasts) (quotes_in x) h.lefts
    (covers_size x.covered x.removals x.insides x.holders ∙ h.covered) (rules_size x.ruled x.bases x.drops x.leasts ∙ h.ruled)

-- ---- E11. prices from a place on: the next low ends are those of the marks from there on

-- the prices from place i on are those of the marks, prices and low ends from there on
pub quotes_drop : (i : ℕ) (zs ws ps : List ℕ) → All (λ (z : ℕ). z ≤ 1) zs → length zs ≡ length ps → quotes_from (drop i zs) (drop (sum_of (take i zs)) ws) (drop i ps) ≡ drop i (quotes_from zs ws ps)
unfolding quotes_from
quotes_drop zero zs ws ps m e = refl
quotes_drop (suc i) [] ws ps m e = refl
quotes_drop (suc i) (z ∷ zs) ws [] m e = absurd (omega arith)
quotes_drop (suc i) (zero ∷ zs) ws (p ∷ ps) m e =
    let same : sum_of (take (suc i) (zero ∷ zs)) ≡ sum_of (take i zs) = omega arith in
    ap (λ (k : ℕ). quotes_from (drop i zs) (drop k ws) (drop i ps)) same ∙ quotes_drop i zs ws ps m.1 (omega arith)
quotes_drop (suc i) (suc zero ∷ zs) ws (p ∷ ps) m e = ap (λ (us : List ℕ). quotes_from (drop i zs) us (drop i ps)) (sym (drop-drop (sum_of (take i zs)) 1 ws)) ∙ quotes_drop i zs (drop 1 ws) ps m.1 (omega arith)
quotes_drop (suc i) (suc (suc z) ∷ zs) ws (p ∷ ps) m e = absurd (omega (arith, m.0))

-- the prices up to place i are those of the marks and prices up to there
pub quotes_take : (i : ℕ) (zs ws ps : List ℕ) → quotes_from (take i zs) ws (take i ps) ≡ take i (quotes_from zs ws ps)
unfolding quotes_from
quotes_take zero zs ws ps = refl
quotes_take (suc i) [] ws ps = refl
quotes_take (suc i) (z ∷ zs) ws [] = refl
quotes_take (suc i) (zero ∷ zs) ws (p ∷ ps) = ap (λ (qs : List Quote). single p ∷ qs) (quotes_take i zs ws ps)
quotes_take (suc i) (suc z ∷ zs) ws (p ∷ ps) = ap (λ (qs : List Quote). pair (get_or ws 0 0) p ∷ qs) (quotes_take i zs (drop 1 ws) ps)

-- there are as many prices, single or pairs, as listed ones where each has a mark
pub quotes_size : (zs ws ps : List ℕ) → length zs ≡ length ps → length (quotes_from zs ws ps) ≡ length ps
unfolding quotes_from
quotes_size [] ws ps e = e
quotes_size (z ∷ zs) ws [] e = absurd (omega arith)
quotes_size (zero ∷ zs) ws (p ∷ ps) e = ap suc (quotes_size zs ws ps (omega arith))
quotes_size (suc z ∷ zs) ws (p ∷ ps) e = ap suc (quotes_size zs (drop 1 ws) ps (omega arith))

-- the price at place i
pub quote_at : (i : ℕ) (zs ws ps : List ℕ) → All (λ (z : ℕ). z ≤ 1) zs → length zs ≡ length ps → i < length ps
    → get_or (quotes_from zs ws ps) i (single 0) ≡ quote_of (cond (eqb (get_or zs i 0) 1) (Some (get_or ws (sum_of (take i zs)) 0)) None) (get_or ps i 0)
unfolding quotes_from quote_of
quote_at i [] ws ps m e h = absurd (omega arith)
quote_at i (z ∷ zs) ws [] m e h = absurd (omega arith)
quote_at zero (zero ∷ zs) ws (p ∷ ps) m e h = refl
quote_at zero (suc zero ∷ zs) ws (p ∷ ps) m e h = refl
quote_at i (suc (suc z) ∷ zs) ws (p ∷ ps) m e h = absurd (omega (arith, m.0))
quote_at (suc i) (zero ∷ zs) ws (p ∷ ps) m e h =
    let b = eqb (get_or zs i 0) 1 in
    let same : sum_of (take i zs) ≡ sum_of (take (suc i) (zero ∷ zs)) = omega arith in
    quote_at i zs ws ps m.1 (omega arith) (omega arith) ∙ ap (λ (k : ℕ). quote_of (cond b (Some (get_or ws k 0)) None) (get_or ps i 0)) same
quote_at (suc i) (suc zero ∷ zs) ws (p ∷ ps) m e h =
    let b = eqb (get_or zs i 0) 1 in
    quote_at i zs (drop 1 ws) ps m.1 (omega arith) (omega arith) ∙ ap (λ (w : ℕ). quote_of (cond b (Some w) None) (get_or ps i 0)) (get_or-drop 1 ws (sum_of (take i zs)) 0)

-- how many marks are 1 among the first
pub sum_next : (i : ℕ) (zs : List ℕ) → i < length zs → sum_of (take (i + 1) zs) ≡ sum_of (take i zs) + get_or zs i 0
sum_next i zs h = ap (λ (k : ℕ). sum_of (take k zs)) (add-one i) ∙ go i zs h
  where
    go : (i : ℕ) (zs : List ℕ) → i < length zs → sum_of (take (suc i) zs) ≡ sum_of (take i zs) + get_or zs i 0
    go i [] h = absurd (omega arith)
    go zero (z ∷ zs) h = omega arith
    go (suc i) (z ∷ zs) h = omega (arith, go i zs (omega arith))

-- the sum of the first i of a list is at most the sum of all
pub sum_part : (i : ℕ) (zs : List ℕ) → sum_of (take i zs) ≤ sum_of zs
sum_part zero zs = omega arith
sum_part (suc i) [] = omega arith
sum_part (suc i) (z ∷ zs) = omega (arith, sum_part i zs)

-- ---- whether the lists agree, as a test and as what it says

marks_all : (cs : List ℕ) → all_marks cs ≡ true → All (λ (c : ℕ). c ≤ 1) cs
marks_all [] e = tt
marks_all (c ∷ cs) e =
    let w = (and-eq-true_iff (leb c 1) (all_marks cs)).0 e in
    (leb-true c 1 w.0, marks_all cs w.1)

-- whether each of a list is 0 or 1, as std says it
pub marks_listed : (cs : List ℕ) → list_all (λ (c : ℕ). leb c 1) cs ≡ all_marks cs
marks_listed [] = refl
marks_listed (c ∷ cs) = ap (λ (b : Bool). leb c 1 && b) (marks_listed cs)

all_marks_lem : (cs : List ℕ) → All (λ (c : ℕ). c ≤ 1) cs → all_marks cs ≡ true
all_marks_lem [] h = refl
all_marks_lem (c ∷ cs) h = ap₂ ◌&&◌ (le-leb c 1 h.0) (all_marks_lem cs h.1)

-- marks that are 1 are at most as many as the marks
pub marks_few : (cs : List ℕ) → All (λ (c : ℕ). c ≤ 1) cs → sum_of cs ≤ length cs
marks_few [] h = omega arith
marks_few (c ∷ cs) h = omega (arith, h.0, marks_few cs h.1)

-- the library's sum, in the definition's words
pub sum_is : (vs : List ℕ) → sum_by (λ (n : ℕ). n) vs ≡ sum_of vs
sum_is vs = sym (is_sum_by sum_of (λ (n : ℕ). n) refl (λ v vs. refl) vs)

-- a count that is told only of so many marks is no more
pub count_few : (n s : ℕ) (t : Bool) (o : Option ℕ) → o ≡ cond t (Some s) None → (t ≡ true → s ≤ n) → IfSome o (λ c. c ≤ n)
count_few n s true o e h = subst (λ (p : Option ℕ). IfSome p (λ c. c ≤ n)) (sym e) (h refl)
count_few n s false o e h = subst (λ (p : Option ℕ). IfSome p (λ c. c ≤ n)) (sym e) tt

-- of marks that are each 0 or 1, no more are 1 than there are marks
pub marks_known : (cs : List ℕ) → all_marks cs ≡ true → sum_of cs ≤ length cs
marks_known cs e = marks_few cs (marks_all cs e)

-- there are at most 1,024 prices
pub prices_most : (m : ℕ) (us : List ℕ) (b d l p n : ℕ) → m ≤ 16 → n ≤ 64 → prices_agree_lem m us b d l p n ≡ true → p ≤ 16 * 64
prices_most m us b d l p n few most e =
    let f = (and-eq-true_iff (eqb (length us) m) _).0 e in
    let g = (and-eq-true_iff (all_marks us) _).0 f.1 in
    let h = (and-eq-true_iff (eqb b (sum_of us)) _).0 g.1 in
    let i = (and-eq-true_iff (eqb d (sum_of us)) _).0 h.1 in
    let j = (and-eq-true_iff (eqb l (sum_of us)) _).0 i.1 in
    let low : m - sum_of us ≤ 16 = omega (arith, few) in
    omega (arith, eqb-true p ((m - sum_of us) * n) j.1, mul-le-mul_right n low, most)

-- lists that pass the test agree with each other
pub agree_says : (n : ℕ) (x : PartLists) → parts_agree_lem n x ≡ true → PartsAgree n x
agree_says n x e =
    let m = length x.lives in
    let s = (and-eq-true_iff (eqb (length x.lefts) m) _).0 e in
    let y = (and-eq-true_iff (covers_agree_lem m x.covered (length x.removals) x.insides (length x.holders)) _).0 s.1 in
    let v = (and-eq-true_iff (prices_agree_lem m x.ruled (length x.bases) (length x.drops) (length x.leasts) (length x.prices) n) (bands_agree_lem x.banded (length x.lows) (length x.prices))).0 y.1 in
    let k = (and-eq-true_iff (eqb (length x.banded) (length x.prices)) _).0 v.1 in
    let o = (and-eq-true_iff (all_marks x.banded) _).0 k.1 in
    let a = (and-eq-true_iff (eqb (length x.covered) m) _).0 y.0 in
    let b = (and-eq-true_iff (all_marks x.covered) _).0 a.1 in
    let c = (and-eq-true_iff (eqb (length x.removals) (sum_of x.covered)) _).0 b.1 in
    let d = (and-eq-true_iff (eqb (length x.insides) (sum_of x.covered)) _).0 c.1 in
    let f = (and-eq-true_iff (eqb (length x.ruled) m) _).0 v.0 in
    let g = (and-eq-true_iff (all_marks x.ruled) _).0 f.1 in
    let h = (and-eq-true_iff (eqb (length x.bases) (sum_of x.ruled)) _).0 g.1 in
    let i = (and-eq-true_iff (eqb (length x.drops) (sum_of x.ruled)) _).0 h.1 in
    let j = (and-eq-true_iff (eqb (length x.leasts) (sum_of x.ruled)) _).0 i.1 in
    record {
      lefts = eqb-true _ _ s.0;
      covered = eqb-true _ _ a.0;
      marks = marks_all x.covered b.0;
      removals = eqb-true _ _ c.0;
      insides = eqb-true _ _ d.0;
      holders = eqb-true _ _ d.1;
      ruled = eqb-true _ _ f.0;
      rule_marks = marks_all x.ruled g.0;
      bases = eqb-true _ _ h.0;
      drops = eqb-true _ _ i.0;
      leasts = eqb-true _ _ j.0;
      prices = eqb-true _ _ j.1;
      banded = eqb-true _ _ k.0;
      band_marks = marks_all x.banded o.0;
      lows = eqb-true _ _ o.1;
    }

-- lists that agree with each other pass the test
pub says_agree : (n : ℕ) (x : PartLists) → PartsAgree n x → parts_agree_lem n x ≡ true
says_agree n x h =
    ap₂ ◌&&◌ (eq-eqb _ _ h.lefts)
    (ap₂ ◌&&◌ (ap₂ ◌&&◌ (eq-eqb _ _ h.covered) (ap₂ ◌&&◌ (all_marks_lem x.covered h.marks) (ap₂ ◌&&◌ (eq-eqb _ _ h.removals) (ap₂ ◌&&◌ (eq-eqb _ _ h.insides) (eq-eqb _ _ h.holders)))))
    (ap₂ ◌&&◌ (ap₂ ◌&&◌ (eq-eqb _ _ h.ruled) (ap₂ ◌&&◌ (all_marks_lem x.ruled h.rule_marks) (ap₂ ◌&&◌ (eq-eqb _ _ h.bases) (ap₂ ◌&&◌ (eq-eqb _ _ h.drops) (ap₂ ◌&&◌ (eq-eqb _ _ h.leasts) (eq-eqb _ _ h.prices))))))
    (ap₂ ◌&&◌ (eq-eqb _ _ h.banded) (ap₂ ◌&&◌ (all_marks_lem x.banded h.band_marks) (eq-eqb _ _ h.lows)))))
