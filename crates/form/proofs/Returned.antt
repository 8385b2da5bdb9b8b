-- Lists that agree and are not too long make the very text of the job that they state (`same_text`); and the form that holds an accepted text's numbers states what the text says (`returned`). By the laws of the lists.
use Rattle.std.specs.Prelude.{Option, None, Some}
use Prim.Native.Nat.{ℕ, suc, ◌+◌, ◌-◌, ◌*◌, ◌≤◌}
use mathlib.Core.Path.{◌≡◌, refl, sym, ap, ap₂, ◌∙◌, subst}
use mathlib.Core.Bool.{true}
use mathlib.Core.List.{List, [], ◌∷◌, ◌++◌, map, append_assoc, append-nil}
use native.Mathlib.Omega.{arith}
use native.Mathlib.Nat.{suc-mul, zero-mul}
use borrow.Author.Tests.{eq-eqb}
use lib.ListN.{length, drop, length-append, length-map}
use lib.Seq.{take_at, drop_at}
use Rattle.lines.specs.Text.{line_of, texts, optional_text}
use Rattle.model.specs.Model.{Opening}
use Rattle.base.specs.Each.{All}
use Rattle.covers.specs.Grammar.{Cover}
use Rattle.job_grammar.specs.Grammar.{JobText, idle_in}
use Rattle.quotes.specs.Grammar.{Quote, single, pair, high_end}
use Rattle.price_rules.specs.Rule.{Rule}
use Rattle.price_rules.specs.Grammar.{Prices, by_list, by_rule_lem}
use Rattle.price_rules.specs.Valid.{ValidPrices}
use Rattle.part_lines.specs.Grammar.{PartText, meant_part}
use Rattle.part_lines.specs.Valid.{Spelt}
use Rattle.job_grammar.specs.Valid.{SomeIdles, ValidText}
use Rattle.job_grammar.specs.Rendering.{idles_text, opening_text, body_text, job_text_lem}
use Rattle.part_lines.specs.Rendering.{part_text}
use Rattle.job_grammar.specs.Optionals.{idle_lines}
use Rattle.job_grammar.proofs.Optionals.{some_idles}
use Rattle.form_facts.specs.Facts.{paired, covers_of, rules_of, quotes_from, quotes_in, counted_for, prices_from, grouped, parts_of, sum_of, fees_agree, parts_agree_lem, PartsAgree, count_of, counted_text}
use Rattle.form_facts.proofs.CountLines.{count_is}
use Rattle.form_facts.proofs.Facts.{paired_size, parts_size, marks_few, says_agree}
use Rattle.form.specs.Form.{Form, stated, idle_count_text, body_of, from_openings, form_text}
use Rattle.form.specs.Promise.{Agree, Few, mark_of, removal_in, insides_of, holders_of_lem, rule_mark_lem, bases_of, drops_of, leasts_of, listed_in, pair_mark, low_in, banded_in, lows_in, lists_of, form_of}

-- ---- the text

same_idles : (is : List ℕ) → length is ≤ 365 → optional_text idle_count_text (idle_lines is) ≡ optional_text idles_text (idle_lines is)
unfolding idle_lines idle_count_text idles_text
same_idles [] h = refl
same_idles (i ∷ is) h = ap (λ (n : ℕ). line_of "idles=" n ++ texts (line_of "idle=") (i ∷ is)) (count_is 365 true (length (i ∷ is)) h refl)

module _ (f : Form) (agree : Agree f) (few : Few f) where
  abbrev said : JobText
  said = stated f

  opening_count_lem2 : count_of 64 (fees_agree f.openings f.fees) (length f.openings) ≡ length said.openings
  opening_count_lem2 =
      count_is 64 (fees_agree f.openings f.fees) (length f.openings) few.openings (eq-eqb (length f.fees) (length f.openings) agree.fees)
      ∙ sym (paired_size f.openings f.fees agree.fees)

  part_count : count_of 16 (parts_agree_lem (length f.openings) f.parts) (length f.parts.lives) ≡ length said.parts
  part_count =
      count_is 16 (parts_agree_lem (length f.openings) f.parts) (length f.parts.lives) few.parts (says_agree (length f.openings) f.parts agree.parts)
      ∙ sym (parts_size (length f.openings) f.parts agree.parts)

  pub same_text : form_text f ≡ job_text_lem said
  unfolding form_text from_openings body_of counted_text job_text_lem body_text
  same_text =
      let h = line_of "horizon=" f.horizon in
      let is = optional_text idles_text said.idles in
      let n = line_of "openings=" (length said.openings) in
      let os = texts opening_text said.openings in
      let m = line_of "parts=" (length said.parts) in
      let ps = texts part_text said.parts in
      ap (λ (t : List ℕ). h ++ (t ++ (line_of "openings=" (count_of 64 (fees_agree f.openings f.fees) (length f.openings))
      ++ (os ++ (line_of "parts=" (count_of 16 (parts_agree_lem (length f.openings) f.parts) (length f.parts.lives)) ++ ps))))) (same_idles f.idles few.idles)
      ∙ ap₂ (λ (i j : ℕ). h ++ (is ++ (line_of "openings=" i ++ (os ++ (line_of "parts=" j ++ ps))))) opening_count_lem2 part_count
      ∙ sym (ap (λ (t : List ℕ). t ++ n ++ (os ++ m ++ ps)) (append-nil (h ++ is)) ∙ append_assoc (h ++ is) n (os ++ m ++ ps) ∙ append_assoc h is (n ++ (os ++ m ++ ps))
      ∙ ap (λ (t : List ℕ). h ++ (is ++ (n ++ t))) (append_assoc os m ps))

-- ---- the form of a text

paired_back : (os : List Opening) → paired (map (λ (o : Opening). o.step) os) (map (λ (o : Opening). o.fee) os) ≡ os
unfolding paired
paired_back [] = refl
paired_back (o ∷ os) = ap (λ (xs : List Opening). o ∷ xs) (paired_back os)

-- ---- the lists of parts

abbrev life_of_lem : PartText → ℕ
life_of_lem p = p.life

abbrev left_of : PartText → ℕ
left_of p = p.left

abbrev cover_of : PartText → Option Cover
cover_of p = p.cover

-- the rule that prices stand by
abbrev rule_in : Prices → Option Rule
rule_in (by_list ps) = None
rule_in (by_rule_lem r) = Some r

abbrev rule_of : PartText → Option Rule
rule_of p = rule_in p.prices

abbrev list_of : PartText → List ℕ
list_of p = listed_in p.prices

-- the lines of removal that the first numbers state
covers_more : (o : Option Cover) (cs vs is hs : List ℕ) → covers_of (mark_of o ∷ cs) (removal_in o ++ vs) (insides_of o ++ is) (holders_of_lem o ++ hs) ≡ o ∷ covers_of cs vs is hs
unfolding covers_of
covers_more None cs vs is hs = refl
covers_more (Some c) cs vs is hs =
    ap₂ (λ (js rest : List ℕ). Some (record { removal = c.removal; holders = js }) ∷ covers_of cs vs is rest) (take_at c.holders hs (length c.holders) refl) (drop_at c.holders hs (length c.holders) refl)

covers_back : (ps : List PartText) → let x = lists_of ps in covers_of x.covered x.removals x.insides x.holders ≡ map cover_of ps
unfolding covers_of
covers_back [] = refl
covers_back (p ∷ ps) = let x = lists_of ps in covers_more p.cover x.covered x.removals x.insides x.holders ∙ ap (λ (os : List (Option Cover)). p.cover ∷ os) (covers_back ps)

-- the rule that the first numbers state
rules_more : (p : Prices) (us bs ds ms : List ℕ) → rules_of (rule_mark_lem p ∷ us) (bases_of p ++ bs) (drops_of p ++ ds) (leasts_of p ++ ms) ≡ rule_in p ∷ rules_of us bs ds ms
unfolding rules_of
rules_more (by_list qs) us bs ds ms = refl
rules_more (by_rule_lem r) us bs ds ms = refl

rules_back : (ps : List PartText) → let x = lists_of ps in rules_of x.ruled x.bases x.drops x.leasts ≡ map rule_of ps
unfolding rules_of
rules_back [] = refl
rules_back (p ∷ ps) = let x = lists_of ps in rules_more p.prices x.ruled x.bases x.drops x.leasts ∙ ap (λ (us : List (Option Rule)). rule_of p ∷ us) (rules_back ps)

-- the prices that are listed, one by one
abbrev quotes_if : Prices → List Quote
quotes_if (by_list qs) = qs
quotes_if (by_rule_lem r) = []

abbrev all_quotes : List PartText → List Quote
all_quotes [] = []
all_quotes (p ∷ ps) = quotes_if p.prices ++ all_quotes ps

-- the prices that the first numbers state
quotes_more : (qs : List Quote) (zs ws hs : List ℕ) → quotes_from (map pair_mark qs ++ zs) (texts low_in qs ++ ws) (map high_end qs ++ hs) ≡ qs ++ quotes_from zs ws hs
unfolding quotes_from
quotes_more [] zs ws hs = refl
quotes_more (single p ∷ qs) zs ws hs = ap (λ (xs : List Quote). single p ∷ xs) (quotes_more qs zs ws hs)
quotes_more (pair l h ∷ qs) zs ws hs = ap (λ (xs : List Quote). pair l h ∷ xs) (quotes_more qs zs ws hs)

quotes_of_lem : (p : Prices) (zs ws hs : List ℕ) → quotes_from (banded_in p ++ zs) (lows_in p ++ ws) (listed_in p ++ hs) ≡ quotes_if p ++ quotes_from zs ws hs
quotes_of_lem (by_list qs) zs ws hs = quotes_more qs zs ws hs
quotes_of_lem (by_rule_lem r) zs ws hs = refl

quotes_back : (ps : List PartText) → let x = lists_of ps in quotes_from x.banded x.lows x.prices ≡ all_quotes ps
unfolding quotes_from
quotes_back [] = refl
quotes_back (p ∷ ps) = let x = lists_of ps in quotes_of_lem p.prices x.banded x.lows x.prices ∙ ap (λ (qs : List Quote). quotes_if p.prices ++ qs) (quotes_back ps)

-- a part's prices from the list, and what is left of it
prices_more : (n : ℕ) (p : Prices) (rest : List Quote) → ValidPrices n p → (prices_from n (rule_in p) (quotes_if p ++ rest) ≡ p) × (drop (counted_for n (rule_in p)) (quotes_if p ++ rest) ≡ rest)
prices_more n (by_list qs) rest v = (ap by_list (take_at qs rest n v.0), drop_at qs rest n v.0)
prices_more n (by_rule_lem r) rest v = (refl, refl)

grouped_back : (n : ℕ) (ps : List PartText) → All (Spelt n) ps → grouped n (map life_of_lem ps) (map left_of ps) (map cover_of ps) (map rule_of ps) (all_quotes ps) ≡ ps
unfolding grouped
grouped_back n [] v = refl
grouped_back n (p ∷ ps) v =
    let q = prices_more n p.prices (all_quotes ps) v.0 in
    ap₂ (λ (x : Prices) (rest : List Quote). record { life = p.life; left = p.left; cover = p.cover; prices = x } ∷ grouped n (map life_of_lem ps) (map left_of ps) (map cover_of ps) (map rule_of ps) rest) q.0 q.1
    ∙ ap (λ (xs : List PartText). p ∷ xs) (grouped_back n ps v.1)

parts_back : (n : ℕ) (ps : List PartText) → All (Spelt n) ps → parts_of n (lists_of ps) ≡ ps
parts_back n ps v =
    ap₂ (λ (os : List (Option Cover)) (us : List (Option Rule)). grouped n (map life_of_lem ps) (map left_of ps) os us (quotes_in (lists_of ps))) (covers_back ps) (rules_back ps)
    ∙ ap (grouped n (map life_of_lem ps) (map left_of ps) (map cover_of ps) (map rule_of ps)) (quotes_back ps) ∙ grouped_back n ps v

-- one part more, by whether it has a rule
rule_small : (p : Prices) → rule_mark_lem p ≤ 1
rule_small (by_list qs) = omega arith
rule_small (by_rule_lem r) = omega arith

rules_small : (ps : List PartText) → All (λ (u : ℕ). u ≤ 1) (lists_of ps).ruled
rules_small [] = tt
rules_small (p ∷ ps) = (rule_small p.prices, rules_small ps)

-- a list with one number for each rule
of_rules : (w : Prices → List ℕ) → ((p : Prices) → length (w p) ≡ rule_mark_lem p) → (ps : List PartText) → length (texts (λ (p : PartText). w p.prices) ps) ≡ sum_of (lists_of ps).ruled
of_rules w one [] = refl
of_rules w one (p ∷ ps) = length-append (w p.prices) (texts (λ (q : PartText). w q.prices) ps) ∙ ap₂ ◌+◌ (one p.prices) (of_rules w one ps)

one_base : (p : Prices) → length (bases_of p) ≡ rule_mark_lem p
one_base (by_list qs) = refl
one_base (by_rule_lem r) = refl

one_drop : (p : Prices) → length (drops_of p) ≡ rule_mark_lem p
one_drop (by_list qs) = refl
one_drop (by_rule_lem r) = refl

one_least : (p : Prices) → length (leasts_of p) ≡ rule_mark_lem p
one_least (by_list qs) = refl
one_least (by_rule_lem r) = refl

-- the prices of one part more, of m parts of which k have a rule
listed_more : (n m k rest : ℕ) (p : Prices) → ValidPrices n p → k ≤ m → rest ≡ (m - k) * n → length (listed_in p) + rest ≡ (suc m - (rule_mark_lem p + k)) * n
listed_more n m k rest (by_list qs) v few e =
    let z : suc m - (0 + k) ≡ suc (m - k) = omega arith in
    let q : (suc m - (0 + k)) * n ≡ (m - k) * n + n = ap (λ (i : ℕ). i * n) z ∙ suc-mul (m - k) n in
    omega (arith, q, e, v.0, length-map qs high_end)
listed_more n m k rest (by_rule_lem r) v few e = let z : suc m - (1 + k) ≡ m - k = omega arith in omega (arith, e, ap (λ (i : ℕ). i * n) z)

prices_size : (n : ℕ) (ps : List PartText) → All (Spelt n) ps → length (texts list_of ps) ≡ (length ps - sum_of (lists_of ps).ruled) * n
prices_size n [] v = sym (zero-mul n)
prices_size n (p ∷ ps) v =
    length-append (list_of p) (texts list_of ps)
    ∙ listed_more n (length ps) (sum_of (lists_of ps).ruled) (length (texts list_of ps)) p.prices v.0 (omega (arith, marks_few (lists_of ps).ruled (rules_small ps), length-map ps (λ (q : PartText). rule_mark_lem q.prices))) (prices_size n ps v.1)

-- marks and low ends of the pairs
banded_size : (p : Prices) → length (banded_in p) ≡ length (listed_in p)
banded_size (by_list qs) = length-map qs pair_mark ∙ sym (length-map qs high_end)
banded_size (by_rule_lem r) = refl

bands_size : (ps : List PartText) → length (lists_of ps).banded ≡ length (lists_of ps).prices
bands_size [] = refl
bands_size (p ∷ ps) =
    length-append (banded_in p.prices) (lists_of ps).banded ∙ ap₂ ◌+◌ (banded_size p.prices) (bands_size ps) ∙ sym (length-append (list_of p) (lists_of ps).prices)

all_append : (P : ℕ → Type 0) (xs ys : List ℕ) → All P xs → All P ys → All P (xs ++ ys)
all_append P [] ys v w = w
all_append P (x ∷ xs) ys v w = (v.0, all_append P xs ys v.1 w)

pairs_small : (qs : List Quote) → All (λ (z : ℕ). z ≤ 1) (map pair_mark qs)
pairs_small [] = tt
pairs_small (single p ∷ qs) = (omega arith, pairs_small qs)
pairs_small (pair l h ∷ qs) = (omega arith, pairs_small qs)

banded_small : (p : Prices) → All (λ (z : ℕ). z ≤ 1) (banded_in p)
banded_small (by_list qs) = pairs_small qs
banded_small (by_rule_lem r) = tt

bands_small : (ps : List PartText) → All (λ (z : ℕ). z ≤ 1) (lists_of ps).banded
bands_small [] = tt
bands_small (p ∷ ps) = all_append (λ (z : ℕ). z ≤ 1) (banded_in p.prices) (lists_of ps).banded (banded_small p.prices) (bands_small ps)

sum_append : (xs ys : List ℕ) → sum_of (xs ++ ys) ≡ sum_of xs + sum_of ys
sum_append [] ys = omega arith
sum_append (x ∷ xs) ys = omega (arith, sum_append xs ys)

pairs_counted : (qs : List Quote) → length (texts low_in qs) ≡ sum_of (map pair_mark qs)
pairs_counted [] = refl
pairs_counted (single p ∷ qs) = omega (arith, pairs_counted qs)
pairs_counted (pair l h ∷ qs) = omega (arith, pairs_counted qs)

lows_counted : (p : Prices) → length (lows_in p) ≡ sum_of (banded_in p)
lows_counted (by_list qs) = pairs_counted qs
lows_counted (by_rule_lem r) = refl

lows_size : (ps : List PartText) → length (lists_of ps).lows ≡ sum_of (lists_of ps).banded
lows_size [] = refl
lows_size (p ∷ ps) =
    length-append (lows_in p.prices) (lists_of ps).lows ∙ ap₂ ◌+◌ (lows_counted p.prices) (lows_size ps) ∙ sym (sum_append (banded_in p.prices) (lists_of ps).banded)

-- one part more, by whether its lines of removal stand
mark_small : (o : Option Cover) → mark_of o ≤ 1
mark_small None = omega arith
mark_small (Some c) = omega arith

removal_more : (o : Option Cover) (vs : List ℕ) → length (removal_in o ++ vs) ≡ mark_of o + length vs
removal_more None vs = omega arith
removal_more (Some c) vs = omega arith

inside_more : (o : Option Cover) (is : List ℕ) → length (insides_of o ++ is) ≡ mark_of o + length is
inside_more None is = omega arith
inside_more (Some c) is = omega arith

holders_more : (o : Option Cover) (is hs : List ℕ) → length hs ≡ sum_of is → length (holders_of_lem o ++ hs) ≡ sum_of (insides_of o ++ is)
holders_more None is hs e = e
holders_more (Some c) is hs e = length-append c.holders hs ∙ ap (λ (i : ℕ). length c.holders + i) e

marks_small : (ps : List PartText) → All (λ (c : ℕ). c ≤ 1) (lists_of ps).covered
marks_small [] = tt
marks_small (p ∷ ps) = (mark_small p.cover, marks_small ps)

removals_size : (ps : List PartText) → length (lists_of ps).removals ≡ sum_of (lists_of ps).covered
removals_size [] = refl
removals_size (p ∷ ps) = removal_more p.cover (lists_of ps).removals ∙ ap (λ (i : ℕ). mark_of p.cover + i) (removals_size ps)

insides_size : (ps : List PartText) → length (lists_of ps).insides ≡ sum_of (lists_of ps).covered
insides_size [] = refl
insides_size (p ∷ ps) = inside_more p.cover (lists_of ps).insides ∙ ap (λ (i : ℕ). mark_of p.cover + i) (insides_size ps)

holders_size : (ps : List PartText) → length (lists_of ps).holders ≡ sum_of (lists_of ps).insides
holders_size [] = refl
holders_size (p ∷ ps) = holders_more p.cover (lists_of ps).insides (lists_of ps).holders (holders_size ps)

lists_agree : (n : ℕ) (ps : List PartText) → All (Spelt n) ps → PartsAgree n (lists_of ps)
lists_agree n ps v = record {
  lefts = length-map ps left_of ∙ sym (length-map ps life_of_lem);
  covered = length-map ps (λ (p : PartText). mark_of p.cover) ∙ sym (length-map ps life_of_lem);
  marks = marks_small ps;
  removals = removals_size ps;
  insides = insides_size ps;
  holders = holders_size ps;
  ruled = length-map ps (λ (p : PartText). rule_mark_lem p.prices) ∙ sym (length-map ps life_of_lem);
  rule_marks = rules_small ps;
  bases = of_rules bases_of one_base ps;
  drops = of_rules drops_of one_drop ps;
  leasts = of_rules leasts_of one_least ps;
  prices = prices_size n ps v ∙ ap (λ (m : ℕ). (m - sum_of (lists_of ps).ruled) * n) (sym (length-map ps life_of_lem));
  banded = bands_size ps;
  band_marks = bands_small ps;
  lows = lows_size ps;
}

idles_back : (o : Option (List ℕ)) → SomeIdles o → idle_lines (idle_in o) ≡ o
unfolding idle_lines
idles_back None h = refl
idles_back (Some is) h = sym (some_idles is h)

module _ (t : JobText) (v : ValidText t) where
  steps_of : length t.openings ≡ length (map (λ (o : Opening). o.step) t.openings)
  steps_of = sym (length-map t.openings (λ (o : Opening). o.step))

  -- the lists of a form that holds a valid text's numbers agree in length
  pub agrees : Agree (form_of t)
  agrees = record {
    fees = length-map t.openings (λ (o : Opening). o.fee) ∙ steps_of;
    parts = subst (λ (n : ℕ). PartsAgree n (lists_of t.parts)) steps_of (lists_agree (length t.openings) t.parts v.lines);
  }

  -- the lists of a form that holds a valid text's numbers are not too long
  pub fits : Few (form_of t)
  fits = record {
    idles = v.means.job.few_idles;
    openings = rw length-map v.means.job.few_openings;
    parts = omega (arith, length-map t.parts life_of_lem, length-map t.parts (meant_part (length t.openings)), v.means.job.few_parts);
  }

  -- a text without the line of the walk number
  pub returned : t.walk ≡ None → stated (form_of t) ≡ t
  returned none = λ i. record {
    horizon = t.horizon;
    idles = idles_back t.idles v.idles i;
    walk = sym none i;
    openings = paired_back t.openings i;
    parts = (ap (λ (n : ℕ). parts_of n (lists_of t.parts)) (sym steps_of) ∙ parts_back (length t.openings) t.parts v.lines) i;
  }
