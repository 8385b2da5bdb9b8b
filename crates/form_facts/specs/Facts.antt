-- E2: "The writer takes the same facts as lists of numbers, in the text's order [..]. The counts are the lists' lengths."
-- E7: after the lefts whether each part has its lines of removal, and what they say.
-- E8: after those whether each part has a rule in place of its prices, and what it says; "E2's writer counts no prices for such a part".
-- E11: after those which prices are pairs, and the low ends of these.
use Rattle.std.specs.Prelude.{ℕ, zero, suc, ◌+◌, ◌-◌, ◌*◌, ◌≤◌, ◌≡◌, Bool, true, ◌&&◌, cond, List, [], ◌∷◌, ◌++◌, length, get_or, take, drop, leb, eqb, Option, None, Some}
use Rattle.lines.specs.Text.{line_of, texts}
use Rattle.model.specs.Model.{Opening}
use Rattle.base.specs.Each.{All}
use Rattle.covers.specs.Grammar.{Cover}
use Rattle.quotes.specs.Grammar.{Quote, single, pair}
use Rattle.price_rules.specs.Rule.{Rule}
use Rattle.price_rules.specs.Grammar.{Prices, by_list, by_rule_lem}
use Rattle.model.specs.Limits.{most_parts}
use Rattle.part_lines.specs.Grammar.{PartText}
use Rattle.part_lines.specs.Rendering.{part_text}
pub use Rattle.base.specs.Sums.{sum_of}

-- ---- what the lists state

-- an opening for each step and fee
unfoldable pub paired : List ℕ → List ℕ → List Opening
paired [] fs = []
paired (o ∷ os) [] = []
paired (o ∷ os) (f ∷ fs) = record { step = o; fee = f } ∷ paired os fs

-- the lists of the parts: `covered` is 1 for each part whose lines of removal stand, and 0 for the others; a removal and an inside for each that is covered;
-- the holders stand part by part; `ruled` is 1 for each part with a rule, and 0 for the others; a base, a drop and a least for each that is ruled;
-- the prices of the parts without a rule stand part by part; `banded` is 1 for each of these that is a pair, and 0 for the others; a low end for each pair, and in `prices` its high end
pub record PartLists : Type 0 where
  pub lives : List ℕ
  pub lefts : List ℕ
  pub covered : List ℕ
  pub removals : List ℕ
  pub insides : List ℕ
  pub holders : List ℕ
  pub ruled : List ℕ
  pub bases : List ℕ
  pub drops : List ℕ
  pub leasts : List ℕ
  pub banded : List ℕ
  pub lows : List ℕ
  pub prices : List ℕ

-- those of a call's arguments
abbrev pub part_lists : List ℕ → List ℕ → List ℕ → List ℕ → List ℕ → List ℕ → List ℕ → List ℕ → List ℕ → List ℕ → List ℕ → List ℕ → List ℕ → PartLists
part_lists ls rs cs vs is hs us bs ds ms zs ws ps = record { lives = ls; lefts = rs; covered = cs; removals = vs; insides = is; holders = hs; ruled = us; bases = bs; drops = ds; leasts = ms; banded = zs; lows = ws; prices = ps }

-- a part's lines of removal for each mark: none for 0, else the next removal and the next holders, as many as the next inside
unfoldable pub covers_of : List ℕ → List ℕ → List ℕ → List ℕ → List (Option Cover)
covers_of [] vs is hs = []
covers_of (zero ∷ cs) vs is hs = None ∷ covers_of cs vs is hs
covers_of (suc c ∷ cs) vs is hs = Some (record { removal = get_or vs 0 0; holders = take (get_or is 0 0) hs }) ∷ covers_of cs (drop 1 vs) (drop 1 is) (drop (get_or is 0 0) hs)

-- E8. a part's rule for each mark: none for 0, else the next base, drop and least
unfoldable pub rules_of : List ℕ → List ℕ → List ℕ → List ℕ → List (Option Rule)
rules_of [] bs ds ms = []
rules_of (zero ∷ us) bs ds ms = None ∷ rules_of us bs ds ms
rules_of (suc u ∷ us) bs ds ms = Some (record { base = get_or bs 0 0; drop = get_or ds 0 0; least = get_or ms 0 0 }) ∷ rules_of us (drop 1 bs) (drop 1 ds) (drop 1 ms)

-- E11. a price for each mark: a single one for 0, else a pair with the next low end
unfoldable pub quotes_from : List ℕ → List ℕ → List ℕ → List Quote
quotes_from [] ws ps = []
quotes_from (z ∷ zs) ws [] = []
quotes_from (zero ∷ zs) ws (p ∷ ps) = single p ∷ quotes_from zs ws ps
quotes_from (suc z ∷ zs) ws (p ∷ ps) = pair (get_or ws 0 0) p ∷ quotes_from zs (drop 1 ws) ps

-- the prices of all parts
abbrev pub quotes_in : PartLists → List Quote
quotes_in x = quotes_from x.banded x.lows x.prices

-- E8. how many prices a part has in the list: n, and none where it has a rule
abbrev pub counted_for : ℕ → Option Rule → ℕ
counted_for n None = n
counted_for n (Some r) = 0

-- E8. its prices: the next n of the list, or its rule
abbrev pub prices_from : ℕ → Option Rule → List Quote → Prices
prices_from n None qs = by_list (take n qs)
prices_from n (Some r) qs = by_rule_lem r

-- a part for each life, left, lines of removal and rule, with the next n prices where there is no rule
unfoldable pub grouped : ℕ → List ℕ → List ℕ → List (Option Cover) → List (Option Rule) → List Quote → List PartText
grouped n [] rs cs us qs = []
grouped n (l ∷ ls) [] cs us qs = []
grouped n (l ∷ ls) (r ∷ rs) [] us qs = []
grouped n (l ∷ ls) (r ∷ rs) (c ∷ cs) [] qs = []
grouped n (l ∷ ls) (r ∷ rs) (c ∷ cs) (u ∷ us) qs = record { life = l; left = r; cover = c; prices = prices_from n u qs } ∷ grouped n ls rs cs us (drop (counted_for n u) qs)

-- the parts that the lists state, with n openings
abbrev pub parts_of : ℕ → PartLists → List PartText
parts_of n x = grouped n x.lives x.lefts (covers_of x.covered x.removals x.insides x.holders) (rules_of x.ruled x.bases x.drops x.leasts) (quotes_in x)

-- ---- whether they agree

-- each is 0 or 1
abbrev pub all_marks : List ℕ → Bool
all_marks [] = true
all_marks (c ∷ cs) = leb c 1 && all_marks cs

-- "Fees not as many as openings give 3 on the `openings` line"
abbrev pub fees_agree : List ℕ → List ℕ → Bool
fees_agree os fs = eqb (length fs) (length os)

-- E7. a mark 0 or 1 for each of m parts, v removals and as many insides as marks that are 1, and h holders, as many as the insides say in sum; else 3 "on the `parts` line"
abbrev pub covers_agree_lem : ℕ → List ℕ → ℕ → List ℕ → ℕ → Bool
covers_agree_lem m cs v is h = eqb (length cs) m && (all_marks cs && (eqb v (sum_of cs) && (eqb (length is) (sum_of cs) && eqb h (sum_of is))))

-- E8. a mark 0 or 1 for each of m parts, b bases, d drops and l leasts, as many as marks that are 1, and p prices, one for each part without a rule and each of n openings
abbrev pub prices_agree_lem : ℕ → List ℕ → ℕ → ℕ → ℕ → ℕ → ℕ → Bool
prices_agree_lem m us b d l p n = eqb (length us) m && (all_marks us && (eqb b (sum_of us) && (eqb d (sum_of us) && (eqb l (sum_of us) && eqb p ((m - sum_of us) * n)))))

-- E11. a mark 0 or 1 for each of p prices, and w low ends, as many as marks that are 1
abbrev pub bands_agree_lem : List ℕ → ℕ → ℕ → Bool
bands_agree_lem zs w p = eqb (length zs) p && (all_marks zs && eqb w (sum_of zs))

-- what that says of prices: a mark for each, 0 or 1, and the low ends reach
pub record Marked (zs ws ps : List ℕ) : Type 0 where
  pub size : length zs ≡ length ps
  pub marks : All (λ (z : ℕ). z ≤ 1) zs
  pub lows : sum_of zs ≤ length ws

-- E2.2. "lefts not as many as lives, prices not parts times openings, or a list added later of a wrong length, on the `parts` line": the lists of the parts where there are n openings
abbrev pub parts_agree_lem : ℕ → PartLists → Bool
parts_agree_lem n x =
    eqb (length x.lefts) (length x.lives)
    && (covers_agree_lem (length x.lives) x.covered (length x.removals) x.insides (length x.holders)
    && (prices_agree_lem (length x.lives) x.ruled (length x.bases) (length x.drops) (length x.leasts) (length x.prices) n
    && bands_agree_lem x.banded (length x.lows) (length x.prices)))

-- what that says: a left and both marks for each life, a removal and an inside for each cover's mark that is 1, the holders that the insides count, a base, a drop and a least
-- for each rule's mark that is 1, a price for each part without a rule and each opening, a mark for each price, and a low end for each of these that is 1
pub record PartsAgree (n : ℕ) (x : PartLists) : Type 0 where
  pub lefts : length x.lefts ≡ length x.lives
  pub covered : length x.covered ≡ length x.lives
  pub marks : All (λ (c : ℕ). c ≤ 1) x.covered
  pub removals : length x.removals ≡ sum_of x.covered
  pub insides : length x.insides ≡ sum_of x.covered
  pub holders : length x.holders ≡ sum_of x.insides
  pub ruled : length x.ruled ≡ length x.lives
  pub rule_marks : All (λ (u : ℕ). u ≤ 1) x.ruled
  pub bases : length x.bases ≡ sum_of x.ruled
  pub drops : length x.drops ≡ sum_of x.ruled
  pub leasts : length x.leasts ≡ sum_of x.ruled
  pub prices : length x.prices ≡ (length x.lives - sum_of x.ruled) * n
  pub banded : length x.banded ≡ length x.prices
  pub band_marks : All (λ (z : ℕ). z ≤ 1) x.banded
  pub lows : length x.lows ≡ sum_of x.banded

-- the value of a count's line: the length n of its list. Where n is above its limit, or the lists that n counts disagree, it is the limit's successor,
-- which is out of range on any such line
abbrev pub count_of : ℕ → Bool → ℕ → ℕ
count_of most agree n = cond (leb n most && agree) n (suc most)

-- the text of the parts: their number and their lines
unfoldable pub counted_text : ℕ → PartLists → List ℕ
counted_text n x = line_of "parts=" (count_of most_parts (parts_agree_lem n x) (length x.lives)) ++ texts part_text (parts_of n x)
