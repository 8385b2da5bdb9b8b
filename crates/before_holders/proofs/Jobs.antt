-- Job texts: what the grammar before E7 read is the text that says the same today, in which the walk line stands and no part has lines of removal, a rule, a pair or a left of 0, and it read all such texts (`lines_exact`). So a text that was accepted is accepted still and means the same (`job_before`), and those that were are exactly the accepted ones with the walk line and without lines of removal, a rule, a pair or a left of 0, up to the length of then (`accepted-before`).
use Rattle.std.specs.Prelude.{Option, None, Some}
use Prim.Native.Nat.{ℕ, suc, ◌≤◌}
use mathlib.Core.Path.{◌≡◌, refl, sym, ap, ap₂, ◌∙◌, subst}
use mathlib.Core.List.{List, [], ◌∷◌, ◌++◌, map, append_assoc, append-nil}
use mathlib.Core.Bool.{true, false, ◌||◌}
use mathlib.Core.Logic.{◌↔◌}
use native.Mathlib.Omega.{arith}
use lib.ListN.{length, length-map}
use borrow.Author.Tests.{leb-true}
use Rattle.lines.specs.Line.{starts_with}
use Rattle.lines.specs.Text.{bytes, line, line_of, texts, optional_text}
use Rattle.lines.specs.Parser.{row, checked, times, up_to, Outcome, accepted, refused}
use Rattle.lines.proofs.Parsing.{up_to_yes}
use Rattle.lines.proofs.Outcomes.{one_value, not_both}
use Rattle.base.specs.Each.{Chained, All}
use Rattle.lines.proofs.Sound.{accepted_is}
use Rattle.lines.proofs.Complete.{text_complete}
use Rattle.model.specs.Model.{Opening}
use Rattle.model.specs.Windows.{Rising, steps_of}
use Rattle.jobs.specs.Valid.{ValidOpening, ValidPrice, ValidPart, HeldFrom}
use Rattle.base.proofs.Lists.{chained_each, each_chained}
use Rattle.covers.specs.Views.{meant_cover}
use Rattle.price_rules.proofs.Prices.{singles_mean, singles_low, singles_valid, singles_plain}
use Rattle.job_grammar.specs.Grammar.{JobText, job_with, meant, idles, opening, openings, meaning, read_job_text, read_job_lem}
use Rattle.quotes.specs.Grammar.{single, high_end, low_end, any_pair}
use Rattle.quotes.specs.Rendering.{quote_text}
use Rattle.quotes.specs.Valid.{ValidQuote}
use Rattle.price_rules.specs.Grammar.{Prices, by_list, meant_prices}
use Rattle.part_lines.specs.Grammar.{PartText, meant_part, low_part_lem, any_banded}
use Rattle.part_lines.specs.Valid.{Spelt}
use Rattle.job_grammar.specs.Rendering.{idles_text, opening_text, body_text, job_text_lem}
use Rattle.part_lines.specs.Rendering.{part_text}
use Rattle.job_grammar.specs.Valid.{ValidText}
use Rattle.job_grammar.proofs.Accepted.{KnownIdles, idles_tell, KnownOpening, opening_tells, step_of, chained_rising, valid_text, text_is}
use Rattle.job_grammar.proofs.Lows.{meant_valid}
use Rattle.job_grammar.proofs.Complete.{idles_complete, opening_complete, openings_chained, read_back}
use Rattle.before_holders.specs.Texts as before
use Rattle.before_holders.specs.AsBefore.{Accepted, as_today, BarePart, BareText}
use Rattle.before_holders.proofs.Exact.{Exact, Any, exactly, row_exact, checked_exact, chain_exact, return_exact, bind_exact, exact_as}

-- ---- what a text said, as it is said today: the walk line stands, no part has lines of removal, and prices are listed, each a single one

-- single prices are written as they were
singles_text : (ps : List ℕ) → texts quote_text (map single ps) ≡ texts (line_of "price=") ps
unfolding quote_text
singles_text [] = refl
singles_text (p ∷ ps) = ap (λ (s : List ℕ). line_of "price=" p ++ s) (singles_text ps)

-- a part of a text before holders as today's text has it, without lines of removal
abbrev pub uncovered : before.PartText → PartText
uncovered p = record { life = p.life; left = p.left; cover = None; prices = by_list (map single p.prices) }

-- a text before holders as today's text has it
abbrev pub today : before.JobText → JobText
today t = record { horizon = t.horizon; idles = t.idles; walk = Some t.walk; openings = t.openings; parts = map uncovered t.parts }

means_same : (t : before.JobText) → meant (today t) ≡ as_today (before.meant t)
unfolding meant_cover any_banded
means_same t =
    let h = high t.parts in
    let l = low t.parts in
    let b = plain t.parts in
    λ i. record { job = job_with (today t) (h i); low = job_with (today t) (l i); banded = b i }
  where
    high : (ps : List before.PartText) → map (meant_part (length t.openings)) (map uncovered ps) ≡ map before.meant_part ps
    high [] = refl
    high (p ∷ ps) = let e = singles_mean p.prices in let r = high ps in λ i. record { life = p.life; left = p.left; removal = 0; holders = []; prices = e i } ∷ r i

    low : (ps : List before.PartText) → map (low_part_lem (length t.openings)) (map uncovered ps) ≡ map before.meant_part ps
    low [] = refl
    low (p ∷ ps) = let e = singles_low p.prices in let r = low ps in λ i. record { life = p.life; left = p.left; removal = 0; holders = []; prices = e i } ∷ r i

    plain : (ps : List before.PartText) → any_banded (map uncovered ps) ≡ false
    plain [] = refl
    plain (p ∷ ps) = ap₂ ◌||◌ (singles_plain p.prices) (plain ps)

-- something is left of each part's life
abbrev Lefts : List before.PartText → Type 0
Lefts ps = All (λ (p : before.PartText). 1 ≤ p.left) ps

-- what a part's lines say without those of removal, as it was said
abbrev told_part : PartText → before.PartText
told_part p = record { life = p.life; left = p.left; prices = meant_prices 0 p.prices }

-- what a text says with this walk number and without lines of removal, as it was said
told : ℕ → JobText → before.JobText
told w t = record { horizon = t.horizon; idles = t.idles; walk = w; openings = t.openings; parts = map told_part t.parts }

today-told : (t : JobText) (b : BareText t) → today (told b.walk t) ≡ t
unfolding told
today-told t bare = let e = go t.parts bare.parts in λ i. record { horizon = t.horizon; idles = t.idles; walk = sym bare.there i; openings = t.openings; parts = e i }
  where
    go : (ps : List PartText) → All BarePart ps → map uncovered (map told_part ps) ≡ ps
    go [] b = refl
    go (p ∷ ps) b =
        let c = b.0.cover in
        let e : by_list (map single (meant_prices 0 p.prices)) ≡ p.prices = ap (λ (x : Prices). by_list (map single (meant_prices 0 x))) b.0.listed ∙ ap (λ (qs : List ℕ). by_list (map single qs)) (singles_mean b.0.prices) ∙ sym b.0.listed in
        let r = go ps b.1 in
        λ i. record { life = p.life; left = p.left; cover = sym c i; prices = e i } ∷ r i

today_bare : (ps : List before.PartText) → Lefts ps → All BarePart (map uncovered ps)
today_bare [] l = tt
today_bare (p ∷ ps) l = (record { left = l.0; cover = refl; prices = p.prices; listed = refl }, today_bare ps l.1)

told_left : (ps : List PartText) → All BarePart ps → Lefts (map told_part ps)
told_left [] b = tt
told_left (p ∷ ps) b = (b.0.left, told_left ps b.1)

-- ---- parts

module _ (n : ℕ) where
  abbrev Priced : List ℕ → Type 0
  Priced ps = (length ps ≡ n) × Chained (λ (k : ℕ). ValidPrice) (λ (k x : ℕ). 0) 0 ps

  -- a part of a known life and left, of a known life, and any
  abbrev PartOf : ℕ → ℕ → before.PartText → Type 0
  PartOf l r p = Priced p.prices × (◌≡◌ {A = before.PartText} (record { life = l; left = r; prices = p.prices }) p)

  abbrev PartFor : ℕ → before.PartText → Type 0
  PartFor l p = (((1 ≤ p.left) × (p.left ≤ 1000)) × (up_to l p.left ≡ true)) × PartOf l p.left p

  abbrev AnyPart : before.PartText → Type 0
  AnyPart p = ((1 ≤ p.life) × (p.life ≤ 1000)) × PartFor p.life p

  prices_exact : Exact Any (times n (row "price=" 1 1000000)) Priced (texts (line_of "price="))
  unfolding times
  prices_exact = chain_exact (λ (k : ℕ). row "price=" 1 1000000) (λ (k x : ℕ). 0) (λ (k : ℕ). ValidPrice) (line_of "price=") (λ k. row_exact (bytes "price=") 1 1000000 (omega arith)) n 0

  part_read : Exact Any (before.part n) AnyPart (λ p. line_of "life=" p.life ++ (line_of "left=" p.left ++ (texts (line_of "price=") p.prices ++ [])))
  unfolding before.part
  part_read =
      bind_exact (λ (p : before.PartText). p.life) Any (row "life=" 1 1000) _ _ PartFor (line_of "life=") _ (row_exact (bytes "life=") 1 1000 (omega arith))
      (λ l _. bind_exact (λ (p : before.PartText). p.left) Any (checked 5 (up_to l) (row "left=" 1 1000)) _ _ (PartOf l) (line_of "left=") _
      (checked_exact 5 (up_to l) (row "left=" 1 1000) _ (line_of "left=") (row_exact (bytes "left=") 1 1000 (omega arith)))
      (λ r _. bind_exact (λ (p : before.PartText). p.prices) Any (times n (row "price=" 1 1000000)) _ Priced (λ (ps : List ℕ) (p : before.PartText). record { life = l; left = r; prices = ps } ≡ p) (texts (line_of "price=")) _ prices_exact
      (λ ps _. return_exact (record { life = l; left = r; prices = ps })) (λ ps p e. sym (ap (λ (q : before.PartText). q.prices) e)) (λ p s. tt))
      (λ r p k. sym (ap (λ (q : before.PartText). q.left) k.1)) (λ p s. tt))
      (λ l p k. sym (ap (λ (q : before.PartText). q.life) k.1.1)) (λ p s. tt)

  -- what is known of an accepted part
  abbrev WasPart : before.PartText → Type 0
  WasPart p = ValidPart n (meant_part n (uncovered p)) × (1 ≤ p.left)

  part_exact : Exact Any (before.part n) WasPart (λ p. part_text (uncovered p))
  unfolding part_text meant_cover
  part_exact =
      exact_as AnyPart WasPart _ _ part_read
      (λ p k. (
        record {
          life_low = k.0.0;
          life_high = k.0.1;
          left_high = leb-true p.left p.life k.1.0.1;
          removal = omega arith;
          few_holders = omega arith;
          priced = ap length (singles_mean p.prices) ∙ k.1.1.0.0;
          prices = subst (All ValidPrice) (sym (singles_mean p.prices)) (chained_each ValidPrice 0 p.prices k.1.1.0.1);
        },
        k.1.0.0.0,
      ))
      (λ p w. let v = w.0 in ((v.life_low, v.life_high), (((w.1, omega (arith, v.left_high, v.life_high)), up_to_yes p.life p.left v.left_high), ((sym (ap length (singles_mean p.prices)) ∙ v.priced, each_chained ValidPrice 0 p.prices (subst (All ValidPrice) (singles_mean p.prices) v.prices)), refl))))
      (λ p. simp (append_assoc, append-nil, singles_text))

-- ---- the whole

openings_exact : (h n : ℕ) → Exact Any (openings h n) (λ os. (length os ≡ n) × (All ValidOpening os × Rising 0 h (steps_of os))) (texts opening_text)
unfolding openings
openings_exact h n =
    exact_as _ (λ os. (length os ≡ n) × (All ValidOpening os × Rising 0 h (steps_of os))) (texts opening_text) (texts opening_text)
    (chain_exact (opening h) step_of (KnownOpening h) opening_text (λ k. exactly (opening h k) _ opening_text (opening_tells h k) (opening_complete h k)) n 0)
    (λ os k. (k.0, chained_rising h 0 os k.1)) (λ os k. (k.0, openings_chained h 0 os k.1.0 k.1.1)) (λ os. refl)

-- what is known where the lines up to the number of parts are read, up to the openings, their number, the walk number, the idle steps, the horizon, and of any text
module _ (h : ℕ) (is : Option (List ℕ)) (w n : ℕ) where
  abbrev PartsIn : List Opening → ℕ → before.JobText → Type 0
  PartsIn os m t = ((length t.parts ≡ m) × All (WasPart n) t.parts) × (◌≡◌ {A = before.JobText} (record { horizon = h; idles = is; walk = w; openings = os; parts = t.parts }) t)

  abbrev CountedIn : List Opening → before.JobText → Type 0
  CountedIn os t = ((1 ≤ length t.parts) × (length t.parts ≤ 16)) × PartsIn os (length t.parts) t

  abbrev OpeningsIn : before.JobText → Type 0
  OpeningsIn t = ((length t.openings ≡ n) × (All ValidOpening t.openings × Rising 0 h (steps_of t.openings))) × CountedIn t.openings t

  -- the parts, behind the openings and their number
  abbrev parts_text : before.JobText → List ℕ
  parts_text t = texts opening_text t.openings ++ (line_of "parts=" (length t.parts) ++ (texts (λ (p : before.PartText). part_text (uncovered p)) t.parts ++ []))

  parts_exact : (m : ℕ) → Exact Any (times m (before.part n)) (λ ps. (length ps ≡ m) × All (WasPart n) ps) (texts (λ (p : before.PartText). part_text (uncovered p)))
  unfolding times
  parts_exact m =
      exact_as _ (λ ps. (length ps ≡ m) × All (WasPart n) ps) _ _
      (chain_exact (λ (k : ℕ). before.part n) (λ (k : ℕ) (p : before.PartText). 0) (λ (k : ℕ). WasPart n) _ (λ k. part_exact n) m 0)
      (λ ps k. (k.0, chained_each _ 0 ps k.1)) (λ ps k. (k.0, each_chained _ 0 ps k.1)) (λ ps. refl)

  body_read : Exact Any (before.body h is w n) OpeningsIn parts_text
  unfolding before.body
  body_read =
      bind_exact (λ (t : before.JobText). t.openings) Any (openings h n) _ _ CountedIn (texts opening_text) _ (openings_exact h n)
      (λ os _. bind_exact (λ (t : before.JobText). length t.parts) Any (row "parts=" 1 16) _ _ (PartsIn os) (line_of "parts=") _ (row_exact (bytes "parts=") 1 16 (omega arith))
      (λ m _. bind_exact (λ (t : before.JobText). t.parts) Any (times m (before.part n)) _ _ (λ (ps : List before.PartText) (t : before.JobText). record { horizon = h; idles = is; walk = w; openings = os; parts = ps } ≡ t) _ _ (parts_exact m)
      (λ ps _. return_exact (record { horizon = h; idles = is; walk = w; openings = os; parts = ps })) (λ ps t e. sym (ap (λ (u : before.JobText). u.parts) e)) (λ t s. tt))
      (λ m t k. k.0.0) (λ t s. tt))
      (λ os t k. sym (ap (λ (u : before.JobText). u.openings) k.1.1)) (λ t s. tt)

-- the number of openings and what follows it; the walk number; the idle steps; the horizon
abbrev NumberedIn : ℕ → Option (List ℕ) → ℕ → before.JobText → Type 0
NumberedIn h is w t = ((0 ≤ length t.openings) × (length t.openings ≤ 64)) × OpeningsIn h is w (length t.openings) t

abbrev WalkedIn : ℕ → Option (List ℕ) → before.JobText → Type 0
WalkedIn h is t = ((0 ≤ t.walk) × (t.walk ≤ 4000000000)) × NumberedIn h is t.walk t

abbrev IdledIn : ℕ → before.JobText → Type 0
IdledIn h t = KnownIdles h t.idles × WalkedIn h t.idles t

abbrev Known : before.JobText → Type 0
Known t = ((2 ≤ t.horizon) × (t.horizon ≤ 365)) × IdledIn t.horizon t

abbrev rest_text : before.JobText → List ℕ
rest_text t = line_of "walk=" t.walk ++ (line_of "openings=" (length t.openings) ++ parts_text 0 None 0 0 t)

rest_read : (h : ℕ) (is : Option (List ℕ)) → Exact Any (before.rest h is) (WalkedIn h is) rest_text
unfolding before.rest
rest_read h is =
    bind_exact (λ (t : before.JobText). t.walk) Any (row "walk=" 0 4000000000) _ _ (NumberedIn h is) (line_of "walk=") _ (row_exact (bytes "walk=") 0 4000000000 (omega arith))
    (λ w _. bind_exact (λ (t : before.JobText). length t.openings) Any (row "openings=" 0 64) _ _ (OpeningsIn h is w) (line_of "openings=") _ (row_exact (bytes "openings=") 0 64 (omega arith))
    (λ n _. body_read h is w n) (λ n t k. k.0.0) (λ t s. tt))
    (λ w t k. sym (ap (λ (u : before.JobText). u.walk) k.1.1.1.1)) (λ t s. tt)

-- no line of idle steps stands behind them
abbrev NoIdles : List ℕ → Type 0
NoIdles s = starts_with (bytes "idles=") s ≡ false

rest_next : (t : before.JobText) (s : List ℕ) → NoIdles (rest_text t ++ s)
unfolding starts_with line bytes
rest_next t s = refl

idles_exact : (h : ℕ) → h ≤ 365 → Exact NoIdles (idles h) (KnownIdles h) (optional_text idles_text)
idles_exact h high = record { tells = idles_tell h; back = λ is k s l next. idles_complete h is high k.0 k.1 k.2 s l next }

lines_read : Exact Any before.job_lines Known (λ t. line_of "horizon=" t.horizon ++ (optional_text idles_text t.idles ++ rest_text t))
unfolding before.job_lines
lines_read =
    bind_exact (λ (t : before.JobText). t.horizon) Any (row "horizon=" 2 365) _ _ IdledIn (line_of "horizon=") _ (row_exact (bytes "horizon=") 2 365 (omega arith))
    (λ h k. bind_exact (λ (t : before.JobText). t.idles) NoIdles (idles h) _ _ (WalkedIn h) (optional_text idles_text) _ (idles_exact h k.1)
    (λ is _. rest_read h is) (λ is t k. sym (ap (λ (u : before.JobText). u.idles) k.1.1.1.1.1)) rest_next)
    (λ h t k. sym (ap (λ (u : before.JobText). u.horizon) k.1.1.1.1.1.1)) (λ t s. tt)

-- ---- what is known of it, and its text, as today

parts_today : (n : ℕ) (ps : List before.PartText) → All (WasPart n) ps → All (ValidPart n) (map (meant_part n) (map uncovered ps))
parts_today n [] v = tt
parts_today n (p ∷ ps) v = (v.0.0, parts_today n ps v.1)

parts_then : (n : ℕ) (ps : List before.PartText) → All (ValidPart n) (map (meant_part n) (map uncovered ps)) → Lefts ps → All (WasPart n) ps
parts_then n [] v l = tt
parts_then n (p ∷ ps) v l = ((v.0, l.0), parts_then n ps v.1 l.1)

parts_left : (n : ℕ) (ps : List before.PartText) → All (WasPart n) ps → Lefts ps
parts_left n [] v = tt
parts_left n (p ∷ ps) v = (v.0.1, parts_left n ps v.1)

parts_spelt : (n : ℕ) (ps : List before.PartText) → All (WasPart n) ps → All (Spelt n) (map uncovered ps)
parts_spelt n [] v = tt
parts_spelt n (p ∷ ps) v =
    let e = singles_mean p.prices in
    ((length-map p.prices single ∙ sym (ap length e) ∙ v.0.0.priced, singles_valid p.prices (subst (All ValidPrice) e v.0.0.prices)), parts_spelt n ps v.1)

none_held : (n m k : ℕ) (ps : List before.PartText) → HeldFrom m k (map (meant_part n) (map uncovered ps))
unfolding meant_cover
none_held n m k [] = tt
none_held n m k (p ∷ ps) = (tt, none_held n m (suc k) ps)

count_same : (n : ℕ) (ps : List before.PartText) → length (map (meant_part n) (map uncovered ps)) ≡ length ps
count_same n ps = length-map (map uncovered ps) (meant_part n) ∙ length-map ps uncovered

-- what is known of one that was accepted, in today's terms
pub record Held (t : before.JobText) : Type 0 where
  -- the text that says the same today is valid
  pub valid : ValidText (today t)
  -- something is left of the life of each of the text's parts
  pub lefts : Lefts t.parts

text_valid : (t : before.JobText) → Known t → ValidText (today t)
text_valid t k =
    let count = count_same (length t.openings) t.parts in
    let lines = parts_spelt (length t.openings) t.parts k.1.1.1.1.1.1.0.1 in
    record {
      means = meant_valid (today t) (record {
        horizon_low = k.0.0;
        horizon_high = k.0.1;
        few_idles = k.1.0.0;
        idles = k.1.0.1;
        few_openings = k.1.1.1.0.1;
        openings = k.1.1.1.1.0.1.0;
        rising = k.1.1.1.1.0.1.1;
        some_part = omega (arith, count, k.1.1.1.1.1.0.0);
        few_parts = omega (arith, count, k.1.1.1.1.1.0.1);
        parts = parts_today (length t.openings) t.parts k.1.1.1.1.1.1.0.1;
        holders = none_held (length t.openings) _ 1 t.parts;
      }) lines;
      idles = k.1.0.2;
      walk = k.1.1.0.1;
      lines = lines;
    }

known_valid : (t : before.JobText) → Known t → Held t
known_valid t k = record { valid = text_valid t k; lefts = parts_left (length t.openings) t.parts k.1.1.1.1.1.1.0.1 }

valid_known : (t : before.JobText) → Held t → Known t
valid_known t held =
    let v = held.valid in
    let j = v.means.job in
    let n = length t.openings in
    let count = count_same (length t.openings) t.parts in
    let parts : PartsIn t.horizon t.idles t.walk n t.openings (length t.parts) t = ((refl, parts_then n t.parts j.parts held.lefts), refl) in
    let opened : OpeningsIn t.horizon t.idles t.walk n t = ((refl, (j.openings, j.rising)), ((omega (arith, count, j.some_part), omega (arith, count, j.few_parts)), parts)) in
    ((j.horizon_low, j.horizon_high), ((j.few_idles, j.idles, v.idles), ((omega arith, v.walk), ((omega arith, j.few_openings), opened))))

texts-map : (ps : List before.PartText) → texts (λ (p : before.PartText). part_text (uncovered p)) ps ≡ texts part_text (map uncovered ps)
texts-map [] = refl
texts-map (p ∷ ps) = ap (λ (s : List ℕ). part_text (uncovered p) ++ s) (texts-map ps)

text_same : (t : before.JobText) → line_of "horizon=" t.horizon ++ (optional_text idles_text t.idles ++ rest_text t) ≡ job_text_lem (today t)
unfolding job_text_lem body_text
text_same t = simp (append_assoc, append-nil, length-map, texts-map)

-- the lines before holders are exactly today's lines of such a text
pub lines_exact : Exact Any before.job_lines Held (λ t. job_text_lem (today t))
lines_exact = exact_as Known Held _ _ lines_read known_valid valid_known text_same

-- ---- the text

was_held : (s : List ℕ) (t : before.JobText) → before.read_job_text s ≡ accepted t → Held t
was_held s t e = let a = accepted_is before.max_bytes before.job_lines s t e in (lines_exact.tells s [] 1 a.last t a.lines).known

-- one that was accepted is accepted still, and says the same
pub text_before : (s : List ℕ) (t : before.JobText) → before.read_job_text s ≡ accepted t → read_job_text s ≡ accepted (today t)
text_before s t e =
    let a = accepted_is before.max_bytes before.job_lines s t e in
    let k = lines_exact.tells s [] 1 a.last t a.lines in
    ap read_job_text (k.text ∙ append-nil (job_text_lem (today t))) ∙ read_back (today t) k.known.valid

-- one that is accepted and has no lines of removal, no rule, no pair and no left of 0 was accepted, if it is not too long
pub was_accepted : (s : List ℕ) → length s ≤ before.max_bytes → (t : JobText) → read_job_text s ≡ accepted t → BareText t → Accepted s
unfolding told
was_accepted s few t e bare =
    let u = told bare.walk t in
    let same : today u ≡ t = today-told t bare in
    let b = lines_exact.back u (record { valid = subst ValidText (sym same) (valid_text s t e); lefts = told_left t.parts bare.parts }) [] 1 tt in
    let written : s ≡ job_text_lem (today u) ++ [] = text_is s t e ∙ ap job_text_lem (sym same) ∙ sym (append-nil (job_text_lem (today u))) in
    let r = text_complete before.max_bytes before.job_lines s u b.0 few (ap (λ (x : List ℕ). before.job_lines x 1) written ∙ b.1) in
    record { given = before.meant u; is = ap before.meaning r }

-- ---- what it means

-- what a job text accepted before holders said, and that it means the job
pub record Said (s : List ℕ) (g : before.Given) : Type 0 where
  pub text : before.JobText
  pub is : before.read_job_text s ≡ accepted text
  pub means : before.meant text ≡ g

-- a job text accepted before holders was read as lines of that grammar, which mean the job
pub said : (s : List ℕ) (g : before.Given) → before.read_job_lem s ≡ accepted g → Said s g
said s g e = go (before.read_job_text s) refl
  where
    go : (x : Outcome before.JobText) → before.read_job_text s ≡ x → Said s g
    go (accepted t) f = record { text = t; is = f; means = one_value e (ap before.meaning f) }
    go (refused n l) f = not_both e (ap before.meaning f)

-- a job text accepted before holders is accepted still, and means the same
pub job_before : (s : List ℕ) (g : before.Given) → before.read_job_lem s ≡ accepted g → read_job_lem s ≡ accepted (as_today g)
job_before s g e =
    let t = said s g e in
    ap meaning (text_before s t.text t.is) ∙ ap accepted (means_same t.text ∙ ap as_today t.means)

-- its walk number was in its range
pub walk_before : (s : List ℕ) (g : before.Given) → before.read_job_lem s ≡ accepted g → g.walk ≤ 4000000000
walk_before s g e =
    let t = said s g e in
    let a = accepted_is before.max_bytes before.job_lines s t.text t.is in
    subst (λ (h : before.Given). h.walk ≤ 4000000000) t.means (lines_exact.tells s [] 1 a.last t.text a.lines).known.valid.walk

-- exactly which texts were accepted
pub accepted-before : (s : List ℕ) → Accepted s ↔ ((length s ≤ before.max_bytes) × (t : JobText) × ((read_job_text s ≡ accepted t) × BareText t))
accepted-before s = (
  λ a. let u = said s a.given a.is in (
    (accepted_is before.max_bytes before.job_lines s u.text u.is).few,
    today u.text,
    (text_before s u.text u.is, record { walk = u.text.walk; there = refl; parts = today_bare u.text.parts (was_held s u.text u.is).lefts }),
  ),
  λ r. was_accepted s r.0 r.1 r.2.0 r.2.1,
)
