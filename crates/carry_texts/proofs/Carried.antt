-- The new job's text: it means the new job, at the high ends (`means_carried`) and at the low ends (`low-carried`), and where the old text was accepted it has no fault (`carried_valid`), so it reads back as what it says.
use mathlib.Core.Path.{◌≡◌, refl, sym, ap, ap₂, subst, ◌∙◌}
use mathlib.Core.Bool.{Bool}
use mathlib.Core.List.{List, [], ◌∷◌, map}
use Prim.Native.Nat.{ℕ, zero, suc, ◌-◌}
use native.Mathlib.Omega.{arith}
use lib.ListN.{length, length-map, length-drop, get_or, drop}
use Rattle.lines.specs.Parser.{accepted}
use Rattle.model.specs.Model.{Opening, Part, Job, Each, clock}
use Rattle.model.specs.Windows.{steps_of}
use Rattle.base.specs.Each.{All}
use Rattle.jobs.specs.Valid.{ValidOpening, ValidPrice, ValidPart, HeldFrom, ValidJob}
use Rattle.quotes.specs.Grammar.{high_end, low_end}
use Rattle.quotes.specs.Valid.{ValidQuote}
use Rattle.price_rules.specs.Grammar.{Prices, by_list, by_rule_lem, meant_prices, low_prices_lem, written_out_lem}
use Rattle.price_rules.specs.Valid.{ValidPrices}
use Rattle.price_rules.proofs.Prices.{written_out}
use Rattle.part_lines.specs.Grammar.{PartText, meant_part, low_part_lem}
use Rattle.part_lines.specs.Valid.{Spelt}
use Rattle.job_grammar.specs.Grammar.{JobText, idle_in, meant, read_job_text}
use Rattle.job_grammar.specs.Optionals.{idle_lines}
use Rattle.job_grammar.specs.Rendering.{job_text_lem}
use Rattle.job_grammar.specs.Valid.{SomeIdles, ValidText}
use Rattle.job_grammar.proofs.Optionals.{idle_steps_lem2}
use Rattle.job_grammar.proofs.Lows.{meant_valid}
use Rattle.job_grammar.proofs.Complete.{read_back}
use Rattle.carry.specs.Carry.{Log, count_to, passed, Logged, later, renumbered, carried_part, carried_parts, carried}
use Rattle.carry.proofs.Later.{After, left_after}
use Rattle.carry.proofs.Lives.{past}
use Rattle.carry.proofs.Parts.{Done, logged_done}
use Rattle.carry.proofs.Keeps.{openings_size}
use Rattle.carry.proofs.Kin.{parts-length}
use Rattle.carry.proofs.Splits.{map-drop}
use Rattle.carry.proofs.Valid.{rising_later, left_most, prices_fit, openings_rise}
use Rattle.job_grammar.specs.Reading.{meant_job}
use Rattle.carry_texts.specs.Carried.{quoted, carried_part_lines, carried_text}

-- ---- prices written out, from an opening on

quoted_out : (n : ℕ) (p : Prices) → written_out_lem n p ≡ by_list (quoted n p)
quoted_out n (by_list qs) = refl
quoted_out n (by_rule_lem r) = refl

module _ (n : ℕ) (p : Prices) (v : ValidPrices n p) where
  high_from : (k : ℕ) → map high_end (drop k (quoted n p)) ≡ drop k (meant_prices n p)
  high_from k = map-drop high_end k (quoted n p) ∙ ap (drop k) (ap (meant_prices n) (sym (quoted_out n p)) ∙ (written_out n p v).high)

  low_from : (k : ℕ) → map low_end (drop k (quoted n p)) ≡ drop k (low_prices_lem n p)
  low_from k = map-drop low_end k (quoted n p) ∙ ap (drop k) (ap (low_prices_lem n) (sym (quoted_out n p)) ∙ (written_out n p v).low)

  quoted_valid : ValidPrices n (by_list (quoted n p))
  quoted_valid = subst (ValidPrices n) (quoted_out n p) (written_out n p v).valid

-- ---- what it means

module _ (n m : ℕ) (job : Job) (step : ℕ) where
  parts_mean : (ps : List PartText) (cs : List (List Bool)) → All (Spelt n) ps → map (meant_part m) (carried_part_lines n job step ps cs) ≡ carried_parts job step (map (meant_part n) ps) cs
  unfolding carried_part_lines carried_parts
  parts_mean [] cs s = refl
  parts_mean (p ∷ ps) cs s =
      let e = high_from n p.prices s.0 (passed job step) in
      let q = carried_part job step (meant_part n p) (get_or cs 0 []) in
      ap₂ (λ (x : List ℕ) (qs : List Part). record { life = q.life; left = q.left; removal = q.removal; holders = q.holders; prices = x } ∷ qs) e (parts_mean ps (drop 1 cs) s.1)

-- what the carried text means is the carried job
pub means_carried : (t : JobText) (log : Log) → ValidText t → meant_job (carried_text t log) ≡ carried (meant_job t) log
means_carried t log v =
    let is = sym (idle_steps_lem2 (later log.step (idle_in t.idles))) in
    let ps = parts_mean (length t.openings) (length (carried_text t log).openings) (meant_job t) log.step t.parts log.plan.changes v.lines in
    λ i. record {
      horizon = t.horizon - log.step;
      idles = is i;
      openings = map (renumbered log.step) (drop (passed (meant_job t) log.step) t.openings);
      parts = ps i;
    }

-- E11. the same at the low ends: the lives are those at the high ends
module _ (n m : ℕ) (t : JobText) (step : ℕ) where
  lows_mean : (ps : List PartText) (cs : List (List Bool)) → All (Spelt n) ps → map (low_part_lem m) (carried_part_lines n (meant_job t) step ps cs) ≡ carried_parts (meant t).low step (map (low_part_lem n) ps) cs
  unfolding carried_part_lines carried_parts clock
  lows_mean [] cs s = refl
  lows_mean (p ∷ ps) cs s =
      let e = low_from n p.prices s.0 (passed (meant_job t) step) in
      let q = carried_part (meant t).low step (low_part_lem n p) (get_or cs 0 []) in
      ap₂ (λ (x : List ℕ) (qs : List Part). record { life = q.life; left = q.left; removal = q.removal; holders = q.holders; prices = x } ∷ qs) e (lows_mean ps (drop 1 cs) s.1)

-- the carried text's low ends are those of the job at the low ends, carried on
pub low-carried : (t : JobText) (log : Log) → ValidText t → (meant (carried_text t log)).low ≡ carried (meant t).low log
low-carried t log v =
    let is = sym (idle_steps_lem2 (later log.step (idle_in t.idles))) in
    let ps = lows_mean (length t.openings) (length (carried_text t log).openings) t log.step t.parts log.plan.changes v.lines in
    λ i. record {
      horizon = t.horizon - log.step;
      idles = is i;
      openings = map (renumbered log.step) (drop (passed (meant_job t) log.step) t.openings);
      parts = ps i;
    }

-- ---- its ranges and rules

all_drop : {A : Type 0} (P : A → Type 0) (n : ℕ) (l : List A) → All P l → All P (drop n l)
all_drop P zero l h = h
all_drop P (suc n) [] h = tt
all_drop P (suc n) (x ∷ l) h = all_drop P n l h.1

module _ (job : Job) (log : Log) (v : ValidJob job) (logged : Logged job log) where
  abbrev next : Job
  next = carried job log

  did : Each (Done job log) job.parts log.plan.changes
  did = logged_done job log logged

  openings_valid : (os : List Opening) → After log.step (steps_of os) → All ValidOpening os → All ValidOpening (map (renumbered log.step) os)
  openings_valid [] a h = tt
  openings_valid (o ∷ os) a h = (record { step_low = omega (arith, a.0); step_high = omega (arith, h.0.step_high); fee = h.0.fee }, openings_valid os a.1 h.1)

  parts_valid : (ps : List Part) (cs : List (List Bool)) → Each (Done job log) ps cs → All (ValidPart (length job.openings)) ps
      → All (ValidPart (length next.openings)) (carried_parts job log.step ps cs)
  unfolding carried_parts
  parts_valid [] [] d h = tt
  parts_valid [] (c ∷ cs) d h = absurd d
  parts_valid (p ∷ ps) [] d h = absurd d
  parts_valid (p ∷ ps) (c ∷ cs) d h = (
    record {
      life_low = h.0.life_low;
      life_high = h.0.life_high;
      left_high = left_most job log p c d.0 h.0.left_high;
      removal = h.0.removal;
      few_holders = h.0.few_holders;
      priced = prices_fit job log p c h.0.priced;
      prices = all_drop ValidPrice (past job log) p.prices h.0.prices;
    },
    parts_valid ps cs d.1 h.1,
  )

  holders_valid : (m k : ℕ) (ps : List Part) (cs : List (List Bool)) → HeldFrom m k ps → HeldFrom m k (carried_parts job log.step ps cs)
  unfolding carried_parts
  holders_valid m k [] cs h = tt
  holders_valid m k (p ∷ ps) cs h = (h.0, holders_valid m (suc k) ps (drop 1 cs) h.1)

  -- the new job has no fault
  pub job_valid : ValidJob next
  job_valid =
      let size = parts-length job log in
      record {
        horizon_low = omega (arith, logged.step_high);
        horizon_high = omega (arith, v.horizon_high);
        few_idles = omega (arith, length-map (drop (count_to log.step job.idles) job.idles) (λ (s : ℕ). s - log.step), length-drop (count_to log.step job.idles) job.idles, v.few_idles);
        idles = rising_later log.step job.horizon 0 job.idles v.idles;
        few_openings = omega (arith, openings_size job log, v.few_openings);
        openings = openings_valid (drop (past job log) job.openings)
            (subst (After log.step) (sym (map-drop (λ (o : Opening). o.step) (past job log) job.openings)) (left_after log.step 0 job.horizon (steps_of job.openings) v.rising))
            (all_drop ValidOpening (past job log) job.openings v.openings);
        rising = openings_rise job log v.rising;
        some_part = omega (arith, size, v.some_part);
        few_parts = omega (arith, size, v.few_parts);
        parts = parts_valid job.parts log.plan.changes did v.parts;
        holders = subst (λ (m : ℕ). HeldFrom m 1 next.parts) (sym size) (holders_valid (length job.parts) 1 job.parts log.plan.changes v.holders);
      }

-- "`idles` 1..365": there is no such line where none is left
some_lines : (is : List ℕ) → SomeIdles (idle_lines is)
unfolding idle_lines
some_lines [] = tt
some_lines (i ∷ is) = omega arith

-- the lines of each part's prices are in order, where there are m openings left
lines_spelt : (n m : ℕ) (job : Job) (step : ℕ) (ps : List PartText) (cs : List (List Bool)) → m ≡ n - passed job step → All (Spelt n) ps → All (Spelt m) (carried_part_lines n job step ps cs)
unfolding carried_part_lines
lines_spelt n m job step [] cs e s = tt
lines_spelt n m job step (p ∷ ps) cs e s =
    let v = quoted_valid n p.prices s.0 in
    ((length-drop (passed job step) (quoted n p.prices) ∙ ap (λ (k : ℕ). k - passed job step) v.0 ∙ sym e, all_drop ValidQuote (passed job step) (quoted n p.prices) v.1), lines_spelt n m job step ps (drop 1 cs) e s.1)

-- the new text has no fault
pub carried_valid : (t : JobText) (log : Log) → ValidText t → Logged (meant_job t) log → ValidText (carried_text t log)
carried_valid t log v l =
    let k = passed (meant_job t) log.step in
    let size = length-map (drop k t.openings) (renumbered log.step) ∙ length-drop k t.openings in
    let spelt = lines_spelt (length t.openings) (length (carried_text t log).openings) (meant_job t) log.step t.parts log.plan.changes size v.lines in
    record {
      means = meant_valid (carried_text t log) (subst ValidJob (sym (means_carried t log v)) (job_valid (meant_job t) log v.means.job l)) spelt;
      idles = some_lines (later log.step (idle_in t.idles));
      walk = tt;
      lines = spelt;
    }

-- so it is accepted, and says what it was written to say
pub carried_read : (t : JobText) (log : Log) → ValidText t → Logged (meant_job t) log → read_job_text (job_text_lem (carried_text t log)) ≡ accepted (carried_text t log)
carried_read t log v l = read_back (carried_text t log) (carried_valid t log v l)
