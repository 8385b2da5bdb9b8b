-- R20. "line by line, first bad line": the fault of a job text, a plan text or a log, and of a hall text but for 14, is that of every text with the same lines up to the line at fault (`job_first`, `plan_first`, `log_first`, `hall_first`), and that line is one of the text's or the next (`job_spans` and its like). By the grammars' forms.
use Rattle.std.specs.Prelude.{Option, Some, None}
use Prim.Native.Nat.{ℕ, zero, suc, ◌+◌, ◌-◌, ◌≤◌, ◌<◌}
use mathlib.Core.Path.{◌≡◌, refl, sym, ap, ap₂, subst, ◌∙◌}
use mathlib.Core.Bool.{Bool, true}
use mathlib.Core.List.{List, [], ◌∷◌, ◌++◌}
use native.Mathlib.Omega.{arith}
use lib.ListN.{length}
use borrow.Author.Tests.{le-leb}
use Rattle.lines.specs.Text.{bytes}
use Rattle.lines.specs.Parser.{Parsed, good, fault, Parser, row_at, checked, rising, end as ends, Outcome, accepted, refused, finish, whole, read_text}
use Rattle.lines.proofs.Outcomes.{one_fault, not_both}
use Rattle.model.specs.Model.{Job}
use Rattle.covers.specs.Grammar.{holder, holders, inside, cover}
use Rattle.quotes.specs.Grammar.{single, pair, unless_low, quote}
use Rattle.price_rules.specs.Rule.{Rule}
use Rattle.price_rules.specs.Grammar.{by_list, by_rule_lem, after_base, rule, unless_ruled, prices}
use Rattle.part_lines.specs.Grammar.{after_left, part, following}
use Rattle.job_grammar.specs.Grammar.{JobText, idle, idle_steps_lem, idles, opening, openings, parts, body, rest, job_lines, max_bytes, read_job_text, meaning, read_job_lem}
use Rattle.plan_grammar.specs.Grammar as plan
use Rattle.plan_grammar.specs.Grammar.{visit, visits, plan_lines, read_plan_lem}
use Rattle.log_grammar.specs.Grammar.{past_job_lem, log_lines, read_log}
use Rattle.hall_model.specs.Limits.{most_hall_bytes}
use Rattle.job_grammar.specs.Reading.{meant_job}
use Rattle.hall_grammar.specs.Grammar.{joins, job_behind, jobs_behind, hall_lines_lem, read_hall_text}
use Rattle.delivered.specs.FirstLines.{first_lines, breaks}
use Rattle.delivered.proofs.FirstLines.{no_break, Above, Alike, InSpan, row_one, checked_one, row_spans, checked_spans, row_counts, checked_counts, Linewise, one_linewise, return_linewise, bind_linewise, optional_linewise, present_linewise, chain_linewise, times_linewise, end_linewise, ruled_linewise, nothing_same}

-- P says of which numbers the law speaks
module _ (P : ℕ → Type 0) where
  -- a row reads line by line
  pub row_linewise : (key : List ℕ) → no_break key ≡ true → (lo hi : ℕ) → Linewise P (row_at key lo hi)
  row_linewise key n lo hi = one_linewise P (row_at key lo hi) (row_one key n lo hi) (row_spans key n lo hi) (row_counts key lo hi)

  checked_linewise : (k : ℕ) (ok : ℕ → Bool) (key : List ℕ) → no_break key ≡ true → (lo hi : ℕ) → Linewise P (checked k ok (row_at key lo hi))
  checked_linewise k ok key n lo hi = one_linewise P (checked k ok (row_at key lo hi)) (checked_one k ok (row_at key lo hi) (row_one key n lo hi)) (checked_spans k ok (row_at key lo hi) (row_spans key n lo hi)) (checked_counts k ok (row_at key lo hi) (row_counts key lo hi))

  -- ---- a part's lines

  holder_linewise : (m k before : ℕ) → Linewise P (holder m k before)
  unfolding holder bytes
  holder_linewise m k before = one_linewise P _ (checked_one 12 _ _ (checked_one 12 (rising before m) _ (row_one (bytes "holder=") refl 1 16))) (checked_spans 12 _ _ (checked_spans 12 (rising before m) _ (row_spans (bytes "holder=") refl 1 16)))
      (checked_counts 12 _ _ (checked_counts 12 (rising before m) _ (row_counts (bytes "holder=") 1 16)))

  cover_linewise : (m k : ℕ) → Linewise P (cover m k)
  unfolding cover inside holders bytes
  cover_linewise m k =
      bind_linewise P _ _ (optional_linewise P (bytes "removal=") refl 0 1000000)
      (λ r. present_linewise P (inside m k) (λ v. bind_linewise P _ _ (row_linewise (bytes "inside=") refl 0 15)
      (λ n. bind_linewise P _ _ (chain_linewise P (holder m k) _ (holder_linewise m k) n 0) (λ hs. return_linewise P _))) r)

  unless_low_linewise : (o : Option ℕ) → Linewise P (unless_low o)
  unfolding unless_low bytes
  unless_low_linewise None = bind_linewise P _ _ (row_linewise (bytes "price=") refl 1 1000000) (λ p. return_linewise P (single p))
  unless_low_linewise (Some l) = bind_linewise P _ _ (checked_linewise 13 _ (bytes "high=") refl 1 1000000) (λ h. return_linewise P (pair l h))

  quote_linewise : Linewise P quote
  unfolding quote bytes
  quote_linewise = bind_linewise P _ _ (optional_linewise P (bytes "low=") refl 1 1000000) unless_low_linewise

  rule_linewise : Linewise P rule
  unfolding rule after_base bytes
  rule_linewise =
      bind_linewise P _ _ (optional_linewise P (bytes "base=") refl 1 1000000)
      (λ b. present_linewise P after_base (λ v. bind_linewise P _ _ (row_linewise (bytes "drop=") refl 0 1000000) (λ d. bind_linewise P _ _ (row_linewise (bytes "least=") refl 1 1000000) (λ m. return_linewise P _))) b)

  unless_ruled_linewise : (n : ℕ) (o : Option Rule) → Linewise P (unless_ruled n o)
  unfolding unless_ruled
  unless_ruled_linewise n None = bind_linewise P _ _ (times_linewise P n _ quote_linewise) (λ qs. return_linewise P (by_list qs))
  unless_ruled_linewise n (Some r) = return_linewise P (by_rule_lem r)

  prices_linewise : (n : ℕ) → Linewise P (prices n)
  unfolding prices
  prices_linewise n = bind_linewise P _ _ rule_linewise (unless_ruled_linewise n)

  part_linewise : (m n k : ℕ) → Linewise P (part m n k)
  unfolding part after_left bytes
  part_linewise m n k =
      bind_linewise P _ _ (row_linewise (bytes "life=") refl 1 1000)
      (λ l. bind_linewise P _ _ (checked_linewise 5 _ (bytes "left=") refl 0 1000)
      (λ r. bind_linewise P _ _ (cover_linewise m k)
      (λ c. bind_linewise P _ _ (prices_linewise n) (λ ps. return_linewise P _))))

  -- ---- a job's lines

  idles_linewise : (h : ℕ) → Linewise P (idles h)
  unfolding idles idle_steps_lem idle bytes
  idles_linewise h =
      bind_linewise P _ _ (optional_linewise P (bytes "idles=") refl 1 365)
      (λ o. present_linewise P (idle_steps_lem h) (λ n. chain_linewise P (idle h) _ (λ before. checked_linewise 4 (rising before h) (bytes "idle=") refl 1 365) n 0) o)

  opening_linewise : (h before : ℕ) → Linewise P (opening h before)
  unfolding opening bytes
  opening_linewise h before =
      bind_linewise P _ _ (checked_linewise 4 (rising before h) (bytes "opening=") refl 1 365) (λ o. bind_linewise P _ _ (row_linewise (bytes "fee=") refl 0 1000000) (λ f. return_linewise P _))

  body_linewise : (h : ℕ) (is : Option (List ℕ)) (w : Option ℕ) (n : ℕ) → Linewise P (body h is w n)
  unfolding body openings parts bytes
  body_linewise h is w n =
      bind_linewise P _ _ (chain_linewise P (opening h) _ (opening_linewise h) n 0)
      (λ os. bind_linewise P _ _ (row_linewise (bytes "parts=") refl 1 16)
      (λ m. bind_linewise P _ _ (chain_linewise P (part m n) following (part_linewise m n) m 1) (λ ps. return_linewise P _)))

  -- the lines of a job are read line by line
  pub job_linewise : Linewise P job_lines
  unfolding job_lines rest bytes
  job_linewise =
      bind_linewise P _ _ (row_linewise (bytes "horizon=") refl 2 365)
      (λ h. bind_linewise P _ _ (idles_linewise h)
      (λ is. bind_linewise P _ _ (optional_linewise P (bytes "walk=") refl 0 4000000000)
      (λ w. bind_linewise P _ _ (row_linewise (bytes "openings=") refl 0 64) (λ n. body_linewise h is w n))))

  -- ---- a plan's lines, and a log's

  pub visit_linewise : (job : Job) (before : ℕ) → Linewise P (visit job before)
  unfolding visit plan.part plan.parts bytes
  visit_linewise job before =
      bind_linewise P _ _ (checked_linewise 9 _ (bytes "stop=") refl 1 365)
      (λ step. bind_linewise P _ _ (row_linewise (bytes "count=") refl 0 16)
      (λ n. bind_linewise P _ _ (chain_linewise P (plan.part (length job.parts)) _ (λ k. checked_linewise 9 (rising k (length job.parts)) (bytes "part=") refl 1 16) n 0) (λ ks. return_linewise P _)))

  pub plan_linewise : (job : Job) → Linewise P (plan_lines job)
  unfolding plan_lines visits bytes
  plan_linewise job =
      bind_linewise P _ _ (row_linewise (bytes "cost=") refl 0 4000000000)
      (λ cost. bind_linewise P _ _ (row_linewise (bytes "stops=") refl 0 64)
      (λ n. bind_linewise P _ _ (chain_linewise P (visit job) _ (visit_linewise job) n 0) (λ vs. return_linewise P _)))

  log_linewise : (job : Job) → Linewise P (log_lines job)
  unfolding log_lines bytes
  log_linewise job = bind_linewise P _ _ (row_linewise (bytes "step=") refl 1 (job.horizon - 2)) (λ step. bind_linewise P _ _ (plan_linewise (past_job_lem job step)) (λ stated. return_linewise P _))

  -- ---- a hall's lines: 14 alone is decided by lines behind the one that it is on

  jobs_linewise : (P 14 → ⊥) → (n : ℕ) (before : List Job) → Linewise P (jobs_behind n before)
  unfolding jobs_behind job_behind
  jobs_linewise unsaid zero before = return_linewise P []
  jobs_linewise unsaid (suc n) before =
      bind_linewise P _ _ (ruled_linewise P 14 unsaid (λ (t : JobText). joins before (meant_job t)) job_lines job_linewise)
      (λ t. bind_linewise P _ _ (jobs_linewise unsaid n (before ++ (meant_job t ∷ []))) (λ ts. return_linewise P _))

  hall_linewise : (P 14 → ⊥) → Linewise P hall_lines_lem
  unfolding hall_lines_lem bytes
  hall_linewise unsaid =
      bind_linewise P _ _ (row_linewise (bytes "machines=") refl 1 4)
      (λ n. bind_linewise P _ _ (row_linewise (bytes "call=") refl 0 1000000) (λ c. bind_linewise P _ _ (jobs_linewise unsaid n []) (λ ts. return_linewise P _)))

-- ---- whole texts

module _ (P : ℕ → Type 0) {A : Type 0} (most : ℕ) (p : Parser A) (h : Linewise P p) where
  whole_linewise : Linewise P (whole p)
  unfolding whole
  whole_linewise = bind_linewise P p _ h (λ a. bind_linewise P ends _ (end_linewise P) (λ _. return_linewise P a))

  read_is : (s : List ℕ) → length s ≤ most → read_text most p s ≡ finish (whole p s 1)
  unfolding read_text
  read_is s few = rw (read_text, le-leb (length s) most few)

  -- the fault of a text that is not too long stands on a line, and that of another with the same lines up to it is the same
  pub text_first : (s t : List ℕ) (n l : ℕ) → P n → read_text most p s ≡ refused n l → length s ≤ most → length t ≤ most → first_lines l t ≡ first_lines l s → (1 ≤ l) × (read_text most p t ≡ refused n l)
  text_first s t n l is e few short same = go (whole p s 1) refl (sym (read_is s few) ∙ e)
    where
      go : (x : Parsed A) → whole p s 1 ≡ x → finish x ≡ refused n l → (1 ≤ l) × (read_text most p t ≡ refused n l)
      go (good a r k) x f = not_both refl f
      go (fault i k) x f =
          let y = one_fault refl f in
          let up : 1 ≤ k = subst (Above 1) x (whole_linewise.above s 1) in
          let z : suc l - 1 ≡ l = omega arith in
          let lines = ap (λ (j : ℕ). first_lines j s) z ∙ sym same ∙ ap (λ (j : ℕ). first_lines j t) (sym z) in
          let alike : P i → k < suc l → whole p t 1 ≡ fault i k = subst (λ (r : Parsed A). Alike P (suc l) r (whole p t 1)) x (whole_linewise.alike (suc l) s t 1 (omega (arith, up, y.1)) lines) in
          (omega (arith, up, y.1), read_is t short ∙ ap finish (alike (subst P (sym y.0) is) (omega (arith, y.1))) ∙ ap₂ refused y.0 y.1)

  -- and it is one of the text's lines, or the next
  text_spans : (s : List ℕ) (n l : ℕ) → read_text most p s ≡ refused n l → length s ≤ most → l ≤ breaks s + 1
  text_spans s n l e few = go (whole p s 1) refl (sym (read_is s few) ∙ e)
    where
      go : (x : Parsed A) → whole p s 1 ≡ x → finish x ≡ refused n l → l ≤ breaks s + 1
      go (good a r k) x f = not_both refl f
      go (fault i k) x f =
          let y = one_fault refl f in
          let h : k ≤ 1 + breaks s = subst (InSpan (1 + breaks s)) x (whole_linewise.spans s 1) in
          omega (arith, h, y.1)

-- any number
abbrev pub any : ℕ → Type 0
any n = Unit {0}

-- a job text
pub job_first : (text other : List ℕ) (number line : ℕ) → read_job_lem text ≡ refused number line → length text ≤ max_bytes → length other ≤ max_bytes → first_lines line other ≡ first_lines line text → read_job_lem other ≡ refused number line
job_first text other number line e few short same = go (read_job_text text) refl
  where
    go : (x : Outcome JobText) → read_job_text text ≡ x → read_job_lem other ≡ refused number line
    go (accepted t) f = not_both (ap meaning f) e
    go (refused i j) f =
        let y = one_fault (ap meaning f) e in
        ap meaning (text_first any max_bytes job_lines (job_linewise any) text other number line tt (f ∙ ap₂ refused y.0 y.1) few short same).1

-- a log
pub log_first : (job : Job) (text other : List ℕ) (number line : ℕ) → read_log job text ≡ refused number line → length text ≤ plan.max_bytes → length other ≤ plan.max_bytes → first_lines line other ≡ first_lines line text → read_log job other ≡ refused number line
log_first job text other number line e few short same = (text_first any plan.max_bytes (log_lines job) (log_linewise any job) text other number line tt e few short same).1

-- a plan text; an empty one has no fault
pub plan_first : (job : Job) (text other : List ℕ) (number line : ℕ) → read_plan_lem job text ≡ refused number line → length text ≤ plan.max_bytes → length other ≤ plan.max_bytes → first_lines line other ≡ first_lines line text
    → read_plan_lem job other ≡ refused number line
unfolding read_plan_lem
plan_first job [] other number line e few short same = not_both refl e
plan_first job (b ∷ s) (c ∷ t) number line e few short same = (text_first any plan.max_bytes (plan_lines job) (plan_linewise any job) (b ∷ s) (c ∷ t) number line tt e few short same).1
plan_first job (b ∷ s) [] number zero e few short same = let h = text_first any plan.max_bytes (plan_lines job) (plan_linewise any job) (b ∷ s) (b ∷ s) number 0 tt e few few refl in absurd (omega (arith, h.0))
plan_first job (b ∷ s) [] number (suc l) e few short same = nothing_same l b s same

-- a hall text, where the fault is not 14
pub hall_first : (text other : List ℕ) (number line : ℕ) → read_hall_text text ≡ refused number line → (number ≡ 14 → ⊥) → length text ≤ most_hall_bytes → length other ≤ most_hall_bytes → first_lines line other ≡ first_lines line text
    → read_hall_text other ≡ refused number line
hall_first text other number line e not-14 few short same =
    let unlike : ℕ → Type 0 = λ n. n ≡ 14 → ⊥ in
    (text_first unlike most_hall_bytes hall_lines_lem (hall_linewise unlike (λ f. f refl)) text other number line not-14 e few short same).1

-- ---- the lines of faults: one of a text's, or the next

-- a job text
pub job_spans : (text : List ℕ) (number line : ℕ) → read_job_lem text ≡ refused number line → length text ≤ max_bytes → line ≤ breaks text + 1
job_spans text number line e few = go (read_job_text text) refl
  where
    go : (x : Outcome JobText) → read_job_text text ≡ x → line ≤ breaks text + 1
    go (accepted t) f = not_both (ap meaning f) e
    go (refused i j) f = let y = one_fault (ap meaning f) e in text_spans any max_bytes job_lines (job_linewise any) text number line (f ∙ ap₂ refused y.0 y.1) few

-- a plan text
pub plan_spans : (job : Job) (text : List ℕ) (number line : ℕ) → read_plan_lem job text ≡ refused number line → length text ≤ plan.max_bytes → line ≤ breaks text + 1
unfolding read_plan_lem
plan_spans job [] number line e few = not_both refl e
plan_spans job (b ∷ s) number line e few = text_spans any plan.max_bytes (plan_lines job) (plan_linewise any job) (b ∷ s) number line e few

-- a log
pub log_spans : (job : Job) (text : List ℕ) (number line : ℕ) → read_log job text ≡ refused number line → length text ≤ plan.max_bytes → line ≤ breaks text + 1
log_spans job text number line e few = text_spans any plan.max_bytes (log_lines job) (log_linewise any job) text number line e few

-- a hall text
pub hall_spans : (text : List ℕ) (number line : ℕ) → read_hall_text text ≡ refused number line → length text ≤ most_hall_bytes → line ≤ breaks text + 1
hall_spans text number line e few = let unlike : ℕ → Type 0 = λ n. n ≡ 14 → ⊥ in
    text_spans unlike most_hall_bytes hall_lines_lem (hall_linewise unlike (λ f. f refl)) text number line e few
