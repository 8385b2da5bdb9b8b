-- What stands on the line at fault (`job_at_fault`, `plan_at_fault`, `log_at_fault`, `hall_at_fault`), and that a fault is 1 exactly of a text that is too long (`job_long` and its like). By the grammars' forms.
use Rattle.std.specs.Prelude.{Option, Some, None}
use Prim.Native.Nat.{ℕ, zero, suc, ◌+◌, ◌-◌, ◌≤◌, ◌<◌}
use mathlib.Core.Path.{◌≡◌, refl, sym, ap, ap₂, subst, ◌∙◌}
use mathlib.Core.Bool.{Bool, true, false, ◌&&◌, true≢false}
use mathlib.Core.List.{List, [], ◌∷◌, ◌++◌, append_assoc}
use mathlib.Core.Logic.{◌⊎◌, ◌↔◌, inl, inr}
use native.Mathlib.Omega.{arith}
use native.Mathlib.Decide.{ℕ_discrete, dec_lt}
use lib.Dec.{leb, ltb}
use lib.ListN.{length, drop}
use borrow.Author.Tests.{eq-eqb, ne_eqb, ltb-false, leb-false}
use Rattle.lines.specs.Line.{starts_with, read_line_lem}
use Rattle.lines.specs.Text.{bytes, decimal, line}
use Rattle.lines.specs.Parser.{Parsed, good, fault, Parser, ◌>>=◌, return, in_range, read_field_lem, taken, row_at, optional_at, if_present, row, checked, chain, times, end as ends, Outcome, accepted, refused, finish, whole, read_text, rising, up_to}
use Rattle.lines.proofs.Parsing.{bind_good, bind_fault, checked-good, checked_not, checked-fault, optional_there, optional_missing, text_long, text_fits}
use Rattle.lines.proofs.Sound.{bind_inv, row_sound, row_gives}
use Rattle.lines.proofs.Written.{Stands, line_written}
use Rattle.lines.proofs.Outcomes.{one_fault, not_both}
use Rattle.fault_lines.specs.Fault.{after_break, skipped}
use Rattle.model.specs.Model.{Opening, Job}
use Rattle.covers.specs.Grammar.{holder, holders, inside, cover}
use Rattle.quotes.specs.Grammar.{single, pair, at_least, unless_low, quote}
use Rattle.price_rules.specs.Rule as price_rule
use Rattle.price_rules.specs.Grammar.{by_list, by_rule_lem, after_base, rule, unless_ruled, prices}
use Rattle.part_lines.specs.Grammar.{after_left, part, following}
use Rattle.job_grammar.specs.Grammar.{JobText, idle, idle_steps_lem, idles, opening, openings, parts, body, rest, job_lines, max_bytes, read_job_text, meaning, read_job_lem}
use Rattle.plan_grammar.specs.Grammar as plan
use Rattle.plan_grammar.specs.Grammar.{visit, visits, plan_lines, read_plan_lem}
use Rattle.log_grammar.specs.Grammar.{past_job_lem, log_lines, read_log}
use Rattle.hall_model.specs.Limits.{most_hall_bytes}
use Rattle.job_grammar.specs.Reading.{meant_job}
use Rattle.hall_grammar.specs.Grammar.{joins, job_behind, jobs_behind, hall_lines_lem, read_hall_text}
use Rattle.delivered.specs.FirstLines.{breaks}
use Rattle.branch.specs.Search.{In}
use Rattle.delivered.specs.AtFault.{Kind, kind, Begins, Inside, Outside, job_kinds, plan_kinds, log_kinds, hall_kinds, Rule, job_rules, plan_rules, hall_rules, rising_kinds, Told, form, range, ruled, opening_not_after, idle_not_after, past_horizon, above_life, below_low, AtFault}
use Rattle.delivered.proofs.FirstLines.{no_break, InSpan, breaks_both, key_unbroken, decimal_unbroken, line_ends, row_spans}

-- ---- lines of a text

-- what follows so many lines, and then so many more
skipped_both : (i j : ℕ) (s : List ℕ) → skipped (i + j) s ≡ skipped j (skipped i s)
unfolding skipped
skipped_both zero j s = let z : 0 + j ≡ j = omega arith in ap (λ (k : ℕ). skipped k s) z
skipped_both (suc i) j s = let z : suc i + j ≡ suc (i + j) = omega arith in ap (λ (k : ℕ). skipped k s) z ∙ skipped_both i j (after_break s)

-- what follows a byte 10 that is the first
after_ten : (xs r : List ℕ) → breaks xs ≡ 0 → after_break (xs ++ (10 ∷ r)) ≡ r
unfolding after_break breaks
after_ten [] r e = refl
after_ten (x ∷ xs) r e = go (ℕ_discrete x 10) (after_ten xs r)
  where
    go : Dec (x ≡ 10) → (breaks xs ≡ 0 → after_break (xs ++ (10 ∷ r)) ≡ r) → after_break ((x ∷ xs) ++ (10 ∷ r)) ≡ r
    go (yes y) same = let h = rw (eq-eqb x 10 y) at e in absurd (omega (arith, h))
    go (no n) same = let h = rw (ne_eqb x 10 n) at e in rw (after_break, ne_eqb x 10 n) (same (omega (arith, h)))

-- what follows the line of a value
line_skipped : (key : List ℕ) → no_break key ≡ true → (v : ℕ) (r : List ℕ) → skipped 1 (line key v ++ r) ≡ r
unfolding skipped line
line_skipped key n v r =
    ap after_break (append_assoc key (decimal v ++ (10 ∷ [])) r ∙ ap (λ (x : List ℕ). key ++ x) (append_assoc (decimal v) (10 ∷ []) r) ∙ sym (append_assoc key (decimal v) (10 ∷ r)))
    ∙ after_ten (key ++ decimal v) r (omega (arith, breaks_both key (decimal v), key_unbroken key n, decimal_unbroken 10 v))

-- ---- parsers

-- T says what a fault's number says of a text, so many lines above the line at fault
module _ (T : ℕ → ℕ → List ℕ → Type 0) where
  -- an answer from a text and a line: what is left is what follows some lines, or what the fault says holds
  abbrev pub Answer : {A : Type 0} → List ℕ → ℕ → Parsed A → Type 0
  Answer s l (good a r k) = (i : ℕ) × (k ≡ l + i) × (r ≡ skipped i s)
  Answer s l (fault n k) = (i : ℕ) × (d : ℕ) × (k ≡ l + i + d) × T n d (skipped i s)

  -- every answer of the parser
  abbrev pub Tells : {A : Type 0} → Parser A → Type 0
  Tells p = (s : List ℕ) (l : ℕ) → Answer s l (p s l)

  -- an answer behind some lines
  moved : {A : Type 0} (s r : List ℕ) (l k i : ℕ) → k ≡ l + i → r ≡ skipped i s → (x : Parsed A) → Answer r k x → Answer s l x
  moved s r l k i e q (good a t m) h = (i + h.0, omega (arith, e, h.1), h.2 ∙ ap (skipped h.0) q ∙ sym (skipped_both i h.0 s))
  moved s r l k i e q (fault n m) h = (i + h.0, h.1, omega (arith, e, h.2), subst (T n h.1) (ap (skipped h.0) q ∙ sym (skipped_both i h.0 s)) h.3)

  return_tells : {A : Type 0} (a : A) → Tells (return a)
  unfolding return skipped
  return_tells a s l = (0, omega arith, refl)

  bind_tells : {A B : Type 0} (p : Parser A) (f : A → Parser B) → Tells p → ((a : A) → Tells (f a)) → Tells (p >>= f)
  bind_tells {A} {B} p f first next s l = go (p s l) refl (first s l)
    where
      go : (x : Parsed A) → p s l ≡ x → Answer s l x → Answer s l ((p >>= f) s l)
      go (good a r k) x h = rw (bind_good p f x) (moved s r l k h.0 h.1 h.2 (f a r k) (next a r k))
      go (fault n k) x h = rw (bind_fault p f x) h

  present_tells : {A B : Type 0} (f : A → Parser B) → ((a : A) → Tells (f a)) → (o : Option A) → Tells (if_present f o)
  unfolding if_present
  present_tells f h None = return_tells None
  present_tells f h (Some a) = bind_tells (f a) _ (h a) (λ b. return_tells (Some b))

  chain_tells : {A S : Type 0} (p : S → Parser A) (next : S → A → S) → ((k : S) → Tells (p k)) → (n : ℕ) (before : S) → Tells (chain p next n before)
  unfolding chain
  chain_tells p next h zero before = return_tells []
  chain_tells p next h (suc n) before =
      bind_tells (p before) _ (h before) (λ a. bind_tells (chain p next n (next before a)) _ (chain_tells p next h n (next before a)) (λ rest. return_tells (a ∷ rest)))

  times_tells : {A : Type 0} (n : ℕ) (p : Parser A) → Tells p → Tells (times n p)
  unfolding times
  times_tells n p h = chain_tells {S = ℕ} (λ _. p) (λ _ _. 0) (λ _. h) n 0

-- the kind of the lines of a key and a range
abbrev of : List ℕ → ℕ → ℕ → Kind
of key lo hi = record { key = key; least = lo; most = hi }

-- what T says of 2, and of 3 on lines of these kinds
record Bases (kinds : List Kind) (T : ℕ → ℕ → List ℕ → Type 0) : Type 0 where
  formed : (s : List ℕ) → T 2 0 s
  ranged : (s : List ℕ) (k : Kind) → In k kinds → Outside k s → T 3 0 s

outside : (v lo hi : ℕ) → (leb lo v && leb v hi) ≡ false → (v < lo) ⊎ (hi < v)
outside v lo hi e = go (leb lo v) refl (leb v hi) refl e
  where
    go : (b : Bool) → leb lo v ≡ b → (c : Bool) → leb v hi ≡ c → (b && c) ≡ false → (v < lo) ⊎ (hi < v)
    go false x c y z = inl (leb-false lo v x)
    go true x false y z = inr (leb-false v hi y)
    go true x true y z = absurd (true≢false z)

-- what follows a row's line
row_behind : (key : List ℕ) → no_break key ≡ true → (lo hi : ℕ) (s r : List ℕ) (l k v : ℕ) → row_at key lo hi s l ≡ good v r k → (k ≡ l + 1) × (r ≡ skipped 1 s)
row_behind key n lo hi s r l k v e =
    let text = row_sound key lo hi s r l k v e in
    let h : k + breaks r ≡ l + breaks s = subst (InSpan (l + breaks s)) e (row_spans key n lo hi s l) in
    (omega (arith, h, ap breaks text, breaks_both (line key v) r, line_ends key n v), sym (ap (skipped 1) text ∙ line_skipped key n v r))

module _ (kinds : List Kind) (T : ℕ → ℕ → List ℕ → Type 0) (b : Bases kinds T) where
  end_tells : Tells T ends
  unfolding ends skipped
  end_tells [] l = (0, omega arith, refl)
  end_tells (c ∷ s) l = (0, 0, omega arith, b.formed (c ∷ s))

  -- ---- a line

  row_tells : (key : List ℕ) → no_break key ≡ true → (lo hi : ℕ) → In (of key lo hi) kinds → Tells T (row_at key lo hi)
  unfolding row_at read_field_lem taken in_range skipped
  row_tells key n lo hi is s l = go (read_line_lem key s) (line_written key s)
    where
      pick : (v m : ℕ) → s ≡ line key v ++ drop m s → (t : Bool) → (leb lo v && leb v hi) ≡ t → Answer T s l (taken s l (in_range lo hi (Some (v, m))))
      pick v m w true z = rw (in_range, z) (1, omega arith, sym (ap (skipped 1) w ∙ line_skipped key n v (drop m s)))
      pick v m w false z = rw (in_range, z) (0, 0, omega arith, b.ranged s (of key lo hi) is (v, (drop m s, w), outside v lo hi z))

      go : (x : Option (ℕ × ℕ)) → Stands key s x → Answer T s l (taken s l (in_range lo hi x))
      go (Some (v, m)) w = pick v m w (leb lo v && leb v hi) refl
      go None w = (0, 0, omega arith, b.formed s)

  -- a parser of a line of this kind: its answers, and that its values are there
  record Lined (k : Kind) (p : Parser ℕ) : Type 0 where
    tells : Tells T p
    inside : (s r : List ℕ) (l m v : ℕ) → p s l ≡ good v r m → Inside k s

  row_lined : (key : List ℕ) → no_break key ≡ true → (lo hi : ℕ) → In (of key lo hi) kinds → Lined (of key lo hi) (row_at key lo hi)
  row_lined key n lo hi is = record {
    tells = row_tells key n lo hi is;
    inside = λ s r l m v e. let g = row_gives key lo hi s r l m v e in (v, (r, row_sound key lo hi s r l m v e), g.0, g.1);
  }

  -- a further rule of it
  checked_lined : (number : ℕ) (ok : ℕ → Bool) (k : Kind) (p : Parser ℕ) → ((s : List ℕ) → Inside k s → T number 0 s) → Lined k p → Lined k (checked number ok p)
  unfolding skipped
  checked_lined number ok k p says h = record { tells = λ s l. go s l (p s l) refl (h.tells s l); inside = λ s r l m v e. within s r l m v (p s l) refl e }
    where
      go : (s : List ℕ) (l : ℕ) (x : Parsed ℕ) → p s l ≡ x → Answer T s l x → Answer T s l (checked number ok p s l)
      go s l (good v r m) x a = pick (ok v) refl
        where
          pick : (t : Bool) → ok v ≡ t → Answer T s l (checked number ok p s l)
          pick true z = rw (checked-good number ok p s l x z) a
          pick false z = rw (checked_not number ok p s l x z) (0, 0, omega arith, says s (h.inside s r l m v x))
      go s l (fault n m) x a = rw (checked-fault number ok p s l x) a

      within : (s r : List ℕ) (l m v : ℕ) (x : Parsed ℕ) → p s l ≡ x → checked number ok p s l ≡ good v r m → Inside k s
      within s r l m v (good w t j) x e = h.inside s t l j w x
      within s r l m v (fault n j) x e = let y : ◌≡◌ {A = Parsed ℕ} (fault n j) (good v r m) = sym (checked-fault number ok p s l x) ∙ e in let z : ◌≡◌ {A = ℕ} 0 1 = cc in absurd (omega (arith, z))

  optional_tells : (key : List ℕ) → no_break key ≡ true → (lo hi : ℕ) → In (of key lo hi) kinds → Tells T (optional_at key lo hi)
  unfolding skipped
  optional_tells key n lo hi is s l = go (starts_with key s) refl
    where
      go : (t : Bool) → starts_with key s ≡ t → Answer T s l (optional_at key lo hi s l)
      go true x = rw (optional_there key lo hi s l x) (bind_tells T (row_at key lo hi) _ (row_tells key n lo hi is) (λ v. return_tells T (Some v)) s l)
      go false x = rw (optional_missing key lo hi s l x) (0, omega arith, refl)

  -- the second of two lines, whose rule knows the first's value
  second_tells : {B : Type 0} (number : ℕ) (ok : ℕ → Bool) (key : List ℕ) → no_break key ≡ true → (lo hi : ℕ) → In (of key lo hi) kinds → (g : ℕ → Parser B) → ((v : ℕ) → Tells T (g v))
      → (s r : List ℕ) (l k : ℕ) → k ≡ l + 1 → r ≡ skipped 1 s → ((v : ℕ) (rest : List ℕ) → r ≡ line key v ++ rest → lo ≤ v → v ≤ hi → ok v ≡ false → T number 1 s)
      → Answer T s l ((checked number ok (row_at key lo hi) >>= g) r k)
  unfolding skipped
  second_tells {B} number ok key n lo hi is g later s r l k e q broken = go (p r k) refl (row_tells key n lo hi is r k)
    where
      p : Parser ℕ
      p = row_at key lo hi

      go : (x : Parsed ℕ) → p r k ≡ x → Answer T r k x → Answer T s l ((checked number ok p >>= g) r k)
      go (good v t m) x a = pick (ok v) refl
        where
          pick : (c : Bool) → ok v ≡ c → Answer T s l ((checked number ok p >>= g) r k)
          pick true z = rw (bind_good (checked number ok p) g (checked-good number ok p r k x z)) (moved T s r l k 1 e q (g v t m) (moved T r t k m a.0 a.1 a.2 (g v t m) (later v t m)))
          pick false z =
              let between = row_gives key lo hi r t k m v x in
              rw (bind_fault (checked number ok p) g (checked_not number ok p r k x z)) (0, 1, omega (arith, e), broken v t (row_sound key lo hi r t k m v x) between.0 between.1 z)
      go (fault i m) x a = rw (bind_fault (checked number ok p) g (checked-fault number ok p r k x)) (moved T {A = B} s r l k 1 e q (fault i m) a)

-- ---- steps that rise

-- where steps are to be within the horizon h: what T says, or a step past it so many lines further down
abbrev Local : (ℕ → ℕ → List ℕ → Type 0) → ℕ → ℕ → ℕ → List ℕ → Type 0
Local T h n d s = T n d s ⊎ ((n ≡ 4) × (v : ℕ) × (k : Kind) × In k rising_kinds × Begins k.key v (skipped d s) × (h < v) × (v ≤ 365))

-- a step on the first line that is not after the one before
abbrev Late : ℕ → List ℕ → ℕ → ℕ → ℕ → List ℕ → Type 0
Late before key n k l s = (n ≡ 4) × (k ≡ l) × (v : ℕ) × Begins key v s × (v ≤ before) × (1 ≤ v)

module _ (T : ℕ → ℕ → List ℕ → Type 0) (b : Bases job_kinds T) (h : ℕ) where
  -- one step with what stands beside it, j lines: what follows, and what is said of a next one that is not after it; or its fault
  abbrev Step : {A : Type 0} → List ℕ → ℕ → (A → ℕ) → ℕ → List ℕ → ℕ → Parsed A → Type 0
  Step key j step before s l (good a r k) = (k ≡ l + j) × (r ≡ skipped j s) × ((v : ℕ) → Begins key v r → v ≤ step a → 1 ≤ v → T 4 j s)
  Step key j step before s l (fault n k) = Answer (Local T h) {A = ℕ} s l (fault n k) ⊎ Late before key n k l s

  -- a row of steps
  abbrev Steps : {A : Type 0} → List ℕ → ℕ → List ℕ → ℕ → Parsed A → Type 0
  Steps key before s l (good a r k) = (i : ℕ) × (k ≡ l + i) × (r ≡ skipped i s)
  Steps key before s l (fault n k) = Answer (Local T h) {A = ℕ} s l (fault n k) ⊎ Late before key n k l s

  steps_from : {A : Type 0} (key : List ℕ) (j : ℕ) (p : ℕ → Parser A) (step : A → ℕ) → ((before : ℕ) (s : List ℕ) (l : ℕ) → Step key j step before s l (p before s l))
      → (n before : ℕ) (s : List ℕ) (l : ℕ) → Steps key before s l (chain p (λ _ a. step a) n before s l)
  unfolding chain return skipped
  steps_from key j p step one zero before s l = (0, omega arith, refl)
  steps_from {A} key j p step one (suc n) before s l = go (p before s l) refl (one before s l) (steps_from key j p step one n)
    where
      rest : ℕ → Parser (List A)
      rest prev = chain p (λ _ a. step a) n prev

      whole-chain : Parsed (List A)
      whole-chain = (p before >>= λ a. rest (step a) >>= λ xs. return (a ∷ xs)) s l

      behind : (a : A) (r : List ℕ) (k : ℕ) → (k ≡ l + j) × (r ≡ skipped j s) × ((v : ℕ) → Begins key v r → v ≤ step a → 1 ≤ v → T 4 j s) → (y : Parsed (List A)) → rest (step a) r k ≡ y → Steps key (step a) r k y
          → Steps key before s l ((rest (step a) >>= λ xs. return (a ∷ xs)) r k)
      behind a r k c (good xs t m) y d = rw (bind_good (rest (step a)) _ y) (j + d.0, omega (arith, c.0, d.1), d.2 ∙ ap (skipped d.0) c.1 ∙ sym (skipped_both j d.0 s))
      behind a r k c (fault i m) y (inl d) = rw (bind_fault (rest (step a)) _ y) (inl (moved (Local T h) {A = ℕ} s r l k j c.0 c.1 (fault i m) d))
      behind a r k c (fault i m) y (inr d) = rw (bind_fault (rest (step a)) _ y) (inl (0, j, omega (arith, c.0, d.1), inl (subst (λ (q : ℕ). T q j s) (sym d.0) (c.2 d.2 d.3 d.4 d.5))))

      go : (x : Parsed A) → p before s l ≡ x → Step key j step before s l x → ((prev : ℕ) (r : List ℕ) (k : ℕ) → Steps key prev r k (rest prev r k)) → Steps key before s l whole-chain
      go (good a r k) x c later = rw (bind_good (p before) _ x) (behind a r k c (rest (step a) r k) refl (later (step a) r k))
      go (fault i k) x c later = rw (bind_fault (p before) _ x) c

  -- all of them, from the first on: none is at most 0
  steps_tell : {A : Type 0} (key : List ℕ) (j : ℕ) (p : ℕ → Parser A) (step : A → ℕ) → ((before : ℕ) (s : List ℕ) (l : ℕ) → Step key j step before s l (p before s l)) → (n : ℕ) → Tells (Local T h) (chain p (λ _ a. step a) n 0)
  steps_tell {A} key j p step one n s l = go (chain p (λ _ a. step a) n 0 s l) (steps_from key j p step one n 0 s l)
    where
      go : (x : Parsed (List A)) → Steps key 0 s l x → Answer (Local T h) s l x
      go (good a r k) c = c
      go (fault i k) (inl c) = c
      go (fault i k) (inr c) = absurd (omega (arith, c.4, c.5))

  -- a line of a step: its value, or its fault
  abbrev StepLine : List ℕ → ℕ → List ℕ → ℕ → Parsed ℕ → Type 0
  StepLine key before s l (good v r k) = (k ≡ l + 1) × (r ≡ skipped 1 s) × (s ≡ line key v ++ r)
  StepLine key before s l (fault n k) = Answer (Local T h) {A = ℕ} s l (fault n k) ⊎ Late before key n k l s

  -- a fault of a row, where steps are to be within the horizon
  local_fault : (s : List ℕ) (l n k : ℕ) → Answer T {A = ℕ} s l (fault n k) → Answer (Local T h) {A = ℕ} s l (fault n k)
  local_fault s l n k a = (a.0, a.1, a.2, inl a.3)

  step_line : (key : List ℕ) → no_break key ≡ true → In (of key 1 365) job_kinds → In (of key 1 365) rising_kinds → (before : ℕ) (s : List ℕ) (l : ℕ) → StepLine key before s l (checked 4 (rising before h) (row_at key 1 365) s l)
  unfolding skipped
  step_line key n is rises before s l = go (row_at key 1 365 s l) refl
    where
      p : Parser ℕ
      p = row_at key 1 365

      go : (x : Parsed ℕ) → p s l ≡ x → StepLine key before s l (checked 4 (rising before h) p s l)
      go (fault i m) x = rw (checked-fault 4 (rising before h) p s l x) (inl (local_fault s l i m (subst (Answer T s l) x (row_tells job_kinds T b key n 1 365 is s l))))
      go (good v r k) x = pick (ltb before v) refl (leb v h) refl
        where
          text : s ≡ line key v ++ r
          text = row_sound key 1 365 s r l k v x

          between : (1 ≤ v) × (v ≤ 365)
          between = row_gives key 1 365 s r l k v x

          pick : (c : Bool) → ltb before v ≡ c → (d : Bool) → leb v h ≡ d → StepLine key before s l (checked 4 (rising before h) p s l)
          pick false y d z = rw (checked_not 4 (rising before h) p s l x (ap (λ (t : Bool). t && leb v h) y)) (inr (refl, refl, v, (r, text), ltb-false before v y, between.0))
          pick true y false z = rw (checked_not 4 (rising before h) p s l x (ap₂ (λ (t u : Bool). t && u) y z)) (inl (0, 0, omega arith, inr (refl, v, of key 1 365, rises, (r, text), leb-false v h z, between.1)))
          pick true y true z = let q = row_behind key n 1 365 s r l k v x in rw (checked-good 4 (rising before h) p s l x (ap₂ (λ (t u : Bool). t && u) y z)) (q.0, q.1, text)

-- ---- a job's lines

horizon-kind : In (kind "horizon=" 2 365) job_kinds
horizon-kind = inl refl

idles-kind : In (kind "idles=" 1 365) job_kinds
idles-kind = inr (inl refl)

idle-kind : In (kind "idle=" 1 365) job_kinds
idle-kind = inr (inr (inl refl))

walk-kind : In (kind "walk=" 0 4000000000) job_kinds
walk-kind = inr (inr (inr (inl refl)))

openings-kind : In (kind "openings=" 0 64) job_kinds
openings-kind = inr (inr (inr (inr (inl refl))))

opening-kind : In (kind "opening=" 1 365) job_kinds
opening-kind = inr (inr (inr (inr (inr (inl refl)))))

fee-kind : In (kind "fee=" 0 1000000) job_kinds
fee-kind = inr (inr (inr (inr (inr (inr (inl refl))))))

parts-kind : In (kind "parts=" 1 16) job_kinds
parts-kind = inr (inr (inr (inr (inr (inr (inr (inl refl)))))))

life-kind : In (kind "life=" 1 1000) job_kinds
life-kind = inr (inr (inr (inr (inr (inr (inr (inr (inl refl))))))))

left-kind : In (kind "left=" 0 1000) job_kinds
left-kind = inr (inr (inr (inr (inr (inr (inr (inr (inr (inl refl)))))))))

removal-kind : In (kind "removal=" 0 1000000) job_kinds
removal-kind = inr (inr (inr (inr (inr (inr (inr (inr (inr (inr (inl refl))))))))))

inside-kind : In (kind "inside=" 0 15) job_kinds
inside-kind = inr (inr (inr (inr (inr (inr (inr (inr (inr (inr (inr (inl refl)))))))))))

holder-kind : In (kind "holder=" 1 16) job_kinds
holder-kind = inr (inr (inr (inr (inr (inr (inr (inr (inr (inr (inr (inr (inl refl))))))))))))

price-kind : In (kind "price=" 1 1000000) job_kinds
price-kind = inr (inr (inr (inr (inr (inr (inr (inr (inr (inr (inr (inr (inr (inl refl)))))))))))))

low-kind : In (kind "low=" 1 1000000) job_kinds
low-kind = inr (inr (inr (inr (inr (inr (inr (inr (inr (inr (inr (inr (inr (inr (inl refl))))))))))))))

high-kind : In (kind "high=" 1 1000000) job_kinds
high-kind = inr (inr (inr (inr (inr (inr (inr (inr (inr (inr (inr (inr (inr (inr (inr (inl refl)))))))))))))))

base-kind : In (kind "base=" 1 1000000) job_kinds
base-kind = inr (inr (inr (inr (inr (inr (inr (inr (inr (inr (inr (inr (inr (inr (inr (inr (inl refl))))))))))))))))

drop-kind : In (kind "drop=" 0 1000000) job_kinds
drop-kind = inr (inr (inr (inr (inr (inr (inr (inr (inr (inr (inr (inr (inr (inr (inr (inr (inr (inl refl)))))))))))))))))

least-kind : In (kind "least=" 1 1000000) job_kinds
least-kind = inr (inr (inr (inr (inr (inr (inr (inr (inr (inr (inr (inr (inr (inr (inr (inr (inr (inr (inl refl))))))))))))))))))

-- what T says of a part's lines
record PartSays (T : ℕ → ℕ → List ℕ → Type 0) : Type 0 where
  bases : Bases job_kinds T
  holders_say : (s : List ℕ) → Inside (kind "holder=" 1 16) s → T 12 0 s
  above : (s : List ℕ) (life left : ℕ) (rest : List ℕ) → s ≡ line (bytes "life=") life ++ (line (bytes "left=") left ++ rest) → life < left → left ≤ 1000 → T 5 1 s
  below : (s : List ℕ) (low high : ℕ) (rest : List ℕ) → s ≡ line (bytes "low=") low ++ (line (bytes "high=") high ++ rest) → high < low → low ≤ 1000000 → 1 ≤ high → T 13 1 s

-- the same where steps are to be within the horizon
local_says : (T : ℕ → ℕ → List ℕ → Type 0) (h : ℕ) → PartSays T → PartSays (Local T h)
local_says T h c = record {
  bases = record { formed = λ s. inl (c.bases.formed s); ranged = λ s k is o. inl (c.bases.ranged s k is o) };
  holders_say = λ s i. inl (c.holders_say s i);
  above = λ s life left rest e m n. inl (c.above s life left rest e m n);
  below = λ s low high rest e m n o. inl (c.below s low high rest e m n o);
}

module _ (T : ℕ → ℕ → List ℕ → Type 0) (c : PartSays T) where
  -- a row of one of these kinds
  line_tells : (key : List ℕ) → no_break key ≡ true → (lo hi : ℕ) → In (of key lo hi) job_kinds → Tells T (row_at key lo hi)
  line_tells = row_tells job_kinds T c.bases

  missing_tells : (key : List ℕ) → no_break key ≡ true → (lo hi : ℕ) → In (of key lo hi) job_kinds → Tells T (optional_at key lo hi)
  missing_tells = optional_tells job_kinds T c.bases

  holder_tells : (m k before : ℕ) → Tells T (holder m k before)
  unfolding holder bytes
  holder_tells m k before =
      let one = row_lined job_kinds T c.bases (bytes "holder=") refl 1 16 holder-kind in
      (checked_lined job_kinds T c.bases 12 _ (kind "holder=" 1 16) _ c.holders_say (checked_lined job_kinds T c.bases 12 (rising before m) (kind "holder=" 1 16) _ c.holders_say one)).tells

  cover_tells : (m k : ℕ) → Tells T (cover m k)
  unfolding cover inside holders bytes
  cover_tells m k =
      bind_tells T _ _ (missing_tells (bytes "removal=") refl 0 1000000 removal-kind)
      (λ r. present_tells T (inside m k) (λ v. bind_tells T _ _ (line_tells (bytes "inside=") refl 0 15 inside-kind)
      (λ n. bind_tells T _ _ (chain_tells T (holder m k) _ (holder_tells m k) n 0) (λ hs. return_tells T _))) r)

  single_tells : Tells T (unless_low None)
  unfolding unless_low bytes
  single_tells = bind_tells T _ _ (line_tells (bytes "price=") refl 1 1000000 price-kind) (λ p. return_tells T (single p))

  quote_tells : Tells T quote
  unfolding quote unless_low return bytes
  quote_tells s l = go (starts_with low s) refl
    where
      low : List ℕ
      low = bytes "low="

      first : (x : Parsed ℕ) → row_at low 1 1000000 s l ≡ x → starts_with low s ≡ true → Answer T s l (quote s l)
      first (good u r k) x t =
          let y = row_behind low refl 1 1000000 s r l k u x in
          let there = optional_there low 1 1000000 s l t ∙ bind_good (row_at low 1 1000000) _ x in
          rw (bind_good (optional_at low 1 1000000) unless_low there)
          (second_tells job_kinds T c.bases 13 (at_least u) (bytes "high=") refl 1 1000000 high-kind (λ h. return (pair u h)) (λ h. return_tells T (pair u h)) s r l k y.0 y.1
          (λ v rest w from to z. c.below s u v rest (row_sound low 1 1000000 s r l k u x ∙ ap (λ (e : List ℕ). line low u ++ e) w) (leb-false u v z) (row_gives low 1 1000000 s r l k u x).1 from))
      first (fault n k) x t =
          let there = optional_there low 1 1000000 s l t ∙ bind_fault (row_at low 1 1000000) _ x in
          rw (bind_fault (optional_at low 1 1000000) unless_low there) (subst (Answer T s l) x (line_tells low refl 1 1000000 low-kind s l))

      go : (t : Bool) → starts_with low s ≡ t → Answer T s l (quote s l)
      go true t = first (row_at low 1 1000000 s l) refl t
      go false t = rw (bind_good (optional_at low 1 1000000) unless_low (optional_missing low 1 1000000 s l t)) (single_tells s l)

  rule_tells : Tells T rule
  unfolding rule after_base bytes
  rule_tells =
      bind_tells T _ _ (missing_tells (bytes "base=") refl 1 1000000 base-kind)
      (λ v. present_tells T after_base (λ w. bind_tells T _ _ (line_tells (bytes "drop=") refl 0 1000000 drop-kind) (λ d. bind_tells T _ _ (line_tells (bytes "least=") refl 1 1000000 least-kind) (λ m. return_tells T _))) v)

  unless_ruled_tells : (n : ℕ) (o : Option price_rule.Rule) → Tells T (unless_ruled n o)
  unfolding unless_ruled
  unless_ruled_tells n None = bind_tells T _ _ (times_tells T n _ quote_tells) (λ qs. return_tells T (by_list qs))
  unless_ruled_tells n (Some r) = return_tells T (by_rule_lem r)

  prices_tells : (n : ℕ) → Tells T (prices n)
  unfolding prices
  prices_tells n = bind_tells T _ _ rule_tells (unless_ruled_tells n)

  after_left_tells : (m n k l r : ℕ) → Tells T (after_left m n k l r)
  unfolding after_left
  after_left_tells m n k l r = bind_tells T _ _ (cover_tells m k) (λ v. bind_tells T _ _ (prices_tells n) (λ ps. return_tells T _))

  part_tells : (m n k : ℕ) → Tells T (part m n k)
  unfolding part bytes
  part_tells m n k s l = go (row_at life 1 1000 s l) refl
    where
      life : List ℕ
      life = bytes "life="

      go : (x : Parsed ℕ) → row_at life 1 1000 s l ≡ x → Answer T s l (part m n k s l)
      go (good u r j) x =
          let y = row_behind life refl 1 1000 s r l j u x in
          rw (bind_good (row_at life 1 1000) _ x)
          (second_tells job_kinds T c.bases 5 (up_to u) (bytes "left=") refl 0 1000 left-kind (after_left m n k u) (after_left_tells m n k u) s r l j y.0 y.1
          (λ v rest w from to z. c.above s u v rest (row_sound life 1 1000 s r l j u x ∙ ap (λ (e : List ℕ). line life u ++ e) w) (leb-false v u z) to))
      go (fault i j) x = rw (bind_fault (row_at life 1 1000) _ x) (subst (Answer T s l) x (line_tells life refl 1 1000 life-kind s l))

-- what T says of steps that do not rise, or are past the horizon
record JobSays (T : ℕ → ℕ → List ℕ → Type 0) : Type 0 where
  of_parts : PartSays T
  idle_after : (s : List ℕ) (before step : ℕ) (rest : List ℕ) → s ≡ line (bytes "idle=") before ++ (line (bytes "idle=") step ++ rest) → step ≤ before → 1 ≤ step → T 4 1 s
  opening_after : (s : List ℕ) (before fee step : ℕ) (rest : List ℕ) → s ≡ line (bytes "opening=") before ++ (line (bytes "fee=") fee ++ (line (bytes "opening=") step ++ rest)) → step ≤ before → 1 ≤ step → T 4 2 s
  past : (s : List ℕ) (h down step : ℕ) (k : Kind) → In k rising_kinds → Begins (bytes "horizon=") h s → Begins k.key step (skipped down s) → h < step → step ≤ 365 → T 4 down s

module _ (T : ℕ → ℕ → List ℕ → Type 0) (c : JobSays T) where
  module _ (h : ℕ) where
    abbrev U : ℕ → ℕ → List ℕ → Type 0
    U = Local T h

    inner_says : PartSays U
    inner_says = local_says T h c.of_parts

    idle_step : (before : ℕ) (s : List ℕ) (l : ℕ) → Step T c.of_parts.bases h (bytes "idle=") 1 (λ (i : ℕ). i) before s l (idle h before s l)
    unfolding idle bytes
    idle_step before s l = go (checked 4 (rising before h) (row_at (bytes "idle=") 1 365) s l) (step_line T c.of_parts.bases h (bytes "idle=") refl idle-kind (inr (inl refl)) before s l)
      where
        go : (x : Parsed ℕ) → StepLine T c.of_parts.bases h (bytes "idle=") before s l x → Step T c.of_parts.bases h (bytes "idle=") 1 (λ (i : ℕ). i) before s l x
        go (good v r k) d = (d.0, d.1, λ w begins m p. c.idle_after s v w begins.0 (d.2 ∙ ap (λ (t : List ℕ). line (bytes "idle=") v ++ t) begins.1) m p)
        go (fault i k) d = d

    opening_step : (before : ℕ) (s : List ℕ) (l : ℕ) → Step T c.of_parts.bases h (bytes "opening=") 2 (λ (o : Opening). o.step) before s l (opening h before s l)
    unfolding opening return bytes
    opening_step before s l = go (p s l) refl (step_line T c.of_parts.bases h (bytes "opening=") refl opening-kind (inl refl) before s l)
      where
        p : Parser ℕ
        p = checked 4 (rising before h) (row_at (bytes "opening=") 1 365)

        fee : Parser ℕ
        fee = row_at (bytes "fee=") 0 1000000

        behind : (v : ℕ) (r : List ℕ) (k : ℕ) → (k ≡ l + 1) × (r ≡ skipped 1 s) × (s ≡ line (bytes "opening=") v ++ r) → (x : Parsed ℕ) → fee r k ≡ x
            → Step T c.of_parts.bases h (bytes "opening=") 2 (λ (o : Opening). o.step) before s l ((fee >>= λ f. return (record { step = v; fee = f })) r k)
        behind v r k d (good f t m) x =
            let y = row_behind (bytes "fee=") refl 0 1000000 r t k m f x in
            let paid = row_sound (bytes "fee=") 0 1000000 r t k m f x in
            rw (bind_good fee _ x) (
              omega (arith, d.0, y.0),
              y.1 ∙ ap (skipped 1) d.1 ∙ sym (skipped_both 1 1 s),
              λ w begins m p. c.opening_after s v f w begins.0 (d.2 ∙ ap (λ (e : List ℕ). line (bytes "opening=") v ++ e) (paid ∙ ap (λ (e : List ℕ). line (bytes "fee=") f ++ e) begins.1)) m p,
            )
        behind v r k d (fault i m) x =
            rw (bind_fault fee _ x) (inl (moved U {A = ℕ} s r l k 1 d.0 d.1 (fault i m) (subst (Answer U r k) x (line_tells U inner_says (bytes "fee=") refl 0 1000000 fee-kind r k))))

        go : (x : Parsed ℕ) → p s l ≡ x → StepLine T c.of_parts.bases h (bytes "opening=") before s l x → Step T c.of_parts.bases h (bytes "opening=") 2 (λ (o : Opening). o.step) before s l (opening h before s l)
        go (good v r k) x d = rw (bind_good p _ x) (behind v r k d (fee r k) refl)
        go (fault i k) x d = rw (bind_fault p _ x) d

    idles_tell : Tells U (idles h)
    unfolding idles idle_steps_lem bytes
    idles_tell =
        bind_tells U _ _ (missing_tells U inner_says (bytes "idles=") refl 1 365 idles-kind)
        (λ o. present_tells U (idle_steps_lem h) (λ n. steps_tell T c.of_parts.bases h (bytes "idle=") 1 (idle h) (λ (i : ℕ). i) idle_step n) o)

    body_tells : (is : Option (List ℕ)) (w : Option ℕ) (n : ℕ) → Tells U (body h is w n)
    unfolding body openings parts bytes
    body_tells is w n =
        bind_tells U _ _ (steps_tell T c.of_parts.bases h (bytes "opening=") 2 (opening h) (λ (o : Opening). o.step) opening_step n)
        (λ os. bind_tells U _ _ (line_tells U inner_says (bytes "parts=") refl 1 16 parts-kind)
        (λ m. bind_tells U _ _ (chain_tells U (part m n) following (part_tells U inner_says m n) m 1) (λ ps. return_tells U _)))

    -- what follows the horizon
    behind_tells : Tells U (idles h >>= rest h)
    unfolding rest bytes
    behind_tells =
        bind_tells U _ _ idles_tell
        (λ is. bind_tells U _ _ (missing_tells U inner_says (bytes "walk=") refl 0 4000000000 walk-kind)
        (λ w. bind_tells U _ _ (line_tells U inner_says (bytes "openings=") refl 0 64 openings-kind) (λ n. body_tells is w n)))

  job_tells : Tells T job_lines
  unfolding job_lines skipped bytes
  job_tells s l = go (row_at horizon 2 365 s l) refl
    where
      horizon : List ℕ
      horizon = bytes "horizon="

      lift : (h : ℕ) (r : List ℕ) (k : ℕ) → k ≡ l + 1 → r ≡ skipped 1 s → s ≡ line horizon h ++ r → (y : Parsed JobText) → Answer (Local T h) r k y → Answer T s l y
      lift h r k e q t (good a v m) d = moved T s r l k 1 e q (good a v m) d
      lift h r k e q t (fault i m) d = pick d.3
        where
          here : skipped d.1 (skipped d.0 r) ≡ skipped (1 + (d.0 + d.1)) s
          here = ap (λ (x : List ℕ). skipped d.1 (skipped d.0 x)) q ∙ sym (skipped_both d.0 d.1 (skipped 1 s)) ∙ sym (skipped_both 1 (d.0 + d.1) s)

          pick : Local T h i d.1 (skipped d.0 r) → Answer T {A = JobText} s l (fault i m)
          pick (inl x) = moved T {A = JobText} s r l k 1 e q (fault i m) (d.0, d.1, d.2, x)
          pick (inr x) = (0, 1 + (d.0 + d.1), omega (arith, e, d.2), subst (λ (n : ℕ). T n (1 + (d.0 + d.1)) s) (sym x.0) (c.past s h (1 + (d.0 + d.1)) x.1 x.2 x.3 (r, t) (subst (Begins x.2.key x.1) here x.4) x.5 x.6))

      go : (x : Parsed ℕ) → row_at horizon 2 365 s l ≡ x → Answer T s l (job_lines s l)
      go (good h r k) x =
          let y = row_behind horizon refl 2 365 s r l k h x in
          rw (bind_good (row_at horizon 2 365) _ x) (lift h r k y.0 y.1 (row_sound horizon 2 365 s r l k h x) ((idles h >>= rest h) r k) (behind_tells h r k))
      go (fault i k) x = rw (bind_fault (row_at horizon 2 365) _ x) (subst (Answer T s l) x (line_tells T c.of_parts horizon refl 2 365 horizon-kind s l))

-- what is said of a job's lines, where more kinds and rules may be
told_says : (kinds : List Kind) (rules : List Rule) → ((k : Kind) → In k job_kinds → In k kinds) → ((r : Rule) → In r job_rules → In r rules) → JobSays (Told kinds rules)
told_says kinds rules has has_rule = record {
  of_parts = record {
    bases = record { formed = λ s. form; ranged = λ s k is o. range k (has k is) o };
    holders_say = λ s i. ruled (record { number = 12; of = kind "holder=" 1 16 }) (has_rule (record { number = 12; of = kind "holder=" 1 16 }) (inl refl)) i;
    above = λ s life left rest e m n. above_life life left rest e m n;
    below = λ s low high rest e m n o. below_low low high rest e m n o;
  };
  idle_after = λ s before step rest e m n. idle_not_after before step rest e m n;
  opening_after = λ s before fee step rest e m n. opening_not_after before fee step rest e m n;
  past = λ s h down step k is horizon begins m n. past_horizon h down step k is horizon begins m n;
}

-- ---- a plan's lines, and a log's

cost-kind : In (kind "cost=" 0 4000000000) plan_kinds
cost-kind = inl refl

stops-kind : In (kind "stops=" 0 64) plan_kinds
stops-kind = inr (inl refl)

stop-kind : In (kind "stop=" 1 365) plan_kinds
stop-kind = inr (inr (inl refl))

count-kind : In (kind "count=" 0 16) plan_kinds
count-kind = inr (inr (inr (inl refl)))

part-kind : In (kind "part=" 1 16) plan_kinds
part-kind = inr (inr (inr (inr (inl refl))))

module _ (kinds : List Kind) (has : (k : Kind) → In k plan_kinds → In k kinds) where
  abbrev P : ℕ → ℕ → List ℕ → Type 0
  P = Told kinds plan_rules

  plan_bases : Bases kinds P
  plan_bases = record { formed = λ s. form; ranged = λ s k is o. range k is o }

  row_of : (key : List ℕ) → no_break key ≡ true → (lo hi : ℕ) → In (of key lo hi) plan_kinds → Tells P (row_at key lo hi)
  row_of key n lo hi is = row_tells kinds P plan_bases key n lo hi (has (of key lo hi) is)

  part_told : (m before : ℕ) → Tells P (plan.part m before)
  unfolding plan.part bytes
  part_told m before =
      (checked_lined kinds P plan_bases 9 (rising before m) (kind "part=" 1 16) _ (λ s i. ruled (record { number = 9; of = kind "part=" 1 16 }) (inr (inl refl)) i) (row_lined kinds P plan_bases (bytes "part=") refl 1 16 (has (kind "part=" 1 16) part-kind))).tells

  stop_told : (ok : ℕ → Bool) → Tells P (checked 9 ok (row "stop=" 1 365))
  unfolding bytes
  stop_told ok =
      (checked_lined kinds P plan_bases 9 ok (kind "stop=" 1 365) _ (λ s i. ruled (record { number = 9; of = kind "stop=" 1 365 }) (inl refl) i) (row_lined kinds P plan_bases (bytes "stop=") refl 1 365 (has (kind "stop=" 1 365) stop-kind))).tells

  visit_tells : (job : Job) (before : ℕ) → Tells P (visit job before)
  unfolding visit plan.parts bytes
  visit_tells job before =
      bind_tells P _ _ (stop_told _)
      (λ step. bind_tells P _ _ (row_of (bytes "count=") refl 0 16 count-kind)
      (λ n. bind_tells P _ _ (chain_tells P (plan.part (length job.parts)) _ (part_told (length job.parts)) n 0) (λ ks. return_tells P _)))

  plan_tells : (job : Job) → Tells P (plan_lines job)
  unfolding plan_lines visits bytes
  plan_tells job =
      bind_tells P _ _ (row_of (bytes "cost=") refl 0 4000000000 cost-kind)
      (λ cost. bind_tells P _ _ (row_of (bytes "stops=") refl 0 64 stops-kind)
      (λ n. bind_tells P _ _ (chain_tells P (visit job) _ (visit_tells job) n 0) (λ vs. return_tells P _)))

log_tells : (job : Job) → Tells (Told (log_kinds job) plan_rules) (log_lines job)
unfolding log_lines bytes
log_tells job =
    let L = Told (log_kinds job) plan_rules in
    let plain = λ (k : Kind) (h : In k plan_kinds). inr h in
    bind_tells L _ _ (row_tells (log_kinds job) L (plan_bases (log_kinds job) plain) (bytes "step=") refl 1 (job.horizon - 2) (inl refl))
    (λ step. bind_tells L _ _ (plan_tells (log_kinds job) plain (past_job_lem job step)) (λ stated. return_tells L _))

-- ---- a hall's lines

abbrev H : ℕ → ℕ → List ℕ → Type 0
H = Told hall_kinds hall_rules

hall_says : JobSays H
hall_says = told_says hall_kinds hall_rules (λ k h. inr (inr h)) (λ r h. inr h)

hall_bases : Bases hall_kinds H
hall_bases = record { formed = λ s. form; ranged = λ s k is o. range k is o }

next_tells : (before : List Job) → Tells H (job_behind before)
unfolding job_behind job_lines skipped bytes
next_tells before s l = go (job_lines s l) refl (job_tells H hall_says s l)
  where
    ok : JobText → Bool
    ok = λ t. joins before (meant_job t)

    go : (x : Parsed JobText) → job_lines s l ≡ x → Answer H s l x → Answer H s l (checked 14 ok job_lines s l)
    go (good t r k) x a = pick (ok t) refl
      where
        first : Inside (kind "horizon=" 2 365) s
        first =
            let h = bind_inv (row_at (bytes "horizon=") 2 365) _ s r l k t x in
            let g = row_gives (bytes "horizon=") 2 365 s h.mid l h.at h.a h.first in
            (h.a, (h.mid, row_sound (bytes "horizon=") 2 365 s h.mid l h.at h.a h.first), g.0, g.1)

        pick : (d : Bool) → ok t ≡ d → Answer H s l (checked 14 ok job_lines s l)
        pick true z = rw (checked-good 14 ok job_lines s l x z) a
        pick false z = rw (checked_not 14 ok job_lines s l x z) (0, 0, omega arith, ruled (record { number = 14; of = kind "horizon=" 2 365 }) (inl refl) first)
    go (fault n k) x a = rw (checked-fault 14 ok job_lines s l x) a

jobs_tell : (n : ℕ) (before : List Job) → Tells H (jobs_behind n before)
unfolding jobs_behind
jobs_tell zero before = return_tells H []
jobs_tell (suc n) before = bind_tells H _ _ (next_tells before) (λ t. bind_tells H _ _ (jobs_tell n (before ++ (meant_job t ∷ []))) (λ ts. return_tells H _))

hall_tells : Tells H hall_lines_lem
unfolding hall_lines_lem bytes
hall_tells =
    bind_tells H _ _ (row_tells hall_kinds H hall_bases (bytes "machines=") refl 1 4 (inl refl))
    (λ n. bind_tells H _ _ (row_tells hall_kinds H hall_bases (bytes "call=") refl 0 1000000 (inr (inl refl)))
    (λ call. bind_tells H _ _ (jobs_tell n []) (λ ts. return_tells H _)))

-- ---- whole texts

-- no line's fault is 1
line_not_1 : (kinds : List Kind) (rules : List Rule) → ((r : Rule) → In r rules → r.number ≡ 1 → ⊥) → (n d : ℕ) (s : List ℕ) → Told kinds rules n d s → n ≡ 1 → ⊥
line_not_1 kinds rules h n d s form e = omega (arith, e)
line_not_1 kinds rules h n d s (range k is v) e = omega (arith, e)
line_not_1 kinds rules h n d s (ruled r is v) e = h r is e
line_not_1 kinds rules h n d s (opening_not_after before fee step rest t m o) e = omega (arith, e)
line_not_1 kinds rules h n d s (idle_not_after before step rest t m o) e = omega (arith, e)
line_not_1 kinds rules h n d s (past_horizon horizon down step k is t u m o) e = omega (arith, e)
line_not_1 kinds rules h n d s (above_life life left rest t o m) e = omega (arith, e)
line_not_1 kinds rules h n d s (below_low low high rest t o m w) e = omega (arith, e)

job_rules_not_1 : (r : Rule) → In r job_rules → r.number ≡ 1 → ⊥
job_rules_not_1 r (inl h) e = omega (arith, ap (λ (x : Rule). x.number) h, e)
job_rules_not_1 r (inr h) e = h

plan_rules_not_1 : (r : Rule) → In r plan_rules → r.number ≡ 1 → ⊥
plan_rules_not_1 r (inl h) e = omega (arith, ap (λ (x : Rule). x.number) h, e)
plan_rules_not_1 r (inr (inl h)) e = omega (arith, ap (λ (x : Rule). x.number) h, e)
plan_rules_not_1 r (inr (inr h)) e = h

hall_rules_not_1 : (r : Rule) → In r hall_rules → r.number ≡ 1 → ⊥
hall_rules_not_1 r (inl h) e = omega (arith, ap (λ (x : Rule). x.number) h, e)
hall_rules_not_1 r (inr h) e = job_rules_not_1 r h e

module _ (kinds : List Kind) (rules : List Rule) {A : Type 0} (most : ℕ) (p : Parser A) (h : Tells (Told kinds rules) p) where
  whole_tells : Tells (Told kinds rules) (whole p)
  unfolding whole
  whole_tells = bind_tells (Told kinds rules) p _ h (λ a. bind_tells (Told kinds rules) ends _ (end_tells kinds (Told kinds rules) (record { formed = λ s. form; ranged = λ s k is o. range k is o })) (λ _. return_tells (Told kinds rules) a))

  -- what stands on the line at fault
  pub text_at_fault : (s : List ℕ) (n l : ℕ) → read_text most p s ≡ refused n l → length s ≤ most → AtFault kinds rules s n l
  text_at_fault s n l e few = go (whole p s 1) refl (text_fits most p s few ∙ e)
    where
      go : (x : Parsed A) → whole p s 1 ≡ x → finish x ≡ refused n l → AtFault kinds rules s n l
      go (good a r k) x f = not_both refl f
      go (fault i k) x f =
          let y = one_fault refl f in
          let t = subst (Answer (Told kinds rules) s 1) x (whole_tells s 1) in
          record { above = t.0; down = t.1; here = omega (arith, t.2, y.1); told = subst (λ (j : ℕ). Told kinds rules j t.1 (skipped t.0 s)) y.0 t.3 }

  -- 1 is said of a text that is too long, and of no other, with line 0
  pub text_long_is : ((r : Rule) → In r rules → r.number ≡ 1 → ⊥) → (s : List ℕ) (l : ℕ) → (read_text most p s ≡ refused 1 l) ↔ ((most < length s) × (l ≡ 0))
  text_long_is not s l = (
    (λ e. go e (dec_lt most (length s))),
    λ x. sym (text_long most p s x.0) ∙ ap (refused 1) (sym x.1),
  )
    where
      go : read_text most p s ≡ refused 1 l → Dec (most < length s) → (most < length s) × (l ≡ 0)
      go e (yes x) = (x, (one_fault e (sym (text_long most p s x))).1)
      go e (no x) = let f = text_at_fault s 1 l e (omega (arith, x)) in absurd (line_not_1 kinds rules not 1 f.down (skipped f.above s) f.told refl)

-- ---- what stands on the line at fault

job_told : Tells (Told job_kinds job_rules) job_lines
job_told = job_tells (Told job_kinds job_rules) (told_says job_kinds job_rules (λ k h. h) (λ r h. h))

-- a job text
pub job_at_fault : (text : List ℕ) (number line : ℕ) → read_job_lem text ≡ refused number line → length text ≤ max_bytes → AtFault job_kinds job_rules text number line
job_at_fault text number line e few = go (read_job_text text) refl
  where
    go : (x : Outcome JobText) → read_job_text text ≡ x → AtFault job_kinds job_rules text number line
    go (accepted t) f = not_both (ap meaning f) e
    go (refused i j) f = let y = one_fault (ap meaning f) e in
        text_at_fault job_kinds job_rules max_bytes job_lines job_told text number line (f ∙ ap₂ refused y.0 y.1) few

-- a plan text; an empty one has no fault
pub plan_at_fault : (job : Job) (text : List ℕ) (number line : ℕ) → read_plan_lem job text ≡ refused number line → length text ≤ plan.max_bytes → AtFault plan_kinds plan_rules text number line
unfolding read_plan_lem
plan_at_fault job [] number line e few = not_both refl e
plan_at_fault job (b ∷ s) number line e few = text_at_fault plan_kinds plan_rules plan.max_bytes (plan_lines job) (plan_tells plan_kinds (λ k h. h) job) (b ∷ s) number line e few

-- a log
pub log_at_fault : (job : Job) (text : List ℕ) (number line : ℕ) → read_log job text ≡ refused number line → length text ≤ plan.max_bytes → AtFault (log_kinds job) plan_rules text number line
log_at_fault job text number line e few = text_at_fault (log_kinds job) plan_rules plan.max_bytes (log_lines job) (log_tells job) text number line e few

-- a hall text
pub hall_at_fault : (text : List ℕ) (number line : ℕ) → read_hall_text text ≡ refused number line → length text ≤ most_hall_bytes → AtFault hall_kinds hall_rules text number line
hall_at_fault text number line e few = text_at_fault hall_kinds hall_rules most_hall_bytes hall_lines_lem hall_tells text number line e few

-- ---- texts that are too long

-- a job text
pub job_long : (text : List ℕ) (line : ℕ) → (read_job_lem text ≡ refused 1 line) ↔ ((max_bytes < length text) × (line ≡ 0))
job_long text line = ((λ e. h.0 (plainly (read_job_text text) refl e)), λ x. ap meaning (h.1 x))
  where
    h : (read_job_text text ≡ refused 1 line) ↔ ((max_bytes < length text) × (line ≡ 0))
    h = text_long_is job_kinds job_rules max_bytes job_lines job_told job_rules_not_1 text line

    plainly : (x : Outcome JobText) → read_job_text text ≡ x → read_job_lem text ≡ refused 1 line → read_job_text text ≡ refused 1 line
    plainly (accepted t) f e = not_both (ap meaning f) e
    plainly (refused i j) f e = let y = one_fault (ap meaning f) e in f ∙ ap₂ refused y.0 y.1

-- a plan text
pub plan_long : (job : Job) (text : List ℕ) (line : ℕ) → (read_plan_lem job text ≡ refused 1 line) ↔ ((plan.max_bytes < length text) × (line ≡ 0))
unfolding read_plan_lem
plan_long job [] line = ((λ e. not_both refl e), λ x. absurd (omega (arith, x.0)))
plan_long job (b ∷ s) line = text_long_is plan_kinds plan_rules plan.max_bytes (plan_lines job) (plan_tells plan_kinds (λ k h. h) job) plan_rules_not_1 (b ∷ s) line

-- a log
pub log_long : (job : Job) (text : List ℕ) (line : ℕ) → (read_log job text ≡ refused 1 line) ↔ ((plan.max_bytes < length text) × (line ≡ 0))
log_long job text line = text_long_is (log_kinds job) plan_rules plan.max_bytes (log_lines job) (log_tells job) plan_rules_not_1 text line

-- a hall text
pub hall_long : (text : List ℕ) (line : ℕ) → (read_hall_text text ≡ refused 1 line) ↔ ((most_hall_bytes < length text) × (line ≡ 0))
hall_long text line = text_long_is hall_kinds hall_rules most_hall_bytes hall_lines_lem hall_tells hall_rules_not_1 text line
