-- A text that ends early has a fault 2 on the line that is missing or cut (`job_early`, `plan_early`, `log_early`). By the parsers' forms: of a text that is accepted, what is cut behind some byte is read as far as it goes, or halts there.
use Rattle.std.specs.Prelude.{Option, Some, None}
use Prim.Native.Nat.{ℕ, zero, suc, ◌+◌, ◌-◌, ◌^◌, ◌≤◌, ◌<◌}
use mathlib.Core.Path.{◌≡◌, refl, sym, ap, ap₂, subst, ◌∙◌}
use mathlib.Core.Bool.{Bool, true, false, ◌&&◌, cond, not, and-eq-true_iff, false≢true, true≢false}
use mathlib.Core.List.{List, [], ◌∷◌, ◌++◌, append_assoc}
use mathlib.Core.Logic.{◌⊎◌, inl, inr}
use native.Mathlib.Omega.{arith}
use native.Mathlib.Decide.{dec_lt}
use lib.Dec.{eqb}
use lib.ListN.{length, length-append, get_or, drop}
use borrow.Author.Tests.{eqb-true}
use Rattle.lines.specs.Line.{starts_with, read_line_lem}
use Rattle.lines.specs.Text.{bytes, decimal, line}
use Rattle.lines.specs.Parser.{Parsed, good, fault, Parser, ◌>>=◌, return, in_range, read_field_lem, taken, row_at, optional_at, if_present, checked, chain, times, end as ends, rising, accepted, refused, finish, whole, read_text}
use Rattle.lines.proofs.Parsing.{bind_good, bind_fault, checked-good, checked_not, checked-fault, optional_there, optional_missing, text_long, text_fits}
use Rattle.lines.proofs.Sound.{row_sound, row_gives}
use Rattle.lines.proofs.Written.{Stands, line_written}
use Rattle.lines.proofs.Complete.{row_complete}
use Rattle.lines.proofs.Outcomes.{not_both}
use Rattle.model.specs.Model.{Job}
use Rattle.covers.specs.Grammar.{holder, holders, inside, cover}
use Rattle.quotes.specs.Grammar.{single, pair, unless_low, quote}
use Rattle.price_rules.specs.Rule.{Rule}
use Rattle.price_rules.specs.Grammar.{by_list, by_rule_lem, after_base, rule, unless_ruled, prices}
use Rattle.part_lines.specs.Grammar.{after_left, part, following}
use Rattle.job_grammar.specs.Grammar.{JobText, idle, idle_steps_lem, idles, opening, openings, parts, body, rest, job_lines, max_bytes, read_job_text, meaning, read_job_lem}
use Rattle.plan_grammar.specs.Grammar as plan
use Rattle.plan_grammar.specs.Grammar.{Stated, visit, visits, plan_lines, nothing, read_plan_lem}
use Rattle.log_grammar.specs.Grammar.{LogText, past_job_lem, log_lines, read_log}
use Rattle.delivered.specs.FirstLines.{breaks}
use Rattle.delivered.proofs.FirstLines.{no_break, InSpan, breaks_both, key_unbroken, decimal_unbroken, line_ends, row_one, row_spans, checked_one, checked_spans, Linewise, one_linewise, return_linewise, bind_linewise, optional_linewise, end_linewise, row_counts, checked_counts}
use Rattle.delivered.proofs.FirstFaults.{any}

-- ---- where a text is cut

-- a text that is cut: behind what it begins with, or within that
split : (front back w r : List ℕ) → front ++ back ≡ w ++ r → ((s : List ℕ) × (front ≡ w ++ s) × (r ≡ s ++ back)) ⊎ ((z : ℕ) × (zs : List ℕ) × (w ≡ front ++ (z ∷ zs)))
split front back [] r e = inl (front, refl, sym e)
split [] back (z ∷ zs) r e = inr (z, zs, refl)
split (f ∷ fs) back (z ∷ zs) r e = go (split fs back zs r (ap (λ (l : List ℕ). drop 1 l) e))
  where
    same : f ≡ z
    same = ap (λ (l : List ℕ). get_or l 0 0) e

    go : ((s : List ℕ) × (fs ≡ zs ++ s) × (r ≡ s ++ back)) ⊎ ((y : ℕ) × (ys : List ℕ) × (zs ≡ fs ++ (y ∷ ys))) → ((s : List ℕ) × (f ∷ fs ≡ (z ∷ zs) ++ s) × (r ≡ s ++ back)) ⊎ ((y : ℕ) × (ys : List ℕ) × (z ∷ zs ≡ (f ∷ fs) ++ (y ∷ ys)))
    go (inl h) = inl (h.0, ap₂ (λ (x : ℕ) (l : List ℕ). x ∷ l) same h.1, h.2)
    go (inr h) = inr (h.0, h.1, ap₂ (λ (x : ℕ) (l : List ℕ). x ∷ l) (sym same) h.2)

-- what is cut off before the byte 10 that ends a line has no breaks
cut : (u front : List ℕ) (z : ℕ) (zs : List ℕ) → breaks u ≡ 0 → u ++ (10 ∷ []) ≡ front ++ (z ∷ zs) → breaks front ≡ 0
unfolding breaks
cut u [] z zs b e = refl
cut [] (f ∷ fs) z zs b e = absurd (omega (arith, ap length e, length-append (f ∷ fs) (z ∷ zs)))
cut (c ∷ us) (f ∷ fs) z zs b e =
    let same : c ≡ f = ap (λ (l : List ℕ). get_or l 0 0) e in
    let counts : ℕ → ℕ = λ x. cond (eqb x 10) 1 0 in
    omega (arith, b, cut us fs z zs (omega (arith, b)) (ap (λ (l : List ℕ). drop 1 l) e), ap counts same)

-- a text that begins with a key begins with it however it goes on
starts_front : (key front back : List ℕ) → starts_with key front ≡ true → starts_with key (front ++ back) ≡ true
unfolding starts_with
starts_front [] front back e = refl
starts_front (k ∷ ks) [] back e = absurd (false≢true e)
starts_front (k ∷ ks) (f ∷ fs) back e =
    let w = (and-eq-true_iff (eqb k f) (starts_with ks fs)).0 e in
    (and-eq-true_iff (eqb k f) (starts_with ks (fs ++ back))).1 (w.0, starts_front ks fs back w.1)

-- what is cut off within a key has no breaks
key_cut : (key front back : List ℕ) → no_break key ≡ true → starts_with key (front ++ back) ≡ true → starts_with key front ≡ false → breaks front ≡ 0
unfolding starts_with breaks
key_cut [] front back n e f = absurd (true≢false f)
key_cut (k ∷ ks) [] back n e f = refl
key_cut (k ∷ ks) (c ∷ cs) back n e f = go (eqb k 10) refl n (λ m x. key_cut ks cs back m w.1 x)
  where
    w : (eqb k c ≡ true) × (starts_with ks (cs ++ back) ≡ true)
    w = (and-eq-true_iff (eqb k c) (starts_with ks (cs ++ back))).0 e

    counts : ℕ → ℕ
    counts y = cond (eqb y 10) 1 0

    go : (b : Bool) → eqb k 10 ≡ b → (not b && no_break ks) ≡ true → (no_break ks ≡ true → starts_with ks cs ≡ false → breaks cs ≡ 0) → cond (eqb c 10) 1 0 + breaks cs ≡ 0
    go true x m later = absurd (false≢true m)
    go false x m later =
        let same = ap counts (eqb-true k c w.0) in
        let none : counts k ≡ 0 = rw x refl in
        omega (arith, same, none, later m (rw w.0 at f))

-- ---- parsers

-- at the end of a text, in a line that no byte 10 ends: nothing is read, or the fault is 2 there
abbrev OnLine : {A : Type 0} → ℕ → List ℕ → Parsed A → Type 0
OnLine l x (good a r k) = (k ≡ l) × (r ≡ x)
OnLine l x (fault n k) = (n ≡ 2) × (k ≡ l)

-- an answer on the last line, m
abbrev Halted : {A : Type 0} → ℕ → Parsed A → Type 0
Halted m (good a r k) = (k ≡ m) × (breaks r ≡ 0)
Halted m (fault n k) = (n ≡ 2) × (k ≡ m)

-- the answer y to a front, where the whole, which has this behind it, is answered with a value: the same value, with the same left before what is behind; or it halts on the front's last line
abbrev Shorter : {A : Type 0} → List ℕ → ℕ → Parsed A → Parsed A → Type 0
Shorter back m (good a r k) y = ((s : List ℕ) × (r ≡ s ++ back) × (y ≡ good a s k)) ⊎ Halted m y
Shorter back m (fault n k) y = Unit {0}

-- a parser of which that is known
record Ending {A : Type 0} (p : Parser A) : Type 0 where
  lines : Linewise any p
  stuck : (x : List ℕ) (l : ℕ) → breaks x ≡ 0 → OnLine l x (p x l)
  shorter : (front back : List ℕ) (l : ℕ) → Shorter back (l + breaks front) (p (front ++ back) l) (p front l)

return_ending : {A : Type 0} (a : A) → Ending (return a)
unfolding return
return_ending a = record { lines = return_linewise any a; stuck = λ x l b. (refl, refl); shorter = λ front back l. inl (front, refl, refl) }

-- an answer that halts, whatever the whole's is
halts : {A : Type 0} (back : List ℕ) (m : ℕ) (z y : Parsed A) → Halted m y → Shorter back m z y
halts back m (good a r k) y h = inr h
halts back m (fault n k) y h = tt

bind_ending : {A B : Type 0} (p : Parser A) (f : A → Parser B) → Ending p → ((a : A) → Ending (f a)) → Ending (p >>= f)
bind_ending {A} {B} p f first next = record {
  lines = bind_linewise any p f first.lines (λ a. (next a).lines);
  stuck = λ x l b. on x l b (p x l) refl (first.stuck x l b);
  shorter = λ front back l. go front back l (p (front ++ back) l) refl (p front l) refl (first.shorter front back l);
}
  where
    onto : (l k : ℕ) (x r : List ℕ) → k ≡ l → r ≡ x → (y : Parsed B) → OnLine k r y → OnLine l x y
    onto l k x r e q (good b t j) h = (h.0 ∙ e, h.1 ∙ q)
    onto l k x r e q (fault n j) h = (h.0, h.1 ∙ e)

    on : (x : List ℕ) (l : ℕ) → breaks x ≡ 0 → (y : Parsed A) → p x l ≡ y → OnLine l x y → OnLine l x ((p >>= f) x l)
    on x l b (good a r k) e h = rw (bind_good p f e) (onto l k x r h.0 h.1 (f a r k) ((next a).stuck r k (ap breaks h.1 ∙ b)))
    on x l b (fault n k) e h = rw (bind_fault p f e) h

    still : (m k : ℕ) (r : List ℕ) → k ≡ m → breaks r ≡ 0 → (y : Parsed B) → OnLine k r y → Halted m y
    still m k r e q (good b t j) h = (h.0 ∙ e, ap breaks h.1 ∙ q)
    still m k r e q (fault n j) h = (h.0, h.1 ∙ e)

    go : (front back : List ℕ) (l : ℕ) (x : Parsed A) → p (front ++ back) l ≡ x → (y : Parsed A) → p front l ≡ y → Shorter back (l + breaks front) x y → Shorter back (l + breaks front) ((p >>= f) (front ++ back) l) ((p >>= f) front l)
    go front back l (fault n k) x y e h = rw (bind_fault p f x) tt
    go front back l (good a r k) x y e (inl h) =
        let z = e ∙ h.2 in
        let m : k + breaks h.0 ≡ l + breaks front = subst (InSpan (l + breaks front)) z (first.lines.spans front l) in
        rw (bind_good p f x, bind_good p f z)
        (subst (λ (t : List ℕ). Shorter back (l + breaks front) (f a t k) (f a h.0 k)) (sym h.1) (subst (λ (i : ℕ). Shorter back i (f a (h.0 ++ back) k) (f a h.0 k)) m ((next a).shorter h.0 back k)))
    go front back l (good a r k) x (good b t j) e (inr h) =
        rw (bind_good p f e) (halts back (l + breaks front) ((p >>= f) (front ++ back) l) (f b t j) (still (l + breaks front) j t h.0 h.1 (f b t j) ((next b).stuck t j h.1)))
    go front back l (good a r k) x (fault n j) e (inr h) = rw (bind_fault p f e) (halts back (l + breaks front) ((p >>= f) (front ++ back) l) (fault n j) h)

present_ending : {A B : Type 0} (f : A → Parser B) → ((a : A) → Ending (f a)) → (o : Option A) → Ending (if_present f o)
unfolding if_present
present_ending f h None = return_ending None
present_ending f h (Some a) = bind_ending (f a) _ (h a) (λ b. return_ending (Some b))

chain_ending : {A S : Type 0} (p : S → Parser A) (next : S → A → S) → ((k : S) → Ending (p k)) → (n : ℕ) (before : S) → Ending (chain p next n before)
unfolding chain
chain_ending p next h zero before = return_ending []
chain_ending p next h (suc n) before =
    bind_ending (p before) _ (h before) (λ a. bind_ending (chain p next n (next before a)) _ (chain_ending p next h n (next before a)) (λ rest. return_ending (a ∷ rest)))

times_ending : {A : Type 0} (n : ℕ) (p : Parser A) → Ending p → Ending (times n p)
unfolding times
times_ending n p h = chain_ending {S = ℕ} (λ _. p) (λ _ _. 0) (λ _. h) n 0

end_ending : Ending ends
unfolding ends
end_ending = record { lines = end_linewise any; stuck = on; shorter = go }
  where
    on : (x : List ℕ) (l : ℕ) → breaks x ≡ 0 → OnLine l x (ends x l)
    on [] l b = (refl, refl)
    on (c ∷ x) l b = (refl, refl)

    go : (front back : List ℕ) (l : ℕ) → Shorter back (l + breaks front) (ends (front ++ back) l) (ends front l)
    go [] [] l = inl ([], refl, refl)
    go [] (c ∷ back) l = tt
    go (c ∷ front) back l = tt

-- ---- a line

-- a parser of one line: at the end of a text, in a line that is cut, its fault is 2
record OneKey (p : Parser ℕ) : Type 0 where
  lines : Linewise any p
  stuck : (x : List ℕ) (l : ℕ) → breaks x ≡ 0 → p x l ≡ fault 2 l
  cuts : (front back r : List ℕ) (l k v : ℕ) → p (front ++ back) l ≡ good v r k → ((s : List ℕ) × (r ≡ s ++ back) × (p front l ≡ good v s k)) ⊎ (breaks front ≡ 0)

key_ending : (p : Parser ℕ) → OneKey p → Ending p
key_ending p h = record { lines = h.lines; stuck = λ x l b. subst (OnLine l x) (sym (h.stuck x l b)) (refl, refl); shorter = λ front back l. go front back l (p (front ++ back) l) refl }
  where
    go : (front back : List ℕ) (l : ℕ) (x : Parsed ℕ) → p (front ++ back) l ≡ x → Shorter back (l + breaks front) x (p front l)
    go front back l (fault n k) e = tt
    go front back l (good v r k) e = pick (h.cuts front back r l k v e)
      where
        pick : ((s : List ℕ) × (r ≡ s ++ back) × (p front l ≡ good v s k)) ⊎ (breaks front ≡ 0) → ((s : List ℕ) × (r ≡ s ++ back) × (p front l ≡ good v s k)) ⊎ Halted (l + breaks front) (p front l)
        pick (inl c) = inl c
        pick (inr b) = inr (subst (Halted (l + breaks front)) (sym (h.stuck front l b)) (refl, omega (arith, b)))

row_stuck : (key : List ℕ) → no_break key ≡ true → (lo hi : ℕ) (x : List ℕ) (l : ℕ) → breaks x ≡ 0 → row_at key lo hi x l ≡ fault 2 l
unfolding row_at read_field_lem taken in_range
row_stuck key n lo hi x l b = go (read_line_lem key x) (line_written key x)
  where
    go : (o : Option (ℕ × ℕ)) → Stands key x o → taken x l (in_range lo hi o) ≡ fault 2 l
    go (Some (v, m)) w = absurd (omega (arith, b, ap breaks w, breaks_both (line key v) (drop m x), line_ends key n v))
    go None w = refl

-- the next line is one further on
row_next : (key : List ℕ) → no_break key ≡ true → (lo hi : ℕ) (s r : List ℕ) (l k v : ℕ) → row_at key lo hi s l ≡ good v r k → k ≡ l + 1
row_next key n lo hi s r l k v e =
    let h : k + breaks r ≡ l + breaks s = subst (InSpan (l + breaks s)) e (row_spans key n lo hi s l) in
    omega (arith, h, ap breaks (row_sound key lo hi s r l k v e), breaks_both (line key v) r, line_ends key n v)

row_key : (key : List ℕ) → no_break key ≡ true → (lo hi : ℕ) → hi < 10 ^ 10 → OneKey (row_at key lo hi)
unfolding line
row_key key n lo hi high = record { lines = one_linewise any (row_at key lo hi) (row_one key n lo hi) (row_spans key n lo hi) (row_counts key lo hi); stuck = row_stuck key n lo hi; cuts = cuts }
  where
    cuts : (front back r : List ℕ) (l k v : ℕ) → row_at key lo hi (front ++ back) l ≡ good v r k → ((s : List ℕ) × (r ≡ s ++ back) × (row_at key lo hi front l ≡ good v s k)) ⊎ (breaks front ≡ 0)
    cuts front back r l k v e = go (split front back (line key v) r (row_sound key lo hi (front ++ back) r l k v e))
      where
        go : ((s : List ℕ) × (front ≡ line key v ++ s) × (r ≡ s ++ back)) ⊎ ((z : ℕ) × (zs : List ℕ) × (line key v ≡ front ++ (z ∷ zs))) → ((s : List ℕ) × (r ≡ s ++ back) × (row_at key lo hi front l ≡ good v s k)) ⊎ (breaks front ≡ 0)
        go (inl h) =
            let c = row_complete key lo hi high v (row_gives key lo hi (front ++ back) r l k v e) h.0 l in
            let j : c.0 ≡ k = omega (arith, row_next key n lo hi (front ++ back) r l k v e, row_next key n lo hi (line key v ++ h.0) h.0 l c.0 v c.1) in
            inl (h.0, h.2, ap (λ (s : List ℕ). row_at key lo hi s l) h.1 ∙ c.1 ∙ ap (λ (i : ℕ). good v h.0 i) j)
        go (inr h) = inr (cut (key ++ decimal v) front h.0 h.1 (omega (arith, breaks_both key (decimal v), key_unbroken key n, decimal_unbroken 10 v)) (append_assoc key (decimal v) (10 ∷ []) ∙ h.2))

checked_key : (number : ℕ) (ok : ℕ → Bool) (p : Parser ℕ) → Linewise any (checked number ok p) → OneKey p → OneKey (checked number ok p)
checked_key number ok p lined h = record { lines = lined; stuck = λ x l b. checked-fault number ok p x l (h.stuck x l b); cuts = λ front back r l k v e. go front back r l k v (p (front ++ back) l) refl e }
  where
    go : (front back r : List ℕ) (l k v : ℕ) (x : Parsed ℕ) → p (front ++ back) l ≡ x → checked number ok p (front ++ back) l ≡ good v r k → ((s : List ℕ) × (r ≡ s ++ back) × (checked number ok p front l ≡ good v s k)) ⊎ (breaks front ≡ 0)
    go front back r l k v (fault n j) x e = let y : ◌≡◌ {A = Parsed ℕ} (fault n j) (good v r k) = sym (checked-fault number ok p (front ++ back) l x) ∙ e in let z : ◌≡◌ {A = ℕ} 0 1 = cc in absurd (omega (arith, z))
    go front back r l k v (good w t j) x e = pick (ok w) refl
      where
        pick : (b : Bool) → ok w ≡ b → ((s : List ℕ) × (r ≡ s ++ back) × (checked number ok p front l ≡ good v s k)) ⊎ (breaks front ≡ 0)
        pick false z = let y : ◌≡◌ {A = Parsed ℕ} (fault number l) (good v r k) = sym (checked_not number ok p (front ++ back) l x z) ∙ e in let q : ◌≡◌ {A = ℕ} 0 1 = cc in absurd (omega (arith, q))
        pick true z = same (h.cuts front back r l k v (x ∙ y))
          where
            y : ◌≡◌ {A = Parsed ℕ} (good w t j) (good v r k)
            y = sym (checked-good number ok p (front ++ back) l x z) ∙ e

            value : w ≡ v
            value = cc y

            same : ((s : List ℕ) × (r ≡ s ++ back) × (p front l ≡ good v s k)) ⊎ (breaks front ≡ 0) → ((s : List ℕ) × (r ≡ s ++ back) × (checked number ok p front l ≡ good v s k)) ⊎ (breaks front ≡ 0)
            same (inl c) = inl (c.0, c.1, checked-good number ok p front l c.2 (ap ok (sym value) ∙ z))
            same (inr c) = inr c

optional_ending : (key : List ℕ) → no_break key ≡ true → (lo hi : ℕ) → hi < 10 ^ 10 → Ending (optional_at key lo hi)
optional_ending key n lo hi high = record { lines = optional_linewise any key n lo hi; stuck = λ x l b. on x l b (starts_with key x) refl; shorter = λ front back l. go front back l (starts_with key (front ++ back)) refl (starts_with key front) refl }
  where
    there : Ending (row_at key lo hi >>= λ v. return (Some v))
    there = bind_ending (row_at key lo hi) _ (key_ending (row_at key lo hi) (row_key key n lo hi high)) (λ v. return_ending (Some v))

    on : (x : List ℕ) (l : ℕ) → breaks x ≡ 0 → (b : Bool) → starts_with key x ≡ b → OnLine l x (optional_at key lo hi x l)
    on x l b true e = rw (optional_there key lo hi x l e) (there.stuck x l b)
    on x l b false e = rw (optional_missing key lo hi x l e) (refl, refl)

    go : (front back : List ℕ) (l : ℕ) (b : Bool) → starts_with key (front ++ back) ≡ b → (c : Bool) → starts_with key front ≡ c → Shorter back (l + breaks front) (optional_at key lo hi (front ++ back) l) (optional_at key lo hi front l)
    go front back l true x true y = rw (optional_there key lo hi (front ++ back) l x, optional_there key lo hi front l y) (there.shorter front back l)
    go front back l true x false y =
        let b = key_cut key front back n x y in
        rw (optional_missing key lo hi front l y) (halts back (l + breaks front) (optional_at key lo hi (front ++ back) l) (good None front l) (omega (arith, b), b))
    go front back l false x true y = absurd (false≢true (sym x ∙ starts_front key front back y))
    go front back l false x false y = rw (optional_missing key lo hi (front ++ back) l x, optional_missing key lo hi front l y) (inl (front, refl, refl))

-- a line with a further rule
ruled_key : (number : ℕ) (ok : ℕ → Bool) (key : List ℕ) → no_break key ≡ true → (lo hi : ℕ) → hi < 10 ^ 10 → OneKey (checked number ok (row_at key lo hi))
ruled_key number ok key n lo hi high =
    checked_key number ok (row_at key lo hi) (one_linewise any _ (checked_one number ok (row_at key lo hi) (row_one key n lo hi)) (checked_spans number ok (row_at key lo hi) (row_spans key n lo hi)) (checked_counts number ok (row_at key lo hi) (row_counts key lo hi))) (row_key key n lo hi high)

row_ending : (key : List ℕ) → no_break key ≡ true → (lo hi : ℕ) → hi < 10 ^ 10 → Ending (row_at key lo hi)
row_ending key n lo hi high = key_ending (row_at key lo hi) (row_key key n lo hi high)

ruled_ending : (number : ℕ) (ok : ℕ → Bool) (key : List ℕ) → no_break key ≡ true → (lo hi : ℕ) → hi < 10 ^ 10 → Ending (checked number ok (row_at key lo hi))
ruled_ending number ok key n lo hi high = key_ending (checked number ok (row_at key lo hi)) (ruled_key number ok key n lo hi high)

-- ---- a job's lines

holder_ending : (m k before : ℕ) → Ending (holder m k before)
unfolding holder bytes
holder_ending m k before =
    key_ending _
    (checked_key 12 _ _ (one_linewise any _ (checked_one 12 _ _ (checked_one 12 (rising before m) _ (row_one (bytes "holder=") refl 1 16))) (checked_spans 12 _ _ (checked_spans 12 (rising before m) _ (row_spans (bytes "holder=") refl 1 16)))
    (checked_counts 12 _ _ (checked_counts 12 (rising before m) _ (row_counts (bytes "holder=") 1 16))))
    (ruled_key 12 (rising before m) (bytes "holder=") refl 1 16 (omega arith)))

cover_ending : (m k : ℕ) → Ending (cover m k)
unfolding cover inside holders bytes
cover_ending m k =
    bind_ending _ _ (optional_ending (bytes "removal=") refl 0 1000000 (omega arith))
    (λ r. present_ending (inside m k) (λ v. bind_ending _ _ (row_ending (bytes "inside=") refl 0 15 (omega arith))
    (λ n. bind_ending _ _ (chain_ending (holder m k) _ (holder_ending m k) n 0) (λ hs. return_ending _))) r)

unless_low_ending : (o : Option ℕ) → Ending (unless_low o)
unfolding unless_low bytes
unless_low_ending None = bind_ending _ _ (row_ending (bytes "price=") refl 1 1000000 (omega arith)) (λ p. return_ending (single p))
unless_low_ending (Some l) = bind_ending _ _ (ruled_ending 13 _ (bytes "high=") refl 1 1000000 (omega arith)) (λ h. return_ending (pair l h))

quote_ending : Ending quote
unfolding quote bytes
quote_ending = bind_ending _ _ (optional_ending (bytes "low=") refl 1 1000000 (omega arith)) unless_low_ending

rule_ending : Ending rule
unfolding rule after_base bytes
rule_ending =
    bind_ending _ _ (optional_ending (bytes "base=") refl 1 1000000 (omega arith))
    (λ b. present_ending after_base (λ v. bind_ending _ _ (row_ending (bytes "drop=") refl 0 1000000 (omega arith)) (λ d. bind_ending _ _ (row_ending (bytes "least=") refl 1 1000000 (omega arith)) (λ m. return_ending _))) b)

unless_ruled_ending : (n : ℕ) (o : Option Rule) → Ending (unless_ruled n o)
unfolding unless_ruled
unless_ruled_ending n None = bind_ending _ _ (times_ending n _ quote_ending) (λ qs. return_ending (by_list qs))
unless_ruled_ending n (Some r) = return_ending (by_rule_lem r)

prices_ending : (n : ℕ) → Ending (prices n)
unfolding prices
prices_ending n = bind_ending _ _ rule_ending (unless_ruled_ending n)

part_ending : (m n k : ℕ) → Ending (part m n k)
unfolding part after_left bytes
part_ending m n k =
    bind_ending _ _ (row_ending (bytes "life=") refl 1 1000 (omega arith))
    (λ l. bind_ending _ _ (ruled_ending 5 _ (bytes "left=") refl 0 1000 (omega arith))
    (λ r. bind_ending _ _ (cover_ending m k)
    (λ c. bind_ending _ _ (prices_ending n) (λ ps. return_ending _))))

idles_ending : (h : ℕ) → Ending (idles h)
unfolding idles idle_steps_lem idle bytes
idles_ending h =
    bind_ending _ _ (optional_ending (bytes "idles=") refl 1 365 (omega arith))
    (λ o. present_ending (idle_steps_lem h) (λ n. chain_ending (idle h) _ (λ before. ruled_ending 4 (rising before h) (bytes "idle=") refl 1 365 (omega arith)) n 0) o)

opening_ending : (h before : ℕ) → Ending (opening h before)
unfolding opening bytes
opening_ending h before =
    bind_ending _ _ (ruled_ending 4 (rising before h) (bytes "opening=") refl 1 365 (omega arith)) (λ o. bind_ending _ _ (row_ending (bytes "fee=") refl 0 1000000 (omega arith)) (λ f. return_ending _))

body_ending : (h : ℕ) (is : Option (List ℕ)) (w : Option ℕ) (n : ℕ) → Ending (body h is w n)
unfolding body openings parts bytes
body_ending h is w n =
    bind_ending _ _ (chain_ending (opening h) _ (opening_ending h) n 0)
    (λ os. bind_ending _ _ (row_ending (bytes "parts=") refl 1 16 (omega arith))
    (λ m. bind_ending _ _ (chain_ending (part m n) following (part_ending m n) m 1) (λ ps. return_ending _)))

job_ending : Ending job_lines
unfolding job_lines rest bytes
job_ending =
    bind_ending _ _ (row_ending (bytes "horizon=") refl 2 365 (omega arith))
    (λ h. bind_ending _ _ (idles_ending h)
    (λ is. bind_ending _ _ (optional_ending (bytes "walk=") refl 0 4000000000 (omega arith))
    (λ w. bind_ending _ _ (row_ending (bytes "openings=") refl 0 64 (omega arith)) (λ n. body_ending h is w n))))

-- ---- a plan's lines, and a log's

visit_ending : (job : Job) (before : ℕ) → Ending (visit job before)
unfolding visit plan.part plan.parts bytes
visit_ending job before =
    bind_ending _ _ (ruled_ending 9 _ (bytes "stop=") refl 1 365 (omega arith))
    (λ step. bind_ending _ _ (row_ending (bytes "count=") refl 0 16 (omega arith))
    (λ n. bind_ending _ _ (chain_ending (plan.part (length job.parts)) _ (λ k. ruled_ending 9 (rising k (length job.parts)) (bytes "part=") refl 1 16 (omega arith)) n 0) (λ ks. return_ending _)))

plan_ending : (job : Job) → Ending (plan_lines job)
unfolding plan_lines visits bytes
plan_ending job =
    bind_ending _ _ (row_ending (bytes "cost=") refl 0 4000000000 (omega arith))
    (λ cost. bind_ending _ _ (row_ending (bytes "stops=") refl 0 64 (omega arith))
    (λ n. bind_ending _ _ (chain_ending (visit job) _ (visit_ending job) n 0) (λ vs. return_ending _)))

log_ending : (job : Job) → job.horizon ≤ 365 → Ending (log_lines job)
unfolding log_lines bytes
log_ending job few = bind_ending _ _ (row_ending (bytes "step=") refl 1 (job.horizon - 2) (omega (arith, few))) (λ step. bind_ending _ _ (plan_ending (past_job_lem job step)) (λ stated. return_ending _))

-- ---- whole texts

module _ {A : Type 0} (most : ℕ) (p : Parser A) (h : Ending p) where
  whole_ending : Ending (whole p)
  unfolding whole
  whole_ending = bind_ending p _ h (λ a. bind_ending ends _ end_ending (λ _. return_ending a))

  -- the front of an accepted text is accepted too, or ends early
  text_early : (front back : List ℕ) (a : A) → read_text most p (front ++ back) ≡ accepted a → ((u : A) → read_text most p front ≡ accepted u → ⊥) → length (front ++ back) ≤ most → read_text most p front ≡ refused 2 (breaks front + 1)
  text_early front back a e not few = go (whole p (front ++ back) 1) refl (text_fits most p (front ++ back) few ∙ e) (whole p front 1) refl (whole_ending.shorter front back 1)
    where
      short : length front ≤ most
      short = omega (arith, length-append front back)

      is : read_text most p front ≡ finish (whole p front 1)
      is = sym (text_fits most p front short)

      go : (x : Parsed A) → whole p (front ++ back) 1 ≡ x → finish x ≡ accepted a → (y : Parsed A) → whole p front 1 ≡ y → Shorter back (1 + breaks front) x y → read_text most p front ≡ refused 2 (breaks front + 1)
      go (fault n k) x f y z s = not_both f refl
      go (good b r k) x f y z (inl s) = absurd (not b (is ∙ ap finish (z ∙ s.2)))
      go (good b r k) x f (good c t j) z (inr s) = absurd (not c (is ∙ ap finish z))
      go (good b r k) x f (fault n j) z (inr s) = let m : j ≡ breaks front + 1 = omega (arith, s.1) in is ∙ ap finish z ∙ ap₂ refused s.0 m

-- no accepted text is too long
within : {A : Type 0} (most : ℕ) (p : Parser A) (s : List ℕ) (a : A) → read_text most p s ≡ accepted a → length s ≤ most
within most p s a e = go (dec_lt most (length s))
  where
    go : Dec (most < length s) → length s ≤ most
    go (yes h) = not_both e (sym (text_long most p s h))
    go (no h) = omega (arith, h)

-- a job text
pub job_early : (front back : List ℕ) (t : JobText) → read_job_text (front ++ back) ≡ accepted t → ((u : JobText) → read_job_text front ≡ accepted u → ⊥) → read_job_lem front ≡ refused 2 (breaks front + 1)
job_early front back t e not = ap meaning (text_early max_bytes job_lines job_ending front back t e not (within max_bytes job_lines (front ++ back) t e))

-- a plan text; an empty one is accepted
pub plan_early : (job : Job) (front back : List ℕ) (stated : Stated) → read_plan_lem job (front ++ back) ≡ accepted stated → ((u : Stated) → read_plan_lem job front ≡ accepted u → ⊥) → read_plan_lem job front ≡ refused 2 (breaks front + 1)
unfolding read_plan_lem
plan_early job [] back stated e not = absurd (not (nothing job) refl)
plan_early job (b ∷ front) back stated e not = text_early plan.max_bytes (plan_lines job) (plan_ending job) (b ∷ front) back stated e not (within plan.max_bytes (plan_lines job) (b ∷ (front ++ back)) stated e)

-- a log
pub log_early : (job : Job) → job.horizon ≤ 365 → (front back : List ℕ) (said : LogText) → read_log job (front ++ back) ≡ accepted said → ((u : LogText) → read_log job front ≡ accepted u → ⊥) → read_log job front ≡ refused 2 (breaks front + 1)
log_early job short front back said e not = text_early plan.max_bytes (log_lines job) (log_ending job short) front back said e not (within plan.max_bytes (log_lines job) (front ++ back) said e)
