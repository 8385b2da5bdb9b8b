-- What the walk asks of the lines at a step: it goes on with the next line that is open there, and where none is left it is over.
use Prim.Native.Nat.{ℕ, zero, suc, ◌+◌, ◌<◌, ◌≤◌}
use mathlib.Core.Path.{◌≡◌, refl, sym, ap, subst, ◌∙◌}
use mathlib.Core.Bool.{Bool, true, false, cond}
use mathlib.Core.List.{List, [], ◌∷◌}
use Rattle.std.specs.Prelude.{Some, None}
use Rattle.std.proofs.lemmas.Option.{none-some, same_Some}
use Rattle.std.specs.List.{find, range_with_len}
use native.Mathlib.Omega.{arith}
use native.Mathlib.Decide.{ℕ_discrete, dec_lt}
use borrow.Author.Tests.{lt-ltb, le-ltb}
use lib.ListN.{length, drop}
use Rattle.model.specs.Model.{Job}
use Rattle.hall_model.specs.Hall.{Placed}
use Rattle.hall_model.specs.Agenda.{lines_asked}
use Rattle.hall_model.proofs.Steps.{lines_shut}
use Rattle.hall_steps.specs.Steps.{open_in, next_open_lem, place_below, Tells}

-- ---- the places that the code goes over

-- the first of m places from d on where the line is open is the next one, if it is below their end
pub find_next : (ats : List (List ℕ)) (k d m n : ℕ) → d + m ≡ n → find (open_in ats k) (range_with_len d m) ≡ place_below n (next_open_lem ats k d m)
unfolding next_open_lem
find_next ats k d zero n e = sym (ap (λ (b : Bool). cond b (Some d) None) (le-ltb d n (omega (arith, e))))
find_next ats k d (suc m) n e = go (open_in ats k d) (let z : d + 1 ≡ suc d = omega arith in subst (λ (j : ℕ). find (open_in ats k) (range_with_len j m) ≡ place_below n (next_open_lem ats k (suc d) m)) (sym z) (find_next ats k (suc d) m n (omega (arith, e))))
  where
    go : (b : Bool) → find (open_in ats k) (range_with_len (d + 1) m) ≡ place_below n (next_open_lem ats k (suc d) m) → cond b (Some d) (find (open_in ats k) (range_with_len (d + 1) m)) ≡ place_below n (cond b d (next_open_lem ats k (suc d) m))
    go true r = sym (ap (λ (b : Bool). cond b (Some d) None) (lt-ltb d n (omega (arith, e))))
    go false r = r

-- a place that is found is below the end, and is the one that was sought
pub place_found : (n d e : ℕ) → place_below n d ≡ Some e → (d < n) × (d ≡ e)
place_found n d e f = go (dec_lt d n)
  where
    go : Dec (d < n) → (d < n) × (d ≡ e)
    go (yes l) = (l, same_Some d e (sym (ap (λ (b : Bool). cond b (Some d) None) (lt-ltb d n l)) ∙ f))
    go (no l) = absurd (none-some e (sym (ap (λ (b : Bool). cond b (Some d) None) (le-ltb d n (omega (arith, l)))) ∙ f))

-- where no place is found none is below the end
pub place_gone : (n d : ℕ) → place_below n d ≡ None → n ≤ d
place_gone n d f = go (dec_lt d n)
  where
    go : Dec (d < n) → n ≤ d
    go (yes l) = absurd (none-some d (sym f ∙ ap (λ (b : Bool). cond b (Some d) None) (lt-ltb d n l)))
    go (no l) = omega (arith, l)

-- the next line is no place before d, and at most the one behind the last
pub next_within : (ats : List (List ℕ)) (k d m : ℕ) → (d ≤ next_open_lem ats k d m) × (next_open_lem ats k d m ≤ d + m)
unfolding next_open_lem
next_within ats k d zero = (omega arith, omega arith)
next_within ats k d (suc m) = go (open_in ats k d) (next_within ats k (suc d) m)
  where
    go : (b : Bool) → (suc d ≤ next_open_lem ats k (suc d) m) × (next_open_lem ats k (suc d) m ≤ suc d + m) → (d ≤ cond b d (next_open_lem ats k (suc d) m)) × (cond b d (next_open_lem ats k (suc d) m) ≤ d + suc m)
    go true r = (omega arith, omega arith)
    go false r = (omega (arith, r.0), omega (arith, r.1))

-- the next line is open at the step, if there is one
pub next_opens : (ats : List (List ℕ)) (k d m : ℕ) → next_open_lem ats k d m < d + m → open_in ats k (next_open_lem ats k d m) ≡ true
unfolding next_open_lem
next_opens ats k d zero l = absurd (omega (arith, l))
next_opens ats k d (suc m) l = go (open_in ats k d) refl l (next_opens ats k (suc d) m)
  where
    go : (b : Bool) → open_in ats k d ≡ b → cond b d (next_open_lem ats k (suc d) m) < d + suc m → (next_open_lem ats k (suc d) m < suc d + m → open_in ats k (next_open_lem ats k (suc d) m) ≡ true) → open_in ats k (cond b d (next_open_lem ats k (suc d) m)) ≡ true
    go true e h r = e
    go false e h r = r (omega (arith, h))

-- no line from place d on before the next one is open
pub next_shut : (ats : List (List ℕ)) (k d m e : ℕ) → d ≤ e → e < next_open_lem ats k d m → open_in ats k e ≡ false
unfolding next_open_lem
next_shut ats k d zero e g l = absurd (omega (arith, g, l))
next_shut ats k d (suc m) e g l = go (open_in ats k d) refl l (next_shut ats k (suc d) m e)
  where
    later : (suc d ≤ e → open_in ats k e ≡ false) → Dec (e ≡ d) → open_in ats k d ≡ false → open_in ats k e ≡ false
    later r (yes z) f = ap (open_in ats k) z ∙ f
    later r (no z) f = r (omega (arith, g, z))

    go : (b : Bool) → open_in ats k d ≡ b → e < cond b d (next_open_lem ats k (suc d) m) → (suc d ≤ e → e < next_open_lem ats k (suc d) m → open_in ats k e ≡ false) → open_in ats k e ≡ false
    go true f h r = absurd (omega (arith, g, h))
    go false f h r = later (λ u. r u h) (ℕ_discrete e d) f

-- ---- what is asked

-- the line at a place, and the lines behind it
pub drop_line : (jobs : List Job) (d : ℕ) → d < length jobs → (job : Job) × Placed jobs d job × (drop d jobs ≡ job ∷ drop (suc d) jobs)
drop_line [] d l = absurd (omega (arith, l))
drop_line (job ∷ jobs) zero l = (job, refl, refl)
drop_line (job ∷ jobs) (suc d) l = drop_line jobs d (omega (arith, l))

-- what is asked from place d on is what is asked from the next line on that is open, or nothing
pub next_asked : (jobs : List Job) (ats : List (List ℕ)) (k step : ℕ) → Tells jobs ats k step → (d m : ℕ) → d + m ≡ length jobs → lines_asked step d (drop d jobs) ≡ lines_asked step (next_open_lem ats k d m) (drop (next_open_lem ats k d m) jobs)
unfolding next_open_lem
next_asked jobs ats k step tells d zero n = refl
next_asked jobs ats k step tells d (suc m) n = go (open_in ats k d) refl (drop_line jobs d (omega (arith, n))) (next_asked jobs ats k step tells (suc d) m (omega (arith, n)))
  where
    go : (b : Bool) → open_in ats k d ≡ b → (job : Job) × Placed jobs d job × (drop d jobs ≡ job ∷ drop (suc d) jobs) → lines_asked step (suc d) (drop (suc d) jobs) ≡ lines_asked step (next_open_lem ats k (suc d) m) (drop (next_open_lem ats k (suc d) m) jobs)
        → lines_asked step d (drop d jobs) ≡ lines_asked step (cond b d (next_open_lem ats k (suc d) m)) (drop (cond b d (next_open_lem ats k (suc d) m)) jobs)
    go true e h r = refl
    go false e h r = ap (lines_asked step d) h.2 ∙ lines_shut step d h.0 (drop (suc d) jobs) (tells d h.0 h.1 ∙ e) ∙ r
