-- Idle steps as flags, and running steps as a table: one idle step more, and one step more.
use Prim.Native.Nat.{ℕ, suc, ◌+◌, ◌-◌, ◌≤◌, ◌<◌}
use mathlib.Core.Path.{◌≡◌, refl, sym, ap, subst, ◌∙◌}
use mathlib.Core.Bool.{Bool, true, false, cond, ◌||◌, or-false, or-true}
use mathlib.Core.List.{List, []}
use native.Mathlib.Omega.{arith}
use native.Mathlib.Decide.{ℕ_discrete, dec_lt}
use native.Mathlib.Numerals.{add-one}
use borrow.Author.Tests.{eq-eqb, ne_eqb}
use lib.Dec.{eqb}
use lib.ListN.{length, get_or, take, set, replicate, length-replicate, length-set}
use lib.Seq.{take-suc, get_or-set_same, get_or-set_other}
use lib.IntN.{ℤ, pos}
use Rattle.model.specs.Model.{Job, listed, running, clock}
use Rattle.clock.specs.Placed.{Flags}
use Rattle.model.specs.Limits.{last_position}
use Rattle.base.proofs.Bools.{blank}
use Rattle.model.proofs.Lists.{listed_snoc}

-- ---- idle steps

none_idle : (s : ℕ) → listed [] s ≡ false
unfolding listed
none_idle s = refl

-- with no idle steps, no flag is set
pub flags_none : (n : ℕ) → Flags [] (replicate n false)
flags_none n s h = blank false n s ∙ sym (none_idle s)

-- setting the flag of the next idle step gives the flags of one idle step more
pub flags_more : (l : List ℕ) (flags : List Bool) (k : ℕ) → k < length l → get_or l k 0 < length flags → Flags (take k l) flags → Flags (take (k + 1) l) (set flags (get_or l k 0) true)
flags_more l flags k h g f s m =
    go (ℕ_discrete i s) ∙ sym (ap (λ (is : List ℕ). listed is s) (ap (λ (n : ℕ). take n l) (add-one k) ∙ take-suc l k 0 h) ∙ listed_snoc (take k l) i s)
  where
    i : ℕ
    i = get_or l k 0

    go : Dec (i ≡ s) → get_or (set flags i true) s false ≡ (listed (take k l) s || eqb i s)
    go (yes e) = ap (λ (x : ℕ). get_or (set flags i true) x false) (sym e) ∙ get_or-set_same flags i true false g ∙ sym (ap (λ (b : Bool). listed (take k l) s || b) (eq-eqb i s e) ∙ or-true (listed (take k l) s))
    go (no n) = get_or-set_other flags i s true false (λ e. n (sym e)) ∙ f s m ∙ sym (ap (λ (b : Bool). listed (take k l) s || b) (ne_eqb i s n) ∙ or-false (listed (take k l) s))

-- ---- running steps

-- the positions of the steps before s, and the running steps of those before it
pub record Timed (job : Job) (at : List ℤ) (run s : ℕ) : Type 0 where
  -- the steps before s are one at least, step 0
  pub some : 0 < s
  -- s is at most one past the last position
  pub most : s ≤ last_position + 1
  -- the table has an entry for each step from 0 to the last position
  pub size : length at ≡ last_position + 1
  -- `run` counts the running steps of those before s
  pub run_is : run ≡ running job.idles (s - 1)
  -- the entries of the steps before s are their positions
  pub done : (u : ℕ) → u < s → get_or at u (pos 0) ≡ clock job u

at_0 : (job : Job) → clock job 0 ≡ pos 0
unfolding clock running
at_0 job = refl

clock_is : (job : Job) (s : ℕ) → clock job s ≡ pos (running job.idles s)
unfolding clock
clock_is job s = refl

no_run : (is : List ℕ) → 0 ≡ running is 0
unfolding running
no_run is = refl

one_more : (is : List ℕ) (s : ℕ) → 0 < s → running is s ≡ running is (s - 1) + cond (listed is s) 0 1
unfolding running
one_more is s h = let z : s ≡ suc (s - 1) = omega arith in subst (λ (k : ℕ). running is k ≡ running is (s - 1) + cond (listed is k) 0 1) (sym z) (by (s - 1))
  where
    by : (k : ℕ) → running is (suc k) ≡ running is k + cond (listed is (suc k)) 0 1
    by k = refl

module _ (job : Job) where
  -- a table of zeros has the position of step 0, with no running step counted
  pub timed_none : (n : ℕ) → n ≡ last_position + 1 → Timed job (replicate n (pos 0)) 0 1
  timed_none n e = record {
    some = omega arith;
    most = omega arith;
    size = length-replicate n (pos 0) ∙ e;
    run_is = no_run job.idles;
    done = λ u h. let z : u ≡ 0 = omega arith in blank (pos 0) n u ∙ sym (ap (clock job) z ∙ at_0 job);
  }

  -- one step more: it runs, or it is idle
  pub timed_more : (at : List ℤ) (run s next : ℕ) → s ≤ last_position → next ≡ run + cond (listed job.idles s) 0 1 → Timed job at run s → Timed job (set at s (pos next)) next (s + 1)
  timed_more at run s next h e t = record {
    some = omega arith;
    most = omega arith;
    size = length-set at s (pos next) ∙ t.size;
    run_is = next_is ∙ ap (running job.idles) back;
    done = λ u l. go u l (ℕ_discrete u s);
  }
    where
      next_is : next ≡ running job.idles s
      next_is = e ∙ ap (λ (k : ℕ). k + cond (listed job.idles s) 0 1) t.run_is ∙ sym (one_more job.idles s t.some)

      back : s ≡ s + 1 - 1
      back = omega arith

      go : (u : ℕ) → u < s + 1 → Dec (u ≡ s) → get_or (set at s (pos next)) u (pos 0) ≡ clock job u
      go u l (yes z) = ap (λ (k : ℕ). get_or (set at s (pos next)) k (pos 0)) z ∙ get_or-set_same at s (pos next) (pos 0) (omega (arith, t.size)) ∙ ap pos next_is ∙ sym (clock_is job s) ∙ sym (ap (clock job) z)
      go u l (no z) = get_or-set_other at s u (pos next) (pos 0) z ∙ t.done u (less (dec_lt u s))
        where
          less : Dec (u < s) → u < s
          less (yes x) = x
          less (no x) = absurd (z (omega (arith, x)))
