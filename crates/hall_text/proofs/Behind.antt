-- A job behind the lines of a hall, by what its lines mean: its own fault (`own_fault`), a hall with it (`admitted`), 14 on its first line (`broken`); the first job is always admitted (`first_admitted`).
use Prim.Native.Nat.{ℕ, ◌+◌}
use mathlib.Core.Path.{◌≡◌, refl, sym, ap, ◌∙◌}
use mathlib.Core.Bool.{Bool, true, false}
use mathlib.Core.List.{List, [], ◌∷◌}
use native.Mathlib.Omega.{arith}
use borrow.Author.Tests.{le-leb}
use lib.ListN.{length}
use Rattle.lines.specs.Parser.{Parsed, good, fault, checked}
use Rattle.model.specs.Model.{Job}
use Rattle.jobs.specs.Valid.{ValidJob}
use Rattle.job_grammar.specs.Grammar.{JobText, job_lines}
use Rattle.hall_model.specs.Hall.{Hall}
use Rattle.job_grammar.specs.Reading.{meant_job}
use Rattle.hall_grammar.specs.Grammar.{joins, job_behind}
use Rattle.hall_grammar.specs.Reading.{mapped, through, with_lines, line_behind}
use Rattle.hall_text.specs.SoFar.{with_job}

-- what becomes of a job that is read from line l on
abbrev judged : Hall → ℕ → Parsed Job → Parsed Hall
judged hall l (good job s' l') = elim (joins hall.jobs job) [ true ↦ good (with_job hall job) s' l' | false ↦ fault 14 l ]
judged hall l (fault n m) = fault n m

judged_is : (hall : Hall) (s : List ℕ) (l : ℕ) → line_behind hall s l ≡ judged hall l (through meant_job job_lines s l)
unfolding line_behind through job_behind checked
judged_is hall s l = go (job_lines s l)
  where
    pick : (b : Bool) (t : JobText) (s' : List ℕ) (l' : ℕ) → mapped (λ (x : JobText). with_lines hall (x ∷ [])) (elim b [ true ↦ good t s' l' | false ↦ fault 14 l ])
        ≡ elim b [ true ↦ good (with_job hall (meant_job t)) s' l' | false ↦ fault 14 l ]
    pick true t s' l' = refl
    pick false t s' l' = refl

    go : (x : Parsed JobText) → mapped (λ (t : JobText). with_lines hall (t ∷ [])) (elim x [ good t s' l' ↦ elim (joins hall.jobs (meant_job t)) [ true ↦ good t s' l' | false ↦ fault 14 l ] | fault n m ↦ fault n m ])
        ≡ judged hall l (mapped meant_job x)
    go (good t s' l') = pick (joins hall.jobs (meant_job t)) t s' l'
    go (fault n m) = refl

module _ (hall : Hall) (s : List ℕ) (l : ℕ) where
  -- the job's own fault comes first
  pub own_fault : {n m : ℕ} → fault n m ≡ through meant_job job_lines s l → fault n m ≡ line_behind hall s l
  own_fault e = sym (judged_is hall s l ∙ ap (judged hall l) (sym e))

  module _ {job : Job} {s' : List ℕ} {l' : ℕ} (e : good job s' l' ≡ through meant_job job_lines s l) where
    chosen : (b : Bool) → joins hall.jobs job ≡ b → line_behind hall s l ≡ elim b [ true ↦ good (with_job hall job) s' l' | false ↦ fault 14 l ]
    chosen b j = judged_is hall s l ∙ ap (judged hall l) (sym e) ∙ ap (λ (t : Bool). elim t [ true ↦ good (with_job hall job) s' l' | false ↦ fault 14 l ]) j

    -- a job that joins the lines stands behind them
    pub admitted : joins hall.jobs job ≡ true → good (with_job hall job) s' l' ≡ line_behind hall s l
    admitted j = sym (chosen true j)

    -- one that doesn't is 14 on the line where it began
    pub broken : joins hall.jobs job ≡ false → fault 14 l ≡ line_behind hall s l
    broken j = sym (chosen false j)

-- no lines admit every job that is valid
pub first_admitted : (job : Job) → ValidJob job → joins [] job ≡ true
first_admitted job v = rw (le-leb (0 + length job.parts) 16 (omega (arith, v.few_parts)), le-leb (0 + length job.openings) 64 (omega (arith, v.few_openings))) refl
