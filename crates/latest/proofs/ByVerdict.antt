-- E9.3 as code finds it: the verdict on the plan with the latest changes says whether the stops serve. By recursion over the parts, each of which these changes keep exactly if changes at all stops do.
use mathlib.Core.Path.{◌≡◌, refl, sym, ap, ◌∙◌}
use mathlib.Core.Bool.{Bool, true, false, cond, ◌&&◌}
use mathlib.Core.List.{List, [], ◌∷◌, map}
use Prim.Native.Nat.{ℕ, ◌+◌}
use native.Mathlib.Omega.{arith}
use Rattle.model.specs.Model.{Part, Job, kept_by, cost_of_lem}
use Rattle.model.specs.Ordered.{Lefts, Ordered}
use Rattle.model.specs.Verdict.{Gaps, in_time_lem2, too_long, late_of, Verdict, keeps, late, ruled, verdict_from, verdict_of_lem}
use Rattle.model.proofs.Verdicts.{in_time_is}
use Rattle.latest.specs.Latest.{latest_of_lem, latest_plan_of, unserved, serves, each_served, latest_answer_of}
use Rattle.latest.proofs.Promised.{latest_served}

-- the verdict is that every part is kept
abbrev all_kept : Verdict → Bool
all_kept keeps = true
all_kept (late part due) = false

in_time_long : (due : ℕ) → in_time_lem2 ≡ too_long due → ⊥
in_time_long due e = let z : ◌≡◌ {A = ℕ} 0 1 = cc in omega arith

module _ (job : Job) (stops : List Bool) (o : Ordered job) where
  by_part : (n : ℕ) (parts : List Part) → Lefts parts → each_served job stops parts ≡ all_kept (verdict_from job n parts (map (latest_of_lem job stops) parts))
  unfolding each_served verdict_from
  by_part n [] l = refl
  by_part n (part ∷ parts) l = go (late_of job part (latest_of_lem job stops part)) refl (kept_by job part stops) refl (by_part (n + 1) parts l.1)
    where
      served : (kept_by job part (latest_of_lem job stops part) ≡ true → kept_by job part stops ≡ true) × (kept_by job part stops ≡ true → kept_by job part (latest_of_lem job stops part) ≡ true)
      served = latest_served job stops part o.rising l.0

      rest : Verdict
      rest = verdict_from job (n + 1) parts (map (latest_of_lem job stops) parts)

      go : (g : Gaps) → late_of job part (latest_of_lem job stops part) ≡ g → (b : Bool) → kept_by job part stops ≡ b → each_served job stops parts ≡ all_kept rest
          → (b && each_served job stops parts) ≡ all_kept (ruled n g rest)
      go in_time_lem2 e true k r = r
      go in_time_lem2 e false k r = let t = sym k ∙ served.0 ((in_time_is job part (latest_of_lem job stops part)).0 e) in absurd (let z : ◌≡◌ {A = ℕ} 0 1 = ap (λ (b : Bool). cond b 1 0) t in omega arith)
      go (too_long d) e true k r = absurd (in_time_long d (sym ((in_time_is job part (latest_of_lem job stops part)).1 (served.1 k)) ∙ e))
      go (too_long d) e false k r = refl

  answered : (v : Verdict) → verdict_of_lem job (latest_plan_of job stops) ≡ v
      → latest_answer_of job stops ≡ cond (all_kept v) (serves (cost_of_lem job (latest_plan_of job stops)) (latest_plan_of job stops)) unserved
  unfolding latest_answer_of
  answered v e =
      ap (λ (b : Bool). cond b (serves (cost_of_lem job (latest_plan_of job stops)) (latest_plan_of job stops)) unserved) (by_part 1 job.parts o.lefts ∙ ap all_kept e)

  -- where the latest changes keep every part, they are the answer
  pub kept_serves : verdict_of_lem job (latest_plan_of job stops) ≡ keeps → latest_answer_of job stops ≡ serves (cost_of_lem job (latest_plan_of job stops)) (latest_plan_of job stops)
  kept_serves = answered keeps

  -- where some part is late, the stops can't keep it
  pub late-unserved : (part due : ℕ) → verdict_of_lem job (latest_plan_of job stops) ≡ late part due → latest_answer_of job stops ≡ unserved
  late-unserved part due = answered (late part due)
