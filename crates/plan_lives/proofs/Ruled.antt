-- The parts of a job one after the other: the lowest late part, from the first part on. By one unfolding of the verdict. Up to the end of the lives it is the verdict on the plan (`verdict_whole`).
use Prim.Native.Nat.{ℕ, suc, ◌+◌, ◌≤◌, ◌<◌}
use mathlib.Core.Path.{◌≡◌, refl, sym, ap, ap₂, ◌∙◌}
use mathlib.Core.Bool.{Bool, cond}
use mathlib.Core.List.{List, [], ◌∷◌}
use native.Mathlib.Nat.{add-zero}
use native.Mathlib.Numerals.{add-one}
use lib.ListN.{length, get_or, drop, drop_of_length-le}
use lib.Seq.{drop-cons, drop-drop, get_or-drop}
use lib.IntN.{ℤ, pos}
use Rattle.model.specs.Model as model
use Rattle.model.specs.Verdict.{Gaps, in_time_lem2, too_long, first_late, Verdict, keeps, late, ruled, verdict_from, verdict_of_lem, no_part}
use Rattle.plan_lives.specs.Steps.{lower_part_lem, gaps_to, late_to_lem, lowest_late, verdict_to_lem}

lower_assoc : (a b c : Verdict) → lower_part_lem a (lower_part_lem b c) ≡ lower_part_lem (lower_part_lem a b) c
lower_assoc keeps b c = refl
lower_assoc (late p d) b c = refl

lower_keeps : (a : Verdict) → lower_part_lem a keeps ≡ a
lower_keeps keeps = refl
lower_keeps (late p d) = refl

ruled_lower : (n : ℕ) (g : Gaps) (rest : Verdict) → ruled n g rest ≡ lower_part_lem (ruled n g keeps) rest
ruled_lower n in_time_lem2 rest = refl
ruled_lower n (too_long d) rest = refl

module _ (gaps : model.Part → List Bool → Gaps) (ps : List model.Part) (cs : List (List Bool)) where
  -- what the first k parts say, and the rest after them, is what all say
  abbrev pub Ruled : ℕ → Verdict → Type 0
  Ruled k v = lower_part_lem v (lowest_late gaps (k + 1) (drop k ps) (drop k cs)) ≡ lowest_late gaps 1 ps cs

  next : (k : ℕ) → k < length ps
      → lowest_late gaps (k + 1) (drop k ps) (drop k cs)
      ≡ lower_part_lem (ruled (k + 1) (gaps (get_or ps k no_part) (get_or cs k [])) keeps) (lowest_late gaps (k + 1 + 1) (drop (k + 1) ps) (drop (k + 1) cs))
  unfolding lowest_late
  next k h = rw (drop-cons ps k no_part h, get_or-drop k cs 0 [], add-zero k, drop-drop 1 k cs, add-one k) (ruled_lower (suc k) (gaps (get_or ps k no_part) (get_or cs k [])) (lowest_late gaps (suc k + 1) (drop (suc k) ps) (drop (suc k) cs)))

  -- the verdict so far, or that on the next part where all so far are kept, is the verdict on one part more
  pub ruled_more : (k : ℕ) (v w : Verdict) → k < length ps → w ≡ lower_part_lem v (ruled (k + 1) (gaps (get_or ps k no_part) (get_or cs k [])) keeps) → Ruled k v → Ruled (k + 1) w
  ruled_more k v w h e r = rw e (sym (lower_assoc v _ _) ∙ ap (lower_part_lem v) (sym (next k h)) ∙ r)

  -- a part that is late so far is the lowest of all that are
  pub ruled_late : (k part due : ℕ) → Ruled k (late part due) → late part due ≡ lowest_late gaps 1 ps cs
  ruled_late k part due r = r

  -- after all parts, the verdict so far is the verdict on all of them
  pub ruled_all : (k : ℕ) (v : Verdict) → length ps ≤ k → Ruled k v → v ≡ lowest_late gaps 1 ps cs
  unfolding lowest_late
  ruled_all k v h r = sym (lower_keeps v) ∙ (rw (drop_of_length-le ps {i = k} h) at r)

-- ---- up to the end of the lives

module _ (job : model.Job) where
  gaps_whole : (life prev : ℤ) (ss : List ℤ) → gaps_to job (model.end job) life prev ss ≡ first_late job life prev ss
  unfolding gaps_to first_late
  gaps_whole life prev [] = refl
  gaps_whole life prev (s ∷ ss) = ap (λ (g : Gaps). cond (model.within life prev s) g (too_long (model.due_of_lem job life prev))) (gaps_whole life s ss)

  lowest_whole : (n : ℕ) (ps : List model.Part) (cs : List (List Bool)) → lowest_late (late_to_lem job (model.end job)) n ps cs ≡ verdict_from job n ps cs
  unfolding lowest_late verdict_from
  lowest_whole n [] cs = refl
  lowest_whole n (p ∷ ps) cs = ap₂ (ruled n) (gaps_whole (pos p.life) (model.last_change_lem p) (model.select (model.positions job) (get_or cs 0 []))) (lowest_whole (n + 1) ps (drop 1 cs))

  -- the verdict up to the end of the lives is the verdict
  pub verdict_whole : (plan : model.Plan) → verdict_to_lem job (model.end job) plan ≡ verdict_of_lem job plan
  verdict_whole plan = lowest_whole 1 job.parts plan.changes
