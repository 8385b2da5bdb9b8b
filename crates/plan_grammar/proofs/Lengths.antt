-- A plan's lines are at most 8,793 bytes: 64 stops of 137 bytes each, with sixteen parts, and 25 bytes before them. By the lengths of the lines.
use Prim.Native.Nat.{ℕ, zero, suc, ◌+◌, ◌*◌, ◌≤◌, ◌<◌}
use mathlib.Core.Path.{◌≡◌, refl, ap}
use mathlib.Core.List.{List, [], ◌++◌}
use mathlib.Core.Bool.{Bool, true, false, cond}
use native.Mathlib.Nat.{mul-le-mul_right}
use native.Mathlib.Omega.{arith}
use lib.ListN.{length, get_or, length-append}
use Rattle.lines.specs.Text.{bytes, decimal_in, line, line_of, texts}
use Rattle.base.specs.Joined.{joined}
use Rattle.lines.proofs.Writing.{line_short}
use Rattle.base.proofs.Joined.{joined_grows, joined_short}
use Rattle.model.specs.Model.{Job, Plan}
use Rattle.base.specs.Chosen.{chosen}
use Rattle.plan_grammar.specs.Rendering.{visit_text, plan_text_lem, is_changed_lem, parts_at, step_at, visit_at, visits_of, plan_lines_of}
use Rattle.jobs.specs.Valid.{ValidJob}
use Rattle.base.proofs.Chosen.{chosen_few}
use Rattle.lines.proofs.Texts.{chosen-texts}
use Rattle.plan_grammar.proofs.Steps.{step_small}

-- the longest text of a plan's lines
abbrev pub longest : ℕ
longest = 8793

-- ---- parts

joined_less : (f g : ℕ → List ℕ) (n : ℕ) → ((i : ℕ) → length (f i) ≤ length (g i)) → length (joined f n) ≤ length (joined g n)
unfolding joined
joined_less f g zero h = omega arith
joined_less f g (suc n) h = rw (length-append (joined f n), length-append (joined g n)) (omega (arith, joined_less f g n h, h n))

cond_less : (b : Bool) (xs : List ℕ) → length (cond b xs []) ≤ length xs
cond_less true xs = omega arith
cond_less false xs = omega arith

-- part=1 to part=9 have 7 bytes, part=10 to part=16 have 8
sixteen : length (joined (λ k. line_of "part=" (k + 1)) 16) ≡ 119
unfolding joined line bytes decimal_in
sixteen = refl

parts_short : (test : ℕ → Bool) (m : ℕ) → m ≤ 16 → length (texts (line_of "part=") (chosen test (λ k. k + 1) m)) ≤ 119
parts_short test m h =
    let all : ℕ → List ℕ = λ k. line_of "part=" (k + 1) in
    omega (
      arith,
      ap length (chosen-texts (line_of "part=") test (λ k. k + 1) m),
      joined_less (λ k. cond (test k) (all k) []) all m (λ k. cond_less (test k) (all k)),
      joined_grows all m 16 h,
      sixteen,
    )

-- ---- stops

key_length : (length (bytes "cost=") ≡ 5) × (length (bytes "stops=") ≡ 6) × (length (bytes "stop=") ≡ 5) × (length (bytes "count=") ≡ 6)
unfolding bytes
key_length = (refl, refl, refl, refl)

-- stop=365, count=16 and sixteen parts
visit_short : (job : Job) (plan : Plan) (i : ℕ) → step_at job i < 1000 → length plan.changes ≤ 16 → length (visit_text (visit_at job plan i)) ≤ 137
unfolding visit_text
visit_short job plan i h m =
    rw (length-append (line_of "stop=" (step_at job i) ++ line_of "count=" (length (parts_at plan i))), length-append (line_of "stop=" (step_at job i)))
    (omega (
      arith,
      key_length,
      line_short (bytes "stop=") 2 (step_at job i) h,
      line_short (bytes "count=") 1 (length (parts_at plan i)) (omega (arith, chosen_few (is_changed_lem plan i) (λ (k : ℕ). k + 1) (length plan.changes))),
      parts_short (is_changed_lem plan i) (length plan.changes) m,
    ))

visits_short : (job : Job) (plan : Plan) → ((i : ℕ) → step_at job i < 1000) → length plan.changes ≤ 16 → length (texts visit_text (visits_of job plan)) ≤ length job.openings * 137
unfolding visits_of
visits_short job plan steps m =
    let test : ℕ → Bool = λ i. get_or plan.stops i false in
    let piece : ℕ → List ℕ = λ i. cond (test i) (visit_text (visit_at job plan i)) [] in
    let each : (i : ℕ) → i < length job.openings → length (piece i) ≤ 137 = λ i h. omega (arith, cond_less (test i) (visit_text (visit_at job plan i)), visit_short job plan i (steps i) m) in
    omega (arith, ap length (chosen-texts visit_text test (visit_at job plan) (length job.openings)), joined_short piece 137 (length job.openings) each)

-- ---- the plan

-- the lines of a plan within the texts' limits are no longer than `longest`
pub plan_short : (job : Job) (cost : ℕ) (plan : Plan) → cost < 10000000000 → length job.openings ≤ 64 → ((i : ℕ) → step_at job i < 1000) → length plan.changes ≤ 16
    → length (plan_lines_of job cost plan) ≤ longest
unfolding plan_lines_of plan_text_lem visits_of
plan_short job cost plan c n steps m =
    let vs = visits_of job plan in
    let few = chosen_few (λ i. get_or plan.stops i false) (visit_at job plan) (length job.openings) in
    rw (length-append (line_of "cost=" cost ++ line_of "stops=" (length vs)), length-append (line_of "cost=" cost))
    (omega (
      arith,
      key_length,
      line_short (bytes "cost=") 9 cost c,
      line_short (bytes "stops=") 1 (length vs) (omega (arith, few)),
      visits_short job plan steps m,
      mul-le-mul_right 137 n,
    ))

-- of a valid job's plan
pub valid_short : (job : Job) → ValidJob job → (cost : ℕ) (plan : Plan) → cost < 10000000000 → length plan.changes ≤ 16 → length (plan_lines_of job cost plan) ≤ longest
valid_short job ok cost plan c m = plan_short job cost plan c ok.few_openings (step_small job ok) m
