-- An accepted log text means a log of the job, and is the text of that log (`log_tells`); and the text of a log is read back and means that log (`log_back`, `says_log`). By the line `step` and then plan_grammar's laws of the plan lines.
use mathlib.Core.Path.{◌≡◌, refl, sym, ap, subst, ◌∙◌}
use mathlib.Core.Bool.{Bool, true, false}
use mathlib.Core.List.{List, [], ◌∷◌, ◌++◌, map, append-nil}
use Prim.Native.Nat.{ℕ, suc, ◌-◌, ◌≤◌, ◌<◌}
use native.Mathlib.Omega.{arith}
use lib.ListN.{length, length-map, length-append, get_or, take}
use lib.Seq.{length-take-le}
use Rattle.lines.specs.Text.{bytes, line_of}
use Rattle.lines.specs.Parser.{return, row, accepted}
use Rattle.lines.proofs.Parsing.{bind_good}
use Rattle.lines.proofs.Sound.{bind_inv, row_sound, row_gives, accepted_is}
use Rattle.lines.proofs.Complete.{row_complete, text_complete}
use Rattle.lines.proofs.Writing.{line_short}
use Rattle.model.specs.Model.{Job, Plan}
use Rattle.model.specs.Verdict.{changes_at, Shaped}
use Rattle.base.proofs.Bools.{inside}
use Rattle.jobs.specs.Valid.{ValidJob}
use Rattle.base.proofs.Lists.{map_at}
use Rattle.plan_grammar.specs.Grammar.{Visit, Stated, plan_of, plan_lines, max_bytes}
use Rattle.plan_grammar.specs.Rendering.{visits_of, plan_text_lem, plan_lines_of}
use Rattle.plan_grammar.proofs.Valid.{ValidVisits, Valid}
use Rattle.plan_grammar.proofs.Shapes.{made_shaped}
use Rattle.plan_grammar.proofs.Accepted.{lines_tell}
use Rattle.plan_grammar.proofs.Back.{visits_back}
use Rattle.plan_grammar.proofs.Printed.{lines_back}
use Rattle.plan_grammar.proofs.Lengths.{valid_short}
use Rattle.carry.specs.Carry.{Log, passed, Logged}
use Rattle.carry.proofs.Lives.{past_most}
use Rattle.log_grammar.specs.Grammar.{LogText, job_to, past_job_lem, padded, padded_plan, log_of, log_lines, read_log}
use Rattle.log_grammar.specs.Rendering.{log_text_lem, plan_front, log_says}
use Rattle.log_grammar.proofs.Past.{front_padded, padded-length, padded_front, padded_had, padded_has, to_valid, front_shaped, same_visits}

-- how many openings are past is at most all
pub few_passed : (job : Job) (step : ℕ) → passed job step ≤ length job.openings
few_passed job step = past_most job (record { step = step; cost = 0; plan = record { stops = []; changes = [] } })

-- ---- a plan over the first openings, padded

module _ (job : Job) (n : ℕ) (fits : n ≤ length job.openings) (plan : Plan) (shaped : Shaped (job_to n job) plan) where
  abbrev m : ℕ
  m = length job.openings

  opening_count_lem2 : length (job_to n job).openings ≡ n
  opening_count_lem2 = length-take-le n job.openings fits

  part_count : length (job_to n job).parts ≡ length job.parts
  part_count = length-map job.parts _

  stops_size : length plan.stops ≡ n
  stops_size = shaped.stops ∙ opening_count_lem2

  set_size : (i : ℕ) → i < length job.parts → length (changes_at plan i) ≡ n
  set_size i h = shaped.sizes i (omega (arith, part_count)) ∙ opening_count_lem2

  set_at : (i : ℕ) → i < length job.parts → changes_at (padded_plan m plan) i ≡ padded m (changes_at plan i)
  set_at i h = map_at (padded m) plan.changes i [] [] (omega (arith, shaped.parts, part_count))

  padded_shaped : Shaped job (padded_plan m plan)
  padded_shaped = record {
    stops = padded-length m plan.stops (omega (arith, stops_size));
    parts = length-map plan.changes (padded m) ∙ shaped.parts ∙ part_count;
    sizes = λ i h. ap length (set_at i h) ∙ padded-length m (changes_at plan i) (omega (arith, set_size i h));
    at_stops = λ i k h e.
        padded_has m plan.stops k (shaped.at_stops i k (omega (arith, part_count)) (padded_had m (changes_at plan i) k (ap (λ (c : List Bool). get_or c k false) (sym (set_at i h)) ∙ e)));
  }

  padded_stopped : (k : ℕ) → get_or (padded_plan m plan).stops k false ≡ true → k < n
  padded_stopped k e = omega (arith, inside plan.stops k (padded_had m plan.stops k e), stops_size)

  -- and its front is the plan again
  front_again : plan_front n (padded_plan m plan) ≡ plan
  front_again =
      let s = ap (λ (k : ℕ). take k (padded m plan.stops)) (sym stops_size) ∙ padded_front m plan.stops in
      let c = sets plan.changes (λ i h. set_size i (omega (arith, shaped.parts, part_count))) in
      λ i. record { stops = s i; changes = c i }
    where
      sets : (cs : List (List Bool)) → ((i : ℕ) → i < length cs → length (get_or cs i []) ≡ n) → map (take n) (map (padded m) cs) ≡ cs
      sets [] h = refl
      sets (c ∷ cs) h =
          let e = ap (λ (k : ℕ). take k (padded m c)) (sym (h 0 (omega arith))) ∙ padded_front m c in
          let r = sets cs (λ i l. h (suc i) (omega arith)) in
          λ i. e i ∷ r i

  -- visits that make it are those of the padded plan
  visits_whole : ValidJob job → (vs : List Visit) → ValidVisits (job_to n job) vs → plan_of (job_to n job) vs ≡ plan → vs ≡ visits_of job (padded_plan m plan)
  visits_whole ok vs v makes =
      sym (visits_back (job_to n job) (to_valid n job fits ok) vs v)
      ∙ ap (visits_of (job_to n job)) (makes ∙ sym front_again)
      ∙ same_visits n job fits (padded_plan m plan) padded_shaped padded_stopped

-- ---- a log

-- what an accepted log text means: a log of the job, within the range of its cost, whose text it is; and that the plan of its lines is that log's, as far as the openings that are past
pub record Tells (job : Job) (s : List ℕ) (t : LogText) : Type 0 where
  -- the log that the text means is one of the job, as the grammar guarantees
  pub logged : Logged job (log_of job t)
  -- the stated cost is at most 4,000,000,000
  pub cost : t.stated.cost ≤ 4000000000
  pub text : s ≡ log_text_lem job (log_of job t)
  -- the log's plan at the openings that are past is the plan of the text's lines
  pub front : plan_front (passed job t.step) (log_of job t).plan ≡ t.stated.plan

-- what is accepted as a log is valid, and its text is what was read
pub log_tells : (job : Job) → ValidJob job → (s : List ℕ) (t : LogText) → read_log job s ≡ accepted t → Tells job s t
unfolding log_lines return log_text_lem plan_lines_of
log_tells job ok s t e =
    let a = accepted_is max_bytes (log_lines job) s t e in
    let b = bind_inv (row "step=" 1 (job.horizon - 2)) _ s [] 1 a.last t a.lines in
    let d = bind_inv (plan_lines (past_job_lem job b.a)) _ b.mid [] b.at a.last t b.second in
    let x : record { step = b.a; stated = d.a } ≡ t = cc d.second in
    let y : d.mid ≡ [] = cc d.second in
    let k = row_gives _ 1 (job.horizon - 2) s b.mid 1 b.at b.a b.first in
    let n = passed job b.a in
    let fits = few_passed job b.a in
    let told = lines_tell (past_job_lem job b.a) b.mid d.mid b.at d.at d.a d.first in
    let v = told.valid in
    let plan = d.a.plan in
    let shaped = made (job_to n job) d.a v in
    let ws = visits_whole job n fits plan shaped ok v.vs v.visits v.makes in
    subst (Tells job s) x (record {
      logged = record { step_low = k.0; step_high = omega (arith, k.0, k.1); shaped = padded_shaped job n fits plan shaped; stopped = padded_stopped job n fits plan shaped };
      cost = v.cost;
      text = behind s b.mid d.mid b.a d.a.cost v.vs _ (row_sound _ 1 (job.horizon - 2) s b.mid 1 b.at b.a b.first) told.text y ws;
      front = front_again job n fits plan shaped;
    })
  where
    made : (over : Job) (stated : Stated) → Valid over stated → Shaped over stated.plan
    made over stated v = subst (Shaped over) v.makes (made_shaped over v.vs)

    -- the line `step`, the lines of visits, and nothing
    behind : (s mid rest : List ℕ) (step cost : ℕ) (vs ws : List Visit) → s ≡ line_of "step=" step ++ mid → mid ≡ plan_text_lem cost vs ++ rest → rest ≡ [] → vs ≡ ws → s ≡ line_of "step=" step ++ plan_text_lem cost ws
    behind s mid rest step cost vs ws e f g h =
        e ∙ ap (λ (r : List ℕ). line_of "step=" step ++ r) (f ∙ ap (λ (r : List ℕ). plan_text_lem cost vs ++ r) g ∙ append-nil (plan_text_lem cost vs) ∙ ap (plan_text_lem cost) h)

-- what the text of a log says means that log
pub says_log : (job : Job) (log : Log) → Logged job log → log_of job (log_says job log) ≡ log
says_log job log l =
    let n = passed job log.step in
    let m = length job.openings in
    let fits = few_passed job log.step in
    let s = front_padded m n log.plan.stops l.shaped.stops fits l.stopped in
    let c = sets n m log.plan.changes fits
    (λ i h. let q : i < length job.parts = omega (arith, l.shaped.parts) in (l.shaped.sizes i q, λ k e. l.stopped k (l.shaped.at_stops i k q e))) in
    λ i. record { step = log.step; cost = log.cost; plan = record { stops = s i; changes = c i } }
  where
    sets : (n m : ℕ) (cs : List (List Bool)) → n ≤ m → ((i : ℕ) → i < length cs → (length (get_or cs i []) ≡ m) × ((k : ℕ) → get_or (get_or cs i []) k false ≡ true → k < n))
        → map (padded m) (map (take n) cs) ≡ cs
    sets n m [] fits h = refl
    sets n m (c ∷ cs) fits h =
        let e = front_padded m n c (h 0 (omega arith)).0 fits (h 0 (omega arith)).1 in
        let r = sets n m cs fits (λ i l. h (suc i) (omega arith)) in
        λ i. e i ∷ r i

-- the text of a log is read back
pub log_back : (job : Job) → ValidJob job → (log : Log) → Logged job log → log.cost ≤ 4000000000 → read_log job (log_text_lem job log) ≡ accepted (log_says job log)
unfolding log_lines return log_text_lem plan_lines_of bytes
log_back job ok log l cost =
    let n = passed job log.step in
    let fits = few_passed job log.step in
    let past = job_to n job in
    let shaped = front_shaped n job fits log.plan l.shaped in
    let plan = plan_front n log.plan in
    let lines = plan_lines_of job log.cost log.plan in
    let same : plan_lines_of past log.cost plan ≡ lines = ap (plan_text_lem log.cost) (same_visits n job fits log.plan l.shaped l.stopped) in
    let a = row_complete (bytes "step=") 1 (job.horizon - 2) (omega (arith, ok.horizon_high)) log.step (l.step_low, omega (arith, l.step_high)) lines 1 in
    let b = lines_back past (to_valid n job fits ok) log.cost plan cost shaped [] a.0 in
    text_complete max_bytes (log_lines job) (log_text_lem job log) (log_says job log) b.0 short
    (bind_good (row "step=" 1 (job.horizon - 2)) _ a.1
    ∙ bind_good (plan_lines past) _ (ap (λ (t : List ℕ). plan_lines past t a.0) (sym same ∙ sym (append-nil (plan_lines_of past log.cost plan))) ∙ b.1))
  where
    short : length (log_text_lem job log) ≤ max_bytes
    short =
        omega (
          arith,
          length-append (line_of "step=" log.step) (plan_lines_of job log.cost log.plan),
          line_short (bytes "step=") 2 log.step (omega (arith, l.step_high, ok.horizon_high)),
          valid_short job ok log.cost log.plan (omega arith) (omega (arith, l.shaped.parts, ok.few_parts)),
        )
