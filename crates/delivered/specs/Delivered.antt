-- docs/SPECIFICATION.md, sentence by sentence: what no call's own promise states. A field is named by its clause; docs/PROMISES.md has a row for each. A request adds its fields at the end, and their proofs in `proofs/Delivered`.
use Rattle.std.specs.Prelude.{ℕ, ◌+◌, ◌^◌, ◌≤◌, ◌<◌, ◌≡◌, Bool, true, false, List, [], ◌++◌, map, ◌⊎◌, ◌↔◌, length, get_or, replicate, pos, Option, None, ◌∷◌}
use Rattle.branch.specs.declared.Bound.TheVariants.{Missing, Sum}
use Rattle.branch.specs.Search.{whole}
use Rattle.lines.specs.Text.{bytes, line_of}
use Rattle.lines.specs.Parser.{accepted, refused}
use Rattle.model.specs.Model.{Part, Job, Plan, running, clock, end, within, comes_out, Chain, out_at, sum_at, sum, fee_of, removal_of_lem, prices_of_lem, cost_of_lem, KeepsPart, Each, KeepsLives, HasPlan, listed}
use Rattle.model.specs.Limits.{max_bytes, last_step, most_openings, most_cost}
use Rattle.model.specs.Decisions.{Held}
use Rattle.model.specs.LowerBound.{stops_at, places_at, part_bound, undecided_fees, part_fee, bound_of}
use Rattle.model.specs.Estimate.{LeastOver}
use Rattle.model.specs.Earlier.{old_tree, old_answer}
use Rattle.model.specs.Promise.{PlannerAnswer, optimum, whole_count, answer_of, Promise}
use Rattle.model.specs.Verdict.{Judgement, accepts, judged_of, JudgementPromise, part_at, changes_at, LowestUnkept, Shaped}
use Rattle.model.specs.Due.{late_part, change_before_gap}
use Rattle.published.specs.Dismounting.{Dismounts}
use Rattle.published.specs.Published.{Published, PublishedRunning, Tied}
use Rattle.published.specs.Tables.{table1, table2, table3, table4}
use Rattle.bands.specs.Bands.{CostBand}
use Rattle.base.specs.Each.{All}
use Rattle.price_rules.specs.Rule.{Rule, rule_price, stated_price}
use Rattle.part_lines.specs.Behind.{BehindParts}
use Rattle.job_grammar.specs.Grammar.{JobText, Given, meant, read_job_lem, read_job_text}
use Rattle.job_grammar.specs.Grammar as job
use Rattle.job_grammar.specs.Rendering.{job_text_lem}
use Rattle.job_grammar.specs.Valid.{ValidText}
use Rattle.job_grammar.specs.Reading.{JobReading, job_in}
use Rattle.job_grammar.specs.Faults.{JobFault}
use Rattle.plan_grammar.specs.Grammar.{Stated, nothing, read_plan_lem}
use Rattle.plan_grammar.specs.Rendering.{step_at, visits_of, plan_lines_of}
use Rattle.plan_grammar.specs.Faults.{PlanFault}
use Rattle.answers.specs.Said.{Said, plainly, lent}
use Rattle.judging.specs.Judge.{judge_said, judge_room}
use Rattle.judging.specs.Promise as judging
use Rattle.planning.specs.Plan.{plan_said, plan_room}
use Rattle.latest.specs.Latest.{LatestAnswer, latest_answer_of}
use Rattle.latest.specs.Promise.{LatestPromise}
use Rattle.serving.specs.Serve.{latest_said}
use Rattle.carry.specs.Carry.{Log, passed, Logged, carried}
use Rattle.carry.specs.Answer.{CarryAnswer, answer_to}
use Rattle.carry.specs.Promise.{LogPromise}
use Rattle.carry.specs.Start.{Starts, rest_of}
use Rattle.log_grammar.specs.Grammar.{LogText, log_of, read_log}
use Rattle.log_grammar.specs.Rendering.{log_text_lem, log_says}
use Rattle.optimizing.specs.Promise.{OptimumPromise}
use Rattle.carry_texts.specs.Carries.{Carries, joined_lines}
use Rattle.carry_texts.specs.Carries as carries
use Rattle.carrying.specs.Carry.{carry_said}
use Rattle.carrying.specs.Promise as carrying
use Rattle.hall_model.specs.Hall.{Hall, Proper, KeepsAll, hall_cost}
use Rattle.hall_model.specs.LowerBound.{hall_bound}
use Rattle.hall_model.specs.Limits.{most_hall_bytes, Fits}
use Rattle.hall_model.specs.Promise.{HallAnswer, hall_answer, HallAnswerPromise}
use Rattle.hall_grammar.specs.Grammar.{HallText, meant_hall, read_hall_text}
use Rattle.hall_grammar.specs.Rendering.{hall_text}
use Rattle.hall_grammar.specs.Valid.{ValidHall}
use Rattle.hall_grammar.specs.Faults.{HallFault}
use Rattle.hall_planning.specs.Hall.{hall_said}
use Rattle.form.specs.Form.{Form, read_form}
use Rattle.form.specs.Promise.{openings_line, parts_line}
use Rattle.alike.specs.Alike.{AnsweredAlike, with_walk, WalkSetAside, rules_out, RulesOut}
use Rattle.before_holders.specs.AsBefore.{AsBefore}
use Rattle.starred.specs.Table.{CaseHolds, Counts, cases, counts}
use Rattle.delivered.specs.FirstLines.{first_lines, breaks}
use Rattle.delivered.specs.Fourteen.{lines_before, MisfitAt, FaultIn}
use Rattle.delivered.specs.Terms.{floors, log_front, SomeLost, Meets, StatesObjective, Feasible, Cheapest, KeptLines}
use Rattle.delivered.specs.AtFault.{job_kinds, plan_kinds, log_kinds, hall_kinds, job_rules, plan_rules, hall_rules, AtFault}
use Rattle.delivered.specs.Results.{Results}

-- the record of all promises: a field for each sentence of the papers that no call's own promise states
pub record Delivered : Type 0 where
  -- ---- the model

  -- M8. "So a part with R of T + 1 or more needs no change."
  pub M8_no_change : (job : Job) (part : Part) (stops : List Bool) → job.horizon + 1 ≤ part.left → KeepsPart job stops part (replicate (length job.openings) false)
  -- M9. "With R at most L this equals those windows of 001 that end by step T.": of every accepted job without idle steps, a plan keeps the lives exactly if it meets (2) and (3) of 001 and (1c) of 000, and its cost is the objective (1)
  pub M9_published : (text : List ℕ) (r : JobReading text) (plan : Plan) → (job_in r).idles ≡ [] → Tied (job_in r) plan (Published (job_in r) plan)
  -- E1.1, E1.4. "Lives are now counted in running steps.": the same of every accepted job, over windows of running steps
  pub E1_4_published : (text : List ℕ) (r : JobReading text) (plan : Plan) → Tied (job_in r) plan (PublishedRunning (job_in r) plan)
  -- E1.4. "step T + 1 runs"
  pub E1_4_end_runs : (text : List ℕ) (r : JobReading text) → end (job_in r) ≡ pos (running (job_in r).idles (job_in r).horizon + 1)
  -- ---- the demands, by the published constraints and objective

  -- D5. "Lives and costs are those of the published model. The judge accepts exactly if the job is accepted, the plan text has no fault, and the plan keeps every life and states its true cost."
  pub D5_judge : (job plan : List ℕ) (room : ℕ)
      → ((lent judge_room room (judge_said job plan)).result ≡ 0) ↔ ((judge_room ≤ room) × ((r : judging.PlanReading job plan) × (Meets r × StatesObjective r)))
  -- D5. "The planner says 6 exactly if the job is accepted and has no plan."
  pub D5_planner : (text : List ℕ) (walk room : ℕ) → ((lent plan_room room (plan_said text walk)).result ≡ 6) ↔ ((plan_room ≤ room) × ((r : JobReading text) × (Feasible (job_in r) → ⊥)))
  -- D6, D7, T1 to T3. "result 0, and a plan that keeps every life, states its true cost, is of least cost and the tie rule's choice": "Least cost is over all plans of the model"
  pub D6_least : (text : List ℕ) (walk room : ℕ) → (lent plan_room room (plan_said text walk)).result ≡ 0 → (r : JobReading text) → Cheapest r.given (lent plan_room room (plan_said text walk))
  -- D1. "for each input, every byte and number handed over": no other answer keeps the model's promise of the planner, nor that of the judge
  pub D1_planner : (job : Job) (limit : ℕ) (answer : PlannerAnswer) → Promise job limit answer → answer ≡ answer_of job limit
  pub D1_judge : (job : Job) (plan : Plan) (cost : ℕ) (j : Judgement) → JudgementPromise job cost plan j → j ≡ judged_of job cost plan
  -- D1. an accepted job text is answered by what it means: two that mean the same are answered alike
  pub D1_by_meaning : (s s' : List ℕ) (t t' : JobText) → read_job_text s ≡ accepted t → read_job_text s' ≡ accepted t' → meant t ≡ meant t' → AnsweredAlike s s'
  -- ---- the estimate

  -- W2. "for each part, the least price of a change set that keeps it over the yes openings and all undecided ones"
  pub W2_least : (job : Job) (held : Held) (p : List Bool) → LeastOver job held.part held.part.prices (places_at job held p) (part_bound job held p)
  -- W3. "If some part has none, the estimate is missing.", and only then
  pub W3_missing : (job : Job) (p : List Bool) → (bound_of job p ≡ Missing) ↔ SomeLost job p
  -- W11. "The floor is the first point's estimate": no plan costs less
  pub W11_floor : (job : Job) (plan : Plan) → KeepsLives job plan → (floor : ℕ) × (bound_of job [] ≡ Sum floor) × (floor ≤ cost_of_lem job plan)
  -- E4.1. "For each part, take the least total fee of undecided openings in any change set that keeps it over the yes and undecided openings."
  pub E4_1_least : (job : Job) (held : Held) (p : List Bool) → LeastOver job held.part (undecided_fees (map fee_of job.openings) (stops_at job p)) (places_at job held p) (part_fee job held p)
  -- E4.4. "On every job the new walk has no more points than the old one"
  pub E4_4_fewer : (job : Job) → whole_count job ≤ length (whole (old_tree job)).nodes
  -- E4.4. "and, if both finish, the plan is the same": where the old walk finishes so does the new one, with no more points and no lower floor
  pub E4_4_same_plan : (job : Job) (limit nodes floor cost : ℕ) (plan : Plan) → old_answer job limit ≡ optimum nodes floor cost plan
      → (n f : ℕ) × (answer_of job limit ≡ optimum n f cost plan) × (n ≤ nodes) × (floor ≤ f)
  -- ---- the texts

  -- X3, X5. the job's lines and ranges: the accepted texts are exactly the lines of the valid records, each read as its own
  pub X3_exactly : (text : List ℕ) (t : JobText) → (read_job_text text ≡ accepted t) ↔ (ValidText t × (text ≡ job_text_lem t))
  -- X4, X6, M10. the plan's: what an accepted text states is a plan of the job, and the text is that plan's lines, or E5's empty one
  pub X4_read : (text : List ℕ) (r : JobReading text) (plan : List ℕ) (stated : Stated) → read_plan_lem (job_in r) plan ≡ accepted stated
      → Shaped (job_in r) stated.plan × (((plan ≡ []) × (nothing (job_in r) ≡ stated)) ⊎ (plan ≡ plan_lines_of (job_in r) stated.cost stated.plan))
  -- X4. and the lines of any plan of the job are accepted, and read as that plan
  pub X4_back : (text : List ℕ) (r : JobReading text) (cost : ℕ) (plan : Plan) → cost ≤ most_cost → Shaped (job_in r) plan
      → read_plan_lem (job_in r) (plan_lines_of (job_in r) cost plan) ≡ accepted (record { cost = cost; plan = plan })
  -- E2.5. "The longest has 22,109 bytes.": with E11's pairs 33,373
  pub E2_5_longest : (text : List ℕ) (t : JobText) → read_job_text text ≡ accepted t → length text ≤ 33373
  pub E2_5_reached : (text : List ℕ) × (t : JobText) × (read_job_text text ≡ accepted t) × (length text ≡ 33373)
  -- R1 to R5, R12, R13. a job text's faults: no other number, and no line beyond those that a text can have and one (`R21_job`: its own and one)
  pub R1_job_fault : (text : List ℕ) (number line : ℕ) → read_job_lem text ≡ refused number line → JobFault number × (line ≤ job.max_bytes + 1)
  -- R1 to R3, R9. a plan text's
  pub R1_plan_fault : (job : Job) (text : List ℕ) (number line : ℕ) → read_plan_lem job text ≡ refused number line → PlanFault number × (line ≤ max_bytes + 1)
  -- E5.1. "An empty plan text means a plan of no stops and cost 0."
  pub E5_1_nothing : (job : Job) → read_plan_lem job [] ≡ read_plan_lem job (bytes "cost=0\nstops=0\n")
  -- ---- the due step

  -- R10, E1.7. "the last step at which a change would still have kept it": of the steps of the horizon, those up to it are in time, and no other
  pub R10_due_last : (job : Job) (plan : Plan) (part due : ℕ) (late : LowestUnkept job plan part due) (step : ℕ) → step ≤ job.horizon
      → (within (pos (late_part late).life) (change_before_gap late) (clock job step) ≡ true) ↔ (step ≤ due)
  -- ---- holders

  -- E7.3. "Holders work through chains, as in S1 and unlike the direct rule of S2."
  pub E7_3_chains : (job : Job) (i j : ℕ) → i < length job.parts → j < length job.parts → (get_or (comes_out job i) j false ≡ true) ↔ Chain job i j
  -- E7.4. "Changing a part removes it and all its holders": what comes out may be dismounted by (4) and (5) of S1,
  pub E7_4_dismounts : (job : Job) (changes : List (List Bool)) (k : ℕ) → Dismounts job changes k (out_at job changes k)
  -- and every set that may has it in it
  pub E7_4_least : (job : Job) (changes : List (List Bool)) (k : ℕ) (out : List Bool) → Dismounts job changes k out
      → (j : ℕ) → get_or (out_at job changes k) j false ≡ true → get_or out j false ≡ true
  -- E7.4. "each removed part costs its removal once at that stop": so a plan's cost is its least in S1
  pub E7_4_cost : (job : Job) (plan : Plan) (outs : ℕ → List Bool) → ((k : ℕ) → k < length job.openings → Dismounts job plan.changes k (outs k))
      → cost_of_lem job plan ≤ sum_at (map fee_of job.openings) plan.stops + prices_of_lem job.parts plan.changes + sum 0 (length job.openings) (λ k. sum_at (map removal_of_lem job.parts) (outs k))
  -- E7.9. "Holders may run in a circle; they then come out together."
  pub E7_9_together : (job : Job) (i j : ℕ) → i < length job.parts → j < length job.parts → Chain job i j → Chain job j i → comes_out job i ≡ comes_out job j
  -- E7.13. "With no holders and removals of 0, every printed answer to texts that were free of faults before is the one given before."
  pub E7_13_as_before : AsBefore
  -- ---- cases

  -- D9, C1 to C12, E4.3, E6.4. "the starred ones and the job above form one table of definitions with one proof"
  pub D9_cases : All CaseHolds cases × All Counts counts
  -- E7.11. "The judge must price the plan of Table 2 in 001 at 4100."
  pub E7_11_table_2 : judged_of (table1 10) 4100 table2 ≡ accepts 4100
  -- D9. "the plan tables 2, 3 and 4 of 001 (4100, 5180, 11690)"
  pub D9_table_3 : judged_of (table1 100) 5180 table3 ≡ accepts 5180
  pub D9_table_4 : judged_of (table1 1000) 11690 table4 ≡ accepts 11690
  -- E10. "A job's `walk` line, if it still stands, is checked as before and set aside."
  pub E10_aside : WalkSetAside
  -- E8.2. "Opening number k, counted from 0, then has price base minus k times drop, or least if that is larger.": the clause in integers
  pub E8_2_price : (r : Rule) (k : ℕ) → pos (rule_price r k) ≡ stated_price r k
  -- E8.5. "plans and verdicts are those of the job with the lines written out"
  pub E8_5_written_out : RulesOut
  -- E11. "For every choice of prices within the bands the plan's cost lies between the two.": of every accepted text and every plan
  pub E11_band : (text : List ℕ) (t : JobText) → read_job_text text ≡ accepted t → (plan : Plan) → CostBand (meant t).low (meant t).job plan
  -- E12.4. "From here on `left` may be 0: change before the next running step; if step 1 runs, `due` is then 0."
  pub E12_4_due : (text : List ℕ) (r : JobReading text) (plan : Plan) (part due : ℕ) (late : LowestUnkept (job_in r) plan part due) → (late_part late).left ≡ 0 → listed (job_in r).idles 1 ≡ false → due ≡ 0
  -- E12.4. and then no plan keeps the part
  pub E12_4_no_plan : (text : List ℕ) (r : JobReading text) (i : ℕ) → i < length (job_in r).parts → (part_at (job_in r) i).left ≡ 0 → listed (job_in r).idles 1 ≡ false → HasPlan (job_in r) → ⊥
  -- E13.1. "If carrying on by a first log and then by a second is accepted both times, carrying on by the joined log shall be accepted and give the identical job text.": E13.2. the joined log of what the two texts say
  pub E13_1_joined : (job first next second last : List ℕ) → carry_said job first ≡ plainly 0 next → carry_said next second ≡ plainly 0 last
      → (a : Carries job first next) × (b : Carries next second last) × (carry_said job (joined_lines a b) ≡ plainly 0 last)
  -- ---- a hall

  -- E14.2, E14.3. the accepted hall texts are those of the valid records with at most 65,536 bytes, each read as its own
  pub E14_2_exactly : (text : List ℕ) (t : HallText) → (read_hall_text text ≡ accepted t) ↔ (ValidHall t × (text ≡ hall_text t) × (length text ≤ most_hall_bytes))
  -- E14.10. what is accepted means a hall whose lines have the first one's horizon and idles, with at most 16 parts and 64 openings
  pub E14_10_lines : (text : List ℕ) (t : HallText) → read_hall_text text ≡ accepted t → Proper (meant_hall t) × Fits (meant_hall t)
  -- E14.10. a hall text's fault has a job's number or 14, and its line is none beyond those that a text can have and one (`R21_hall`: its own and one)
  pub E14_10_fault : (text : List ℕ) (n line : ℕ) → read_hall_text text ≡ refused n line → HallFault n × (line ≤ most_hall_bytes + 1)
  -- E14.10. "14 for a job whose horizon or idles differ from the first job's, or which takes the hall past 16 parts or 64 openings": a text that begins with jobs that fit and then such a job, valid in itself, is refused with 14, "on that
  -- job's first line", whatever stands behind the job's lines but a line that would still be one of its last part (where that has prices or a rule there is none): so 14 comes "before any on the lines behind the job"
  pub E14_10_14_line : (text : List ℕ) (line : ℕ) → MisfitAt text line → length text ≤ most_hall_bytes → read_hall_text text ≡ refused 14 line
  -- E14.10. and 14 is said of no other text, and on no other line: the job at fault is valid, so 14 comes "after the job's own faults"
  pub E14_10_14_only : (text : List ℕ) (line : ℕ) → read_hall_text text ≡ refused 14 line → MisfitAt text line
  -- D1. an accepted hall text is answered by what it means: two that mean the same hall get the same numbers and bytes, so a `walk` line (E10) or a rule (E8) among a job's lines changes no answer
  pub D1_halls : (s s' : List ℕ) (t t' : HallText) → read_hall_text s ≡ accepted t → read_hall_text s' ≡ accepted t' → meant_hall t ≡ meant_hall t' → (walk : ℕ) → hall_said s walk ≡ hall_said s' walk
  -- E14.6 to E14.9. 6 exactly if some line has no plan; 0, or 7 exactly if the whole walk has more points; the best hall plan; with call 0 "the sum of the lines' own least costs"
  pub E14_9_hall : (hall : Hall) → Proper hall → (limit : ℕ) → HallAnswerPromise hall limit (hall_answer hall limit)
  -- D1. and no other answer keeps that promise
  pub D1_hall : (hall : Hall) → Proper hall → (limit : ℕ) (answer : HallAnswer) → HallAnswerPromise hall limit answer → answer ≡ hall_answer hall limit
  -- ---- the latest-time habit, and carrying on

  -- E9.2. "of which only the stops count": plan texts with the same stops are answered alike
  pub E9_2_stops : (job plan other : List ℕ) (given : Given) (s t : Stated) → read_job_lem job ≡ accepted given → read_plan_lem given.job plan ≡ accepted s → read_plan_lem given.job other ≡ accepted t
      → s.plan.stops ≡ t.plan.stops → latest_said job plan ≡ latest_said job other
  -- D1. no other answer keeps the promise of the latest-time habit,
  pub D1_latest : (text : List ℕ) (r : JobReading text) (stops : List Bool) → length stops ≡ length (job_in r).openings
      → (answer : LatestAnswer) → LatestPromise (job_in r) stops answer → answer ≡ latest_answer_of (job_in r) stops
  -- nor that of carrying on
  pub D1_carry : (job : Job) (log : Log) → Logged job log → (answer : CarryAnswer) → LogPromise job log answer → answer ≡ answer_to job log
  -- R1 to R3, R9. a log's faults
  pub R1_log_fault : (job : Job) (text : List ℕ) (number line : ℕ) → read_log job text ≡ refused number line → PlanFault number × (line ≤ max_bytes + 1)
  -- E12.1. "a line `step` 1..T − 2 (else 3) and then plan lines, never left out (else 2), with no stop after that step (else 9)": what is accepted means a log of the job, and is its text
  pub E12_1_read : (text : List ℕ) (r : JobReading text) (log : List ℕ) (said : LogText) → read_log (job_in r) log ≡ accepted said
      → Logged (job_in r) (log_of (job_in r) said) × (log ≡ log_text_lem (job_in r) (log_of (job_in r) said))
  -- E12.1. and the text of any log of the job is accepted, and means that log
  pub E12_1_back : (text : List ℕ) (r : JobReading text) (log : Log) → Logged (job_in r) log → log.cost ≤ most_cost
      → (read_log (job_in r) (log_text_lem (job_in r) log) ≡ accepted (log_says (job_in r) log)) × (log_of (job_in r) (log_says (job_in r) log) ≡ log)
  -- E12.6. "If the log is the start of a plan the planner printed with 0": at its true cost it is never refused,
  pub E12_6_told : (text log : List ℕ) (r : carrying.LogReading text log) (limit nodes floor cost : ℕ) (plan : Plan) → answer_of (carrying.job_in r) limit ≡ optimum nodes floor cost plan
      → Starts (carrying.job_in r) (carrying.done_in r) plan → r.said.stated.cost ≡ carrying.true_cost r → (carry_said text log).result ≡ 0
  -- and for each step that a log may have, each such plan has such a log
  pub E12_6_there : (text : List ℕ) (t : JobText) → read_job_text text ≡ accepted t → (limit nodes floor cost : ℕ) (plan : Plan) → answer_of (meant t).job limit ≡ optimum nodes floor cost plan → (step : ℕ) → 1 ≤ step → step + 2 ≤ t.horizon
      → (log : List ℕ) × (r : carrying.LogReading text log) × (r.said.step ≡ step) × Starts (carrying.job_in r) (carrying.done_in r) plan × (r.said.stated.cost ≡ carrying.true_cost r)
  -- E10. the `walk` line is set aside where a job is carried on, too,
  pub E10_carried : (s s' log : List ℕ) (t : JobText) (walk : Option ℕ) → read_job_text s ≡ accepted t → read_job_text s' ≡ accepted (with_walk walk t) → carry_said s log ≡ carry_said s' log
  -- E8.5, E12.3. and so a rule is carried on as its lines written out
  pub E8_5_carried : (s log : List ℕ) (t : JobText) → read_job_text s ≡ accepted t → carry_said s log ≡ carry_said (job_text_lem (rules_out t)) log
  -- E12.3. "A part given by E8's rule is written with `price` lines; a `walk` line is not written; every other form is kept."
  pub E12_3_forms : (job log next : List ℕ) (c : Carries job log next) → (t : JobText) × (read_job_text next ≡ accepted t) × (t.walk ≡ None)
      × Each (KeptLines (length c.text.openings) (passed (carries.job_in c) (carries.done_in c).step)) c.text.parts t.parts
  -- ---- the first bad line

  -- R20. "line by line, first bad line": a text's fault is that of every text with the same lines up to the line at fault, whatever stands behind it; of a job text,
  pub R20_job_line : (text other : List ℕ) (number line : ℕ) → read_job_lem text ≡ refused number line → length text ≤ job.max_bytes → length other ≤ job.max_bytes → first_lines line other ≡ first_lines line text
      → read_job_lem other ≡ refused number line
  -- of a plan text,
  pub R20_plan_line : (job : Job) (text other : List ℕ) (number line : ℕ) → read_plan_lem job text ≡ refused number line → length text ≤ max_bytes → length other ≤ max_bytes → first_lines line other ≡ first_lines line text
      → read_plan_lem job other ≡ refused number line
  -- and of a log
  pub R20_log_line : (job : Job) (text other : List ℕ) (number line : ℕ) → read_log job text ≡ refused number line → length text ≤ max_bytes → length other ≤ max_bytes → first_lines line other ≡ first_lines line text
      → read_log job other ≡ refused number line
  -- of a hall text too, but for 14, which the job's further lines decide
  pub R20_hall_line : (text other : List ℕ) (number line : ℕ) → read_hall_text text ≡ refused number line → (number ≡ 14 → ⊥) → length text ≤ most_hall_bytes → length other ≤ most_hall_bytes
      → first_lines line other ≡ first_lines line text → read_hall_text other ≡ refused number line
  -- R20, R21. the line at fault is one of the text's lines, or the next: of a job text,
  pub R21_job : (text : List ℕ) (number line : ℕ) → read_job_lem text ≡ refused number line → length text ≤ job.max_bytes → line ≤ breaks text + 1
  -- of a plan text,
  pub R21_plan : (job : Job) (text : List ℕ) (number line : ℕ) → read_plan_lem job text ≡ refused number line → length text ≤ max_bytes → line ≤ breaks text + 1
  -- of a log,
  pub R21_log : (job : Job) (text : List ℕ) (number line : ℕ) → read_log job text ≡ refused number line → length text ≤ max_bytes → line ≤ breaks text + 1
  -- and of a hall text
  pub R21_hall : (text : List ℕ) (number line : ℕ) → read_hall_text text ≡ refused number line → length text ≤ most_hall_bytes → line ≤ breaks text + 1
  -- ---- the optimum

  -- D1. two accepted job texts that mean the same, both answered 0, at any walk numbers and in any rooms, get the same bytes: so a `walk` line (E10) or a rule (E8) changes none
  pub D1_optimum : (s s' : List ℕ) (t t' : JobText) → read_job_text s ≡ accepted t → read_job_text s' ≡ accepted t' → meant t ≡ meant t' → (walk walk' room room' : ℕ) (a b : Said)
      → OptimumPromise s walk room a → OptimumPromise s' walk' room' b → a.result ≡ 0 → b.result ≡ 0 → a.bytes ≡ b.bytes
  -- ---- a hall, against its lines' own texts

  -- E14.2, E14.10. "its lines counted through", "after the job's own faults": behind jobs that fit, a job's fault is the one that it has as a job text alone, on that line counted through, whatever stands behind it
  pub E14_2_own_fault : (text alone : List ℕ) (number at : ℕ) → read_job_lem alone ≡ refused number at → (number ≡ 1 → ⊥) → (f : FaultIn text alone at) → length text ≤ most_hall_bytes → read_hall_text text ≡ refused number (lines_before f.front + at)
  -- E14.5, E14.8. "An estimate is the sum of the lines' estimates and the calls decided.": so the floor is the sum of the lines' own floors, whatever a call costs,
  pub E14_5_floor : (hall : Hall) → hall_bound hall [] ≡ floors (map (λ (job : Job). bound_of job []) hall.jobs)
  -- W11. and no hall plan costs less, with calls included
  pub E14_5_least : (hall : Hall) → Proper hall → (plans : List Plan) → KeepsAll hall plans → (floor : ℕ) × (hall_bound hall [] ≡ Sum floor) × (floor ≤ hall_cost hall plans)
  -- ---- a log's faults, and a part with nothing left

  -- E12.1. "a line `step` 1..T − 2 (else 3)", whatever stands behind it
  pub E12_1_step : (text : List ℕ) (r : JobReading text) (step : ℕ) (behind : List ℕ) → step < 10 ^ 10 → (step ≡ 0) ⊎ ((job_in r).horizon < step + 2) → length (line_of "step=" step ++ behind) ≤ max_bytes
      → read_log (job_in r) (line_of "step=" step ++ behind) ≡ refused 3 1
  -- "and then plan lines, never left out (else 2)": of no lines, and of the step's alone
  pub E12_1_left_out : (text : List ℕ) (r : JobReading text) → (read_log (job_in r) [] ≡ refused 2 1) × ((step : ℕ) → 1 ≤ step → step + 2 ≤ (job_in r).horizon → read_log (job_in r) (line_of "step=" step) ≡ refused 2 2)
  -- "with no stop after that step (else 9)": behind the lines of what is so far a log of the job, on the stop's own line, whatever stands behind it
  pub E12_1_later_stop : (text : List ℕ) (r : JobReading text) (log : Log) → Logged (job_in r) log → log.cost ≤ most_cost → (n stop : ℕ) (behind : List ℕ) → length (visits_of (job_in r) log.plan) < n → n ≤ most_openings → log.step < stop → stop ≤ last_step
      → length (log_front (job_in r) log n ++ (line_of "stop=" stop ++ behind)) ≤ max_bytes → read_log (job_in r) (log_front (job_in r) log n ++ (line_of "stop=" stop ++ behind)) ≡ refused 9 (breaks (log_front (job_in r) log n) + 1)
  -- E12.4. "change before the next running step": a plan that keeps the lives changes a part with nothing left at an opening up to which nothing runs
  pub E12_4_next : (text : List ℕ) (r : JobReading text) (plan : Plan) (i : ℕ) → i < length (job_in r).parts → (part_at (job_in r) i).left ≡ 0 → KeepsLives (job_in r) plan
      → (k : ℕ) × (get_or (changes_at plan i) k false ≡ true) × (running (job_in r).idles (step_at (job_in r) k) ≡ 0)
  -- E12. "Replay what was really done and plan the rest.": each plan that keeps the new job's lives is the rest of one that begins with the log and keeps the whole job's, so the new job has these rests for its plans and no others
  pub E12_2_rests : (job log next : List ℕ) (c : Carries job log next) (rest : Plan) → KeepsLives (carried (carries.job_in c) (carries.done_in c)) rest
      → (plan : Plan) × Starts (carries.job_in c) (carries.done_in c) plan × (rest_of (carries.job_in c) (carries.done_in c) plan ≡ rest) × KeepsLives (carries.job_in c) plan
  -- ---- what a fault's number says of the text

  -- R1. "over 32,768 bytes": 1 is said of the texts that are longer than their limit, and of no other, with line 0: of job texts (E11.5. 40,960),
  pub R1_job : (text : List ℕ) (line : ℕ) → (read_job_lem text ≡ refused 1 line) ↔ ((job.max_bytes < length text) × (line ≡ 0))
  -- of plan texts,
  pub R1_plan : (job : Job) (text : List ℕ) (line : ℕ) → (read_plan_lem job text ≡ refused 1 line) ↔ ((max_bytes < length text) × (line ≡ 0))
  -- of logs,
  pub R1_log : (job : Job) (text : List ℕ) (line : ℕ) → (read_log job text ≡ refused 1 line) ↔ ((max_bytes < length text) × (line ≡ 0))
  -- and of hall texts (E14.3. 65,536)
  pub R1_hall : (text : List ℕ) (line : ℕ) → (read_hall_text text ≡ refused 1 line) ↔ ((most_hall_bytes < length text) × (line ≡ 0))
  -- R3 to R5, R9, R12 to R14, R20. "3: a value outside its range", "on the `left` line", "on its line after 3", "2 before 3 before 4 or 5": what stands on the line at fault, in the text's own bytes, by the fault's number; of a job text,
  pub R3_job : (text : List ℕ) (number line : ℕ) → read_job_lem text ≡ refused number line → length text ≤ job.max_bytes → AtFault job_kinds job_rules text number line
  -- of a plan text,
  pub R3_plan : (job : Job) (text : List ℕ) (number line : ℕ) → read_plan_lem job text ≡ refused number line → length text ≤ max_bytes → AtFault plan_kinds plan_rules text number line
  -- of a log,
  pub R3_log : (job : Job) (text : List ℕ) (number line : ℕ) → read_log job text ≡ refused number line → length text ≤ max_bytes → AtFault (log_kinds job) plan_rules text number line
  -- and of a hall text
  pub R3_hall : (text : List ℕ) (number line : ℕ) → read_hall_text text ≡ refused number line → length text ≤ most_hall_bytes → AtFault hall_kinds hall_rules text number line
  -- R2, R21. "text ends early", "a missing line has the number it would have had": the front of an accepted text that is not accepted itself is refused with 2, on the line that is missing or cut; of a job text,
  pub R2_job_early : (front back : List ℕ) (t : JobText) → read_job_text (front ++ back) ≡ accepted t → ((u : JobText) → read_job_text front ≡ accepted u → ⊥) → read_job_lem front ≡ refused 2 (breaks front + 1)
  -- of a plan text,
  pub R2_plan_early : (job : Job) (front back : List ℕ) (stated : Stated) → read_plan_lem job (front ++ back) ≡ accepted stated → ((u : Stated) → read_plan_lem job front ≡ accepted u → ⊥)
      → read_plan_lem job front ≡ refused 2 (breaks front + 1)
  -- and of a log
  pub R2_log_early : (text : List ℕ) (r : JobReading text) (front back : List ℕ) (said : LogText) → read_log (job_in r) (front ++ back) ≡ accepted said → ((u : LogText) → read_log (job_in r) front ≡ accepted u → ⊥)
      → read_log (job_in r) front ≡ refused 2 (breaks front + 1)
  -- R2, R21. "bytes after the last line are the line after it": behind an accepted job text whatever is no further line of its last part,
  pub R21_job_more : (text : List ℕ) (t : JobText) → read_job_text text ≡ accepted t → (byte : ℕ) (more : List ℕ) → BehindParts t.parts (byte ∷ more) → length (text ++ (byte ∷ more)) ≤ job.max_bytes
      → read_job_lem (text ++ (byte ∷ more)) ≡ refused 2 (breaks text + 1)
  -- and behind an accepted plan text that has lines anything
  pub R21_plan_more : (text : List ℕ) (r : JobReading text) (plan : List ℕ) (stated : Stated) → read_plan_lem (job_in r) plan ≡ accepted stated → (plan ≡ [] → ⊥) → (byte : ℕ) (more : List ℕ) → length (plan ++ (byte ∷ more)) ≤ max_bytes
      → read_plan_lem (job_in r) (plan ++ (byte ∷ more)) ≡ refused 2 (breaks plan + 1)
  -- E2.5. the longest text that the writer writes, which has no `walk` line (E10.5), has 33,357 bytes
  pub E2_5_written : (text : List ℕ) (t : JobText) → read_job_text text ≡ accepted t → t.walk ≡ None → length text ≤ 33357
  pub E2_5_written_reached : (text : List ℕ) × (t : JobText) × (read_job_text text ≡ accepted t) × (t.walk ≡ None) × (length text ≡ 33357)
  -- E2.2, R20. "3 on the `openings` line", "on the `parts` line", "line by line, first bad line": a fault on a line before a form's `openings` line is that of every form with the same horizon and idle steps, whatever its other lists,
  pub E2_2_start : (f g : Form) → g.horizon ≡ f.horizon → g.idles ≡ f.idles → (number line : ℕ) → read_form f ≡ refused number line → line < openings_line f → read_form g ≡ refused number line
  -- and one on a line before its `parts` line that of every form that has the same openings and fees besides
  pub E2_2_openings : (f g : Form) → g.horizon ≡ f.horizon → g.idles ≡ f.idles → g.openings ≡ f.openings → g.fees ≡ f.fees → length f.fees ≡ length f.openings
      → (number line : ℕ) → read_form f ≡ refused number line → line < parts_line f → read_form g ≡ refused number line
  -- R0 to R14. "Result numbers, by who can cause them": each call has the results that its users are told of, and no other
  pub R0_results : Results
