-- Every field of `Delivered`, by the theorem that it is.
use Rattle.model.proofs.Windows.{end_runs}
use Rattle.model.proofs.Offers.{part_bound_is}
use Rattle.model.proofs.Roots.{floor_least}
use Rattle.model.proofs.Sharper.{fewer, same_plan}
use Rattle.model.proofs.Unique.{only}
use Rattle.model.proofs.Verdicts.{judge_only}
use Rattle.model.proofs.Dues.{due_step}
use Rattle.model.proofs.Closure.{chained}
use Rattle.published.proofs.Dismounting.{out_dismounts, out_least, cost_least}
use Rattle.published.proofs.Tables.{judge_4100, judge_5180, judge_11690}
use Rattle.model.specs.Model.{fee_of}
use Rattle.model.specs.Verdict.{changes_at}
use Rattle.model.specs.Due.{late_part}
use Rattle.model.specs.LowerBound.{stops_at, places_at, undecided_fees}
use mathlib.Core.List.{map}
use Rattle.job_grammar.specs.Rendering.{job_text_lem}
use Rattle.bands.proofs.Monotone.{cost_band}
use Rattle.job_grammar.specs.Grammar.{meant}
use Rattle.job_grammar.proofs.Accepted.{valid, valid_text}
use Rattle.delivered.proofs.Published.{text_published, text_published_running}
use Rattle.job_grammar.proofs.Complete.{read_back, accepted_exactly}
use Rattle.job_grammar.proofs.Lengths.{text_short}
use Rattle.job_grammar.proofs.Longest.{longest_text, reached, longest_valid}
use Rattle.job_grammar.proofs.Numbered as jobs
use Rattle.plan_grammar.proofs.Shapes.{shaped}
use Rattle.plan_grammar.proofs.Rendered.{text_is}
use Rattle.plan_grammar.proofs.Printed as printed
use Rattle.plan_grammar.proofs.Numbered as plans
use Rattle.plan_grammar.proofs.Nothing.{nothing_is}
use Rattle.carry.proofs.Worn.{judge_worn, worn_no_plan}
use Rattle.carry.proofs.Answers.{log_only}
use Rattle.latest.proofs.Promised.{latest_answer_only}
use Rattle.counting.proofs.Promised.{ordered}
use Rattle.serving.proofs.Promised.{only_stops}
use Rattle.log_grammar.proofs.Numbered.{log_fault}
use Rattle.log_grammar.proofs.Logs.{log_tells, log_back, says_log}
use Rattle.carrying.proofs.Said.{said_carries, two_or_one_said}
use Rattle.hall_grammar.proofs.Accepted.{accepted_proper, accepted_fits}
use Rattle.hall_grammar.proofs.Complete.{accepted_exactly as halls-exactly}
use Rattle.hall_grammar.proofs.Numbered.{hall_fault}
use Rattle.hall_model.proofs.Promised.{promise as hall-promise}
use Rattle.hall_model.proofs.Unique.{only as hall-only}
use Rattle.price_rules.proofs.Prices.{rule_is}
use Rattle.alike.proofs.Meaning.{by_meaning, walk_set_aside}
use Rattle.alike.proofs.Rules.{rules_out_lem}
use Rattle.before_holders.proofs.Answers.{as_before}
use Rattle.starred.proofs.Proved.{proved}
use Prim.Native.Nat.{ℕ, ◌≤◌}
use mathlib.Core.Path.{subst, sym}
use mathlib.Core.List.{List}
use lib.ListN.{length}
use Rattle.delivered.specs.Delivered.{Delivered}
use Rattle.delivered.proofs.Halls.{halls_by_meaning, hall_floor}
use Rattle.delivered.proofs.Outlives.{no_change}
use Rattle.delivered.proofs.Missing.{missing_exactly}
use Rattle.delivered.proofs.Circles.{together}
use Rattle.delivered.proofs.Demands.{judge_accepts, planner_6, planner_0}
use Rattle.delivered.proofs.Optima.{optima_alike}
use Rattle.delivered.proofs.FirstFaults.{job_first, plan_first, log_first, hall_first, job_spans, plan_spans, log_spans, hall_spans}
use Rattle.delivered.proofs.Fourteen.{fourteen_line, fourteen_only, own_fault}
use Rattle.hall_model.proofs.Roots.{floor_least as hall-floor-least}
use Rattle.delivered.proofs.Worn.{changed_early}
use Rattle.delivered.proofs.Rests.{rests}
use Rattle.delivered.proofs.LogFaults.{step_3, nothing_2, step_alone_2, later_9}
use Rattle.delivered.proofs.AtFault.{job_at_fault, plan_at_fault, log_at_fault, hall_at_fault, job_long, plan_long, log_long, hall_long}
use Rattle.delivered.proofs.Written.{written_short, written_reached}
use Rattle.delivered.proofs.FormFaults.{start_first, openings_first}
use Rattle.delivered.proofs.Results.{results}
use Rattle.delivered.proofs.More.{job_more, plan_more}
use Rattle.delivered.proofs.Early.{job_early, plan_early, log_early}
use Rattle.delivered.proofs.Carrying.{told, there, walk_carried, rules_carried, forms_kept}

-- what is promised beside the calls' own promises holds
pub delivered : Delivered
delivered = record {
  M8_no_change = λ job part stops h. no_change job part h stops;
  M9_published = λ text r plan none. text_published text r.given r.is plan none;
  E1_4_published = λ text r plan. text_published_running text r.given r.is plan;
  E1_4_end_runs = λ text r. end_runs r.given.job (valid text r.given r.is).job.idles;
  D5_judge = judge_accepts;
  D5_planner = planner_6;
  D6_least = planner_0;
  D1_planner = only;
  D1_judge = judge_only;
  D1_by_meaning = by_meaning;
  W2_least = λ job held p. part_bound_is job held.part held.part.prices (places_at job held p);
  W3_missing = missing_exactly;
  W11_floor = floor_least;
  E4_1_least = λ job held p. part_bound_is job held.part (undecided_fees (map fee_of job.openings) (stops_at job p)) (places_at job held p);
  E4_4_fewer = fewer;
  E4_4_same_plan = same_plan;
  X3_exactly = accepted_exactly;
  X4_read = λ text r plan stated e. (shaped r.given.job plan stated e, text_is r.given.job (valid text r.given r.is).job plan stated e);
  X4_back = λ text r cost plan h shape. printed.read_back r.given.job (valid text r.given r.is).job cost plan h shape;
  E2_5_longest = λ text t e. let a = (accepted_exactly text t).0 e in subst (λ (s : List ℕ). length s ≤ 33373) (sym a.1) (text_short t a.0);
  E2_5_reached = (job_text_lem longest_text, longest_text, read_back longest_text longest_valid, reached);
  R1_job_fault = jobs.fault;
  R1_plan_fault = plans.fault;
  E5_1_nothing = nothing_is;
  R10_due_last = λ job plan part due late step h. due_step job (late_part late) (changes_at plan late.place) due late.gap step h;
  E7_3_chains = λ job i j h k. chained job i j h k;
  E7_4_dismounts = out_dismounts;
  E7_4_least = out_least;
  E7_4_cost = cost_least;
  E7_9_together = together;
  E7_13_as_before = as_before;
  D9_cases = proved;
  E7_11_table_2 = judge_4100;
  D9_table_3 = judge_5180;
  D9_table_4 = judge_11690;
  E10_aside = walk_set_aside;
  E8_2_price = rule_is;
  E8_5_written_out = rules_out_lem;
  E11_band = λ text t e plan. cost_band (meant t).low (meant t).job plan (valid_text text t e).means.ordered;
  E12_4_due = λ text r plan part due late worn runs. judge_worn r.given.job plan part due r.given.job.horizon late worn runs (valid text r.given r.is).job.rising;
  E12_4_no_plan = λ text r i inside worn runs has. worn_no_plan r.given.job i r.given.job.horizon inside worn runs (valid text r.given r.is).job.rising has;
  E13_1_joined = λ job first next second last a b. (said_carries a, said_carries b, two_or_one_said job first next second last a b);
  E14_2_exactly = halls-exactly;
  E14_10_lines = λ text t e. (accepted_proper text t e, accepted_fits text t e);
  E14_10_fault = hall_fault;
  E14_10_14_line = fourteen_line;
  E14_10_14_only = fourteen_only;
  D1_halls = halls_by_meaning;
  E14_9_hall = hall-promise;
  D1_hall = hall-only;
  E9_2_stops = only_stops;
  D1_latest = λ text r stops size answer p. latest_answer_only r.given.job stops (ordered r.given.job (valid text r.given r.is).job) size answer p;
  D1_carry = log_only;
  R1_log_fault = log_fault;
  E12_1_read = λ text r log said e. let k = log_tells r.given.job (valid text r.given r.is).job log said e in (k.logged, k.text);
  E12_1_back = λ text r log logged cost. (log_back r.given.job (valid text r.given r.is).job log logged cost, says_log r.given.job log logged);
  E12_6_told = told;
  E12_6_there = there;
  E10_carried = walk_carried;
  E8_5_carried = rules_carried;
  E12_3_forms = forms_kept;
  R20_job_line = job_first;
  R20_plan_line = plan_first;
  R20_log_line = log_first;
  R20_hall_line = hall_first;
  R21_job = job_spans;
  R21_plan = plan_spans;
  R21_log = log_spans;
  R21_hall = hall_spans;
  D1_optimum = optima_alike;
  E14_2_own_fault = own_fault;
  E14_5_floor = hall_floor;
  E14_5_least = hall-floor-least;
  E12_1_step = λ text r. step_3 r.given.job;
  E12_1_left_out = λ text r. (nothing_2 r.given.job, λ step low high. step_alone_2 r.given.job (valid text r.given r.is).job step low high);
  E12_1_later_stop = λ text r log logged cost n stop behind. later_9 r.given.job (valid text r.given r.is).job log logged n stop behind cost;
  E12_4_next = λ text r. changed_early r.given.job (valid text r.given r.is).job.idles;
  E12_2_rests = rests;
  R1_job = job_long;
  R1_plan = plan_long;
  R1_log = log_long;
  R1_hall = hall_long;
  R3_job = job_at_fault;
  R3_plan = plan_at_fault;
  R3_log = log_at_fault;
  R3_hall = hall_at_fault;
  R2_job_early = job_early;
  R2_plan_early = plan_early;
  R2_log_early = λ text r front back said e not. log_early r.given.job (valid text r.given r.is).job.horizon_high front back said e not;
  R21_job_more = job_more;
  R21_plan_more = λ text r plan stated e some byte more few. plan_more r.given.job (valid text r.given r.is).job plan stated e some byte more few;
  E2_5_written = written_short;
  E2_5_written_reached = written_reached;
  E2_2_start = start_first;
  E2_2_openings = openings_first;
  R0_results = results;
}
