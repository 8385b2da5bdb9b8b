-- Every case of the table holds, by computation.
use mathlib.Core.Path.{refl}
use Rattle.lines.specs.Text.{bytes, decimal_in, line}
use Rattle.base.specs.Joined.{joined}
use Rattle.lines.specs.Line.{digits, number_from, starts_with, read_value_lem, read_line_lem}
use Rattle.lines.specs.Parser.{◌>>=◌, return, in_range, read_field_lem, taken, row_at, optional_at, if_present, checked, chain, times, end, whole, read_text}
use Rattle.fault_lines.specs.Fault.{before_break, after_break, skipped, fault_line_lem, fault_span_lem}
use Rattle.branch.specs.Search.{walk, limited}
use Rattle.branch.specs.Questions.{ask_from}
use Rattle.model.specs.Model.{listed, running, clock, within, kept, last_within_lem, due_of_lem, table as places, holds_one, rounds, comes_out, holding, out_by, select, sum_at, sum, any_held}
use Rattle.model.specs.Decisions.{held_from, accessible}
use Rattle.model.specs.LowerBound.{least_of_lem, choice_of, offers, blocks, stop_cost, undecided_fees, bound_of}
use Rattle.model.specs.Promise.{answer_of}
use Rattle.model.specs.Verdict.{first_late, verdict_from, judged_of}
use Rattle.job_grammar.specs.Grammar as job
use Rattle.quotes.specs.Grammar as quotes
use Rattle.price_rules.specs.Grammar as price
use Rattle.part_lines.specs.Grammar as own
use Rattle.plan_grammar.specs.Grammar as plan
use Rattle.base.specs.Chosen.{chosen}
use Rattle.plan_grammar.specs.Rendering.{visit_text, plan_text_lem, visits_of, plan_lines_of}
use Rattle.answers.specs.Said.{fault_lines_lem}
use Rattle.judging.specs.Judge.{cost_lines, unkept_lines, judge_said}
use Rattle.plan_printing.specs.Printed.{low_lines, printed_lines}
use Rattle.planning.specs.Plan.{search_lines, planned_lines, plan_said}
use Rattle.latest.specs.Latest.{latest_from, each_served, latest_answer_of}
use Rattle.serving.specs.Serve.{served_lines, latest_said}
use Rattle.longest_walk.specs.Count.{each_reaches, each_kept, count_from, open_count}
use Rattle.counting.specs.Count.{counted_job_lem, count_said}
use Rattle.covers.specs.Grammar as cover
use Rattle.covers.specs.Views.{meant_cover}
use Rattle.base.specs.Each.{All}
use Rattle.starred.specs.Table.{CaseHolds, Counts, cases, counts}

-- every case of the table gives the answer that it states, and every counted job its count
pub proved : All CaseHolds cases × All Counts counts
unfolding cases counts bytes decimal_in line joined digits number_from starts_with read_value_lem read_line_lem ◌>>=◌ return in_range read_field_lem taken row_at optional_at if_present checked chain times end whole read_text before_break after_break skipped fault_line_lem fault_span_lem walk limited ask_from listed running clock within kept last_within_lem due_of_lem places holds_one rounds comes_out holding out_by select sum_at sum any_held held_from accessible least_of_lem choice_of offers blocks stop_cost undecided_fees bound_of answer_of first_late verdict_from judged_of job.idle job.idle_steps_lem job.idles job.opening job.openings cover.holder cover.holders cover.inside cover.cover meant_cover price.after_base price.rule price.unless_ruled price.prices quotes.unless_low quotes.quote quotes.any_pair own.any_banded own.after_left own.part job.parts job.body job.rest job.job_lines plan.any plan.part plan.parts plan.visit plan.visits plan.plan_of plan.plan_lines plan.read_plan_lem visit_text plan_text_lem chosen visits_of plan_lines_of fault_lines_lem search_lines low_lines printed_lines planned_lines cost_lines unkept_lines judge_said plan_said each_reaches each_kept count_from open_count counted_job_lem count_said each_served latest_answer_of latest_from latest_said served_lines
proved = (
  ((refl, refl, refl, refl, refl, refl), ((refl, refl, refl, refl, refl, refl), ((refl, refl, refl, refl, refl, refl), ((refl, refl, refl, refl, refl, refl), ((refl, refl, refl, refl, refl, refl), ((refl, refl, refl, refl, refl, refl), ((refl, refl, refl, refl, refl, refl), ((refl, refl, refl, refl, refl, refl), ((refl, refl, refl, refl, refl, refl), ((refl, refl, refl, refl, refl, refl), ((refl, refl, refl, refl, refl, refl), ((refl, refl, refl, refl, refl, refl), ((refl, refl, refl, refl, refl, refl), ((refl, refl, refl, refl, refl, refl), ((refl, refl, refl, refl, refl, refl), ((refl, refl, refl, refl, refl, refl), ((refl, refl, refl, refl, refl, refl), ((refl, refl, refl, refl, refl, refl), ((refl, refl, refl, refl, refl, refl), ((refl, refl, refl, refl, refl, refl), ((refl, refl, refl, refl, refl, refl), ((refl, refl, refl, refl, refl, refl), ((refl, refl, refl, refl, refl, refl), ((refl, refl, refl, refl, refl, refl), ((refl, refl, refl, refl, refl, refl), ((refl, refl, refl, refl, refl, refl), ((refl, refl, refl, refl, refl, refl), ((refl, refl, refl, refl, refl, refl), ((refl, refl, refl, refl, refl, refl), tt))))))))))))))))))))))))))))),
  ((refl, refl, refl, refl, refl), ((refl, refl, refl, refl, refl), ((refl, refl, refl, refl, refl), ((refl, refl, refl, refl, refl), ((refl, refl, refl, refl, refl), ((refl, refl, refl, refl, refl), tt)))))),
)
