-- `read_job_lines`: the horizon, the idle steps, the walk line, the openings and the parts, each with the number before them; the parts are what their lines mean.
use Rattle.std.proofs.Common.{arith, rules}
use mathlib.Core.Path.{ap, sym, ◌∙◌}
use Prim.Native.Nat.{ℕ}
use mathlib.Core.List.{map}
use Rattle.lines.specs.Text.{bytes}
use Rattle.lines.specs.Parser.{◌>>=◌, return}
use Rattle.lines.proofs.Sound.{chain_gives}
use Rattle.model.specs.Model.{Opening}
use Rattle.job_grammar.specs.Grammar.{opening, openings, body, rest, job_lines}
use Rattle.part_lines.specs.Grammar.{meant_part}
use Rattle.jobs.specs.declared.Job.{Job}
use Rattle.job_sections.specs.Views.{openings_said, parts_said}
use Rattle.job_text.proofs.Views.{text_means}
use Rattle.job_text.proofs.whole.read_job_lines.Goals as goal

pub returns-in_err-horizon : goal.returns-in_err-horizon
unfolding job_lines bytes ◌>>=◌
returns-in_err-horizon c = search rules

pub returns-in_err-steps : goal.returns-in_err-steps
unfolding job_lines bytes ◌>>=◌
returns-in_err-steps c = search rules

pub returns-in_err-walk : goal.returns-in_err-walk
unfolding job_lines rest bytes ◌>>=◌
returns-in_err-walk c = search rules

pub returns-in_err-n : goal.returns-in_err-n
unfolding job_lines rest bytes ◌>>=◌
returns-in_err-n c = search rules

pub returns-in_err-openings : goal.returns-in_err-openings
unfolding job_lines rest body bytes ◌>>=◌
returns-in_err-openings c = search rules

pub returns-in_err-m : goal.returns-in_err-m
unfolding job_lines rest body bytes ◌>>=◌
returns-in_err-m c = search rules

pub returns-in_err-said : goal.returns-in_err-said
unfolding job_lines rest body bytes ◌>>=◌
returns-in_err-said c = search rules

pub invariant_of-result : goal.invariant_of-result
unfolding openings
invariant_of-result c = let steps = c.in_ok-steps.steps in
    let ps = c.in_ok-said.field-0 in
    let n = c.in_ok-n.field-0 in
    let size = (chain_gives (opening c.in_ok-horizon.horizon) (λ (before : ℕ) (o : Opening). o.step) (λ _ _. Unit {0}) (λ _ _ _ _ _ _ _. tt) n 0 _ _ _ _ (openings_said n c.in_ok-openings.openings) (sym c.in_ok-openings.ensures)).0 in
    let job : Job = record {
      horizon = c.in_ok-horizon.horizon;
      idle_count = steps.count;
      idles = steps.idles;
      opening_count = n;
      openings = c.in_ok-openings.openings;
      part_count = c.in_ok-m.field-0;
      parts = ps.parts;
      few_idles = steps.few;
      few_openings = c.in_ok-n.ensures.within.1;
      few_parts = c.in_ok-m.ensures.within.1;
      long_idles = omega arith;
      long_openings = omega arith;
      long_parts = omega arith;
    } in
    record { means = text_means c.in_ok-walk.walk ps.said job (ap (λ (k : ℕ). map (meant_part k) (parts_said c.in_ok-m.field-0 n ps)) size ∙ c.in_ok-said.ensures.means) }

pub returns : goal.returns
unfolding job_lines rest body bytes ◌>>=◌ return
returns c = search rules
