-- `read_idles`: the number's line, if it is there, and so many steps.
use Rattle.std.specs.Prelude.{Some, Ok}
use Rattle.std.proofs.Common.{rules}
use Rattle.lines.specs.Text.{bytes}
use Rattle.lines.specs.Parser.{◌>>=◌, return, optional, if_present}
use Rattle.lines.specs.Reads.{Reads}
use Rattle.job_grammar.specs.Grammar.{idles}
use Rattle.job_grammar.specs.Optionals.{idle_lines}
use Rattle.lines.proofs.Steps.{there_within}
use Rattle.job_sections.proofs.Views.{idles_read}
use Rattle.job_sections.proofs.idles.read_idles.Goals as goal
use Rattle.job_sections.proofs.idles.read_idles.Goals.{In-Some}

-- the number's line was there
there : (c : In-Some) → Reads (optional "idles=" 1 365) c.args.lines.now c.optional.new.self (Ok (Some c.in-Some.n))
unfolding bytes
there c = search rules

pub returns-in_err-n : goal.returns-in_err-n
unfolding idles bytes ◌>>=◌
returns-in_err-n c = search rules

pub read_idle_steps-requires : goal.read_idle_steps-requires
read_idle_steps-requires c = (there_within _ 1 365 c.args.lines.now c.optional.new.self _ (there (goal.at.read_idle_steps-requires c).In-Some)).1

pub returns-in-Some : goal.returns-in-Some
unfolding idles bytes ◌>>=◌
returns-in-Some c = let t = there (goal.at.returns-in-Some c).In-Some in
    let r = idles_read c.args.horizon c.in-Some.n c.optional.new.self c.read_idle_steps.new.lines c.read_idle_steps.result (there_within _ 1 365 c.args.lines.now c.optional.new.self _ t).0 c.read_idle_steps.ensures in
    search (rules, r)

pub returns-in-None : goal.returns-in-None
unfolding idles bytes ◌>>=◌ if_present return idle_lines
returns-in-None c = search rules
