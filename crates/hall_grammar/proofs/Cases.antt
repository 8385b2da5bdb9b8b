-- Hall texts, read from the definitions: what is taken, and number and line of what is not.
use mathlib.Core.Path.{◌≡◌, refl}
use Prim.Native.Nat.{ℕ}
use Rattle.lines.specs.Text.{bytes}
use Rattle.lines.specs.Line.{digits, number_from, starts_with, read_value_lem, read_line_lem}
use Rattle.lines.specs.Parser.{Outcome, accepted, refused, ◌>>=◌, return, in_range, read_field_lem, taken, row_at, optional_at, if_present, checked, chain, times, end, whole, read_text}
use Rattle.job_grammar.specs.Grammar as job
use Rattle.quotes.specs.Grammar as quotes
use Rattle.price_rules.specs.Grammar as price
use Rattle.part_lines.specs.Grammar as part
use Rattle.covers.specs.Grammar as cover
use Rattle.covers.specs.Views.{meant_cover}
use Rattle.hall_grammar.specs.Grammar.{HallText, same_numbers, job_behind, jobs_behind, hall_lines_lem, read_hall_text}

-- a fault's number and line, or none
data Number : Type 0 where
  none : Number
  some : ℕ → ℕ → Number

abbrev number : Outcome HallText → Number
number (accepted t) = none
number (refused n l) = some n l

-- two equal lines are taken
two : number (read_hall_text (bytes "machines=2\ncall=6\nhorizon=3\nwalk=1\nopenings=0\nparts=1\nlife=9\nleft=9\nhorizon=3\nwalk=1\nopenings=0\nparts=1\nlife=9\nleft=9\n")) ≡ none
unfolding bytes digits number_from starts_with read_value_lem read_line_lem ◌>>=◌ return in_range read_field_lem taken row_at optional_at if_present checked chain times end whole read_text job.idle job.idle_steps_lem job.idles job.opening job.openings cover.holder cover.holders cover.inside cover.cover meant_cover price.after_base price.rule price.unless_ruled price.prices quotes.unless_low quotes.quote quotes.any_pair part.any_banded part.after_left part.part job.parts job.body job.rest job.job_lines same_numbers job_behind jobs_behind hall_lines_lem
two = refl

-- no line may be missing
none_left : number (read_hall_text (bytes "machines=2\ncall=6\nhorizon=3\nwalk=1\nopenings=0\nparts=1\nlife=9\nleft=9\n")) ≡ some 2 9
unfolding bytes digits number_from starts_with read_value_lem read_line_lem ◌>>=◌ return in_range read_field_lem taken row_at optional_at if_present checked chain times end whole read_text job.idle job.idle_steps_lem job.idles job.opening job.openings cover.holder cover.holders cover.inside cover.cover meant_cover price.after_base price.rule price.unless_ruled price.prices quotes.unless_low quotes.quote quotes.any_pair part.any_banded part.after_left part.part job.parts job.body job.rest job.job_lines same_numbers job_behind jobs_behind hall_lines_lem
none_left = refl

-- another horizon: 14 on the job's first line
horizon : number (read_hall_text (bytes "machines=2\ncall=6\nhorizon=3\nwalk=1\nopenings=0\nparts=1\nlife=9\nleft=9\nhorizon=4\nwalk=1\nopenings=0\nparts=1\nlife=9\nleft=9\n")) ≡ some 14 9
unfolding bytes digits number_from starts_with read_value_lem read_line_lem ◌>>=◌ return in_range read_field_lem taken row_at optional_at if_present checked chain times end whole read_text job.idle job.idle_steps_lem job.idles job.opening job.openings cover.holder cover.holders cover.inside cover.cover meant_cover price.after_base price.rule price.unless_ruled price.prices quotes.unless_low quotes.quote quotes.any_pair part.any_banded part.after_left part.part job.parts job.body job.rest job.job_lines same_numbers job_behind jobs_behind hall_lines_lem
horizon = refl

-- other idles, or none where the first has some
idles : number (read_hall_text (bytes "machines=2\ncall=6\nhorizon=3\nidles=1\nidle=2\nwalk=1\nopenings=0\nparts=1\nlife=9\nleft=9\nhorizon=3\nwalk=1\nopenings=0\nparts=1\nlife=9\nleft=9\n")) ≡ some 14 11
unfolding bytes digits number_from starts_with read_value_lem read_line_lem ◌>>=◌ return in_range read_field_lem taken row_at optional_at if_present checked chain times end whole read_text job.idle job.idle_steps_lem job.idles job.opening job.openings cover.holder cover.holders cover.inside cover.cover meant_cover price.after_base price.rule price.unless_ruled price.prices quotes.unless_low quotes.quote quotes.any_pair part.any_banded part.after_left part.part job.parts job.body job.rest job.job_lines same_numbers job_behind jobs_behind hall_lines_lem
idles = refl

-- the job's own faults come before: its `left` is above its `life`
own_first : number (read_hall_text (bytes "machines=2\ncall=6\nhorizon=3\nwalk=1\nopenings=0\nparts=1\nlife=9\nleft=9\nhorizon=4\nwalk=1\nopenings=0\nparts=1\nlife=8\nleft=9\n")) ≡ some 5 14
unfolding bytes digits number_from starts_with read_value_lem read_line_lem ◌>>=◌ return in_range read_field_lem taken row_at optional_at if_present checked chain times end whole read_text job.idle job.idle_steps_lem job.idles job.opening job.openings cover.holder cover.holders cover.inside cover.cover meant_cover price.after_base price.rule price.unless_ruled price.prices quotes.unless_low quotes.quote quotes.any_pair part.any_banded part.after_left part.part job.parts job.body job.rest job.job_lines same_numbers job_behind jobs_behind hall_lines_lem
own_first = refl

-- and before any on the lines behind it
before_behind : number (read_hall_text (bytes "machines=3\ncall=6\nhorizon=3\nwalk=1\nopenings=0\nparts=1\nlife=9\nleft=9\nhorizon=4\nwalk=1\nopenings=0\nparts=1\nlife=9\nleft=9\nno line\n")) ≡ some 14 9
unfolding bytes digits number_from starts_with read_value_lem read_line_lem ◌>>=◌ return in_range read_field_lem taken row_at optional_at if_present checked chain times end whole read_text job.idle job.idle_steps_lem job.idles job.opening job.openings cover.holder cover.holders cover.inside cover.cover meant_cover price.after_base price.rule price.unless_ruled price.prices quotes.unless_low quotes.quote quotes.any_pair part.any_banded part.after_left part.part job.parts job.body job.rest job.job_lines same_numbers job_behind jobs_behind hall_lines_lem
before_behind = refl

-- past 16 parts: the third of six each
parts : number (read_hall_text (bytes "machines=3\ncall=6\nhorizon=3\nwalk=1\nopenings=0\nparts=6\nlife=9\nleft=9\nlife=9\nleft=9\nlife=9\nleft=9\nlife=9\nleft=9\nlife=9\nleft=9\nlife=9\nleft=9\nhorizon=3\nwalk=1\nopenings=0\nparts=6\nlife=9\nleft=9\nlife=9\nleft=9\nlife=9\nleft=9\nlife=9\nleft=9\nlife=9\nleft=9\nlife=9\nleft=9\nhorizon=3\nwalk=1\nopenings=0\nparts=6\nlife=9\nleft=9\nlife=9\nleft=9\nlife=9\nleft=9\nlife=9\nleft=9\nlife=9\nleft=9\nlife=9\nleft=9\n")) ≡ some 14 35
unfolding bytes digits number_from starts_with read_value_lem read_line_lem ◌>>=◌ return in_range read_field_lem taken row_at optional_at if_present checked chain times end whole read_text job.idle job.idle_steps_lem job.idles job.opening job.openings cover.holder cover.holders cover.inside cover.cover meant_cover price.after_base price.rule price.unless_ruled price.prices quotes.unless_low quotes.quote quotes.any_pair part.any_banded part.after_left part.part job.parts job.body job.rest job.job_lines same_numbers job_behind jobs_behind hall_lines_lem
parts = refl

-- 16 parts in all are taken
in_all : number (read_hall_text (bytes "machines=2\ncall=6\nhorizon=3\nwalk=1\nopenings=0\nparts=8\nlife=9\nleft=9\nlife=9\nleft=9\nlife=9\nleft=9\nlife=9\nleft=9\nlife=9\nleft=9\nlife=9\nleft=9\nlife=9\nleft=9\nlife=9\nleft=9\nhorizon=3\nwalk=1\nopenings=0\nparts=8\nlife=9\nleft=9\nlife=9\nleft=9\nlife=9\nleft=9\nlife=9\nleft=9\nlife=9\nleft=9\nlife=9\nleft=9\nlife=9\nleft=9\nlife=9\nleft=9\n")) ≡ none
unfolding bytes digits number_from starts_with read_value_lem read_line_lem ◌>>=◌ return in_range read_field_lem taken row_at optional_at if_present checked chain times end whole read_text job.idle job.idle_steps_lem job.idles job.opening job.openings cover.holder cover.holders cover.inside cover.cover meant_cover price.after_base price.rule price.unless_ruled price.prices quotes.unless_low quotes.quote quotes.any_pair part.any_banded part.after_left part.part job.parts job.body job.rest job.job_lines same_numbers job_behind jobs_behind hall_lines_lem
in_all = refl

-- a call that is too dear
calls : number (read_hall_text (bytes "machines=1\ncall=1000001\nhorizon=3\nwalk=1\nopenings=0\nparts=1\nlife=9\nleft=9\n")) ≡ some 3 2
unfolding bytes digits number_from starts_with read_value_lem read_line_lem ◌>>=◌ return in_range read_field_lem taken row_at optional_at if_present checked chain times end whole read_text job.idle job.idle_steps_lem job.idles job.opening job.openings cover.holder cover.holders cover.inside cover.cover meant_cover price.after_base price.rule price.unless_ruled price.prices quotes.unless_low quotes.quote quotes.any_pair part.any_banded part.after_left part.part job.parts job.body job.rest job.job_lines same_numbers job_behind jobs_behind hall_lines_lem
calls = refl

-- five lines
machines : number (read_hall_text (bytes "machines=5\ncall=6\nhorizon=3\nwalk=1\nopenings=0\nparts=1\nlife=9\nleft=9\nhorizon=3\nwalk=1\nopenings=0\nparts=1\nlife=9\nleft=9\nhorizon=3\nwalk=1\nopenings=0\nparts=1\nlife=9\nleft=9\nhorizon=3\nwalk=1\nopenings=0\nparts=1\nlife=9\nleft=9\nhorizon=3\nwalk=1\nopenings=0\nparts=1\nlife=9\nleft=9\n")) ≡ some 3 1
unfolding bytes digits number_from starts_with read_value_lem read_line_lem ◌>>=◌ return in_range read_field_lem taken row_at optional_at if_present checked chain times end whole read_text job.idle job.idle_steps_lem job.idles job.opening job.openings cover.holder cover.holders cover.inside cover.cover meant_cover price.after_base price.rule price.unless_ruled price.prices quotes.unless_low quotes.quote quotes.any_pair part.any_banded part.after_left part.part job.parts job.body job.rest job.job_lines same_numbers job_behind jobs_behind hall_lines_lem
machines = refl

-- bytes after the last line are the line after it
after_last : number (read_hall_text (bytes "machines=1\ncall=6\nhorizon=3\nwalk=1\nopenings=0\nparts=1\nlife=9\nleft=9\n\n")) ≡ some 2 9
unfolding bytes digits number_from starts_with read_value_lem read_line_lem ◌>>=◌ return in_range read_field_lem taken row_at optional_at if_present checked chain times end whole read_text job.idle job.idle_steps_lem job.idles job.opening job.openings cover.holder cover.holders cover.inside cover.cover meant_cover price.after_base price.rule price.unless_ruled price.prices quotes.unless_low quotes.quote quotes.any_pair part.any_banded part.after_left part.part job.parts job.body job.rest job.job_lines same_numbers job_behind jobs_behind hall_lines_lem
after_last = refl
