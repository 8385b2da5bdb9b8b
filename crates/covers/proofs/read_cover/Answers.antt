-- `read_cover`: the removal's line, and then the number of holders and these.
use Rattle.std.proofs.Common.{rules}
use Rattle.lines.specs.Text.{bytes}
use Rattle.lines.specs.Parser.{return, if_present, ◌>>=◌}
use Rattle.covers.specs.Grammar.{inside, cover}
use Rattle.covers.proofs.read_cover.Goals as goal

pub returns-in_err-removal : goal.returns-in_err-removal
unfolding cover bytes ◌>>=◌
returns-in_err-removal c = search rules

pub returns-in_default : goal.returns-in_default
unfolding cover bytes if_present return ◌>>=◌
returns-in_default c = search rules

pub returns-in_err-n : goal.returns-in_err-n
unfolding cover inside bytes if_present return ◌>>=◌
returns-in_err-n c = search rules

pub returns-in_err-holders : goal.returns-in_err-holders
unfolding cover inside bytes if_present return ◌>>=◌
returns-in_err-holders c = search rules

pub returns : goal.returns
unfolding cover inside bytes if_present return ◌>>=◌
returns c = search rules
