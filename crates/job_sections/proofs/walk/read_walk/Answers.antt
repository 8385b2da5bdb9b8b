-- `read_walk`: the line of its key, which may be missing.
use Rattle.lines.specs.Text.{bytes}
use Rattle.job_sections.proofs.walk.read_walk.Goals as goal

pub returns : goal.returns
unfolding bytes
returns c = c.optional.ensures
