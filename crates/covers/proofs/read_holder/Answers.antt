-- `read_holder`: a number that rises and is not the part's own, told as one rule after the other.
use Rattle.std.proofs.Common.{rules, tests, ◌∙◌}
use mathlib.Core.Bool.{◌&&◌}
use Rattle.lines.specs.Text.{bytes}
use Rattle.lines.specs.Parser.{rising}
use Rattle.lines.proofs.Parsing.{checked_twice}
use Rattle.covers.specs.Grammar.{other, holder}
use Rattle.covers.proofs.read_holder.Goals as goal

pub returns-clause-reads : goal.returns-clause-reads
unfolding holder bytes
returns-clause-reads c = let a = c.args in
    c.checked.ensures.reads (λ h. rising a.before a.m h && other a.k h) (λ v t said. search (rules, tests))
    ∙ checked_twice 12 (rising a.before a.m) (other a.k) _ a.lines.now.rest.now a.lines.now.line
