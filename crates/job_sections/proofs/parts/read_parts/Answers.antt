-- `read_parts`: the parts as their lines list them, and the prices of their rules, which change nothing that is said.
use Rattle.std.proofs.Common.{rules}
use mathlib.Core.Path.{sym, ap, ◌∙◌}
use mathlib.Core.List.{map}
use native.Mathlib.Omega.{arith}
use Rattle.part_lines.specs.Grammar.{meant_part}
use Rattle.job_sections.proofs.Views.{lines_same, lines_mean}
use Rattle.job_sections.proofs.parts.read_parts.Goals as goal

pub returns-clause-reads : goal.returns-clause-reads
returns-clause-reads c = let a = c.args in
    let r = c.in_ok-said.field-0 in
    let t = c.put_rule_prices-parts in
    let same = lines_same a.n a.m r.said r.parts t.result t.ensures.size t.ensures.done in
    search (rules, same)

pub returns-clause-means : goal.returns-clause-means
returns-clause-means c = let a = c.args in
    let r = c.in_ok-said.field-0 in
    let t = c.put_rule_prices-parts in
    let same = lines_same a.n a.m r.said r.parts t.result t.ensures.size t.ensures.done in
    ap (map (meant_part a.n)) (sym same) ∙ lines_mean a.n a.m r.said r.parts t.result t.ensures.size (omega arith) t.ensures.done c.in_ok-said.ensures.means
