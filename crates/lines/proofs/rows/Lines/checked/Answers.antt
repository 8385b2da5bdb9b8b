-- `checked`: the line's row, and then the rule that the closure tests.
use Rattle.std.proofs.Common.{rules, sym, ◌∙◌}
use Rattle.lines.proofs.Parsing.{unread, ruled, broken}
use Rattle.lines.proofs.rows.Lines.checked.Goals as goal

pub returns-in_err-v-clause-reads : goal.returns-in_err-v-clause-reads
returns-in_err-v-clause-reads g c ok said = search (rules, unread)

pub returns-then-good-clause-reads : goal.returns-then-good-clause-reads
returns-then-good-clause-reads g c ok said = let a = c.args in
    ruled a.kind ok _ a.self.now c.field.new.self c.field.new.self _ c.in_ok-v.ensures.reads (sym (said _ _ c.good.ensures) ∙ c.if-good.true)

pub returns-else-good-clause-reads : goal.returns-else-good-clause-reads
returns-else-good-clause-reads g c ok said = let a = c.args in
    rw c.fault-broken.ensures (broken a.kind ok _ a.self.now c.field.new.self a.self.now _ c.in_ok-v.ensures.reads (sym (said _ _ c.good.ensures) ∙ c.if-good.false))
