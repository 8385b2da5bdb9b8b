-- `optional`: by whether the text goes on with the key.
use Rattle.std.proofs.Common.{rules, sym}
use Rattle.lines.proofs.Reading.{starts_told}
use Rattle.lines.proofs.Parsing.{optional_value, optional_fault, optional_missing}
use Rattle.lines.proofs.rows.Lines.optional.Goals as goal

pub returns-in_err-field : goal.returns-in_err-field
returns-in_err-field c = let t = starts_told c.args.key.now c.args.self.now.rest.now c.starts_with.ensures.value c.if-starts_with.true in search (rules, optional_fault, t)

pub returns-in_ok-field : goal.returns-in_ok-field
returns-in_ok-field c = optional_value _ _ _ c.args.self.now c.field.new.self _ (starts_told _ _ c.starts_with.ensures.value c.if-starts_with.true) c.in_ok-field.ensures.reads

pub returns-else-starts_with : goal.returns-else-starts_with
returns-else-starts_with c = sym (optional_missing _ _ _ _ _ (starts_told _ _ c.starts_with.ensures.value c.if-starts_with.false))
