-- `write`: the text is put, with number 0.
use native.Mathlib.Omega.{arith}
use borrow.Author.Rules.{rules}
use Rattle.line_writing.specs.Puts.{Room}
use Rattle.job_grammar.specs.Rendering.{job_text_lem}
use Rattle.job_text.specs.Views.{text_in}
use Rattle.carried_writing.specs.Left.{text_left}
use Rattle.carrying.proofs.write.Goals as goal

pub reply-requires : goal.reply-requires
reply-requires c o start long = let a = c.args in
    let low = c.requires.step_low in
    let room : Room o.now (job_text_lem (text_left (text_in a.text.now) a.step a.lefts.now)) = record { fits = omega (arith, start, long, c.requires.short) } in
    search (rules, room, low)

pub returns : goal.returns
returns c = let a = c.args in
    c.reply.ensures (job_text_lem (text_left (text_in a.text.now) a.step a.lefts.now)) c.requires.short (λ o p start put. search rules)
