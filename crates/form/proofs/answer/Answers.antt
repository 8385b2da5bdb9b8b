-- `answer`: the text is what is put.
use native.Mathlib.Omega.{arith}
use borrow.Author.Rules.{rules}
use Rattle.line_writing.specs.Puts.{Room}
use Rattle.form.proofs.answer.Goals as goal

pub reply-requires : goal.reply-requires
reply-requires c o start long = let room : Room o.now c.args.text.now = record { fits = omega (arith, start, long, c.requires) } in
    search (rules, room)

pub returns : goal.returns
returns c = c.reply.ensures c.args.text.now c.requires (λ o p start put. search rules)
