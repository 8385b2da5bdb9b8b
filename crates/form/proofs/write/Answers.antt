-- `write`: the text that the form's lists make is written and read, and gives what the form is read as. The promise holds of the defined answer.
use Prim.Native.Nat.{ℕ}
use mathlib.Core.Path.{◌≡◌, sym, ap, subst, ◌∙◌}
use mathlib.Core.List.{List}
use native.Mathlib.Omega.{arith}
use lib.ListN.{length, take}
use lib.Seq.{length-take-le}
use Rattle.lines.proofs.Writing.{kept}
use Rattle.form_facts.specs.Views.{lists_of}
use Rattle.form_writing.specs.Cut.{form_cut}
use Rattle.form_writing.proofs.Lengths.{cut_short}
use Rattle.lines.specs.Parser.{finish, whole}
use Rattle.job_grammar.specs.Grammar.{job_lines}
use Rattle.answers.specs.Said.{Said, Replied}
use Rattle.form.specs.Form.{Form, filled}
use Rattle.form.specs.Write.{form_reply, write_room}
use Rattle.form.proofs.Stated.{Held, cut}
use Rattle.form.proofs.Promised.{promised, cut_says, written_front}
use Rattle.form.proofs.write.Goals as goal
use Rattle.form.proofs.write.Goals.{After-slice_known-1, After-write_text-n, Start}

-- the form that is handed over
abbrev form : (c : Start) → Form
form c = let a = c.args in
    filled a.horizon a.idles.now a.openings.now a.fees.now a.lives.now a.lefts.now a.covered.now a.removals.now a.insides.now a.holders.now a.ruled.now a.bases.now a.drops.now a.leasts.now a.banded.now a.lows.now a.prices.now

-- its numbers have 32 bits
held : (c : After-slice_known-1) → Held (let a = c.args in filled a.horizon a.idles.now a.openings.now a.fees.now a.lives.now a.lefts.now a.covered.now a.removals.now a.insides.now a.holders.now a.ruled.now a.bases.now a.drops.now a.leasts.now a.banded.now a.lows.now a.prices.now)
held c = record {
  horizon = omega (arith, c.ranges.horizon.fits);
  idles = λ i. omega (arith, c.type_inv.idles i);
  openings = λ i. omega (arith, c.type_inv.openings i);
  fees = λ i. omega (arith, c.type_inv.fees i);
  lives = λ i. omega (arith, c.type_inv.lives i);
  lefts = λ i. omega (arith, c.type_inv.lefts i);
  removals = λ i. omega (arith, c.type_inv.removals i);
  insides = λ i. omega (arith, c.type_inv.insides i);
  holders = λ i. omega (arith, c.type_inv.holders i);
  bases = λ i. omega (arith, c.type_inv.bases i);
  drops = λ i. omega (arith, c.type_inv.drops i);
  leasts = λ i. omega (arith, c.type_inv.leasts i);
  lows = λ i. omega (arith, c.type_inv.lows i);
  prices = λ i. omega (arith, c.type_inv.prices i);
}

pub write_text-n-requires : goal.write_text-n-requires
write_text-n-requires c = let a = c.args in omega (arith, cut_short a.horizon a.idles.now a.openings.now a.fees.now (lists_of c.parts_of-parts.result))

pub slice_bounds-text-end : goal.slice_bounds-text-end
slice_bounds-text-end c = let a = c.args in
    let w = c.write_text-n.ensures in
    omega (arith, cut_short a.horizon a.idles.now a.openings.now a.fees.now (lists_of c.parts_of-parts.result), w.next, kept w)

-- the text that is lent
text-lent : (c : After-write_text-n) → take c.write_text-n.result c.write_text-n.new.text ≡ cut (let a = c.args in filled a.horizon a.idles.now a.openings.now a.fees.now a.lives.now a.lefts.now a.covered.now a.removals.now a.insides.now a.holders.now a.ruled.now a.bases.now a.drops.now a.leasts.now a.banded.now a.lows.now a.prices.now)
text-lent c = let a = c.args in
    written_front (omega (arith, cut_short a.horizon a.idles.now a.openings.now a.fees.now (lists_of c.parts_of-parts.result))) c.write_text-n.ensures
    ∙ ap (form_cut a.horizon a.idles.now a.openings.now a.fees.now) c.parts_of-parts.ensures

pub slice_bounds-answer_text-end : goal.slice_bounds-answer_text-end
slice_bounds-answer_text-end c = let a = c.args in
    let w = c.write_text-n.ensures in
    sym (length-take-le c.write_text-n.result c.write_text-n.new.text (omega (arith, cut_short a.horizon a.idles.now a.openings.now a.fees.now (lists_of c.parts_of-parts.result), w.next, kept w)))

pub answer_text-requires : goal.answer_text-requires
answer_text-requires c = let f = form (goal.at.answer_text-requires c).Start in
    omega (arith, cut_short f.horizon f.idles f.openings f.fees f.parts, ap length (text-lent (goal.at.answer_text-requires c).After-write_text-n))

pub returns : goal.returns
returns c = let f = form (goal.at.returns c).Start in
    let r = c.answer_text in
    let same = ap (λ (xs : List ℕ). form_reply (finish (whole job_lines xs 1))) (text-lent (goal.at.returns c).After-write_text-n) ∙ cut_says f (held (goal.at.returns c).After-slice_known-1) in
    record { replied = subst (λ (said : Said). Replied write_room said c.args.out.now r.new.out r.result) same r.ensures; write_promise = promised f (held (goal.at.returns c).After-slice_known-1) (length c.args.out.now) }
