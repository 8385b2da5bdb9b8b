-- `line_no` looks at the line's no, and writes its level if it is walked on.
use Prim.Native.Nat.{◌+◌}
use mathlib.Core.Path.{◌≡◌, refl, sym, ◌∙◌}
use native.Mathlib.Omega.{arith}
use borrow.Author.Rules.{rules}
use lib.ListN.{length}
use Rattle.hall_lines.proofs.Levels.{level_put}
use Rattle.hall_lines.proofs.Lines.{near, opening_needs, no_rises, no_fits, no_none, no_some}
use Rattle.hall_lines.proofs.line_no.Goals as goal

pub opening_term-h-requires : goal.opening_term-h-requires
opening_term-h-requires c = (opening_needs c.requires.1.1.1).0

pub no_sums-requires : goal.no_sums-requires
no_sums-requires c =
    let op = c.requires.1.1.1 in
    ((opening_needs op).1, no_rises op c.opening_term-h.result c.opening_term-h.ensures, omega (arith, c.args.test.room), op.given.low)

pub returns-in_default : goal.returns-in_default
returns-in_default c = λ sheet ds paid op. no_none op c.opening_term-h.result c.opening_term-h.ensures c.args.test.limit c.args.test.rest c.args.test.s c.no_sums.new.w c.no_sums.ensures.frame (sym c.no_sums.ensures.opens ∙ c.in_default.is)

pub returns : goal.returns
returns c =
    let a = c.args in
    let h = c.opening_term-h.result in
    let long : length a.own.now.n ≡ 65 = search rules in
    λ sheet ds paid op.
    let e = sym c.no_sums.ensures.opens ∙ c.in-Sum.is in
    let f = no_fits op h c.opening_term-h.ensures a.test.limit a.test.rest a.test.s c.in-Sum.y c.args.test.room e in
    no_some op h c.opening_term-h.ensures a.test.limit a.test.rest a.test.s c.no_sums.new.w c.no_sums.ensures.frame _ c.in-Sum.y (a.test.rest + h + c.in-Sum.y) f.0 f.1 e refl (level_put a.own.now.n (a.at + 1) _ (omega (arith, near op, long)))
