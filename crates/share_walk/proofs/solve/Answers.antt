-- `solve` walks from the first node: the walk of the whole tree from the sources.
use mathlib.Core.Path.{ap, ◌∙◌}
use mathlib.Core.List.{[]}
use native.Mathlib.Omega.{arith}
use Rattle.branch.specs.Search.{Tree, limited}
use Rattle.known_cost.specs.Known.{knowing}
use Rattle.share_walk.proofs.Roots.{at_root, root_tree}
use Rattle.share_walk.proofs.solve.Goals as goal

pub walk-requires : goal.walk-requires
walk-requires c = let e = c.requires.0 in
    let a = c.args in
    let n = c.number in
    ((e.0, e.1, e.2, [], at_root e.0 e.1 e.2 a.level a.t.now a.x.now a.lifts.now a.w.now e.3 n.result (n.ensures.value ∙ e.3.solvable.shared.holds) a.name.now (omega arith)), c.requires.1, c.requires.2)

pub returns : goal.returns
returns c = λ job shares course ready.
    let a = c.args in
    let n = c.number in
    let h = n.ensures.value ∙ ready.solvable.shared.holds in
    (c.walk.ensures job shares course [] (at_root job shares course a.level a.t.now a.x.now a.lifts.now a.w.now ready n.result h a.name.now (omega arith))).search
    ∙ ap (λ (t : Tree). limited a.limit t [] (knowing a.cost)) (root_tree job shares course a.level a.t.now a.x.now a.lifts.now a.w.now ready n.result h)
