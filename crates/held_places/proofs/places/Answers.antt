-- `places`: at each opening, whether the block that begins there lets the part be changed.
use Rattle.std.proofs.Common.{◌≡◌, ◌∙◌, ap, true, [], List, Bool, length, get_or, rules}
use Rattle.model.specs.Decisions.{allows}
use Rattle.model.specs.LowerBound.{blocks}
use Rattle.held_places.specs.Blocks.{first_or}
use Rattle.held_places.proofs.Scans.{first_is, entries_put}
use Rattle.held_places.proofs.places.Goals as goal

pub returns : goal.returns
returns c = let a = c.args in
    let h = length a.needs.now in
    entries_put true (λ k. allows a.needs.now (get_or (blocks h a.n a.name.now) k [])) a.n c.by_block.new.out c.requires.0 c.by_block.ensures.size
    (λ k l g.
    let f = c.by_block.ensures.entries k g in
    let e : get_or c.by_block.new.out k true ≡ allows a.needs.now (first_or [] h f.shown.now) = search (rules, f.says.met) in
    e ∙ ap (λ (q : List Bool). allows a.needs.now (first_or [] h q)) f.shows ∙ ap (allows a.needs.now) (first_is h a.n a.name.now [] k l))
