-- `stops`: at each opening, the first decision of the block that begins there.
use Rattle.std.proofs.Common.{◌≡◌, ◌∙◌, ap, true, false, [], ◌∷◌, List, Bool, get_or, rules}
use Rattle.held_places.specs.Blocks.{first_or}
use Rattle.held_places.proofs.Scans.{first_is, entries_put}
use Rattle.model.specs.LowerBound.{blocks}
use Rattle.held_places.proofs.stops.Goals as goal

pub returns : goal.returns
returns c = let a = c.args in
    entries_put false (λ k. get_or (get_or (blocks a.h a.n a.name.now) k (false ∷ [])) 0 true) a.n c.by_block.new.out c.requires.0 c.by_block.ensures.size
    (λ k l g.
    let f = c.by_block.ensures.entries k g in
    let e : get_or c.by_block.new.out k true ≡ get_or (first_or (false ∷ []) a.h f.shown.now) 0 true = search (rules, f.says.met) in
    e ∙ ap (λ (q : List Bool). get_or (first_or (false ∷ []) a.h q) 0 true) f.shows ∙ ap (λ (d : List Bool). get_or d 0 true) (first_is a.h a.n a.name.now (false ∷ []) k l))
