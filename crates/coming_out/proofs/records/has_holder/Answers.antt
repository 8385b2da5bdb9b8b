-- `has_holder`: the search over the records' places, in the definition's words.
use Prim.Native.Nat.{ℕ, ◌+◌, ◌-◌}
use mathlib.Core.Bool.{Bool}
use mathlib.Core.Path.{◌≡◌, refl, ap, ◌∙◌}
use native.Mathlib.Omega.{arith}
use lib.Dec.{ltb}
use lib.ListN.{length, get_or, take}
use Rattle.std.proofs.Common.{rules, tests}
use Rattle.std.proofs.lemmas.Iterator.{YieldsList-from_range}
use Rattle.std.proofs.lemmas.Iterator.Search.{any_from_yields_List}
use Rattle.base.specs.Chosen.{numbers_of_lem}
use Rattle.jobs.specs.declared.Part.{Part}
use Rattle.jobs.specs.Views.{blank_part_lem}
use Rattle.coming_out.proofs.Some.{some_range, some_listed}
use Rattle.coming_out.proofs.Said.{any_holder}
use Rattle.coming_out.proofs.records.has_holder.Goals as goal

-- a record's marks name a holder
abbrev held : Part → Bool
held p = ltb 0 (length (numbers_of_lem p.holders))

pub returns : goal.returns
returns c = let j = c.args.job.now in
    let ps = take j.part_count j.parts in
    let f : ℕ → Bool = λ q. held (get_or ps q blank_part_lem) in
    let all : length ps - 0 ≡ length ps = omega arith in
    any_from_yields_List f _ _ c.any.result c.any.ensures.ran (YieldsList-from_range 0 (length ps) (length ps) refl all) (λ x b q k. search (rules, tests))
    ∙ some_range (length ps) 0 f f (λ i. let z : 0 + i ≡ i = omega arith in ap f z)
    ∙ some_listed held blank_part_lem ps
    ∙ any_holder j.opening_count ps
