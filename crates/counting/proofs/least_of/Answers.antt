-- `least_of`: the least of the first q parts, with the rest after them, is the least of all.
use Prim.Native.Nat.{ℕ, ◌≤◌, ◌<◌, min}
use mathlib.Core.Path.{◌≡◌, refl, sym, ap, ◌∙◌}
use mathlib.Core.List.{List}
use native.Mathlib.Omega.{arith}
use lib.ListN.{length, get_or, take, length-map, length-take}
use lib.Seq.{get_or-take}
use Rattle.model.specs.Model as model
use Rattle.model.specs.Verdict.{no_part}
use Rattle.jobs.specs.declared.Part.{Part}
use Rattle.jobs.specs.Views.{blank_part_lem, part_of_lem}
use Rattle.jobs.proofs.Jobs.{viewed, part_viewed}
use Rattle.counting.proofs.Lives.{least_more, least_all, same_lives}
use Rattle.counting.proofs.least_of.Goals as goal

abbrev life : model.Part → ℕ
life p = p.life

abbrev left : model.Part → ℕ
left p = p.left

-- as many parts as are counted, or as there are
seen : (m : ℕ) (ps : List Part) → length (viewed 0 m ps) ≡ length (take m ps)
seen m ps = length-map (take m ps) (part_of_lem 0)

pub loop-i-init : goal.loop-i-init
loop-i-init c = (refl, refl)

pub loop-i-preserved : goal.loop-i-preserved
loop-i-preserved c = let l = c.loop-i in
    let j = c.args.job.now.job in
    let m = j.part_count in
    let ps = j.parts in
    let i = l.i in
    let t : i < m = omega (arith, c.loop-i-test.true, length-take m ps) in
    let here : part_of_lem 0 (get_or (take m ps) i blank_part_lem) ≡ get_or (viewed 0 m ps) i no_part = ap (part_of_lem 0) (get_or-take m ps i blank_part_lem t) ∙ sym (part_viewed 0 m ps i t) in
    let inside : i < length (viewed 0 m ps) = omega (arith, c.loop-i-test.true, seen m ps) in (
      least_more life (viewed 0 m ps) i l.life c.min-life.result inside (c.min-life.ensures ∙ ap (min l.life) (c.life_of.ensures ∙ ap life here)) l.invariant.0,
      least_more left (viewed 0 m ps) i l.left c.min-left.result inside (c.min-left.ensures ∙ ap (min l.left) (c.left_of.ensures ∙ ap left here)) l.invariant.1,
    )

pub returns : goal.returns
returns c = let l = c.loop-i in
    let j = c.args.job.now.job in
    let m = j.part_count in
    let ps = j.parts in
    let all : length (viewed 0 m ps) ≤ l.i = omega (arith, c.loop-i-test.false, seen m ps, length-take m ps) in (
      least_all life (viewed 0 m ps) l.i l.life all l.invariant.0 ∙ same_lives life j.opening_count (λ x. refl) (take m ps) _,
      least_all left (viewed 0 m ps) l.i l.left all l.invariant.1 ∙ same_lives left j.opening_count (λ x. refl) (take m ps) _,
    )
