-- `row_behind` adds each line's opening at the step.
use Prim.Native.Nat.{ℕ, ◌+◌, ◌<◌}
use mathlib.Core.Path.{◌≡◌, sym, ap, subst, ◌∙◌}
use mathlib.Core.List.{List}
use native.Mathlib.Omega.{arith}
use native.Mathlib.Decide.{ℕ_discrete}
use borrow.Author.Rules.{rules}
use lib.ListN.{get_or, set, length-set}
use lib.Seq.{get_or-set_same, get_or-set_other}
use mir.Val.{bool_byte}
use Rattle.model.specs.Model.{Job}
use Rattle.hall_model.specs.Hall.{Placed, open_at}
use Rattle.hall_jobs.specs.Views.{jobs_of}
use Rattle.hall_jobs.proofs.Lines.{line_is, line_below}
use Rattle.hall_crew.specs.Crew.{opened_at}
use Rattle.base.proofs.Bools.{bit_of}
use Rattle.hall_crew.proofs.row_behind.Goals as goal

pub loop-d-preserved : goal.loop-d-preserved
loop-d-preserved c =
    let i = c.loop-d.invariant in
    record {
      size = length-set next d n ∙ i.size;
      done = λ e job m at. go e job m at (ℕ_discrete e d);
      rest = λ e m. get_or-set_other next d e n 0 (λ z. absurd (omega (arith, z, m))) ∙ i.rest e (omega (arith, m));
    }
  where
    next : List ℕ
    next = c.loop-d.next

    d : ℕ
    d = c.loop-d.d

    n : ℕ
    n = get_or next d 0 + c.from.result

    own : (job : Job) → Placed (jobs_of c.args.hall.now) d job → n ≡ get_or c.args.row d 0 + opened_at job c.args.step
    own job at =
        let z = line_is c.args.hall.now d c.index-hall-d.result job at in
        let o = c.from.ensures ∙ ap bool_byte (c.opens.ensures ∙ ap (λ (j : Job). open_at j c.args.step) z) ∙ bit_of (open_at job c.args.step) in
        omega (arith, o, c.loop-d.invariant.rest d (omega arith))

    go : (e : ℕ) (job : Job) → e < d + 1 → Placed (jobs_of c.args.hall.now) e job → Dec (e ≡ d) → get_or (set next d n) e 0 ≡ get_or c.args.row e 0 + opened_at job c.args.step
    go e job m at (yes z) = ap (λ (j : ℕ). get_or (set next d n) j 0) z ∙ get_or-set_same next d n 0 (search rules) ∙ own job (subst (λ (j : ℕ). Placed (jobs_of c.args.hall.now) j job) z at) ∙ ap (λ (j : ℕ). get_or c.args.row j 0 + opened_at job c.args.step) (sym z)
    go e job m at (no z) = get_or-set_other next d e n 0 z ∙ c.loop-d.invariant.done e job (omega (arith, m, z)) at

pub returns : goal.returns
returns c d job at = c.loop-d.invariant.done d job (omega (arith, line_below c.args.hall.now d job at)) at
