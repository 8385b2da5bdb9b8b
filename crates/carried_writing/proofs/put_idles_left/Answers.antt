-- `put_idles_left`: the idle steps after the step are not too many, so that nothing of their text is cut.
use Prim.Native.Nat.{ℕ, ◌-◌, ◌≤◌}
use mathlib.Core.Path.{◌≡◌, sym, ap, subst, ◌∙◌}
use mathlib.Core.List.{List, map}
use native.Mathlib.Omega.{arith}
use lib.ListN.{length, length-map, length-drop, take, drop}
use Rattle.lines.specs.Text.{optional_text}
use Rattle.line_writing.proofs.Putting.{same, room_same}
use Rattle.jobs.specs.Views.{job_of}
use Rattle.job_grammar.specs.Optionals.{idle_lines}
use Rattle.job_grammar.specs.Rendering.{idles_text}
use Rattle.form_writing.specs.Cut.{idles_cut}
use Rattle.form_writing.proofs.Pieces.{idles_whole}
use Rattle.carry.specs.Carry.{count_to, later}
use Rattle.carry.proofs.Later.{After, left_after}
use Rattle.carried_writing.proofs.put_idles_left.Goals as goal
use Rattle.carried_writing.proofs.put_idles_left.Goals.{After-renumbered-steps}

-- those that are left, and their text
text_is : (c : After-renumbered-steps) → let is = (job_of c.args.job.now.job).idles in
    optional_text idles_cut (idle_lines (take (length is - c.count_to-n.result) c.renumbered-steps.result)) ≡ optional_text idles_text (idle_lines (later c.args.step is))
text_is c =
    let is = (job_of c.args.job.now.job).idles in
    let n = c.count_to-n.result in
    let few : length (later c.args.step is) ≤ 365 = omega (arith, length-map (drop (count_to c.args.step is) is) (λ (s : ℕ). s - c.args.step), length-drop (count_to c.args.step is) is, c.args.job.now.valid.few_idles) in
    ap (λ (xs : List ℕ). optional_text idles_cut (idle_lines xs)) (c.renumbered-steps.ensures ∙ ap (λ (k : ℕ). map (λ (s : ℕ). s - c.args.step) (drop k is)) c.count_to-n.ensures.0)
    ∙ idles_whole (later c.args.step is) few

pub renumbered-steps-requires : goal.renumbered-steps-requires
renumbered-steps-requires c = let is = (job_of c.args.job.now.job).idles in
    let ok = c.args.job.now.valid in
    (ok.few_idles, c.count_to-n.ensures.1, subst (λ (k : ℕ). After c.args.step (drop k is)) (sym c.count_to-n.ensures.0) (left_after c.args.step 0 c.args.job.now.job.horizon is ok.idles))

pub put_idles-requires : goal.put_idles-requires
put_idles-requires c = room_same c.requires (sym (text_is (goal.at.put_idles-requires c).After-renumbered-steps))

pub returns : goal.returns
returns c = same c.put_idles.ensures (text_is (goal.at.returns c).After-renumbered-steps)
