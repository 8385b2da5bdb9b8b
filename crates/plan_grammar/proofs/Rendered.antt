-- An accepted plan text is empty and states doing nothing, or is the rendering of the plan that was read, for a valid job (`text_is`): its lines are those of its visits, and the visits are the plan's.
use Prim.Native.Nat.{ℕ}
use mathlib.Core.Path.{◌≡◌, sym, ap, ◌∙◌}
use mathlib.Core.List.{List, [], append-nil}
use mathlib.Core.Logic.{◌⊎◌, inl, inr, ⊎_elim}
use Rattle.lines.specs.Text.{bytes, line, decimal_in}
use Rattle.lines.specs.Parser.{accepted}
use Rattle.model.specs.Model.{Job}
use Rattle.jobs.specs.Valid.{ValidJob}
use Rattle.plan_grammar.specs.Grammar.{Stated, nothing, read_plan_lem}
use Rattle.plan_grammar.specs.Rendering.{visits_of, plan_text_lem, plan_lines_of}
use Rattle.plan_grammar.proofs.Valid.{no_visits, Valid}
use Rattle.plan_grammar.proofs.Accepted.{Lines, text_tells}
use Rattle.plan_grammar.proofs.Back.{visits_back}

rendered : (job : Job) → ValidJob job → (stated : Stated) (v : Valid job stated) → plan_text_lem stated.cost v.vs ≡ plan_lines_of job stated.cost stated.plan
unfolding plan_lines_of
rendered job ok stated v = ap (plan_text_lem stated.cost) (sym (visits_back job ok v.vs v.visits) ∙ ap (visits_of job) v.makes)

-- of the one text that is no rendering: what it states is rendered as the text of no stops and cost 0
pub nothing_rendered : (job : Job) → ValidJob job → bytes "cost=0\nstops=0\n" ≡ plan_lines_of job 0 (nothing job).plan
unfolding bytes line decimal_in plan_text_lem plan_lines_of
nothing_rendered job ok = ap (plan_text_lem 0) (sym (visits_back job ok [] (no_visits job)))

-- an accepted plan text is empty, or the rendering of what it says
pub text_is : (job : Job) → ValidJob job → (s : List ℕ) (stated : Stated) → read_plan_lem job s ≡ accepted stated
    → ((s ≡ []) × (nothing job ≡ stated)) ⊎ (s ≡ plan_lines_of job stated.cost stated.plan)
text_is job ok s stated e = ⊎_elim inl (λ (r : Lines job s [] stated). inr (r.text ∙ append-nil (plan_text_lem stated.cost r.valid.vs) ∙ rendered job ok stated r.valid)) (text_tells job s stated e)
