-- The new text's pieces, one behind the other as they are put (`text_is`). By the laws of the text.
use Rattle.std.specs.Prelude.{Option, None}
use Prim.Native.Nat.{ℕ, ◌-◌}
use mathlib.Core.Path.{◌≡◌, sym, ap, ap₂, ◌∙◌}
use mathlib.Core.List.{List, ◌++◌, map, append_assoc, append-nil}
use lib.ListN.{length, drop}
use Rattle.lines.specs.Text.{line_of, texts, optional_text}
use Rattle.model.specs.Model.{Opening}
use Rattle.job_grammar.specs.Rendering.{idles_text, opening_text, body_text, job_text_lem}
use Rattle.job_grammar.specs.Grammar.{idle_in}
use Rattle.job_grammar.specs.Optionals.{idle_lines}
use Rattle.job_grammar.proofs.Optionals.{idle_steps_lem2}
use Rattle.jobs.specs.Views.{job_of}
use Rattle.part_lines.specs.Grammar.{PartText}
use Rattle.part_lines.specs.Rendering.{part_text}
use Rattle.job_text.specs.Views.{text_in}
use Rattle.job_text.specs.declared.accepted.AcceptedText.{AcceptedText}
use Rattle.carry.specs.Carry.{passed, later, renumbered}
use Rattle.carried_writing.specs.Left.{parts_left, text_left}

-- a text without a `walk` line
no_walk : (h : ℕ) (is : Option (List ℕ)) (os : List Opening) (ps : List PartText)
    → job_text_lem (record { horizon = h; idles = is; walk = None; openings = os; parts = ps })
    ≡ line_of "horizon=" h ++ optional_text idles_text is ++ (line_of "openings=" (length os) ++ texts opening_text os) ++ (line_of "parts=" (length ps) ++ texts part_text ps)
unfolding job_text_lem body_text
no_walk h is os ps =
    let a = line_of "horizon=" h ++ optional_text idles_text is in
    let n = line_of "openings=" (length os) in
    let t = texts opening_text os in
    let m = line_of "parts=" (length ps) in
    let q = texts part_text ps in
    ap (λ (x : List ℕ). x ++ n ++ (t ++ m ++ q)) (append-nil a)
    ∙ append_assoc a n (t ++ m ++ q)
    ∙ ap (λ (x : List ℕ). a ++ (n ++ x)) (append_assoc t m q)
    ∙ ap (λ (x : List ℕ). a ++ x) (sym (append_assoc n t (m ++ q)))
    ∙ sym (append_assoc a (n ++ t) (m ++ q))

-- the text that is left of an accepted one, when k openings are past
pub text_is : (t : AcceptedText) (step k : ℕ) (rs : List ℕ) → k ≡ passed (job_of t.job.job) step
    → let os = map (renumbered step) (drop k (job_of t.job.job).openings) in
    let ps = parts_left (length (text_in t).openings) k rs (text_in t).parts in
    job_text_lem (text_left (text_in t) step rs)
    ≡ line_of "horizon=" (t.job.job.horizon - step) ++ optional_text idles_text (idle_lines (later step (job_of t.job.job).idles)) ++ (line_of "openings=" (length os) ++ texts opening_text os) ++ (line_of "parts=" (length ps) ++ texts part_text ps)
text_is t step k rs e =
    let j = job_of t.job.job in
    let h = line_of "horizon=" (t.job.job.horizon - step) in
    let openings : ℕ → List ℕ = λ k. line_of "openings=" (length (map (renumbered step) (drop k j.openings))) ++ texts opening_text (map (renumbered step) (drop k j.openings)) in
    let parts : ℕ → List ℕ = λ k. line_of "parts=" (length (parts_left (length j.openings) k rs (text_in t).parts)) ++ texts part_text (parts_left (length j.openings) k rs (text_in t).parts) in
    no_walk (t.job.job.horizon - step) (idle_lines (later step (idle_in (idle_lines j.idles)))) (map (renumbered step) (drop (passed j step) j.openings)) (parts_left (length j.openings) (passed j step) rs (text_in t).parts)
    ∙ ap₂ (λ (is : List ℕ) (k : ℕ). h ++ optional_text idles_text (idle_lines (later step is)) ++ openings k ++ parts k) (sym (idle_steps_lem2 j.idles)) (sym e)
