-- What is left behind a log's step, with the life not yet used of each part, is the new job's text (`carried_is`). By the parts, one after the other.
use Rattle.std.specs.Prelude.{None}
use mathlib.Core.Path.{◌≡◌, refl, sym, ap, ap₂, ◌∙◌}
use mathlib.Core.Bool.{Bool}
use mathlib.Core.List.{List, [], ◌∷◌, map}
use Prim.Native.Nat.{ℕ, suc, ◌-◌, ◌<◌}
use native.Mathlib.Omega.{arith}
use lib.ListN.{length, get_or, drop}
use Rattle.model.specs.Model.{Job}
use Rattle.model.specs.Verdict.{part_at, changes_at, no_part}
use Rattle.part_lines.specs.Grammar.{PartText, meant_part}
use Rattle.job_grammar.specs.Grammar.{JobText, idle_in}
use Rattle.job_grammar.specs.Optionals.{idle_lines}
use Rattle.carry.specs.Carry.{Log, passed, later, renumbered, unused, natural}
use Rattle.job_grammar.specs.Reading.{meant_job}
use Rattle.carry_texts.specs.Carried.{carried_part_lines, carried_text}
use Rattle.carried_writing.specs.Left.{part_left, parts_left, text_left}
use Rattle.base.proofs.Bools.{after_one}

parts_are : (n : ℕ) (job : Job) (step : ℕ) (ps : List PartText) (cs : List (List Bool)) (rs : List ℕ)
    → ((i : ℕ) → i < length ps → get_or rs i 0 ≡ natural (unused job step (get_or (map (meant_part n) ps) i no_part) (get_or cs i [])))
    → parts_left n (passed job step) rs ps ≡ carried_part_lines n job step ps cs
unfolding parts_left carried_part_lines
parts_are n job step [] cs rs h = refl
parts_are n job step (p ∷ ps) cs rs h =
    ap₂ (λ (r : ℕ) (qs : List PartText). part_left n (passed job step) r p ∷ qs) (h 0 (omega arith))
    (parts_are n job step ps (drop 1 cs) (drop 1 rs)
    (λ i l. after_one rs i 0 ∙ h (suc i) (omega arith) ∙ ap (λ (c : List Bool). natural (unused job step (get_or (map (meant_part n) ps) i no_part) c)) (sym (after_one cs i []))))

-- where each part's left is the life that it has not used by the log
pub carried_is : (t : JobText) (log : Log) (rs : List ℕ)
    → ((i : ℕ) → i < length t.parts → get_or rs i 0 ≡ natural (unused (meant_job t) log.step (part_at (meant_job t) i) (changes_at log.plan i)))
    → text_left t log.step rs ≡ carried_text t log
carried_is t log rs h =
    let ps = parts_are (length t.openings) (meant_job t) log.step t.parts log.plan.changes rs h in
    λ i. record {
      horizon = t.horizon - log.step;
      idles = idle_lines (later log.step (idle_in t.idles));
      walk = None;
      openings = map (renumbered log.step) (drop (passed (meant_job t) log.step) t.openings);
      parts = ps i;
    }
