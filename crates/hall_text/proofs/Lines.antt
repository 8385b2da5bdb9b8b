-- A job's lines, seen through what they mean: a struct that says what they say holds the job that they mean (`job_meant`), which is accepted (`job_sound`).
use Prim.Native.Nat.{ℕ}
use mathlib.Core.Path.{◌≡◌, refl, sym, ap, subst}
use mathlib.Core.List.{List}
use Rattle.std.specs.Prelude.{Ok}
use Rattle.lines.specs.Parser.{good, accepted}
use Rattle.lines.proofs.Outcomes.{one_value}
use Rattle.job_grammar.specs.Grammar.{Given, meant, job_lines}
use Rattle.job_grammar.proofs.Accepted.{lines_tell}
use Rattle.jobs.specs.Valid.{ValidJob}
use Rattle.jobs.specs.Views.{job_of}
use Rattle.job_text.specs.declared.text.JobText.{JobText}
use Rattle.job_text.specs.Views.{text_of, given_of}
use Rattle.job_text.proofs.Views.{means}

-- what the struct means is what its lines mean
given_meant : (t : JobText) → given_of t ≡ meant (text_of t)
given_meant t = one_value refl (sym (means (Ok t) {x = accepted (text_of t)} refl))

-- the job
pub job_meant : (t : JobText) → job_of t.job ≡ (meant (text_of t)).job
job_meant t = ap (λ (g : Given). g.job) (given_meant t)

-- which is valid, where these are the lines of a text
pub job_sound : (t : JobText) (s s' : List ℕ) (l l' : ℕ) → good (text_of t) s' l' ≡ job_lines s l → ValidJob (job_of t.job)
job_sound t s s' l l' e = subst (λ (g : Given). ValidJob g.job) (sym (given_meant t)) (lines_tell s s' l l' (text_of t) (sym e)).known.means.job
