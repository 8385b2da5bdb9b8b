-- What the call writes fits the room that it asks for: the new job's text, as every accepted job's does, and the lines of a judgement or of a refusal.
use Prim.Native.Nat.{ℕ, ◌≤◌}
use mathlib.Core.Path.{◌≡◌, refl}
use mathlib.Core.List.{List}
use native.Mathlib.Omega.{arith}
use lib.ListN.{length}
use Rattle.lines.specs.Parser.{Outcome, accepted, refused}
use Rattle.model.specs.Verdict.{Judgement, accepts, unkept, wrong_cost}
use Rattle.job_grammar.specs.Grammar.{JobText, read_job_text}
use Rattle.job_grammar.proofs.Accepted.{valid_text}
use Rattle.job_grammar.proofs.Lengths.{text_fits}
use Rattle.answers.proofs.Lengths.{fault_short}
use Rattle.judging.proofs.Lengths.{cost_short, unkept_short}
use Rattle.carry.specs.Carry.{Log, Logged}
use Rattle.log_grammar.specs.Grammar.{LogText, log_of, read_log}
use Rattle.job_grammar.specs.Reading.{meant_job}
use Rattle.carry_texts.specs.Carried.{carried_text}
use Rattle.carry_texts.proofs.Carried.{carried_valid}
use Rattle.log_grammar.proofs.Logs.{log_tells}
use Rattle.carrying.specs.Carry.{said_after, judged_done, on_log, on_job, carry_said, carry_room}

module _ (text log : List ℕ) where
  after_short : (t : JobText) → read_job_text text ≡ accepted t → (done : Log) → Logged (meant_job t) done → (j : Judgement) → length (said_after t done j).bytes ≤ carry_room
  after_short t r done l (accepts c) = text_fits (carried_text t done) (carried_valid t done (valid_text text t r) l)
  after_short t r done l (unkept p d) = omega (arith, unkept_short p d)
  after_short t r done l (wrong_cost c) = omega (arith, cost_short 11 c)

  log_short : (t : JobText) → read_job_text text ≡ accepted t → (x : Outcome LogText) → read_log (meant_job t) log ≡ x → length (on_log log t x).bytes ≤ carry_room
  log_short t r (accepted said) l = let done = log_of (meant_job t) said in after_short t r done (log_tells (meant_job t) (valid_text text t r).means.job log said l).logged (judged_done t done)
  log_short t r (refused n i) l = omega (arith, fault_short n 2 i)

  job_short : (x : Outcome JobText) → read_job_text text ≡ x → length (on_job text log x).bytes ≤ carry_room
  job_short (accepted t) r = log_short t r (read_log (meant_job t) log) refl
  job_short (refused n i) r = omega (arith, fault_short n 1 i)

  -- what carrying on says fits the room that its call asks for
  pub said_short : length (carry_said text log).bytes ≤ carry_room
  unfolding carry_said
  said_short = job_short (read_job_text text) refl
