-- What is promised of a text over the limit is promised of all such texts: `over`. By number 1, which has no line.
use Prim.Native.Nat.{ℕ, ◌<◌}
use mathlib.Core.Path.{◌≡◌, sym, ap}
use mathlib.Core.List.{List}
use mathlib.Core.Logic.{inl}
use lib.ListN.{length}
use Rattle.fault_lines.specs.Fault.{fault_line_lem, fault_span_lem}
use Rattle.fault_lines.proofs.Breaks.{span_cuts}
use Rattle.lines.specs.Parser.{refused}
use Rattle.lines.proofs.Outcomes.{one_fault, not_both}
use Rattle.lines.proofs.Parsing.{text_long}
use Rattle.job_grammar.specs.Grammar.{job_lines, meaning, read_job_lem}
use Rattle.job_grammar.specs.Reading.{JobReading}
use Rattle.answers.specs.Said.{Said, Refuses}
use Rattle.optimizing.specs.Promise.{OptimumPromise}
use Rattle.whole_input.specs.declared.Text.TheVariants.{Job}
use Rattle.whole_input.specs.Limits.{limit_of}

-- a text over the limit is refused
refused_long : (s : List ℕ) → limit_of Job < length s → read_job_lem s ≡ refused 1 0
refused_long s h = ap meaning (sym (text_long (limit_of Job) job_lines s h))

-- and so has no reading
unread : {X : Type 0} (s : List ℕ) → limit_of Job < length s → JobReading s → X
unread s h r = not_both r.is (refused_long s h)

-- a refusal of a text on line 0 is one of any text
moved : (s t : List ℕ) (n : ℕ) (x : Said) → Refuses 1 s n 0 x → Refuses 1 t n 0 x
unfolding fault_line_lem fault_span_lem
moved s t n x r = record {
  result = r.result;
  text_number = r.text_number;
  line_number = r.line_number;
  span = r.span;
  cuts = rw (r.span) (span_cuts t 0);
  bytes = r.bytes;
}

-- what is promised for a text over the limit is promised for every other
pub over : (walk room : ℕ) (s t : List ℕ) (x : Said) → limit_of Job < length s → limit_of Job < length t → OptimumPromise s walk room x → OptimumPromise t walk room x
over walk room s t x h k p = record {
  says_8 = p.says_8;
  says_6 = (λ e. unread s h (p.says_6.0 e).1.0, λ r. unread t k r.1.0);
  says_0_or_7 = (λ e. unread s h (p.says_0_or_7.0 e).1.0, λ r. unread t k r.1.0);
  no_fault = λ m r. unread t k r;
  writes_6 = p.writes_6;
  writes_0 = λ r. unread t k r;
  writes_7 = λ r. unread t k r;
  as_planner = λ e. unread s h (p.says_0_or_7.0 (inl e)).1.0;
  same = λ r. unread t k r;
  job_fault = λ m i j f.
      let o = one_fault (refused_long t k) f in
      rw (← o.0, ← o.1) (moved s t 1 x (p.job_fault m 1 0 (refused_long s h)));
}
