-- Two accepted job texts that mean the same, both answered 0 by the optimum, get the same bytes: what is printed for the one is a best plan of the other too.
use mathlib.Core.Path.{◌≡◌, sym, ap, ◌∙◌}
use mathlib.Core.List.{List}
use Prim.Native.Nat.{ℕ}
use Rattle.lines.specs.Parser.{accepted}
use Rattle.job_grammar.specs.Grammar.{JobText, Given, meant, meaning, read_job_text}
use Rattle.job_grammar.specs.Reading.{JobReading}
use Rattle.answers.specs.Said.{Said}
use Rattle.judging.specs.Judge.{judge_said, judge_room}
use Rattle.optimizing.specs.Promise.{PrintsBest, OptimumPromise}
use Rattle.alike.proofs.Meaning.{by_meaning}

-- what is printed for the one text is a best plan of the other, where the judge answers them alike
moved : (s s' : List ℕ) (given : Given) (a : Said) → ((lines : List ℕ) → judge_said s lines ≡ judge_said s' lines) → PrintsBest s' given a → PrintsBest s given a
moved s s' given a same p = record {
  cost = p.cost;
  plan = p.plan;
  best = p.best;
  prints = record { lines = p.prints.lines; written = p.prints.written; reads_back = p.prints.reads_back; judged = same p.prints.lines ∙ p.prints.judged };
  all = p.all;
}

-- with 0 the optimum writes the same bytes for texts that mean the same
pub optima_alike : (s s' : List ℕ) (t t' : JobText) → read_job_text s ≡ accepted t → read_job_text s' ≡ accepted t' → meant t ≡ meant t' → (walk walk' room room' : ℕ) (a b : Said)
    → OptimumPromise s walk room a → OptimumPromise s' walk' room' b → a.result ≡ 0 → b.result ≡ 0 → a.bytes ≡ b.bytes
optima_alike s s' t t' e e' same walk walk' room room' a b p q x y =
    let here : JobReading s = record { given = meant t; is = ap meaning e } in
    let there : JobReading s' = record { given = meant t; is = ap meaning e' ∙ ap accepted (sym same) } in
    sym (p.same here x b (moved s s' (meant t) b (λ lines. (by_meaning s s' t t' e e' same).judge lines judge_room) (q.writes_0 there y)))
