-- That the grammar's rule admits a job is what a hall asks of a further line: `joins_so`. And equal idle steps are told by the slices' test: `same_is`.
use Prim.Native.Nat.{ℕ, ◌+◌, ◌≤◌}
use mathlib.Core.Path.{◌≡◌, refl, ap}
use mathlib.Core.Bool.{Bool, true, ◌&&◌, and-eq-true_iff}
use mathlib.Core.List.{List, [], ◌∷◌}
use native.Mathlib.Omega.{arith}
use borrow.Author.Tests.{eqb-true, leb-true}
use lib.Dec.{eqb, leb}
use lib.ListN.{length}
use lib.Pointwise.{pointwise}
use Rattle.model.specs.Model.{Job}
use Rattle.model.specs.Limits.{most_openings, most_parts}
use Rattle.hall_model.specs.Limits.{parts_in, openings_in}
use Rattle.hall_grammar.specs.Grammar.{same_numbers, like_first, room_for, joins}
use Rattle.hall_grammar.proofs.Accepted.{numbers_same}
use Rattle.hall_jobs.specs.Hall.{Joins}

-- what the test of two slices says
pub same_is : (ms ns : List ℕ) → pointwise eqb ms ns ≡ same_numbers ms ns
unfolding same_numbers
same_is [] [] = refl
same_is [] (n ∷ ns) = refl
same_is (m ∷ ms) [] = refl
same_is (m ∷ ms) (n ∷ ns) = ap (λ (b : Bool). eqb m n && b) (same_is ms ns)

-- the grammar's rule, of lines of which there is one
pub joins_so : (before : List Job) (job : Job) → 1 ≤ length before → joins before job ≡ true → Joins before job
joins_so [] job l e = absurd (omega arith)
joins_so (first ∷ before) job l e =
    let b = (and-eq-true_iff (like_first (first ∷ before) job) (room_for (first ∷ before) job)).0 e in
    let like = (and-eq-true_iff (eqb job.horizon first.horizon) (same_numbers job.idles first.idles)).0 b.0 in
    let room = (and-eq-true_iff (leb (parts_in (first ∷ before) + length job.parts) most_parts) (leb (openings_in (first ∷ before) + length job.openings) most_openings)).0 b.1 in
    record {
      same_horizon = eqb-true job.horizon first.horizon like.0;
      same_idles = numbers_same job.idles first.idles like.1;
      parts = leb-true (parts_in (first ∷ before) + length job.parts) most_parts room.0;
      openings = leb-true (openings_in (first ∷ before) + length job.openings) most_openings room.1;
    }
