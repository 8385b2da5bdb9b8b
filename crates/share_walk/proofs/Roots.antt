-- The first node: nothing is decided, charged or stacked but the sources.
use Prim.Native.Nat.{ℕ, zero, suc, ◌+◌, ◌-◌}
use mathlib.Core.Path.{◌≡◌, refl, sym, ap, ap₂, subst, ◌∙◌}
use mathlib.Core.Bool.{Bool}
use mathlib.Core.List.{List, [], ◌++◌}
use native.Mathlib.Omega.{arith}
use lib.ListN.{length, get_or, replicate, length-append, length-replicate}
use Rattle.branch.specs.Questions.{ask_from, left_at}
use Rattle.model.specs.Model.{Job, sum_at}
use Rattle.model.specs.LowerBound.{inner}
use Rattle.model.proofs.Sums.{sum_none, sum_same}
use Rattle.shares.specs.Shares.{Shares, worth, charged_for}
use Rattle.shares.specs.Lift.{Level}
use Rattle.shares.specs.Dolls.{sourced_tree}
use Rattle.share_rows.specs.Stacked.{Course}
use Rattle.share_walk.specs.declared.Node.{Node}
use Rattle.share_walk.specs.State.{name_size, blocks_at, course_bound, tree_at, At, Ready}
use Rattle.model.proofs.Blocks.{blocks_none}

-- the first node of a walk from a level, where h removals are asked at each stop
abbrev pub root_n : ℕ → ℕ → Node
root_n level h = record { at = level; rows = level + 1; next = h; size = 0; spent = 0 }

bare_at : (l k : ℕ) → get_or (replicate {A = List Bool} l [] ++ []) k [] ≡ []
bare_at zero zero = refl
bare_at zero (suc k) = refl
bare_at (suc l) zero = refl
bare_at (suc l) (suc k) = bare_at l k

module _ (job : Job) (course : Course) where
  -- no block is decided
  pub nothing : blocks_at job course [] ≡ replicate course.level [] ++ []
  nothing = ap (λ (ds : List (List Bool)). replicate course.level [] ++ ds) (blocks_none (inner job) (length job.openings - course.level))

  -- so many stand before the level
  pub bare_long : length (blocks_at job course []) ≡ course.level
  bare_long = ap length nothing ∙ omega (arith, length-append (replicate {A = List Bool} course.level []) [], length-replicate {A = List Bool} course.level [])

  charged_none : charged_for job (blocks_at job course []) ≡ 0
  unfolding sum_at
  charged_none =
      ap (charged_for job) nothing
      ∙ sum_same (length job.openings) 0 (λ (k : ℕ). sum_at (worth job k) (get_or (replicate course.level [] ++ []) k [])) (λ (k : ℕ). 0) (λ k _ _. ap (sum_at (worth job k)) (bare_at course.level k))
      ∙ sum_none (length job.openings) 0

module _ (job : Job) (shares : Shares) (course : Course) (level : ℕ) (t x lifts w : List ℕ) (ready : Ready job shares course level t x lifts w) (h : ℕ) (e : h ≡ inner job) where
  -- all that the walk is given at the first node: the sources' rows, and nothing decided or charged
  pub at_root : (name : List Bool) → length name ≡ name_size → At job shares course [] t x lifts w name (root_n level h)
  at_root name l =
      let so = ready.solvable in
      record {
        numbers = record {
          tables = so.tables;
          shared = so.shared;
          lanes_are = so.lanes_are;
          idle = ready.idle;
          begun = omega (arith, ready.begins);
          inside = ready.inside;
          next = omega (arith, e);
          size = bare_long job course ∙ ready.begins;
          spent = sym (charged_none job course);
          poor = omega arith;
          named = refl;
          short = omega (arith, e);
        };
        lift = ready.lift;
        name_is = refl;
        room = l;
        rows = ready.rows;
        memo = ready.memo;
        opening = λ _. let z : 0 ≡ level - course.level = omega (arith, ready.begins) in subst (λ (k : ℕ). Level job k []) z refl;
        stop = λ g. absurd (omega (arith, g, e));
      }

  -- the tree at the first node is the one from the course's sources
  pub root_tree : tree_at job shares course (root_n level h) [] ≡ sourced_tree job shares course.lift course.level course.sources
  unfolding ask_from
  root_tree =
      let z : inner job - h ≡ 0 = omega (arith, e) in
      ap₂ (λ (k n : ℕ). left_at (course_bound job shares course) (inner job) k (length job.openings - n) []) z (sym ready.begins)
