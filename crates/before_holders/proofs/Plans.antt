-- Plan texts: one that was accepted is accepted still, and states the same (`plan_before`); `cost` may only be larger than before.
use Rattle.std.specs.Prelude.{Option, Some, None}
use Prim.Native.Nat.{ℕ, ◌≤◌}
use mathlib.Core.Path.{◌≡◌, refl, ◌∙◌}
use mathlib.Core.List.{List, [], ◌∷◌}
use mathlib.Core.Bool.{Bool, true, false, ◌&&◌, and-eq-true_iff}
use native.Mathlib.Omega.{arith}
use lib.Dec.{leb}
use borrow.Author.Tests.{leb-true, le-leb}
use Rattle.lines.specs.Line.{read_line_lem}
use Rattle.lines.specs.Parser.{good, row_at, row, taken, in_range, read_field_lem, accepted}
use Rattle.lines.proofs.Parsing.{bind_good}
use Rattle.lines.proofs.Sound.{never, bind_inv, accepted_is}
use Rattle.lines.proofs.Complete.{text_complete}
use Rattle.model.specs.Model.{Job}
use Rattle.model.specs.Limits.{most_cost}
use Rattle.plan_grammar.specs.Grammar.{Stated, plan_lines, max_bytes, read_plan_lem}
use Rattle.before_holders.specs.Texts as before

-- a line whose value may be larger
wider_row : (key : List ℕ) (lo hi more : ℕ) → hi ≤ more → (s s' : List ℕ) (l l' v : ℕ) → row_at key lo hi s l ≡ good v s' l' → row_at key lo more s l ≡ good v s' l'
unfolding row_at read_field_lem taken in_range
wider_row key lo hi more few s s' l l' v h = go (read_line_lem key s) h
  where
    go : (x : Option (ℕ × ℕ)) → taken s l (in_range lo hi x) ≡ good v s' l' → taken s l (in_range lo more x) ≡ good v s' l'
    go (Some (w, n)) q = pick (leb lo w && leb w hi) refl
      where
        pick : (t : Bool) → (leb lo w && leb w hi) ≡ t → taken s l (in_range lo more (Some (w, n))) ≡ good v s' l'
        pick true e =
            let r = (and-eq-true_iff (leb lo w) (leb w hi)).0 e in
            let high = leb-true w hi r.1 in
            rw (in_range, r.0, le-leb w more (omega (arith, high))) (rw (in_range, e) at q)
        pick false e = never (rw (in_range, e) at q)
    go None q = never q

lines_before : (job : Job) (s s' : List ℕ) (l l' : ℕ) (t : Stated) → before.plan_lines job s l ≡ good t s' l' → plan_lines job s l ≡ good t s' l'
unfolding before.plan_lines plan_lines
lines_before job s s' l l' t e =
    let b = bind_inv (row "cost=" 0 before.most_cost) _ s s' l l' t e in
    bind_good (row "cost=" 0 most_cost) _ (wider_row _ 0 before.most_cost most_cost (omega arith) s b.mid l b.at b.a b.first) ∙ b.second

-- a plan text accepted before holders is accepted still, and says the same
pub plan_before : (job : Job) (s : List ℕ) (t : Stated) → before.read_plan_lem job s ≡ accepted t → read_plan_lem job s ≡ accepted t
unfolding before.read_plan_lem read_plan_lem
plan_before job [] t e = e
plan_before job (b ∷ s) t e =
    let a = accepted_is before.max_bytes (before.plan_lines job) (b ∷ s) t e in
    text_complete max_bytes (plan_lines job) (b ∷ s) t a.last a.few (lines_before job (b ∷ s) [] 1 a.last t a.lines)
