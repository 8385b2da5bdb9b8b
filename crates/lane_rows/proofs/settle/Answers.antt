-- `settle` writes the row that a yes owes, and forgets what was known of it: by the two cases.
use Prim.Native.Nat.{ℕ, ◌+◌, ◌-◌}
use mathlib.Core.Path.{◌≡◌, refl, sym, subst, ◌∙◌}
use mathlib.Core.Bool.{false≢true}
use native.Mathlib.Omega.{arith}
use Rattle.base.specs.Filled.{FilledBy}
use Rattle.lane_rows.specs.Layout.{mark_count, known_place, lanes_in}
use Rattle.lane_rows.specs.Rows.{next_row}
use Rattle.lane_rows.proofs.Memory.{put_forgets, memo_put}
use Rattle.lane_rows.proofs.settle.Goals as goal

pub overflow_sub-at : goal.overflow_sub-at
overflow_sub-at c = let o = c.requires c.if-stop.true in omega (arith, o.0)

pub put_row-requires : goal.put_row-requires
put_row-requires c = (c.requires c.if-stop.true).1

pub overflow_add-rows : goal.overflow_add-rows
overflow_add-rows c = let o = c.requires c.if-stop.true in omega (arith, o.1.few)

pub forget-requires : goal.forget-requires
forget-requires c = let o = c.requires c.if-stop.true in
    (omega (arith, o.1.few), omega (arith, o.1.near), c.put_row.ensures.put.kept.size ∙ o.1.stack.size)

pub overflow_add-result : goal.overflow_add-result
overflow_add-result c = let o = c.requires c.if-stop.true in omega (arith, o.1.few)

pub returns-then-stop : goal.returns-then-stop
returns-then-stop c = let a = c.args in
    let o = c.requires c.if-stop.true in
    let p = c.put_row in
    let f = c.forget in
    let z : a.at ≡ a.at - 1 + 1 = omega (arith, o.0) in
    let g = subst (λ (m : ℕ). FilledBy (λ (y : ℕ). known_place (a.rows + 1) (m + y)) (λ (y : ℕ). 0) (mark_count - m) p.new.w f.new.w) z f.ensures in
    let near = o.1.near in
    record {
      no = λ e. absurd (false≢true (sym e ∙ c.if-stop.true));
      yes = λ e. (
        refl,
        put_forgets (lanes_in a.t.now) (next_row a.t.now a.w.now (a.at - 1) a.rows) a.w.now p.new.w f.new.w a.rows (a.at - 1 + 1) p.ensures.put p.ensures.frame g o.1.few (omega arith) o.1.stack.narrow,
      );
      memo = memo_put (lanes_in a.t.now) (next_row a.t.now a.w.now (a.at - 1) a.rows) a.w.now p.new.w f.new.w a.rows (a.at - 1 + 1) p.ensures.put p.ensures.frame g o.1.few (omega arith) o.1.stack.narrow
          a.t.now o.1.stack.narrow (omega (arith, o.1.stack.few));
    }

pub returns : goal.returns
returns c = record {
  no = λ f. (refl, refl);
  yes = λ f. absurd (false≢true (sym c.if-stop.false ∙ f));
  memo = λ m. m;
}
