-- `put_terms` makes the terms. The invariant: they are the largest over the first q parts.
use Prim.Native.Nat.{ℕ, ◌+◌, ◌*◌, ◌<◌}
use mathlib.Core.Path.{◌≡◌, sym, ap, subst, ◌∙◌}
use native.Mathlib.Omega.{arith}
use lib.ListN.{length, get_or}
use Rattle.lane_rows.specs.Layout.{mark_count, term_place}
use Rattle.lane_rows.specs.Sheet.{Column, no_column}
use Rattle.lane_rows.proofs.Rising.{row_inside, triangle_next}
use Rattle.search_tables.specs.Arrays.{lane_part, column_of, fours_of_lem}
use Rattle.search_tables.specs.Flat.{sheet_in}
use Rattle.search_tables.specs.Fill.{Raised, Terms}
use Rattle.search_tables.proofs.Filling.{columns_length, columns_at}
use Rattle.search_tables.proofs.Raising.{Cleared, raised_as, terms_none, terms_since, terms_more}
use Rattle.search_tables.proofs.flat.FlatJob.put_terms.Goals as goal
use Rattle.search_tables.proofs.flat.FlatJob.put_terms.Goals.{After-clear}

pub clear-requires : goal.clear-requires
clear-requires c = let j = c.args.self.now in
    let n = length j.positions.now in
    let few = j.arrays.few in
    omega (arith, row_inside n n mark_count (omega arith) (omega (arith, few)), triangle_next n, c.row_of.ensures.rows)

-- all terms are cleared
cleared : (c : After-clear) → let j = c.args.self.now in Cleared (sheet_in j) j.arrays.few c.args.t.now c.clear.new.t
cleared c = rw c.row_of.ensures.rows at c.clear.ensures

pub loop-q-init : goal.loop-q-init
loop-q-init c = let j = c.args.self.now in terms_none (sheet_in j) j.arrays.few c.args.t.now c.clear.new.t (cleared (goal.at.loop-q-init c).After-clear)

pub raise_part-requires : goal.raise_part-requires
raise_part-requires c = omega (arith, c.loop-q.auto.tab, c.requires)

pub loop-q-preserved : goal.loop-q-preserved
loop-q-preserved c = let j = c.args.self.now in
    let l = c.loop-q in
    let n = length j.positions.now in
    let k = fours_of_lem (length j.lives.now) * 4 in
    let sheet = sheet_in j in
    let t = c.clear.new.t in
    let v = c.raise_part.new.t in
    let h : l.q < k = omega (arith, c.loop-q-test.true) in
    let z : 0 + l.q ≡ l.q = omega arith in
    let is : get_or sheet.columns l.q no_column ≡ column_of (lane_part n j.lives.now j.lefts.now j.prices.now l.q) =
    columns_at n j.lives.now j.lefts.now j.prices.now 0 k l.q h ∙ ap (λ (q : ℕ). column_of (lane_part n j.lives.now j.lefts.now j.prices.now q)) z in
    terms_more sheet j.arrays.few t l.t v l.q (omega (arith, columns_length n j.lives.now j.lefts.now j.prices.now 0 k)) j.arrays.fair
    (subst (λ (col : Column). Raised sheet col term_place l.t v) (sym is)
    (raised_as sheet (column_of (lane_part n j.lives.now j.lefts.now j.prices.now l.q)) (λ j i. omega arith) c.raise_part.ensures)) l.invariant

pub returns : goal.returns
returns c = let j = c.args.self.now in
    let l = c.loop-q in
    let z : l.q ≡ length j.lives.now = omega arith in
    terms_since (sheet_in j) j.arrays.few c.args.t.now c.clear.new.t l.t (length j.lives.now) (cleared (goal.at.returns c).After-clear) (subst (Terms (sheet_in j) c.clear.new.t l.t) z l.invariant)
