-- `prepare`: the tables once without shares, for the ascent; what is kept of its shares; and the tables with them.
use Prim.Native.Nat.{ℕ, ◌+◌}
use mathlib.Core.Path.{◌≡◌, ◌∙◌}
use native.Mathlib.Omega.{arith}
use lib.ListN.{length, replicate, length-replicate}
use mir.Syntax.{w32}
use mir.Val.{to_z, of_z}
use Rattle.base.proofs.Diff.{back}
use Rattle.held_tables.proofs.Sheets.{arrays_of}
use Rattle.share_tables.specs.Prepared.{Roomy}
use Rattle.share_tables.proofs.Fair.{roomy}
use Rattle.share_tables.proofs.Filled.{wide_arrays, all_cheap, prepared}
use Rattle.share_tables.proofs.prepare.Goals as goal
use Rattle.share_tables.proofs.prepare.Goals.{Start, After-share-value}

-- the end, read back from its bits
ends : (c : Start) → let e = c.args.numbers.now.job.end in to_z w32 (of_z w32 e) ≡ e
ends c = let j = c.args.numbers.now.job in back j.end (omega (arith, j.arrays.late))

pub invariant_of-wide : goal.invariant_of-wide
invariant_of-wide c = let j = c.args.numbers.now.job in
    let p = j.arrays in
    record { arrays = rw (ends (goal.at.invariant_of-wide c).Start) (wide_arrays j.end j.positions.now j.fees.now j.lives.now j.lefts.now j.prices.now p c.padded-long.result c.padded-first.result c.padded-long.ensures c.padded-first.ensures j.prices.now p.prices p.cheap) }

-- what is kept leaves every price with its shares in range
ranged : (c : After-share-value) → let n = c.args.numbers.now in Roomy n.job.prices.now c.share-value.new.x (length n.removals.now + 1)
ranged c =
    let n = c.args.numbers.now in
    let k = c.share-value.ensures.kept in
    roomy n.job.prices.now n.job.fees.now n.removals.now k.raw k.before c.share-value.new.x (length n.removals.now + 1) k.kept n.job.arrays.cheap

pub put_shared-requires : goal.put_shared-requires
put_shared-requires c = let n = c.args.numbers.now in
    (n.job.arrays.prices, omega (arith, n.few), ranged (goal.at.put_shared-requires c).After-share-value)

pub invariant_of-shared : goal.invariant_of-shared
invariant_of-shared c = let n = c.args.numbers.now in
    let j = n.job in
    let s = c.put_shared in
    record {
      arrays = rw (ends (goal.at.invariant_of-shared c).Start) (wide_arrays j.end j.positions.now j.fees.now j.lives.now j.lefts.now j.prices.now j.arrays c.padded-long.result c.padded-first.result c.padded-long.ensures c.padded-first.ensures
          s.new.all (s.ensures.size ∙ length-replicate {A = ℕ} 1024 0) (all_cheap j.prices.now c.share-value.new.x (replicate 1024 0) s.new.all (length n.removals.now + 1) (length-replicate {A = ℕ} 1024 0) s.ensures (ranged (goal.at.invariant_of-shared c).After-share-value)));
    }

pub returns-clause-tables : goal.returns-clause-tables
returns-clause-tables c = λ job ho.
    let n = c.args.numbers.now in
    let j = n.job in
    let k = c.share-value.ensures.kept in
    prepared job j.end j.positions.now j.fees.now j.lives.now j.lefts.now j.prices.now n.needs.now n.removals.now (arrays_of n) ho
    k.raw k.before c.share-value.new.x k.marked k.kept
    c.padded-long.result c.padded-first.result c.padded-long.ensures c.padded-first.ensures
    (replicate 1024 0) c.put_shared.new.all c.put_shared.ensures (length-replicate {A = ℕ} 1024 0) c.fill_rows-2.new.t (rw (ends (goal.at.returns-clause-tables c).Start) at c.fill_rows-2.ensures)
