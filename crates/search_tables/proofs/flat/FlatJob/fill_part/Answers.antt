-- `fill_part` makes the lane of part q, or past the last part one that goes with the first part's and costs nothing.
use Prim.Native.Nat.{ℕ, ◌+◌, ◌*◌, ◌≤◌}
use native.Mathlib.Omega.{arith}
use lib.ListN.{length}
use Rattle.lane_rows.specs.Layout.{dear}
use Rattle.held_places.specs.Arrays.{price_stride}
use Rattle.search_tables.proofs.Filling.{all_true, own_each, own_is}
use Rattle.search_tables.proofs.flat.FlatJob.fill_part.Goals as goal

pub fill_lane-requires : goal.fill_lane-requires
fill_lane-requires c = let j = c.args.self.now in
    let o = c.offers-part.ensures in
    let n = length j.positions.now in
    record {
      room = c.requires.0;
      allowed = rw o.allowed (all_true n 64);
      cheap = rw (o.priced, own_is j.prices.now c.args.q n c.requires.1 j.arrays.few j.arrays.prices)
          (own_each (λ (x : ℕ). x ≤ dear) j.prices.now c.args.q n (omega arith) (λ i. j.arrays.cheap (c.args.q * price_stride + i)));
      lane = c.requires.1;
    }

pub returns : goal.returns
returns c = let j = c.args.self.now in
    let o = c.offers-part.ensures in
    rw (o.ends, o.places, o.lived.lives, o.lived.begins, o.priced, own_is j.prices.now c.args.q (length j.positions.now) c.requires.1 j.arrays.few j.arrays.prices)
    at c.fill_lane.ensures
