-- That the numbers of classes are small: each lane's class, each class's first part, and how many classes there are.
use Rattle.std.specs.Prelude.{ℕ, ◌≤◌, ◌<◌, ◌≡◌, List, length, get_or}
use Rattle.lane_rows.specs.Layout.{lane_count_lem}

-- the classes and their parts are small numbers
pub record Led (lanes leads : List ℕ) (count : ℕ) : Type 0 where
  pub size : length lanes ≡ lane_count_lem
  pub room : length leads ≡ lane_count_lem
  pub most : count ≤ lane_count_lem
  pub class : (q : ℕ) → get_or lanes q 0 < lane_count_lem
  pub lead : (c : ℕ) → get_or leads c 0 < lane_count_lem
