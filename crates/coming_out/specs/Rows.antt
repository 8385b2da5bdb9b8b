-- Sets of parts as the code holds them: a row of sixteen places, and a matrix of sixteen rows one after the other. And which parts stand in the rows of a set.
use Rattle.std.specs.Prelude.{◌≡◌, Bool, false, ◌||◌, ◌&&◌, List, map, ℕ, zero, suc, ◌+◌, ◌*◌, ◌<◌, length, get_or}
use Rattle.model.specs.Limits.{most_parts}
use Rattle.model.specs.Model.{Job, listed, table, holders_at, removal_of_lem}

-- the places of a matrix
abbrev pub most_places : ℕ
most_places = most_parts * most_parts

-- the place of the part at place j in the row of that at place q
abbrev pub place : ℕ → ℕ → ℕ
place q j = q * most_parts + j

-- the array is this list, and d behind its end
pub record Row {A : Type 0} (d : A) (xs row : List A) : Type 0 where
  pub size : length row ≡ most_parts
  pub at : (j : ℕ) → get_or row j d ≡ get_or xs j d

-- the first m rows of the matrix are these lists
pub record Rows (m : ℕ) (f : ℕ → List Bool) (matrix : List Bool) : Type 0 where
  pub size : length matrix ≡ most_places
  pub at : (q j : ℕ) → q < m → j < most_parts → get_or matrix (place q j) false ≡ get_or (f q) j false

-- the matrix says who holds whom in a job of m parts: in the row of each part, its holders
pub record HeldBy (job : Job) (m : ℕ) (matrix : List Bool) : Type 0 where
  pub count : length job.parts ≡ m
  pub at : (q j : ℕ) → q < m → j < m → get_or matrix (place q j) false ≡ listed (holders_at job q) (suc j)

-- one of the first m has it
unfoldable pub some : ℕ → (ℕ → Bool) → Bool
some zero f = false
some (suc m) f = f 0 || some m (λ i. f (suc i))

-- the part at place j stands in the row of one of a set, of m parts
abbrev pub reached : ℕ → List Bool → List Bool → ℕ → Bool
reached m matrix set j = some m (λ i. get_or set i false && get_or matrix (place i j) false)

-- the parts of `own`, and those that stand in the row of one of a set
abbrev pub union : ℕ → List Bool → List Bool → List Bool → List Bool
union m matrix own set = table (λ j. get_or own j false || reached m matrix set j) m

-- the removals of a job's parts, 0 behind them
abbrev pub Removals : Job → List ℕ → Type 0
Removals job removals = Row 0 (map removal_of_lem job.parts) removals
