-- What the stack of rows holds: a row for the first life and one for each yes opening, with its mark.
use Rattle.std.specs.Prelude.{ℕ, zero, suc, ◌+◌, ◌-◌, ◌*◌, ◌^◌, ◌<◌, ◌≤◌, min, ◌≡◌, Bool, true, false, cond, List, [], ◌∷◌, length, get_or, ℤ}
use Rattle.branch.specs.declared.Bound.{Bound}
use Rattle.model.specs.LastYes.{last_yes, mark_in}
use Rattle.base.specs.Filled.{FilledBy}
use Rattle.lane_rows.specs.Layout.{lane_count_lem, mark_count, dear, inf, place, row_place, suffix_base, mark_base, mark_place, known_base, known_place, memo_base, memo_place, stack_size, block_size, reach_base, price_place, term_place, lanes_in, tables_size}
use Rattle.lane_rows.specs.Sheet.{Sheet, Mark, front, solid, no_column}
use Rattle.lane_rows.specs.Tables.{value_of, sum_where}
use Rattle.model.specs.Limits.{most_openings}

-- lane q over the first n rows of the stack w: the least of a row's number and the table's, where the table starts at `base` and is read at opening j.
unfoldable pub lane : List ℕ → List ℕ → ℕ → ℕ → ℕ → ℕ → ℕ
lane t w base j q zero = inf
lane t w base j q (suc k) = min (lane t w base j q k) (get_or w (row_place k q) 0 + get_or t (place base j (get_or w (mark_place k) 0) q) 0)

-- the sum of k lanes from q on
unfoldable pub sum_from : (ℕ → ℕ) → ℕ → ℕ → ℕ
sum_from f q zero = 0
sum_from f q (suc k) = f q + sum_from f (suc q) k

-- the sum of the first `wide` lanes
abbrev pub sum_lanes : ℕ → (ℕ → ℕ) → ℕ
sum_lanes wide f = sum_from f 0 wide

-- acc' is acc with its first `wide` lanes turned into what `f` says
pub record Turned (wide : ℕ) (f : ℕ → ℕ) (acc acc' : List ℕ) : Type 0 where
  pub size : length acc' ≡ length acc
  pub lanes : (q : ℕ) → q < wide → get_or acc' q 0 ≡ f q

-- what taking the sums of two rows into the lanes asks
pub record MinAsks (fours : ℕ) (d e acc : List ℕ) : Type 0 where
  pub few : fours ≤ 4
  pub row : lane_count_lem ≤ length d
  pub table : lane_count_lem ≤ length e
  pub lanes : lane_count_lem ≤ length acc
  pub most : (q : ℕ) → q < fours * 4 → get_or acc q 0 ≤ inf
  pub sums : (q : ℕ) → q < fours * 4 → get_or d q 0 + get_or e q 0 < 2 ^ 31

-- what adding a row of prices to the lanes asks
pub record PlusAsks (fours : ℕ) (prices acc : List ℕ) : Type 0 where
  pub few : fours ≤ 4
  pub row : lane_count_lem ≤ length prices
  pub lanes : lane_count_lem ≤ length acc
  pub sums : (q : ℕ) → q < fours * 4 → get_or acc q 0 + get_or prices q 0 < 2 ^ 31

-- what taking row n, whose mark is i, into the lanes asks
pub record AddAsks (fours : ℕ) (t w : List ℕ) (base j i n : ℕ) (acc : List ℕ) : Type 0 where
  pub few : fours ≤ 4
  pub lanes : lane_count_lem ≤ length acc
  pub table : base + block_size ≤ length t
  pub size : length w ≡ stack_size
  pub near : j ≤ most_openings
  pub mark : i ≤ j
  pub row : n ≤ most_openings
  pub most : (q : ℕ) → q < fours * 4 → get_or acc q 0 ≤ inf
  pub sums : (q : ℕ) → q < fours * 4 → get_or w (row_place n q) 0 + get_or t (place base j i q) 0 < 2 ^ 31

-- the marks of the first n rows as lane q has them, the latest first
unfoldable pub marks_in : ℤ → List ℤ → List ℕ → ℕ → ℕ → List Mark
marks_in first ss w q zero = []
marks_in first ss w q (suc k) = record { at = mark_in first ss (get_or w (mark_place k) 0); cost = value_of (get_or w (row_place k q) 0) } ∷ marks_in first ss w q k

-- a number of a row: Missing, or at most b
pub record Level (b v : ℕ) : Type 0 where
  pub some : v < inf → v ≤ b
  pub most : v ≤ inf + dear

-- the stack's first n rows are those of a node where `at` openings are decided, and lane q sees them as `sees q`: a row for the first life and one for each stop, in which a lane that the stop is shut to
-- has Missing
pub record SeenRows (sheet : Sheet) (w : List ℕ) (at : ℕ) (sees : ℕ → List Bool) (n : ℕ) : Type 0 where
  pub size : length w ≡ stack_size
  pub some : 0 < n
  pub few : n ≤ at + 1
  pub marks : (k : ℕ) → k < n → get_or w (mark_place k) 0 ≤ at
  pub narrow : length sheet.columns ≤ lane_count_lem
  pub decided : (q : ℕ) → q < length sheet.columns → length (sees q) ≡ at
  pub level : (k q : ℕ) → k < n → q < length sheet.columns → Level (dear * at) (get_or w (row_place k q) 0)
  pub fronts : (q : ℕ) → q < length sheet.columns → solid (marks_in (get_or sheet.columns q no_column).first sheet.positions w q n) ≡ solid (front sheet.positions (get_or sheet.columns q no_column) (sees q))

-- they are those of the node p, which every lane sees as it is
pub record Rows (sheet : Sheet) (w : List ℕ) (p : List Bool) (n : ℕ) : Type 0 where
  pub seen : SeenRows sheet w (length p) (λ (q : ℕ). p) n
  pub last : get_or w (mark_place (n - 1)) 0 ≡ last_yes p

-- the memo's rows of no rows stand at the levels before n, and nothing before the memo moved
pub record Nones (w w' : List ℕ) (n : ℕ) : Type 0 where
  pub size : length w' ≡ length w
  pub none : (l q : ℕ) → l < n → q < lane_count_lem → get_or w' (memo_place l 0 q) 0 ≡ inf
  pub rest : (x : ℕ) → x < memo_base → get_or w' x 0 ≡ get_or w x 0

-- the stack's first row is that of the first life: nothing is paid. The memo has the rows of no rows, and knows nothing of the first
pub record FirstRow (w : List ℕ) : Type 0 where
  pub size : length w ≡ stack_size
  pub lanes : (q : ℕ) → q < lane_count_lem → get_or w q 0 ≡ 0
  pub mark : get_or w mark_base 0 ≡ 0
  pub none : (l q : ℕ) → l ≤ most_openings → q < lane_count_lem → get_or w (memo_place l 0 q) 0 ≡ inf
  pub fresh : (l : ℕ) → l ≤ most_openings → get_or w (known_place 1 l) 0 ≡ 0

-- the first n rows of w' are those of w
pub record Kept (w w' : List ℕ) (n : ℕ) : Type 0 where
  pub size : length w' ≡ length w
  pub rows : (k : ℕ) → k < n * lane_count_lem → get_or w' k 0 ≡ get_or w k 0
  pub marks : (k : ℕ) → k < n → get_or w' (mark_place k) 0 ≡ get_or w (mark_place k) 0

-- w' is w with one row more, at n: what `f` says in its first `wide` lanes, and the mark m
pub record Put (wide : ℕ) (f : ℕ → ℕ) (w w' : List ℕ) (n m : ℕ) : Type 0 where
  pub kept : Kept w w' n
  pub row : (q : ℕ) → q < wide → get_or w' (row_place n q) 0 ≡ f q
  pub mark : get_or w' (mark_place n) 0 ≡ m

-- nothing past the marks moved
abbrev pub Past : List ℕ → List ℕ → Type 0
Past w w' = (x : ℕ) → known_base ≤ x → get_or w' x 0 ≡ get_or w x 0

-- the loops over the first `wide` lanes of the first n rows, at level j, stay within the tables and within 31 bits
pub record Stack (wide : ℕ) (t w : List ℕ) (base j n : ℕ) : Type 0 where
  pub some : 0 < wide
  pub narrow : wide ≤ lane_count_lem
  pub table : base + block_size ≤ length t
  pub size : length w ≡ stack_size
  pub near : j ≤ most_openings
  pub few : n ≤ j + 1
  pub marks : (k : ℕ) → k < n → get_or w (mark_place k) 0 ≤ j
  pub sums : (k q : ℕ) → k < n → q < wide → get_or w (row_place k q) 0 + get_or t (place base j (get_or w (mark_place k) 0) q) 0 < 2 ^ 31

-- ---- the memo

-- the memo's row for level l and the first k rows is the lane over them
abbrev pub Remembers : List ℕ → List ℕ → ℕ → ℕ → Type 0
Remembers t w l k = (q : ℕ) → q < lanes_in t → get_or w (memo_place l k q) 0 ≡ lane t w suffix_base l q k

-- the memo of the first n rows: the row of no rows is there at each level; no mark is below its row's number, so the rows fit their triangle; and what is known of the first k + 1 rows, from the last one's mark on, is the lane over them
pub record Memo (t w : List ℕ) (n : ℕ) : Type 0 where
  pub none : (l q : ℕ) → l ≤ most_openings → q < lane_count_lem → get_or w (memo_place l 0 q) 0 ≡ inf
  pub steep : (k : ℕ) → k < n → k ≤ get_or w (mark_place k) 0
  pub right : (k l : ℕ) → k < n → get_or w (mark_place k) 0 ≤ l → l ≤ most_openings → get_or w (known_place (k + 1) l) 0 ≡ 1 → Remembers t w l (k + 1)

-- one row of the memo: the least of the row before it, which has one row of the stack fewer, and a row's sum
abbrev pub step_of : List ℕ → List ℕ → ℕ → ℕ → ℕ → ℕ → ℕ
step_of t w d e out q = min (get_or w (out - lane_count_lem + q) 0) (get_or w (d + q) 0 + get_or t (e + q) 0)

-- what writing so many lanes of it asks: the row at d, the table's at e
pub record StepAsks (wide : ℕ) (t w : List ℕ) (d e out : ℕ) : Type 0 where
  pub some : 0 < wide
  pub narrow : wide ≤ lane_count_lem
  pub table : e + lane_count_lem ≤ length t
  pub row : d + lane_count_lem ≤ length w
  pub behind : lane_count_lem ≤ out
  pub room : out + lane_count_lem ≤ length w
  pub most : (q : ℕ) → q < wide → get_or w (out - lane_count_lem + q) 0 ≤ inf
  pub sums : (q : ℕ) → q < wide → get_or w (d + q) 0 + get_or t (e + q) 0 < 2 ^ 31

-- it is written, nothing else moved, and r is its sum
pub record Stepped (wide : ℕ) (t w w' : List ℕ) (d e out r : ℕ) : Type 0 where
  pub stored : FilledBy (λ (q : ℕ). out + q) (step_of t w d e out) wide w w'
  pub sum : r ≡ sum_lanes wide (step_of t w d e out)

-- what writing it one four after the other asks: the row at d stands before it, and a row's room behind each
pub record FoursAsks (t w : List ℕ) (d e out : ℕ) : Type 0 where
  pub asks : StepAsks (lanes_in t) t w d e out
  pub apart : d + lane_count_lem ≤ out
  pub table : e + lane_count_lem + lane_count_lem ≤ length t
  pub room : out + lane_count_lem + lane_count_lem ≤ length w

-- what a look at n rows, at level j, asks
pub record Looks (t w : List ℕ) (n j : ℕ) : Type 0 where
  pub memo : Memo t w n
  pub stack : Stack (lanes_in t) t w suffix_base j n
  pub size : length t ≡ tables_size
  pub some : 0 < n

-- the memo of the first m rows is known at level j
abbrev pub Known : List ℕ → ℕ → ℕ → Type 0
Known w m j = 0 < m → get_or w (known_place m j) 0 ≡ 1

-- the first n rows are kept, and their memo is still right
pub record Recalled (t w w' : List ℕ) (n : ℕ) : Type 0 where
  pub kept : Kept w w' n
  pub memo : Memo t w' n

-- what the memo knows it still knows
abbrev pub Still : List ℕ → List ℕ → Type 0
Still w w' = (k l : ℕ) → k ≤ most_openings → l ≤ most_openings → get_or w (known_place (k + 1) l) 0 ≡ 1 → get_or w' (known_place (k + 1) l) 0 ≡ 1

-- so they are, the memo of the first m + 1 rows is known at level j, and r is its sum
pub record Learnt (t w w' : List ℕ) (n m j r : ℕ) : Type 0 where
  pub recalled : Recalled t w w' n
  pub known : get_or w' (known_place (m + 1) j) 0 ≡ 1
  pub still : Still w w'
  pub sum : r ≡ sum_lanes (lanes_in t) (λ (q : ℕ). lane t w suffix_base j q (m + 1))

-- all of the first n rows are known at level j, and r is the sum of their lanes
pub record Looked (t w w' : List ℕ) (n j r : ℕ) : Type 0 where
  pub sum : r ≡ sum_lanes (lanes_in t) (λ (q : ℕ). lane t w suffix_base j q n)
  pub recalled : Recalled t w w' n
  pub known : get_or w' (known_place n j) 0 ≡ 1
  pub still : Still w w'

-- ---- nodes

-- E4's term of the no at level j, over n rows: that of the last one's mark
abbrev pub term_at : List ℕ → List ℕ → ℕ → ℕ → ℕ
term_at t w j n = get_or t (term_place j (get_or w (mark_place (n - 1)) 0)) 0

-- its part sums: Missing exactly where its term is
abbrev pub sums_at : List ℕ → List ℕ → ℕ → ℕ → Bound
sums_at t w j n = sum_where (term_at t w j n) (sum_lanes (lanes_in t) (λ (q : ℕ). lane t w suffix_base j q n))

-- the row of opening j, decided yes: the least price so far from which it is in reach, and its own price
abbrev pub next_row : List ℕ → List ℕ → ℕ → ℕ → ℕ → ℕ
next_row t w j n q = lane t w reach_base j q n + get_or t (price_place j q) 0

-- a lane's number, or Missing where the stop is shut to it
abbrev pub shut_to_lem : Bool → ℕ → ℕ
shut_to_lem b v = cond b inf v

-- the row of a stop at opening j, which is shut to the lanes of the set
abbrev pub stop_row_lem : List ℕ → List ℕ → ℕ → ℕ → (ℕ → Bool) → ℕ → ℕ
stop_row_lem t w j n shut q = shut_to_lem (shut q) (next_row t w j n q)

-- what writing the row of opening j asks, in its first `wide` lanes
pub record Owing (wide : ℕ) (t w : List ℕ) (j n : ℕ) : Type 0 where
  pub stack : Stack wide t w reach_base j n
  pub size : length t ≡ tables_size
  pub near : j < 64
  pub few : n < mark_count
  pub cheap : (q : ℕ) → q < wide → get_or t (price_place j q) 0 ≤ dear

-- a node is settled: after a no the stack stays, after a yes it has the row of the last opening; the memo stays right
pub record Settled (t w w' : List ℕ) (at n r : ℕ) (stop : Bool) : Type 0 where
  pub no : stop ≡ false → (r ≡ n) × (w' ≡ w)
  pub yes : stop ≡ true → (r ≡ n + 1) × Put (lanes_in t) (next_row t w (at - 1) n) w w' n (at - 1 + 1)
  pub memo : Memo t w n → Memo t w' r
