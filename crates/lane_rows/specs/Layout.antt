-- Where the numbers of the tables and of the stack of rows stand, and which numbers are prices. A row has room for sixteen lanes; a job has as many fours of them as its parts fill.
use Rattle.std.specs.Prelude.{ℕ, zero, suc, ◌+◌, ◌*◌, ◌/◌, List, get_or}
use Rattle.model.specs.Limits.{dearest, most_openings, most_parts}

-- a lane for each of the most parts that a job may have
abbrev pub lane_count_lem : ℕ
lane_count_lem = most_parts

-- a mark for the first life and one for each opening
abbrev pub mark_count : ℕ
mark_count = most_openings + 1

-- lane q of row y
abbrev pub row_place : ℕ → ℕ → ℕ
row_place y q = y * lane_count_lem + q

-- ---- numbers for prices

-- the highest fee or removal
abbrev pub top : ℕ
top = dearest

-- the highest price: "a part that holds nobody adds its removal to its price" (E7.6)
abbrev pub dear : ℕ
dear = dearest + dearest

-- the most that a part's changes cost, one at each opening
abbrev pub lane_limit : ℕ
lane_limit = 128000000

-- the number for Missing: a lane that is a price stays below it
abbrev pub inf : ℕ
inf = 1030000000

-- ---- triangles: level j has the marks 0 to j, since no mark is above the number of openings decided

-- the rows of the levels before j
unfoldable pub triangle : ℕ → ℕ
triangle zero = 0
triangle (suc j) = triangle j + suc j

-- the rows of k levels, as a number
abbrev pub level_rows : ℕ → ℕ
level_rows k = k * (k + 1) / 2

-- ---- the tables: two blocks (suffix prices, then reach), the prices, the fees, the number of openings, the number of fours, the terms

-- a block has a row for each level and each of its marks
abbrev pub block_rows : ℕ
block_rows = level_rows mark_count

-- how many numbers a block has
abbrev pub block_size : ℕ
block_size = block_rows * lane_count_lem

-- the block of suffix prices: a lane's least price from an opening on, after a mark
abbrev pub suffix_base : ℕ
suffix_base = 0

-- the block of reach: 0 where an opening is in reach of a mark, else the number for Missing
abbrev pub reach_base : ℕ
reach_base = suffix_base + block_size

-- lane q of a block's row for level j and mark i
abbrev pub place : ℕ → ℕ → ℕ → ℕ → ℕ
place base j i q = base + (triangle j + i) * lane_count_lem + q

-- the prices start at this row
abbrev pub price_row : ℕ
price_row = block_rows + block_rows

-- the place where that row begins
abbrev pub price_base : ℕ
price_base = reach_base + block_size

-- lane q's price at opening j
abbrev pub price_place : ℕ → ℕ → ℕ
price_place j q = price_base + j * lane_count_lem + q

-- what stands from this row on belongs to no lane
abbrev pub lane_rows_lem : ℕ
lane_rows_lem = price_row + most_openings

-- the place where that row begins: the fees, one for each opening
abbrev pub fee_base : ℕ
fee_base = price_base + most_openings * lane_count_lem

-- opening j's fee
abbrev pub fee_place : ℕ → ℕ
fee_place j = fee_base + j

-- how many openings the job has
abbrev pub count_place : ℕ
count_place = fee_base + most_openings

-- how many fours of lanes the job has, and how many lanes
abbrev pub fours_place : ℕ
fours_place = count_place + 1

-- how many lanes the tables t have
abbrev pub lanes_in : List ℕ → ℕ
lanes_in t = get_or t fours_place 0 * 4

-- E4's terms: a number for each number of decided openings and each mark of the last yes
abbrev pub term_base : ℕ
term_base = fours_place + 1

-- the term where j openings are decided and the last yes is number i, or none (0)
abbrev pub term_place : ℕ → ℕ → ℕ
term_place j i = term_base + (triangle j + i)

-- how many numbers the tables have
abbrev pub tables_size : ℕ
tables_size = term_base + block_rows

-- ---- the stack: 65 rows, the mark of each, which rows of the memo are known, and the memo

-- the marks stand behind the rows
abbrev pub mark_base : ℕ
mark_base = mark_count * lane_count_lem

-- the mark of row k
abbrev pub mark_place : ℕ → ℕ
mark_place k = mark_base + k

-- is the memo's row for level l and the first k rows known: 1 if it is
abbrev pub known_base : ℕ
known_base = mark_base + mark_count

-- where that stands
abbrev pub known_place : ℕ → ℕ → ℕ
known_place k l = known_base + k * mark_count + l

-- the memo has a row for each level and each number of rows, from none to one more than the level's
abbrev pub memo_base : ℕ
memo_base = known_base + (mark_count + 1) * mark_count

-- lane q of the memo's row for level l and the first k rows
abbrev pub memo_place : ℕ → ℕ → ℕ → ℕ
memo_place l k q = place memo_base (l + 1) k q

-- how many numbers the stack has, with a row's room behind the memo
abbrev pub stack_size : ℕ
stack_size = memo_base + level_rows (mark_count + 1) * lane_count_lem + lane_count_lem
