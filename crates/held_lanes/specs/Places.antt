-- Where the numbers of the tables for holders stand, and of what goes with the stack of rows. A set of lanes is a number, lane q its bit q.
use Rattle.std.specs.Prelude.{ℕ, zero, suc, ◌+◌, ◌*◌, ◌/◌, ◌%◌, max, Bool, cond, eqb}
use Rattle.model.specs.Limits.{most_openings, most_parts}
use Rattle.lane_rows.specs.Layout.{lane_count_lem, mark_count, inf, triangle, block_size}

-- lane q belongs to the set
unfoldable pub bit_at : ℕ → ℕ → Bool
bit_at zero s = eqb (s % 2) 1
bit_at (suc q) s = bit_at q (s / 2)

-- what stands for a lane of the set: a number, and for the others 0
abbrev pub mask_of : ℕ → ℕ → ℕ
mask_of s q = cond (bit_at q s) inf 0

-- the largest of f over the numbers below k
unfoldable pub most_to : (ℕ → ℕ) → ℕ → ℕ
most_to f zero = 0
most_to f (suc k) = max (most_to f k) (f k)

-- ---- the tables for holders: the terms by classes, those where every last mark is the opening just decided, the removals, the lanes that need a holding part, and the classes that do, the masks of four lanes, a lane of
-- each class, how many classes there are, and how many holding parts

-- the term of class c where j openings are decided, after mark i: it stands at an offset of the level's
abbrev pub offset : ℕ → ℕ → ℕ
offset i c = i * lane_count_lem + c

-- where offset o of level j stands: a level has a number for each of its marks and each class
abbrev pub level_place : ℕ → ℕ → ℕ
level_place j o = triangle j * lane_count_lem + o

-- where the term of class c stands, of level j and mark i
abbrev pub class_place : ℕ → ℕ → ℕ → ℕ
class_place j i c = level_place j (offset i c)

-- the largest term at level j where the last mark of every class is j, the opening just decided
abbrev pub top_place : ℕ → ℕ
top_place j = block_size + j

-- the end of the terms: from here on what belongs to each holding part
abbrev pub removal_base : ℕ
removal_base = block_size + mark_count

-- the removal of holding part b
abbrev pub removal_place : ℕ → ℕ
removal_place b = removal_base + b

-- the set of the lanes that need holding part b
abbrev pub need_lanes_place : ℕ → ℕ
need_lanes_place b = removal_base + most_parts + b

-- how many classes need holding part b
abbrev pub need_count_place : ℕ → ℕ
need_count_place b = removal_base + most_parts * 2 + b

-- the classes that need holding part b, one after the other: the one at i
abbrev pub need_class_place : ℕ → ℕ → ℕ
need_class_place b i = removal_base + most_parts * 3 + (b * lane_count_lem + i)

-- the masks start here: four numbers for each of the sixteen sets of four lanes
abbrev pub mask_base : ℕ
mask_base = removal_base + most_parts * 3 + most_parts * lane_count_lem

-- of the mask of such a set s, the number for lane i (`mask_of`)
abbrev pub mask_place : ℕ → ℕ → ℕ
mask_place s i = mask_base + s * 4 + i

-- a lane of class c: the class belongs to a set of lanes if this one does
abbrev pub lead_place : ℕ → ℕ
lead_place c = mask_base + 64 + c

-- how many classes there are
abbrev pub classes_place : ℕ
classes_place = mask_base + 64 + lane_count_lem

-- how many holding parts there are, so how many removals are decided at a stop
abbrev pub holds_place : ℕ
holds_place = classes_place + 1

-- how many numbers the tables for holders have
abbrev pub held_size : ℕ
held_size = holds_place + 1

-- ---- beside the stack of rows: the last mark of each class, as an offset of a level's terms; the removals decided at each opening, and the incumbent's; the row of the stop at hand, above so many rows, and whether it is there

-- the last mark of class c once row r of the stack is there
abbrev pub last_place : ℕ → ℕ → ℕ
last_place r c = r * lane_count_lem + c

-- the removals decided at opening k, as a number: a bit for each holding part
abbrev pub removed_place : ℕ → ℕ
removed_place k = mark_count * lane_count_lem + k

-- those of the incumbent at opening k
abbrev pub best_place : ℕ → ℕ
best_place k = mark_count * lane_count_lem + most_openings + k

-- the row of a stop above r rows, kept aside as if it were shut to no lane
abbrev pub pending_row : ℕ → ℕ
pending_row r = mark_count * lane_count_lem + most_openings * 2 + r * lane_count_lem

-- its lane q
abbrev pub pending_place : ℕ → ℕ → ℕ
pending_place r q = pending_row r + q

-- whether that row is there: 1 if it is
abbrev pub ready_place : ℕ → ℕ
ready_place r = mark_count * lane_count_lem * 2 + most_openings * 2 + r

-- how many numbers stand beside the stack
abbrev pub aside_size : ℕ
aside_size = ready_place mark_count
