-- The arrays of a job as the search is handed them, and the sheet that they make: columns in fours, where those past the last part go with the first part's and cost nothing.
use Rattle.std.specs.Prelude.{ℕ, zero, suc, true, ◌+◌, ◌*◌, ◌/◌, ◌<◌, ◌≤◌, ◌≡◌, List, [], ◌∷◌, map, length, get_or, take, drop, ℤ, pos, ◌-ℤ◌}
use Rattle.std.specs.Int.Signed.{mag, le_z}
use Rattle.std.specs.Coded.{Coded-set, coded_bool, ×_prop}
use Rattle.model.specs.Model.{Part, Job, positions, end, last_change_lem, fee_of}
use Rattle.model.specs.LastYes.{Climbs}
use Rattle.model.specs.Verdict.{no_part}
use Rattle.held_places.specs.Arrays.{price_stride, price_size}
use Rattle.lane_rows.specs.Layout.{lane_count_lem, top, dear}
use Rattle.lane_rows.specs.Sheet.{Column, Sheet}
use Rattle.model.specs.Limits.{last_position, longest_life, most_openings}

-- lane q's number, of the parts' numbers: past the last part it is the first part's
abbrev pub lane_value_lem : List ℕ → ℕ → ℕ
lane_value_lem l q = get_or l q (get_or l 0 0)

-- the part of lane q: ls lives, rs first lives, ps prices at n openings
abbrev pub lane_part : ℕ → List ℕ → List ℕ → List ℕ → ℕ → Part
lane_part n ls rs ps q = record { life = lane_value_lem ls q; left = lane_value_lem rs q; removal = 0; holders = []; prices = take n (drop (q * price_stride) ps) }

-- lane q's life, and the position of the change before the first: ls lives, rs first lives
pub record Lived (ls rs : List ℕ) (q : ℕ) (life first : ℤ) : Type 0 where
  pub lives : life ≡ pos (lane_value_lem ls q)
  pub begins : first ≡ pos (lane_value_lem rs q) -ℤ pos (lane_value_lem ls q)

-- a part as its lane has it
abbrev pub column_of : Part → Column
column_of part = record { life = pos part.life; first = last_change_lem part; prices = part.prices }

-- k columns from q on
unfoldable pub columns_from : ℕ → List ℕ → List ℕ → List ℕ → ℕ → ℕ → List Column
columns_from n ls rs ps q zero = []
columns_from n ls rs ps q (suc k) = column_of (lane_part n ls rs ps q) ∷ columns_from n ls rs ps (suc q) k

-- as many fours of lanes as so many parts fill
abbrev pub fours_of_lem : ℕ → ℕ
fours_of_lem n = (n + 3) / 4

-- the sheet that the arrays make: e the end, ss positions, fs fees, ls lives, rs first lives, ps prices
abbrev pub sheet_of : ℤ → List ℤ → List ℕ → List ℕ → List ℕ → List ℕ → Sheet
sheet_of e ss fs ls rs ps = record { end = e; positions = ss; fees = fs; parts = length ls; columns = columns_from (length ss) ls rs ps 0 (fours_of_lem (length ls) * 4) }

-- the parts' lives and first lives, at most the lives
pub record Lifespans (ls rs : List ℕ) : Type 0 where
  pub some : 0 < length ls
  pub lefts : length rs ≡ length ls
  pub brief : (q : ℕ) → get_or ls q 0 ≤ longest_life
  pub begun : (q : ℕ) → get_or rs q 0 ≤ longest_life
  pub first : (q : ℕ) → get_or rs q 0 ≤ get_or ls q 0

-- the arrays' lengths and ranges: e the end, ss positions, which never fall, fs fees, ls lives, rs first lives, ps prices, which are 0 past the last part's
pub record Arrays (e : ℤ) (ss : List ℤ) (fs ls rs ps : List ℕ) : Type 0 where
  pub few : length ss ≤ most_openings
  pub paid : length fs ≡ length ss
  pub lives : Lifespans ls rs
  pub lanes : length ls ≤ lane_count_lem
  pub prices : length ps ≡ price_size
  pub fair : (j : ℕ) → get_or fs j 0 ≤ top
  pub cheap : (j : ℕ) → get_or ps j 0 ≤ dear
  pub free : (j : ℕ) → length ls * price_stride ≤ j → get_or ps j 0 ≡ 0
  pub near : (j : ℕ) → mag (get_or ss j (pos 0)) ≤ last_position
  pub late : mag e ≤ last_position
  pub climbs : Climbs e (pos 0) ss

-- that positions never fall has one proof at most
pub Climbs-prop : (e p : ℤ) (ss : List ℤ) → IsProp (Climbs e p ss)
Climbs-prop e p [] = Coded-set coded_bool (le_z p e) true
Climbs-prop e p (s ∷ ss) = ×_prop (Coded-set coded_bool (le_z p s) true) (Climbs-prop e s ss)

-- the arrays hold the job
pub record JobArrays (job : Job) (e : ℤ) (ss : List ℤ) (fs ls rs ps : List ℕ) : Type 0 where
  pub arrays : Arrays e ss fs ls rs ps
  pub ends : e ≡ end job
  pub places : ss ≡ positions job
  pub fees : fs ≡ map fee_of job.openings
  pub parts : length job.parts ≡ length ls
  pub part : (q : ℕ) → q < length ls → get_or job.parts q no_part ≡ lane_part (length ss) ls rs ps q
