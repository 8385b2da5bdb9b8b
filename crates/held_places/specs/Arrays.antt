-- The arrays of a job with holders, as the search is handed them: prices with the removal of a part that holds nobody, and for each part which of the holding parts come out with it.
use Rattle.std.specs.Prelude.{ℕ, ◌*◌, ◌<◌, ◌≤◌, ◌≡◌, Bool, List, map, length, get_or, take, drop, ℤ, pos}
use Rattle.std.specs.Int.Signed.{mag}
use Rattle.model.specs.Model.{Job, positions, end, fee_of, removal_of_lem}
use Rattle.model.specs.Decisions.{Held, held_at, of_holders}
use Rattle.model.specs.Verdict.{part_at}
use Rattle.model.specs.Limits.{last_position, longest_life, most_openings, most_parts}

-- the prices of part q stand from q * 64 on
abbrev pub price_stride : ℕ
price_stride = 64

-- room for the prices of sixteen parts
abbrev pub price_size : ℕ
price_size = 1024

-- its needs from q * 16 on
abbrev pub need_stride : ℕ
need_stride = 16

-- part q's prices at n openings, and its needs of h holding parts
abbrev pub prices_at : ℕ → List ℕ → ℕ → List ℕ
prices_at n ps q = take n (drop (q * price_stride) ps)

-- which of the h holding parts come out with part q
abbrev pub needs_at : ℕ → List Bool → ℕ → List Bool
needs_at h nd q = take h (drop (q * need_stride) nd)

-- the parts' lives and first lives
pub record Lives (ls rs : List ℕ) : Type 0 where
  pub lefts : length rs ≡ length ls
  pub brief : (q : ℕ) → get_or ls q 0 ≤ longest_life
  pub begun : (q : ℕ) → get_or rs q 0 ≤ longest_life

-- the openings' positions and the end
pub record Timed (e : ℤ) (ss : List ℤ) : Type 0 where
  pub few : length ss ≤ most_openings
  pub near : (j : ℕ) → mag (get_or ss j (pos 0)) ≤ last_position
  pub late : mag e ≤ last_position

-- the parts' arrays: e the end, ss positions, ls lives, rs first lives, ps prices, and h holding parts
pub record Lanes (e : ℤ) (ss : List ℤ) (ls rs ps : List ℕ) (h : ℕ) : Type 0 where
  pub timed : Timed e ss
  pub lives : Lives ls rs
  pub parts : length ls ≤ most_parts
  pub prices : length ps ≡ price_size
  pub holding : h ≤ most_parts

-- a part as it is planned for, by its numbers
pub record Lane (held : Held) (l r : ℕ) (ps : List ℕ) (nd : List Bool) : Type 0 where
  pub life : held.part.life ≡ l
  pub left : held.part.left ≡ r
  pub prices : held.part.prices ≡ ps
  pub needs : held.needs ≡ nd

-- the arrays hold the job, with fs fees and rm removals of the holding parts
pub record HeldJobArrays (job : Job) (e : ℤ) (ss : List ℤ) (fs ls rs ps : List ℕ) (nd : List Bool) (rm : List ℕ) : Type 0 where
  pub ends : e ≡ end job
  pub places : ss ≡ positions job
  pub fees : fs ≡ map fee_of job.openings
  pub removals : rm ≡ of_holders job (map removal_of_lem job.parts)
  pub parts : length job.parts ≡ length ls
  pub lane : (q : ℕ) → q < length ls → Lane (held_at job q (part_at job q)) (get_or ls q 0) (get_or rs q 0) (prices_at (length ss) ps q) (needs_at (length rm) nd q)
