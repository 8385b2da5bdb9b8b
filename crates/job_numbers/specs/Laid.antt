-- The numbers of a job as the code lays them out.
use Rattle.std.specs.Prelude.{ℕ, ◌+◌, ◌*◌, ◌≤◌, ◌<◌, ◌≡◌, List, map, length, get_or, take}
use Rattle.model.specs.Model.{Part, Job, table, fee_of}
use Rattle.model.specs.Verdict.{part_at}
use Rattle.clock.specs.Placed.{Placed}
use Rattle.held_places.specs.Arrays.{price_stride, price_size}
use Rattle.model.specs.Limits.{dearest}
use Rattle.jobs.specs.declared.Job as code
use Rattle.jobs.specs.Views.{job_of}
use Rattle.job_numbers.specs.declared.Numbers.{Numbers}

-- "a life L and a first life R"
abbrev pub life_of_lem : Part → ℕ
life_of_lem part = part.life

-- M5. R, the first life
abbrev pub left_of : Part → ℕ
left_of part = part.left

-- positions and fees of n openings, lives of m parts
pub record Numbered (job : Job) (n m : ℕ) (r : Numbers) : Type 0 where
  pub placed : Placed job r.placed
  pub fees : take n r.fees ≡ map fee_of job.openings
  pub lives : take m r.lives ≡ map life_of_lem job.parts
  pub lefts : take m r.lefts ≡ map left_of job.parts

-- "Changing a part at a stop costs that part's price at that opening": the prices of part number q + 1, with what is added to each
abbrev pub prices_with : Job → List ℕ → ℕ → List ℕ
prices_with job added q = table (λ k. get_or (part_at job q).prices k 0 + get_or added q 0) (length job.openings)

-- rows of prices, one after the other: at place q * 64 + i stands what row q of the m has at i; 0 where there is none
pub record Laid (m : ℕ) (row : ℕ → List ℕ) (prices : List ℕ) : Type 0 where
  pub size : length prices ≡ price_size
  pub price : (q i : ℕ) → q < m → i < price_stride → get_or prices (q * price_stride + i) 0 ≡ get_or (row q) i 0
  pub rest : (x : ℕ) → m * price_stride ≤ x → get_or prices x 0 ≡ 0

-- prices laid out for the parts that a struct counts, with at most the dearest removal added to each part's
abbrev pub Charged : code.Job → List ℕ → Type 0
Charged job prices = (added : List ℕ) × ((q : ℕ) → q < job.part_count → get_or added q 0 ≤ dearest) × Laid job.part_count (prices_with (job_of job) added) prices
