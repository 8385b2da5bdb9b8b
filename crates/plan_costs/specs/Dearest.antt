-- How large what a plan pays can be.
use Rattle.std.specs.Prelude.{ℕ, ◌≤◌, List}
use Rattle.base.specs.Each.{All}
use Rattle.model.specs.Limits.{dearest}

-- none is above the highest fee, price or removal
abbrev pub Cheap : List ℕ → Type 0
Cheap = All (λ (n : ℕ). n ≤ dearest)

-- the most that sixteen removals at one opening can sum up to
abbrev pub dearest_stop : ℕ
dearest_stop = 16000000

-- the most that sixty-four fees, or one part's prices at sixty-four openings, can sum up to, each a million at most
abbrev pub dearest_sum : ℕ
dearest_sum = 64000000

-- sixty-four fees, sixteen times sixty-four prices and as many removals, each of a million
abbrev pub dearest_plan : ℕ
dearest_plan = 2112000000
