-- E6.1. "How long may this walk become?", "worked out without walking". A node with a bound has its fate in two numbers: j, how many openings
-- are decided, and m, the last yes, numbered from 1, or 0 if there is none.
use Rattle.std.specs.Prelude.{Bool, true, cond, ◌&&◌, List, [], ◌∷◌, ℕ, zero, suc, ◌+◌, ◌-◌, min, length, get_or, ℤ, pos}
use Rattle.model.specs.Model.{Part, Job, positions, last_change_lem, end, within, kept}
use Rattle.model.specs.Limits.{longest_life}
use Rattle.model.specs.LastYes.{mark_in}
use Rattle.longest_walk.specs.Longest.{capped}

-- a part with this life was changed at `prev` before the openings, which are at ss, and then at every yes, of which number m is the last: is it still kept
-- if its next change is behind k openings, or at the end where no opening is left
abbrev pub in_time_lem : ℤ → ℤ → ℤ → List ℤ → ℕ → ℕ → Bool
in_time_lem life end prev ss m k = within life (mark_in prev ss m) (get_or ss k end)

-- the same of each of these parts
unfoldable pub each_reaches : Job → ℕ → ℕ → List Part → Bool
each_reaches job m k [] = true
each_reaches job m k (part ∷ parts) = in_time_lem (pos part.life) (end job) (last_change_lem part) (positions job) m k && each_reaches job m k parts

-- the same of all the job's parts: does a no after which k openings are decided have a bound
abbrev pub reaches : Job → ℕ → ℕ → Bool
reaches job m k = each_reaches job m k job.parts

-- each of these parts is kept by changes at all openings
unfoldable pub each_kept : Job → List Part → Bool
each_kept job [] = true
each_kept job (part ∷ parts) = kept (pos part.life) (end job) (last_change_lem part) (positions job) && each_kept job parts

-- the nodes from a node with a bound on, where k openings are left, j are decided and the last yes is m, by the test of a no: the node itself; those from no on, one if it fails the
-- test; those from yes on, which always has a bound
unfoldable pub count_from : (ℕ → ℕ → Bool) → ℕ → ℕ → ℕ → ℕ
count_from test zero j m = 1
count_from test (suc k) j m = capped (1 + cond (test m (suc j)) (count_from test k (suc j) m) 1 + count_from test k (suc j) (suc j))

-- the entry (j, m) of a table over j and m up to the number of openings
abbrev pub entry : Job → ℕ → ℕ → ℕ
entry job j m = count_from (reaches job) (length job.openings - j) j m

-- E6.1. "A new call gives the number of points [..], worked out without walking."
unfoldable pub open_count : Job → ℕ
open_count job = cond (each_kept job job.parts) (entry job 0 0) 1

-- ---- the same by one life and one first life, the least of the parts'

-- the least of a and of f over the parts
abbrev pub least_among : (Part → ℕ) → ℕ → List Part → ℕ
least_among f a [] = a
least_among f a (part ∷ parts) = least_among f (min a (f part)) parts

-- the least life of the job's parts
abbrev pub least_life : Job → ℕ
least_life job = least_among (λ (part : Part). part.life) longest_life job.parts

-- the least first life of the job's parts
abbrev pub least_left : Job → ℕ
least_left job = least_among (λ (part : Part). part.left) longest_life job.parts

-- the count for a part with this life that was changed at `prev` before the openings
unfoldable pub count_for : ℤ → ℤ → ℤ → List ℤ → ℕ
count_for life end prev ss = cond (kept life end prev ss) (count_from (in_time_lem life end prev ss) (length ss) 0 0) 1
