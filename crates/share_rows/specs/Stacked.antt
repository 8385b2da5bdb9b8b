-- What the rows of a node hold: for each lane the marks at which its last change so far may be, with what is counted up to each: what its source counts, prices alone where all is decided, and at the stop at hand its
-- shares of what is not.
use Rattle.std.specs.Prelude.{ℕ, ◌+◌, ◌-◌, ◌*◌, ◌<◌, ◌≤◌, ◌≡◌, Bool, true, cond, List, ◌∷◌, map, length, get_or, take, drop, pos}
use Rattle.branch.specs.declared.Bound.{Bound}
use Rattle.branch.specs.declared.Bound.TheVariants.{Missing, Sum}
use Rattle.model.specs.Limits.{most_openings}
use Rattle.model.specs.Model.{Job, positions, last_change_lem}
use Rattle.model.specs.Decisions.{Held, held_parts, accessible, places_in}
use Rattle.model.specs.LowerBound.{Offer, plus, offers}
use Rattle.shares.specs.Shares.{Shares, owes, shared_prices}
use Rattle.shares.specs.Sources.{Source, Sources, least_from, rest_at}
use Rattle.shares.specs.Rows.{in_time_lem, rows_over}
use Rattle.lane_rows.specs.Layout.{lane_count_lem, dear, mark_place, row_place, stack_size}
use Rattle.lane_rows.specs.Sheet.{Mark, solid}
use Rattle.lane_rows.specs.Tables.{value_of}
use Rattle.lane_rows.specs.Rows.{marks_in, Level}
use Rattle.share_rows.specs.Tables.{lane_at}

-- what a walk from sources is about: the parts as lanes; the level at which it begins; what is counted there for each last change; and the lifts of the levels from there on
pub record Course : Type 0 where
  pub held : List Held
  pub level : ℕ
  pub sources : Sources
  pub lift : ℕ → ℕ

-- past the last part its lanes cost nothing from their sources, whatever is decided
abbrev pub Idle : Job → Shares → Course → Type 0
Idle job shares course = (q : ℕ) → length (held_parts job) ≤ q → q < lane_count_lem → (bs : List (List Bool)) → least_from (rest_at job shares course.level bs q (lane_at course.held q)) (course.sources q (lane_at course.held q)) ≡ Sum 0

-- sources as marks
abbrev pub marks_of : List Source → List Mark
marks_of ss = map (λ (s : Source). record { at = s.at; cost = Sum s.cost }) ss

-- the openings from the level on that the blocks bs decide, as the part of lane q sees them
abbrev pub decided_from : Job → Shares → Course → List (List Bool) → ℕ → List Offer
decided_from job shares course bs q =
    let held = lane_at course.held q in
    take (length bs - course.level) (drop course.level (offers (positions job) (shared_prices job shares q held bs) (places_in held bs)))

-- its rows behind the blocks: its sources, and what these openings add
abbrev pub rows_of : Job → Shares → Course → List (List Bool) → ℕ → List Source
rows_of job shares course bs q = let held = lane_at course.held q in rows_over (pos held.part.life) (decided_from job shares course bs q) (course.sources q held)

-- the most that a row counts where k openings are decided: what a source counts, and a change at each opening
abbrev pub row_most : ℕ → ℕ
row_most k = dear * (most_openings + k)

-- the first n rows are those of the blocks bs
pub record Stacked (job : Job) (shares : Shares) (course : Course) (bs : List (List Bool)) (w : List ℕ) (n : ℕ) : Type 0 where
  pub size : length w ≡ stack_size
  pub some : 0 < n
  pub few : n ≤ length bs + 1
  pub begun : course.level ≤ length bs
  pub marks : (k : ℕ) → k < n → get_or w (mark_place k) 0 ≤ length bs
  pub level : (k q : ℕ) → k < n → q < lane_count_lem → Level (row_most (length bs)) (get_or w (row_place k q) 0)
  pub fronts : (q : ℕ) → q < lane_count_lem → solid (marks_in (last_change_lem (lane_at course.held q).part) (positions job) w q n) ≡ marks_of (rows_of job shares course bs q)

-- what a lane bears for a change at opening k beside its shares of what is not decided there, where b is
abbrev pub pays : Job → Shares → ℕ → Held → ℕ → List Bool → ℕ
pays job shares q held k b = get_or held.part.prices k 0 + owes job shares q held k b

-- the least price up to a change at the next opening behind the blocks bs, where it is a stop and the removals rs are decided there; Missing where it is shut to the lane
abbrev pub stop_bound : Job → Shares → Course → List (List Bool) → List Bool → ℕ → Bound
stop_bound job shares course bs rs q =
    let held = lane_at course.held q in
    cond (accessible held.needs rs)
    (plus (pays job shares q held (length bs) (true ∷ rs)) (least_from (in_time_lem (pos held.part.life) (get_or (positions job) (length bs) (pos 0))) (rows_of job shares course bs q)))
    Missing

-- f has the row of that stop, above the n rows of bs
pub record TopRow (job : Job) (shares : Shares) (course : Course) (bs : List (List Bool)) (rs : List Bool) (w : List ℕ) (n : ℕ) (f : ℕ → ℕ) : Type 0 where
  pub below : Stacked job shares course bs w n
  pub cost : (q : ℕ) → q < lane_count_lem → value_of (f q) ≡ stop_bound job shares course bs rs q
  pub level : (q : ℕ) → q < lane_count_lem → Level (row_most (length bs + 1)) (f q)
