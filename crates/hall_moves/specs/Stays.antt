-- What a branch of the walk does not write, of every line.
use Rattle.std.specs.Prelude.{ℕ, Bool, true, false, ◌≡◌}
use Rattle.hall_state.specs.Courses.{Arrays, rows_at}

-- the rows of lanes and the levels where the line stops, else what stands beside the rows
abbrev pub LineStays : Bool → Arrays → Arrays → Type 0
LineStays true a a' = (e : ℕ) → ((rows_at a' e).w ≡ (rows_at a e).w) × ((rows_at a' e).n ≡ (rows_at a e).n)
LineStays false a a' = (e : ℕ) → (rows_at a' e).v ≡ (rows_at a e).v

-- everything where the part is removed, else what stands beside the rows and the levels
abbrev pub RemovalStays : Bool → Arrays → Arrays → Type 0
RemovalStays true a a' = a' ≡ a
RemovalStays false a a' = (e : ℕ) → ((rows_at a' e).v ≡ (rows_at a e).v) × ((rows_at a' e).n ≡ (rows_at a e).n)

-- everything where the crew is called, else what stands beside the rows
abbrev pub CallStays : Bool → Arrays → Arrays → Type 0
CallStays true a a' = a' ≡ a
CallStays false a a' = (e : ℕ) → (rows_at a' e).v ≡ (rows_at a e).v
