-- A loop that wrote: what it says of each place that it wrote to, and that the rest stayed.
use Rattle.std.specs.Prelude.{ℕ, ◌<◌, ◌≡◌, List, length, get_or}

-- the first n places hold what is right there, the length is the same, and every other place keeps its number
pub record Filled (place : ℕ → ℕ) (Right : ℕ → ℕ → Type 0) (n : ℕ) (before after : List ℕ) : Type 0 where
  pub size : length after ≡ length before
  pub done : (y : ℕ) → y < n → Right y (get_or after (place y) 0)
  pub rest : (x : ℕ) → ((y : ℕ) → y < n → x ≡ place y → ⊥) → get_or after x 0 ≡ get_or before x 0

-- place y holds f y
abbrev pub FilledBy : (ℕ → ℕ) → (ℕ → ℕ) → ℕ → List ℕ → List ℕ → Type 0
FilledBy place f = Filled place (λ (y v : ℕ). v ≡ f y)
