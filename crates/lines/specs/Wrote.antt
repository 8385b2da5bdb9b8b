-- What a function that writes into a lent slice promises: O11. "Bytes past the written length keep their values."
use Rattle.std.specs.Prelude.{ℕ, ◌+◌, ◌≤◌, ◌≡◌, List, length, take}
use Rattle.std.proofs.lemmas.List.Edits.{sets}

-- xs was stored in d from at on, which gives e; r is the place after them
pub record Wrote (d : List ℕ) (at : ℕ) (xs e : List ℕ) (r : ℕ) : Type 0 where
  pub bytes : e ≡ sets d at xs
  pub next : r ≡ at + length xs

-- n counts bytes at the start of xs. The second part follows from the first; both are stated so that `&out[..n]` is proved by itself
abbrev pub Counted : ℕ → List ℕ → Type 0
Counted n xs = (n ≤ length xs) × (n ≡ length (take n xs))
