-- The lines of a price by whether it is a pair (`quote_single`, `quote_pair`). By the test.
use Prim.Native.Nat.{ℕ}
use mathlib.Core.Path.{◌≡◌, refl}
use mathlib.Core.List.{◌++◌}
use Rattle.std.specs.Prelude.{Option, Some, None}
use Rattle.lines.specs.Text.{line_of}
use Rattle.quotes.specs.Rendering.{quote_text}
use Rattle.quotes.specs.Views.{quote_of}

-- a price without a low end is one `price` line
pub quote_single : (o : Option ℕ) (h : ℕ) → o ≡ None → quote_text (quote_of o h) ≡ line_of "price=" h
unfolding quote_text quote_of
quote_single o h e = rw e refl

-- a price with a low end is a `low` line and a `high` line
pub quote_pair : (o : Option ℕ) (l h : ℕ) → o ≡ Some l → quote_text (quote_of o h) ≡ line_of "low=" l ++ line_of "high=" h
unfolding quote_text quote_of
quote_pair o l h e = rw e refl
