-- What a writer of an `Out` asks and promises.
use Rattle.std.specs.Prelude.{ℕ, ◌+◌, ◌≤◌, ◌≡◌, List, length}
use Rattle.lines.specs.Wrote.{Wrote}
use Rattle.line_writing.specs.declared.output.Out.{Out}

-- there is room for xs behind what is written
pub record Room (o : Out) (xs : List ℕ) : Type 0 where
  pub fits : o.at + length xs ≤ length o.bytes.now

-- xs was put: it stands in the same slice at the place that o had, and p has the place after it
pub record Puts (o : Out) (xs : List ℕ) (p : Out) : Type 0 where
  pub slice : p.bytes.ghost_name ≡ o.bytes.ghost_name
  pub wrote : Wrote o.bytes.now o.at xs p.bytes.now p.at
