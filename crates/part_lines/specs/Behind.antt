-- What may stand behind a part's lines, so that they are told apart from it.
use Rattle.std.specs.Prelude.{ℕ, ◌≡◌, false, List, [], ◌∷◌, None}
use Rattle.lines.specs.Line.{starts_with}
use Rattle.lines.specs.Text.{bytes}
use Rattle.price_rules.specs.Grammar.{by_list}
use Rattle.part_lines.specs.Grammar.{PartText}

-- a text that begins with no key of a part's lines that may be missing: it may stand behind any part
pub record Behind (s : List ℕ) : Type 0 where
  pub removal : starts_with (bytes "removal=") s ≡ false
  pub base : starts_with (bytes "base=") s ≡ false

-- a text that begins with no further line of this part: behind prices or a rule there is none; where neither stands, `base` is one, and `removal` too where there are no lines of removal
pub record BehindPart (p : PartText) (s : List ℕ) : Type 0 where
  pub removal : p.cover ≡ None → p.prices ≡ by_list [] → starts_with (bytes "removal=") s ≡ false
  pub base : p.prices ≡ by_list [] → starts_with (bytes "base=") s ≡ false

-- behind some parts: behind the last of them
abbrev pub BehindParts : List PartText → List ℕ → Type 0
BehindParts [] s = Unit {0}
BehindParts (p ∷ []) s = BehindPart p s
BehindParts (p ∷ q ∷ ps) s = BehindParts (q ∷ ps) s
