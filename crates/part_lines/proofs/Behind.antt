-- What stands behind a part's lines, and behind those of them that may be missing: nothing (`behind_none`), what may stand behind any (`behind_all`), prices (`removal_next`, `prices_next`), other parts (`first_behind`, `rest_behind`, `parts_last`). By how their lines begin.
use Prim.Native.Nat.{ℕ}
use mathlib.Core.Path.{◌≡◌, refl}
use mathlib.Core.Bool.{false}
use mathlib.Core.List.{List, [], ◌∷◌, ◌++◌}
use Rattle.lines.specs.Line.{starts_with}
use Rattle.lines.specs.Text.{bytes, line, texts}
use Rattle.quotes.specs.Grammar.{single, pair}
use Rattle.quotes.specs.Rendering.{quote_text}
use Rattle.price_rules.specs.Grammar.{Prices, by_list, by_rule_lem}
use Rattle.price_rules.specs.Rendering.{rule_text, prices_text}
use Rattle.part_lines.specs.Grammar.{PartText}
use Rattle.part_lines.specs.Rendering.{part_text}
use Rattle.part_lines.specs.Behind.{Behind, BehindPart, BehindParts}

-- no bytes may stand behind a part's lines
pub behind_none : Behind []
unfolding starts_with bytes
behind_none = record { removal = refl; base = refl }

-- what may stand behind any part may stand behind these
pub behind_all : (ps : List PartText) (s : List ℕ) → Behind s → BehindParts ps s
behind_all [] s b = tt
behind_all (p ∷ []) s b = record { removal = λ _ _. b.removal; base = λ _. b.base }
behind_all (p ∷ q ∷ ps) s b = behind_all (q ∷ ps) s b

-- behind the lines of removal: prices, a rule, or what follows where there are neither
pub removal_next : (p : Prices) (s : List ℕ) → (p ≡ by_list [] → starts_with (bytes "removal=") s ≡ false) → starts_with (bytes "removal=") (prices_text p ++ s) ≡ false
unfolding starts_with line bytes rule_text quote_text
removal_next (by_list []) s b = b refl
removal_next (by_list (single p ∷ qs)) s b = refl
removal_next (by_list (pair l h ∷ qs)) s b = refl
removal_next (by_rule_lem r) s b = refl

-- or what may stand behind any part
pub prices_next : (p : Prices) (s : List ℕ) → Behind s → starts_with (bytes "removal=") (prices_text p ++ s) ≡ false
prices_next p s b = removal_next p s (λ _. b.removal)

-- behind the first of some parts: the next one, or what follows the parts
pub first_behind : (p : PartText) (ps : List PartText) (s : List ℕ) → BehindParts (p ∷ ps) s → BehindPart p (texts part_text ps ++ s)
unfolding starts_with line bytes part_text
first_behind p [] s b = b
first_behind p (q ∷ ps) s b = record { removal = λ _ _. refl; base = λ _. refl }

-- behind the others
pub rest_behind : (p : PartText) (ps : List PartText) (s : List ℕ) → BehindParts (p ∷ ps) s → BehindParts ps s
rest_behind p [] s b = tt
rest_behind p (q ∷ ps) s b = b

-- parts, or nothing
pub parts_last : (ps : List PartText) → Behind (texts part_text ps)
unfolding starts_with line bytes part_text
parts_last [] = behind_none
parts_last (p ∷ ps) = record { removal = refl; base = refl }
