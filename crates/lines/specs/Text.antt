-- How numbers and lines are written: G5. "Numbers in texts are decimal", X1. "Key=value lines in this order, each ended by byte 10".
use Rattle.std.specs.Prelude.{ℕ, zero, suc, ◌+◌, ◌/◌, ◌%◌, List, [], ◌∷◌, ◌++◌, true, false, ltb, Option, Some, None}
use Prim.Native.String.{String, [] as none, ◌∷◌ as ◌then◌}
use Prim.Native.Char.{code}

-- the bytes of an ASCII text
unfoldable pub bytes : String → List ℕ
bytes none = []
bytes (c then cs) = code c ∷ bytes cs

-- the decimal digits of v, the most significant first, at most k of them
unfoldable pub decimal_in : ℕ → ℕ → List ℕ
decimal_in zero v = []
decimal_in (suc k) v = elim (ltb v 10) [ true ↦ (48 + v) ∷ [] | false ↦ decimal_in k (v / 10) ++ (48 + v % 10) ∷ [] ]

-- X2. the decimal digits of a number below 10000000000: "1 to 10 digits"
abbrev pub decimal : ℕ → List ℕ
decimal v = decimal_in 10 v

-- X1. the line of a key, with its equals sign, and a value
unfoldable pub line : List ℕ → ℕ → List ℕ
line key v = key ++ (decimal v ++ 10 ∷ [])

-- the line whose key is written as a string
abbrev pub line_of : String → ℕ → List ℕ
line_of key v = line (bytes key) v

-- the texts of several things, one behind the other
abbrev pub texts : {A : Type 0} → (A → List ℕ) → List A → List ℕ
texts w [] = []
texts w (x ∷ xs) = w x ++ texts w xs

-- what is missing is not written
abbrev pub optional_text : {A : Type 0} → (A → List ℕ) → Option A → List ℕ
optional_text w None = []
optional_text w (Some a) = w a
