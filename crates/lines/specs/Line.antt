-- X1. One line of a text, `key=value` and byte 10: what reading it at the front of a list of bytes gives.
use Rattle.std.specs.Prelude.{ℕ, ◌+◌, ◌-◌, ◌*◌, List, [], ◌∷◌, Bool, true, false, not, ◌&&◌, ◌||◌, length, get_or, drop, leb, eqb, Option, Some, None}

-- the bytes of `0` to `9`
abbrev pub is_digit : ℕ → Bool
is_digit b = leb 48 b && leb b 57

-- the digits that a list begins with
unfoldable pub digits : List ℕ → List ℕ
digits [] = []
digits (b ∷ bs) = elim (is_digit b) [ true ↦ b ∷ digits bs | false ↦ [] ]

-- the number that digits write after a number v
unfoldable pub number_from : ℕ → List ℕ → ℕ
number_from v [] = v
number_from v (d ∷ ds) = number_from (v * 10 + (d - 48)) ds

-- X2. 1 to 10 digits, no leading zero, "0" itself allowed
abbrev pub plain : List ℕ → Bool
plain ds = leb 1 (length ds) && leb (length ds) 10 && (eqb (length ds) 1 || not (eqb (get_or ds 0 0) 48))

-- the text begins with the key
unfoldable pub starts_with : List ℕ → List ℕ → Bool
starts_with [] s = true
starts_with (k ∷ ks) [] = false
starts_with (k ∷ ks) (b ∷ bs) = eqb k b && starts_with ks bs

-- a value and byte 10: the value, and how many bytes these are
unfoldable pub read_value_lem : List ℕ → Option (ℕ × ℕ)
read_value_lem s =
    let ds = digits s in
    elim (plain ds && eqb (get_or s (length ds) 0) 10) [ true ↦ Some (number_from 0 ds, length ds + 1) | false ↦ None ]

-- what was read behind k bytes: the line has those too
abbrev pub after : ℕ → Option (ℕ × ℕ) → Option (ℕ × ℕ)
after k (Some (v, n)) = Some (v, k + n)
after k None = None

-- the line `key=value`: the value and how many bytes the line has
unfoldable pub read_line_lem : List ℕ → List ℕ → Option (ℕ × ℕ)
read_line_lem key s = elim (starts_with key s) [ true ↦ after (length key) (read_value_lem (drop (length key) s)) | false ↦ None ]
