-- Reading a text line by line: what is left of the bytes and the number of the next line go in; a value, what is then left and the
-- next line's number come out, or a fault's result number and its line.
use Rattle.std.specs.Prelude.{ℕ, zero, suc, ◌+◌, List, [], ◌∷◌, Bool, true, false, ◌&&◌, length, drop, leb, ltb, Option, Some, None, Result, Ok, Err}
use Prim.Native.String.{String}
use Rattle.lines.specs.Line.{starts_with, read_line_lem}
use Rattle.lines.specs.Text.{bytes}

-- `good`: a value, the bytes left and the next line's number; `fault`: a result number and the line at fault
pub data Parsed (A : Type 0) : Type 0 where
  good : A → List ℕ → ℕ → Parsed A
  fault : ℕ → ℕ → Parsed A

-- a reader of a value of type A, from the bytes left and the next line's number
abbrev pub Parser : Type 0 → Type 0
Parser A = List ℕ → ℕ → Parsed A

infixl 10 ◌>>=◌
-- first p, and then f of its value; a fault of p is the whole's
unfoldable pub ◌>>=◌ : {A B : Type 0} → Parser A → (A → Parser B) → Parser B
◌>>=◌ p f s l = elim (p s l) [ good a s' l' ↦ f a s' l' | fault n m ↦ fault n m ]

-- a value, and nothing read
unfoldable pub return : {A : Type 0} → A → Parser A
return a s l = good a s l

-- R2, R3, R20. the range of a line's value: 2 before 3
unfoldable pub in_range : ℕ → ℕ → Option (ℕ × ℕ) → Result (ℕ × ℕ) ℕ
in_range lo hi (Some (v, n)) = elim (leb lo v && leb v hi) [ true ↦ Ok (v, n) | false ↦ Err 3 ]
in_range lo hi None = Err 2

-- R2, R3. the line `key=value` at the front of the text: its value from lo to hi and how many bytes it has, or 2 or 3
unfoldable pub read_field_lem : List ℕ → ℕ → ℕ → List ℕ → Result (ℕ × ℕ) ℕ
read_field_lem key lo hi s = in_range lo hi (read_line_lem key s)

-- the field at the front of the text as a parser's answer
unfoldable pub taken : List ℕ → ℕ → Result (ℕ × ℕ) ℕ → Parsed ℕ
taken s l (Ok (v, n)) = good v (drop n s) (l + 1)
taken s l (Err k) = fault k l

-- a line `key=value` with a value from lo to hi
unfoldable pub row_at : List ℕ → ℕ → ℕ → Parser ℕ
row_at key lo hi s l = taken s l (read_field_lem key lo hi s)

-- the same, with the key as it is written
abbrev pub row : String → ℕ → ℕ → Parser ℕ
row key lo hi = row_at (bytes key) lo hi

-- E1.2. a line `key=value` that may be missing: it is where the text does not begin with the key
unfoldable pub optional_at : List ℕ → ℕ → ℕ → Parser (Option ℕ)
optional_at key lo hi s l = elim (starts_with key s) [ true ↦ (row_at key lo hi >>= λ v. return (Some v)) s l | false ↦ good None s l ]

-- the same, with the key as it is written
abbrev pub optional : String → ℕ → ℕ → Parser (Option ℕ)
optional key lo hi = optional_at (bytes key) lo hi

-- where a line is present, what follows it
unfoldable pub if_present : {A B : Type 0} → (A → Parser B) → Option A → Parser (Option B)
if_present f None = return None
if_present f (Some a) = do
  b ← f a
  return (Some b)

-- R20. p, and a further rule of its value whose fault k is on the line where p began
unfoldable pub checked : {A : Type 0} → ℕ → (A → Bool) → Parser A → Parser A
checked k ok p s l = elim (p s l) [ good v s' l' ↦ elim (ok v) [ true ↦ good v s' l' | false ↦ fault k l ] | fault n m ↦ fault n m ]

-- n times p, each given a state: what the one before leaves of its own state and its value
unfoldable pub chain : {A S : Type 0} → (S → Parser A) → (S → A → S) → ℕ → S → Parser (List A)
chain p next zero prev = return []
chain p next (suc n) prev = do
  a ← p prev
  rest ← chain p next n (next prev a)
  return (a ∷ rest)

-- n times p, the same each time
unfoldable pub times : {A : Type 0} → ℕ → Parser A → Parser (List A)
times n p = chain {S = ℕ} (λ _. p) (λ _ _. 0) n 0

-- nothing more
unfoldable pub end : Parser (Unit {0})
end [] l = good tt [] l
end (b ∷ s) l = fault 2 l

-- what a whole text gives: a value, or a fault's result number and line
pub data Outcome (A : Type 0) : Type 0 where
  accepted : A → Outcome A
  refused : ℕ → ℕ → Outcome A

-- what a parser of a whole text gives; where it ended is not kept
abbrev pub finish : {A : Type 0} → Parsed A → Outcome A
finish (good a s l) = accepted a
finish (fault n l) = refused n l

-- R2, R21. these lines and nothing behind them: "bytes after the last line are the line after it"
unfoldable pub whole : {A : Type 0} → Parser A → Parser A
whole p = do
  a ← p
  _ ← end
  return a

-- R1, X7. a text of at most so many bytes; a longer one is fault 1 with no line ("0 for number 1")
unfoldable pub read_text : {A : Type 0} → ℕ → Parser A → List ℕ → Outcome A
read_text most p s = elim (leb (length s) most) [ true ↦ finish (whole p s 1) | false ↦ refused 1 0 ]

-- X5, X6. rules of values: after the one before and within a limit; at most a number
abbrev pub rising : ℕ → ℕ → ℕ → Bool
rising before most v = ltb before v && leb v most

-- R5. the second rule: a `left` is at most its `life`
abbrev pub up_to : ℕ → ℕ → Bool
up_to most v = leb v most
