-- What is read of an input, and of one that can't be opened.
use Rattle.std.specs.Prelude.{ℕ, ◌≡◌, List, [], take, IfNone, IfSome, MatchOption}
use Rattle.std.specs.declared.option.Option.{Option}
use Rattle.std.specs.Io.{StartsWith}

-- no byte is read, and the buffer, which held d, holds the same after
abbrev pub Nothing : List ℕ → List ℕ → ℕ → Type 0
Nothing d e n = (n ≡ 0) × (e ≡ d)

-- "a file that can't be opened counts as an empty text": what is read where nothing was opened
abbrev pub Unopened : {R : Type 0} → Option R → List ℕ → List ℕ → ℕ → Type 0
Unopened opened d e n = IfNone opened (Nothing d e n)

-- the bytes that were read are the first of those that the input has left, where these are known; of what can't be opened they are none
abbrev pub Front : {R : Type 0} → (R → Option (List ℕ)) → Option R → List ℕ → Type 0
Front remaining opened bytes = MatchOption opened (bytes ≡ []) (λ input. IfSome (remaining input) (λ known. StartsWith known bytes))

-- they are all of those, or as many as there is room for, where no read failed
abbrev pub Whole : {R E : Type 0} → (R → Option (List ℕ)) → Option R → ℕ → Option E → List ℕ → Type 0
Whole remaining opened room failed bytes = IfNone failed (MatchOption opened (bytes ≡ []) (λ input. IfSome (remaining input) (λ known. bytes ≡ take room known)))
