-- How long a part's text is, whatever its numbers (`part_short`): fifteen holders and 64 pairs, every number with ten digits. By the lengths of the lines.
use Rattle.std.specs.Prelude.{Option, None, Some}
use Prim.Native.Nat.{ℕ, ◌+◌, ◌*◌, ◌≤◌, ◌<◌}
use Prim.Native.String.{String}
use mathlib.Core.Path.{◌≡◌, refl, ap}
use mathlib.Core.List.{List, [], ◌∷◌}
use native.Mathlib.Omega.{arith}
use native.Mathlib.Decide.{dec_lt}
use lib.ListN.{length, length-append}
use Rattle.lines.specs.Text.{bytes, line_of, texts, optional_text}
use Rattle.lines.proofs.Writing.{line_most}
use Rattle.base.specs.Each.{All}
use Rattle.covers.specs.Grammar.{Cover}
use Rattle.quotes.specs.Grammar.{Quote, single, pair}
use Rattle.quotes.specs.Rendering.{quote_text}
use Rattle.price_rules.specs.Grammar.{Prices, by_list, by_rule_lem}
use Rattle.price_rules.specs.Rendering.{rule_text, prices_text}
use Rattle.part_lines.specs.Grammar.{PartText}
use Rattle.part_lines.proofs.Lengths.{texts_short}
use Rattle.part_writing.specs.Cut.{inside_cut, cover_cut, part_cut_lem}
use Rattle.part_writing.proofs.Pieces.{inside_many, inside_few}

-- a line of a key of k bytes
pub short : (key : String) (k v : ℕ) → length (bytes key) ≡ k → length (line_of key v) ≤ k + 11
short key k v e = omega (arith, line_most (bytes key) v, e)

-- each member of any list has the property that always holds
pub all_any : {A : Type 0} (xs : List A) → All (λ _. Unit {0}) xs
all_any [] = tt
all_any (x ∷ xs) = (tt, all_any xs)

-- lines of a key
pub lines_short : (key : String) (k : ℕ) → length (bytes key) ≡ k → (vs : List ℕ) → length (texts (line_of key) vs) ≤ length vs * (k + 11)
lines_short key k e vs = texts_short (λ _. Unit {0}) (line_of key) (k + 11) (λ v _. short key k v e) vs (all_any vs)

inside_short : (hs : List ℕ) → length (inside_cut hs) ≤ 288
unfolding bytes
inside_short hs = go (dec_lt 15 (length hs))
  where
    go : Dec (15 < length hs) → length (inside_cut hs) ≤ 288
    go (yes h) = omega (arith, ap length (inside_many hs h), short "inside=" 7 (length hs) refl)
    go (no h) = omega (arith, h, ap length (inside_few hs (omega (arith, h))), length-append (line_of "inside=" (length hs)) (texts (line_of "holder=") hs), short "inside=" 7 (length hs) refl, lines_short "holder=" 7 refl hs)

cover_short : (o : Option Cover) → length (optional_text cover_cut o) ≤ 307
unfolding cover_cut bytes
cover_short None = omega arith
cover_short (Some c) = omega (arith, length-append (line_of "removal=" c.removal) (inside_cut c.holders), short "removal=" 8 c.removal refl, inside_short c.holders)

-- prices that are listed are no more than n
abbrev pub FewListed : ℕ → Prices → Type 0
FewListed n (by_list qs) = length qs ≤ n
FewListed n (by_rule_lem r) = Unit {0}

quote_short : (q : Quote) → length (quote_text q) ≤ 31
unfolding quote_text bytes
quote_short (single p) = omega (arith, short "price=" 6 p refl)
quote_short (pair l h) = omega (arith, length-append (line_of "low=" l) (line_of "high=" h), short "low=" 4 l refl, short "high=" 5 h refl)

prices_short : (p : Prices) → FewListed 64 p → length (prices_text p) ≤ 1984
unfolding rule_text bytes
prices_short (by_list qs) few = omega (arith, few, texts_short (λ _. Unit {0}) quote_text 31 (λ q _. quote_short q) qs (all_any qs))
prices_short (by_rule_lem r) few = simp length-append (omega (arith, short "base=" 5 r.base refl, short "drop=" 5 r.drop refl, short "least=" 6 r.least refl))

-- a part's lines have at most 2,323 bytes
pub part_short : (p : PartText) → FewListed 64 p.prices → length (part_cut_lem p) ≤ 2323
unfolding part_cut_lem bytes
part_short p few = simp length-append (omega (arith, short "life=" 5 p.life refl, short "left=" 5 p.left refl, cover_short p.cover, prices_short p.prices few))
