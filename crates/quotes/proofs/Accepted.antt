-- Accepted lines of a price are the rendering of what they say, and that is valid (`quote_tells`). By the grammar's lines, one after the other.
use Rattle.std.specs.Prelude.{Option, Some, None}
use Prim.Native.Nat.{ℕ}
use mathlib.Core.Path.{◌≡◌, ap, ◌∙◌, subst}
use mathlib.Core.List.{List, ◌++◌, append_assoc}
use native.Mathlib.Omega.{arith}
use borrow.Author.Tests.{leb-true}
use Rattle.lines.specs.Text.{bytes, line_of}
use Rattle.lines.specs.Parser.{good, return, row, optional, checked}
use Rattle.lines.proofs.Sound.{bind_inv, Optionally, optional_inv, row_sound, checked_sound, row_gives, checked_gives, Told, Tells}
use Rattle.quotes.specs.Grammar.{single, pair, at_least, unless_low, quote}
use Rattle.quotes.specs.Rendering.{quote_text}
use Rattle.quotes.specs.Valid.{ValidQuote}

-- what is accepted as a quote is valid, and its text is what was read
pub quote_tells : Tells quote ValidQuote quote_text
unfolding quote unless_low return quote_text
quote_tells s s' l l' q e =
    let b = bind_inv (optional "low=" 1 1000000) _ s s' l l' q e in
    go b.a b.mid b.at (optional_inv _ 1 1000000 s b.mid l b.at b.a b.first) b.second
  where
    go : (o : Option ℕ) (mid : List ℕ) (at : ℕ) → Optionally (bytes "low=") 1 1000000 s mid l at o → unless_low o mid at ≡ good q s' l' → Told ValidQuote quote_text s s' q
    go None mid at none e =
        let d = bind_inv (row "price=" 1 1000000) _ mid s' at l' q e in
        let x : single d.a ≡ q = cc d.second in
        let y : d.mid ≡ s' = cc d.second in
        let k = row_gives _ 1 1000000 mid d.mid at d.at d.a d.first in
        subst (Told ValidQuote quote_text s s') x (record {
          known = record { low = k; high = k; ordered = omega arith };
          text = none ∙ row_sound _ 1 1000000 mid d.mid at d.at d.a d.first ∙ ap (λ (u : List ℕ). line_of "price=" d.a ++ u) y;
        })
    go (Some m) mid at some e =
        let high = row "high=" 1 1000000 in
        let d = bind_inv (checked 13 (at_least m) high) _ mid s' at l' q e in
        let x : pair m d.a ≡ q = cc d.second in
        let y : d.mid ≡ s' = cc d.second in
        let k = checked_gives 13 (at_least m) high _ (row_gives _ 1 1000000) mid d.mid at d.at d.a d.first in
        subst (Told ValidQuote quote_text s s') x (record {
          known = record { low = row_gives _ 1 1000000 s mid l at m some; high = k.0; ordered = leb-true m d.a k.1 };
          text = simp append_assoc
              (row_sound _ 1 1000000 s mid l at m some
              ∙ ap (λ (u : List ℕ). line_of "low=" m ++ u)
              (checked_sound 13 (at_least m) high (line_of "high=") (row_sound _ 1 1000000) mid d.mid at d.at d.a d.first ∙ ap (λ (u : List ℕ). line_of "high=" d.a ++ u) y));
        })
