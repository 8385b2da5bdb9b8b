-- Accepted lines of a part's prices are the rendering of what they say, and that is valid (`rule_tells`, `prices_tells`). By the grammar's lines, one after the other.
use Rattle.std.specs.Prelude.{Option, Some, None}
use Prim.Native.Nat.{ℕ, ◌≤◌}
use mathlib.Core.Path.{◌≡◌, refl, sym, ap, ◌∙◌, subst}
use mathlib.Core.List.{List, ◌++◌, append_assoc}
use Rattle.lines.specs.Text.{bytes, line_of, texts, optional_text}
use Rattle.lines.specs.Parser.{good, return, row, optional, if_present, times}
use Rattle.lines.proofs.Sound.{bind_inv, Optionally, optional_inv, row_sound, chain_sound, row_gives, chain_gives, Told, Tells}
use Rattle.quotes.specs.Grammar.{quote}
use Rattle.quotes.specs.Rendering.{quote_text}
use Rattle.quotes.specs.Valid.{ValidQuote}
use Rattle.quotes.proofs.Accepted.{quote_tells}
use Rattle.price_rules.specs.Rule.{Rule}
use Rattle.price_rules.specs.Grammar.{after_base, rule, by_list, by_rule_lem, unless_ruled, prices}
use Rattle.price_rules.specs.Rendering.{rule_text, prices_text}
use Rattle.price_rules.specs.Valid.{ValidLines, ValidPrices}
use Rattle.base.proofs.Lists.{chained_each}

-- what is known of the lines behind the base b
abbrev KnownAfter : ℕ → Rule → Type 0
KnownAfter b r = (r.base ≡ b) × (r.drop ≤ 1000000) × ((1 ≤ r.least) × (r.least ≤ 1000000))

after_base_tells : (b : ℕ) → Tells (after_base b) (KnownAfter b) (λ r. line_of "drop=" r.drop ++ line_of "least=" r.least)
unfolding after_base return
after_base_tells b s s' l l' r e =
    let d = bind_inv (row "drop=" 0 1000000) _ s s' l l' r e in
    let f = bind_inv (row "least=" 1 1000000) _ d.mid s' d.at l' r d.second in
    let x : record { base = b; drop = d.a; least = f.a } ≡ r = cc f.second in
    let y : f.mid ≡ s' = cc f.second in
    subst (Told _ _ s s') x (record {
      known = (refl, (row_gives _ 0 1000000 s d.mid l d.at d.a d.first).1, row_gives _ 1 1000000 d.mid f.mid d.at f.at f.a f.first);
      text = simp append_assoc
          (row_sound _ 0 1000000 s d.mid l d.at d.a d.first
          ∙ ap (λ (t : List ℕ). line_of "drop=" d.a ++ t) (row_sound _ 1 1000000 d.mid f.mid d.at f.at f.a f.first ∙ ap (λ (t : List ℕ). line_of "least=" f.a ++ t) y));
    })

-- what is accepted as a rule is valid, and its text is what was read
pub rule_tells : Tells rule ValidLines (optional_text rule_text)
unfolding rule if_present return rule_text
rule_tells s s' l l' o e =
    let b = bind_inv (optional "base=" 1 1000000) _ s s' l l' o e in
    go b.a b.mid b.at (optional_inv _ 1 1000000 s b.mid l b.at b.a b.first) b.second
  where
    go : (b : Option ℕ) (mid : List ℕ) (at : ℕ) → Optionally (bytes "base=") 1 1000000 s mid l at b → if_present after_base b mid at ≡ good o s' l' → Told ValidLines (optional_text rule_text) s s' o
    go None mid at none e =
        let x : None ≡ o = cc in
        let y : mid ≡ s' = cc in
        subst (Told ValidLines (optional_text rule_text) s s') x (record { known = tt; text = none ∙ y })
    go (Some b) mid at some e =
        let d = bind_inv (after_base b) _ mid s' at l' o e in
        let x : Some d.a ≡ o = cc d.second in
        let y : d.mid ≡ s' = cc d.second in
        let t = after_base_tells b mid d.mid at d.at d.a d.first in
        let same : b ≡ d.a.base = sym t.known.0 in
        let range = subst (λ (i : ℕ). (1 ≤ i) × (i ≤ 1000000)) same (row_gives _ 1 1000000 s mid l at b some) in
        subst (Told ValidLines (optional_text rule_text) s s') x (record {
          known = record { base_low = range.0; base_high = range.1; drop = t.known.1; least_low = t.known.2.0; least_high = t.known.2.1 };
          text = simp append_assoc
              (row_sound _ 1 1000000 s mid l at b some
              ∙ ap (λ (i : ℕ). line_of "base=" i ++ mid) same
              ∙ ap (λ (u : List ℕ). line_of "base=" d.a.base ++ u) (t.text ∙ append_assoc (line_of "drop=" d.a.drop) (line_of "least=" d.a.least) d.mid ∙ ap (λ (u : List ℕ). line_of "drop=" d.a.drop ++ (line_of "least=" d.a.least ++ u)) y));
        })

-- what is accepted as prices is valid, and their text is what was read
pub prices_tells : (n : ℕ) → Tells (prices n) (ValidPrices n) prices_text
unfolding prices unless_ruled times return
prices_tells n s s' l l' p e =
    let b = bind_inv rule _ s s' l l' p e in
    go b.a b.mid b.at (rule_tells s b.mid l b.at b.a b.first) b.second
  where
    go : (o : Option Rule) (mid : List ℕ) (at : ℕ) → Told ValidLines (optional_text rule_text) s mid o → unless_ruled n o mid at ≡ good p s' l' → Told (ValidPrices n) prices_text s s' p
    go None mid at none e =
        let d = bind_inv (times n quote) _ mid s' at l' p e in
        let x : by_list d.a ≡ p = cc d.second in
        let y : d.mid ≡ s' = cc d.second in
        let g = chain_gives (λ _. quote) (λ _ _. 0) (λ _. ValidQuote) (λ _ s s' l l' q e. (quote_tells s s' l l' q e).known) n 0 mid d.mid at d.at d.a d.first in
        subst (Told (ValidPrices n) prices_text s s') x (record {
          known = (g.0, chained_each ValidQuote 0 d.a g.1);
          text = none.text ∙ chain_sound (λ _. quote) (λ _ _. 0) quote_text (λ _ s s' l l' q e. (quote_tells s s' l l' q e).text) n 0 mid d.mid at d.at d.a d.first ∙ ap (λ (u : List ℕ). texts quote_text d.a ++ u) y;
        })
    go (Some r) mid at some e =
        let x : by_rule_lem r ≡ p = cc in
        let y : mid ≡ s' = cc in
        subst (Told (ValidPrices n) prices_text s s') x (record { known = some.known; text = some.text ∙ ap (λ (u : List ℕ). rule_text r ++ u) y })
