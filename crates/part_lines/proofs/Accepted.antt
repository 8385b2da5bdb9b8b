-- A part's accepted lines are the rendering of what they say, and that is known of them (`part_tells`). By the grammar's lines, one after the other.
use Rattle.std.specs.Prelude.{Option, Some, None}
use Prim.Native.Nat.{ℕ, ◌≤◌}
use mathlib.Core.Path.{◌≡◌, ap, ◌∙◌, subst}
use mathlib.Core.List.{List, ◌++◌, append_assoc}
use native.Mathlib.Omega.{arith}
use lib.ListN.{length}
use borrow.Author.Tests.{leb-true}
use Rattle.lines.specs.Text.{line_of, optional_text}
use Rattle.lines.specs.Parser.{return, row, checked, up_to}
use Rattle.lines.proofs.Sound.{Told, Tells, bind_inv, row_sound, checked_sound, row_gives, checked_gives}
use Rattle.jobs.specs.Valid.{ValidHolders}
use Rattle.price_rules.specs.Grammar.{prices}
use Rattle.price_rules.specs.Rendering.{prices_text}
use Rattle.price_rules.proofs.Accepted.{prices_tells}
use Rattle.price_rules.proofs.Prices.{meant_length, meant_valid}
use Rattle.covers.specs.Grammar.{Cover, cover}
use Rattle.covers.specs.Rendering.{cover_text}
use Rattle.covers.specs.Valid.{ValidLines}
use Rattle.covers.specs.Views.{meant_cover}
use Rattle.covers.proofs.Accepted.{cover_tells}
use Rattle.part_lines.specs.Grammar.{PartText, after_left, part}
use Rattle.part_lines.specs.Rendering.{part_text}
use Rattle.part_lines.specs.Valid.{KnownPart}

-- what is known of the lines of removal, where they stand, is known of what they mean
cover_known : (m k : ℕ) (o : Option Cover) → ValidLines m k o → ((meant_cover o).removal ≤ 1000000) × (length (meant_cover o).holders ≤ 15) × ValidHolders m k 0 (meant_cover o).holders
unfolding meant_cover
cover_known m k None v = (omega arith, omega arith, tt)
cover_known m k (Some c) v = (v.removal, v.few, v.holders)

-- and of the part that they mean, of the lines
pub known_cover : (m n k : ℕ) (p : PartText) → KnownPart m n k p → ValidLines m k p.cover
unfolding meant_cover
known_cover m n k p v = go p.cover v.0.removal v.0.few_holders v.1
  where
    go : (o : Option Cover) → (meant_cover o).removal ≤ 1000000 → length (meant_cover o).holders ≤ 15 → ValidHolders m k 0 (meant_cover o).holders → ValidLines m k o
    go None r f h = tt
    go (Some c) r f h = record { removal = r; few = f; holders = h }

-- what is accepted as a part is known, and its text is what was read
pub part_tells : (m n k : ℕ) → Tells (part m n k) (KnownPart m n k) part_text
unfolding part after_left return part_text
part_tells m n k s s' l l' p e =
    let p₁ = row "life=" 1 1000 in
    let p₂ = row "left=" 0 1000 in
    let b = bind_inv p₁ _ s s' l l' p e in
    let d = bind_inv (checked 5 (up_to b.a) p₂) _ b.mid s' b.at l' p b.second in
    let g = bind_inv (cover m k) _ d.mid s' d.at l' p d.second in
    let f = bind_inv (prices n) _ g.mid s' g.at l' p g.second in
    let x : record { life = b.a; left = d.a; cover = g.a; prices = f.a } ≡ p = cc f.second in
    let y : f.mid ≡ s' = cc f.second in
    let k₁ = row_gives _ 1 1000 s b.mid l b.at b.a b.first in
    let k₂ = checked_gives 5 (up_to b.a) p₂ _ (row_gives _ 0 1000) b.mid d.mid b.at d.at d.a d.first in
    let told = cover_tells m k d.mid g.mid d.at g.at g.a g.first in
    let k₃ = cover_known m k g.a told.known in
    let k₄ = prices_tells n g.mid f.mid g.at f.at f.a f.first in
    subst (Told (KnownPart m n k) part_text s s') x (record {
      known = (
        record {
          life_low = k₁.0;
          life_high = k₁.1;
          left_high = leb-true d.a b.a k₂.1;
          removal = k₃.0;
          few_holders = k₃.1;
          priced = meant_length n f.a k₄.known;
          prices = meant_valid n f.a k₄.known;
        },
        k₃.2,
        k₄.known,
      );
      text = simp append_assoc
          (row_sound _ 1 1000 s b.mid l b.at b.a b.first
          ∙ ap (λ (r : List ℕ). line_of "life=" b.a ++ r)
          (checked_sound 5 (up_to b.a) p₂ (line_of "left=") (row_sound _ 0 1000) b.mid d.mid b.at d.at d.a d.first
          ∙ ap (λ (r : List ℕ). line_of "left=" d.a ++ r)
          (told.text
          ∙ ap (λ (r : List ℕ). optional_text cover_text g.a ++ r)
          (k₄.text ∙ ap (λ (r : List ℕ). prices_text f.a ++ r) y))));
    })
