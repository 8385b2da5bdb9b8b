-- E11. What is valid at the high ends of its prices is valid at the low ends, which are nowhere above them (`meant_valid`). Part by part.
use Prim.Native.Nat.{ℕ, suc}
use mathlib.Core.Path.{◌≡◌, refl, sym, ap, ◌∙◌, subst}
use mathlib.Core.List.{List, [], ◌∷◌, map}
use native.Mathlib.Omega.{arith}
use lib.ListN.{length, length-map}
use Rattle.model.specs.Model.{Part, Each}
use Rattle.bands.specs.Bands.{unpriced_part, PricesUpTo}
use Rattle.base.specs.Each.{All}
use Rattle.jobs.specs.Valid.{ValidPart, HeldFrom, ValidJob}
use Rattle.price_rules.proofs.Prices.{low_length, low_valid, low_to_high}
use Rattle.part_lines.specs.Grammar.{PartText, meant_part, low_part_lem}
use Rattle.part_lines.specs.Valid.{Spelt}
use Rattle.job_grammar.specs.Grammar.{JobText, meant}
use Rattle.job_grammar.specs.Valid.{Valid}

module _ (n : ℕ) where
  lows_valid : (ps : List PartText) → All (ValidPart n) (map (meant_part n) ps) → All (Spelt n) ps → All (ValidPart n) (map (low_part_lem n) ps)
  lows_valid [] v s = tt
  lows_valid (p ∷ ps) v s =
      let w = v.0 in (
        record {
          life_low = w.life_low;
          life_high = w.life_high;
          left_high = w.left_high;
          removal = w.removal;
          few_holders = w.few_holders;
          priced = low_length n p.prices s.0;
          prices = low_valid n p.prices s.0;
        },
        lows_valid ps v.1 s.1,
      )

  lows_held : (m k : ℕ) (ps : List PartText) → HeldFrom m k (map (meant_part n) ps) → HeldFrom m k (map (low_part_lem n) ps)
  lows_held m k [] h = tt
  lows_held m k (p ∷ ps) h = (h.0, lows_held m (suc k) ps h.1)

  lows_same : (ps : List PartText) → map unpriced_part (map (low_part_lem n) ps) ≡ map unpriced_part (map (meant_part n) ps)
  lows_same [] = refl
  lows_same (p ∷ ps) = ap (λ (qs : List Part). unpriced_part (meant_part n p) ∷ qs) (lows_same ps)

  lows_ordered : (ps : List PartText) → All (Spelt n) ps → Each PricesUpTo (map (low_part_lem n) ps) (map (meant_part n) ps)
  lows_ordered [] s = tt
  lows_ordered (p ∷ ps) s = (low_to_high n p.prices s.0, lows_ordered ps s.1)

-- what a valid text means is valid, at the low ends too
pub meant_valid : (t : JobText) → ValidJob (meant t).job → All (Spelt (length t.openings)) t.parts → Valid (meant t)
meant_valid t v s =
    let n = length t.openings in
    let count : length (map (meant_part n) t.parts) ≡ length (map (low_part_lem n) t.parts) = length-map t.parts (meant_part n) ∙ sym (length-map t.parts (low_part_lem n)) in
    let same = lows_same n t.parts in
    record {
      job = v;
      low = record {
        horizon_low = v.horizon_low;
        horizon_high = v.horizon_high;
        few_idles = v.few_idles;
        idles = v.idles;
        few_openings = v.few_openings;
        openings = v.openings;
        rising = v.rising;
        some_part = omega (arith, v.some_part, count);
        few_parts = omega (arith, v.few_parts, count);
        parts = lows_valid n t.parts v.parts s;
        holders = subst (λ (m : ℕ). HeldFrom m 1 (map (low_part_lem n) t.parts)) count (lows_held n _ 1 t.parts v.holders);
      };
      ordered = record {
        same = λ i. record { horizon = t.horizon; idles = (meant t).job.idles; openings = t.openings; parts = same i };
        prices = lows_ordered n t.parts s;
      };
    }
