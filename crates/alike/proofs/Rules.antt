-- A text with rules in place of prices means what the text with the price lines written out means, that text is accepted too, and both are answered alike (`rules_out_lem`). By a part's prices, written out.
use Prim.Native.Nat.{ℕ}
use mathlib.Core.Path.{◌≡◌, refl, sym, ap₂, subst}
use mathlib.Core.Bool.{◌||◌}
use mathlib.Core.List.{List, [], ◌∷◌, map}
use lib.ListN.{length}
use Rattle.lines.specs.Parser.{accepted}
use Rattle.base.specs.Each.{All}
use Rattle.price_rules.proofs.Prices.{written_out}
use Rattle.part_lines.specs.Grammar.{PartText, meant_part, low_part_lem, any_banded}
use Rattle.part_lines.specs.Valid.{Spelt}
use Rattle.job_grammar.specs.Grammar.{JobText, job_with, meant, read_job_text}
use Rattle.job_grammar.specs.Rendering.{job_text_lem}
use Rattle.job_grammar.specs.Valid.{Valid, ValidText}
use Rattle.job_grammar.proofs.Accepted.{valid_text}
use Rattle.job_grammar.proofs.Complete.{read_back}
use Rattle.alike.specs.Alike.{part_out, rules_out, RulesOut}
use Rattle.alike.proofs.Meaning.{by_meaning}

-- the prices written out, at the high ends and at the low ends
high_same : (n : ℕ) (ps : List PartText) → All (Spelt n) ps → map (meant_part n) ps ≡ map (meant_part n) (map (part_out n) ps)
high_same n [] v = refl
high_same n (p ∷ ps) v =
    let e = (written_out n p.prices v.0).high in
    let r = high_same n ps v.1 in
    λ i. record { life = p.life; left = p.left; removal = (meant_part n p).removal; holders = (meant_part n p).holders; prices = sym e i } ∷ r i

low_same : (n : ℕ) (ps : List PartText) → All (Spelt n) ps → map (low_part_lem n) ps ≡ map (low_part_lem n) (map (part_out n) ps)
low_same n [] v = refl
low_same n (p ∷ ps) v =
    let e = (written_out n p.prices v.0).low in
    let r = low_same n ps v.1 in
    λ i. record { life = p.life; left = p.left; removal = (meant_part n p).removal; holders = (meant_part n p).holders; prices = sym e i } ∷ r i

banded_same : (n : ℕ) (ps : List PartText) → All (Spelt n) ps → any_banded ps ≡ any_banded (map (part_out n) ps)
unfolding any_banded
banded_same n [] v = refl
banded_same n (p ∷ ps) v = ap₂ ◌||◌ (sym (written_out n p.prices v.0).banded) (banded_same n ps v.1)

means_same : (t : JobText) → ValidText t → meant t ≡ meant (rules_out t)
means_same t v =
    let n = length t.openings in
    let h = high_same n t.parts v.lines in
    let l = low_same n t.parts v.lines in
    let b = banded_same n t.parts v.lines in
    λ i. record { job = job_with t (h i); low = job_with t (l i); banded = b i }

parts_spelt : (n : ℕ) (ps : List PartText) → All (Spelt n) ps → All (Spelt n) (map (part_out n) ps)
parts_spelt n [] v = tt
parts_spelt n (p ∷ ps) v = ((written_out n p.prices v.0).valid, parts_spelt n ps v.1)

out_valid : (t : JobText) → ValidText t → ValidText (rules_out t)
out_valid t v = record { means = subst Valid (means_same t v) v.means; idles = v.idles; walk = v.walk; lines = parts_spelt (length t.openings) t.parts v.lines }

accepts : (s : List ℕ) (t : JobText) → read_job_text s ≡ accepted t → read_job_text (job_text_lem (rules_out t)) ≡ accepted (rules_out t)
accepts s t e = read_back (rules_out t) (out_valid t (valid_text s t e))

-- E8. a job with rules is answered as the one with the lines written out
pub rules_out_lem : RulesOut
rules_out_lem = record {
  means = λ s t e. means_same t (valid_text s t e);
  accepts = accepts;
  alike = λ s t e. by_meaning s (job_text_lem (rules_out t)) t (rules_out t) e (accepts s t e) (means_same t (valid_text s t e));
}
