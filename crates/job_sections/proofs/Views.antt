-- The sections' answers in the grammar's terms: how many idle steps there are (`steps_few`, `idles_read`), and parts that are what their lines mean (`lines_mean`), with the prices of their rules, which change nothing that is said (`lines_same`). By the steps and the parts.
use Rattle.std.specs.Prelude.{Option, Some, None, Result, Ok, Err}
use Prim.Native.Nat.{ℕ, zero, suc, ◌≤◌, ◌<◌}
use mathlib.Core.Path.{◌≡◌, refl, sym, ap, ap₂, ◌∙◌}
use mathlib.Core.List.{List, [], ◌∷◌, map}
use native.Mathlib.Omega.{arith}
use native.Mathlib.Decide.{ℕ_discrete}
use lib.ListN.{length, get_or, take, set, replicate}
use lib.Seq.{get_or-set_same, get_or-set_other}
use Rattle.base.specs.Joined.{joined}
use Rattle.base.specs.Chosen.{chosen}
use Rattle.lines.specs.Parser.{if_present}
use Rattle.lines.specs.Reads.{Reads, seen}
use Rattle.lines.specs.declared.fault.Fault.{Fault}
use Rattle.lines.specs.declared.rows.Lines.{Lines}
use Rattle.lines.proofs.Parsing.{put_into}
use Rattle.lines.proofs.Sound.{chain_gives}
use Rattle.covers.specs.Views.{cover_there}
use Rattle.quotes.specs.Views.{quotes_of}
use Rattle.price_rules.specs.declared.Rule.{Rule}
use Rattle.job_grammar.specs.Grammar.{idle, idle_steps_lem}
use Rattle.job_grammar.proofs.Optionals.{some_idles}
use Rattle.part_lines.specs.Bare.{Bare}
use Rattle.part_lines.specs.Grammar.{meant_part}
use Rattle.part_lines.specs.Views.{blank_said, prices_told, part_lines_lem, parts_lines, Unsaid, ruled_prices, priced}
use Rattle.part_lines.proofs.Prices.{bare_means}
use Rattle.part_lines.specs.declared.said.PartSaid.{PartSaid}
use Rattle.model.specs.Model as model
use Rattle.jobs.specs.Views.{blank_part_lem, part_of_lem}
use Rattle.jobs.specs.declared.Part.{Part}
use Rattle.job_sections.specs.declared.steps.Idles.{Idles}
use Rattle.job_sections.specs.Views.{idles_of, idles_said, Meant}

-- steps that were read behind their number's line
pub idles_read : (h n : ℕ) (b a : Lines) (r : Result Idles Fault) → 1 ≤ n → Reads (idle_steps_lem h n) b a (seen idles_of r) → Reads (if_present (idle_steps_lem h) (Some n)) b a (seen idles_said r)
unfolding if_present idle_steps_lem
idles_read h n b a (Ok is) some r =
    let size = (chain_gives (idle h) (λ (before i : ℕ). i) (λ _ _. Unit {0}) (λ _ _ _ _ _ _ _. tt) n 0 _ _ _ _ (idles_of is) (sym r)).0 in
    rw (← some_idles (idles_of is) (omega (arith, size))) (put_into Some (idle_steps_lem h n) b a (Ok (idles_of is)) r)
idles_read h n b a (Err e) some r = put_into Some (idle_steps_lem h n) b a (Err e) r

-- one record at all places, or what stands past them
alike_at : {A : Type 0} (P : A → Type 0) (b k : ℕ) (x y : A) → P x → P y → P (get_or (replicate b x) k y)
alike_at P zero k x y h d = d
alike_at P (suc b) zero x y h d = h
alike_at P (suc b) (suc k) x y h d = alike_at P b k x y h d

-- no lines of removal, and no removal and no holders
pub blanks_mean : (n : ℕ) (s : PartSaid) (p : Part) → Unsaid s → Bare p → Meant n (replicate 16 s) (replicate 16 p)
unfolding chosen joined
blanks_mean n s p said e k =
    bare_means n (get_or (replicate 16 s) k blank_said) (get_or (replicate 16 p) k blank_part_lem) (λ f. alike_at Bare 16 k p blank_part_lem e (refl, refl))

-- parts that are what their lines mean stay so when one is stored with lines that mean it
pub meant_set : (n i : ℕ) (cs : List PartSaid) (ps : List Part) (c : PartSaid) (p : Part) → i < length cs → i < length ps → Meant n cs ps → meant_part n (part_lines_lem c (part_of_lem n p)) ≡ priced n c (part_of_lem n p) → Meant n (set cs i c) (set ps i p)
meant_set n i cs ps c p h m old new k = go (ℕ_discrete k i)
  where
    go : Dec (k ≡ i) → meant_part n (part_lines_lem (get_or (set cs i c) k blank_said) (part_of_lem n (get_or (set ps i p) k blank_part_lem))) ≡ priced n (get_or (set cs i c) k blank_said) (part_of_lem n (get_or (set ps i p) k blank_part_lem))
    go (yes e) = rw (e, get_or-set_same cs i c blank_said h, get_or-set_same ps i p blank_part_lem m) new
    go (no e) = rw (get_or-set_other cs i k c blank_said e, get_or-set_other ps i k p blank_part_lem e) (old k)

-- ---- with the prices of their rules

-- a rule's prices change nothing that the lines say
lines_priced : (n : ℕ) (s : PartSaid) (p : model.Part) → part_lines_lem s (priced n s p) ≡ part_lines_lem s p
lines_priced n s p =
    let f = same s.rule in
    λ i. record { life = p.life; left = p.left; cover = cover_there s.covered (record { removal = p.removal; holders = p.holders }); prices = f i }
  where
    same : (o : Option Rule) → prices_told o (quotes_of s.lows (ruled_prices n o p.prices)) ≡ prices_told o (quotes_of s.lows p.prices)
    same (Some r) = refl
    same None = refl

-- the first of them have the prices of their rules
abbrev Done : ℕ → ℕ → List PartSaid → List Part → List Part → Type 0
Done m n ss ps rs = (q : ℕ) → q < m → part_of_lem n (get_or rs q blank_part_lem) ≡ priced n (get_or ss q blank_said) (part_of_lem n (get_or ps q blank_part_lem))

-- parts that differ by the prices of their rules alone say the same lines
pub lines_same : (n m : ℕ) (ss : List PartSaid) (ps rs : List Part) → length rs ≡ length ps → Done m n ss ps rs → parts_lines (take m ss) (map (part_of_lem n) (take m ps)) ≡ parts_lines (take m ss) (map (part_of_lem n) (take m rs))
unfolding parts_lines
lines_same n zero ss ps rs e h = refl
lines_same n (suc m) [] ps rs e h = refl
lines_same n (suc m) (s ∷ ss) [] [] e h = refl
lines_same n (suc m) (s ∷ ss) [] (r ∷ rs) e h = absurd (omega arith)
lines_same n (suc m) (s ∷ ss) (p ∷ ps) [] e h = absurd (omega arith)
lines_same n (suc m) (s ∷ ss) (p ∷ ps) (r ∷ rs) e h =
    ap₂ ◌∷◌ (sym (ap (part_lines_lem s) (h 0 (omega arith)) ∙ lines_priced n s (part_of_lem n p))) (lines_same n m ss ps rs (omega arith) (λ q l. h (suc q) (omega arith)))

-- the lines of the parts mean the parts with the prices of their rules
pub lines_mean : (n m : ℕ) (ss : List PartSaid) (ps rs : List Part) → length rs ≡ length ps → m ≤ length ss → Done m n ss ps rs → Meant n ss ps → map (meant_part n) (parts_lines (take m ss) (map (part_of_lem n) (take m ps))) ≡ map (part_of_lem n) (take m rs)
unfolding parts_lines
lines_mean n zero ss ps rs e l h v = refl
lines_mean n (suc m) [] ps rs e l h v = absurd (omega arith)
lines_mean n (suc m) (s ∷ ss) [] [] e l h v = refl
lines_mean n (suc m) (s ∷ ss) [] (r ∷ rs) e l h v = absurd (omega arith)
lines_mean n (suc m) (s ∷ ss) (p ∷ ps) [] e l h v = absurd (omega arith)
lines_mean n (suc m) (s ∷ ss) (p ∷ ps) (r ∷ rs) e l h v =
    ap₂ ◌∷◌ (v 0 ∙ sym (h 0 (omega arith))) (lines_mean n m ss ps rs (omega arith) (omega arith) (λ q k. h (suc q) (omega arith)) (λ k. v (suc k)))
