-- The bound on a job text's length is exact: a valid text has that many bytes (`reached`), by computation. Its record is valid since its idle steps and openings are counted up.
use Rattle.std.specs.Prelude.{Some}
use Prim.Native.Nat.{ℕ, zero, suc, ◌+◌, ◌≤◌, ◌<◌}
use mathlib.Core.Path.{◌≡◌, refl}
use mathlib.Core.Bool.{Bool, true, false, cond}
use mathlib.Core.List.{List, [], ◌∷◌, map}
use native.Mathlib.Omega.{arith}
use native.Mathlib.Decide.{ℕ_discrete}
use lib.Dec.{eqb}
use borrow.Author.Tests.{eq-eqb, ne_eqb}
use lib.ListN.{length, replicate}
use Rattle.lines.specs.Text.{bytes, decimal_in, line}
use Rattle.model.specs.Model.{Opening}
use Rattle.model.specs.Windows.{Rising, steps_of}
use Rattle.base.specs.Each.{All}
use Rattle.jobs.specs.Valid.{ValidOpening, ValidHolders, ValidPart, HeldFrom}
use Rattle.covers.specs.Rendering.{cover_text}
use Rattle.covers.specs.Views.{meant_cover}
use Rattle.part_lines.specs.Grammar.{PartText, meant_part}
use Rattle.part_lines.specs.Rendering.{part_text}
use Rattle.part_lines.specs.Valid.{Spelt}
use Rattle.quotes.specs.Grammar.{pair}
use Rattle.quotes.specs.Rendering.{quote_text}
use Rattle.quotes.specs.Valid.{ValidQuote}
use Rattle.price_rules.specs.Grammar.{by_list}
use Rattle.price_rules.proofs.Prices.{meant_valid as prices-valid}
use Rattle.job_grammar.specs.Grammar.{JobText}
use Rattle.job_grammar.specs.Rendering.{idles_text, opening_text, body_text, job_text_lem}
use Rattle.job_grammar.specs.Valid.{ValidText}
use Rattle.job_grammar.proofs.Lows.{meant_valid}
use Rattle.job_grammar.proofs.Lengths.{longest}

-- the n steps after step `before`
steps_after : ℕ → ℕ → List ℕ
steps_after before zero = []
steps_after before (suc n) = suc before ∷ steps_after (suc before) n

-- an opening at each of them, with the dearest fee
openings_after : ℕ → ℕ → List Opening
openings_after before zero = []
openings_after before (suc n) = record { step = suc before; fee = 1000000 } ∷ openings_after (suc before) n

-- the n numbers after `before`, but not k
others : ℕ → ℕ → ℕ → List ℕ
others k before zero = []
others k before (suc n) = cond (eqb (suc before) k) (others k (suc before) n) (suc before ∷ others k (suc before) n)

-- part k of sixteen, held by the fifteen others
longest_part : ℕ → PartText
longest_part k = record { life = 1000; left = 1000; cover = Some (record { removal = 1000000; holders = others k 0 16 }); prices = by_list (replicate 64 (pair 1000000 1000000)) }

-- the n parts after part `before`
parts_after : ℕ → ℕ → List PartText
parts_after before zero = []
parts_after before (suc n) = longest_part (suc before) ∷ parts_after (suc before) n

-- every step idle, the last 64 steps openings, sixteen parts
pub longest_text : JobText
longest_text = record { horizon = 365; idles = Some (steps_after 0 365); walk = Some 4000000000; openings = openings_after 301 64; parts = parts_after 0 16 }

-- the bound of a job text's bytes is reached
pub reached : length (job_text_lem longest_text) ≡ longest
unfolding longest_text longest_part parts_after others steps_after openings_after job_text_lem body_text idles_text opening_text part_text cover_text quote_text line bytes decimal_in
reached = refl

-- ---- it is valid

steps_rise : (before n h : ℕ) → before + n ≤ h → Rising before h (steps_after before n)
unfolding steps_after
steps_rise before zero h m = tt
steps_rise before (suc n) h m = (omega arith, omega arith, steps_rise (suc before) n h (omega arith))

openings_rise : (least before n h : ℕ) → least ≤ before → before + n ≤ h → Rising least h (steps_of (openings_after before n))
unfolding openings_after
openings_rise least before zero h l m = tt
openings_rise least before (suc n) h l m = (omega arith, omega arith, openings_rise (suc before) (suc before) n h (omega arith) (omega arith))

openings_valid : (before n : ℕ) → before + n ≤ 365 → All ValidOpening (openings_after before n)
unfolding openings_after
openings_valid before zero m = tt
openings_valid before (suc n) m = (record { step_low = omega arith; step_high = omega arith; fee = omega arith }, openings_valid (suc before) n (omega arith))

all_alike : {A : Type 0} (P : A → Type 0) (n : ℕ) (x : A) → P x → All P (replicate n x)
all_alike P zero x h = tt
all_alike P (suc n) x h = (h, all_alike P n x h)

-- the others rise, are within m, and are not k
others_hold : (m k least before n : ℕ) → least ≤ before → before + n ≤ m → ValidHolders m k least (others k before n)
unfolding others
others_hold m k least before zero l h = tt
others_hold m k least before (suc n) l h =
    go (ℕ_discrete (suc before) k) (others_hold m k least (suc before) n (omega arith) (omega arith)) (others_hold m k (suc before) (suc before) n (omega arith) (omega arith))
  where
    go : Dec (suc before ≡ k) → ValidHolders m k least (others k (suc before) n) → ValidHolders m k (suc before) (others k (suc before) n) → ValidHolders m k least (others k before (suc n))
    go (yes e) without after = rw (eq-eqb (suc before) k e) without
    go (no e) without after = rw (ne_eqb (suc before) k e) (omega arith, omega arith, e, after)

-- there are no more of them than numbers, and one fewer where k is among these
others_most : (k before n : ℕ) → length (others k before n) ≤ n
unfolding others
others_most k before zero = omega arith
others_most k before (suc n) = go (eqb (suc before) k) (others_most k (suc before) n)
  where
    go : (b : Bool) → length (others k (suc before) n) ≤ n → length (cond b (others k (suc before) n) (suc before ∷ others k (suc before) n)) ≤ suc n
    go true h = omega arith
    go false h = omega arith

others_few : (k before n : ℕ) → before < k → k ≤ before + n → length (others k before n) < n
unfolding others
others_few k before zero l h = absurd (omega arith)
others_few k before (suc n) l h = go (ℕ_discrete (suc before) k) (λ e. others_few k (suc before) n (omega (arith, e)) (omega arith))
  where
    go : Dec (suc before ≡ k) → ((suc before ≡ k → ⊥) → length (others k (suc before) n) < n) → length (others k before (suc n)) < suc n
    go (yes e) later = rw (eq-eqb (suc before) k e) (omega (arith, others_most k (suc before) n))
    go (no e) later = rw (ne_eqb (suc before) k e) (omega (arith, later e))

parts_valid : (before n : ℕ) → before + n ≤ 16 → All (ValidPart 64) (map (meant_part 64) (parts_after before n)) × HeldFrom 16 (suc before) (map (meant_part 64) (parts_after before n)) × All (Spelt 64) (parts_after before n)
unfolding parts_after longest_part meant_cover
parts_valid before zero m = (tt, tt, tt)
parts_valid before (suc n) m =
    let r = parts_valid (suc before) n (omega arith) in
    let s : Spelt 64 (longest_part (suc before)) = (refl, all_alike ValidQuote 64 (pair 1000000 1000000) (record { low = (omega arith, omega arith); high = (omega arith, omega arith); ordered = omega arith })) in
    let p : ValidPart 64 (meant_part 64 (longest_part (suc before))) = record {
      life_low = omega arith;
      life_high = omega arith;
      left_high = omega arith;
      removal = omega arith;
      few_holders = omega (arith, others_few (suc before) 0 16 (omega arith) (omega arith));
      priced = refl;
      prices = prices-valid 64 (longest_part (suc before)).prices s;
    } in
    ((p, r.0), (others_hold 16 (suc before) 0 0 16 (omega arith) (omega arith), r.1), (s, r.2))

-- the longest text says what a valid job text may say
pub longest_valid : ValidText longest_text
unfolding longest_text parts_after steps_after openings_after
longest_valid = record {
  means = meant_valid longest_text (record {
    horizon_low = omega arith;
    horizon_high = omega arith;
    few_idles = omega arith;
    idles = steps_rise 0 365 365 (omega arith);
    few_openings = omega arith;
    openings = openings_valid 301 64 (omega arith);
    rising = openings_rise 0 301 64 365 (omega arith) (omega arith);
    some_part = omega arith;
    few_parts = omega arith;
    parts = (parts_valid 0 16 (omega arith)).0;
    holders = (parts_valid 0 16 (omega arith)).1;
  }) (parts_valid 0 16 (omega arith)).2;
  idles = omega arith;
  walk = omega arith;
  lines = (parts_valid 0 16 (omega arith)).2;
}
