-- A part of an accepted text and what is left of it: its prices at the openings left are what its arrays hold (`prices_are`), its lines what is put of it (`lines_are`, `few_holders`); and the parts one after the other (`left_size`, `left_at`). By the text's means and the parts' cases.
use Rattle.std.specs.Prelude.{Option, IfSome}
use Prim.Native.Nat.{ℕ, zero, suc, ◌-◌, ◌≤◌, ◌<◌}
use mathlib.Core.Path.{◌≡◌, refl, sym, ap, ap₂, subst, ◌∙◌}
use mathlib.Core.Bool.{Bool, true, false}
use mathlib.Core.List.{List, [], ◌∷◌, map}
use native.Mathlib.Omega.{arith}
use lib.ListN.{length, get_or, take, drop, length-map, length-take, length-drop}
use lib.Seq.{length-take-le, get_or-take}
use Rattle.lines.specs.Text.{texts}
use Rattle.base.specs.Chosen.{numbers_of_lem}
use Rattle.model.specs.Model as model
use Rattle.model.specs.Verdict.{no_part}
use Rattle.jobs.specs.Views.{part_of_lem, job_of}
use Rattle.jobs.specs.declared.Part.{Part}
use Rattle.jobs.proofs.Jobs.{part_at, opening_count_lem2, part_count, part_at_lem, parts_long, valid_part}
use Rattle.covers.specs.Grammar.{Cover}
use Rattle.covers.specs.Views.{cover_there}
use Rattle.quotes.specs.Grammar.{Quote}
use Rattle.price_rules.specs.Grammar.{by_list}
use Rattle.part_lines.specs.Grammar.{PartText, meant_part}
use Rattle.part_lines.specs.Views.{blank_said, part_lines_lem, parts_lines}
use Rattle.part_lines.specs.declared.said.PartSaid.{PartSaid}
use Rattle.job_text.specs.Views.{text_in}
use Rattle.job_text.specs.declared.accepted.AcceptedText.{AcceptedText}
use Rattle.job_grammar.specs.Grammar.{Given}
use Rattle.low_ends.proofs.Parts.{each_means}
use Rattle.form_facts.specs.Facts.{quotes_from, Marked}
use Rattle.carry_texts.specs.Carried.{quoted}
use Rattle.carried_writing.specs.Lists.{pair_mark, low_in, lows_said}
use Rattle.carried_writing.specs.Left.{part_left, parts_left}
use Rattle.carried_writing.proofs.Quoted.{paired_is, paired_marked, quotes_left}
use Rattle.base.proofs.Bools.{after_one}

-- ---- what is said of all parts

told_few : (ss : List PartSaid) (ps : List model.Part) → length (parts_lines ss ps) ≤ length ss
unfolding parts_lines
told_few [] ps = omega arith
told_few (s ∷ ss) [] = omega arith
told_few (s ∷ ss) (p ∷ ps) = omega (arith, told_few ss ps)

module _ (t : AcceptedText) where
  abbrev m : ℕ
  m = t.job.job.part_count

  abbrev told : List PartText
  told = (text_in t).parts

  -- the parts are what their lines mean
  all_mean : map (meant_part t.job.job.opening_count) told ≡ (job_of t.job.job).parts
  all_mean =
      let j = t.job.job in
      subst (λ (k : ℕ). map (meant_part k) told ≡ (job_of j).parts) (opening_count_lem2 j) (ap (λ (g : Given). g.job.parts) t.means)

  -- there are as many as the job counts
  pub told_count : length told ≡ m
  told_count = sym (length-map told (meant_part t.job.job.opening_count)) ∙ ap length all_mean ∙ part_count t.job.job

  said_size : length (take m t.said) ≡ m
  said_size = omega (arith, told_few (take m t.said) (job_of t.job.job).parts, told_count, length-take m t.said)

  said_long : m ≤ length t.said
  said_long = omega (arith, said_size, length-take m t.said)

-- ---- one part

module _ (t : AcceptedText) (i : ℕ) (inside : i < t.job.job.part_count) where
  abbrev pub n : ℕ
  n = t.job.job.opening_count

  abbrev pub said : PartSaid
  said = get_or t.said i blank_said

  abbrev pub part : Part
  part = part_at t.job.job i

  abbrev pub lines : PartText
  lines = part_lines_lem said (part_of_lem n part)

  -- it is what its lines mean
  means : meant_part n lines ≡ part_of_lem n part
  means = let j = t.job.job in each_means n j.part_count i t.said j.parts inside (said_long t) (parts_long j) (all_mean t)

  -- the array has a price for each opening
  prices_long : n ≤ length part.prices
  prices_long = omega (arith, (valid_part t.job.job t.job.valid i inside).priced, length-take n part.prices)

  pub few_holders : length (numbers_of_lem part.holders) ≤ 15
  few_holders = (valid_part t.job.job t.job.valid i inside).few_holders

  module _ (k : ℕ) (past : k ≤ n) (sized : length (lows_said said) ≡ 64) where
    abbrev lows : List (Option ℕ)
    lows = take (n - k) (drop k (lows_said said))

    abbrev highs : List ℕ
    highs = take (n - k) (drop k part.prices)

    same_size : length highs ≡ length lows
    same_size =
        length-take-le (n - k) (drop k part.prices) (omega (arith, length-drop k part.prices, prices_long))
        ∙ sym (length-take-le (n - k) (drop k (lows_said said)) (omega (arith, length-drop k (lows_said said), sized, t.job.job.few_openings)))

    -- its prices at the openings that are left
    pub prices_are : (marks ends : List ℕ) → marks ≡ map pair_mark lows → ends ≡ texts low_in lows → quotes_from marks ends highs ≡ drop k (quoted n lines.prices)
    prices_are marks ends e f =
        ap₂ (λ (zs ws : List ℕ). quotes_from zs ws highs) e f ∙ paired_is lows highs same_size ∙ quotes_left n k said.rule said.lows part.prices past prices_long (ap (λ (q : model.Part). q.prices) means)

    pub prices_marked : (marks ends : List ℕ) → marks ≡ map pair_mark lows → ends ≡ texts low_in lows → Marked marks ends highs
    prices_marked marks ends e f = rw (e, f) (paired_marked lows highs same_size)

    -- its lines, with this left
    pub lines_are : (left : ℕ) (cover : Option Cover) (quotes : List Quote) → cover ≡ cover_there said.covered (record { removal = part.removal; holders = numbers_of_lem part.holders }) → quotes ≡ drop k (quoted n lines.prices)
        → ◌≡◌ {A = PartText} (record { life = part.life; left = left; cover = cover; prices = by_list quotes }) (part_left n k left lines)
    lines_are left cover quotes e f = λ x. record { life = part.life; left = left; cover = e x; prices = by_list (f x) }

-- lines of removal that stand or not have few holders where they would
pub there_few : (b : Bool) (c : Cover) (m : ℕ) → length c.holders ≤ m → IfSome (cover_there b c) (λ d. length d.holders ≤ m)
unfolding cover_there
there_few true c m h = h
there_few false c m h = tt

-- ---- all parts

parts_size : (n k : ℕ) (rs : List ℕ) (ps : List PartText) → length (parts_left n k rs ps) ≡ length ps
unfolding parts_left
parts_size n k rs [] = refl
parts_size n k rs (p ∷ ps) = ap suc (parts_size n k (drop 1 rs) ps)

parts_at : (n k : ℕ) (rs : List ℕ) (ps : List PartText) (i : ℕ) (d : PartText) → i < length ps → get_or (parts_left n k rs ps) i d ≡ part_left n k (get_or rs i 0) (get_or ps i d)
unfolding parts_left
parts_at n k rs [] i d h = absurd (omega arith)
parts_at n k rs (p ∷ ps) zero d h = refl
parts_at n k rs (p ∷ ps) (suc i) d h = parts_at n k (drop 1 rs) ps i d (omega arith) ∙ ap (λ (r : ℕ). part_left n k r (get_or ps i d)) (after_one rs i 0)

told_at : (ss : List PartSaid) (ps : List model.Part) (i : ℕ) (d : PartText) → i < length ss → i < length ps → get_or (parts_lines ss ps) i d ≡ part_lines_lem (get_or ss i blank_said) (get_or ps i no_part)
unfolding parts_lines
told_at [] ps i d h g = absurd (omega arith)
told_at (s ∷ ss) [] i d h g = absurd (omega arith)
told_at (s ∷ ss) (p ∷ ps) zero d h g = refl
told_at (s ∷ ss) (p ∷ ps) (suc i) d h g = told_at ss ps i d (omega arith) (omega arith)

module _ (t : AcceptedText) where
  module _ (k : ℕ) (rs : List ℕ) where
    abbrev all : List PartText
    all = parts_left (length (text_in t).openings) k rs (told t)

    -- there are as many parts as the job counts
    pub left_size : length all ≡ m t
    left_size = parts_size (length (text_in t).openings) k rs (told t) ∙ told_count t

    -- and the one at a place is that part, with its left
    pub left_at : (i : ℕ) (d : PartText) (h : i < m t) → get_or all i d ≡ part_left t.job.job.opening_count k (get_or rs i 0) (lines t i h)
    left_at i d h =
        parts_at (length (text_in t).openings) k rs (told t) i d (omega (arith, told_count t, h))
        ∙ ap₂ (λ (n : ℕ) (p : PartText). part_left n k (get_or rs i 0) p) (opening_count_lem2 t.job.job)
        (told_at (take (m t) t.said) (job_of t.job.job).parts i d (omega (arith, said_size t, h)) (omega (arith, part_count t.job.job, h))
        ∙ ap₂ (λ (s : PartSaid) (p : model.Part). part_lines_lem s p) (get_or-take (m t) t.said i blank_said h) (part_at_lem t.job.job i h))
