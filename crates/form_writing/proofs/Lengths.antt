-- The text has at most 45,257 bytes, whatever the lists (`cut_short`): 365 idle steps, 64 openings and sixteen parts with fifteen holders and 64 pairs each, every number with ten digits. By the lengths of the lines.
use Rattle.std.specs.Prelude.{Option, None, Some}
use Prim.Native.Nat.{ℕ, suc, ◌+◌, ◌≤◌}
use Prim.Native.String.{String}
use mathlib.Core.Path.{◌≡◌, refl, sym, ap, ap₂, ◌∙◌}
use mathlib.Core.Bool.{Bool, true, false, ◌&&◌, and-eq-true_iff, false≢true}
use mathlib.Core.List.{List, [], ◌∷◌}
use native.Mathlib.Omega.{arith}
use native.Mathlib.Nat.{min-le_left}
use borrow.Author.Tests.{leb-true, le-leb, eqb-true}
use lib.Dec.{leb}
use lib.ListN.{length, drop, length-append, length-take}
use Rattle.lines.specs.Text.{bytes, line_of, texts, optional_text}
use Rattle.model.specs.Model.{Opening}
use Rattle.base.specs.Each.{All}
use Rattle.covers.specs.Grammar.{Cover}
use Rattle.quotes.specs.Grammar.{Quote}
use Rattle.price_rules.specs.Rule.{Rule}
use Rattle.part_lines.specs.Grammar.{PartText}
use Rattle.job_grammar.specs.Rendering.{opening_text}
use Rattle.job_grammar.specs.Optionals.{idle_lines}
use Rattle.form_facts.specs.Facts.{PartLists, paired, covers_of, rules_of, quotes_in, counted_for, prices_from, grouped, parts_of, fees_agree, parts_agree_lem}
use Rattle.form_facts.proofs.Facts.{paired_size, parts_size, agree_says}
use Rattle.part_lines.proofs.Lengths.{texts_short}
use Rattle.part_writing.specs.Cut.{part_cut_lem}
use Rattle.part_writing.proofs.Lengths.{short, all_any, lines_short, FewListed, part_short}
use Rattle.form_writing.specs.Cut.{counted_cut, idles_cut, parts_cut, body_cut, rest_cut, form_cut, longest_cut}
use Rattle.form_writing.proofs.Pieces.{counted_in, counted_out}

-- a count and what it counts
counted_short : (key : String) (k : ℕ) → length (bytes key) ≡ k → (most : ℕ) (agree : Bool) (n : ℕ) (t : List ℕ) (m : ℕ) → (n ≤ most → agree ≡ true → length t ≤ m) → length (counted_cut key most agree n t) ≤ k + 11 + m
counted_short key k e most agree n t m few = go (leb n most && agree) refl
  where
    go : (b : Bool) → (leb n most && agree) ≡ b → length (counted_cut key most agree n t) ≤ k + 11 + m
    go true h =
        let w = (and-eq-true_iff (leb n most) agree).0 h in
        let low : n ≤ most = leb-true n most w.0 in
        omega (arith, ap length (counted_in key most agree n t low w.1), length-append (line_of key n) t, short key k n e, few low w.1)
    go false h = omega (arith, ap length (counted_out key most agree n t (λ low a. false≢true (sym h ∙ ap₂ ◌&&◌ (le-leb n most low) a))), short key k (suc most) e)

-- a part lists no more prices than there are openings
listed_few : (n : ℕ) → n ≤ 64 → (u : Option Rule) (ps : List Quote) → FewListed 64 (prices_from n u ps)
listed_few n few None ps = omega (arith, few, length-take n ps, min-le_left n (length ps))
listed_few n few (Some r) ps = tt

priced : (n : ℕ) → n ≤ 64 → (ls rs : List ℕ) (cs : List (Option Cover)) (us : List (Option Rule)) (ps : List Quote) → All (λ (p : PartText). FewListed 64 p.prices) (grouped n ls rs cs us ps)
unfolding grouped
priced n few [] rs cs us ps = tt
priced n few (l ∷ ls) [] cs us ps = tt
priced n few (l ∷ ls) (r ∷ rs) [] us ps = tt
priced n few (l ∷ ls) (r ∷ rs) (c ∷ cs) [] ps = tt
priced n few (l ∷ ls) (r ∷ rs) (c ∷ cs) (u ∷ us) ps = (listed_few n few u ps, priced n few ls rs cs us (drop (counted_for n u) ps))

parts_short : (n : ℕ) (x : PartLists) → n ≤ 64 → length (parts_cut n x) ≤ 37185
unfolding parts_cut bytes
parts_short n x few = counted_short "parts=" 6 refl 16 (parts_agree_lem n x) (length x.lives) (texts part_cut_lem (parts_of n x)) 37168 (λ low a. omega (
  arith,
  low,
  parts_size n x (agree_says n x a),
  texts_short _ part_cut_lem 2323 part_short (parts_of n x) (priced n few x.lives x.lefts (covers_of x.covered x.removals x.insides x.holders) (rules_of x.ruled x.bases x.drops x.leasts) (quotes_in x)),
))

opening_short : (o : Opening) → length (opening_text o) ≤ 34
unfolding opening_text bytes
opening_short o = omega (arith, length-append (line_of "opening=" o.step) (line_of "fee=" o.fee), short "opening=" 8 o.step refl, short "fee=" 4 o.fee refl)

rest_short : (os fs : List ℕ) (x : PartLists) → length (rest_cut os fs x) ≤ 39381
unfolding rest_cut body_cut bytes
rest_short os fs x =
    counted_short "openings=" 9 refl 64 (fees_agree os fs) (length os) (body_cut os fs x) 39361 (λ low a. omega (
      arith,
      low,
      length-append (texts opening_text (paired os fs)) (parts_cut (length os) x),
      paired_size os fs (eqb-true (length fs) (length os) a),
      texts_short (λ _. Unit {0}) opening_text 34 (λ o _. opening_short o) (paired os fs) (all_any (paired os fs)),
      parts_short (length os) x low,
    ))

idles_short : (is : List ℕ) → length (optional_text idles_cut (idle_lines is)) ≤ 5857
unfolding idle_lines idles_cut bytes
idles_short [] = omega arith
idles_short (i ∷ is) = counted_short "idles=" 6 refl 365 true (length (i ∷ is)) (texts (line_of "idle=") (i ∷ is)) 5840 (λ low a. omega (arith, low, lines_short "idle=" 5 refl (i ∷ is)))

-- a form's text has at most as many bytes as the longest cut one
pub cut_short : (h : ℕ) (is os fs : List ℕ) (x : PartLists) → length (form_cut h is os fs x) ≤ longest_cut
unfolding form_cut bytes
cut_short h is os fs x = simp length-append (omega (arith, short "horizon=" 8 h refl, idles_short is, rest_short os fs x))
