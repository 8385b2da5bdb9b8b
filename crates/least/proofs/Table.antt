-- The marks after an opening, and the choice over the openings from k on, from that over the openings from k + 1 on: by unfolding one opening.
use Prim.Native.Nat.{ℕ, suc, ◌+◌, ◌<◌, ◌≤◌}
use mathlib.Core.Path.{◌≡◌, refl, sym, ap, ◌∙◌}
use mathlib.Core.Bool.{Bool, true, false, cond}
use mathlib.Core.List.{List, [], ◌∷◌, ◌++◌, append-nil}
use native.Mathlib.Omega.{arith}
use native.Mathlib.Numerals.{add-one}
use lib.ListN.{length, get_or, take, drop, set, length-set, drop_of_length-le}
use lib.Seq.{append_snoc, take-suc-set, take_all}
use lib.IntN.{ℤ, pos}
use Rattle.model.specs.LowerBound.{Offer, lower_than, change_at_lem, least_of_lem, choice_of}
use Rattle.model.specs.LastYes.{mark_in}

-- the mark after opening k: its own where the part is changed
pub mark_next : (first : ℤ) (ss : List ℤ) (b : Bool) (k i m : ℕ) → m ≡ cond b (k + 1) i → mark_in first ss m ≡ cond b (get_or ss k (pos 0)) (mark_in first ss i)
mark_next first ss true k i m e = ap (mark_in first ss) (e ∙ add-one k)
mark_next first ss false k i m e = ap (mark_in first ss) e

-- after opening k the last change's mark is at most k + 1
pub mark_below : (b : Bool) (k i m : ℕ) → i ≤ k → m ≡ cond b (k + 1) i → m ≤ k + 1
mark_below true k i m h e = omega arith
mark_below false k i m h e = omega arith

-- ---- the choice, opening by opening

-- a change at o is strictly lower than none, where os are the openings after it
abbrev pub changes_at : ℤ → ℤ → ℤ → Offer → List Offer → Bool
changes_at life end prev o os = lower_than (least_of_lem life end prev os) (change_at_lem life prev o (least_of_lem life end o.position os))

choice_cond : (life end prev : ℤ) (o : Offer) (os : List Offer) (t : Bool)
    → cond t (true ∷ choice_of life end o.position os) (false ∷ choice_of life end prev os) ≡ t ∷ choice_of life end (cond t o.position prev) os
choice_cond life end prev o os true = refl
choice_cond life end prev o os false = refl

-- the choice over an offer and those behind it: change there or not, then their choice after it
pub choice_cons : (life end prev : ℤ) (l : List Offer) (o : Offer) (os : List Offer) → l ≡ o ∷ os
    → choice_of life end prev l ≡ changes_at life end prev o os ∷ choice_of life end (cond (changes_at life end prev o os) o.position prev) os
unfolding choice_of
choice_cons life end prev l o os e = ap (choice_of life end prev) e ∙ choice_cond life end prev o os (changes_at life end prev o os)

-- the choice so far is the front of out, which has m places, and what follows is the choice from k on, after prev
pub record Chosen (m : ℕ) (life end first : ℤ) (os : List Offer) (prev : ℤ) (out : List Bool) (k : ℕ) : Type 0 where
  -- there is a place for each opening
  pub size : length out ≡ m
  -- the whole choice is the first k entries and then the choice from opening k on
  pub front : choice_of life end first os ≡ take k out ++ choice_of life end prev (drop k os)

-- before any opening is looked at nothing is chosen
pub chosen_none : (m : ℕ) (life end first : ℤ) (os : List Offer) (out : List Bool) → length out ≡ m → Chosen m life end first os first out 0
chosen_none m life end first os out e = record { size = e; front = refl }

-- with the decision at opening k stored, the choice is that of one opening more
pub chosen_more : (m : ℕ) (life end first : ℤ) (os : List Offer) (prev : ℤ) (out : List Bool) (k : ℕ) (o : Offer) → k < m
    → drop k os ≡ o ∷ drop (suc k) os → Chosen m life end first os prev out k
    → let b = changes_at life end prev o (drop (suc k) os) in Chosen m life end first os (cond b o.position prev) (set out k b) (k + 1)
chosen_more m life end first os prev out k o h e c =
    let b = changes_at life end prev o (drop (suc k) os) in
    let next = choice_of life end (cond b o.position prev) (drop (suc k) os) in
    record {
      size = length-set out k b ∙ c.size;
      front =
          c.front
          ∙ ap (λ (l : List Bool). take k out ++ l) (choice_cons life end prev (drop k os) o (drop (suc k) os) e)
          ∙ sym (append_snoc (take k out) b next)
          ∙ ap (λ (l : List Bool). l ++ next) (sym (take-suc-set out k b (omega (arith, h, c.size))))
          ∙ ap (λ (n : ℕ). take n (set out k b) ++ choice_of life end (cond b o.position prev) (drop n os)) (sym (add-one k));
    }

-- by the decision and the position that the code holds
pub chosen_next : (m : ℕ) (life end first : ℤ) (os : List Offer) (prev : ℤ) (out : List Bool) (k : ℕ) (o : Offer) (b : Bool) (q : ℤ) → k < m
    → drop k os ≡ o ∷ drop (suc k) os → b ≡ changes_at life end prev o (drop (suc k) os) → q ≡ cond b o.position prev
    → Chosen m life end first os prev out k → Chosen m life end first os q (set out k b) (k + 1)
chosen_next m life end first os prev out k o b q h e eb eq c = rw (eq, eb) (chosen_more m life end first os prev out k o h e c)

-- after all openings it is the choice
pub chosen_all : (m : ℕ) (life end first : ℤ) (os : List Offer) (prev : ℤ) (out : List Bool) (k : ℕ) → length os ≡ m → m ≤ k → Chosen m life end first os prev out k → out ≡ choice_of life end first os
unfolding choice_of
chosen_all m life end first os prev out k e q c =
    let n : drop k os ≡ [] = drop_of_length-le os {i = k} (omega arith) in
    let f : choice_of life end first os ≡ take k out = c.front ∙ ap (λ (l : List Offer). take k out ++ choice_of life end prev l) n ∙ append-nil (take k out) in
    sym (f ∙ take_all k out (omega (arith, q, c.size)))
