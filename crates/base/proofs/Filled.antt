-- A loop that writes one place after the other, no place twice: by one place more.
use Prim.Native.Nat.{ℕ, ◌+◌, ◌-◌, ◌<◌, ◌≤◌}
use mathlib.Core.Path.{◌≡◌, refl, sym, ap, subst, ◌∙◌}
use mathlib.Core.List.{List, ◌++◌}
use native.Mathlib.Decide.{dec_lt}
use native.Mathlib.Omega.{arith}
use borrow.Author.Count.{below_more}
use borrow.Rule.Slice.PartMut.{mid_of, put_mid, post_of, same_len_mid}
use lib.ListN.{length, get_or, set, take, drop, replicate, length-replicate, length-set, length-take, length-drop, get_or-append}
use lib.Seq.{get_or-set_same, get_or-set_other, get_or-take, get_or-drop, length-take-le}
use Rattle.std.proofs.lemmas.List.{get_or-append_right, get_or-replicate}
use Rattle.base.specs.Filled.{Filled, FilledBy}

module _ {place : ℕ → ℕ} {Right : ℕ → ℕ → Type 0} {t : List ℕ} where
  -- where nothing is written yet, no place is promised and all keep their numbers
  pub filled_none : Filled place Right 0 t t
  filled_none = record { size = refl; done = λ y l. absurd (omega arith); rest = λ x h. refl }

  -- one more place written with what is right there, and never before, makes n + 1 right places
  pub filled_more : {n : ℕ} {u : List ℕ} (v : ℕ) → place n < length t → ((y : ℕ) → y < n → place y ≡ place n → ⊥) → Right n v → Filled place Right n t u
      → Filled place Right (n + 1) t (set u (place n) v)
  filled_more {n} {u} v room apart r d =
      record {
        size = length-set u (place n) v ∙ d.size;
        done = below_more (λ (y : ℕ). Right y (get_or (set u (place n) v) (place y) 0)) n
            (λ y l. subst (Right y) (sym (get_or-set_other u (place n) (place y) v 0 (apart y l))) (d.done y l))
            (subst (Right n) (sym (get_or-set_same u (place n) v 0 (omega (arith, d.size)))) r);
        rest = λ x h. get_or-set_other u (place n) x v 0 (h n (omega arith)) ∙ d.rest x (λ y l. h y (omega arith));
      }

-- a part written as a whole, from `at` on: its places hold what was written, and every other place keeps its number
module _ (t ys : List ℕ) (at n k : ℕ) (is : k ≡ n) (room : at + n ≤ length t) (long : length ys ≡ n) where
  front : length (take at t) ≡ at
  front = length-take-le at t (omega arith)

  kept : (x : ℕ) → ((y : ℕ) → y < n → x ≡ at + y → ⊥) → get_or (put_mid at k t ys) x 0 ≡ get_or t x 0
  kept x h = go (dec_lt x at)
    where
      go : Dec (x < at) → get_or (put_mid at k t ys) x 0 ≡ get_or t x 0
      go (yes l) = get_or-append (take at t) (ys ++ post_of at k t) 0 x (omega (arith, front)) ∙ get_or-take at t x 0 l
      go (no l) =
          let past : n ≤ x - at = after (dec_lt (x - at) n) in
          let place : at + (k + (x - at - n)) ≡ x = omega (arith, l, past) in
          get_or-append_right (take at t) (ys ++ post_of at k t) at x 0 front (omega (arith, l))
          ∙ get_or-append_right ys (post_of at k t) n (x - at) 0 long past
          ∙ get_or-drop k (drop at t) (x - at - n) 0
          ∙ get_or-drop at t (k + (x - at - n)) 0
          ∙ ap (λ (i : ℕ). get_or t i 0) place
        where
          after : Dec (x - at < n) → n ≤ x - at
          after (yes g) = absurd (h (x - at) g (omega (arith, l)))
          after (no g) = omega (arith, g)

  pub filled_part : FilledBy (λ (y : ℕ). at + y) (λ (y : ℕ). get_or ys y 0) n t (put_mid at k t ys)
  filled_part =
      record {
        size = same_len_mid at k t ys (simp (length-take, length-drop) (omega arith));
        done = λ y h.
            let e : at + y - at ≡ y = omega arith in
            get_or-append_right (take at t) (ys ++ post_of at k t) at (at + y) 0 front (omega arith)
            ∙ ap (λ (i : ℕ). get_or (ys ++ post_of at k t) i 0) e
            ∙ get_or-append ys (post_of at k t) 0 y (omega arith);
        rest = kept;
      }

-- a part written as a whole: its places hold what f says where what was written does
pub filled_by : (t ys : List ℕ) (at n k : ℕ) (f : ℕ → ℕ) → k ≡ n → at + n ≤ length t → length ys ≡ n → ((y : ℕ) → y < n → get_or ys y 0 ≡ f y) → FilledBy (λ (y : ℕ). at + y) f n t (put_mid at k t ys)
filled_by t ys at n k f is room long g =
    let r = filled_part t ys at n k is room long in
    record { size = r.size; done = λ y h. r.done y h ∙ g y h; rest = r.rest }

-- a part filled with one number: its places hold it, and every other place keeps its number
pub filled_with : (t ys : List ℕ) (v at n k : ℕ) → k ≡ n → at + n ≤ length t → ys ≡ replicate (length (mid_of at k t)) v → FilledBy (λ (y : ℕ). at + y) (λ (y : ℕ). v) n t (put_mid at k t ys)
filled_with t ys v at n k is room e =
    let many : length (mid_of at k t) ≡ n = simp (length-take, length-drop) (omega arith) in
    let r = filled_part t ys at n k is room (ap length e ∙ length-replicate (length (mid_of at k t)) v ∙ many) in
    record {
      size = r.size;
      done = λ y h. r.done y h ∙ ap (λ (l : List ℕ). get_or l y 0) e ∙ get_or-replicate (length (mid_of at k t)) y v 0 (omega arith);
      rest = r.rest;
    }
