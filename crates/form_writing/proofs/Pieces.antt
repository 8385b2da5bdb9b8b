-- The text's pieces by their tests: a count in its range and what it counts (`counted_in`), or one out of it alone (`counted_out`); idle steps; and a count put with what it counts (`counted_good`), or alone (`counted_bad`). By the value of the test.
use Prim.Native.Nat.{ℕ, suc, ◌≤◌}
use Prim.Native.String.{String}
use mathlib.Core.Path.{◌≡◌, refl, sym, ap}
use mathlib.Core.Bool.{Bool, true, false, cond, ◌&&◌, and-eq-true_iff}
use mathlib.Core.List.{List, [], ◌∷◌, ◌++◌, append-nil}
use native.Mathlib.Omega.{arith}
use borrow.Author.Tests.{leb-true, le-leb}
use lib.Dec.{leb}
use lib.ListN.{length}
use Rattle.lines.specs.Text.{line_of, texts, optional_text}
use Rattle.line_writing.specs.Puts.{Puts, Room}
use Rattle.line_writing.specs.declared.output.Out.{Out}
use Rattle.line_writing.proofs.Putting.{none, then, same, room_same, room_front, room_behind}
use Rattle.job_grammar.specs.Optionals.{idle_lines}
use Rattle.job_grammar.specs.Rendering.{idles_text}
use Rattle.form_writing.specs.Cut.{counted_cut, idles_cut}

module _ (key : String) (most : ℕ) (agree : Bool) (n : ℕ) (t : List ℕ) where
  pub counted_in : n ≤ most → agree ≡ true → counted_cut key most agree n t ≡ line_of key n ++ t
  unfolding counted_cut
  counted_in h e = rw (le-leb n most h, e)

  pub counted_out : (n ≤ most → agree ≡ true → ⊥) → counted_cut key most agree n t ≡ line_of key (suc most)
  unfolding counted_cut
  counted_out no_good = go (leb n most && agree) refl
    where
      go : (b : Bool) → (leb n most && agree) ≡ b → counted_cut key most agree n t ≡ line_of key (suc most)
      go true e = let w = (and-eq-true_iff (leb n most) agree).0 e in absurd (no_good (leb-true n most w.0) w.1)
      go false e = rw e (append-nil (line_of key (suc most)))

  -- both, by whether the count is good
  pub counted_by : (good : Bool) → good ≡ (leb n most && agree) → counted_cut key most agree n t ≡ line_of key (cond good n (suc most)) ++ cond good t []
  unfolding counted_cut
  counted_by good e = rw e refl

-- ---- idle steps

-- where there are no idle steps, nothing is written for them
pub idles_none : (is : List ℕ) → length is ≡ 0 → optional_text idles_cut (idle_lines is) ≡ []
unfolding idle_lines
idles_none [] h = refl
idles_none (i ∷ is) h = absurd (omega arith)

-- where there are some, they are written with their number
pub idles_there : (is : List ℕ) → 1 ≤ length is → optional_text idles_cut (idle_lines is) ≡ idles_cut is
unfolding idle_lines
idles_there [] h = absurd (omega arith)
idles_there (i ∷ is) h = refl

-- where there are not too many, nothing of their text is cut
pub idles_whole : (is : List ℕ) → length is ≤ 365 → optional_text idles_cut (idle_lines is) ≡ optional_text idles_text (idle_lines is)
unfolding idle_lines idles_cut idles_text
idles_whole [] h = refl
idles_whole (i ∷ is) h = counted_in "idles=" 365 true (length (i ∷ is)) (texts (line_of "idle=") (i ∷ is)) h refl

-- ---- a count and what it counts, put one behind the other

module _ (key : String) (most : ℕ) (agree : Bool) (n : ℕ) (t : List ℕ) (good : Bool) (e : good ≡ (leb n most && agree)) where
  whole : counted_cut key most agree n t ≡ line_of key (cond good n (suc most)) ++ cond good t []
  whole = counted_by key most agree n t good e

  module _ {o : Out} (room : Room o (counted_cut key most agree n t)) where
    -- there is room for the count's line
    pub counted_room : Room o (line_of key (cond good n (suc most)))
    counted_room = room_front _ (room_same room whole)

    -- and, behind a good count, for what it counts
    pub counted_rest : {p : Out} → good ≡ true → Puts o (line_of key (cond good n (suc most))) p → Room p t
    counted_rest g v = room_same (room_behind (room_same room whole) v) (ap (λ (b : Bool). cond b t []) g)

  -- a good count with what it counts is put
  pub counted_good : {o p q : Out} → good ≡ true → Puts o (line_of key (cond good n (suc most))) p → Puts p t q → Puts o (counted_cut key most agree n t) q
  counted_good g v w = same (then v (same w (sym (ap (λ (b : Bool). cond b t []) g)))) (sym whole)

  -- a count that is not good is put alone
  pub counted_bad : {o p : Out} → good ≡ false → Puts o (line_of key (cond good n (suc most))) p → Puts o (counted_cut key most agree n t) p
  counted_bad g v = same (then v (same none (sym (ap (λ (b : Bool). cond b t []) g)))) (sym whole)
