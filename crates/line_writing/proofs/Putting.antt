-- Laws of what is put: one behind another is one (`then`), and the room for both is room for each (`room_front`, `room_behind`). By the laws of what is written.
use Prim.Native.Nat.{ℕ, ◌+◌, ◌≤◌, ◌<◌}
use mathlib.Core.Path.{◌≡◌, refl, sym, ap, ◌∙◌}
use mathlib.Core.List.{List, [], ◌++◌, append_assoc}
use native.Mathlib.Omega.{arith}
use lib.ListN.{length, length-append, get_or, take}
use lib.Seq.{sets, sets-eq, drop-drop, take-length}
use borrow.Rule.Slice.PartMut.{put_mid}
use Rattle.lines.specs.Text.{texts}
use Rattle.base.specs.Joined.{joined}
use Rattle.lines.proofs.Writing as writing
use Rattle.base.proofs.Joined.{joined_room, joined_more}
use Rattle.lines.proofs.Texts.{texts_room, texts_more}
use Rattle.lines.specs.Wrote.{Wrote}
use Rattle.line_writing.specs.Puts.{Puts, Room}
use Rattle.line_writing.specs.declared.output.Out.{Out}

-- nothing is put
pub none : {o : Out} → Puts o [] o
none = record { slice = refl; wrote = writing.none }

-- one thing behind another
pub then : {o : Out} {xs : List ℕ} {p : Out} {ys : List ℕ} {q : Out} → Puts o xs p → Puts p ys q → Puts o (xs ++ ys) q
then v w = record { slice = w.slice ∙ v.slice; wrote = writing.then v.wrote w.wrote }

-- the same bytes, said otherwise
pub same : {o : Out} {xs ys : List ℕ} {p : Out} → Puts o xs p → xs ≡ ys → Puts o ys p
same v e = record { slice = v.slice; wrote = writing.same v.wrote e refl }

-- the slice keeps its length
pub kept : {o : Out} {xs : List ℕ} {p : Out} → Puts o xs p → length p.bytes.now ≡ length o.bytes.now
kept v = writing.kept v.wrote

-- room for the same bytes, said otherwise
pub room_same : {o : Out} {xs ys : List ℕ} → Room o xs → xs ≡ ys → Room o ys
room_same {o} h e = record { fits = omega (arith, h.fits, ap length e) }

-- room for two things is room for the first
pub room_front : {o : Out} {xs : List ℕ} (ys : List ℕ) → Room o (xs ++ ys) → Room o xs
room_front {o} {xs} ys h = record { fits = omega (arith, h.fits, length-append xs ys) }

-- and, behind it, for the second
pub room_behind : {o : Out} {xs ys : List ℕ} {p : Out} → Room o (xs ++ ys) → Puts o xs p → Room p ys
room_behind {o} {xs} {ys} {p} h v = record { fits = omega (arith, h.fits, length-append xs ys, v.wrote.next, kept v) }

-- a part of a list that was written over is as a store byte by byte leaves it
pub stored : (d : List ℕ) (at k : ℕ) (xs ys : List ℕ) → k ≡ length xs → at + length xs ≤ length d → ys ≡ xs → put_mid at k d ys ≡ sets d at xs
stored d at k xs ys e h y = rw (e, y, sets-eq xs d at h, drop-drop, append_assoc)

-- what was put is in the slice that was lent, once that is given back
pub given_back : {o : Out} {xs : List ℕ} {p : Out} {e : List ℕ} → Puts o xs p → e ≡ p.bytes.now → Wrote o.bytes.now o.at xs e p.at
given_back v back = record { bytes = back ∙ v.wrote.bytes; next = v.wrote.next }

-- ---- a loop that puts one piece after another

module _ {o p : Out} (f : ℕ → List ℕ) (i : ℕ) where
  -- the room for all pieces is room for the next one
  pub room_turn : (n : ℕ) → Room o (joined f n) → Puts o (joined f i) p → i < n → Room p (f i)
  room_turn n h v t = record { fits = omega (arith, h.fits, v.wrote.next, kept v, joined_room f i n t) }

  -- one piece more is put
  pub turn : {q : Out} → Puts o (joined f i) p → Puts p (f i) q → Puts o (joined f (i + 1)) q
  turn v w = same (then v w) (sym (joined_more f i))

-- the same of the texts of a list
module _ {A : Type 0} {o p : Out} (w : A → List ℕ) (xs : List A) (i : ℕ) (d : A) where
  pub room_next : Room o (texts w xs) → Puts o (texts w (take i xs)) p → i < length xs → Room p (w (get_or xs i d))
  room_next h v t =
      let fits = texts_room w xs i (length xs) d t (omega arith) in
      record { fits = omega (arith, h.fits, v.wrote.next, kept v, fits, ap (λ (ys : List A). length (texts w ys)) (take-length xs)) }

  pub next : {q : Out} → i < length xs → Puts o (texts w (take i xs)) p → Puts p (w (get_or xs i d)) q → Puts o (texts w (take (i + 1) xs)) q
  next t v u = same (then v u) (sym (texts_more w xs i d t))
