-- For every call: an answer that was written whole (`replied`), or refused for want of room (`no_room`), is the one that `lent` says; and what holds with room and without holds of what is lent (`with_room`).
use Prim.Native.Nat.{ℕ, ◌≤◌, ◌<◌}
use mathlib.Core.Path.{◌≡◌, refl, ap, ◌∙◌}
use mathlib.Core.List.{List, []}
use native.Mathlib.Omega.{arith}
use native.Mathlib.Decide.{dec_lt}
use borrow.Author.Tests.{lt-ltb, le-ltb}
use lib.ListN.{length}
use Rattle.lines.specs.Parser.{Outcome, refused}
use Rattle.lines.specs.Wrote.{Wrote}
use Rattle.lines.proofs.Outcomes.{one_fault}
use Rattle.fault_lines.proofs.Breaks.{span_cuts}
use Rattle.lines.proofs.Writing.{written, kept, counted}
use Rattle.answers.specs.Said.{Said, Refuses, plainly, refusal, lent, handed, Replied}
use Rattle.answers.specs.declared.Answer.{Answer}

-- where there is room, what was written and counted is the call's reply
pub replied : (need : ℕ) (s : Said) {d e : List ℕ} {n : ℕ} {r : Answer} → need ≤ length d → length s.bytes ≤ need → Wrote d 0 s.bytes e n → r ≡ handed s n → Replied need s d e r
replied need s {d} {e} {n} {r} room short w h =
    let v = written {d = d} (omega arith) w in
    let m : r.length ≡ n = ap (λ (a : Answer). a.length) h in
    record {
      numbers_are = rw (le-ltb (length d) need room) (h ∙ ap (handed s) v.1);
      output_is = rw (le-ltb (length d) need room) v.0;
      counted = counted r.length e (omega (arith, v.1, kept w));
    }

-- an output that is too short stays as it is
pub no_room : (need : ℕ) (s : Said) (d : List ℕ) {r : Answer} → length d < need → r ≡ handed (plainly 8 []) 0 → Replied need s d d r
no_room need s d {r} h e =
    let m : r.length ≡ 0 = ap (λ (a : Answer). a.length) e in
    record {
      numbers_are = rw (lt-ltb (length d) need h) e;
      output_is = rw (lt-ltb (length d) need h);
      counted = counted r.length d (omega arith);
    }

-- what holds of 8 where the output is too short, and of an answer where there is room, holds of the answer that is lent this room
pub with_room : (P : Said → Type 0) (need room : ℕ) (s : Said) → (room < need → P (plainly 8 [])) → (need ≤ room → P s) → P (lent need room s)
with_room P need room s short f = go (dec_lt room need)
  where
    go : Dec (room < need) → P (lent need room s)
    go (yes h) = rw (lt-ltb room need h) (short h)
    go (no n) = let h : need ≤ room = omega (arith, n) in rw (le-ltb room need h) (f h)

-- the answer to a text's fault is the one to any fault that the text reads as
pub refuses : {A : Type 0} {x : Outcome A} (which : ℕ) (text : List ℕ) {n l i j : ℕ} → x ≡ refused n l → x ≡ refused i j → Refuses which text i j (refusal which text n l)
refuses which text {n} {l} e f =
    let same = one_fault e f in
    rw (← same.0, ← same.1) (record { result = refl; text_number = refl; line_number = refl; span = refl; cuts = span_cuts text l; bytes = refl })
