-- What a call wrote into an output that had the room it needs, and was printed of it, is the call's answer: `prints`. A copy has the bytes of what was copied: `copied`.
use Prim.Native.Nat.{ℕ, ◌≤◌}
use mathlib.Core.Path.{◌≡◌, sym, ap, ◌∙◌}
use mathlib.Core.List.{List, ◌++◌}
use borrow.Author.Tests.{le-ltb}
use lib.ListN.{length, take, drop}
use lib.Seq.{take-append_seam, length-take-le}
use Rattle.answers.specs.Said.{Said, numbers, output, lent, Replied}
use Rattle.answers.specs.declared.Answer.{Answer}
use Rattle.answer_output.specs.declared.Printout.{Printout}
use Rattle.answer_output.specs.Prints.{printed, Prints}

-- the first n bytes of an output, copied to the start of what is printed
pub copied : (n : ℕ) (out ys rest : List ℕ) → n ≤ length out → ys ≡ take n out → take n out ≡ take n (ys ++ rest)
copied n out ys rest l same =
    let z : length ys ≡ n = ap length same ∙ length-take-le n out l in
    sym (ap (λ (k : ℕ). take k (ys ++ rest)) (sym z) ∙ take-append_seam ys rest ∙ same)

-- the answer is the call's own, since there was room
whole : (need : ℕ) (s : Said) (d : List ℕ) → need ≤ length d → lent need (length d) s ≡ s
whole need s d room = rw (le-ltb (length d) need room)

-- where there was room, what a program prints is the call's own text
pub prints : {need : ℕ} {s : Said} {d e : List ℕ} {r : Answer} {p : Printout} → need ≤ length d → Replied need s d e r → (p.answer ≡ r) × (printed p ≡ take r.length e) → Prints s p
prints {need} {s} {d} {e} {r} {p} room w h =
    let o = whole need s d room in
    let n : r ≡ numbers s = w.numbers_are ∙ ap numbers o in
    let b : e ≡ output s d = w.output_is ∙ ap (λ (x : Said). output x d) o in
    record {
      numbers_are = h.0 ∙ n;
      bytes_are = h.1 ∙ (λ i. take (n i).length (b i)) ∙ take-append_seam s.bytes (drop (length s.bytes) d);
    }
