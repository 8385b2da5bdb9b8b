-- `put_bytes` meets its contract. The invariant: the first i bytes of src are written.
use mathlib.Core.Path.{◌≡◌, refl, ap, ◌∙◌}
use native.Mathlib.Omega.{arith}
use native.Mathlib.Numerals.{add-one}
use native.Mathlib.Nat.{add_assoc}
use Prim.Native.Nat.{ℕ}
use lib.ListN.{length, take, get_or}
use lib.Seq.{take-suc, take-length}
use Rattle.lines.proofs.Writing.{none, one, then, kept, same}
use Rattle.line_writing.proofs.output.Out.put_bytes.Goals as goal

pub loop-i-init : goal.loop-i-init
loop-i-init c = record { slice = refl; place = refl; wrote = same none refl (omega arith) }

pub bounds-self-self : goal.bounds-self-self
bounds-self-self c = let l = c.loop-i in omega (arith, l.invariant.place, kept l.invariant.wrote, c.requires.fits)

pub loop-i-preserved : goal.loop-i-preserved
loop-i-preserved c = let l = c.loop-i in
    let src = c.args.src.now in
    record {
      slice = l.invariant.slice;
      place = l.invariant.place;
      wrote = rw l.invariant.place (same (then l.invariant.wrote (one (get_or src l.i 0))) (rw (add-one, take-suc src l.i 0 (omega arith)) refl) (add_assoc _ l.i 1));
    }

pub returns : goal.returns
returns c = let l = c.loop-i in
    let src = c.args.src.now in
    let end : l.i ≡ length src = omega arith in
    record { slice = l.invariant.slice; wrote = same l.invariant.wrote (ap (λ (n : ℕ). take n src) end ∙ take-length src) (omega (arith, end, l.invariant.place)) }
