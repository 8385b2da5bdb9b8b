-- `put_digits` meets its contract. The invariant: what is written, with the rest's last k digits behind it, are n's digits.
use Prim.Native.Nat.{ℕ, suc, ◌<◌, ◌+◌, ◌*◌, ◌-◌, ◌^◌}
use mathlib.Core.Path.{◌≡◌, refl, sym, ap, ◌∙◌, subst}
use mathlib.Core.List.{◌∷◌, []}
use native.Mathlib.Omega.{arith}
use native.Mathlib.Numerals.{add-one}
use native.Mathlib.Nat.{pow-suc}
use lib.ListN.{length-set}
use lib.Seq.{sets}
use Rattle.line_writing.specs.Padded.{padded}
use Rattle.line_writing.proofs.Powers.{power_positive, padded-length, padded_first}
use Rattle.line_writing.specs.Undivided.{Undivided}
use Rattle.line_writing.specs.contracts.digits.digit_of.Key.{symbol as #digit-of}
use Rattle.line_writing.specs.contracts.digits.power_of_ten.Key.{symbol as #power-of-ten}
use Rattle.line_writing.proofs.output.Out.put_digits.Code as code
use Rattle.line_writing.proofs.output.Out.put_digits.Goals as goal

-- E3. it divides nowhere, and neither does what it calls
undivided : Undivided (#digit-of ∷ #power-of-ten ∷ []) code.function
undivided = record { divides_nowhere = tt; calls = tt }

pub loop-k-init : goal.loop-k-init
loop-k-init c = record { slice = refl; rest = c.requires.1; place = refl; size = refl; written = refl }

pub digit_of-found-requires : goal.digit_of-found-requires
digit_of-found-requires c = let l = c.loop-k in
    let k : l.k ≡ suc (l.k - 1) = omega arith in
    let h : l.rest < 10 ^ (l.k - 1) * 10 = subst (λ (m : ℕ). l.rest < m) (ap (λ (m : ℕ). 10 ^ m) k ∙ pow-suc 10 (l.k - 1)) l.invariant.rest in
    omega (arith, c.power_of_ten.ensures, power_positive (l.k - 1))

pub bounds-self-self : goal.bounds-self-self
bounds-self-self c = let l = c.loop-k in
    omega (arith, l.invariant.place, l.invariant.size, c.requires.2.fits, padded-length c.args.count c.args.n, c.loop-k-test.true)

pub loop-k-preserved : goal.loop-k-preserved
loop-k-preserved c = let l = c.loop-k in
    let m = l.k - 1 in
    let f = c.digit_of-found in
    let k : l.k ≡ suc (l.k - 1) = omega (arith, c.loop-k-test.true) in
    let p = c.power_of_ten.ensures in
    let e : l.rest ≡ f.result.digit * 10 ^ m + f.result.rest = rw p at f.ensures.0 in
    let h : f.result.rest < 10 ^ m = rw p at f.ensures.1 in
    let first : padded l.k l.rest ≡ (48 + f.result.digit) ∷ padded m f.result.rest =
    ap (λ (j : ℕ). padded j l.rest) k ∙ padded_first m l.rest f.result.digit f.result.rest e f.ensures.2 h
    in record {
      slice = l.invariant.slice;
      rest = h;
      place = omega (arith, l.invariant.place, c.loop-k-test.true);
      size = simp length-set l.invariant.size;
      written = rw (add-one l.self.at) (ap (sets l.self.bytes.now l.self.at) (sym first) ∙ l.invariant.written);
    }

pub returns : goal.returns
unfolding padded
returns c = let l = c.loop-k in
    let none : l.k ≡ 0 = omega (arith, c.loop-k-test.false) in
    record {
      slice = l.invariant.slice;
      wrote = record {
        bytes = ap (λ (j : ℕ). sets l.self.bytes.now l.self.at (padded j l.rest)) (sym none) ∙ l.invariant.written;
        next = omega (arith, none, l.invariant.place, padded-length c.args.count c.args.n);
      };
    }
