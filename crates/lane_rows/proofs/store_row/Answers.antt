-- `store_row` writes a row.
use Prim.Native.Nat.{ℕ, ◌+◌, ◌*◌}
use mathlib.Core.Path.{◌≡◌, refl, ap, ◌∙◌}
use mathlib.Core.List.{List}
use native.Mathlib.Omega.{arith}
use lib.ListN.{length, get_or, take, length-take}
use lib.Seq.{get_or-take}
use Rattle.lane_rows.proofs.Parts.{filled_from}
use Rattle.lane_rows.proofs.store_row.Goals as goal

pub returns : goal.returns
returns c = let a = c.args in
    let n = a.fours * 4 in
    let e = c.copy_from_slice.ensures.after in
    let s : length (take n a.acc.now) ≡ n = simp length-take (omega (arith, c.requires)) in
    filled_from a.w.now c.copy_from_slice.new.self a.at (a.at + n) n (λ (q : ℕ). get_or a.acc.now q 0) refl (omega (arith, c.requires)) (ap length e ∙ s) (λ q l. ap (λ (l : List ℕ). get_or l q 0) e ∙ get_or-take n a.acc.now q 0 l)
