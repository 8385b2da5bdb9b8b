-- `mark` writes what belongs to no share: the rows of lanes as one part of the table.
use Rattle.std.proofs.Common.{ℕ, ◌+◌, ◌-◌, ◌*◌, ◌/◌, ◌%◌, ◌<◌, ◌≡◌, length, arith}
use lib.ListN.{get_or, length-take, length-drop}
use Rattle.base.proofs.Filled.{filled_part}
use Rattle.share_rows.specs.Places.{take_base}
use Rattle.fair_shares.specs.Checked.{taken}
use Rattle.fair_shares.proofs.Rows.{filled_as, marked_by}
use Rattle.fair_shares.proofs.mark.Goals as goal

pub returns : goal.returns
returns c = let a = c.args in
    let n = (length a.removals.now + 1) * 16 in
    let p = c.put_takes in
    let done : (y : ℕ) → y < n → get_or p.new.rows y 0 ≡ taken a.needs.now a.parts (y / 16) (y % 16) = λ y l. p.ensures.takes y (simp (length-take, length-drop) (omega arith)) in
    marked_by a.needs.now a.parts a.removals.now a.x.now _ c.put_at.new.t (omega arith) c.requires.1
    (filled_as done (filled_part a.x.now p.new.rows take_base n (take_base + n - take_base) (omega arith) (omega arith) (omega arith)))
    c.put_at.ensures
