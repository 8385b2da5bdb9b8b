-- `put_line` meets its contract: the key, the digits and byte 10.
use mathlib.Core.Path.{refl}
use mathlib.Core.List.{[], ◌∷◌}
use native.Mathlib.Omega.{arith}
use Rattle.lines.specs.Text.{line}
use Rattle.lines.proofs.Writing.{one}
use Rattle.line_writing.proofs.Putting.{then, kept, room_front, room_behind}
use Rattle.line_writing.specs.Undivided.{Undivided}
use Rattle.line_writing.specs.contracts.output.Out.put_number.Key.{symbol as #put-number}
use Rattle.line_writing.specs.contracts.output.Out.put_bytes.Key.{symbol as #put-bytes}
use Rattle.line_writing.proofs.output.Out.put_line.Code as code
use Rattle.line_writing.proofs.output.Out.put_line.Goals as goal

-- E3. it divides nowhere, and what it calls puts the key and, without dividing, the digits
undivided : Undivided (#put-bytes ∷ #put-number ∷ []) code.function
undivided = record { divides_nowhere = tt; calls = tt }

pub put_bytes-requires : goal.put_bytes-requires
unfolding line
put_bytes-requires c = room_front _ c.requires.n_in_bounds

pub put_number-requires-clause-n_in_bounds : goal.put_number-requires-clause-n_in_bounds
unfolding line
put_number-requires-clause-n_in_bounds c = room_front (10 ∷ []) (room_behind c.requires.n_in_bounds c.put_bytes.ensures)

pub bounds-self-self : goal.bounds-self-self
unfolding line
bounds-self-self c = let last = room_behind (room_behind c.requires.n_in_bounds c.put_bytes.ensures) c.put_number.ensures in omega (arith, last.fits)

pub overflow_add-self : goal.overflow_add-self
unfolding line
overflow_add-self c = let v = c.put_bytes.ensures in
    let w = c.put_number.ensures in
    omega (arith, (room_behind (room_behind c.requires.n_in_bounds v) w).fits, kept v, kept w)

pub returns : goal.returns
unfolding line
returns c = then c.put_bytes.ensures (then c.put_number.ensures (record { slice = refl; wrote = one 10 }))
