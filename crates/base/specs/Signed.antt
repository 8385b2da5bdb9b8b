-- Small signed numbers.
use Rattle.std.specs.Prelude.{◌<◌, ◌^◌, ℤ}
use Rattle.std.specs.Int.Signed.{mag}

-- a signed number of 31 bits: differences of such numbers stay within an i32
abbrev pub Bits31 : ℤ → Type 0
Bits31 z = mag z < 2 ^ 30
