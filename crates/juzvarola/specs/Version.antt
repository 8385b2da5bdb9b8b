-- The version of the library's interface, as include/juzvarola.h states it: hosts compare the two before they call.
use Rattle.std.specs.Prelude.{ℕ, ◌+◌, ◌*◌}

-- it moves with every landing that changes a declaration, a text or an answer
abbrev pub major : ℕ
major = 0

-- the version's second number
abbrev pub minor : ℕ
minor = 13

-- the version's third number
abbrev pub patch : ℕ
patch = 0

-- the three as one number, which rises with them
abbrev pub version_number : ℕ
version_number = major * 1000000 + minor * 1000 + patch
