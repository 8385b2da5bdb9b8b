-- The code's struct in the terms of the grammar.
use Rattle.std.specs.Prelude.{Bool, true, false, [], Option, Some, None}
use Rattle.base.specs.Chosen.{numbers_of_lem}
use Rattle.covers.specs.Grammar as grammar
use Rattle.covers.specs.declared.Cover.{Cover}

-- the struct marks the parts that hold this one; the grammar has their numbers
abbrev pub cover_of : Cover → grammar.Cover
cover_of c = record { removal = c.removal; holders = numbers_of_lem c.holders }

-- lines that stand or not, as they are read
abbrev pub cover_said : Option Cover → Option grammar.Cover
cover_said (Some c) = Some (cover_of c)
cover_said None = None

-- E7.2. "a part without them has removal 0 and no holders"
abbrev pub no_cover_lem : grammar.Cover
no_cover_lem = record { removal = 0; holders = [] }

-- what lines say that stand or not
unfoldable pub cover_there : Bool → grammar.Cover → Option grammar.Cover
cover_there true c = Some c
cover_there false c = None

-- what they mean
unfoldable pub meant_cover : Option grammar.Cover → grammar.Cover
meant_cover None = no_cover_lem
meant_cover (Some c) = c
