-- What the code finds: the cost of the plan, where its stops serve, with the plan beside it.
use Rattle.std.specs.Prelude.{ℕ, Option, Some, None}
use Rattle.model.specs.Model.{Plan}
use Rattle.answers.specs.Said.{Printable}
use Rattle.latest.specs.Latest.{LatestAnswer, unserved, serves}

-- as the model's answer, with this plan
abbrev pub served_answer : Plan → Option ℕ → LatestAnswer
served_answer plan None = unserved
served_answer plan (Some cost) = serves cost plan

-- its cost can be printed
abbrev pub PrintableServed : Option ℕ → Type 0
PrintableServed None = Unit {0}
PrintableServed (Some cost) = Printable cost
