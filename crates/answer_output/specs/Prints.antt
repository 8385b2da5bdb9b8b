-- What was printed, and that it is an answer: every number of it, and every byte.
use Rattle.std.specs.Prelude.{ℕ, ◌≡◌, List, take}
use Rattle.answers.specs.Said.{Said, numbers}
use Rattle.answer_output.specs.declared.Printout.{Printout}

-- the most bytes that an answer can have
abbrev pub most_printed : ℕ
most_printed = 16384

-- the bytes that were handed to standard output
abbrev pub printed : Printout → List ℕ
printed p = take p.answer.length p.bytes

-- the printout is this answer
pub record Prints (s : Said) (p : Printout) : Type 0 where
  pub numbers_are : p.answer ≡ numbers s
  pub bytes_are : printed p ≡ s.bytes
