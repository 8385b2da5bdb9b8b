-- What a program that reads one text prints: an answer to it, its numbers and its bytes.
-- The bytes that are read are the first of the input's, where it says which it has, and all of it that a buffer takes, unless a read failed; what becomes of bytes that are handed to standard output no contract says.
use Rattle.std.specs.Prelude.{ℕ, suc, ◌≤◌, ◌≡◌, List, length, take}
use Rattle.std.specs.declared.option.Option.{Option}
use Rattle.answers.specs.Said.{Said}
use Rattle.answer_output.specs.Prints.{Prints}
use Rattle.whole_input.specs.declared.Text.{Text}
use Rattle.text_program.specs.declared.Done.{Done}
use Rattle.whole_input.specs.Input.{Front, Whole}
use Rattle.whole_input.specs.Limits.{limit_of}

-- what was done is that an answer to the bytes that were read was printed, where `Says text s` has it that s is an answer to a text
pub record Printed {I : Type 0} (which : Text) (Says : List ℕ → Said → Type 0) (remaining : I → Option (List ℕ)) (input : Option I) (d : Done) : Type 0 where
  -- the bytes that were read
  pub text : List ℕ
  pub read : length text ≤ suc (limit_of which)
  -- the first that the input has left, where these are known; of a file that can't be opened none
  pub front : Front remaining input text
  -- and all that it has left, or as many as the buffer takes, where no read failed
  pub all : Whole remaining input (suc (limit_of which)) d.failed text
  -- an answer to each text of which these bytes are all that the buffer takes: one byte over the limit tells a longer text
  pub says : (whole : List ℕ) → take (suc (limit_of which)) whole ≡ text → (s : Said) × Says whole s × Prints s d.printout
