-- An answer to what was read, printed, is an answer to each text of which the buffer takes just that: `printed_whole`.
use Prim.Native.Nat.{ℕ, suc, ◌≤◌}
use mathlib.Core.Path.{sym, subst}
use mathlib.Core.List.{List}
use lib.ListN.{length, take}
use Rattle.std.specs.declared.option.Option.{Option}
use Rattle.answers.specs.Said.{Said}
use Rattle.answer_output.specs.Prints.{Prints}
use Rattle.whole_input.specs.declared.Text.{Text}
use Rattle.text_program.specs.declared.Done.{Done}
use Rattle.whole_input.specs.Input.{Front, Whole}
use Rattle.whole_input.specs.Limits.{limit_of}
use Rattle.text_program.specs.Printed.{Printed}

-- a program that reads a text to a byte behind its limit prints what is promised for the whole text
pub printed_whole : {I : Type 0} {remaining : I → Option (List ℕ)} {input : Option I} {d : Done} (which : Text) (Says : List ℕ → Said → Type 0)
    → ((t : List ℕ) (x : Said) → Says (take (suc (limit_of which)) t) x → Says t x)
    → (text : List ℕ) → length text ≤ suc (limit_of which) → Front remaining input text → Whole remaining input (suc (limit_of which)) d.failed text → (s : Said) → Says text s → Prints s d.printout
    → Printed which Says remaining input d
printed_whole which Says kept text read front all s said prints = record {
  text = text;
  read = read;
  front = front;
  all = all;
  says = λ whole e. (s, kept whole s (subst (λ (t : List ℕ). Says t s) (sym e) said), prints);
}
