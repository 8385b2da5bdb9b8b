-- All hall texts over the limit are answered alike: `over`. By number 1, which has no line.
use Prim.Native.Nat.{ℕ, ◌<◌}
use mathlib.Core.Path.{◌≡◌, sym, ap, ◌∙◌}
use mathlib.Core.List.{List}
use lib.ListN.{length}
use Rattle.fault_lines.specs.Fault.{fault_span_lem}
use Rattle.lines.specs.Parser.{Outcome}
use Rattle.lines.proofs.Parsing.{text_long}
use Rattle.answers.specs.Texts.{on_text}
use Rattle.hall_grammar.specs.Grammar.{HallText, hall_lines_lem}
use Rattle.hall_grammar.specs.Reading.{meaning}
use Rattle.hall_planning.specs.Hall.{on_hall, hall_said}
use Rattle.whole_input.specs.declared.Text.TheVariants.{Hall}
use Rattle.whole_input.specs.Limits.{limit_of}

-- two texts over the limit are answered alike
pub over : (walk : ℕ) (s t : List ℕ) → limit_of Hall < length s → limit_of Hall < length t → hall_said s walk ≡ hall_said t walk
unfolding hall_said fault_span_lem
over walk s t h k =
    ap (λ (x : Outcome HallText). on_text 1 s (on_hall walk) (meaning x)) (sym (text_long (limit_of Hall) hall_lines_lem s h))
    ∙ ap (λ (x : Outcome HallText). on_text 1 t (on_hall walk) (meaning x)) (text_long (limit_of Hall) hall_lines_lem t k)
