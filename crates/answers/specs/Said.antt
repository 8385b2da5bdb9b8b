-- O1, O7 to O13: what any call hands over, and what it writes where a text is refused.
use Rattle.std.specs.Prelude.{ℕ, ◌<◌, ◌≡◌, cond, List, [], ◌++◌, ltb, length, drop}
use Rattle.lines.specs.Text.{line, line_of}
use Rattle.lines.specs.Wrote.{Counted}
use Rattle.fault_lines.specs.Fault.{nowhere, fault_line_lem, fault_span_lem, Cuts}
use Rattle.fault_lines.specs.declared.fault.Span.{Span}
use Rattle.answers.specs.declared.Answer.{Answer}

-- O10, O13. an answer: the result number; the text at fault and its line (0 and 0 if there is none); where that line stands; the bytes written
pub record Said : Type 0 where
  pub result : ℕ
  pub text : ℕ
  pub line : ℕ
  pub fault : Span
  pub bytes : List ℕ

-- a result and one more line, or two
abbrev pub two_lines : ℕ → List ℕ → ℕ → List ℕ
two_lines number key value = line_of "result=" number ++ line key value

-- the latter: two values, each under its key
abbrev pub three_lines : ℕ → List ℕ → ℕ → List ℕ → ℕ → List ℕ
three_lines number key value next more = two_lines number key value ++ line next more

-- O1. "Numbers 1 to 5 and 9: `result`, `text` (1 job, 2 plan), `line` (from 1; 0 for number 1)." E7.14. "text errors from 12 on write and hand the host what 3 would, under their own number"
unfoldable pub fault_lines_lem : ℕ → ℕ → ℕ → List ℕ
fault_lines_lem number text at = line_of "result=" number ++ line_of "text=" text ++ line_of "line=" at

-- a number that can be printed has at most ten digits
abbrev pub Printable : ℕ → Type 0
Printable n = n < 10000000000

-- the most bytes that the lines of a refusal can have
abbrev pub longest_refusal : ℕ
longest_refusal = 50

-- an answer that is no text's fault
abbrev pub plainly : ℕ → List ℕ → Said
plainly number bytes = record { result = number; text = 0; line = 0; fault = nowhere; bytes = bytes }

-- the answer to a fault of text number `which`, on a line of that text
abbrev pub refusal : ℕ → List ℕ → ℕ → ℕ → Said
refusal which text number at = record { result = number; text = which; line = at; fault = fault_span_lem at text; bytes = fault_lines_lem number which at }

-- D4. what is handed over and written where text number `which` has this fault
pub record Refuses (which : ℕ) (text : List ℕ) (number at : ℕ) (s : Said) : Type 0 where
  pub result : s.result ≡ number
  pub text_number : s.text ≡ which
  pub line_number : s.line ≡ at
  pub span : s.fault ≡ fault_span_lem at text
  pub cuts : Cuts text (fault_line_lem at text) s.fault
  pub bytes : s.bytes ≡ fault_lines_lem number which at

-- the answer of a call that needs so much room, where the output has n bytes.
-- R8. "8: the output is shorter than 16,384 bytes. Nothing is written, length 0."
abbrev pub lent : ℕ → ℕ → Said → Said
lent need n said = cond (ltb n need) (plainly 8 []) said

-- O9. "Every call hands the host its result number, the line (0 if there is none) and the written length", here n
abbrev pub handed : Said → ℕ → Answer
handed s n = record {
  result = s.result;
  text = s.text;
  line = s.line;
  length = n;
  fault_start = s.fault.start;
  fault_length = s.fault.length;
}

-- O9. the same, where the written length is that of the answer's bytes
abbrev pub numbers : Said → Answer
numbers s = handed s (length s.bytes)

-- the output after the call, from what it held before: O11. "Bytes past the written length keep their values."
abbrev pub output : Said → List ℕ → List ℕ
output s before = s.bytes ++ drop (length s.bytes) before

-- D1. what a call that needs so much room promises of its answer s: every number handed over, and every byte of the output, which held d before and holds e after.
-- That the length counts bytes of the output follows; it is stated so that `&out[..n]` needs no proof of its caller's
pub record Replied (need : ℕ) (s : Said) (d e : List ℕ) (r : Answer) : Type 0 where
  pub numbers_are : r ≡ numbers (lent need (length d) s)
  pub output_is : e ≡ output (lent need (length d) s) d
  pub counted : Counted r.length e
