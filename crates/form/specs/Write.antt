-- What the writer says of a form. "A call that writes a job text puts no `result` line before it; a refusal there writes the lines above, with `text` 1".
use Rattle.std.specs.Prelude.{ℕ, []}
use Rattle.lines.specs.Parser.{Outcome, accepted, refused}
use Rattle.job_grammar.specs.Grammar.{JobText, max_bytes}
use Rattle.job_grammar.specs.Rendering.{job_text_lem}
use Rattle.answers.specs.Said.{Said, plainly, refusal}
use Rattle.form.specs.Form.{Form, read_form}

-- the job text, or the refusal of a line. There is no text of the caller's: an empty one stands for it, so no line at fault is handed over
abbrev pub form_reply : Outcome JobText → Said
form_reply (accepted t) = plainly 0 (job_text_lem t)
form_reply (refused number line) = refusal 1 [] number line

-- the writer's answer where there is room for it
unfoldable pub write_said : Form → Said
write_said f = form_reply (read_form f)

-- E11. "A job text may now have 40,960 bytes, and a call that writes one needs that much output, else 8": as much as a text may have
abbrev pub write_room : ℕ
write_room = max_bytes
