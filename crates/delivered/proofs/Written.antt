-- The longest job text that the writer can write: one without a `walk` line, which has sixteen bytes fewer than the longest of all. By that line put in and taken out.
use Rattle.std.specs.Prelude.{Option, Some, None}
use Prim.Native.Nat.{ℕ, ◌+◌, ◌≤◌}
use mathlib.Core.Path.{◌≡◌, refl, ap}
use mathlib.Core.List.{List, ◌++◌}
use native.Mathlib.Omega.{arith}
use lib.ListN.{length, length-append}
use Rattle.lines.specs.Text.{bytes, decimal_in, line, line_of, optional_text}
use Rattle.lines.specs.Parser.{accepted}
use Rattle.lines.proofs.Writing.{line_short}
use Rattle.job_grammar.specs.Grammar.{JobText, read_job_text}
use Rattle.job_grammar.specs.Rendering.{idles_text, body_text, job_text_lem}
use Rattle.job_grammar.specs.Valid.{Allowed, ValidText}
use Rattle.job_grammar.proofs.Accepted.{valid_text, text_is}
use Rattle.job_grammar.proofs.Complete.{read_back}
use Rattle.job_grammar.proofs.Lengths.{text_short}
use Rattle.job_grammar.proofs.Longest.{longest_text, reached, longest_valid}
use Rattle.alike.specs.Alike.{with_walk}

walk_line : length (line_of "walk=" 4000000000) ≡ 16
unfolding line bytes decimal_in
walk_line = refl

-- the bytes of a text with this `walk` line or with none
lengths : (t : JobText) (o : Option ℕ) → length (job_text_lem (with_walk o t))
    ≡ length (line_of "horizon=" t.horizon) + length (optional_text idles_text t.idles) + length (optional_text (line_of "walk=") o) + length (line_of "openings=" (length t.openings)) + length (body_text t)
unfolding job_text_lem body_text
lengths t o =
    let h = line_of "horizon=" t.horizon in
    let is = optional_text idles_text t.idles in
    let w = optional_text (line_of "walk=") o in
    let n = line_of "openings=" (length t.openings) in
    omega (arith, length-append (h ++ is ++ w ++ n) (body_text t), length-append (h ++ is ++ w) n, length-append (h ++ is) w, length-append h is)

-- a valid record stays valid with another walk number, or none
walk_valid : (t : JobText) → ValidText t → (o : Option ℕ) → Allowed o → ValidText (with_walk o t)
walk_valid t v o h = record { means = v.means; idles = v.idles; walk = h; lines = v.lines }

-- a text without the line has at most 33,357 bytes
pub written_short : (text : List ℕ) (t : JobText) → read_job_text text ≡ accepted t → t.walk ≡ None → length text ≤ 33357
written_short text t e none =
    let same : length (job_text_lem t) ≡ length (job_text_lem (with_walk None t)) = ap (λ (o : Option ℕ). length (job_text_lem (with_walk o t))) none in
    omega (
      arith,
      ap length (text_is text t e),
      same,
      lengths t None,
      lengths t (Some 4000000000),
      walk_line,
      text_short (with_walk (Some 4000000000) t) (walk_valid t (valid_text text t e) (Some 4000000000) (omega arith)),
    )

-- the line of a walk number has at most sixteen bytes
line_most : (o : Option ℕ) → Allowed o → length (optional_text (line_of "walk=") o) ≤ 16
unfolding bytes
line_most None h = omega arith
line_most (Some w) h = omega (arith, line_short (bytes "walk=") 9 w (omega (arith, h)))

-- and one has that many: the longest of all without its line
pub written_reached : (text : List ℕ) × (t : JobText) × (read_job_text text ≡ accepted t) × (t.walk ≡ None) × (length text ≡ 33357)
written_reached =
    let t = with_walk None longest_text in
    let e = read_back t (walk_valid longest_text longest_valid None tt) in
    let most = written_short (job_text_lem t) t e refl in
    (job_text_lem t, t, e, refl, omega (arith, most, lengths longest_text None, lengths longest_text longest_text.walk, line_most longest_text.walk longest_valid.walk, reached))
