-- A job text has at most 33,373 bytes, so it fits (`text_short`): 365 idle steps, 64 openings and sixteen parts, each held by the fifteen others, each number with its most digits. By the lengths of the lines; idle steps rise, so they are among 1 to 365.
use Rattle.std.specs.Prelude.{Option, Some, None}
use Prim.Native.Nat.{ℕ, zero, suc, ◌+◌, ◌-◌, ◌*◌, ◌≤◌, ◌<◌}
use mathlib.Core.Path.{◌≡◌, refl, ap}
use mathlib.Core.List.{List, [], ◌∷◌, ◌++◌, map}
use native.Mathlib.Omega.{arith}
use native.Mathlib.Numerals.{add-one}
use lib.ListN.{length, length-append, length-map}
use Rattle.lines.specs.Text.{bytes, decimal_in, line, line_of, texts, optional_text}
use Rattle.base.specs.Joined.{joined}
use Rattle.base.specs.Each.{Chained}
use Rattle.lines.proofs.Writing.{line_short}
use Rattle.base.proofs.Joined.{joined_grows}
use Rattle.lines.proofs.Texts.{rising_room}
use Rattle.model.specs.Model.{Opening}
use Rattle.model.specs.Windows.{Rising}
use Rattle.jobs.specs.Valid.{ValidOpening}
use Rattle.covers.proofs.Lengths.{holder_line, all_holders}
use Rattle.part_lines.specs.Grammar.{PartText, meant_part, following}
use Rattle.part_lines.specs.Rendering.{part_text}
use Rattle.part_lines.specs.Valid.{KnownPart}
use Rattle.part_lines.proofs.Lengths.{most_part, texts_short, part_short}
use Rattle.job_grammar.specs.Grammar.{JobText, idle_in, max_bytes}
use Rattle.job_grammar.specs.Rendering.{idles_text, opening_text, body_text, job_text_lem}
use Rattle.job_grammar.specs.Valid.{Allowed, ValidText}
use Rattle.job_grammar.proofs.Accepted.{parts_chained}

-- the longest job text
abbrev pub longest : ℕ
longest = 33373

key_length : (length (bytes "horizon=") ≡ 8) × (length (bytes "idles=") ≡ 6) × (length (bytes "walk=") ≡ 5) × (length (bytes "openings=") ≡ 9) × (length (bytes "parts=") ≡ 6)
unfolding bytes
key_length = (refl, refl, refl, refl, refl)

piece_length : (length (bytes "opening=") ≡ 8) × (length (bytes "fee=") ≡ 4)
unfolding bytes
piece_length = (refl, refl)

holder_length : length (bytes "holder=") ≡ 7
unfolding bytes
holder_length = refl

-- ---- idle steps

-- the line of idle step k + 1
idle_line : ℕ → List ℕ
idle_line k = line_of "idle=" (k + 1)

-- all of them up to 365: 9 lines of 7 bytes, 90 of 8 and 266 of 9
all_idles : length (joined idle_line 365) ≡ 3177
unfolding idle_line joined line bytes decimal_in
all_idles = refl

-- those that rise are some of them
rising_chained : (h before : ℕ) (is : List ℕ) → Rising before h is → Chained (λ b i. (b < i) × (i ≤ h) × (length (line_of "idle=" i) ≤ length (idle_line (i - 1)))) (λ _ i. i) before is
unfolding idle_line
rising_chained h before [] r = tt
rising_chained h before (i ∷ is) r =
    let e : i ≡ i - 1 + 1 = omega (arith, r.0) in
    let same = ap (λ (k : ℕ). length (line_of "idle=" k)) e in
    ((r.0, r.1, omega (arith, same)), rising_chained h i is r.2)

idles_short : (h : ℕ) (o : Option (List ℕ)) → h ≤ 365 → length (idle_in o) ≤ 365 → Rising 0 h (idle_in o) → length (optional_text idles_text o) ≤ 3187
unfolding idles_text
idles_short h None high few r = omega arith
idles_short h (Some is) high few r =
    rw (length-append (line_of "idles=" (length is)))
    (omega (arith, key_length, line_short (bytes "idles=") 2 (length is) (omega arith), rising_room (line_of "idle=") idle_line h 0 is (omega arith) (rising_chained h 0 is r), joined_grows idle_line h 365 high, all_idles))

-- ---- openings and parts

opening_short : (o : Opening) → ValidOpening o → length (opening_text o) ≤ 24
unfolding opening_text
opening_short o v =
    rw (length-append (line_of "opening=" o.step))
    (omega (arith, piece_length, line_short (bytes "opening=") 2 o.step (omega (arith, v)), line_short (bytes "fee=") 6 o.fee (omega (arith, v))))

next_number : (i : ℕ) → length (joined holder_line (suc i)) ≡ length (joined holder_line i) + length (line_of "holder=" (i + 1))
unfolding joined holder_line
next_number i = length-append (joined holder_line i) (holder_line i)

-- the lines of the d numbers after i
numbers_short : (i d : ℕ) → i + d ≤ 16 → length (joined holder_line (i + d)) ≤ length (joined holder_line i) + d * most_part
numbers_short i zero h =
    let z : i + 0 ≡ i = omega arith in
    let e = ap (λ (j : ℕ). length (joined holder_line j)) z in
    omega (arith, e)
numbers_short i (suc d) h =
    let z : i + suc d ≡ suc (i + d) = omega arith in
    let e = ap (λ (j : ℕ). length (joined holder_line j)) z in
    omega (arith, e, next_number (i + d), holder_length, line_short (bytes "holder=") 1 (i + d + 1) (omega arith), numbers_short i d (omega arith))

-- the parts after part i of m: no more than `most_part` bytes for each up to sixteen, without the lines of their own numbers
parts_short : (m n i : ℕ) (ps : List PartText) → n ≤ 64 → m ≤ 16 → i + length ps ≤ 16 → Chained (KnownPart m n) following (suc i) ps
    → length (texts part_text ps) + length (joined holder_line 16) ≤ (16 - i) * most_part + length (joined holder_line i)
parts_short m n i [] few most h v =
    let e : i + (16 - i) ≡ 16 = omega arith in
    let same = ap (λ (j : ℕ). length (joined holder_line j)) e in
    omega (arith, same, numbers_short i (16 - i) (omega arith))
parts_short m n i (p ∷ ps) few most h v =
    let own = ap (λ (j : ℕ). length (line_of "holder=" j)) (add-one i) in
    rw (length-append (part_text p))
    (omega (arith, own, part_short m n (suc i) p few most (omega arith) (omega arith) v.0, next_number i, parts_short m n (suc i) ps few most (omega arith) v.1))

-- ---- the text

walk_short : (o : Option ℕ) → Allowed o → length (optional_text (line_of "walk=") o) ≤ 16
walk_short None v = omega arith
walk_short (Some w) v = omega (arith, key_length, line_short (bytes "walk=") 9 w (omega (arith, v)))

-- the text of a valid job has at most `longest` bytes
pub text_short : (t : JobText) → ValidText t → length (job_text_lem t) ≤ longest
unfolding job_text_lem body_text joined
text_short t v =
    let j = v.means.job in
    let h = line_of "horizon=" t.horizon in
    let is = optional_text idles_text t.idles in
    let w = optional_text (line_of "walk=") t.walk in
    let n = line_of "openings=" (length t.openings) in
    let os = texts opening_text t.openings in
    let m = line_of "parts=" (length t.parts) in
    let means = meant_part (length t.openings) in
    let count = length (map means t.parts) in
    let size = length-map t.parts means in
    rw (length-append (h ++ is ++ w ++ n), length-append (h ++ is ++ w), length-append (h ++ is), length-append h, length-append (os ++ m), length-append os)
    (omega (
      arith,
      key_length,
      line_short (bytes "horizon=") 2 t.horizon (omega (arith, j.horizon_high)),
      idles_short t.horizon t.idles j.horizon_high j.few_idles j.idles,
      walk_short t.walk v.walk,
      line_short (bytes "openings=") 1 (length t.openings) (omega (arith, j.few_openings)),
      texts_short ValidOpening opening_text 24 opening_short t.openings j.openings,
      line_short (bytes "parts=") 1 (length t.parts) (omega (arith, j.few_parts, size)),
      parts_short count (length t.openings) 0 t.parts j.few_openings j.few_parts (omega (arith, j.few_parts, size)) (parts_chained count (length t.openings) 1 t.parts j.parts j.holders v.lines),
      all_holders,
      j.few_openings,
      j.few_parts,
    ))

-- the text of a valid record of a job has no more bytes than a text may have
pub text_fits : (t : JobText) → ValidText t → length (job_text_lem t) ≤ max_bytes
text_fits t v = omega (arith, text_short t v)
