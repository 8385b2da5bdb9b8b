-- The job grammar is complete: what a valid record of a job text says is read back from its text as exactly that record (`read_back`), which always fits. By the grammar's lines, one after the other.
-- With `text_is` this says what an accepted text is (`accepted_exactly`).
use Rattle.std.specs.Prelude.{Option, Some, None}
use Prim.Native.Nat.{ℕ, suc, ◌≤◌}
use mathlib.Core.Path.{◌≡◌, refl, sym, ap, ◌∙◌, subst}
use mathlib.Core.List.{List, [], ◌∷◌, ◌++◌, map, append_assoc, append-nil}
use mathlib.Core.Bool.{false}
use mathlib.Core.Logic.{◌↔◌}
use native.Mathlib.Omega.{arith}
use lib.ListN.{length, length-map}
use Rattle.lines.specs.Line.{starts_with}
use Rattle.lines.specs.Text.{bytes, line, line_of, texts, optional_text}
use Rattle.lines.specs.Parser.{good, accepted, return, row, optional, if_present, checked, chain, rising}
use Rattle.lines.proofs.Parsing.{bind_good, optional_missing}
use Rattle.base.specs.Each.{Chained, All}
use Rattle.lines.proofs.Complete.{Complete, row_complete, rising_complete, optional_present, chain_complete, text_complete}
use Rattle.model.specs.Model.{Opening}
use Rattle.model.specs.Windows.{Rising, steps_of}
use Rattle.jobs.specs.Valid.{ValidOpening}
use Rattle.part_lines.specs.Grammar.{PartText, meant_part, part, following}
use Rattle.part_lines.specs.Rendering.{part_text}
use Rattle.part_lines.specs.Valid.{KnownPart}
use Rattle.part_lines.specs.Behind.{BehindParts}
use Rattle.part_lines.proofs.Behind.{behind_none, behind_all, first_behind, rest_behind}
use Rattle.part_lines.proofs.Complete.{part_complete}
use Rattle.job_grammar.specs.Grammar.{JobText, idle_in, idle, idle_steps_lem, idles, opening, openings, parts, body, rest, job_lines, max_bytes, read_job_text}
use Rattle.job_grammar.specs.Rendering.{idles_text, opening_text, body_text, job_text_lem}
use Rattle.job_grammar.specs.Valid.{SomeIdles, Allowed, ValidText}
use Rattle.job_grammar.proofs.Accepted.{KnownStep, itself, KnownOpening, step_of, parts_chained, valid_text, text_is}
use Rattle.job_grammar.proofs.Lengths.{text_fits}

-- ---- idle steps

rise_chained : (h before : ℕ) (is : List ℕ) → h ≤ 365 → Rising before h is → Chained (KnownStep h) itself before is
rise_chained h before [] high r = tt
rise_chained h before (i ∷ is) high r = (record { low = omega (arith, r.0); high = omega (arith, r.1); after = r.0; within = r.1 }, rise_chained h i is high r.2)

-- idle steps in order, or none, are read back from their lines if no other `idles` line follows
pub idles_complete : (h : ℕ) (o : Option (List ℕ)) → h ≤ 365 → length (idle_in o) ≤ 365 → Rising 0 h (idle_in o) → SomeIdles o → (s : List ℕ) (l : ℕ) → starts_with (bytes "idles=") s ≡ false
    → (l' : ℕ) × (idles h (optional_text idles_text o ++ s) l ≡ good o s l')
unfolding idles idle_steps_lem idle if_present return idles_text
idles_complete h None high few r some s l e = (l, bind_good (optional "idles=" 1 365) _ (optional_missing _ 1 365 s l e))
idles_complete h (Some is) high few r some s l e =
    let ts = texts (line_of "idle=") is in
    let a = optional_present (bytes "idles=") 1 365 (omega arith) (length is) (some, few) (ts ++ s) l in
    let b = chain_complete (idle h) itself (line_of "idle=") (KnownStep h) (rising_complete 4 _ 365 h (omega arith)) 0 is (rise_chained h 0 is high r) s a.0 in (
      b.0,
      ap (λ (x : List ℕ). idles h x l) (append_assoc (line_of "idles=" (length is)) ts s)
          ∙ bind_good (optional "idles=" 1 365) _ a.1 ∙ bind_good (idle_steps_lem h (length is)) _ b.1,
    )

-- ---- openings

-- the text of a known opening is read as this opening
pub opening_complete : (h before : ℕ) → Complete (opening h before) opening_text (KnownOpening h before)
unfolding opening return opening_text
opening_complete h before o k s l =
    let f = line_of "fee=" o.fee in
    let a = rising_complete 4 (bytes "opening=") 365 h (omega arith) before o.step k.0 (f ++ s) l in
    let b = row_complete (bytes "fee=") 0 1000000 (omega arith) o.fee (omega arith, k.1) s a.0 in (
      b.0,
      ap (λ (x : List ℕ). opening h before x l) (append_assoc (line_of "opening=" o.step) f s)
          ∙ bind_good (checked 4 (rising before h) (row "opening=" 1 365)) _ a.1 ∙ bind_good (row "fee=" 0 1000000) _ b.1,
    )

-- valid openings that rise are each known behind the one before
pub openings_chained : (h before : ℕ) (os : List Opening) → All ValidOpening os → Rising before h (steps_of os) → Chained (KnownOpening h) step_of before os
openings_chained h before [] v r = tt
openings_chained h before (o ∷ os) v r =
    ((record { low = v.0.step_low; high = v.0.step_high; after = r.0; within = r.1 }, v.0.fee), openings_chained h o.step os v.1 r.2)

-- ---- parts

-- the parts from part k of m on
parts_complete : (m n k : ℕ) → m ≤ 16 → (ps : List PartText) → Chained (KnownPart m n) following k ps → (s : List ℕ) (l : ℕ) → BehindParts ps s
    → (l' : ℕ) × (chain (part m n) following (length ps) k (texts part_text ps ++ s) l ≡ good ps s l')
unfolding chain return
parts_complete m n k most [] h s l next = (l, refl)
parts_complete m n k most (p ∷ ps) h s l next =
    let a = part_complete m n k most p h.0 (texts part_text ps ++ s) l (first_behind p ps s next) in
    let b = parts_complete m n (suc k) most ps h.1 s a.0 (rest_behind p ps s next) in (
      b.0,
      ap (λ (r : List ℕ). chain (part m n) following (length (p ∷ ps)) k r l) (append_assoc (part_text p) (texts part_text ps) s)
          ∙ bind_good (part m n k) _ a.1 ∙ bind_good (chain (part m n) following (length ps) (suc k)) _ b.1,
    )

-- ---- the whole

body_complete : (t : JobText) → ValidText t → (s : List ℕ) (l : ℕ) → BehindParts t.parts s → (l' : ℕ) × (body t.horizon t.idles t.walk (length t.openings) (body_text t ++ s) l ≡ good t s l')
unfolding body openings parts return body_text
body_complete t v s l next =
    let j = v.means.job in
    let h = t.horizon in
    let n = length t.openings in
    let os = texts opening_text t.openings in
    let m = line_of "parts=" (length t.parts) in
    let ps = texts part_text t.parts in
    let count = length (map (meant_part n) t.parts) in
    let size = length-map t.parts (meant_part n) in
    let a = chain_complete (opening h) step_of opening_text (KnownOpening h) (opening_complete h) 0 t.openings (openings_chained h 0 t.openings j.openings j.rising) (m ++ (ps ++ s)) l in
    let b = row_complete (bytes "parts=") 1 16 (omega arith) (length t.parts) (omega (arith, j.some_part, size), omega (arith, j.few_parts, size)) (ps ++ s) a.0 in
    let known = subst (λ (i : ℕ). Chained (KnownPart i n) following 1 t.parts) size (parts_chained count n 1 t.parts j.parts j.holders v.lines) in
    let c = parts_complete (length t.parts) n 1 (omega (arith, j.few_parts, size)) t.parts known s b.0 next in (
      c.0,
      ap (λ (x : List ℕ). body h t.idles t.walk n x l) (append_assoc (os ++ m) ps s ∙ append_assoc os m (ps ++ s))
          ∙ bind_good (openings h n) _ a.1 ∙ bind_good (row "parts=" 1 16) _ b.1 ∙ bind_good (parts (length t.parts) n) _ c.1,
    )

-- what follows the idle steps, if any, is the walk line or the number of openings
pub walk_next : (w : Option ℕ) (n : ℕ) (s : List ℕ) → starts_with (bytes "idles=") (optional_text (line_of "walk=") w ++ (line_of "openings=" n ++ s)) ≡ false
unfolding starts_with line bytes
walk_next None n s = refl
walk_next (Some w) n s = refl

-- and what follows the walk line, if any, is the number of openings
pub openings_next : (n : ℕ) (s : List ℕ) → starts_with (bytes "walk=") (line_of "openings=" n ++ s) ≡ false
unfolding starts_with line bytes
openings_next n s = refl

walk_complete : (o : Option ℕ) → Allowed o → (s : List ℕ) (l : ℕ) → starts_with (bytes "walk=") s ≡ false → (l' : ℕ) × (optional "walk=" 0 4000000000 (optional_text (line_of "walk=") o ++ s) l ≡ good o s l')
walk_complete None v s l e = (l, optional_missing _ 0 4000000000 s l e)
walk_complete (Some w) v s l e = optional_present (bytes "walk=") 0 4000000000 (omega arith) w (omega arith, v) s l

-- with anything behind its lines but a further line of its last part
pub lines_back : (t : JobText) → ValidText t → (s : List ℕ) (l : ℕ) → BehindParts t.parts s → (l' : ℕ) × (job_lines (job_text_lem t ++ s) l ≡ good t s l')
unfolding job_lines rest job_text_lem
lines_back t v s l next =
    let j = v.means.job in
    let h = line_of "horizon=" t.horizon in
    let is = optional_text idles_text t.idles in
    let w = optional_text (line_of "walk=") t.walk in
    let n = line_of "openings=" (length t.openings) in
    let r = body_text t in
    let a = row_complete (bytes "horizon=") 2 365 (omega arith) t.horizon (j.horizon_low, j.horizon_high) (is ++ (w ++ (n ++ (r ++ s)))) l in
    let b = idles_complete t.horizon t.idles j.horizon_high j.few_idles j.idles v.idles (w ++ (n ++ (r ++ s))) a.0 (walk_next t.walk (length t.openings) (r ++ s)) in
    let c = walk_complete t.walk v.walk (n ++ (r ++ s)) b.0 (openings_next (length t.openings) (r ++ s)) in
    let d = row_complete (bytes "openings=") 0 64 (omega arith) (length t.openings) (omega arith, j.few_openings) (r ++ s) c.0 in
    let f = body_complete t v s d.0 next in (
      f.0,
      ap (λ (x : List ℕ). job_lines x l) (append_assoc (h ++ is ++ w ++ n) r s ∙ append_assoc (h ++ is ++ w) n (r ++ s) ∙ append_assoc (h ++ is) w (n ++ (r ++ s)) ∙ append_assoc h is (w ++ (n ++ (r ++ s))))
          ∙ bind_good (row "horizon=" 2 365) _ a.1 ∙ bind_good (idles t.horizon) _ b.1
          ∙ bind_good (optional "walk=" 0 4000000000) _ c.1 ∙ bind_good (row "openings=" 0 64) _ d.1 ∙ f.1,
    )

-- the text of a valid job is read as this job
pub read_back : (t : JobText) → ValidText t → read_job_text (job_text_lem t) ≡ accepted t
read_back t v =
    let r = lines_back t v [] 1 (behind_all t.parts [] behind_none) in
    text_complete max_bytes job_lines (job_text_lem t) t r.0 (text_fits t v) (ap (λ (x : List ℕ). job_lines x 1) (sym (append-nil (job_text_lem t))) ∙ r.1)

-- the accepted texts are those of the valid records, each read as its own
pub accepted_exactly : (s : List ℕ) (t : JobText) → (read_job_text s ≡ accepted t) ↔ (ValidText t × (s ≡ job_text_lem t))
accepted_exactly s t = (λ e. (valid_text s t e, text_is s t e), λ h. ap read_job_text h.1 ∙ read_back t h.0)
