-- The hall's grammar is complete: a valid record of a hall text is read back from its text as exactly that record, if that fits. With `text_is` this says what an accepted text is (`accepted_exactly`).
use Prim.Native.Nat.{ℕ, suc, ◌≤◌}
use mathlib.Core.Path.{◌≡◌, refl, sym, ap, ◌∙◌}
use mathlib.Core.List.{List, [], ◌∷◌, ◌++◌, append_assoc, append-nil}
use mathlib.Core.Logic.{◌↔◌}
use native.Mathlib.Omega.{arith}
use lib.ListN.{length}
use Rattle.lines.specs.Line.{starts_with}
use Rattle.lines.specs.Text.{bytes, line, line_of, texts}
use Rattle.lines.specs.Parser.{good, accepted, return, row}
use Rattle.lines.proofs.Parsing.{bind_good, checked-good}
use Rattle.lines.proofs.Sound.{accepted_is}
use Rattle.lines.proofs.Complete.{row_complete, text_complete}
use Rattle.model.specs.Model.{Job}
use Rattle.part_lines.specs.Behind.{Behind}
use Rattle.part_lines.proofs.Behind.{behind_none, behind_all}
use Rattle.job_grammar.specs.Grammar.{JobText, job_lines}
use Rattle.job_grammar.specs.Rendering.{job_text_lem}
use Rattle.job_grammar.proofs.Complete.{lines_back as job-back}
use Rattle.hall_model.specs.Limits.{most_lines, dearest_call, most_hall_bytes}
use Rattle.job_grammar.specs.Reading.{meant_job}
use Rattle.hall_grammar.specs.Grammar.{HallText, joins, job_behind, jobs_behind, hall_lines_lem, read_hall_text}
use Rattle.hall_grammar.specs.Rendering.{hall_text}
use Rattle.hall_grammar.specs.Valid.{Joined, ValidHall}
use Rattle.hall_grammar.proofs.Accepted.{valid_hall, text_is}

-- what follows a job is the next one, which begins with its horizon, or what follows the jobs
jobs_next : (ts : List JobText) (s : List ℕ) → Behind s → Behind (texts job_text_lem ts ++ s)
unfolding starts_with line bytes job_text_lem
jobs_next [] s e = e
jobs_next (t ∷ ts) s e = record { removal = refl; base = refl }

jobs_back : (ts : List JobText) (before : List Job) → Joined before ts → (s : List ℕ) (l : ℕ) → Behind s → (l' : ℕ) × (jobs_behind (length ts) before (texts job_text_lem ts ++ s) l ≡ good ts s l')
unfolding jobs_behind job_behind return
jobs_back [] before j s l next = (l, refl)
jobs_back (t ∷ ts) before j s l next =
    let more = before ++ (meant_job t ∷ []) in
    let a = job-back t j.0 (texts job_text_lem ts ++ s) l (behind_all t.parts (texts job_text_lem ts ++ s) (jobs_next ts s next)) in
    let one = checked-good 14 (λ (x : JobText). joins before (meant_job x)) job_lines (job_text_lem t ++ (texts job_text_lem ts ++ s)) l a.1 j.1 in
    let b = jobs_back ts more j.2 s a.0 next in (
      b.0,
      ap (λ (x : List ℕ). jobs_behind (suc (length ts)) before x l) (append_assoc (job_text_lem t) (texts job_text_lem ts) s)
          ∙ bind_good (job_behind before) _ one ∙ bind_good (jobs_behind (length ts) more) _ b.1,
    )

lines_back : (t : HallText) → ValidHall t → (s : List ℕ) (l : ℕ) → Behind s → (l' : ℕ) × (hall_lines_lem (hall_text t ++ s) l ≡ good t s l')
unfolding hall_lines_lem hall_text return
lines_back t v s l next =
    let m = line_of "machines=" (length t.jobs) in
    let c = line_of "call=" t.call in
    let ts = texts job_text_lem t.jobs in
    let a = row_complete (bytes "machines=") 1 most_lines (omega arith) (length t.jobs) (v.some, v.few) (c ++ (ts ++ s)) l in
    let b = row_complete (bytes "call=") 0 dearest_call (omega arith) t.call (omega arith, v.fair) (ts ++ s) a.0 in
    let d = jobs_back t.jobs [] v.jobs s b.0 next in (
      d.0,
      ap (λ (x : List ℕ). hall_lines_lem x l) (append_assoc (m ++ c) ts s ∙ append_assoc m c (ts ++ s))
          ∙ bind_good (row "machines=" 1 most_lines) _ a.1 ∙ bind_good (row "call=" 0 dearest_call) _ b.1 ∙ bind_good (jobs_behind (length t.jobs) []) _ d.1,
    )

-- the text of a valid hall record, if it is not too long, is accepted and read back as that record
pub read_back : (t : HallText) → ValidHall t → length (hall_text t) ≤ most_hall_bytes → read_hall_text (hall_text t) ≡ accepted t
read_back t v short =
    let r = lines_back t v [] 1 behind_none in
    text_complete most_hall_bytes hall_lines_lem (hall_text t) t r.0 short (ap (λ (x : List ℕ). hall_lines_lem x 1) (sym (append-nil (hall_text t))) ∙ r.1)

-- the accepted texts are those of the valid records that are not too long, each read as its own
pub accepted_exactly : (s : List ℕ) (t : HallText) → (read_hall_text s ≡ accepted t) ↔ (ValidHall t × (s ≡ hall_text t) × (length s ≤ most_hall_bytes))
accepted_exactly s t = (
  λ e. (valid_hall s t e, text_is s t e, (accepted_is most_hall_bytes hall_lines_lem s t e).few),
  λ h. ap read_hall_text h.1 ∙ read_back t h.0 (omega (arith, h.2, ap length h.1)),
)
