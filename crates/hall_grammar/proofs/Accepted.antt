-- An accepted hall text is the rendering of what it says (`text_is`), which is valid (`valid_hall`); so the hall that it means is what the hall planner asks for (`Proper`), and within its limits (`Fits`). By the grammar's
-- lines, one after the other.
use Prim.Native.Nat.{ℕ, zero, suc, ◌+◌, ◌≤◌}
use mathlib.Core.Path.{◌≡◌, refl, sym, ap, subst, ◌∙◌}
use mathlib.Core.Bool.{Bool, true, and-eq-true_iff}
use mathlib.Core.List.{List, [], ◌∷◌, ◌++◌, map, append_assoc, append-nil}
use native.Mathlib.Omega.{arith}
use borrow.Author.Tests.{eqb-true, leb-true}
use lib.Dec.{eqb, leb}
use lib.ListN.{length, length-map}
use Rattle.lines.specs.Text.{line_of, texts}
use Rattle.lines.specs.Parser.{accepted, return, row}
use Rattle.lines.proofs.Sound.{Told, Tells, bind_inv, row_gives, row_sound, checked_gives, checked_sound, accepted_is}
use Rattle.model.specs.Model.{Job}
use Rattle.model.specs.Limits.{most_openings, most_parts}
use Rattle.job_grammar.specs.Grammar.{JobText, job_lines}
use Rattle.job_grammar.specs.Rendering.{job_text_lem}
use Rattle.job_grammar.specs.Valid.{ValidText}
use Rattle.job_grammar.proofs.Accepted.{lines_tell as job-tells}
use Rattle.hall_model.specs.Hall.{horizon_of, idles_of, AllAlike, Proper}
use Rattle.hall_model.specs.Limits.{most_lines, dearest_call, most_hall_bytes, parts_in, openings_in, Fits}
use Rattle.job_grammar.specs.Reading.{meant_job}
use Rattle.hall_grammar.specs.Grammar.{HallText, meant_hall, same_numbers, like_first, room_for, joins, job_behind, jobs_behind, hall_lines_lem, read_hall_text}
use Rattle.hall_grammar.specs.Rendering.{hall_text}
use Rattle.hall_grammar.specs.Valid.{Joined, ValidHall}

-- ---- the jobs

jobs_tell : (n : ℕ) (before : List Job) → Tells (jobs_behind n before) (λ ts. (length ts ≡ n) × Joined before ts) (texts job_text_lem)
unfolding jobs_behind job_behind return
jobs_tell zero before s s' l l' ts h =
    let x : [] ≡ ts = cc in
    let y : s ≡ s' = cc in
    subst (Told (λ ts. (length ts ≡ 0) × Joined before ts) (texts job_text_lem) s s') x (record { known = (refl, tt); text = y })
jobs_tell (suc n) before s s' l l' ts h =
    let b = bind_inv (job_behind before) _ s s' l l' ts h in
    let d = bind_inv (jobs_behind n (before ++ (meant_job b.a ∷ []))) _ b.mid s' b.at l' ts b.second in
    let x : (b.a ∷ d.a) ≡ ts = cc d.second in
    let y : d.mid ≡ s' = cc d.second in
    let ok : JobText → Bool = λ t. joins before (meant_job t) in
    let valid = checked_gives 14 ok job_lines ValidText (λ s s' l l' t e. (job-tells s s' l l' t e).known) s b.mid l b.at b.a b.first in
    let text = checked_sound 14 ok job_lines job_text_lem (λ s s' l l' t e. (job-tells s s' l l' t e).text) s b.mid l b.at b.a b.first in
    let r = jobs_tell n (before ++ (meant_job b.a ∷ [])) b.mid d.mid b.at d.at d.a d.first in
    subst (Told (λ ts. (length ts ≡ suc n) × Joined before ts) (texts job_text_lem) s s') x
    (record {
      known = (ap suc r.known.0, (valid.0, valid.1, r.known.1));
      text = text ∙ ap (λ (q : List ℕ). job_text_lem b.a ++ q) (r.text ∙ ap (λ (q : List ℕ). texts job_text_lem d.a ++ q) y) ∙ sym (append_assoc (job_text_lem b.a) (texts job_text_lem d.a) s');
    })

-- ---- what they are together

-- lists of numbers that the grammar's rule calls the same are equal
pub numbers_same : (ms ns : List ℕ) → same_numbers ms ns ≡ true → ms ≡ ns
unfolding same_numbers
numbers_same [] [] e = refl
numbers_same [] (n ∷ ns) e = let z : ◌≡◌ {A = ℕ} 0 1 = cc in absurd (omega arith)
numbers_same (m ∷ ms) [] e = let z : ◌≡◌ {A = ℕ} 0 1 = cc in absurd (omega arith)
numbers_same (m ∷ ms) (n ∷ ns) e =
    let b = (and-eq-true_iff (eqb m n) (same_numbers ms ns)).0 e in
    let x = eqb-true m n b.0 in
    let y = numbers_same ms ns b.1 in
    λ i. x i ∷ y i

-- like the first of those before
like_all : (first : Job) (before : List Job) (ts : List JobText) → Joined (first ∷ before) ts → AllAlike first.horizon first.idles (map meant_job ts)
like_all first before [] j = tt
like_all first before (t ∷ ts) j =
    let b = (and-eq-true_iff (like_first (first ∷ before) (meant_job t)) (room_for (first ∷ before) (meant_job t))).0 j.1 in
    let c = (and-eq-true_iff (eqb (meant_job t).horizon first.horizon) (same_numbers (meant_job t).idles first.idles)).0 b.0 in (
      record { same_horizon = eqb-true (meant_job t).horizon first.horizon c.0; same_idles = numbers_same (meant_job t).idles first.idles c.1; rising = j.0.means.job.rising },
      like_all first (before ++ (meant_job t ∷ [])) ts j.2,
    )

all_alike : (ts : List JobText) → Joined [] ts → AllAlike (horizon_of (map meant_job ts)) (idles_of (map meant_job ts)) (map meant_job ts)
all_alike [] j = tt
all_alike (t ∷ ts) j = (record { same_horizon = refl; same_idles = refl; rising = j.0.means.job.rising }, like_all (meant_job t) [] ts j.2)

-- one line more has its parts more
pub more_parts : (jobs : List Job) (job : Job) → parts_in (jobs ++ (job ∷ [])) ≡ parts_in jobs + length job.parts
more_parts [] job = omega arith
more_parts (j ∷ jobs) job = omega (arith, more_parts jobs job)

-- and its openings
pub more_openings : (jobs : List Job) (job : Job) → openings_in (jobs ++ (job ∷ [])) ≡ openings_in jobs + length job.openings
more_openings [] job = omega arith
more_openings (j ∷ jobs) job = omega (arith, more_openings jobs job)

-- the sums stay within the limits
within : (before : List Job) (ts : List JobText) → parts_in before ≤ most_parts → openings_in before ≤ most_openings → Joined before ts
    → (parts_in before + parts_in (map meant_job ts) ≤ most_parts) × (openings_in before + openings_in (map meant_job ts) ≤ most_openings)
within before [] p o j = (omega arith, omega arith)
within before (t ∷ ts) p o j =
    let job = meant_job t in
    let b = (and-eq-true_iff (like_first before job) (room_for before job)).0 j.1 in
    let c = (and-eq-true_iff (leb (parts_in before + length job.parts) most_parts) (leb (openings_in before + length job.openings) most_openings)).0 b.1 in
    let x = leb-true (parts_in before + length job.parts) most_parts c.0 in
    let y = leb-true (openings_in before + length job.openings) most_openings c.1 in
    let r = within (before ++ (job ∷ [])) ts (omega (arith, x, more_parts before job)) (omega (arith, y, more_openings before job)) j.2 in
    (omega (arith, r.0, more_parts before job), omega (arith, r.1, more_openings before job))

-- ---- the text

lines_tell : Tells hall_lines_lem ValidHall hall_text
unfolding hall_lines_lem hall_text return
lines_tell s s' l l' t h =
    let b = bind_inv (row "machines=" 1 most_lines) _ s s' l l' t h in
    let d = bind_inv (row "call=" 0 dearest_call) _ b.mid s' b.at l' t b.second in
    let f = bind_inv (jobs_behind b.a []) _ d.mid s' d.at l' t d.second in
    let lines = row_gives _ 1 most_lines s b.mid l b.at b.a b.first in
    let call = row_gives _ 0 dearest_call b.mid d.mid b.at d.at d.a d.first in
    let jobs = jobs_tell b.a [] d.mid f.mid d.at f.at f.a f.first in
    let x : record { call = d.a; jobs = f.a } ≡ t = cc f.second in
    let y : f.mid ≡ s' = cc f.second in
    let many = jobs.known.0 in
    let m = line_of "machines=" (length f.a) in
    let c = line_of "call=" d.a in
    subst (Told ValidHall hall_text s s') x
    (record {
      known = record { some = omega (arith, many, lines.0); few = omega (arith, many, lines.1); fair = call.1; jobs = jobs.known.1 };
      text = row_sound _ 1 most_lines s b.mid l b.at b.a b.first
          ∙ ap (λ (k : ℕ). line_of "machines=" k ++ b.mid) (sym many)
          ∙ ap (λ (q : List ℕ). m ++ q) (row_sound _ 0 dearest_call b.mid d.mid b.at d.at d.a d.first ∙ ap (λ (q : List ℕ). c ++ q) (jobs.text ∙ ap (λ (q : List ℕ). texts job_text_lem f.a ++ q) y))
          ∙ sym (append_assoc (m ++ c) (texts job_text_lem f.a) s' ∙ append_assoc m c (texts job_text_lem f.a ++ s'));
    })

-- what an accepted hall text says is valid
pub valid_hall : (s : List ℕ) (t : HallText) → read_hall_text s ≡ accepted t → ValidHall t
valid_hall s t e = let a = accepted_is most_hall_bytes hall_lines_lem s t e in (lines_tell s [] 1 a.last t a.lines).known

-- an accepted hall text is the rendering of what it says
pub text_is : (s : List ℕ) (t : HallText) → read_hall_text s ≡ accepted t → s ≡ hall_text t
text_is s t e = let a = accepted_is most_hall_bytes hall_lines_lem s t e in (lines_tell s [] 1 a.last t a.lines).text ∙ append-nil (hall_text t)

-- ---- what it means

-- a valid hall text means a hall whose lines have the first one's horizon and idle steps
pub valid_proper : (t : HallText) → ValidHall t → Proper (meant_hall t)
valid_proper t v = all_alike t.jobs v.jobs

-- a valid hall text means a hall within the limits of lines, call, parts and openings
pub valid_fits : (t : HallText) → ValidHall t → Fits (meant_hall t)
valid_fits t v =
    let sums = within [] t.jobs (omega arith) (omega arith) v.jobs in
    let many : length (map meant_job t.jobs) ≡ length t.jobs = length-map t.jobs meant_job in
    record { some = omega (arith, many, v.some); few = omega (arith, many, v.few); fair = v.fair; parts = omega (arith, sums.0); openings = omega (arith, sums.1) }

-- an accepted hall text means a hall whose lines have the first one's horizon and idle steps
pub accepted_proper : (s : List ℕ) (t : HallText) → read_hall_text s ≡ accepted t → Proper (meant_hall t)
accepted_proper s t e = valid_proper t (valid_hall s t e)

-- an accepted hall text means a hall within the limits of lines, call, parts and openings
pub accepted_fits : (s : List ℕ) (t : HallText) → read_hall_text s ≡ accepted t → Fits (meant_hall t)
accepted_fits s t e = valid_fits t (valid_hall s t e)
