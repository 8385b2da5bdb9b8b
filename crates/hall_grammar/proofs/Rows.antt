-- The hall's lines, job by job, are its grammar's: a job more (`lines_more`), no job more (`lines_none`), and the whole text (`rows_are`, `rows_finish`).
use Prim.Native.Nat.{ℕ, suc}
use mathlib.Core.Path.{◌≡◌, refl, sym, ap, ◌∙◌}
use mathlib.Core.List.{List, [], ◌∷◌, ◌++◌, map, append_assoc, append-nil}
use Rattle.lines.specs.Parser.{Parsed, good, fault, Parser, ◌>>=◌, return, row, end as ends, finish, whole}
use Rattle.model.specs.Model.{Job}
use Rattle.job_grammar.specs.Grammar.{JobText}
use Rattle.hall_model.specs.Hall.{Hall}
use Rattle.hall_model.specs.Limits.{most_lines, dearest_call}
use Rattle.job_grammar.specs.Reading.{meant_job}
use Rattle.hall_grammar.specs.Grammar.{HallText, meant_hall, job_behind, jobs_behind, hall_lines_lem}
use Rattle.hall_grammar.specs.Reading.{meaning, mapped, through, with_lines, line_behind, lines_behind, hall_rows}

-- ---- parsers seen through a function

-- two parsers, the second seen through f
through_bind : {A B C : Type 0} (f : B → C) (p : Parser A) (g : A → Parser B) (s : List ℕ) (l : ℕ) → through f (p >>= g) s l ≡ (p >>= λ a. through f (g a)) s l
unfolding through ◌>>=◌
through_bind {A} {B} {C} f p g s l = go (p s l)
  where
    go : (x : Parsed A) → mapped f (elim x [ good a s' l' ↦ g a s' l' | fault n m ↦ fault n m ]) ≡ elim x [ good a s' l' ↦ mapped f (g a s' l') | fault n m ↦ fault n m ]
    go (good a s' l') = refl
    go (fault n m) = refl

-- a value that is put into another, seen through f
through_put : {A B C : Type 0} (f : B → C) (h : A → B) (p : Parser A) (s : List ℕ) (l : ℕ) → through f (p >>= λ a. return (h a)) s l ≡ through (λ a. f (h a)) p s l
unfolding through ◌>>=◌ return
through_put {A} {B} {C} f h p s l = go (p s l)
  where
    go : (x : Parsed A) → mapped f (elim x [ good a s' l' ↦ good (h a) s' l' | fault n m ↦ fault n m ]) ≡ mapped (λ a. f (h a)) x
    go (good a s' l') = refl
    go (fault n m) = refl

-- ---- job by job

-- no job more
pub lines_none : (hall : Hall) (s : List ℕ) (l : ℕ) → lines_behind 0 hall s l ≡ good hall s l
unfolding lines_behind through jobs_behind return
lines_none hall s l = ap (λ (jobs : List Job). good (record { call = hall.call; jobs = jobs }) s l) (append-nil hall.jobs)

-- a job more: it is read behind the others, and then the rest behind it
pub lines_more : (n : ℕ) (hall : Hall) (s : List ℕ) (l : ℕ) → lines_behind (suc n) hall s l ≡ (line_behind hall >>= lines_behind n) s l
unfolding lines_behind line_behind through jobs_behind ◌>>=◌ return
lines_more n hall s l = go (job_behind hall.jobs s l)
  where
    inner : (t : JobText) (y : Parsed (List JobText)) → mapped (with_lines hall) (elim y [ good ts s' l' ↦ good (t ∷ ts) s' l' | fault k m ↦ fault k m ]) ≡ mapped (with_lines (with_lines hall (t ∷ []))) y
    inner t (good ts s' l') = ap (λ (jobs : List Job). good (record { call = hall.call; jobs = jobs }) s' l') (sym (append_assoc hall.jobs (meant_job t ∷ []) (map meant_job ts)))
    inner t (fault k m) = refl

    go : (x : Parsed JobText)
        → mapped (with_lines hall) (elim x [ good t s' l' ↦ elim (jobs_behind n (hall.jobs ++ (meant_job t ∷ [])) s' l') [ good ts s2 l2 ↦ good (t ∷ ts) s2 l2 | fault k m ↦ fault k m ] | fault k m ↦ fault k m ])
        ≡ elim (mapped (λ (t : JobText). with_lines hall (t ∷ [])) x) [ good h s' l' ↦ mapped (with_lines h) (jobs_behind n h.jobs s' l') | fault k m ↦ fault k m ]
    go (good t s' l') = inner t (jobs_behind n (hall.jobs ++ (meant_job t ∷ [])) s' l')
    go (fault k m) = refl

-- ---- the whole text

-- the lines of a hall, seen as the hall that they mean
pub rows_are : (s : List ℕ) (l : ℕ) → hall_rows s l ≡ through meant_hall hall_lines_lem s l
unfolding hall_rows hall_lines_lem lines_behind
rows_are s l = sym (
    through_bind meant_hall (row "machines=" 1 most_lines) _ s l
    ∙ ap (λ (f : ℕ → Parser Hall). (row "machines=" 1 most_lines >>= f) s l) (λ i n s' l'.
    (through_bind meant_hall (row "call=" 0 dearest_call) _ s' l'
    ∙ ap (λ (f : ℕ → Parser Hall). (row "call=" 0 dearest_call >>= f) s' l') (λ j c s2 l2. through_put meant_hall (λ (ts : List JobText). record { call = c; jobs = ts }) (jobs_behind n []) s2 l2 j)) i)
    )

-- and the whole text
pub rows_finish : (s : List ℕ) → finish (whole hall_rows s 1) ≡ meaning (finish (whole hall_lines_lem s 1))
unfolding whole ◌>>=◌ through return
rows_finish s = ap (λ (x : Parsed Hall). finish (elim x [ good a s' l' ↦ (ends >>= λ u. return a) s' l' | fault n m ↦ fault n m ])) (rows_are s 1) ∙ go (hall_lines_lem s 1)
  where
    inner : (t : HallText) (y : Parsed (Unit {0})) → finish (elim y [ good u s' l' ↦ good (meant_hall t) s' l' | fault n m ↦ fault n m ]) ≡ meaning (finish (elim y [ good u s' l' ↦ good t s' l' | fault n m ↦ fault n m ]))
    inner t (good u s' l') = refl
    inner t (fault n m) = refl

    go : (x : Parsed HallText) → finish (elim (mapped meant_hall x) [ good a s' l' ↦ (ends >>= λ u. return a) s' l' | fault n m ↦ fault n m ]) ≡ meaning (finish (elim x [ good t s' l' ↦ (ends >>= λ u. return t) s' l' | fault n m ↦ fault n m ]))
    go (good t s' l') = inner t (ends s' l')
    go (fault n m) = refl
