-- Two accepted hall texts that mean the same hall are answered alike: once a hall text is accepted, what is said is a function of the hall that it means. A hall's floor is the sum of its lines' own.
use mathlib.Core.Path.{◌≡◌, refl, sym, ap, ◌∙◌}
use mathlib.Core.Bool.{Bool}
use mathlib.Core.List.{List, [], ◌∷◌, map}
use Prim.Native.Nat.{ℕ, suc}
use Rattle.branch.specs.Lower.{add, total}
use Rattle.model.specs.Model.{Job}
use Rattle.model.specs.LowerBound.{bound_of}
use Rattle.lines.specs.Parser.{accepted}
use Rattle.answers.specs.Texts.{on_text}
use Rattle.hall_model.specs.Hall.{Hall}
use Rattle.hall_model.specs.Agenda.{Line, lines_from}
use Rattle.hall_model.specs.LowerBound.{hall_bound}
use Rattle.hall_model.proofs.Roots.{floor_lines}
use Rattle.hall_grammar.specs.Grammar.{HallText, meant_hall, read_hall_text}
use Rattle.hall_grammar.specs.Reading.{meaning, read_hall_lem}
use Rattle.hall_planning.specs.Hall.{on_hall, hall_said}
use Rattle.delivered.specs.Terms.{floors}

-- both texts are read as the same hall
read_alike : (s s' : List ℕ) (hall : Hall) → read_hall_lem s ≡ accepted hall → read_hall_lem s' ≡ accepted hall → (walk : ℕ) → hall_said s walk ≡ hall_said s' walk
unfolding hall_said
read_alike s s' hall e e' walk = ap (on_text 1 s (on_hall walk)) e ∙ sym (ap (on_text 1 s' (on_hall walk)) e')

-- two texts that mean the same hall
pub halls_by_meaning : (s s' : List ℕ) (t t' : HallText) → read_hall_text s ≡ accepted t → read_hall_text s' ≡ accepted t' → meant_hall t ≡ meant_hall t' → (walk : ℕ) → hall_said s walk ≡ hall_said s' walk
halls_by_meaning s s' t t' e e' same = read_alike s s' (meant_hall t) (ap meaning e) (ap meaning e' ∙ ap accepted (sym same))

-- the lines' own floors
lines_floors : (j : ℕ) (jobs : List Job) → total (λ (ln : Line) (p : List Bool). bound_of ln.job p) (lines_from j jobs) [] ≡ floors (map (λ (job : Job). bound_of job []) jobs)
unfolding lines_from
lines_floors j [] = refl
lines_floors j (job ∷ jobs) = ap (add (bound_of job [])) (lines_floors (suc j) jobs)

-- the floor is their sum
pub hall_floor : (hall : Hall) → hall_bound hall [] ≡ floors (map (λ (job : Job). bound_of job []) hall.jobs)
hall_floor hall = floor_lines hall ∙ lines_floors 0 hall.jobs
