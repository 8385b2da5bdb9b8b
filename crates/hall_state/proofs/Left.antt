-- What is left to ask at a spot: the question there, and what is left after each answer. Lists of agendas that are asked the same way.
use Prim.Native.Nat.{ℕ, zero, suc, ◌+◌, ◌-◌, ◌<◌, ◌≤◌}
use mathlib.Core.Path.{◌≡◌, refl, sym, ap, subst, ◌∙◌}
use mathlib.Core.Bool.{Bool, true, false}
use mathlib.Core.List.{List, [], ◌∷◌}
use native.Mathlib.Omega.{arith}
use lib.ListN.{length, drop}
use Rattle.std.proofs.lemmas.List.{drop_more, drop_all}
use Rattle.branch.specs.declared.Bound.{Bound}
use Rattle.branch.specs.Search.{snoc, Limited, limited, onward}
use Rattle.model.specs.Model.{Job}
use Rattle.model.specs.LowerBound.{inner}
use Rattle.hall_model.specs.Hall.{Hall, Placed, open_at}
use Rattle.hall_model.specs.Agenda.{Topic, crew, line, Agenda, over, raise, hear_then, removals, lines_asked, steps_asked, crew_steps}
use Rattle.hall_model.specs.Steps.{Stands, Asks, tree_from}
use Rattle.hall_model.proofs.Steps.{stands_over, stands_asks, stands_no, stands_yes, tree_over, on_asks, steps_next, steps_end_lem, lines_open, lines_end, removals_next, removals_end}
use Rattle.hall_steps.specs.Steps.{next_open_lem}
use Rattle.hall_steps.specs.Table.{step_count, step_at, CrewTable}
use Rattle.hall_steps.proofs.Asked.{drop_line, next_asked}
use Rattle.hall_state.specs.declared.Question.{Question}
use Rattle.hall_state.specs.declared.Question.TheVariants.{CrewCall, LineStop, PartRemoval}
use Rattle.hall_steps.specs.declared.CrewSteps.{CrewSteps}
use Rattle.hall_state.specs.declared.Spot.{Spot}
use Rattle.hall_state.specs.Spots.{inner_at, call_left, line_left, left_at, below_at, left_of, left_below, Formed, Asked}

-- asked the same way: what is heard, and the tree below
pub record SameLeft (l l' : List Agenda) : Type 0 where
  -- a node where the first list is what is left to ask is one where the second is
  pub stands : (all : Agenda) (p : List Bool) → Stands all p l → Stands all p l'
  -- the trees below a name are equal for the two lists, with every bound
  pub tree : (bound : List Bool → Bound) (p : List Bool) → tree_from bound l p ≡ tree_from bound l' p

-- equal lists of agendas are asked the same way
pub same_path : {l l' : List Agenda} → l ≡ l' → SameLeft l l'
same_path {l} {l'} e = record { stands = λ all p. subst (Stands all p) e; tree = λ bound p. ap (λ (m : List Agenda). tree_from bound m p) e }

-- where a list is asked the same way as a second and that as a third, the first is asked as the third
pub same_then : {l l' l'' : List Agenda} → SameLeft l l' → SameLeft l' l'' → SameLeft l l''
same_then a b = record { stands = λ all p s. b.stands all p (a.stands all p s); tree = λ bound p. a.tree bound p ∙ b.tree bound p }

-- an agenda that is over
over_off : (l : List Agenda) → SameLeft (over ∷ l) l
over_off l = record { stands = λ all p. stands_over all p l; tree = λ bound p. tree_over bound l p }

over_on : (l : List Agenda) → SameLeft l (over ∷ l)
unfolding hear_then
over_on l = record { stands = λ all p s tells q. s tells q; tree = λ bound p. sym (tree_over bound l p) }

-- ---- a question

-- the first question is on the topic t, and what is left after a no and after a yes
pub record Raised (l none some : List Agenda) (t : Topic) : Type 0 where
  -- the agenda that is asked first after a yes
  pub inner : Agenda
  -- the agenda that is asked after a no, and after a yes behind the inner one
  pub next : Agenda
  -- the agendas that are left behind this one
  pub rest : List Agenda
  -- the list is asked as an agenda that raises the topic, with the rest behind it
  pub here : SameLeft l (raise t inner next ∷ rest)
  -- what is left after a no is asked the same way as the next agenda and the rest
  pub after_no : SameLeft (next ∷ rest) none
  -- what is left after a yes is asked the same way as the inner agenda, the next one and the rest
  pub after_yes : SameLeft (inner ∷ next ∷ rest) some

module _ {l none some : List Agenda} {t : Topic} (r : Raised l none some t) (all : Agenda) (p : List Bool) where
  -- at a node where this list is left to ask, the question is on the topic t
  pub raised_asks : Stands all p l → Asks all p t
  raised_asks s = stands_asks all p r.rest t r.inner r.next (r.here.stands all p s)

  -- the node after a no has the list for a no left to ask
  pub raised_no : Stands all p l → Stands all (snoc p false) none
  raised_no s = r.after_no.stands all (snoc p false) (stands_no all p r.rest t r.inner r.next (r.here.stands all p s))

  -- the node after a yes has the list for a yes left to ask
  pub raised_yes : Stands all p l → Stands all (snoc p true) some
  raised_yes s = r.after_yes.stands all (snoc p true) (stands_yes all p r.rest t r.inner r.next (r.here.stands all p s))

-- no first, then yes
pub raised_both : {l none some : List Agenda} {t : Topic} → Raised l none some t → (bound : List Bool → Bound) (L : ℕ) (p : List Bool) (st : Limited)
    → onward L (tree_from bound l p) p st ≡ limited L (tree_from bound some (snoc p true)) (snoc p true) (limited L (tree_from bound none (snoc p false)) (snoc p false) st)
raised_both {l} {none} {some} {t} r bound L p st =
    ap (λ T. onward L T p st) (r.here.tree bound p) ∙ on_asks bound L t r.inner r.next r.rest p st
    ∙ (λ i. limited L (r.after_yes.tree bound (snoc p true) i) (snoc p true) (limited L (r.after_no.tree bound (snoc p false) i) (snoc p false) st))

-- ---- at a spot

-- the holding parts at place d are those of the job that stands there
pub inner_at_lem : (jobs : List Job) (d : ℕ) (job : Job) → Placed jobs d job → inner_at jobs d ≡ inner job
inner_at_lem [] d job p = absurd p
inner_at_lem (j ∷ jobs) zero job p = ap inner p
inner_at_lem (j ∷ jobs) (suc d) job p = inner_at_lem jobs d job p

module _ (hall : Hall) where
  abbrev behind : ℕ → List Agenda
  behind k = steps_asked hall.jobs (drop (k + 1) (crew_steps hall)) ∷ []

  call_raised : (k : ℕ) → k < step_count hall → Raised (call_left hall k) (call_left hall (k + 1)) (line_left hall k 0 0) (crew (step_at hall k))
  call_raised k l = record {
    inner = lines_asked (step_at hall k) 0 hall.jobs;
    next = steps_asked hall.jobs (drop (k + 1) (crew_steps hall));
    rest = [];
    here = same_path (ap (λ (m : Agenda). m ∷ []) (ap (steps_asked hall.jobs) (drop_more (crew_steps hall) k 0 l) ∙ steps_next hall.jobs (step_at hall k) (drop (k + 1) (crew_steps hall))));
    after_no = same_path refl;
    after_yes = same_then (over_on (lines_asked (step_at hall k) 0 hall.jobs ∷ behind k)) (same_path (ap (λ (m : Agenda). m ∷ lines_asked (step_at hall k) 0 hall.jobs ∷ behind k) (sym (removals_end (0 - 1)))));
  }

  -- no removal is left
  quiet : (k d : ℕ) → SameLeft (line_left hall k 0 d) (lines_asked (step_at hall k) d (drop d hall.jobs) ∷ behind k)
  quiet k d = same_then (same_path (ap (λ (m : Agenda). m ∷ lines_asked (step_at hall k) d (drop d hall.jobs) ∷ behind k) (removals_end (d - 1)))) (over_off (lines_asked (step_at hall k) d (drop d hall.jobs) ∷ behind k))

  silent : (k d : ℕ) → SameLeft (lines_asked (step_at hall k) d (drop d hall.jobs) ∷ behind k) (line_left hall k 0 d)
  silent k d = same_then (over_on (lines_asked (step_at hall k) d (drop d hall.jobs) ∷ behind k)) (same_path (ap (λ (m : Agenda). m ∷ lines_asked (step_at hall k) d (drop d hall.jobs) ∷ behind k) (sym (removals_end (d - 1)))))

  line_raised : (k d : ℕ) (job : Job) → Placed hall.jobs d job → drop d hall.jobs ≡ job ∷ drop (suc d) hall.jobs → open_at job (step_at hall k) ≡ true
      → Raised (line_left hall k 0 d) (line_left hall k 0 (d + 1)) (line_left hall k (inner_at hall.jobs d - 0) (d + 1)) (line d)
  line_raised k d job pl dr op =
      let step = step_at hall k in
      let jobs = hall.jobs in
      let y : suc d ≡ d + 1 = omega arith in
      let x : d ≡ d + 1 - 1 = omega arith in
      let z : inner job ≡ inner_at jobs d - 0 = omega (arith, inner_at_lem jobs d job pl) in
      record {
        inner = removals d (inner job);
        next = lines_asked step (suc d) (drop (suc d) jobs);
        rest = behind k;
        here = same_then (quiet k d) (same_path (ap (λ (m : Agenda). m ∷ behind k) (ap (lines_asked step d) dr ∙ lines_open step d job (drop (suc d) jobs) op)));
        after_no = same_then (same_path (ap (λ (j : ℕ). lines_asked step j (drop j jobs) ∷ behind k) y)) (silent k (d + 1));
        after_yes = same_path (λ i. removals (x i) (z i) ∷ lines_asked step (y i) (drop (y i) jobs) ∷ behind k);
      }

  removal_raised : (k d next : ℕ) → next < inner_at hall.jobs d
      → Raised (line_left hall k (inner_at hall.jobs d - next) (d + 1)) (line_left hall k (inner_at hall.jobs d - (next + 1)) (d + 1)) (line_left hall k (inner_at hall.jobs d - (next + 1)) (d + 1)) (line d)
  removal_raised k d next l =
      let jobs = hall.jobs in
      let m = inner_at jobs d - (next + 1) in
      let z : inner_at jobs d - next ≡ suc m = omega arith in
      let x : d + 1 - 1 ≡ d = omega arith in
      record {
        inner = over;
        next = removals (d + 1 - 1) m;
        rest = lines_asked (step_at hall k) (d + 1) (drop (d + 1) jobs) ∷ behind k;
        here = same_path (ap (λ (a : Agenda). a ∷ lines_asked (step_at hall k) (d + 1) (drop (d + 1) jobs) ∷ behind k) (ap (removals (d + 1 - 1)) z ∙ removals_next (d + 1 - 1) m ∙ ap (λ (j : ℕ). raise (line j) over (removals (d + 1 - 1) m)) x));
        after_no = same_path refl;
        after_yes = over_off (removals (d + 1 - 1) m ∷ lines_asked (step_at hall k) (d + 1) (drop (d + 1) jobs) ∷ behind k);
      }

  -- on to the next line that is open, or the next step
  pub on_line : (ats : CrewSteps) (k j m : ℕ) → CrewTable hall ats → k < step_count hall → j + m ≡ length hall.jobs → SameLeft (line_left hall k 0 j) (line_left hall k 0 (next_open_lem ats.before k j m))
  on_line ats k j m t l n =
      same_then (quiet k j) (same_then (same_path (ap (λ (a : Agenda). a ∷ behind k) (next_asked hall.jobs ats.before k (step_at hall k) (t.tells k l) j m n))) (silent k (next_open_lem ats.before k j m)))

  -- where no line is left at a step, what is left to ask begins with the next step's call
  pub on_step : (k d : ℕ) → length hall.jobs ≤ d → SameLeft (line_left hall k 0 d) (call_left hall (k + 1))
  on_step k d l =
      same_then (quiet k d) (same_then (same_path (ap (λ (a : Agenda). a ∷ behind k) (ap (lines_asked (step_at hall k) d) (drop_all d hall.jobs l) ∙ lines_end (step_at hall k) d))) (over_off (behind k)))

  -- nothing is left behind the last step
  pub on_end : (k : ℕ) → step_count hall ≤ k → SameLeft (call_left hall k) []
  on_end k l = same_then (same_path (ap (λ (a : Agenda). a ∷ []) (ap (steps_asked hall.jobs) (drop_all k (crew_steps hall) l) ∙ steps_end_lem hall.jobs))) (over_off [])

  -- the question's topic
  abbrev pub topic_at : ℕ → ℕ → Question → Topic
  topic_at step d CrewCall = crew (step_at hall step)
  topic_at step d LineStop = line d
  topic_at step d (PartRemoval stop) = line d

  -- at a spot
  abbrev pub topic_of : Spot → Topic
  topic_of p = topic_at p.step p.line p.asks

  -- the question at a spot
  pub raised : {ats : CrewSteps} {p : Spot} → CrewTable hall ats → Formed hall ats p → Asked hall ats p → Raised (left_of hall p) (left_below hall false p) (left_below hall true p) (topic_of p)
  raised {ats} {p} t f a = go p.asks refl
    where
      go : (q : Question) → p.asks ≡ q → Raised (left_at hall p.step p.line q) (below_at hall false p.step p.line q) (below_at hall true p.step p.line q) (topic_at p.step p.line q)
      go CrewCall e = call_raised p.step (a.call e)
      go (PartRemoval stop) e = removal_raised p.step p.line stop.next (a.removal stop e)
      go LineStop e =
          let o = a.line e in
          let j = drop_line hall.jobs p.line o.0 in
          line_raised p.step p.line j.0 j.1 j.2 (t.tells p.step (f.line e).0 p.line j.0 j.1 ∙ o.1)
