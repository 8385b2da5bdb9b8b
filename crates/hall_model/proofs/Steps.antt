-- One node of the hall's walk, for proofs of code: the walk stands at a node with some agendas left to ask, and the tree below is theirs. Each answer changes what a listener has heard by what it is
-- told. So a call adds its price to the bound, a line's decision changes the bound of that line alone, and no call says no to the lines open there.
use mathlib.Core.Path.{◌≡◌, refl, sym, ap, ◌∙◌}
use mathlib.Core.Bool.{Bool, true, false, cond}
use mathlib.Core.List.{List, [], ◌∷◌, ◌++◌, append-nil, append_assoc}
use Prim.Native.Nat.{ℕ, suc, ◌+◌}
use native.Mathlib.Omega.{arith}
use lib.Seq.{append_snoc}
use borrow.Author.Tests.{eq-eqb, ne_eqb}
use Rattle.branch.specs.declared.Bound.{Bound}
use Rattle.branch.specs.Search.{full, snoc, Limited, with_best, limited, onward}
use Rattle.branch.specs.Questions.{ask_from, asked}
use Rattle.branch.proofs.Steps.{bound_at}
use Rattle.model.specs.Model.{Job}
use Rattle.model.specs.LowerBound.{inner}
use Rattle.hall_model.specs.Hall.{Hall, open_at}
use Rattle.hall_model.specs.Agenda.{Topic, crew, line, Agenda, over, raise, plain, hear_then, hear, removals, lines_asked, steps_asked, agenda_of, Line, to_line, to_crew, name_for, calls_at}
use Rattle.hall_model.specs.LowerBound.{priced, called_at}
use Rattle.hall_model.specs.Steps.{hear_all, Stands, Asks, tree_from}

-- nothing decided, nothing heard
all_quiet : (tells : Topic → Bool → List Bool) (left : List Agenda) → hear_all tells left [] ≡ []
unfolding hear_then
all_quiet tells [] = refl
all_quiet tells (over ∷ left) = all_quiet tells left
all_quiet tells (raise t inner next ∷ left) = refl

module _ (all : Agenda) where
  -- at the root the whole agenda is left to ask
  pub stands_root : Stands all [] (all ∷ [])
  stands_root tells q = ap (λ (l : List Bool). l ++ hear tells all q) (sym (all_quiet tells (all ∷ [])))

  module _ (p : List Bool) (left : List Agenda) where
    -- where an agenda is over, on with the next one
    pub stands_over : Stands all p (over ∷ left) → Stands all p left
    unfolding hear_then
    stands_over s tells q = s tells q

    module _ (t : Topic) (inner next : Agenda) (s : Stands all p (raise t inner next ∷ left)) where
      -- where a question is next, each answer lets a listener hear what its topic tells
      pub stands_asks : Asks all p t
      unfolding hear_then
      stands_asks tells false =
          s tells (false ∷ []) ∙ ap (λ (l : List Bool). hear tells all p ++ (tells t false ++ l)) (all_quiet tells (next ∷ left)) ∙ ap (λ (l : List Bool). hear tells all p ++ l) (append-nil (tells t false))
      stands_asks tells true =
          s tells (true ∷ []) ∙ ap (λ (l : List Bool). hear tells all p ++ (tells t true ++ l)) (all_quiet tells (inner ∷ next ∷ left)) ∙ ap (λ (l : List Bool). hear tells all p ++ l) (append-nil (tells t true))

      -- after a no the next questions are left, after a yes the inner ones before them
      pub stands_no : Stands all (snoc p false) (next ∷ left)
      unfolding hear_then
      stands_no tells q =
          ap (hear tells all) (append_snoc p false q) ∙ s tells (false ∷ q) ∙ sym (append_assoc (hear tells all p) (tells t false) (hear_all tells (next ∷ left) q))
          ∙ ap (λ (l : List Bool). l ++ hear_all tells (next ∷ left) q) (sym (stands_asks tells false))

      -- after a yes the inner questions are left to ask, and then the next ones
      pub stands_yes : Stands all (snoc p true) (inner ∷ next ∷ left)
      unfolding hear_then
      stands_yes tells q =
          ap (hear tells all) (append_snoc p true q) ∙ s tells (true ∷ q) ∙ sym (append_assoc (hear tells all p) (tells t true) (hear_all tells (inner ∷ next ∷ left) q))
          ∙ ap (λ (l : List Bool). l ++ hear_all tells (inner ∷ next ∷ left) q) (sym (stands_asks tells true))

-- ---- the tree below

module _ (bound : List Bool → Bound) where
  -- the tree of an agenda is that of the agenda alone left to ask at the root
  pub tree_root : (all : Agenda) → asked bound (plain all) ≡ tree_from bound (all ∷ []) []
  unfolding tree_from
  tree_root all = λ i. ask_from bound (plain all) (λ p. full (bound p)) []

  -- an agenda that is over leaves the tree to the next ones
  pub tree_over : (left : List Agenda) (p : List Bool) → tree_from bound (over ∷ left) p ≡ tree_from bound left p
  unfolding tree_from ask_from
  tree_over left p = refl

  -- the bound of the tree at a node is the node's
  pub tree_bound : (left : List Agenda) (p : List Bool) → bound_at (tree_from bound left p) ≡ bound p
  unfolding tree_from ask_from
  tree_bound [] p = refl
  tree_bound (over ∷ left) p = tree_bound left p
  tree_bound (raise t inner next ∷ left) p = refl

  -- the walk on: where nothing is left to ask the node is full; else no first, then yes
  pub on_end : (L : ℕ) (p : List Bool) (st : Limited) → onward L (tree_from bound [] p) p st ≡ with_best (bound p) p st
  unfolding tree_from
  on_end L p st = refl

  -- walking on where a question is next is walking its no, with what follows, and then its yes
  pub on_asks : (L : ℕ) (t : Topic) (inner next : Agenda) (left : List Agenda) (p : List Bool) (st : Limited)
      → onward L (tree_from bound (raise t inner next ∷ left) p) p st
      ≡ limited L (tree_from bound (inner ∷ next ∷ left) (snoc p true)) (snoc p true) (limited L (tree_from bound (next ∷ left) (snoc p false)) (snoc p false) st)
  unfolding tree_from ask_from
  on_asks L t inner next left p st = refl

-- ---- the hall's agenda, question by question

-- a step, and then the steps after it
pub steps_next : (jobs : List Job) (step : ℕ) (steps : List ℕ) → steps_asked jobs (step ∷ steps) ≡ raise (crew step) (lines_asked step 0 jobs) (steps_asked jobs steps)
unfolding steps_asked
steps_next jobs step steps = refl

-- past the last step there is nothing left to ask
pub steps_end_lem : (jobs : List Job) → steps_asked jobs [] ≡ over
unfolding steps_asked
steps_end_lem jobs = refl

-- a line that is open, one that is not, and no more lines
pub lines_open : (step j : ℕ) (job : Job) (jobs : List Job) → open_at job step ≡ true → lines_asked step j (job ∷ jobs) ≡ raise (line j) (removals j (inner job)) (lines_asked step (suc j) jobs)
unfolding lines_asked
lines_open step j job jobs e = rw e

-- a line that is not open at the step is asked nothing there
pub lines_shut : (step j : ℕ) (job : Job) (jobs : List Job) → open_at job step ≡ false → lines_asked step j (job ∷ jobs) ≡ lines_asked step (suc j) jobs
unfolding lines_asked
lines_shut step j job jobs e = rw e

-- past the last line there is nothing left to ask at a step
pub lines_end : (step j : ℕ) → lines_asked step j [] ≡ over
unfolding lines_asked
lines_end step j = refl

-- a removal, and no more of them
pub removals_next : (j k : ℕ) → removals j (suc k) ≡ raise (line j) over (removals j k)
unfolding removals
removals_next j k = refl

-- where no removal is left there is nothing left to ask of the stop
pub removals_end : (j : ℕ) → removals j 0 ≡ over
unfolding removals
removals_end j = refl

-- ---- the hall's bound after one decision more

priced_more : (n : ℕ) (cs : List Bool) → priced n (cs ++ (true ∷ [])) ≡ priced n cs + n
priced_more n [] = omega arith
priced_more n (c ∷ cs) = omega (arith, priced_more n cs)

module _ (hall : Hall) (p : List Bool) where
  -- a call: every line stays where it is, and the price of a call is added
  pub call_paid : (step : ℕ) → Asks (agenda_of hall) p (crew step) → called_at hall (snoc p true) ≡ called_at hall p + hall.call
  call_paid step a = ap (priced hall.call) (a to_crew true) ∙ priced_more hall.call (calls_at hall p)

  -- a call tells no line anything
  pub call_name : (step : ℕ) → Asks (agenda_of hall) p (crew step) → (ln : Line) → name_for hall ln (snoc p true) ≡ name_for hall ln p
  call_name step a ln = a (to_line ln) true ∙ append-nil (name_for hall ln p)

  -- no call: nothing is added, and each line open there has said no
  pub no_call_paid : (step : ℕ) → Asks (agenda_of hall) p (crew step) → called_at hall (snoc p false) ≡ called_at hall p
  no_call_paid step a = ap (priced hall.call) (a to_crew false ∙ append-nil (calls_at hall p))

  -- no call tells a no to each line that is open at the step, and nothing to the others
  pub no_call_name : (step : ℕ) → Asks (agenda_of hall) p (crew step) → (ln : Line) → name_for hall ln (snoc p false) ≡ name_for hall ln p ++ cond (open_at ln.job step) (false ∷ []) []
  no_call_name step a ln = a (to_line ln) false

  -- a line's decision: it is that line's, and nothing else changes
  module _ (j : ℕ) (a : Asks (agenda_of hall) p (line j)) (x : Bool) where
    -- a line's decision leaves the calls to pay as they are
    pub line_paid : called_at hall (snoc p x) ≡ called_at hall p
    line_paid = ap (priced hall.call) (a to_crew x ∙ append-nil (calls_at hall p))

    -- a line's decision is told to that line
    pub own_name : (ln : Line) → ln.place ≡ j → name_for hall ln (snoc p x) ≡ snoc (name_for hall ln p) x
    own_name ln e = a (to_line ln) x ∙ ap (λ (o : Bool). name_for hall ln p ++ cond o (x ∷ []) []) (eq-eqb ln.place j e)

    -- a line's decision tells nothing to the other lines
    pub other_name : (ln : Line) → (ln.place ≡ j → ⊥) → name_for hall ln (snoc p x) ≡ name_for hall ln p
    other_name ln n = a (to_line ln) x ∙ ap (λ (o : Bool). name_for hall ln p ++ cond o (x ∷ []) []) (ne_eqb ln.place j n) ∙ append-nil (name_for hall ln p)
