-- The names of the hall's full nodes: a turn for each step, no call, or a call and a block from each line open there. What each line and the crew hear of such a name.
use mathlib.Core.Path.{◌≡◌, refl, sym, ap, subst, ◌∙◌}
use mathlib.Core.Bool.{Bool, true, false, cond}
use mathlib.Core.List.{List, [], ◌∷◌, ◌++◌, map, append_assoc}
use Prim.Native.Nat.{ℕ, zero, suc, ◌+◌, ◌≤◌}
use native.Mathlib.Omega.{arith}
use lib.ListN.{length, get_or, take, drop, length-append, take-append-drop}
use lib.Seq.{drop_at, length-take-le}
use borrow.Author.Tests.{eq-eqb, ne_eqb}
use Rattle.branch.specs.Questions.{done, Answers, Full, repeated}
use Rattle.model.specs.Model.{Job}
use Rattle.model.specs.Decisions.{concat}
use Rattle.model.specs.LowerBound.{inner}
use Rattle.model.proofs.Blocks.{Whole, inner_answered, inner_answers}
use Rattle.hall_model.specs.Hall.{Placed, open_at}
use Rattle.hall_model.specs.Agenda.{Topic, line, Agenda, raise, plain, hear_then, hear, removals, lines_asked, steps_asked, Line, to_line, to_crew}
use Rattle.hall_model.specs.Decisions.{turn}

-- ---- a line's block at a step, by whether the crew is called and whether the line is open

-- a line's block at a step: nothing where it is not open, a no without a call, after a call a whole block
abbrev pub Cell : Bool → Bool → ℕ → List Bool → Type 0
Cell called false h b = b ≡ []
Cell false true h b = b ≡ false ∷ []
Cell true true h b = Whole h b

-- what a listener is told of line j: its decisions, or nothing
abbrev Tells : (Topic → Bool → List Bool) → ℕ → Bool → Type 0
Tells tells j own = (x : Bool) → tells (line j) x ≡ cond own (x ∷ []) []

own_front : (own x : Bool) (u : List Bool) → cond own (x ∷ []) [] ++ cond own u [] ≡ cond own (x ∷ u) []
own_front true x u = refl
own_front false x u = refl

removals-plain : (j h : ℕ) → plain (removals j h) ≡ repeated h done done
unfolding removals
removals-plain j zero = refl
removals-plain j (suc h) = rw (removals-plain j h)

removals_heard : (tells : Topic → Bool → List Bool) (j : ℕ) (own : Bool) → Tells tells j own → (h : ℕ) (rest : List Bool → List Bool) (u r : List Bool) → length u ≡ h
    → hear_then tells (removals j h) rest (u ++ r) ≡ cond own u [] ++ rest r
unfolding removals hear_then
removals_heard tells j true e zero rest [] r l = refl
removals_heard tells j false e zero rest [] r l = refl
removals_heard tells j own e zero rest (x ∷ u) r l = absurd (omega arith)
removals_heard tells j own e (suc h) rest [] r l = absurd (omega arith)
removals_heard tells j own e (suc h) rest (false ∷ u) r l =
    (λ i. e false i ++ removals_heard tells j own e h rest u r (omega arith) i) ∙ sym (append_assoc (cond own (false ∷ []) []) (cond own u []) (rest r)) ∙ ap (λ (l : List Bool). l ++ rest r) (own_front own false u)
removals_heard tells j own e (suc h) rest (true ∷ u) r l =
    (λ i. e true i ++ removals_heard tells j own e h rest u r (omega arith) i) ∙ sym (append_assoc (cond own (true ∷ []) []) (cond own u []) (rest r)) ∙ ap (λ (l : List Bool). l ++ rest r) (own_front own true u)

-- the questions to one line after a call, if it is open, and the next ones
module _ (j h : ℕ) (next : Agenda) where
  abbrev asks_line : Bool → Agenda
  asks_line o = cond o (raise (line j) (removals j h) next) next

  cell_read : (P : List Bool → Type 0) (o : Bool) (s : List Bool) → Answers (plain (asks_line o)) P s
      → (b r : List Bool) × Cell true o h b × (s ≡ b ++ r) × Answers (plain next) P r
  cell_read P false s a = ([], s, refl, refl, a)
  cell_read P true [] a = absurd a
  cell_read P true (false ∷ s) a = (false ∷ [], s, refl, refl, a)
  cell_read P true (true ∷ s) a =
      let i = inner_answered h (Answers (plain next) P) s (rw (removals-plain j h) at a) in
      (true ∷ take h s, drop h s, length-take-le h s i.0, ap (λ (l : List Bool). true ∷ l) (sym (take-append-drop h s)), i.1)

  cell_asked : (P : List Bool → Type 0) (o : Bool) (b r : List Bool) → Cell true o h b → Answers (plain next) P r → Answers (plain (asks_line o)) P (b ++ r)
  cell_asked P false b r c a = rw c a
  cell_asked P true [] r c a = absurd c
  cell_asked P true (false ∷ b) r c a = rw c a
  cell_asked P true (true ∷ b) r c a =
      rw (removals-plain j h)
      (inner_answers h (Answers (plain next) P) (b ++ r) (omega (arith, length-append b r, c)) (rw (drop_at b r h c) a))

  cell_heard : (tells : Topic → Bool → List Bool) (own : Bool) → Tells tells j own → (o : Bool) (rest : List Bool → List Bool) (b r : List Bool) → Cell true o h b
      → hear_then tells (asks_line o) rest (b ++ r) ≡ cond own b [] ++ hear_then tells next rest r
  unfolding hear_then
  cell_heard tells true e false rest b r c = rw c
  cell_heard tells false e false rest b r c = rw c
  cell_heard tells own e true rest [] r c = absurd c
  cell_heard tells own e true rest (false ∷ b) r c = rw (c, e false)
  cell_heard tells own e true rest (true ∷ b) r c =
      (λ i. e true i ++ removals_heard tells j own e h (hear_then tells next rest) b r c i)
      ∙ sym (append_assoc (cond own (true ∷ []) []) (cond own b []) (hear_then tells next rest r)) ∙ ap (λ (l : List Bool). l ++ hear_then tells next rest r) (own_front own true b)

-- ---- the lines' blocks at a step

-- the lines' blocks at a step, one for each line, by whether the crew is called and the line is open
abbrev pub Row : Bool → ℕ → List Job → List (List Bool) → Type 0
Row called step [] [] = Unit {0}
Row called step [] (b ∷ bs) = ⊥
Row called step (job ∷ jobs) [] = ⊥
Row called step (job ∷ jobs) (b ∷ bs) = Cell called (open_at job step) (inner job) b × Row called step jobs bs

-- at a step there are as many blocks as lines
pub row_length : (called : Bool) (step : ℕ) (jobs : List Job) (bs : List (List Bool)) → Row called step jobs bs → length bs ≡ length jobs
row_length called step [] [] w = refl
row_length called step [] (b ∷ bs) w = absurd w
row_length called step (job ∷ jobs) [] w = absurd w
row_length called step (job ∷ jobs) (b ∷ bs) w = ap suc (row_length called step jobs bs w.1)

-- the block of the line at place d is as the call and the line's openings ask
pub cell_at : (called : Bool) (step : ℕ) (jobs : List Job) (bs : List (List Bool)) → Row called step jobs bs → (d : ℕ) (job : Job) → Placed jobs d job
    → Cell called (open_at job step) (inner job) (get_or bs d [])
cell_at called step [] bs w d job e = absurd e
cell_at called step (j ∷ jobs) [] w d job e = absurd w
cell_at called step (j ∷ jobs) (b ∷ bs) w zero job e = subst (λ (x : Job). Cell called (open_at x step) (inner x) b) e w.0
cell_at called step (j ∷ jobs) (b ∷ bs) w (suc d) job e = cell_at called step jobs bs w.1 d job e

-- a step's blocks, read from what comes after a call
record Read (step : ℕ) (jobs : List Job) (P : List Bool → Type 0) (s : List Bool) : Type 0 where
  said : List (List Bool)
  rest : List Bool
  row : Row true step jobs said
  is : s ≡ concat said ++ rest
  then : P rest

row_read : (step j : ℕ) (jobs : List Job) (P : List Bool → Type 0) (s : List Bool) → Answers (plain (lines_asked step j jobs)) P s → Read step jobs P s
unfolding lines_asked concat
row_read step j [] P s a = record { said = []; rest = s; row = tt; is = refl; then = a }
row_read step j (job ∷ jobs) P s a =
    let c = cell_read j (inner job) (lines_asked step (suc j) jobs) P (open_at job step) s a in
    let r = row_read step (suc j) jobs P c.1 c.4 in
    record {
      said = c.0 ∷ r.said;
      rest = r.rest;
      row = (c.2, r.row);
      is = c.3 ∙ ap (λ (l : List Bool). c.0 ++ l) r.is ∙ sym (append_assoc c.0 (concat r.said) r.rest);
      then = r.then;
    }

row_asked : (step j : ℕ) (jobs : List Job) (P : List Bool → Type 0) (bs : List (List Bool)) (r : List Bool) → Row true step jobs bs → P r
    → Answers (plain (lines_asked step j jobs)) P (concat bs ++ r)
unfolding lines_asked concat
row_asked step j [] P [] r w a = a
row_asked step j [] P (b ∷ bs) r w a = absurd w
row_asked step j (job ∷ jobs) P [] r w a = absurd w
row_asked step j (job ∷ jobs) P (b ∷ bs) r w a =
    rw (append_assoc b (concat bs) r)
    (cell_asked j (inner job) (lines_asked step (suc j) jobs) P (open_at job step) b (concat bs ++ r) w.0 (row_asked step (suc j) jobs P bs r w.1 a))

-- a listener who is told nothing of the lines from place j on
row_silent : (tells : Topic → Bool → List Bool) (step j : ℕ) → ((k : ℕ) → j ≤ k → Tells tells k false) → (jobs : List Job) (rest : List Bool → List Bool) (bs : List (List Bool)) (r : List Bool)
    → Row true step jobs bs → hear_then tells (lines_asked step j jobs) rest (concat bs ++ r) ≡ rest r
unfolding lines_asked concat hear_then
row_silent tells step j e [] rest [] r w = refl
row_silent tells step j e [] rest (b ∷ bs) r w = absurd w
row_silent tells step j e (job ∷ jobs) rest [] r w = absurd w
row_silent tells step j e (job ∷ jobs) rest (b ∷ bs) r w =
    ap (hear_then tells (lines_asked step j (job ∷ jobs)) rest) (append_assoc b (concat bs) r)
    ∙ cell_heard j (inner job) (lines_asked step (suc j) jobs) tells false (e j (omega arith)) (open_at job step) rest b (concat bs ++ r) w.0
    ∙ row_silent tells step (suc j) (λ k l. e k (omega arith)) jobs rest bs r w.1

-- the line at place j + d, of the lines from place j on
row_heard : (tells : Topic → Bool → List Bool) (step j d : ℕ) → Tells tells (j + d) true → ((k : ℕ) → (k ≡ j + d → ⊥) → Tells tells k false)
    → (jobs : List Job) (rest : List Bool → List Bool) (bs : List (List Bool)) (r : List Bool)
    → Row true step jobs bs → hear_then tells (lines_asked step j jobs) rest (concat bs ++ r) ≡ get_or bs d [] ++ rest r
unfolding lines_asked concat hear_then
row_heard tells step j zero own e [] rest [] r w = refl
row_heard tells step j (suc d) own e [] rest [] r w = refl
row_heard tells step j d own e [] rest (b ∷ bs) r w = absurd w
row_heard tells step j d own e (job ∷ jobs) rest [] r w = absurd w
row_heard tells step j zero own e (job ∷ jobs) rest (b ∷ bs) r w =
    let z : j + 0 ≡ j = omega arith in
    ap (hear_then tells (lines_asked step j (job ∷ jobs)) rest) (append_assoc b (concat bs) r)
    ∙ cell_heard j (inner job) (lines_asked step (suc j) jobs) tells true (subst (λ (k : ℕ). Tells tells k true) z own) (open_at job step) rest b (concat bs ++ r) w.0
    ∙ ap (λ (l : List Bool). b ++ l) (row_silent tells step (suc j) (λ k l. e k (λ q. absurd (omega arith))) jobs rest bs r w.1)
row_heard tells step j (suc d) own e (job ∷ jobs) rest (b ∷ bs) r w =
    let z : j + suc d ≡ suc j + d = omega arith in
    ap (hear_then tells (lines_asked step j (job ∷ jobs)) rest) (append_assoc b (concat bs) r)
    ∙ cell_heard j (inner job) (lines_asked step (suc j) jobs) tells false (e j (λ q. absurd (omega arith))) (open_at job step) rest b (concat bs ++ r) w.0
    ∙ row_heard tells step (suc j) d (subst (λ (k : ℕ). Tells tells k true) z own) (λ k q. e k (λ f. q (f ∙ z))) jobs rest bs r w.1

-- ---- the turns of a full node

-- whether the crew is called at a step, and the lines' blocks there
pub record Turn : Type 0 where
  -- whether the crew is called at the step
  pub called : Bool
  -- the lines' blocks at the step, in the lines' order
  pub said : List (List Bool)

-- a turn for each step
abbrev pub Turns : List Job → List ℕ → List Turn → Type 0
Turns jobs [] [] = Unit {0}
Turns jobs [] (t ∷ ts) = ⊥
Turns jobs (step ∷ steps) [] = ⊥
Turns jobs (step ∷ steps) (t ∷ ts) = Row t.called step jobs t.said × Turns jobs steps ts

-- the name they spell
unfoldable pub spelled : List Turn → List Bool
spelled [] = []
spelled (t ∷ ts) = turn t.called t.said ++ spelled ts

-- one line's blocks
abbrev pub column : ℕ → List Turn → List (List Bool)
column d ts = map (λ (t : Turn). get_or t.said d []) ts

-- the calls
unfoldable pub called : List Turn → List Bool
called [] = []
called (t ∷ ts) = cond t.called (true ∷ called ts) (called ts)

module _ (jobs : List Job) where
  -- every full node's name is spelled by turns; where there is no call each line open there says no
  silent_row : (step : ℕ) (js : List Job) → (bs : List (List Bool)) × Row false step js bs
  silent_row step [] = ([], tt)
  silent_row step (job ∷ js) = let r = silent_row step js in let c = go (open_at job step) in (c.0 ∷ r.0, (c.1, r.1))
    where
      go : (o : Bool) → (b : List Bool) × Cell false o (inner job) b
      go true = (false ∷ [], refl)
      go false = ([], refl)

  -- the name of every full node is spelled by a turn for each step
  pub turns_of_lem : (steps : List ℕ) (s : List Bool) → Full (plain (steps_asked jobs steps)) s → (ts : List Turn) × Turns jobs steps ts × (s ≡ spelled ts)
  unfolding steps_asked spelled
  turns_of_lem [] s a = ([], tt, a)
  turns_of_lem (step ∷ steps) [] a = absurd a
  turns_of_lem (step ∷ steps) (false ∷ s) a =
      let r = silent_row step jobs in
      let t = turns_of_lem steps s a in
      (record { called = false; said = r.0 } ∷ t.0, (r.1, t.1), ap (λ (l : List Bool). false ∷ l) t.2)
  turns_of_lem (step ∷ steps) (true ∷ s) a =
      let r = row_read step 0 jobs (Full (plain (steps_asked jobs steps))) s a in
      let t = turns_of_lem steps r.rest r.then in
      (record { called = true; said = r.said } ∷ t.0, (r.row, t.1), ap (λ (l : List Bool). true ∷ l) (r.is ∙ ap (λ (l : List Bool). concat r.said ++ l) t.2))

  -- what a turn for each step spells is the name of a full node
  pub turns_full : (steps : List ℕ) (ts : List Turn) → Turns jobs steps ts → Full (plain (steps_asked jobs steps)) (spelled ts)
  unfolding steps_asked spelled
  turns_full [] [] w = refl
  turns_full [] (t ∷ ts) w = absurd w
  turns_full (step ∷ steps) [] w = absurd w
  turns_full (step ∷ steps) (t ∷ ts) w = go t.called w.0 (turns_full steps ts w.1)
    where
      go : (c : Bool) → Row c step jobs t.said → Full (plain (steps_asked jobs steps)) (spelled ts) → Full (plain (steps_asked jobs (step ∷ steps))) (turn c t.said ++ spelled ts)
      go false r a = a
      go true r a = row_asked step 0 jobs (Full (plain (steps_asked jobs steps))) t.said (spelled ts) r a

  -- what the line at a place hears of it: its own blocks
  pub line_hears : (ln : Line) → Placed jobs ln.place ln.job → (steps : List ℕ) (ts : List Turn) → Turns jobs steps ts
      → hear (to_line ln) (steps_asked jobs steps) (spelled ts) ≡ concat (column ln.place ts)
  unfolding steps_asked spelled hear_then concat
  line_hears ln at [] [] w = refl
  line_hears ln at [] (t ∷ ts) w = absurd w
  line_hears ln at (step ∷ steps) [] w = absurd w
  line_hears ln at (step ∷ steps) (t ∷ ts) w = go t.called w.0 (line_hears ln at steps ts w.1)
    where
      rest : List Bool → List Bool
      rest p = hear (to_line ln) (steps_asked jobs steps) p

      no_call : (o : Bool) (b : List Bool) → Cell false o (inner ln.job) b → cond o (false ∷ []) [] ≡ b
      no_call true b c = sym c
      no_call false b c = sym c

      own : (k : ℕ) → k ≡ ln.place → Tells (to_line ln) k true
      own k e x = ap (λ (o : Bool). cond o (x ∷ []) []) (eq-eqb ln.place k (sym e))

      other : (k : ℕ) → (k ≡ ln.place → ⊥) → Tells (to_line ln) k false
      other k n x = ap (λ (o : Bool). cond o (x ∷ []) []) (ne_eqb ln.place k (λ e. n (sym e)))

      go : (c : Bool) → Row c step jobs t.said → rest (spelled ts) ≡ concat (column ln.place ts)
          → hear (to_line ln) (steps_asked jobs (step ∷ steps)) (turn c t.said ++ spelled ts) ≡ get_or t.said ln.place [] ++ concat (column ln.place ts)
      go false r e = λ i. no_call (open_at ln.job step) (get_or t.said ln.place []) (cell_at false step jobs t.said r ln.place ln.job at) i ++ e i
      go true r e =
          row_heard (to_line ln) step 0 ln.place (own (0 + ln.place) (omega arith)) (λ k n. other k (λ f. n (omega arith))) jobs rest t.said (spelled ts) r
          ∙ ap (λ (l : List Bool). get_or t.said ln.place [] ++ l) e

  -- and the crew: its calls
  pub crew_hears : (steps : List ℕ) (ts : List Turn) → Turns jobs steps ts → hear to_crew (steps_asked jobs steps) (spelled ts) ≡ called ts
  unfolding steps_asked spelled hear_then called
  crew_hears [] [] w = refl
  crew_hears [] (t ∷ ts) w = absurd w
  crew_hears (step ∷ steps) [] w = absurd w
  crew_hears (step ∷ steps) (t ∷ ts) w = go t.called w.0 (crew_hears steps ts w.1)
    where
      go : (c : Bool) → Row c step jobs t.said → hear to_crew (steps_asked jobs steps) (spelled ts) ≡ called ts
          → hear to_crew (steps_asked jobs (step ∷ steps)) (turn c t.said ++ spelled ts) ≡ cond c (true ∷ called ts) (called ts)
      go false r e = e
      go true r e =
          ap (λ (l : List Bool). true ∷ l)
          (row_silent to_crew step 0 (λ k l x. refl) jobs (hear to_crew (steps_asked jobs steps)) t.said (spelled ts) r ∙ e)
