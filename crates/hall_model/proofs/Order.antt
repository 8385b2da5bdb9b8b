-- Walk order: a name made of pieces that are not after another's, piece by piece, is not after it. So of two lists of turns whose lines' blocks are so, where the first calls the crew only if some line stops.
use mathlib.Core.Path.{◌≡◌, refl, sym, ap, subst, ◌∙◌}
use mathlib.Core.Bool.{Bool, true, false, cond, ◌||◌, false≢true}
use mathlib.Core.List.{List, [], ◌∷◌, ◌++◌}
use mathlib.Core.Logic.{◌⊎◌, inl, inr, ⊎_elim}
use Prim.Native.Nat.{ℕ, suc, ◌≤◌, ◌<◌}
use native.Mathlib.Omega.{arith}
use lib.ListN.{length, get_or}
use Rattle.branch.specs.Search.{Before, here, there}
use Rattle.model.specs.Model.{Job, Each}
use Rattle.model.specs.Decisions.{concat}
use Rattle.base.proofs.Bools.{or_cases, or_left, or_right}
use Rattle.model.proofs.BestPlans.{before_append}
use Rattle.model.specs.LowerBound.{inner}
use Rattle.hall_model.specs.Hall.{open_at}
use Rattle.hall_model.specs.Decisions.{turn}
use Rattle.hall_model.specs.LowerBound.{priced}
use Rattle.hall_model.proofs.Turns.{Cell, Row, row_length, Turn, Turns, spelled, called, column}

-- equal, or before
abbrev pub NotAfter : List Bool → List Bool → Type 0
NotAfter s t = (s ≡ t) ⊎ Before s t

before_front : {s t : List Bool} (r u : List Bool) → Before s t → Before (s ++ r) (t ++ u)
before_front r u here = here
before_front r u (there h) = there (before_front r u h)

after_append : (a b s t : List Bool) → NotAfter a b → NotAfter s t → NotAfter (a ++ s) (b ++ t)
after_append a b s t x y = ⊎_elim
    (λ e. ⊎_elim (λ f. inl (λ i. e i ++ f i)) (λ f. inr (subst (λ (l : List Bool). Before (l ++ s) (b ++ t)) (sym e) (before_append b f))) y)
    (λ e. inr (before_front s t e))
    x

-- a name made of pieces that are not after another's, piece by piece, is not after it
pub after_joined : (bs cs : List (List Bool)) → Each NotAfter bs cs → NotAfter (concat bs) (concat cs)
unfolding concat
after_joined [] [] e = inl refl
after_joined [] (c ∷ cs) e = absurd e
after_joined (b ∷ bs) [] e = absurd e
after_joined (b ∷ bs) (c ∷ cs) e = after_append b c (concat bs) (concat cs) e.0 (after_joined bs cs e.1)

-- ---- a turn

-- some block is a stop
abbrev pub stop_in : List (List Bool) → Bool
stop_in [] = false
stop_in (b ∷ bs) = get_or b 0 false || stop_in bs

before_stop : {b c : List Bool} → Before b c → get_or b 0 false ≡ true → get_or c 0 false ≡ true
before_stop here e = refl
before_stop (there h) e = e

stop_after : (b c : List Bool) → NotAfter b c → get_or b 0 false ≡ true → get_or c 0 false ≡ true
stop_after b c x e = ⊎_elim (λ q. ap (λ (l : List Bool). get_or l 0 false) (sym q) ∙ e) (λ q. before_stop q e) x

stops_after : (bs cs : List (List Bool)) → Each NotAfter bs cs → stop_in bs ≡ true → stop_in cs ≡ true
stops_after [] [] e t = t
stops_after [] (c ∷ cs) e t = absurd e
stops_after (b ∷ bs) [] e t = absurd e
stops_after (b ∷ bs) (c ∷ cs) e t = ⊎_elim
    (λ q. or_left (get_or c 0 false) (stop_in cs) (stop_after b c e.0 q))
    (λ q. or_right (get_or c 0 false) (stop_in cs) (stops_after bs cs e.1 q))
    (or_cases (get_or b 0 false) (stop_in bs) t)

-- without a call nobody stops
row_still : (step : ℕ) (jobs : List Job) (bs : List (List Bool)) → Row false step jobs bs → stop_in bs ≡ false
row_still step [] [] w = refl
row_still step [] (b ∷ bs) w = absurd w
row_still step (job ∷ jobs) [] w = absurd w
row_still step (job ∷ jobs) (b ∷ bs) w = rw (go (open_at job step) w.0) (row_still step jobs bs w.1)
  where
    go : (o : Bool) → Cell false o (inner job) b → get_or b 0 false ≡ false
    go true c = ap (λ (l : List Bool). get_or l 0 false) c
    go false c = ap (λ (l : List Bool). get_or l 0 false) c

-- so there is a call in the second turn where there is one in the first
call_after : (step : ℕ) (jobs : List Job) (bs cs : List (List Bool)) (c : Bool) → Row c step jobs cs → Each NotAfter bs cs → stop_in bs ≡ true → c ≡ true
call_after step jobs bs cs true w e t = refl
call_after step jobs bs cs false w e t = absurd (false≢true (sym (row_still step jobs cs w) ∙ stops_after bs cs e t))

turn_after : (step : ℕ) (jobs : List Job) (bs cs : List (List Bool)) (c : Bool) → Row c step jobs cs → Each NotAfter bs cs → NotAfter (turn (stop_in bs) bs) (turn c cs)
turn_after step jobs bs cs c w e = go (stop_in bs) c (call_after step jobs bs cs c w e)
  where
    go : (s c : Bool) → (s ≡ true → c ≡ true) → NotAfter (turn s bs) (turn c cs)
    go true true f = after_append (true ∷ []) (true ∷ []) (concat bs) (concat cs) (inl refl) (after_joined bs cs e)
    go true false f = absurd (false≢true (f refl))
    go false true f = inr here
    go false false f = inl refl

-- ---- turns

-- the crew is called only where some line stops
abbrev pub Needed : List Turn → Type 0
Needed [] = Unit {0}
Needed (t ∷ ts) = (t.called ≡ stop_in t.said) × Needed ts

each_of : (R : List Bool → List Bool → Type 0) (xs ys : List (List Bool)) → length xs ≡ length ys → ((d : ℕ) → d < length xs → R (get_or xs d []) (get_or ys d [])) → Each R xs ys
each_of R [] [] h f = tt
each_of R [] (y ∷ ys) h f = absurd (omega arith)
each_of R (x ∷ xs) [] h f = absurd (omega arith)
each_of R (x ∷ xs) (y ∷ ys) h f = (f 0 (omega arith), each_of R xs ys (omega arith) (λ d l. f (suc d) (omega arith)))

module _ (jobs : List Job) where
  abbrev NoneAfter : List Turn → List Turn → Type 0
  NoneAfter us ts = (d : ℕ) → d < length jobs → Each NotAfter (column d us) (column d ts)

  row_after : (step : ℕ) (u t : Turn) (us ts : List Turn) → Row u.called step jobs u.said → Row t.called step jobs t.said → NoneAfter (u ∷ us) (t ∷ ts) → Each NotAfter u.said t.said
  row_after step u t us ts v w f =
      let l = row_length u.called step jobs u.said v in
      each_of NotAfter u.said t.said (l ∙ sym (row_length t.called step jobs t.said w)) (λ d h. (f d (omega arith)).0)

  -- turns that call only where a line stops, and whose lines' blocks are not after others', are not after them
  pub turns_after : (steps : List ℕ) (us ts : List Turn) → Turns jobs steps us → Turns jobs steps ts → Needed us → NoneAfter us ts → NotAfter (spelled us) (spelled ts)
  unfolding spelled
  turns_after [] [] [] v w n f = inl refl
  turns_after [] [] (t ∷ ts) v w n f = absurd w
  turns_after [] (u ∷ us) ts v w n f = absurd v
  turns_after (step ∷ steps) [] ts v w n f = absurd v
  turns_after (step ∷ steps) (u ∷ us) [] v w n f = absurd w
  turns_after (step ∷ steps) (u ∷ us) (t ∷ ts) v w n f =
      after_append (turn u.called u.said) (turn t.called t.said) (spelled us) (spelled ts)
      (rw n.0 (turn_after step jobs u.said t.said t.called w.0 (row_after step u t us ts v.0 w.0 f)))
      (turns_after steps us ts v.1 w.1 n.1 (λ d l. (f d l).1))

  -- turns that call only where a line stops, and whose lines' blocks are not after others', pay no more calls
  pub calls_after : (n : ℕ) (steps : List ℕ) (us ts : List Turn) → Turns jobs steps us → Turns jobs steps ts → Needed us → NoneAfter us ts → priced n (called us) ≤ priced n (called ts)
  unfolding called
  calls_after n [] [] [] v w m f = omega arith
  calls_after n [] [] (t ∷ ts) v w m f = absurd w
  calls_after n [] (u ∷ us) ts v w m f = absurd v
  calls_after n (step ∷ steps) [] ts v w m f = absurd v
  calls_after n (step ∷ steps) (u ∷ us) [] v w m f = absurd w
  calls_after n (step ∷ steps) (u ∷ us) (t ∷ ts) v w m f =
      go u.called t.called (λ e. call_after step jobs u.said t.said t.called w.0 (row_after step u t us ts v.0 w.0 f) (sym m.0 ∙ e))
      (calls_after n steps us ts v.1 w.1 m.1 (λ d l. (f d l).1))
    where
      go : (s c : Bool) → (s ≡ true → c ≡ true) → priced n (called us) ≤ priced n (called ts) → priced n (cond s (true ∷ called us) (called us)) ≤ priced n (cond c (true ∷ called ts) (called ts))
      go true true q l = omega arith
      go true false q l = absurd (false≢true (q refl))
      go false true q l = omega arith
      go false false q l = l
