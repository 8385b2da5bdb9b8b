-- A node's name as blocks, one for each decided opening: more decisions let the blocks grow, at the end only; and the names of full nodes are whole blocks joined. By recursion over the openings.
use mathlib.Core.Path.{◌≡◌, refl, sym, ap, subst, ◌∙◌}
use mathlib.Core.Bool.{Bool, true, false, not, ◌||◌, and-eq-true_iff, false≢true}
use mathlib.Core.List.{List, [], ◌∷◌, ◌++◌, append_assoc}
use Prim.Native.Nat.{ℕ, zero, suc, ◌+◌, ◌≤◌, ◌<◌}
use native.Mathlib.Omega.{arith}
use lib.ListN.{length, get_or, take, drop, length-append, take-append-drop}
use lib.Seq.{take_at, drop_at, length-take-le}
use Rattle.branch.specs.Questions.{done, Answers, Full, repeated}
use Rattle.model.specs.Model.{sum_at}
use Rattle.model.specs.Decisions.{Held, accessible, places_in, concat}
use Rattle.model.specs.LowerBound.{blocks, stops_in, removed_in}
use Rattle.base.proofs.Bools.{after_one}
use Rattle.model.proofs.Fees.{sum_rises}

-- nothing decided has no blocks
pub blocks_none : (h n : ℕ) → blocks h n [] ≡ []
unfolding blocks
blocks_none h zero = refl
blocks_none h (suc n) = refl

-- ---- more decisions

-- the first h of p ++ t: the first h of p, and more; and what is left
record Front (h : ℕ) (p t : List Bool) : Type 0 where
  more : List Bool
  rest : List Bool
  taken : take h (p ++ t) ≡ take h p ++ more
  left : drop h (p ++ t) ≡ drop h p ++ rest

front : (h : ℕ) (p t : List Bool) → Front h p t
front zero p t = record { more = []; rest = t; taken = refl; left = refl }
front (suc h) [] t = record { more = take (suc h) t; rest = drop (suc h) t; taken = refl; left = refl }
front (suc h) (x ∷ p) t =
    let f = front h p t in
    record { more = f.more; rest = f.rest; taken = ap (λ (l : List Bool). x ∷ l) f.taken; left = f.left }

-- each block goes on, and there may be more of them
pub data Grows : List (List Bool) → List (List Bool) → Type 0 where
  none : {ds : List (List Bool)} → Grows [] ds
  more : {x : Bool} {r d : List Bool} {bs ds : List (List Bool)} (u : List Bool) → d ≡ r ++ u → Grows bs ds → Grows ((x ∷ r) ∷ bs) ((x ∷ d) ∷ ds)

-- with more decisions a node's blocks go on, and there may be more of them
pub grows : (h n : ℕ) (p t : List Bool) → Grows (blocks h n p) (blocks h n (p ++ t))
unfolding blocks
grows h zero p t = none
grows h (suc n) [] t = none
grows h (suc n) (false ∷ p) t = more [] refl (grows h n p t)
grows h (suc n) (true ∷ p) t =
    let f = front h p t in
    more f.more f.taken (subst (λ (q : List Bool). Grows (blocks h n (drop h p)) (blocks h n q)) (sym f.left) (grows h n (drop h p) f.rest))

-- what is decided stays: the stops, and the removals
pub stops_grow : {bs ds : List (List Bool)} → Grows bs ds → (t : List Bool) × (stops_in ds ≡ stops_in bs ++ t)
stops_grow {ds = ds} none = (stops_in ds, refl)
stops_grow (more {x = x} u e g) = let s = stops_grow g in (s.0, ap (λ (l : List Bool). x ∷ l) s.1)

-- what is paid for decided removals never falls as blocks grow
pub removed_grow : (rs : List ℕ) {bs ds : List (List Bool)} → Grows bs ds → removed_in rs bs ≤ removed_in rs ds
removed_grow rs none = omega arith
removed_grow rs (more {r = r} u e g) =
    let l : sum_at rs r ≤ sum_at rs (r ++ u) = sum_rises rs r u in
    rw e (omega (arith, removed_grow rs g))

-- and a part can be changed at no more openings
pub accessible_none : (needs : List Bool) → accessible needs [] ≡ true
unfolding accessible
accessible_none [] = refl
accessible_none (false ∷ needs) = accessible_none needs
accessible_none (true ∷ needs) = accessible_none needs

-- what a part needs out at a front is out at all of it
pub accessible_front : (needs r u : List Bool) → accessible needs (r ++ u) ≡ true → accessible needs r ≡ true
unfolding accessible
accessible_front [] r u e = refl
accessible_front (need ∷ needs) [] u e = accessible_none (need ∷ needs)
accessible_front (need ∷ needs) (x ∷ r) u e =
    let a = (and-eq-true_iff (not need || x) (accessible needs (r ++ u))).0 e in
    (and-eq-true_iff (not need || x) (accessible needs r)).1 (a.0, accessible_front needs r u a.1)

-- a part that can be changed has what it needs out
pub accessible_out : (needs rs : List Bool) → accessible needs rs ≡ true → (j : ℕ) → get_or needs j false ≡ true → get_or rs j true ≡ true
unfolding accessible
accessible_out [] rs e zero t = absurd (false≢true t)
accessible_out [] rs e (suc j) t = absurd (false≢true t)
accessible_out (need ∷ needs) rs e zero t =
    subst (λ (b : Bool). (not b || get_or rs 0 true) ≡ true) t ((and-eq-true_iff (not need || get_or rs 0 true) (accessible needs (drop 1 rs))).0 e).0
accessible_out (need ∷ needs) rs e (suc j) t =
    sym (after_one rs j true) ∙ accessible_out needs (drop 1 rs) ((and-eq-true_iff (not need || get_or rs 0 true) (accessible needs (drop 1 rs))).0 e).1 j t

-- a place open to the part once blocks have grown was open to it before
pub places_grow : (held : Held) {bs ds : List (List Bool)} → Grows bs ds → (i : ℕ) → get_or (places_in held ds) i true ≡ true → get_or (places_in held bs) i true ≡ true
places_grow held none zero e = refl
places_grow held none (suc i) e = refl
places_grow held (more {x = x} {r = r} {d = d} u q g) zero e =
    let a = (and-eq-true_iff x (accessible held.needs d)).0 e in
    (and-eq-true_iff x (accessible held.needs r)).1 (a.0, accessible_front held.needs r u (subst (λ (l : List Bool). accessible held.needs l ≡ true) q a.1))
places_grow held (more u q g) (suc i) e = places_grow held g i e

-- a part can be changed only at stops, and at undecided openings
pub places_open : (held : Held) (bs : List (List Bool)) (i : ℕ) → get_or (places_in held bs) i true ≡ true → get_or (stops_in bs) i true ≡ true
places_open held [] zero e = refl
places_open held [] (suc i) e = refl
places_open held (b ∷ bs) zero e = ((and-eq-true_iff (get_or b 0 true) (accessible held.needs (drop 1 b))).0 e).0
places_open held (b ∷ bs) (suc i) e = places_open held bs i e

-- ---- full nodes

-- a block with all decided
abbrev pub Whole : ℕ → List Bool → Type 0
Whole h [] = ⊥
Whole h (false ∷ r) = r ≡ []
Whole h (true ∷ r) = length r ≡ h

-- n such blocks
abbrev pub Wholes : ℕ → ℕ → List (List Bool) → Type 0
Wholes h zero [] = Unit {0}
Wholes h zero (b ∷ bs) = ⊥
Wholes h (suc n) [] = ⊥
Wholes h (suc n) (b ∷ bs) = Whole h b × Wholes h n bs

-- n whole blocks are n in number
pub wholes_length : (h n : ℕ) (bs : List (List Bool)) → Wholes h n bs → length bs ≡ n
wholes_length h zero [] w = refl
wholes_length h zero (b ∷ bs) w = absurd w
wholes_length h (suc n) [] w = absurd w
wholes_length h (suc n) (b ∷ bs) w = ap suc (wholes_length h n bs w.1)

-- each of n whole blocks is a whole block
pub whole_at : (h n : ℕ) (bs : List (List Bool)) → Wholes h n bs → (k : ℕ) → k < n → Whole h (get_or bs k [])
whole_at h zero bs w k l = absurd (omega arith)
whole_at h (suc n) [] w k l = absurd w
whole_at h (suc n) (b ∷ bs) w zero l = w.0
whole_at h (suc n) (b ∷ bs) w (suc k) l = whole_at h n bs w.1 k (omega arith)

-- the blocks of two lists in a row, joined, are the first's joined and then the second's
pub concat_append : (bs ds : List (List Bool)) → concat (bs ++ ds) ≡ concat bs ++ concat ds
unfolding concat
concat_append [] ds = refl
concat_append (b ∷ bs) ds = ap (λ (l : List Bool). b ++ l) (concat_append bs ds) ∙ sym (append_assoc b (concat bs) (concat ds))

-- the h questions after a yes are answered by any h decisions
pub inner_answered : (h : ℕ) (P : List Bool → Type 0) (s : List Bool) → Answers (repeated h done done) P s → (h ≤ length s) × P (drop h s)
inner_answered zero P s a = (omega arith, a)
inner_answered (suc h) P [] a = absurd a
inner_answered (suc h) P (false ∷ s) a = let r = inner_answered h P s a in (omega (arith, r.0), r.1)
inner_answered (suc h) P (true ∷ s) a = let r = inner_answered h P s a in (omega (arith, r.0), r.1)

-- any h decisions answer the h questions after a yes, if P holds of what follows them
pub inner_answers : (h : ℕ) (P : List Bool → Type 0) (s : List Bool) → h ≤ length s → P (drop h s) → Answers (repeated h done done) P s
inner_answers zero P s l a = a
inner_answers (suc h) P [] l a = absurd (omega arith)
inner_answers (suc h) P (false ∷ s) l a = inner_answers h P s (omega arith) a
inner_answers (suc h) P (true ∷ s) l a = inner_answers h P s (omega arith) a

-- the name of a full node is its blocks joined, and they are whole
pub full_blocks : (h n : ℕ) (s : List Bool) → Full (repeated n (repeated h done done) done) s → Wholes h n (blocks h n s) × (concat (blocks h n s) ≡ s)
unfolding blocks concat
full_blocks h zero s a = (tt, sym a)
full_blocks h (suc n) [] a = absurd a
full_blocks h (suc n) (false ∷ s) a = let r = full_blocks h n s a in ((refl, r.0), ap (λ (l : List Bool). false ∷ l) r.1)
full_blocks h (suc n) (true ∷ s) a =
    let i = inner_answered h (Full (repeated n (repeated h done done) done)) s a in
    let r = full_blocks h n (drop h s) i.1 in
    ((length-take-le h s i.0, r.0), ap (λ (l : List Bool). true ∷ (take h s ++ l)) r.1 ∙ ap (λ (l : List Bool). true ∷ l) (take-append-drop h s))

-- whole blocks joined are the name of a full node, with these blocks
pub blocks_full : (h n : ℕ) (bs : List (List Bool)) → Wholes h n bs → Full (repeated n (repeated h done done) done) (concat bs) × (blocks h n (concat bs) ≡ bs)
unfolding blocks concat
blocks_full h zero [] w = (refl, refl)
blocks_full h zero (b ∷ bs) w = absurd w
blocks_full h (suc n) [] w = absurd w
blocks_full h (suc n) ([] ∷ bs) w = absurd w.0
blocks_full h (suc n) ((false ∷ []) ∷ bs) w = let r = blocks_full h n bs w.1 in (r.0, ap (λ (l : List (List Bool)). (false ∷ []) ∷ l) r.1)
blocks_full h (suc n) ((false ∷ x ∷ q) ∷ bs) w = absurd (omega (arith, ap length w.0))
blocks_full h (suc n) ((true ∷ q) ∷ bs) w =
    let r = blocks_full h n bs w.1 in
    let d : drop h (q ++ concat bs) ≡ concat bs = drop_at q (concat bs) h w.0 in
    let t : take h (q ++ concat bs) ≡ q = take_at q (concat bs) h w.0 in (
      inner_answers h (Full (repeated n (repeated h done done) done)) (q ++ concat bs) (omega (arith, length-append q (concat bs), w.0))
          (subst (Full (repeated n (repeated h done done) done)) (sym d) r.0),
      λ i. (true ∷ t i) ∷ (ap (blocks h n) d ∙ r.1) i,
    )

-- behind whole blocks, the blocks of what is left: so a decision more makes a block more, or lets the last one grow
pub blocks_after : (h k n : ℕ) (bs : List (List Bool)) (p : List Bool) → Wholes h k bs → blocks h (k + n) (concat bs ++ p) ≡ bs ++ blocks h n p
unfolding blocks concat
blocks_after h zero n [] p w = let z : 0 + n ≡ n = omega arith in rw z
blocks_after h zero n (b ∷ bs) p w = absurd w
blocks_after h (suc k) n [] p w = absurd w
blocks_after h (suc k) n ([] ∷ bs) p w = absurd w.0
blocks_after h (suc k) n ((false ∷ []) ∷ bs) p w =
    let z : suc k + n ≡ suc (k + n) = omega arith in
    rw z (ap (λ (l : List (List Bool)). (false ∷ []) ∷ l) (blocks_after h k n bs p w.1))
blocks_after h (suc k) n ((false ∷ x ∷ q) ∷ bs) p w = absurd (omega (arith, ap length w.0))
blocks_after h (suc k) n ((true ∷ q) ∷ bs) p w =
    let z : suc k + n ≡ suc (k + n) = omega arith in
    let a : q ++ concat bs ++ p ≡ q ++ (concat bs ++ p) = append_assoc q (concat bs) p in
    let t : take h (q ++ concat bs ++ p) ≡ q = ap (take h) a ∙ take_at q (concat bs ++ p) h w.0 in
    let d : drop h (q ++ concat bs ++ p) ≡ concat bs ++ p = ap (drop h) a ∙ drop_at q (concat bs ++ p) h w.0 in
    rw z (λ i. (true ∷ t i) ∷ (ap (blocks h (k + n)) d ∙ blocks_after h k n bs p w.1) i)
