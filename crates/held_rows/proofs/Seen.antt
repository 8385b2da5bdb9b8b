-- One decision more: what it does to a node's blocks, to the decisions as a lane sees them, to what is paid, and to what is left to ask. By recursion over the blocks and the needs.
use Prim.Native.Nat.{ℕ, zero, suc, ◌+◌, ◌-◌, ◌<◌, ◌≤◌}
use mathlib.Core.Path.{◌≡◌, refl, sym, ap, ap₂, ◌∙◌}
use mathlib.Core.Bool.{Bool, true, false, cond, not, ◌&&◌, ◌||◌, and_assoc}
use mathlib.Core.List.{List, [], ◌∷◌, ◌++◌, append-nil, append_assoc, map-append}
use native.Mathlib.Omega.{arith}
use lib.ListN.{length, get_or, drop, length-map, drop_of_length-le}
use lib.Seq.{take_all}
use Rattle.branch.specs.Search.{snoc}
use Rattle.model.specs.Model.{sum_at}
use Rattle.model.specs.Decisions.{accessible, allows, concat}
use Rattle.model.specs.LowerBound.{blocks, stops_in, removed_in}
use Rattle.model.proofs.Blocks.{accessible_none, Whole, Wholes, blocks_after, blocks_none}
use Rattle.model.proofs.Fees.{sum_snoc}
use Rattle.held_rows.specs.Held.{HeldSheet, held, seen, paid_in}

-- ---- the blocks of a node: whole ones, and at a stop whose removals are not all decided one that is open

-- the name of blocks and one more is their name followed by that block
pub joined_more : (bs : List (List Bool)) (b : List Bool) → concat (bs ++ (b ∷ [])) ≡ concat bs ++ b
unfolding concat
joined_more [] b = append-nil b
joined_more (d ∷ bs) b = ap (λ (l : List Bool). d ++ l) (joined_more bs b) ∙ sym (append_assoc d (concat bs) b)

-- whole blocks with one whole block more are one more
pub wholes_more : (h k : ℕ) (bs : List (List Bool)) (b : List Bool) → Wholes h k bs → Whole h b → Wholes h (suc k) (bs ++ (b ∷ []))
wholes_more h zero [] b w v = (v, tt)
wholes_more h zero (d ∷ bs) b w v = absurd w
wholes_more h (suc k) [] b w v = absurd w
wholes_more h (suc k) (d ∷ bs) b w v = (w.0, wholes_more h k bs b w.1 v)

module _ (h n k : ℕ) (bs : List (List Bool)) (w : Wholes h k bs) where
  -- at an opening
  pub blocks_whole : k ≤ n → blocks h n (concat bs) ≡ bs
  blocks_whole l =
      let z : n ≡ k + (n - k) = omega arith in
      ap₂ (blocks h) z (sym (append-nil (concat bs))) ∙ blocks_after h k (n - k) bs [] w ∙ ap (λ (ds : List (List Bool)). bs ++ ds) (blocks_none h (n - k)) ∙ append-nil bs

  behind : (p : List Bool) → k < n → blocks h n (concat bs ++ p) ≡ bs ++ blocks h (suc (n - suc k)) p
  behind p l =
      let z : n ≡ k + suc (n - suc k) = omega arith in
      ap (λ (m : ℕ). blocks h m (concat bs ++ p)) z ∙ blocks_after h k (suc (n - suc k)) bs p w

  -- after a no
  pub blocks_no : k < n → blocks h n (snoc (concat bs) false) ≡ bs ++ ((false ∷ []) ∷ [])
  unfolding blocks
  blocks_no l = behind (false ∷ []) l ∙ ap (λ (ds : List (List Bool)). bs ++ ((false ∷ []) ∷ ds)) (blocks_none h (n - suc k))

  -- after a yes and some of its removals
  pub blocks_stop : (rs : List Bool) → k < n → length rs ≤ h → blocks h n (concat bs ++ (true ∷ rs)) ≡ bs ++ ((true ∷ rs) ∷ [])
  unfolding blocks
  blocks_stop rs l g =
      behind (true ∷ rs) l
      ∙ ap₂ (λ (b : List Bool) (ds : List (List Bool)). bs ++ ((true ∷ b) ∷ ds)) (take_all h rs g) (ap (blocks h (n - suc k)) (drop_of_length-le rs {i = h} g) ∙ blocks_none h (n - suc k))

-- ---- as a lane sees it

-- a lane sees one decision for each opening that is decided
pub seen-length : (needs : List Bool) (bs : List (List Bool)) → length (seen needs bs) ≡ length bs
seen-length needs bs = length-map bs (allows needs)

-- with one block more a lane sees one decision more: whether the block allows it
pub seen_more : (needs : List Bool) (bs : List (List Bool)) (b : List Bool) → seen needs (bs ++ (b ∷ [])) ≡ snoc (seen needs bs) (allows needs b)
seen_more needs bs b = map-append (allows needs) bs (b ∷ [])

-- a removal decided: what is removed was undecided before, and changes nothing; what is not removed is shut to the lanes that need it
pub accessible_removed : (needs rs : List Bool) → accessible needs (snoc rs true) ≡ accessible needs rs
unfolding accessible
accessible_removed [] rs = refl
accessible_removed (need ∷ needs) [] = refl
accessible_removed (need ∷ needs) (x ∷ rs) = ap (λ (b : Bool). (not need || x) && b) (accessible_removed needs rs)

-- where the next holding part stays, the accessible are those that were and don't need it
pub accessible_stays : (needs rs : List Bool) → accessible needs (snoc rs false) ≡ (accessible needs rs && not (get_or needs (length rs) false))
unfolding accessible
accessible_stays [] [] = refl
accessible_stays [] (x ∷ rs) = refl
accessible_stays (need ∷ needs) [] = rw (accessible_none needs) (go need)
  where
    go : (b : Bool) → ((not b || false) && true) ≡ (((not b || true) && true) && not b)
    go true = refl
    go false = refl
accessible_stays (need ∷ needs) (x ∷ rs) = ap (λ (b : Bool). (not need || x) && b) (accessible_stays needs rs) ∙ sym (and_assoc (not need || x) (accessible needs rs) (not (get_or needs (length rs) false)))

-- after a no nobody can be changed, after a yes everybody
pub seen_no : (needs : List Bool) (bs : List (List Bool)) → seen needs (bs ++ ((false ∷ []) ∷ [])) ≡ snoc (seen needs bs) false
seen_no needs bs = seen_more needs bs (false ∷ [])

-- a lane sees a stop as a yes exactly where the removals leave it accessible
pub seen_stop : (needs : List Bool) (bs : List (List Bool)) (rs : List Bool) → seen needs (bs ++ ((true ∷ rs) ∷ [])) ≡ snoc (seen needs bs) (accessible needs rs)
seen_stop needs bs rs = seen_more needs bs (true ∷ rs)

-- a stop with no removal decided is a yes to every lane
pub seen_yes : (needs : List Bool) (bs : List (List Bool)) → seen needs (bs ++ ((true ∷ []) ∷ [])) ≡ snoc (seen needs bs) true
seen_yes needs bs = seen_stop needs bs [] ∙ ap (snoc (seen needs bs)) (accessible_none needs)

-- ---- what is paid

removed_more : (rs : List ℕ) (bs : List (List Bool)) (b : List Bool) → removed_in rs (bs ++ (b ∷ [])) ≡ removed_in rs bs + sum_at rs (drop 1 b)
removed_more rs [] b = omega arith
removed_more rs (d ∷ bs) b = omega (arith, removed_more rs bs b)

module _ (sheet : HeldSheet) (bs : List (List Bool)) (few : length bs < length sheet.fees) where
  paid_more : (b : List Bool) → paid_in sheet (bs ++ (b ∷ [])) ≡ paid_in sheet bs + cond (get_or b 0 true) (get_or sheet.fees (length bs) 0) 0 + sum_at sheet.removals (drop 1 b)
  paid_more b =
      let e : stops_in (bs ++ (b ∷ [])) ≡ snoc (stops_in bs) (get_or b 0 true) = map-append (λ (d : List Bool). get_or d 0 true) bs (b ∷ []) in
      let z : length (stops_in bs) ≡ length bs = length-map bs (λ (d : List Bool). get_or d 0 true) in
      let s = sum_snoc sheet.fees (stops_in bs) (get_or b 0 true) (omega (arith, z)) in
      omega (arith, ap (sum_at sheet.fees) e, s, ap (λ (k : ℕ). cond (get_or b 0 true) (get_or sheet.fees k 0) 0) z, removed_more sheet.removals bs b)

  -- no stop costs nothing: what is paid stays
  pub paid_no : paid_in sheet (bs ++ ((false ∷ []) ∷ [])) ≡ paid_in sheet bs
  unfolding sum_at
  paid_no = omega (arith, paid_more (false ∷ []))

  -- a stop adds the fee of its opening to what is paid
  pub paid_yes : paid_in sheet (bs ++ ((true ∷ []) ∷ [])) ≡ paid_in sheet bs + get_or sheet.fees (length bs) 0
  unfolding sum_at
  paid_yes = omega (arith, paid_more (true ∷ []))

  -- one removal more
  pub paid_removal : (rs : List Bool) (x : Bool) → length rs < held sheet
      → paid_in sheet (bs ++ ((true ∷ snoc rs x) ∷ [])) ≡ paid_in sheet (bs ++ ((true ∷ rs) ∷ [])) + cond x (get_or sheet.removals (length rs) 0) 0
  paid_removal rs x l = omega (arith, paid_more (true ∷ snoc rs x), paid_more (true ∷ rs), sum_snoc sheet.removals rs x l)
