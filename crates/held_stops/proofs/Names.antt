-- The bound of a node's name, by its blocks: at an opening, after a no, and at a stop with some of its removals decided. And the names of the nodes below.
use Prim.Native.Nat.{ℕ, ◌<◌, ◌≤◌}
use mathlib.Core.Path.{◌≡◌, sym, ap}
use mathlib.Core.Bool.{Bool, true, false}
use mathlib.Core.List.{List, [], ◌∷◌, ◌++◌, append_assoc}
use lib.ListN.{length}
use Rattle.branch.specs.Search.{snoc}
use Rattle.model.specs.Decisions.{concat}
use Rattle.model.proofs.Blocks.{Wholes}
use Rattle.held_rows.specs.Held.{HeldSheet, held, held_bound}
use Rattle.held_rows.proofs.Seen.{joined_more, blocks_whole, blocks_no, blocks_stop}
use Rattle.held_stops.proofs.Children.{bound_in}

-- at a stop: the name of the blocks before it, a yes, and its removals
abbrev pub stop_name : List (List Bool) → List Bool → List Bool
stop_name bs rs = concat bs ++ (true ∷ rs)

-- a removal more
pub stop_more : (bs : List (List Bool)) (rs : List Bool) (x : Bool) → snoc (stop_name bs rs) x ≡ stop_name bs (snoc rs x)
stop_more bs rs x = append_assoc (concat bs) (true ∷ rs) (x ∷ [])

-- once they are all decided the stop is one of the blocks, and so is a no at once
pub stop_joined : (bs : List (List Bool)) (rs : List Bool) → stop_name bs rs ≡ concat (bs ++ ((true ∷ rs) ∷ []))
stop_joined bs rs = sym (joined_more bs (true ∷ rs))

-- a name with a no more is that of the blocks with a block of no more
pub no_joined : (bs : List (List Bool)) → snoc (concat bs) false ≡ concat (bs ++ ((false ∷ []) ∷ []))
no_joined bs = sym (joined_more bs (false ∷ []))

module _ (sheet : HeldSheet) (k : ℕ) (bs : List (List Bool)) (w : Wholes (held sheet) k bs) where
  pub opening_bound : k ≤ length sheet.positions → held_bound sheet (concat bs) ≡ bound_in sheet bs
  unfolding held_bound
  opening_bound h = ap (bound_in sheet) (blocks_whole (held sheet) (length sheet.positions) k bs w h)

  -- the bound of the name after a no is that of the blocks with a no more
  pub no_bound : k < length sheet.positions → held_bound sheet (snoc (concat bs) false) ≡ bound_in sheet (bs ++ ((false ∷ []) ∷ []))
  unfolding held_bound
  no_bound h = ap (bound_in sheet) (blocks_no (held sheet) (length sheet.positions) k bs w h)

  -- the bound of a stop's name is that of the blocks with the stop and its decided removals
  pub stop_bound_lem : (rs : List Bool) → k < length sheet.positions → length rs ≤ held sheet → held_bound sheet (stop_name bs rs) ≡ bound_in sheet (bs ++ ((true ∷ rs) ∷ []))
  unfolding held_bound
  stop_bound_lem rs h l = ap (bound_in sheet) (blocks_stop (held sheet) (length sheet.positions) k bs w rs h l)
