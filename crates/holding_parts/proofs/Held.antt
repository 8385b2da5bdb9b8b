-- The parts that are somebody's holder, by their places: of a list with an entry for each part, the entries of those parts. And what is added to a part's prices.
use mathlib.Core.Path.{◌≡◌, refl, sym, ap, ap₂, ◌∙◌}
use mathlib.Core.Bool.{Bool, false, cond}
use mathlib.Core.List.{List}
use Prim.Native.Nat.{ℕ}
use native.Mathlib.Omega.{arith}
use lib.ListN.{length, get_or, take, get_or-map}
use Rattle.model.specs.Limits.{most_parts}
use Rattle.model.specs.Model.{Job, table, holding, removal_of_lem}
use Rattle.model.specs.Decisions.{of_holders, charge}
use Rattle.model.specs.Verdict.{no_part, part_at}
use Rattle.model.proofs.Lists.{table-length}
use Rattle.model.proofs.Outs.{holding-length}
use Rattle.coming_out.specs.Rows.{Row, Removals}
use Rattle.holding_parts.specs.Places.{places_from, Within, IsHolding}
use Rattle.holding_parts.specs.declared.holding.Holding.{Holding}
use Rattle.holding_parts.proofs.Places.{places_same, select_places}

-- the struct's places are places of parts
pub within_of : (h : Holding) → length h.places ≡ most_parts → Within h
within_of h size = record { size = size; few = h.few; inside = h.inside }

module _ (job : Job) (h : Holding) (within : Within h) where
  by_places : take h.count h.places ≡ places_from 0 (holding job) → {A : Type 0} (d : A) (xs : List A) → length xs ≡ length job.parts
      → of_holders job xs ≡ table (λ b. get_or xs (get_or h.places b 0) d) h.count
  by_places found d xs e = select_places d xs (holding job) h.count h.places (omega (arith, e, holding-length job)) (omega (arith, within.few, within.size)) found

  -- a list's entries for parts that are somebody's holder are found by the struct's places
  pub held_table : IsHolding job h → {A : Type 0} (d : A) (xs : List A) → length xs ≡ length job.parts → of_holders job xs ≡ table (λ b. get_or xs (get_or h.places b 0) d) h.count
  held_table is = by_places is.places

  -- the places of the marks are those of the parts that are somebody's holder, and as many
  pub is_holding : Row false (holding job) h.marks → take h.count h.places ≡ places_from 0 h.marks → IsHolding job h
  is_holding marks found =
      let places = found ∙ places_same 0 h.marks (holding job) marks.at in
      record { marks = marks; places = places; count = sym (ap length (by_places places no_part job.parts refl) ∙ table-length (λ b. get_or job.parts (get_or h.places b 0) no_part) h.count) }

-- "a part that holds nobody adds its removal to its price"
pub charge_at : (job : Job) (removals : List ℕ) (marks : List Bool) → Removals job removals → Row false (holding job) marks → (q : ℕ)
    → cond (get_or marks q false) 0 (get_or removals q 0) ≡ charge job q (part_at job q)
charge_at job removals marks r h q = ap₂ (λ (b : Bool) (n : ℕ). cond b 0 n) (h.at q) (r.at q ∙ get_or-map removal_of_lem job.parts q no_part)
