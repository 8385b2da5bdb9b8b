-- Filling the tables for holders, region by region: what comes later keeps what stands before it.
use Rattle.std.specs.Prelude.{ℕ, ◌-◌, ◌*◌, ◌^◌, ◌<◌, ◌≤◌, min, max, ◌≡◌, Bool, cond, List, [], eqb, length, get_or, take}
use Rattle.branch.specs.declared.Bound.{Bound}
use Rattle.branch.specs.declared.Bound.TheVariants.{Sum}
use Rattle.branch.specs.Lower.{largest}
use Rattle.least.specs.Suffix.{code_of}
use Rattle.lane_rows.specs.Layout.{lane_count_lem, top, inf, block_size}
use Rattle.lane_rows.specs.Sheet.{Column, Sheet}
use Rattle.lane_rows.specs.Tables.{Coded, fee_from}
use Rattle.held_rows.specs.Held.{HeldColumn}
use Rattle.held_lanes.specs.Places.{bit_at, most_to, class_place, removal_base, removal_place, need_lanes_place, need_count_place, need_class_place, mask_base, lead_place, classes_place, holds_place, held_size}
use Rattle.held_lanes.specs.Tables.{Masks}
use Rattle.part_classes.specs.declared.classes.Classes.{Classes}
use Rattle.part_classes.specs.Grouped.{need_in}

-- nothing before a place moved
pub record Before (start : ℕ) (u u' : List ℕ) : Type 0 where
  pub size : length u' ≡ length u
  pub rest : (x : ℕ) → x < start → get_or u' x 0 ≡ get_or u x 0

-- ---- the terms by classes

-- no term is above the number for Missing
abbrev pub Small : List ℕ → Type 0
Small u = (x : ℕ) → x < block_size → get_or u x 0 ≤ inf

-- the terms of class c are now the larger of what they were and a part's; those of the other classes stayed
pub record Raised (sheet : Sheet) (col : Column) (c : ℕ) (u u' : List ℕ) : Type 0 where
  pub size : length u' ≡ length u
  pub raised : (j i : ℕ) → i ≤ j → j ≤ length sheet.positions → get_or u' (class_place j i c) 0 ≡ max (get_or u (class_place j i c) 0) (min (code_of (fee_from sheet j i col [])) inf)
  pub others : (j i d : ℕ) → i ≤ j → d < lane_count_lem → (d ≡ c → ⊥) → get_or u' (class_place j i d) 0 ≡ get_or u (class_place j i d) 0
  pub small : Small u → Small u'

-- what a lane adds to the term of class c
abbrev pub in_class : Sheet → ℕ → ℕ → ℕ → HeldColumn → List Bool → Bound
in_class sheet j i c lane p = cond (eqb lane.class c) (fee_from sheet j i lane.column []) (Sum 0)

-- the terms are the largest over the first q lanes
pub record Terms (sheet : Sheet) (lanes : List HeldColumn) (u : List ℕ) (q : ℕ) : Type 0 where
  pub size : length u ≡ held_size
  pub right : (j i c : ℕ) → i ≤ j → j ≤ length sheet.positions → c < lane_count_lem → Coded (top * (length sheet.positions - j)) (get_or u (class_place j i c) 0) (largest (in_class sheet j i c) (take q lanes) [])
  pub small : Small u

-- ---- who needs the holding part b

-- its lanes, as a set
pub record LaneSet (nd : List Bool) (k : Classes) (b set : ℕ) : Type 0 where
  pub lanes : (q : ℕ) → q < lane_count_lem → bit_at q set ≡ need_in nd k b (get_or k.lanes q 0)
  pub small : set < 2 ^ 16

-- the list of those of the first c classes that need it has n entries
pub record Listing (nd : List Bool) (k : Classes) (b c n : ℕ) (u : List ℕ) : Type 0 where
  pub most : (f : ℕ → ℕ) → most_to (λ (i : ℕ). f (get_or u (need_class_place b i) 0)) n ≡ most_to (λ (c : ℕ). cond (need_in nd k b c) (f c) 0) c
  pub class : (i : ℕ) → i < n → get_or u (need_class_place b i) 0 < c
  pub few : n ≤ c

-- the list is written, and nothing else moved
pub record Listed (nd : List Bool) (k : Classes) (b n : ℕ) (u u' : List ℕ) : Type 0 where
  pub list : Listing nd k b k.count n u'
  pub size : length u' ≡ length u
  pub rest : (x : ℕ) → ((i : ℕ) → i < lane_count_lem → x ≡ need_class_place b i → ⊥) → get_or u' x 0 ≡ get_or u x 0

-- the lists of the first b holding parts are there, with their lengths, and nothing before them moved
pub record Lists (nd : List Bool) (k : Classes) (b : ℕ) (u u' : List ℕ) : Type 0 where
  pub lists : (x : ℕ) → x < b → Listing nd k x k.count (get_or u' (need_count_place x) 0) u'
  pub before : Before (need_count_place 0) u u'

-- ---- the regions together

-- the removals and the needs of the holding parts are there, and nothing before them moved
pub record Needed (nd : List Bool) (rm : List ℕ) (k : Classes) (u u' : List ℕ) : Type 0 where
  pub removals : (b : ℕ) → b < length rm → get_or u' (removal_place b) 0 ≡ get_or rm b 0
  pub lanes : (b : ℕ) → b < length rm → LaneSet nd k b (get_or u' (need_lanes_place b) 0)
  pub lists : (b : ℕ) → b < length rm → Listing nd k b k.count (get_or u' (need_count_place b) 0) u'
  pub before : Before removal_base u u'

-- the masks, the leads and the numbers of classes and of holding parts are there, and nothing before them moved
pub record Closed (k : Classes) (h : ℕ) (u u' : List ℕ) : Type 0 where
  pub masks : Masks u'
  pub leads : (c : ℕ) → c < k.count → get_or u' (lead_place c) 0 ≡ get_or k.leads c 0
  pub classes : get_or u' classes_place 0 ≡ k.count
  pub holds : get_or u' holds_place 0 ≡ h
  pub before : Before mask_base u u'
