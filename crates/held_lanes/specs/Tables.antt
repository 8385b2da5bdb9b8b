-- What the tables for holders hold, and what the functions over them ask.
use Rattle.std.specs.Prelude.{ℕ, ◌+◌, ◌-◌, ◌*◌, ◌^◌, ◌<◌, ◌≤◌, ◌≡◌, Bool, false, cond, List, length, get_or}
use Rattle.model.specs.Limits.{most_openings, most_parts}
use Rattle.lane_rows.specs.Layout.{lane_count_lem, mark_count, top, inf, block_size, stack_size}
use Rattle.lane_rows.specs.Tables.{Coded}
use Rattle.held_rows.specs.Held.{HeldSheet, no_lane, needs_of_lem, held, class_fee, largest_to, last_for}
use Rattle.held_lanes.specs.Places.{bit_at, mask_of, most_to, offset, level_place, class_place, top_place, removal_place, need_lanes_place, need_count_place, need_class_place, lead_place, mask_place, classes_place, holds_place, held_size, last_place, pending_place}

-- a class needs the holding part b
abbrev pub needing : HeldSheet → ℕ → ℕ → Bool
needing sheet b c = get_or (needs_of_lem sheet c) b false

-- the masks of four lanes are there
abbrev pub Masks : List ℕ → Type 0
Masks u = (s i : ℕ) → s < 16 → i < 4 → get_or u (mask_place s i) 0 ≡ mask_of s i

-- the tables for holders of a sheet
pub record HeldTables (sheet : HeldSheet) (u : List ℕ) : Type 0 where
  pub size : length u ≡ held_size
  pub classes : get_or u classes_place 0 ≡ length sheet.needs
  pub few : length sheet.needs ≤ lane_count_lem
  pub holds : get_or u holds_place 0 ≡ held sheet
  pub parts : held sheet ≤ most_parts
  pub masks : Masks u
  pub terms : (j i c : ℕ) → i ≤ j → j ≤ length sheet.positions → c < length sheet.needs → Coded (top * (length sheet.positions - j)) (get_or u (class_place j i c) 0) (class_fee sheet j i c)
  pub tops : (j : ℕ) → j ≤ length sheet.positions → Coded (top * (length sheet.positions - j)) (get_or u (top_place j) 0) (largest_to (λ (c : ℕ). class_fee sheet j j c) (length sheet.needs))
  pub small : (x : ℕ) → x < block_size → get_or u x 0 ≤ inf
  pub removals : (b : ℕ) → b < held sheet → get_or u (removal_place b) 0 ≡ get_or sheet.removals b 0
  pub cheap : (b : ℕ) → get_or sheet.removals b 0 ≤ top
  pub need_lanes : (b q : ℕ) → b < held sheet → q < length sheet.lanes → bit_at q (get_or u (need_lanes_place b) 0) ≡ needing sheet b (get_or sheet.lanes q no_lane).class
  pub need_small : (b : ℕ) → b < held sheet → get_or u (need_lanes_place b) 0 < 2 ^ 16
  -- the list of the classes that need b: the largest over it is the largest over those
  pub need_list : (b : ℕ) → b < held sheet → (f : ℕ → ℕ) → most_to (λ (i : ℕ). f (get_or u (need_class_place b i) 0)) (get_or u (need_count_place b) 0) ≡ most_to (λ (c : ℕ). cond (needing sheet b c) (f c) 0) (length sheet.needs)
  pub need_count : (b : ℕ) → b < held sheet → get_or u (need_count_place b) 0 ≤ lane_count_lem
  pub need_class : (b i : ℕ) → b < held sheet → i < get_or u (need_count_place b) 0 → get_or u (need_class_place b i) 0 < length sheet.needs
  pub leads : (c : ℕ) → c < length sheet.needs → (get_or u (lead_place c) 0 < length sheet.lanes) × ((get_or sheet.lanes (get_or u (lead_place c) 0) no_lane).class ≡ c)

-- the last mark of each class, at row r
abbrev pub Lasts : HeldSheet → List ℕ → List (List Bool) → ℕ → Type 0
Lasts sheet v bs r = (c : ℕ) → c < length sheet.needs → get_or v (last_place r c) 0 ≡ offset (last_for sheet bs c) c

-- what spreading a set over the lanes asks
pub record SpreadAsks (fours : ℕ) (u : List ℕ) (acc : List ℕ) : Type 0 where
  pub few : fours ≤ 4
  pub masks : Masks u
  pub lanes : lane_count_lem ≤ length acc

-- what picking from two rows asks
pub record PickAsks (fours : ℕ) (yes no acc : List ℕ) : Type 0 where
  pub few : fours ≤ 4
  pub first : lane_count_lem ≤ length yes
  pub second : lane_count_lem ≤ length no
  pub lanes : lane_count_lem ≤ length acc

-- of two rows of the stack, the second's number for the lanes of the set, the first's for the others
abbrev pub shut_lane : List ℕ → ℕ → ℕ → ℕ → ℕ → ℕ
shut_lane w one two set q = cond (bit_at q set) (get_or w (two + q) 0) (get_or w (one + q) 0)

-- what their sum asks
pub record ShutAsks (wide : ℕ) (u w : List ℕ) (one two : ℕ) : Type 0 where
  pub some : 0 < wide
  pub narrow : wide ≤ lane_count_lem
  pub masks : Masks u
  pub first : one + lane_count_lem ≤ stack_size
  pub second : two + lane_count_lem ≤ stack_size
  pub most : (q : ℕ) → q < wide → (get_or w (one + q) 0 ≤ inf) × (get_or w (two + q) 0 ≤ inf)

-- the row of a stop from what it costs where it is allowed
abbrev pub shut_row : List ℕ → ℕ → ℕ → ℕ → ℕ
shut_row v rows set q = cond (bit_at q set) inf (get_or v (pending_place rows q) 0)

-- what writing it asks
pub record StopAsks (wide : ℕ) (u : List ℕ) (rows : ℕ) : Type 0 where
  pub some : 0 < wide
  pub narrow : wide ≤ lane_count_lem
  pub masks : Masks u
  pub few : rows < mark_count

-- what a look at the term of one class asks: the level's terms start at a place
pub record ClassAsks (v : List ℕ) (level r c : ℕ) : Type 0 where
  pub row : r ≤ most_openings
  pub class : c < lane_count_lem
  pub inside : level + get_or v (last_place r c) 0 < block_size

-- what a look at the terms of level j asks, with the last marks of row r
pub record TermAsks (u v : List ℕ) (j r : ℕ) : Type 0 where
  pub few : get_or u classes_place 0 ≤ lane_count_lem
  pub near : j ≤ most_openings
  pub row : r ≤ most_openings
  pub marks : (c : ℕ) → c < get_or u classes_place 0 → get_or v (last_place r c) 0 < (j + 1) * lane_count_lem

-- the term of class c at level j, with the last marks of row r
abbrev pub term_of : List ℕ → List ℕ → ℕ → ℕ → ℕ → ℕ
term_of u v j r c = get_or u (level_place j (get_or v (last_place r c) 0)) 0

-- the last mark of class c above so many rows, as an offset, after a stop that is shut to the lanes of the set
abbrev pub noted : List ℕ → List ℕ → ℕ → ℕ → ℕ → ℕ → ℕ
noted u v at rows set c = cond (bit_at (get_or u (lead_place c) 0) set) (get_or v (last_place (rows - 1) c) 0) (offset at c)

-- what noting them asks
pub record NoteAsks (u : List ℕ) (at rows : ℕ) : Type 0 where
  pub masks : Masks u
  pub few : get_or u classes_place 0 ≤ lane_count_lem
  pub near : at ≤ most_openings
  pub some : 0 < rows
  pub row : rows ≤ most_openings
  pub leads : (c : ℕ) → c < get_or u classes_place 0 → get_or u (lead_place c) 0 < lane_count_lem
