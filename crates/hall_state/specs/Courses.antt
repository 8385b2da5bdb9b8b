-- The hall's lines in the walk's tables and rows: what the code does not know of each line, its course, and its slot over them.
use Rattle.std.specs.Prelude.{ℕ, suc, ◌+◌, ◌<◌, ◌≡◌, Bool, List, [], ◌∷◌, Option, Some, None, pos, length, get_or}
use Rattle.held_rows.specs.Held.{HeldSheet}
use Rattle.held_nodes.specs.State.{best_in}
use Rattle.hall_nodes.specs.Lines.{Slot, SlotKept}
use Rattle.hall_lines.specs.declared.LineTables.{LineTables}
use Rattle.hall_lines.specs.declared.LineRows.{LineRows}
use Rattle.hall_lines.specs.declared.Stop.{Stop}
use Rattle.hall_lines.specs.Levels.{LevelsKept}
use Rattle.hall_lines.specs.Lines.{open_slot, stop_slot}
use Rattle.hall_state.specs.declared.Ground.{Ground}

-- what the walk writes: four lines' rows, what stands beside them, and their levels
abbrev pub Arrays : Type 0
Arrays = List LineRows

-- no tables, and no rows
abbrev no_tables : LineTables
no_tables = record { t = []; u = [] }

-- a line without rows
abbrev pub no_rows : LineRows
no_rows = record { w = []; v = []; n = [] }

-- one line's tables, and its rows
abbrev pub tables_at : Ground → ℕ → LineTables
tables_at g d = get_or g.lines d no_tables

-- the rows of the line at place d
abbrev pub rows_at : Arrays → ℕ → LineRows
rows_at a d = get_or a d no_rows

-- a line's course: its sheet, the blocks decided, its fees and removals, its level, and the stop behind that whose removals are being decided, if there is one
pub record Course : Type 0 where
  pub sheet : HeldSheet
  pub blocks : List (List Bool)
  pub paid : ℕ
  pub at : ℕ
  pub stop : Option Stop

-- no sheet and no course
abbrev no_sheet : HeldSheet
no_sheet = record { end = pos 0; positions = []; fees = []; removals = []; needs = []; parts = 0; lanes = [] }

-- the course of a line that is not there
abbrev pub no_course : Course
no_course = record { sheet = no_sheet; blocks = []; paid = 0; at = 0; stop = None }

-- the course of the line at place e
abbrev pub course_in : List Course → ℕ → Course
course_in cs e = get_or cs e no_course

-- a line of this course at its level, and at a stop
abbrev pub level_slot : Ground → Arrays → ℕ → Course → Slot
level_slot g a d c = open_slot c.sheet c.blocks (tables_at g d) (rows_at a d) c.at c.paid

-- a line of this course at a stop whose removals are being decided
abbrev pub stopped_slot : Ground → Arrays → ℕ → Course → Stop → Slot
stopped_slot g a d c p = stop_slot c.sheet c.blocks (tables_at g d) (rows_at a d) c.at c.paid p

-- by whether it is at one
abbrev pub slot_by : Option Stop → Ground → Arrays → ℕ → Course → Slot
slot_by None g a d c = level_slot g a d c
slot_by (Some p) g a d c = stopped_slot g a d c p

-- the slot of the line at place d, of this course
abbrev pub line_slot : Ground → Arrays → ℕ → Course → Slot
line_slot g a d c = slot_by c.stop g a d c

-- the slots of lines with these courses, from place d on
abbrev pub slots_at : Ground → Arrays → ℕ → List Course → List Slot
slots_at g a d [] = []
slots_at g a d (c ∷ cs) = line_slot g a d c ∷ slots_at g a (suc d) cs

-- what a line of this course stands on is kept: its rows and marks, and its levels
pub record LineKept (g : Ground) (a a' : Arrays) (d : ℕ) (c : Course) : Type 0 where
  pub slot : SlotKept (line_slot g a d c) (line_slot g a' d c)
  pub levels : LevelsKept (rows_at a d).n (rows_at a' d).n (c.at + 1)

-- what all lines stand on is kept: each line's rows, marks and levels
pub record Kept (g : Ground) (a a' : Arrays) (cs : List Course) : Type 0 where
  pub size : length a' ≡ length a
  pub each : (e : ℕ) → e < length cs → LineKept g a a' e (course_in cs e)

-- the incumbent's removals are unmoved, for the line's sheet
abbrev pub BestSame : List ℕ → List ℕ → HeldSheet → Type 0
BestSame v v' sheet = (i : ℕ) → i < length sheet.positions → best_in v' i ≡ best_in v i

-- the lines but the one at place d are as before
pub record OthersSame (d : ℕ) (a a' : Arrays) : Type 0 where
  pub size : length a' ≡ length a
  pub same : (e : ℕ) → (e ≡ d → ⊥) → rows_at a' e ≡ rows_at a e
