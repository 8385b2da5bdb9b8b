-- The sheet that a job's arrays make with the classes of its parts.
use Rattle.std.specs.Prelude.{ℕ, zero, suc, ◌*◌, Bool, List, [], ◌∷◌, map, length, get_or, take, ℤ}
use Rattle.search_tables.specs.Arrays.{lane_part, column_of, fours_of_lem}
use Rattle.held_places.specs.Arrays.{needs_at}
use Rattle.held_rows.specs.Held.{HeldColumn, HeldSheet}
use Rattle.part_classes.specs.declared.classes.Classes.{Classes}

-- k lanes from q on
unfoldable pub lanes_from : ℕ → List ℕ → List ℕ → List ℕ → List ℕ → ℕ → ℕ → List HeldColumn
lanes_from n ls rs ps cs q zero = []
lanes_from n ls rs ps cs q (suc k) = record { column = column_of (lane_part n ls rs ps q); class = get_or cs q 0 } ∷ lanes_from n ls rs ps cs (suc q) k

-- as many as the parts fill
abbrev pub lanes_of : List ℤ → List ℕ → List ℕ → List ℕ → List ℕ → List HeldColumn
lanes_of ss ls rs ps cs = lanes_from (length ss) ls rs ps cs 0 (fours_of_lem (length ls) * 4)

-- the sheet: a class needs what its lead needs
abbrev pub held_sheet_of : ℤ → List ℤ → List ℕ → List ℕ → List ℕ → List ℕ → List Bool → List ℕ → Classes → HeldSheet
held_sheet_of e ss fs ls rs ps nd rm k =
    record {
      end = e;
      positions = ss;
      fees = fs;
      removals = rm;
      needs = map (needs_at (length rm) nd) (take k.count k.leads);
      parts = length ls;
      lanes = lanes_of ss ls rs ps k.lanes;
    }
