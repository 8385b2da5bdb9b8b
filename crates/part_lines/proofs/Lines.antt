-- The lines of one part more (`lines_more`). By the parts before it.
use Prim.Native.Nat.{ℕ, ◌+◌, ◌<◌}
use mathlib.Core.Path.{◌≡◌, refl, ap}
use mathlib.Core.List.{List, [], ◌∷◌, ◌++◌, map}
use native.Mathlib.Omega.{arith}
use lib.ListN.{length, take, set, length-map, length-take}
use Rattle.base.proofs.Arrays.{take_more, map-take_more}
use Rattle.model.specs.Model as model
use Rattle.jobs.specs.Views.{part_of_lem}
use Rattle.jobs.specs.declared.Part.{Part}
use Rattle.part_lines.specs.Grammar.{PartText}
use Rattle.part_lines.specs.Views.{part_lines_lem, parts_lines}
use Rattle.part_lines.specs.declared.said.PartSaid.{PartSaid}

-- one part more
lines_then : (cs : List PartSaid) (ps : List model.Part) (c : PartSaid) (p : model.Part) → length cs ≡ length ps → parts_lines (cs ++ c ∷ []) (ps ++ p ∷ []) ≡ parts_lines cs ps ++ part_lines_lem c p ∷ []
unfolding parts_lines
lines_then [] [] c p e = refl
lines_then [] (p ∷ ps) c q e = absurd (omega arith)
lines_then (c ∷ cs) [] d p e = absurd (omega arith)
lines_then (c ∷ cs) (p ∷ ps) d q e = ap (λ (xs : List PartText). part_lines_lem c p ∷ xs) (lines_then cs ps d q (omega arith))

-- stored in both arrays
pub lines_more : (n i : ℕ) (cs : List PartSaid) (ps : List Part) (c : PartSaid) (p : Part) → i < length cs → i < length ps
    → parts_lines (take (i + 1) (set cs i c)) (map (part_of_lem n) (take (i + 1) (set ps i p))) ≡ parts_lines (take i cs) (map (part_of_lem n) (take i ps)) ++ part_lines_lem c (part_of_lem n p) ∷ []
lines_more n i cs ps c p h m =
    let size : length (take i cs) ≡ length (map (part_of_lem n) (take i ps)) = simp (length-map, length-take) (omega arith) in
    rw (take_more i cs c h, map-take_more (part_of_lem n) i ps p m) (lines_then (take i cs) (map (part_of_lem n) (take i ps)) c (part_of_lem n p) size)
