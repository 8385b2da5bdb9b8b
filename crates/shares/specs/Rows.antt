-- Rows: where a part's last change so far may be, and what is counted up to each. A walk from sources begins with the sources; an opening where the part can be changed adds a row, if it is in time from one that is there.
use Rattle.std.specs.Prelude.{List, [], ◌∷◌, ◌+◌, cond, ℤ}
use Rattle.branch.specs.declared.Bound.{Bound}
use Rattle.branch.specs.declared.Bound.TheVariants.{Missing, Sum}
use Rattle.model.specs.Model.{within}
use Rattle.model.specs.LowerBound.{Offer}
use Rattle.shares.specs.Sources.{Source, least_from}

-- a change that is in time, or none
abbrev pub in_time_lem : ℤ → ℤ → ℤ → Bound
in_time_lem life s m = cond (within life m s) (Sum 0) Missing

-- one row more, where there is a way to a change at o
abbrev pub with_row : Offer → Bound → List Source → List Source
with_row o Missing ss = ss
with_row o (Sum c) ss = record { at = o.position; cost = c + o.price } ∷ ss

-- the rows after the opening o
abbrev pub rows_with : ℤ → Offer → List Source → List Source
rows_with life o ss = cond o.allowed (with_row o (least_from (in_time_lem life o.position) ss) ss) ss

-- the rows after these openings
unfoldable pub rows_over : ℤ → List Offer → List Source → List Source
rows_over life [] ss = ss
rows_over life (o ∷ os) ss = rows_over life os (rows_with life o ss)
