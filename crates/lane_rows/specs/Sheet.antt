-- A job as the tables have it: positions, fees, and a column for each lane. Its bound is that of the job.
use Rattle.std.specs.Prelude.{ℕ, Bool, cond, List, [], ◌∷◌, get_or, take, drop, ℤ, pos}
use Rattle.branch.specs.declared.Bound.{Bound}
use Rattle.branch.specs.declared.Bound.TheVariants.{Missing, Sum}
use Rattle.branch.specs.Lower.{add, total, largest}
use Rattle.model.specs.Model.{within, sum_at}
use Rattle.model.specs.LowerBound.{Offer, plus, lower, least_of_lem, offers, undecided_fees}

-- one part as its lane has it: its life, the position of the change before the first, its prices
pub record Column : Type 0 where
  pub life : ℤ
  pub first : ℤ
  pub prices : List ℕ

-- the first `parts` columns are those of the parts; the others fill up a four
pub record Sheet : Type 0 where
  pub end : ℤ
  pub positions : List ℤ
  pub fees : List ℕ
  pub parts : ℕ
  pub columns : List Column

-- one part's least price at the node p, over its yes openings and all undecided ones
unfoldable pub column_bound : Sheet → Column → List Bool → Bound
column_bound sheet col p = least_of_lem col.life sheet.end col.first (offers sheet.positions col.prices p)

-- the parts' prices together
abbrev pub part_sums : Sheet → List Bool → Bound
part_sums sheet p = total (column_bound sheet) sheet.columns p

-- one part's least fee of undecided openings at the node p
unfoldable pub column_fee : Sheet → Column → List Bool → Bound
column_fee sheet col p = least_of_lem col.life sheet.end col.first (offers sheet.positions (undecided_fees sheet.fees p) p)

-- the columns that are a part's; those that fill up a four have no term
abbrev pub part_columns : Sheet → List Column
part_columns sheet = take sheet.parts sheet.columns

-- E4's term: the largest of these over the parts
abbrev pub fee_term : Sheet → List Bool → Bound
fee_term sheet p = largest (column_fee sheet) (part_columns sheet) p

-- W2, E4.2. the bound of the node p: the fees of its yes openings, the parts' prices and the term
unfoldable pub sheet_bound : Sheet → List Bool → Bound
sheet_bound sheet p = add (add (Sum (sum_at sheet.fees p)) (part_sums sheet p)) (fee_term sheet p)

-- ---- the front: where the last change so far may be, and the least price up to it

-- a position at which the last change so far may be, and the least price of changes up to it
pub record Mark : Type 0 where
  pub at : ℤ
  pub cost : Bound

-- the least price so far of a mark from which a change at s is in reach
abbrev pub reach : ℤ → List Mark → ℤ → Bound
reach life [] s = Missing
reach life (f ∷ fr) s = lower (reach life fr s) (cond (within life f.at s) f.cost Missing)

-- a decided opening's mark joins the front where the decision is yes
abbrev pub front_with : ℤ → List Mark → Offer → List Mark
front_with life fr o = cond o.allowed (record { at = o.position; cost = plus o.price (reach life fr o.position) } ∷ fr) fr

-- the front behind these decided openings, from the one before them
unfoldable pub front_from : ℤ → List Mark → List Offer → List Mark
front_from life fr [] = fr
front_from life fr (o ∷ os) = front_from life (front_with life fr o) os

-- the decided openings of the node p
unfoldable pub decided_offers : List ℤ → List ℕ → List Bool → List Offer
decided_offers [] ns p = []
decided_offers (s ∷ ss) ns [] = []
decided_offers (s ∷ ss) ns (b ∷ p) = record { position = s; price = get_or ns 0 0; allowed = b } ∷ decided_offers ss (drop 1 ns) p

-- the front of a part at the node p
abbrev pub front : List ℤ → Column → List Bool → List Mark
front ss col p = front_from col.life (record { at = col.first; cost = Sum 0 } ∷ []) (decided_offers ss col.prices p)

-- a stop has one row for all lanes; where it is shut to a lane, the lane's mark there costs Missing, and a mark that costs Missing adds nothing: a mark in front of others, if it costs something
abbrev pub solid_then : ℤ → Bound → List Mark → List Mark
solid_then at Missing fr = fr
solid_then at (Sum c) fr = record { at = at; cost = Sum c } ∷ fr

-- the marks that cost something
unfoldable pub solid : List Mark → List Mark
solid [] = []
solid (f ∷ fr) = solid_then f.at f.cost (solid fr)

-- a column that is none of the sheet's
abbrev pub no_column : Column
no_column = record { life = pos 0; first = pos 0; prices = [] }
