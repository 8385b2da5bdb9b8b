-- Rounds of holders, as the code makes them: what a round adds is read from the matrix, and rounds see a set only through its places.
use mathlib.Core.Path.{◌≡◌, refl, sym, ap, ap₂, ◌∙◌}
use mathlib.Core.Bool.{Bool, true, false, ◌||◌, ◌&&◌}
use mathlib.Core.List.{List}
use Prim.Native.Nat.{ℕ, zero, suc, ◌+◌, ◌-◌, ◌≤◌, ◌<◌}
use native.Mathlib.Omega.{arith}
use native.Mathlib.Decide.{ℕ_discrete, dec_lt}
use borrow.Author.Tests.{eq-eqb, ne_eqb}
use lib.Dec.{eqb}
use lib.ListN.{length, get_or, set, replicate, get_or-replicate, length-set}
use lib.Seq.{get_or-set_same, get_or-set_other}
use Rattle.model.specs.Limits.{most_parts}
use Rattle.model.specs.Model.{Job, listed, table, holds_one, with_holders, rounds, comes_out, holding, holders_at}
use Rattle.model.proofs.Lists.{table_at, table_same}
use Rattle.coming_out.specs.Rows.{Row, HeldBy, some, reached, union}
use Rattle.coming_out.proofs.Some.{some_same, holds_some}
use Rattle.coming_out.proofs.Rows.{past}
use Rattle.base.proofs.Bools.{blank}

-- the two sets have the same parts
abbrev Same : List Bool → List Bool → Type 0
Same xs ys = (j : ℕ) → get_or xs j false ≡ get_or ys j false

module _ (job : Job) where
  abbrev size : ℕ
  size = length job.parts

  holds_same : (xs ys : List Bool) (n : ℕ) → ((j : ℕ) → j < size → get_or xs j false ≡ get_or ys j false) → holds_one job.parts xs n ≡ holds_one job.parts ys n
  holds_same xs ys n h =
      holds_some job.parts xs n
      ∙ some_same size _ _ (λ i l. ap (λ (b : Bool). b && listed (holders_at job i) n) (h i l))
      ∙ sym (holds_some job.parts ys n)

  with_same : (xs ys : List Bool) → Same xs ys → with_holders job xs ≡ with_holders job ys
  with_same xs ys h = table_same _ _ size (λ j l. ap₂ ◌||◌ (h j) (holds_same xs ys (suc j) (λ i g. h i)))

  rounds_same : (k : ℕ) (xs ys : List Bool) → Same xs ys → Same (rounds job k xs) (rounds job k ys)
  unfolding rounds
  rounds_same zero xs ys h = h
  rounds_same (suc k) xs ys h = λ j. ap (λ (s : List Bool). get_or (rounds job k s) j false) (with_same xs ys h)

  module _ (m : ℕ) (matrix : List Bool) (held : HeldBy job m matrix) where
    -- who stands in the row of one of a set is a holder of one of it
    reached_holds : (out : List Bool) (j : ℕ) → j < m → reached m matrix out j ≡ holds_one job.parts out (suc j)
    reached_holds out j h =
        some_same m _ _ (λ i l. ap (λ (b : Bool). get_or out i false && b) (held.at i j l h))
        ∙ ap (λ (n : ℕ). some n (λ i. get_or out i false && listed (holders_at job i) (suc j))) (sym held.count)
        ∙ sym (holds_some job.parts out (suc j))

    union_with : (row : List Bool) → union m matrix row row ≡ with_holders job row
    union_with row =
        table_same _ _ m (λ j h. ap (λ (b : Bool). get_or row j false || b) (reached_holds row j h))
        ∙ ap (table (λ j. get_or row j false || holds_one job.parts row (suc j))) (sym held.count)

    -- the parts that are somebody's holder are those in the row of one of all
    pub union-holding : m ≤ most_parts → union m matrix (replicate most_parts false) (replicate most_parts true) ≡ holding job
    unfolding holding
    union-holding few =
        let all : (i : ℕ) → i < size → get_or (replicate most_parts true) i false ≡ get_or (replicate size true) i false =
        λ i l. get_or-replicate most_parts i true false (omega (arith, l, few, held.count)) ∙ sym (get_or-replicate size i true false l) in
        table_same _ _ m
        (λ j h. ap (λ (b : Bool). b || reached m matrix (replicate most_parts true) j) (blank false most_parts j)
        ∙ reached_holds (replicate most_parts true) j h
        ∙ holds_same (replicate most_parts true) (replicate size true) (suc j) all)
        ∙ ap (table (λ j. holds_one job.parts (replicate size true) (suc j))) (sym held.count)

    -- the part at place q alone, and its rounds from there; k rounds are made
    abbrev pub Turned : ℕ → ℕ → List Bool → Type 0
    Turned q k row = (length row ≡ most_parts) × Same (rounds job (m - k) row) (comes_out job q)

    -- before any round is made, the row that has the part alone leads to what comes out with it
    pub turned_none : (q : ℕ) → q < m → m ≤ most_parts → Turned q 0 (set (replicate most_parts false) q true)
    unfolding comes_out
    turned_none q h few = (length-set (replicate most_parts false) q true, λ j. (let z : m - 0 ≡ size = omega (arith, held.count) in ap (λ (n : ℕ). get_or (rounds job n start) j false) z) ∙ rounds_same size start (table (λ j. eqb q j) size) alone j)
      where
        start : List Bool
        start = set (replicate most_parts false) q true

        go : (j : ℕ) → Dec (j ≡ q) → Dec (j < size) → get_or start j false ≡ get_or (table (λ j. eqb q j) size) j false
        go j (yes z) l =
            ap (λ (i : ℕ). get_or start i false) z
            ∙ get_or-set_same (replicate most_parts false) q true false (omega (arith, h, few))
            ∙ sym (ap (λ (i : ℕ). get_or (table (λ j. eqb q j) size) i false) z ∙ table_at (λ j. eqb q j) size q false (omega (arith, h, held.count)) ∙ eq-eqb q q refl)
        go j (no z) (yes l) = get_or-set_other (replicate most_parts false) q j true false z ∙ blank false most_parts j ∙ sym (table_at (λ j. eqb q j) size j false l ∙ ne_eqb q j (λ e. z (sym e)))
        go j (no z) (no l) = get_or-set_other (replicate most_parts false) q j true false z ∙ blank false most_parts j ∙ sym (past false (λ j. eqb q j) size j (omega (arith, l)))

        alone : Same start (table (λ j. eqb q j) size)
        alone j = go j (ℕ_discrete j q) (dec_lt j size)

    -- one round made on the row by the matrix leaves one round less to what comes out
    pub turned_more : (q k : ℕ) (row next : List Bool) → k < m → Row false (union m matrix row row) next → Turned q k row → Turned q (k + 1) next
    unfolding rounds
    turned_more q k row next h n t = (n.size, λ j. again j)
      where
        again : Same (rounds job (m - (k + 1)) next) (comes_out job q)
        again j =
            let z : m - k ≡ suc (m - (k + 1)) = omega arith in
            rounds_same (m - (k + 1)) next (with_holders job row) (λ i. n.at i ∙ ap (λ (xs : List Bool). get_or xs i false) (union_with row)) j
            ∙ ap (λ (n : ℕ). get_or (rounds job n row) j false) (sym z)
            ∙ t.1 j

    -- after as many rounds as parts, the row is what comes out with the part
    pub turned_all : (q k : ℕ) (row : List Bool) → m ≤ k → Turned q k row → Row false (comes_out job q) row
    unfolding rounds
    turned_all q k row h t =
        let z : m - k ≡ 0 = omega arith in
        record { size = t.0; at = λ j. ap (λ (n : ℕ). get_or (rounds job n row) j false) (sym z) ∙ t.1 j }
