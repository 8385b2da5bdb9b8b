-- The nodes below a node: their blocks, numbers and rows. A no at an opening leaves the rows as they are; a stop adds a row, which the removals at it change.
use Prim.Native.Nat.{ℕ, suc, ◌+◌, ◌-◌, ◌*◌, ◌≤◌, ◌<◌}
use mathlib.Core.Path.{◌≡◌, refl, sym, ap, ap₂, subst, ◌∙◌}
use mathlib.Core.Bool.{Bool, true, false, cond}
use mathlib.Core.List.{List, [], ◌∷◌, ◌++◌, append_assoc}
use native.Mathlib.Omega.{arith}
use lib.Dec.{ltb, eqb}
use lib.ListN.{length, get_or, replicate, length-append, length-replicate}
use borrow.Author.Tests.{lt-ltb, le-ltb, ltb-true, ltb-false}
use Rattle.branch.specs.declared.Bound.{Bound}
use Rattle.branch.specs.Search.{snoc, Limited, limited, onward}
use Rattle.branch.specs.Questions.{left_at}
use Rattle.branch.proofs.Steps.{on_decision, on_opening}
use Rattle.model.specs.Model.{Job, sum_at}
use Rattle.model.specs.Decisions.{concat}
use Rattle.model.specs.LowerBound.{blocks, inner}
use Rattle.model.proofs.Blocks.{Whole, Wholes, wholes_length, full_blocks, blocks_full}
use Rattle.shares.specs.Shares.{Shares, worth, takes, bears, charged_for}
use Rattle.shares.specs.Lift.{Level}
use Rattle.shares.proofs.Lifted.{level_node_lem}
use Rattle.lane_rows.specs.Layout.{lane_count_lem, top, inf, row_place, fee_place}
use Rattle.lane_rows.specs.Tables.{value_of}
use Rattle.lane_rows.specs.Rows.{Level as Numbered, Put, Memo, Recalled, Owing, next_row}
use Rattle.lane_rows.proofs.Memory.{recalled_none}
use Rattle.held_rows.proofs.Seen.{joined_more, wholes_more, blocks_no, blocks_stop}
use Rattle.share_rows.specs.Places.{bear_place, take_place, eased_of, removal_place}
use Rattle.share_rows.specs.Tables.{lane_at}
use Rattle.share_rows.specs.Stacked.{Course, row_most, Stacked, TopRow}
use Rattle.share_rows.proofs.Prices.{charged_last, charged_more}
use Rattle.share_rows.proofs.Lanes.{owing_at, stacked_no, stacked_stop, top_new, top_out, top_stays, top_kept}
use Rattle.share_walk.specs.declared.Node.{Node}
use Rattle.share_walk.specs.State.{open_n, stop_n, blocks_at, course_bound, tree_at, below_tree, Numbers, StopAt, Stopped, Opened, Above, kept_rows, Below}

-- ---- rows that are kept

-- at an opening the walk keeps all of the node's rows
pub kept_open : (h : ℕ) (p : Node) → p.next ≡ h → kept_rows h p ≡ p.rows
kept_open h p e = ap (λ (b : Bool). cond b (p.rows - 1) p.rows) (le-ltb p.next h (omega (arith, e)))

-- at a stop the walk keeps all of the node's rows but the stop's own
pub kept_stop : (h : ℕ) (p : Node) → p.next < h → kept_rows h p ≡ p.rows - 1
kept_stop h p l = ap (λ (b : Bool). cond b (p.rows - 1) p.rows) (lt-ltb p.next h l)

kept_low : (h : ℕ) (p : Node) → p.rows - 1 ≤ kept_rows h p
kept_low h p = go (ltb p.next h)
  where
    go : (b : Bool) → p.rows - 1 ≤ cond b (p.rows - 1) p.rows
    go true = omega arith
    go false = omega arith

-- a row that is put is put by what is the same in its lanes
pub put_as : {f g : ℕ → ℕ} {w w' : List ℕ} {n m : ℕ} → ((q : ℕ) → q < lane_count_lem → f q ≡ g q) → Put lane_count_lem f w w' n m → Put lane_count_lem g w w' n m
put_as e u = record { kept = u.kept; row = λ q l. u.row q l ∙ e q l; mark = u.mark }

-- a memo that is right for n + 1 rows is right for the first n
pub memo_less : (t w : List ℕ) (n : ℕ) → Memo t w (n + 1) → Memo t w n
memo_less t w n m = record { none = m.none; steep = λ k l. m.steep k (omega arith); right = λ k l a. m.right k l (omega arith) }

-- a name with one decision more
pub snoc_long : (s : List Bool) (b : Bool) → length (snoc s b) ≡ length s + 1
snoc_long s b = length-append s (b ∷ [])

module _ (job : Job) (course : Course) where
  abbrev hs : ℕ
  hs = inner job

  abbrev n : ℕ
  n = length job.openings

  abbrev base : ℕ
  base = course.level

  -- ---- blocks

  -- a name's own blocks, from the level where the walk begins
  abbrev own : List Bool → List (List Bool)
  own s = blocks hs (n - base) s

  -- the name of a node so many levels later has as many whole blocks of its own, and is made up of them
  level_blocks : (k : ℕ) (s : List Bool) → Level job k s → k ≤ n - base → Wholes hs k (own s) × (concat (own s) ≡ s)
  level_blocks k s v g =
      let f = full_blocks hs k s v in
      let e : own s ≡ blocks hs k s = ap (blocks hs (n - base)) (sym f.1) ∙ level_node_lem hs (n - base) k (blocks hs k s) f.0 g in
      (subst (Wholes hs k) (sym e) f.0, ap concat e ∙ f.1)

  module _ (l : ℕ) (s : List Bool) (g : base ≤ l) (v : Level job (l - base) s) (k : l < n) where
    abbrev bs : List (List Bool)
    bs = blocks_at job course s

    abbrev bare : List (List Bool)
    bare = replicate base []

    mine : Wholes hs (l - base) (own s) × (concat (own s) ≡ s)
    mine = level_blocks (l - base) s v (omega arith)

    -- one whole block more
    level_more : (b : List Bool) → Whole hs b → Level job (l + 1 - base) (s ++ b)
    level_more b w =
        let z : suc (l - base) ≡ l + 1 - base = omega arith in
        let q = (blocks_full hs (suc (l - base)) (own s ++ (b ∷ [])) (wholes_more hs (l - base) (own s) b mine.0 w)).0 in
        subst (λ (m : ℕ). Level job m (s ++ b)) z (subst (Level job (suc (l - base))) (joined_more (own s) b ∙ ap (λ (q : List Bool). q ++ b) mine.1) q)

    -- the node at level l has l blocks
    pub long : length bs ≡ l
    long = omega (arith, length-append bare (own s), length-replicate {A = List Bool} base [], wholes_length hs (l - base) (own s) mine.0)

    -- after a no the node has one block more, that of no
    pub node_no : blocks_at job course (snoc s false) ≡ bs ++ ((false ∷ []) ∷ [])
    node_no =
        ap (λ (q : List Bool). bare ++ own (snoc q false)) (sym mine.1) ∙ ap (λ (ds : List (List Bool)). bare ++ ds) (blocks_no hs (n - base) (l - base) (own s) mine.0 (omega arith))
        ∙ sym (append_assoc bare (own s) ((false ∷ []) ∷ []))

    -- at a stop the node has one block more: the yes and the removals decided so far
    pub node_stop : (rs : List Bool) → length rs ≤ hs → blocks_at job course (s ++ (true ∷ rs)) ≡ bs ++ ((true ∷ rs) ∷ [])
    node_stop rs m =
        ap (λ (q : List Bool). bare ++ own (q ++ (true ∷ rs))) (sym mine.1) ∙ ap (λ (ds : List (List Bool)). bare ++ ds) (blocks_stop hs (n - base) (l - base) (own s) mine.0 rs (omega arith) m)
        ∙ sym (append_assoc bare (own s) ((true ∷ rs) ∷ []))

module _ (job : Job) (shares : Shares) (course : Course) where
  abbrev h : ℕ
  h = inner job

  abbrev all : ℕ
  all = length job.openings

  abbrev B : List Bool → Bound
  B = course_bound job shares course

  -- ---- what is left to ask

  -- what is left to ask at the node below an opening is the search's tree below
  pub tree_open : (p : Node) (s : List Bool) (fee : ℕ) (b : Bool) → p.next ≡ h → tree_at job shares course (open_n p fee b) (snoc s b) ≡ below_tree job shares course p s b
  tree_open p s fee false e =
      let z : h - p.next ≡ 0 = omega (arith, e) in
      ap (λ (k : ℕ). left_at B h k (all - (p.at + 1)) (snoc s false)) z ∙ ap (λ (c : Bool). cond c (left_at B h (h - (p.next + 1)) (all - p.at) (snoc s false)) (left_at B h 0 (all - (p.at + 1)) (snoc s false))) (sym (le-ltb p.next h (omega (arith, e))))
  tree_open p s fee true e =
      let z : h - 0 ≡ h = omega arith in
      ap (λ (k : ℕ). left_at B h k (all - (p.at + 1)) (snoc s true)) z ∙ ap (λ (c : Bool). cond c (left_at B h (h - (p.next + 1)) (all - p.at) (snoc s true)) (left_at B h h (all - (p.at + 1)) (snoc s true))) (sym (le-ltb p.next h (omega (arith, e))))

  -- what is left to ask at the node below a stop, with one removal more decided, is the search's tree below
  pub tree_stop : (p : Node) (s : List Bool) (removal : ℕ) (b : Bool) → p.next < h → tree_at job shares course (stop_n p removal b) (snoc s b) ≡ below_tree job shares course p s b
  tree_stop p s removal b l = ap (λ (c : Bool). cond c (left_at B h (h - (p.next + 1)) (all - p.at) (snoc s b)) (left_at B h (cond b h 0) (all - (p.at + 1)) (snoc s b))) (sym (lt-ltb p.next h l))

  -- walking on from a node that has something to decide is walking its two nodes below, that of no first
  pub both_below : (p : Node) (s : List Bool) (L : ℕ) (st : Limited) → p.next ≤ h → (p.next ≡ h → p.at < all)
      → onward L (tree_at job shares course p s) s st ≡ limited L (below_tree job shares course p s true) (snoc s true) (limited L (below_tree job shares course p s false) (snoc s false) st)
  both_below p s L st m f = go (ltb p.next h) refl
    where
      go : (c : Bool) → ltb p.next h ≡ c
          → onward L (tree_at job shares course p s) s st
          ≡ limited L (cond c (left_at B h (h - (p.next + 1)) (all - p.at) (snoc s true)) (left_at B h h (all - (p.at + 1)) (snoc s true))) (snoc s true)
          (limited L (cond c (left_at B h (h - (p.next + 1)) (all - p.at) (snoc s false)) (left_at B h 0 (all - (p.at + 1)) (snoc s false))) (snoc s false) st)
      go true e =
          let z : h - p.next ≡ suc (h - (p.next + 1)) = omega (arith, ltb-true p.next h e) in
          ap (λ (k : ℕ). onward L (left_at B h k (all - p.at) s) s st) z ∙ on_decision B L h (h - (p.next + 1)) (all - p.at) s st
      go false e =
          let y : p.next ≡ h = omega (arith, ltb-false p.next h e) in
          let l = f y in
          let z : h - p.next ≡ 0 = omega (arith, y) in
          let n : all - p.at ≡ suc (all - (p.at + 1)) = omega (arith, l) in
          ap₂ (λ (k j : ℕ). onward L (left_at B h k j s) s st) z n ∙ on_opening B L h (all - (p.at + 1)) s st

  -- ---- a stop on the stack

  module _ (t x : List ℕ) (before rs : List Bool) (k : ℕ) (g : course.level ≤ k) (v : Level job (k - course.level) before) (l : k < all) (m : length rs ≤ h)
      (w w' : List ℕ) (n : ℕ) (f : ℕ → ℕ) (tr : TopRow job shares course (blocks_at job course before) rs w n f) (u : Put lane_count_lem f w w' n (k + 1)) (me : Memo t w' (n + 1)) (r : Node) (at : r.at ≡ k + 1) (rows : r.rows ≡ n + 1) (next : r.next ≡ length rs) where
    abbrev whole : List Bool
    whole = before ++ (true ∷ rs)

    blocks_are : blocks_at job course whole ≡ blocks_at job course before ++ ((true ∷ rs) ∷ [])
    blocks_are = node_stop job course k before g v l rs m

    up : Put lane_count_lem f w w' n (length (blocks_at job course before) + 1)
    up = subst (λ (j : ℕ). Put lane_count_lem f w w' n (j + 1)) (sym (long job course k before g v l)) u

    stop_rows : Stacked job shares course (blocks_at job course whole) w' r.rows
    stop_rows =
        subst (Stacked job shares course (blocks_at job course whole) w') (sym rows)
        (subst (λ (ds : List (List Bool)). Stacked job shares course ds w' (n + 1)) (sym blocks_are) (stacked_stop job shares course (blocks_at job course before) rs w n f tr w' (omega (arith, long job course k before g v l)) up))

    stop_level : r.next ≡ h → Level job (r.at - course.level) whole
    stop_level e = subst (λ (j : ℕ). Level job (j - course.level) whole) (sym at) (level_more job course k before g v l (true ∷ rs) (sym next ∙ e))

    stop_row_lem2 : (q : ℕ) → q < lane_count_lem → get_or w' (row_place (r.rows - 1) q) 0 ≡ f q
    stop_row_lem2 q j = let z : r.rows - 1 ≡ n = omega (arith, rows) in ap (λ (i : ℕ). get_or w' (row_place i q) 0) z ∙ u.row q j

    stop_given : r.next < h → Stopped job shares course whole t w' (λ (q : ℕ). get_or w' (row_place (r.rows - 1) q) 0) r
    stop_given u₂ =
        let z : n ≡ r.rows - 1 = omega (arith, rows) in
        let y : k ≡ r.at - 1 = omega (arith, at) in
        let kt = top_kept job shares course (blocks_at job course before) rs w w' n f tr u.kept in
        record {
          at_stop = record { before = before; rs = rs; same = refl; later = omega (arith, at, g); some = omega (arith, rows, tr.below.some); level = subst (λ (j : ℕ). Level job (j - course.level) before) y v; asked = sym next };
          row = subst (λ (j : ℕ). TopRow job shares course (blocks_at job course before) rs w' j (λ (q : ℕ). get_or w' (row_place (r.rows - 1) q) 0)) z
              (record { below = kt.below; cost = λ q j. ap value_of (stop_row_lem2 q j) ∙ kt.cost q j; level = λ q j. subst (Numbered (row_most (length (blocks_at job course before) + 1))) (sym (stop_row_lem2 q j)) (kt.level q j) });
          memo = subst (Memo t w') z (memo_less t w' n me);
        }

    stop_frame : Recalled t w w' n
    stop_frame = record { kept = u.kept; memo = memo_less t w' n me }

  -- ---- below an opening

  module _ (s : List Bool) (t x w row : List ℕ) (p : Node) (a : Above job shares course s t x w row p) where
    abbrev nu : Numbers job shares course s t x p
    nu = a.numbers

    -- the numbers of a node below
    numbers_of : (b : Bool) (r : Node) → r.at ≤ all → r.next ≤ h → length (blocks_at job course (snoc s b)) ≡ r.at → course.level ≤ r.at → r.spent ≡ charged_for job (blocks_at job course (snoc s b)) → r.spent ≤ top * (r.at * (lane_count_lem + 1) + r.next) → r.size ≡ p.size + 1
        → r.size + (h - r.next) ≤ r.at * (lane_count_lem + 1) → Numbers job shares course (snoc s b) t x r
    numbers_of b r i j z f c d e g =
        record { tables = nu.tables; shared = nu.shared; lanes_are = nu.lanes_are; idle = nu.idle; begun = f; inside = i; next = j; size = z; spent = c; poor = d; named = snoc_long s b ∙ ap (λ (k : ℕ). k + 1) nu.named ∙ sym e; short = g }

    module _ (o : p.next ≡ h) (less : p.at < all) where
      abbrev op : Opened job shares course s t w p
      op = a.opening o

      size_is : length (blocks_at job course s) ≡ p.at
      size_is = long job course p.at s nu.begun op.level less

      few : inner job ≤ lane_count_lem
      few = nu.shared.few

      -- numbers that the code adds
      pub opening_fits : (p.at < 64) × (p.rows < 65) × (p.size < 1088) × (p.spent + get_or t (fee_place p.at) 0 < 18446744073709551616) × (p.rows ≤ p.at + 1)
      opening_fits = (
        omega (arith, nu.tables.few),
        omega (arith, op.rows.few, size_is, nu.tables.few),
        omega (arith, nu.short, nu.tables.few),
        omega (arith, nu.poor, nu.tables.fees p.at less, nu.tables.fair p.at, nu.tables.few, nu.next, few),
        omega (arith, op.rows.few, size_is),
      )

      pub opening_owing : Owing lane_count_lem t w p.at p.rows
      opening_owing = subst (λ (k : ℕ). Owing lane_count_lem t w k p.rows) size_is (owing_at job shares course t w (blocks_at job course s) p.rows nu.tables op.rows (omega (arith, size_is)))

      charge_no : charged_for job (blocks_at job course (snoc s false)) ≡ p.spent
      unfolding sum_at
      charge_no = ap (charged_for job) (node_no job course p.at s nu.begun op.level less) ∙ omega (arith, charged_last job shares (blocks_at job course s) (false ∷ []) (omega (arith, size_is)), nu.spent)

      -- the node without a stop has the same rows, and all that the walk is given of it
      pub below_no : Below job shares course s t x w w p false (open_n p 0 false)
      below_no =
          let e = node_no job course p.at s nu.begun op.level less in
          let z = length-append (blocks_at job course s) ((false ∷ []) ∷ []) in
          let r = open_n p 0 false in
          record {
            numbers = numbers_of false r (omega arith) nu.next (ap length e ∙ omega (arith, z, size_is)) (omega (arith, nu.begun)) (sym charge_no) (omega (arith, nu.poor)) refl (omega (arith, nu.short));
            rows = subst (λ (ds : List (List Bool)). Stacked job shares course ds w p.rows) (sym e) (stacked_no job shares course t w (blocks_at job course s) p.rows nu.tables op.rows (omega (arith, size_is)));
            memo = op.memo;
            opening = λ _. level_more job course p.at s nu.begun op.level less (false ∷ []) refl;
            stop = λ g. absurd (omega (arith, g, o));
            frame = subst (Recalled t w w) (sym (kept_open h p o)) (recalled_none t w p.rows op.memo);
            kept_more = omega (arith, kept_open h p o, kept_open h r o);
            tree = tree_open p s 0 false o;
            falls = omega (arith, nu.tables.few);
          }

      module _ (w' : List ℕ) (f : ℕ → ℕ) (e : (q : ℕ) → q < lane_count_lem → f q ≡ eased_of (next_row t w p.at p.rows q) (bears shares q p.at (lane_at course.held q) 0)) (u : Put lane_count_lem f w w' p.rows (p.at + 1)) (me : Memo t w' (p.rows + 1)) where
        abbrev fee : ℕ
        fee = get_or t (fee_place p.at) 0

        row_new : TopRow job shares course (blocks_at job course s) [] w p.rows f
        row_new = top_new job shares course t w (blocks_at job course s) p.rows nu.tables op.rows (omega (arith, size_is)) f (λ q l. e q l ∙ ap (λ (k : ℕ). eased_of (next_row t w k p.rows q) (bears shares q k (lane_at course.held q) 0)) (sym size_is))

        charge_yes : charged_for job (blocks_at job course (snoc s true)) ≡ p.spent + fee
        unfolding sum_at
        charge_yes =
            ap (charged_for job) (node_stop job course p.at s nu.begun op.level less [] (omega arith))
            ∙ (let z : get_or (worth job (length (blocks_at job course s))) 0 0 ≡ fee = ap (λ (k : ℕ). get_or (worth job k) 0 0) size_is ∙ sym (nu.tables.fees p.at less) in
            omega (arith, charged_last job shares (blocks_at job course s) (true ∷ []) (omega (arith, size_is)), nu.spent, z))

        -- with the stop's row on the stack, eased by its shares of the fee, the node of the stop is given
        pub below_yes : Below job shares course s t x w w' p true (open_n p fee true)
        below_yes =
            let r = open_n p fee true in
            let b = node_stop job course p.at s nu.begun op.level less [] (omega arith) in
            let z = length-append (blocks_at job course s) ((true ∷ []) ∷ []) in
            record {
              numbers = numbers_of true r (omega arith) (omega arith) (ap length b ∙ omega (arith, z, size_is)) (omega (arith, nu.begun)) (sym charge_yes) (omega (arith, nu.poor, nu.tables.fees p.at less, nu.tables.fair p.at, nu.next, few)) refl (omega (arith, nu.short, few));
              rows = stop_rows t x s [] p.at nu.begun op.level less (omega arith) w w' p.rows f row_new u me r refl refl refl;
              memo = me;
              opening = stop_level t x s [] p.at nu.begun op.level less (omega arith) w w' p.rows f row_new u me r refl refl refl;
              stop = stop_given t x s [] p.at nu.begun op.level less (omega arith) w w' p.rows f row_new u me r refl refl refl;
              frame = subst (Recalled t w w') (sym (kept_open h p o)) (stop_frame t x s [] p.at nu.begun op.level less (omega arith) w w' p.rows f row_new u me r refl refl refl);
              kept_more = omega (arith, kept_open h p o, kept_low h r);
              tree = tree_open p s fee true o;
              falls = omega (arith, nu.tables.few, nu.next, o, few);
            }

      -- the same with the row that the code writes
      pub below_stops : (w' : List ℕ) → Put lane_count_lem (λ (q : ℕ). eased_of (next_row t w p.at p.rows q) (get_or x (bear_place 0 p.at q) 0)) w w' p.rows (p.at + 1) → Memo t w' (p.rows + 1) → Below job shares course s t x w w' p true (open_n p (get_or t (fee_place p.at) 0) true)
      below_stops w' u me =
          below_yes w' (λ (q : ℕ). eased_of (next_row t w p.at p.rows q) (get_or x (bear_place 0 p.at q) 0)) (λ q l. ap (eased_of (next_row t w p.at p.rows q)) (nu.shared.bears_are 0 p.at q (omega arith) less l)) u me

    -- ---- below a stop

    module _ (o : p.next < h) where
      abbrev sp : Stopped job shares course s t w (λ (q : ℕ). get_or row q 0) p
      sp = a.stop o

      abbrev sa : StopAt job course s p
      sa = sp.at_stop

      stop_less : p.at - 1 < all
      stop_less = omega (arith, sa.later, nu.inside)

      stop_later : course.level ≤ p.at - 1
      stop_later = omega (arith, sa.later)

      size_stop : length (blocks_at job course sa.before) ≡ p.at - 1
      size_stop = long job course (p.at - 1) sa.before stop_later sa.level stop_less

      stop_few : inner job ≤ lane_count_lem
      stop_few = nu.shared.few

      -- the row of the stop is above fewer rows than openings
      pub stop_fits : (0 < p.at) × (1 < p.rows) × (p.rows - 1 ≤ p.at) × (p.at ≤ 64) × (p.next < 16) × (p.size < 1088) × (p.spent + get_or x (removal_place p.next) 0 < 18446744073709551616)
      stop_fits = (
        omega (arith, sa.later),
        sa.some,
        omega (arith, sp.row.below.few, size_stop, sa.later),
        omega (arith, nu.inside, nu.tables.few),
        omega (arith, stop_few),
        omega (arith, nu.short, nu.inside, nu.tables.few, o),
        omega (arith, nu.poor, nu.shared.removals p.next o, nu.shared.cheap p.next, nu.inside, nu.tables.few, stop_few),
      )

      name_more : (b : Bool) → snoc s b ≡ sa.before ++ (true ∷ snoc sa.rs b)
      name_more b = ap (λ (q : List Bool). snoc q b) sa.same ∙ append_assoc sa.before (true ∷ sa.rs) (b ∷ [])

      more_few : (b : Bool) → length (snoc sa.rs b) ≤ h
      more_few b = omega (arith, snoc_long sa.rs b, sa.asked)

      node_more : (b : Bool) → blocks_at job course (snoc s b) ≡ blocks_at job course sa.before ++ ((true ∷ snoc sa.rs b) ∷ [])
      node_more b = ap (blocks_at job course) (name_more b) ∙ node_stop job course (p.at - 1) sa.before stop_later sa.level stop_less (snoc sa.rs b) (more_few b)

      node_here : blocks_at job course s ≡ blocks_at job course sa.before ++ ((true ∷ sa.rs) ∷ [])
      node_here = ap (blocks_at job course) sa.same ∙ node_stop job course (p.at - 1) sa.before stop_later sa.level stop_less sa.rs (omega (arith, sa.asked))

      abbrev removal : ℕ
      removal = get_or x (removal_place p.next) 0

      charge_more : (b : Bool) → charged_for job (blocks_at job course (snoc s b)) ≡ p.spent + cond b removal 0
      charge_more b =
          let m = charged_more job shares (blocks_at job course sa.before) (true ∷ sa.rs) b (omega (arith, size_stop, stop_less)) (omega (arith, sa.asked)) in
          let z : get_or (worth job (length (blocks_at job course sa.before))) (suc (length sa.rs)) 0 ≡ removal = ap (λ (k : ℕ). get_or (worth job (length (blocks_at job course sa.before))) (suc k) 0) sa.asked ∙ sym (nu.shared.removals p.next o) in
          ap (charged_for job) (node_more b) ∙ m ∙ ap₂ (λ (c d : ℕ). c + cond b d 0) (ap (charged_for job) (sym node_here) ∙ sym nu.spent) z

      module _ (b : Bool) (w' : List ℕ) (f : ℕ → ℕ) (tr : TopRow job shares course (blocks_at job course sa.before) (snoc sa.rs b) w (p.rows - 1) f) (u : Put lane_count_lem f w w' (p.rows - 1) p.at) (me : Memo t w' (p.rows - 1 + 1)) where
        ups : Put lane_count_lem f w w' (p.rows - 1) (p.at - 1 + 1)
        ups = let z : p.at ≡ p.at - 1 + 1 = omega (arith, sa.later) in subst (Put lane_count_lem f w w' (p.rows - 1)) z u

        abbrev down : Node
        down = stop_n p removal b

        at_is : down.at ≡ p.at - 1 + 1
        at_is = omega (arith, sa.later)

        rows_is : down.rows ≡ p.rows - 1 + 1
        rows_is = omega (arith, sa.some)

        next_is : down.next ≡ length (snoc sa.rs b)
        next_is = omega (arith, snoc_long sa.rs b, sa.asked)

        cond_most : cond b removal 0 ≤ top
        cond_most = go b
          where
            go : (c : Bool) → cond c removal 0 ≤ top
            go true = omega (arith, nu.shared.removals p.next o, nu.shared.cheap p.next)
            go false = omega arith

        -- with the stop's row changed for one removal more, the node below the stop is given
        pub below_stop_lem : Below job shares course s t x w w' p b down
        below_stop_lem =
            let e = name_more b in
            let z = length-append (blocks_at job course sa.before) ((true ∷ snoc sa.rs b) ∷ []) in
            record {
              numbers = numbers_of b down nu.inside (omega arith) (ap length (node_more b) ∙ omega (arith, z, size_stop, sa.later)) nu.begun (sym (charge_more b)) (omega (arith, nu.poor, cond_most)) refl (omega (arith, nu.short));
              rows = subst (λ (q : List Bool). Stacked job shares course (blocks_at job course q) w' p.rows) (sym e)
                  (stop_rows t x sa.before (snoc sa.rs b) (p.at - 1) stop_later sa.level stop_less (more_few b) w w' (p.rows - 1) f tr ups me down at_is rows_is next_is);
              memo = let y : p.rows - 1 + 1 ≡ p.rows = omega (arith, sa.some) in subst (Memo t w') y me;
              opening = λ g. subst (Level job (p.at - course.level)) (sym e) (stop_level t x sa.before (snoc sa.rs b) (p.at - 1) stop_later sa.level stop_less (more_few b) w w' (p.rows - 1) f tr ups me down at_is rows_is next_is g);
              stop = λ g. subst (λ (q : List Bool). Stopped job shares course q t w' (λ (q : ℕ). get_or w' (row_place (p.rows - 1) q) 0) down) (sym e)
                  (stop_given t x sa.before (snoc sa.rs b) (p.at - 1) stop_later sa.level stop_less (more_few b) w w' (p.rows - 1) f tr ups me down at_is rows_is next_is g);
              frame = subst (Recalled t w w') (sym (kept_stop h p o)) (stop_frame t x sa.before (snoc sa.rs b) (p.at - 1) stop_later sa.level stop_less (more_few b) w w' (p.rows - 1) f tr ups me down at_is rows_is next_is);
              kept_more = omega (arith, kept_stop h p o, kept_low h down);
              tree = tree_stop p s removal b o;
              falls = omega (arith, stop_few);
            }

      -- the row that the code writes where it is removed
      abbrev out_row : ℕ → ℕ
      out_row q = eased_of (get_or row q 0) (get_or x (bear_place (p.next + 1) (p.at - 1) q) 0)

      -- with the row eased by the shares of the removal, the node where the holding part is removed is given
      pub below_out : (w' : List ℕ) → Put lane_count_lem out_row w w' (p.rows - 1) p.at → Memo t w' (p.rows - 1 + 1) → Below job shares course s t x w w' p true (stop_n p removal true)
      below_out w' u me =
          below_stop_lem true w' out_row
          (top_out job shares course (blocks_at job course sa.before) sa.rs w (p.rows - 1) (λ (q : ℕ). get_or row q 0) sp.row out_row (omega (arith, sa.asked)) (λ q l.
          let z : p.next + 1 ≡ suc (length sa.rs) = omega (arith, sa.asked) in
          ap (eased_of (get_or row q 0)) (nu.shared.bears_are (p.next + 1) (p.at - 1) q (omega arith) stop_less l ∙ ap₂ (λ (k m : ℕ). bears shares q k (lane_at course.held q) m) (sym size_stop) z)))
          u me

      -- and where it is not
      abbrev shut_row : ℕ → ℕ
      shut_row q = cond (eqb (get_or x (take_place (p.next + 1) q) 0) 0) (get_or row q 0) inf

      -- with the lanes that take the removal shut in the row, the node where the holding part stays is given
      pub below_stays : (w' : List ℕ) → Put lane_count_lem shut_row w w' (p.rows - 1) p.at → Memo t w' (p.rows - 1 + 1) → Below job shares course s t x w w' p false (stop_n p removal false)
      below_stays w' u me =
          below_stop_lem false w' shut_row (top_stays job shares course (blocks_at job course sa.before) sa.rs w (p.rows - 1) (λ (q : ℕ). get_or row q 0) sp.row shut_row each) u me
        where
          by : (v : ℕ) (b : Bool) → cond (eqb (cond b 1 0) 0) v inf ≡ cond b inf v
          by v true = refl
          by v false = refl

          each : (q : ℕ) → q < lane_count_lem → shut_row q ≡ cond (get_or (takes (lane_at course.held q)) (suc (length sa.rs)) false) inf (get_or row q 0)
          each q l =
              let z : p.next + 1 ≡ suc (length sa.rs) = omega (arith, sa.asked) in
              ap (λ (v : ℕ). cond (eqb v 0) (get_or row q 0) inf) (nu.shared.takes_are (p.next + 1) q (omega arith) l)
              ∙ by (get_or row q 0) (get_or (takes (lane_at course.held q)) (p.next + 1) false)
              ∙ ap (λ (m : ℕ). cond (get_or (takes (lane_at course.held q)) m false) inf (get_or row q 0)) z
