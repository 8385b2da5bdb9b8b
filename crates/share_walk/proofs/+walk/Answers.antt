-- `walk` walks its node and all below it, and keeps the rows and the name that were there: by recursion on what is left to decide, for each job and shares whose tables it may be given.
use Prim.Native.Nat.{ℕ, ◌+◌, ◌<◌, ◌≤◌}
use mathlib.Core.Path.{◌≡◌, sym, ap, ap₂, subst, ◌∙◌}
use mathlib.Core.Bool.{Bool, true, false}
use mathlib.Core.List.{List}
use native.Mathlib.Omega.{arith}
use lib.ListN.{length, get_or, take, set, length-set}
use Rattle.branch.specs.Search.{snoc}
use Rattle.model.specs.Model.{Job}
use Rattle.model.specs.LowerBound.{inner}
use Rattle.shares.specs.Shares.{Shares}
use Rattle.lane_rows.specs.Layout.{count_place, stack_size}
use Rattle.lane_rows.specs.Rows.{Recalled}
use Rattle.lane_rows.proofs.Memory.{recalled_none, sum_kept}
use Rattle.share_rows.specs.Places.{holds_place}
use Rattle.share_rows.specs.Stacked.{Course}
use Rattle.share_walk.specs.declared.State.{State}
use Rattle.share_walk.specs.State.{name_size, counted_s, kept_s, At, Above, kept_rows, Below, SharesWalked, Undercuts}
use Rattle.share_walk.proofs.Walks.{none_left, some_left, name_more, at_looked, above_of, look_asks, look_fits, look_sum, node_fits, name_room, walked_stopped, walked_dropped, walked_full, kept_few, walked_looked, first_leaves, walked_both, at_below, above_kept}
use Rattle.share_walk.proofs.Nodes.{snoc_long}
use Rattle.share_walk.proofs.+walk.Goals as goal
use Rattle.share_walk.proofs.+walk.Goals.{walk-Start, onward-Start, onward-Else-not-undecided, onward-After-lanes_of-row, onward-After-below-no, onward-After-walk, onward-After-below-yes}

-- ---- the test

-- what is given of the node that is tested
abbrev Tested : (t : ℕ) → walk-Start t → Job → Shares → Course → List Bool → Type 0
Tested t b job shares course nm = let a = b.args in At job shares course nm a.t.now a.x.now a.lifts.now a.w.now a.name.now a.p

abbrev tested : (t : ℕ) (b : walk-Start t) → Tested t b b.requires.0.0 b.requires.0.1 b.requires.0.2 b.requires.0.3
tested t b = b.requires.0.4

pub walk-returns-then-limit-s : goal.walk-returns-then-limit-s
walk-returns-then-limit-s t c = λ job shares course nm h.
    let a = c.args in
    subst (λ (r : State). SharesWalked job shares course nm a.t.now a.w.now a.w.now a.name.now a.name.now a.best.now a.best.now a.limit a.p a.s.now r) (sym c.stopped.ensures)
    (walked_stopped job shares course nm a.t.now a.x.now a.lifts.now a.w.now a.name.now a.p h a.best.now a.limit a.s.now c.if-limit-s.true)

pub walk-lane_sum-requires : goal.walk-lane_sum-requires
walk-lane_sum-requires t c =
    let b = (goal.at.walk-lane_sum-requires t c).Start in
    let a = b.args in
    let e = b.requires.0 in
    look_asks e.0 e.1 e.2 e.3 a.t.now a.x.now a.lifts.now a.w.now a.name.now a.p (tested t b)

pub walk-overflow_add-e : goal.walk-overflow_add-e
walk-overflow_add-e t c =
    let b = (goal.at.walk-overflow_add-e t c).Start in
    let a = b.args in
    let e = b.requires.0 in
    omega (arith, look_fits e.0 e.1 e.2 e.3 a.t.now a.x.now a.lifts.now a.w.now a.name.now a.p (tested t b) c.lane_sum.result c.lane_sum.ensures.sum)

pub walk-lift_of-requires : goal.walk-lift_of-requires
walk-lift_of-requires t c =
    let b = (goal.at.walk-lift_of-requires t c).Start in
    let n = (tested t b).numbers in
    omega (arith, n.inside, n.tables.few)

pub walk-overflow_add-e-2 : goal.walk-overflow_add-e-2
walk-overflow_add-e-2 t c =
    let b = (goal.at.walk-overflow_add-e-2 t c).Start in
    let a = b.args in
    let e = b.requires.0 in
    omega (arith, look_fits e.0 e.1 e.2 e.3 a.t.now a.x.now a.lifts.now a.w.now a.name.now a.p (tested t b) c.lane_sum.result c.lane_sum.ensures.sum, c.lift_of.ensures.small)

pub walk-counted-requires : goal.walk-counted-requires
walk-counted-requires t c = omega (arith, c.if-limit-s.false, c.requires.2)

pub walk-returns-then-s-e : goal.walk-returns-then-s-e
walk-returns-then-s-e t c = λ job shares course nm h.
    let b = (goal.at.walk-returns-then-s-e t c).Start in
    let a = b.args in
    let k = c.lane_sum in
    subst (λ (r : State). SharesWalked job shares course nm a.t.now a.w.now k.new.w a.name.now a.name.now a.best.now a.best.now a.limit a.p a.s.now r) (sym c.counted.ensures)
    (walked_dropped job shares course nm a.t.now a.x.now a.lifts.now a.w.now a.name.now a.p h k.new.w a.best.now a.limit (a.p.spent + k.result + c.lift_of.result) a.s.now k.ensures.frame
    (ap₂ (λ (v f : ℕ). a.p.spent + v + f) (look_sum job shares course nm a.t.now a.x.now a.lifts.now a.w.now a.name.now a.p h k.result k.ensures.sum) c.lift_of.ensures.value) (omega (arith, c.if-limit-s.false)) b.requires.1 c.if-s-e.true)

-- what is given after the look
pub walk-onward-requires : goal.walk-onward-requires
walk-onward-requires t c =
    let b = (goal.at.walk-onward-requires t c).Start in
    let a = b.args in
    let e = b.requires.0 in
    let h = tested t b in
    let k = c.lane_sum in
    let g = at_looked e.0 e.1 e.2 e.3 a.t.now a.x.now a.lifts.now a.w.now a.name.now a.p h k.new.w k.ensures.frame in
    let same = sum_kept a.t.now a.w.now k.new.w a.p.rows a.p.at (omega (arith, h.numbers.tables.wide)) k.ensures.frame.kept in
    let v = look_sum e.0 e.1 e.2 e.3 a.t.now a.x.now a.lifts.now k.new.w a.name.now a.p g k.result (k.ensures.sum ∙ sym same) in
    (omega (arith, b.decreases), ((e.0, e.1, e.2, e.3, g), record { within = omega (arith, c.if-limit-s.false); estimate = ap₂ (λ (v f : ℕ). a.p.spent + v + f) v c.lift_of.ensures.value; less = omega (arith, c.if-s-e.false) }, b.requires.1, b.requires.2))

pub walk-returns : goal.walk-returns
walk-returns t c = λ job shares course nm h.
    let b = (goal.at.walk-returns t c).Start in
    let a = b.args in
    let k = c.lane_sum in
    let o = c.onward in
    walked_looked job shares course nm a.t.now a.w.now k.new.w o.new.w a.name.now o.new.name a.best.now o.new.best a.limit a.p a.s.now o.new.s
    (kept_few job shares course nm a.t.now a.x.now a.lifts.now a.w.now a.name.now a.p h) k.ensures.frame
    (o.ensures job shares course nm (at_looked job shares course nm a.t.now a.x.now a.lifts.now a.w.now a.name.now a.p h k.new.w k.ensures.frame))

-- ---- a node that is not dropped

-- what is given of the node
abbrev Given : (t : ℕ) → onward-Start t → Job → Shares → Course → List Bool → Type 0
Given t b job shares course nm = let a = b.args in At job shares course nm a.t.now a.x.now a.lifts.now a.w.now a.name.now a.p.now

abbrev given : (t : ℕ) (b : onward-Start t) → Given t b b.requires.0.0 b.requires.0.1 b.requires.0.2 b.requires.0.3
given t b = b.requires.0.4

-- that it is to be walked on from
abbrev under : (t : ℕ) (b : onward-Start t) → let a = b.args in Undercuts a.t.now a.lifts.now a.w.now a.limit a.p.now a.e a.s.now
under t b = b.requires.1

abbrev left_begun : (t : ℕ) → onward-Else-not-undecided t → onward-Start t
left_begun t c = c.before.before.before.before.before

pub onward-counted-requires : goal.onward-counted-requires
onward-counted-requires t c = let b = (goal.at.onward-counted-requires t c).Start in omega (arith, (under t b).within, b.requires.3)

pub onward-keep-requires : goal.onward-keep-requires
onward-keep-requires t c =
    let b = (goal.at.onward-keep-requires t c).Start in
    let a = b.args in
    let e = b.requires.0 in
    let f = node_fits e.0 e.1 e.2 e.3 a.t.now a.x.now a.lifts.now a.w.now a.name.now a.p.now (given t b) in
    f.3

pub onward-returns-then-not-undecided : goal.onward-returns-then-not-undecided
onward-returns-then-not-undecided t c = λ job shares course nm h.
    let b = (goal.at.onward-returns-then-not-undecided t c).Start in
    let a = b.args in
    let u = c.undecided in
    let kp = c.keep in
    let n = none_left a.p.now.next (get_or a.x.now holds_place 0) a.p.now.at (get_or a.t.now count_place 0) (sym u.ensures ∙ c.if-not-undecided.true) in
    let nu = h.numbers in
    let g = under t b in
    subst (λ (r : State). SharesWalked job shares course nm a.t.now a.w.now a.w.now a.name.now a.name.now a.best.now kp.new.best a.limit a.p.now a.s.now r)
    (sym (c.kept.ensures ∙ ap (λ (q : State). kept_s q a.e a.p.now.size) c.counted.ensures))
    (walked_full job shares course nm a.t.now a.x.now a.lifts.now a.w.now a.name.now a.p.now h a.e a.limit a.s.now a.best.now
    g.estimate g.within b.requires.2 g.less
    a.w.now kp.new.best (recalled_none a.t.now a.w.now a.p.now.rows h.memo) (omega (arith, n.0, nu.shared.holds, nu.next)) (n.1 ∙ nu.tables.count) kp.ensures (omega arith))

-- ---- both nodes below

-- a removal or an opening is left
open-here : (t : ℕ) (c : onward-Else-not-undecided t) (job : Job) (shares : Shares) (course : Course) (nm : List Bool) → Given t (left_begun t c) job shares course nm → (left_begun t c).args.p.now.next ≡ inner job → (left_begun t c).args.p.now.at < length job.openings
open-here t c job shares course nm h z =
    let a = (left_begun t c).args in
    let nu = h.numbers in
    let u = c.undecided in
    let r = some_left a.p.now.next (get_or a.x.now holds_place 0) a.p.now.at (get_or a.t.now count_place 0) (sym u.ensures ∙ c.if-not-undecided.false) (omega (arith, nu.inside, nu.tables.count)) (omega (arith, z, nu.shared.holds)) in
    omega (arith, r, nu.tables.count)

-- the rows that the nodes below are made from
abbrev rows : (t : ℕ) → onward-Else-not-undecided t → List ℕ
rows t c = (left_begun t c).args.w.now

-- numbers of the node
numbers : (t : ℕ) (c : onward-Else-not-undecided t) → let a = (left_begun t c).args in (0 < a.p.now.rows) × (a.p.now.rows ≤ 65) × (length (rows t c) ≡ stack_size) × (a.p.now.size < name_size)
numbers t c =
    let b = left_begun t c in
    let a = b.args in
    let e = b.requires.0 in
    let f = node_fits e.0 e.1 e.2 e.3 a.t.now a.x.now a.lifts.now (rows t c) a.name.now a.p.now (given t b) in
    (f.1, f.2, f.4, name_room e.0 e.1 e.2 e.3 a.t.now a.x.now a.lifts.now a.w.now a.name.now a.p.now (given t b) (open-here t c e.0 e.1 e.2 e.3 (given t b)))

pub onward-overflow_sub-p : goal.onward-overflow_sub-p
onward-overflow_sub-p t c = omega (arith, (numbers t (goal.at.onward-overflow_sub-p t c).Else-not-undecided).0)

pub onward-lanes_of-row-requires : goal.onward-lanes_of-row-requires
onward-lanes_of-row-requires t c = let f = numbers t (goal.at.onward-lanes_of-row-requires t c).Else-not-undecided in omega (arith, f.0, f.1)

pub onward-bounds-name-size : goal.onward-bounds-name-size
onward-bounds-name-size t c = omega (arith, (numbers t (goal.at.onward-bounds-name-size t c).Else-not-undecided).3)

-- what the nodes below are made from
abbrev left : (t : ℕ) → onward-After-lanes_of-row t → onward-Else-not-undecided t
left t c = c.before.before

above : (t : ℕ) (c : onward-After-lanes_of-row t) (job : Job) (shares : Shares) (course : Course) (nm : List Bool) → Given t (left_begun t (left t c)) job shares course nm → let a = (left_begun t (left t c)).args in Above job shares course nm a.t.now a.x.now (rows t (left t c)) c.lanes_of-row.result a.p.now
above t c job shares course nm h =
    let a = (left_begun t (left t c)).args in
    above_of job shares course nm a.t.now a.x.now a.lifts.now (rows t (left t c)) a.name.now a.p.now h c.lanes_of-row.result c.lanes_of-row.ensures

pub onward-below-no-requires : goal.onward-below-no-requires
onward-below-no-requires t c =
    let o = (goal.at.onward-below-no-requires t c).After-lanes_of-row in
    let e = (left_begun t (left t o)).requires.0 in
    let h = given t (left_begun t (left t o)) in
    (e.0, e.1, e.2, e.3, above t o e.0 e.1 e.2 e.3 h, open-here t (left t o) e.0 e.1 e.2 e.3 h)

-- the first node below
abbrev copied : (t : ℕ) → onward-After-below-no t → onward-After-lanes_of-row t
copied t c = c.before.before.before.before

abbrev first_begun : (t : ℕ) → onward-After-below-no t → onward-Start t
first_begun t c = left_begun t (left t (copied t c))

no_below : (t : ℕ) (c : onward-After-below-no t) (job : Job) (shares : Shares) (course : Course) (nm : List Bool) → Given t (first_begun t c) job shares course nm → let a = (first_begun t c).args in Below job shares course nm a.t.now a.x.now (rows t (left t (copied t c))) c.below-no.new.w a.p.now false c.below-no.result
no_below t c job shares course nm h = c.below-no.ensures job shares course nm (above t (copied t c) job shares course nm h) (open-here t (left t (copied t c)) job shares course nm h)

no_given : (t : ℕ) (c : onward-After-below-no t) (job : Job) (shares : Shares) (course : Course) (nm : List Bool) → Given t (first_begun t c) job shares course nm → let a = (first_begun t c).args in At job shares course (snoc nm false) a.t.now a.x.now a.lifts.now c.below-no.new.w (set a.name.now a.p.now.size false) c.below-no.result
no_given t c job shares course nm h =
    let a = (first_begun t c).args in
    let z = no_below t c job shares course nm h in
    let n = (numbers t (left t (copied t c))).3 in
    at_below job shares course nm a.t.now a.x.now a.lifts.now (rows t (left t (copied t c))) c.below-no.new.w (set a.name.now a.p.now.size false) a.p.now c.below-no.result false h.lift z
    (name_more a.name.now nm a.p.now.size c.below-no.result.size false h.name_is (omega (arith, n, h.room)) (omega (arith, z.numbers.named, h.numbers.named, snoc_long nm false)))
    (length-set a.name.now a.p.now.size false ∙ h.room)

pub onward-walk-requires : goal.onward-walk-requires
onward-walk-requires t c =
    let f = (goal.at.onward-walk-requires t c).After-below-no in
    let b = first_begun t f in
    let e = b.requires.0 in
    let k = c.counted in
    (omega (arith, b.decreases, (no_below t f e.0 e.1 e.2 e.3 (given t b)).falls), ((e.0, e.1, e.2, snoc e.3 false, no_given t f e.0 e.1 e.2 e.3 (given t b)), omega (arith, ap (λ (q : State). q.cost) k.ensures, b.requires.2), b.requires.3))

-- it is walked
abbrev first : (t : ℕ) → onward-After-walk t → onward-After-below-no t
first t c = c.before.before.before.before.before

abbrev passed_begun : (t : ℕ) → onward-After-walk t → onward-Start t
passed_begun t c = first_begun t (first t c)

no_walked : (t : ℕ) (c : onward-After-walk t) (job : Job) (shares : Shares) (course : Course) (nm : List Bool) → Given t (passed_begun t c) job shares course nm
    → let a = (passed_begun t c).args in
    let d = (first t c).below-no in
    SharesWalked job shares course (snoc nm false) a.t.now d.new.w c.walk.new.w (set a.name.now a.p.now.size false) c.walk.new.name a.best.now c.walk.new.best a.limit d.result (counted_s a.s.now) c.walk.new.s
no_walked t c job shares course nm h =
    let a = (passed_begun t c).args in
    let d = (first t c).below-no in
    subst (λ (q : State). SharesWalked job shares course (snoc nm false) a.t.now d.new.w c.walk.new.w (set a.name.now a.p.now.size false) c.walk.new.name a.best.now c.walk.new.best a.limit d.result q c.walk.new.s) c.counted.ensures
    (c.walk.ensures job shares course (snoc nm false) (no_given t (first t c) job shares course nm h))

-- what it leaves, with the numbers that its laws ask
module _ (t : ℕ) (c : onward-After-walk t) (job : Job) (shares : Shares) (course : Course) (nm : List Bool) (h : Given t (passed_begun t c) job shares course nm) where
  abbrev f : onward-After-below-no t
  f = first t c

  abbrev lf : onward-Else-not-undecided t
  lf = left t (copied t f)

  abbrev b : onward-Start t
  b = passed_begun t c

  first_left : (take b.args.p.now.size c.walk.new.name ≡ nm) × (length c.walk.new.name ≡ length b.args.name.now) × Recalled b.args.t.now (rows t lf) c.walk.new.w (kept_rows (inner job) b.args.p.now)
  first_left =
      first_leaves job shares course nm b.args.t.now b.args.x.now b.args.lifts.now b.args.w.now b.args.name.now b.args.p.now h b.args.e b.args.limit b.args.s.now b.args.best.now
      (under t b).estimate (under t b).within b.requires.2 (under t b).less
      (open-here t lf job shares course nm h) f.below-no.result (rows t lf) f.below-no.new.w c.walk.new.w c.walk.new.name c.walk.new.best c.walk.new.s
      (recalled_none b.args.t.now b.args.w.now b.args.p.now.rows h.memo) (no_below t f job shares course nm h) (no_walked t c job shares course nm h)

  after_above : Above job shares course nm b.args.t.now b.args.x.now c.walk.new.w (copied t f).lanes_of-row.result b.args.p.now
  after_above = above_kept job shares course nm b.args.t.now b.args.x.now (rows t lf) c.walk.new.w (copied t f).lanes_of-row.result b.args.p.now (above t (copied t f) job shares course nm h) first_left.2

pub onward-bounds-name-size-2 : goal.onward-bounds-name-size-2
onward-bounds-name-size-2 t c = omega (arith, (numbers t (left t (copied t (first t (goal.at.onward-bounds-name-size-2 t c).After-walk)))).3)

pub onward-below-yes-requires : goal.onward-below-yes-requires
onward-below-yes-requires t c =
    let q = (goal.at.onward-below-yes-requires t c).After-walk in
    let o = copied t (first t q) in
    let e = (passed_begun t q).requires.0 in
    let h = given t (passed_begun t q) in
    (e.0, e.1, e.2, e.3, after_above t q e.0 e.1 e.2 e.3 h, open-here t (left t o) e.0 e.1 e.2 e.3 h)

-- ---- the second

abbrev passed : (t : ℕ) → onward-After-below-yes t → onward-After-walk t
passed t c = c.before.before.before.before

yes_below : (t : ℕ) (c : onward-After-below-yes t) (job : Job) (shares : Shares) (course : Course) (nm : List Bool) → Given t (passed_begun t (passed t c)) job shares course nm → let a = (passed_begun t (passed t c)).args in Below job shares course nm a.t.now a.x.now (passed t c).walk.new.w c.below-yes.new.w a.p.now true c.below-yes.result
yes_below t c job shares course nm h = c.below-yes.ensures job shares course nm (after_above t (passed t c) job shares course nm h) (open-here t (left t (copied t (first t (passed t c)))) job shares course nm h)

yes_given : (t : ℕ) (c : onward-After-below-yes t) (job : Job) (shares : Shares) (course : Course) (nm : List Bool) → Given t (passed_begun t (passed t c)) job shares course nm → let a = (passed_begun t (passed t c)).args in At job shares course (snoc nm true) a.t.now a.x.now a.lifts.now c.below-yes.new.w (set (passed t c).walk.new.name a.p.now.size true) c.below-yes.result
yes_given t c job shares course nm h =
    let q = passed t c in
    let a = (passed_begun t q).args in
    let z = yes_below t c job shares course nm h in
    let n = (numbers t (left t (copied t (first t q)))).3 in
    let l = (first_left t q job shares course nm h).1 in
    at_below job shares course nm a.t.now a.x.now a.lifts.now q.walk.new.w c.below-yes.new.w (set q.walk.new.name a.p.now.size true) a.p.now c.below-yes.result true h.lift z
    (name_more q.walk.new.name nm a.p.now.size c.below-yes.result.size true (first_left t q job shares course nm h).0 (omega (arith, n, l, h.room)) (omega (arith, z.numbers.named, h.numbers.named, snoc_long nm true)))
    (length-set q.walk.new.name a.p.now.size true ∙ l ∙ h.room)

pub onward-walk-requires-2 : goal.onward-walk-requires-2
onward-walk-requires-2 t c =
    let d = (goal.at.onward-walk-requires-2 t c).After-below-yes in
    let q = passed t d in
    let b = passed_begun t q in
    let e = b.requires.0 in
    let wn = no_walked t q e.0 e.1 e.2 e.3 (given t b) in
    (omega (arith, b.decreases, (yes_below t d e.0 e.1 e.2 e.3 (given t b)).falls), ((e.0, e.1, e.2, snoc e.3 true, yes_given t d e.0 e.1 e.2 e.3 (given t b)), omega (arith, wn.lower, b.requires.2), b.requires.3))

-- both, from what is walked of the second
both : (t : ℕ) (d : onward-After-below-yes t) (job : Job) (shares : Shares) (course : Course) (nm : List Bool) (h : Given t (passed_begun t (passed t d)) job shares course nm) (w₅ : List ℕ) (n₂ b₂ : List Bool) (r₂ : State)
    → let c = passed t d in
    let a = (passed_begun t c).args in
    SharesWalked job shares course (snoc nm true) a.t.now d.below-yes.new.w w₅ (set c.walk.new.name a.p.now.size true) n₂ c.walk.new.best b₂ a.limit d.below-yes.result c.walk.new.s r₂
    → SharesWalked job shares course nm a.t.now a.w.now w₅ a.name.now n₂ a.best.now b₂ a.limit a.p.now a.s.now r₂
both t d job shares course nm h w₅ n₂ b₂ r₂ wy =
    let c = passed t d in
    let f = first t c in
    let lf = left t (copied t f) in
    let b = passed_begun t c in
    walked_both job shares course nm b.args.t.now b.args.x.now b.args.lifts.now b.args.w.now b.args.name.now b.args.p.now h b.args.e b.args.limit b.args.s.now b.args.best.now
    (under t b).estimate (under t b).within b.requires.2 (under t b).less
    (open-here t lf job shares course nm h) f.below-no.result (rows t lf) f.below-no.new.w c.walk.new.w c.walk.new.name c.walk.new.best c.walk.new.s
    (recalled_none b.args.t.now b.args.w.now b.args.p.now.rows h.memo) (no_below t f job shares course nm h) (no_walked t c job shares course nm h)
    d.below-yes.result d.below-yes.new.w w₅ n₂ b₂ r₂ (yes_below t d job shares course nm h) wy

pub onward-returns : goal.onward-returns
onward-returns t c = λ job shares course nm h.
    let d = (goal.at.onward-returns t c).After-below-yes in
    let q = passed t d in
    both t d job shares course nm h c.walk-2.new.w c.walk-2.new.name c.walk-2.new.best c.walk-2.new.s (c.walk-2.ensures job shares course (snoc nm true) (yes_given t d job shares course nm h))
