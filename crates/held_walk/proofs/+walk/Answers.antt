-- `walk` walks on from its node, and keeps what was written before it, by its branches on a removal and on an opening: by recursion on what is undecided, for each sheet whose tables it may be given.
use Prim.Native.Nat.{ℕ, ◌<◌, ◌+◌}
use mathlib.Core.Path.{◌≡◌, refl, sym, ap, subst, ◌∙◌}
use mathlib.Core.Bool.{Bool, true, false}
use mathlib.Core.List.{List}
use native.Mathlib.Omega.{arith}
use lib.Bits.{bit_or}
use lib.ListN.{length}
use Rattle.held_rows.specs.Held.{HeldSheet, held}
use Rattle.held_nodes.specs.declared.Node.{Node}
use Rattle.held_nodes.specs.State.{settled_n, At, HeldWalked}
use Rattle.held_nodes.proofs.Settling.{Rests, settle_asks, rests}
use Rattle.held_nodes.proofs.Openings.{no_blocks_lem, yes_blocks, full_walked}
use Rattle.held_nodes.proofs.Branches.{passed_as, rests_walked}
use Rattle.held_walk.proofs.Removal as removal
use Rattle.held_walk.proofs.Opening as opening
use Rattle.held_walk.proofs.+walk.Goals as goal
use Rattle.held_walk.proofs.+walk.Goals.{branch_on_removal-in-Sum, branch_on_removal-in-Missing, branch_on_removal-Joined-stay_sums, branch_on_opening-in-Sum, branch_on_opening-in-Missing, branch_on_opening-Joined-no_sums, walk-After-settle-rows}

-- ---- on a removal

pub branch_on_removal-removal_term-h-requires-clause-term_asks : goal.branch_on_removal-removal_term-h-requires-clause-term_asks
branch_on_removal-removal_term-h-requires-clause-term_asks t c = let r = c.requires.0.1 in removal.term_asked r.1 r.2

pub branch_on_removal-stay_sums-requires : goal.branch_on_removal-stay_sums-requires
branch_on_removal-stay_sums-requires t c = let r = c.requires.0.1 in
    removal.sums_asked r.1 r.2 c.number.result c.removal_term-h.result c.number.ensures.value c.removal_term-h.ensures

pub branch_on_removal-walk-a-requires : goal.branch_on_removal-walk-a-requires
branch_on_removal-walk-a-requires t c = let r = c.requires.0.1 in
    let at : c.stays.result.at ≡ c.args.p.at = ap (λ (q : Node). q.at) c.stays.ensures in
    let next : c.stays.result.next ≡ c.args.p.next + 1 = ap (λ (q : Node). q.next) c.stays.ensures in
    (omega (arith, c.decreases, at, next, r.2, r.1.holders.parts), ((c.requires.0.0, (removal.more r.1 r.2 false, removal.stays_given r.1 r.2 c.number.result c.removal_term-h.result c.number.ensures.value c.removal_term-h.ensures c.stay_sums.ensures.frame c.args.limit c.args.s (sym c.stay_sums.ensures.opens ∙ c.in-Sum.is) c.stays.ensures)), c.requires.1))

-- the first branch, either way
stayed : (t : ℕ) (c : branch_on_removal-Joined-stay_sums t) (sheet : HeldSheet) (ds : List (List Bool))
    → let a = c.args in
    (h : At sheet ds a.t.now a.u.now a.w.now a.v.now a.p a.x a.g) (l : a.p.next < held sheet)
    → removal.Stayed h l (bit_or a.p.shut c.number.result) a.limit a.s c.match-stay_sums.w c.match-stay_sums.v c.match-stay_sums.a
stayed t c sheet ds h l =
    elim c.match-stay_sums.branch [
      | branch_on_removal-in-Sum w ↦ passed_as w.w-is w.v-is w.a-is
          (removal.stays_open h l c.number.result c.removal_term-h.result c.number.ensures.value c.removal_term-h.ensures c.stay_sums.ensures.frame c.args.limit c.args.s (sym c.stay_sums.ensures.opens ∙ w.in-Sum.is) w.stays.ensures w.counted.ensures (w.walk-a.ensures sheet (removal.more h l false)))
      | branch_on_removal-in-Missing w ↦ passed_as w.w-is w.v-is (w.a-is ∙ w.reached-a.ensures)
          (removal.stays_closed h l c.number.result c.removal_term-h.result c.number.ensures.value c.removal_term-h.ensures c.stay_sums.ensures.frame c.args.limit c.args.s (sym c.stay_sums.ensures.opens ∙ w.in-Missing.is))
    ]

pub branch_on_removal-returns-in_default : goal.branch_on_removal-returns-in_default
branch_on_removal-returns-in_default t c = λ sheet ds h l.
    let a = c.args in
    subst (HeldWalked sheet ds a.t.now a.w.now c.match-stay_sums.w a.v.now c.match-stay_sums.v a.limit a.p a.s) (sym c.reached.ensures)
    (removal.out_closed h l c.from.result c.from.ensures (bit_or c.args.p.shut c.number.result) (stayed t (goal.at.branch_on_removal-returns-in_default t c).Joined-stay_sums sheet ds h l) (sym c.«open».ensures ∙ c.in_default.is))

pub branch_on_removal-walk-b-requires : goal.branch_on_removal-walk-b-requires
branch_on_removal-walk-b-requires t c = let r = c.requires.0.1 in
    let at : c.out.result.at ≡ c.args.p.at = ap (λ (q : Node). q.at) c.out.ensures in
    let next : c.out.result.next ≡ c.args.p.next + 1 = ap (λ (q : Node). q.next) c.out.ensures in
    let z = stayed t (goal.at.branch_on_removal-walk-b-requires t c).Joined-stay_sums c.requires.0.0 r.0 r.1 r.2 in
    (omega (arith, c.decreases, at, next, r.2, r.1.holders.parts), ((c.requires.0.0, (removal.more r.1 r.2 true, removal.out_given r.1 r.2 c.from.result c.from.ensures (bit_or c.args.p.shut c.number.result) z (sym c.«open».ensures ∙ c.in-Sum-open.is) c.out.ensures)), c.requires.1))

pub branch_on_removal-returns : goal.branch_on_removal-returns
branch_on_removal-returns t c = λ sheet ds h l.
    removal.out_open h l c.from.result c.from.ensures (bit_or c.args.p.shut c.number.result) (stayed t (goal.at.branch_on_removal-returns t c).Joined-stay_sums sheet ds h l)
    (sym c.«open».ensures ∙ c.in-Sum-open.is) c.out.ensures c.counted-2.ensures (c.walk-b.ensures sheet (removal.more h l true))

-- ---- on an opening

pub branch_on_opening-opening_term-h-requires : goal.branch_on_opening-opening_term-h-requires
branch_on_opening-opening_term-h-requires t c = let r = c.requires.0.1.1 in opening.term_asked r.1 refl r.2

pub branch_on_opening-no_sums-requires : goal.branch_on_opening-no_sums-requires
branch_on_opening-no_sums-requires t c = let r = c.requires.0.1.1 in opening.sums_asked r.1 refl r.2 c.opening_term-h.result c.opening_term-h.ensures

pub branch_on_opening-walk-a-requires : goal.branch_on_opening-walk-a-requires
branch_on_opening-walk-a-requires t c = let r = c.requires.0.1.1 in
    let at : c.no.result.at ≡ c.args.p.at + 1 = ap (λ (q : Node). q.at) c.no.ensures in
    let next : c.no.result.next ≡ c.args.p.next = ap (λ (q : Node). q.next) c.no.ensures in
    (omega (arith, c.decreases, at, next, r.2, r.1.tables.few), ((c.requires.0.0, (no_blocks_lem c.requires.0.1.0, opening.no_given r.1 refl r.2 c.opening_term-h.result c.opening_term-h.ensures c.no_sums.ensures.frame c.args.limit c.args.s (sym c.no_sums.ensures.opens ∙ c.in-Sum.is) c.no.ensures)), c.requires.1))

-- the first branch, either way
rested : (t : ℕ) (c : branch_on_opening-Joined-no_sums t) (sheet : HeldSheet) (ds : List (List Bool)) (g : ℕ)
    → let a = c.args in
    (h : At sheet ds a.t.now a.u.now a.w.now a.v.now (settled_n a.p a.rows) a.x g) (l : a.p.at < length sheet.positions)
    → opening.Rested h refl l a.limit a.s c.match-no_sums.w c.match-no_sums.v c.match-no_sums.a
rested t c sheet ds g h l =
    elim c.match-no_sums.branch [
      | branch_on_opening-in-Sum w ↦ passed_as w.w-is w.v-is w.a-is
          (opening.no_open h refl l c.opening_term-h.result c.opening_term-h.ensures c.no_sums.ensures.frame c.args.limit c.args.s (sym c.no_sums.ensures.opens ∙ w.in-Sum.is) w.no.ensures w.counted.ensures (w.walk-a.ensures sheet (no_blocks_lem ds)))
      | branch_on_opening-in-Missing w ↦ passed_as w.w-is w.v-is (w.a-is ∙ w.reached-a.ensures)
          (opening.no_closed h refl l c.opening_term-h.result c.opening_term-h.ensures c.no_sums.ensures.frame c.args.limit c.args.s (sym c.no_sums.ensures.opens ∙ w.in-Missing.is))
    ]

pub branch_on_opening-returns-in_default : goal.branch_on_opening-returns-in_default
branch_on_opening-returns-in_default t c = λ sheet ds g h l.
    let a = c.args in
    subst (HeldWalked sheet ds a.t.now a.w.now c.match-no_sums.w a.v.now c.match-no_sums.v a.limit (settled_n a.p a.rows) a.s) (sym c.reached.ensures)
    (opening.stop_closed h refl l c.from.result c.number-k.result c.from.ensures c.number-k.ensures.value (rested t (goal.at.branch_on_opening-returns-in_default t c).Joined-no_sums sheet ds g h l) (sym c.«open».ensures ∙ c.in_default.is))

pub branch_on_opening-walk-b-requires : goal.branch_on_opening-walk-b-requires
branch_on_opening-walk-b-requires t c = let r = c.requires.0.1.1 in
    let at : c.yes.result.at ≡ c.args.p.at + 1 = ap (λ (q : Node). q.at) c.yes.ensures in
    let next : c.yes.result.next ≡ 0 = ap (λ (q : Node). q.next) c.yes.ensures in
    let z = rested t (goal.at.branch_on_opening-walk-b-requires t c).Joined-no_sums c.requires.0.0 c.requires.0.1.0 r.0 r.1 r.2 in
    (omega (arith, c.decreases, at, next, r.2, r.1.tables.few), ((c.requires.0.0, (yes_blocks c.requires.0.1.0, opening.stop_given r.1 refl r.2 c.from.result c.number-k.result c.from.ensures c.number-k.ensures.value z (sym c.«open».ensures ∙ c.in-Sum-open.is) c.yes.ensures)), c.requires.1))

pub branch_on_opening-returns : goal.branch_on_opening-returns
branch_on_opening-returns t c = λ sheet ds g h l.
    opening.stop_open h refl l c.from.result c.number-k.result c.from.ensures c.number-k.ensures.value (rested t (goal.at.branch_on_opening-returns t c).Joined-no_sums sheet ds g h l)
    (sym c.«open».ensures ∙ c.in-Sum-open.is) c.yes.ensures c.counted-2.ensures (c.walk-b.ensures sheet (yes_blocks ds))

-- ---- at a node

pub walk-settle-rows-requires : goal.walk-settle-rows-requires
walk-settle-rows-requires t c = let h = c.requires.0.1.1 in λ o. settle_asks h (h.stop o) h.pending o

-- what is given once the node is settled
rest : (t : ℕ) (c : walk-After-settle-rows t) (sheet : HeldSheet) (ds : List (List Bool))
    → let a = c.args in
    At sheet ds a.t.now a.u.now a.w.now a.v.now a.p a.x a.g → Rests sheet ds a.t.now a.u.now a.w.now c.settle-rows.new.w a.v.now c.settle-rows.new.v a.p a.x a.g c.settle-rows.result
rest t c sheet ds h = rests h (omega (arith, c.if-p-number.false, c.number.ensures.value, h.holders.holds)) c.settle-rows.ensures

pub walk-returns-then-p-cell : goal.walk-returns-then-p-cell
walk-returns-then-p-cell t c = λ sheet ds h.
    let a = c.args in
    let r = rest t (goal.at.walk-returns-then-p-cell t c).After-settle-rows sheet ds h in
    rests_walked r r.best
    (subst (HeldWalked sheet ds a.t.now c.settle-rows.new.w c.settle-rows.new.w c.settle-rows.new.v c.keep.new.v a.limit (settled_n a.p c.settle-rows.result) a.s) (sym c.kept.ensures)
    (full_walked r.given refl c.keep.new.v a.limit a.s (c.if-p-cell.true ∙ c.cell.ensures ∙ h.tables.count) c.keep.ensures))

pub walk-branch_on_opening-requires : goal.walk-branch_on_opening-requires
walk-branch_on_opening-requires t c = let r = c.requires.0 in
    let h = r.1.1 in
    (omega (arith, c.decreases), ((r.0, (r.1.0, (c.args.g, (rest t (goal.at.walk-branch_on_opening-requires t c).After-settle-rows r.0 r.1.0 h).given, omega (arith, h.inside, h.tables.count, c.cell.ensures, c.if-p-cell.false)))), c.requires.1))

pub walk-returns : goal.walk-returns
walk-returns t c = λ sheet ds h.
    let r = rest t (goal.at.walk-returns t c).After-settle-rows sheet ds h in
    rests_walked r r.best (c.branch_on_opening.ensures sheet ds c.args.g r.given (omega (arith, h.inside, h.tables.count, c.cell.ensures, c.if-p-cell.false)))
