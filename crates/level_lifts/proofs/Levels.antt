-- Lifts in an array, level by level: none behind the last opening; one level more, which at first has the lift of the next; and a level with another lift.
use Prim.Native.Nat.{ℕ, suc, ◌+◌, ◌<◌}
use mathlib.Core.Path.{◌≡◌, sym, subst}
use mathlib.Core.List.{List}
use native.Mathlib.Omega.{arith}
use native.Mathlib.Numerals.{add-one}
use lib.ListN.{length, get_or, set, replicate, get_or-replicate}
use Rattle.std.proofs.lemmas.List.{get_or-set_same, get_or-set_other}
use Rattle.model.specs.Model.{Job}
use Rattle.shares.specs.Shares.{Shares, FairShares}
use Rattle.shares.specs.Sources.{LiftsAll}
use Rattle.shares.specs.Dolls.{LiftedFrom}
use Rattle.shares.proofs.Dolls.{lifts_none, lifts_before, next_level}
use Rattle.share_walk.specs.Courses.{lift_in}

module _ (job : Job) (shares : Shares) (fair : FairShares job shares) where
  abbrev n : ℕ
  n = length job.openings

  -- behind the last opening no lift is needed
  pub lifted_none : (l : ℕ) → l ≡ n → n < 65 → LiftedFrom job shares l (lift_in (replicate 65 0))
  lifted_none l e h = record {
    each = λ k a b. subst (LiftsAll job shares k) (sym (get_or-replicate {A = ℕ} 65 k 0 0 (omega arith))) (lifts_none job shares fair k b);
    last = get_or-replicate {A = ℕ} 65 n 0 0 h;
  }

  -- the lift of a level may be any that is good
  pub lifted_set : (l f : ℕ) (lifts : List ℕ) → l < n → l < length lifts → LiftedFrom job shares (suc l) (lift_in lifts) → LiftsAll job shares l f → LiftedFrom job shares l (lift_in (set lifts l f))
  lifted_set l f lifts h room ok all =
      next_level job shares fair (lift_in lifts) (lift_in (set lifts l f)) l h ok (λ k g. get_or-set_other lifts l k f 0 (λ e. omega arith))
      (subst (LiftsAll job shares l) (sym (get_or-set_same lifts l f 0 room)) all)

  -- one level more has at first the lift of the next
  pub lifted_next : (l : ℕ) (lifts : List ℕ) → l < n → l < length lifts → LiftedFrom job shares (l + 1) (lift_in lifts) → LiftedFrom job shares l (lift_in (set lifts l (get_or lifts (l + 1) 0)))
  lifted_next l lifts h room ok =
      lifted_set l (get_or lifts (l + 1) 0) lifts h room (subst (λ (k : ℕ). LiftedFrom job shares k (lift_in lifts)) (add-one l) ok)
      (lifts_before job shares fair l (l + 1) (get_or lifts (l + 1) 0) (omega arith) (omega arith) (ok.each (l + 1) (omega arith) (omega arith)))

  -- lifts from a level on are lifts from the next one on
  pub lifted_later : (l : ℕ) (lift : ℕ → ℕ) → LiftedFrom job shares l lift → LiftedFrom job shares (suc l) lift
  lifted_later l lift ok = record { each = λ k a b. ok.each k (omega arith) b; last = ok.last }

  -- so a level may have another one in its place
  pub lifted_again : (l f : ℕ) (lifts : List ℕ) → l < n → l < length lifts → LiftedFrom job shares l (lift_in lifts) → LiftsAll job shares l f → LiftedFrom job shares l (lift_in (set lifts l f))
  lifted_again l f lifts h room ok all = lifted_set l f lifts h room (lifted_later l (lift_in lifts) ok) all
