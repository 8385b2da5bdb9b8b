-- What is known where a walk ends the walks, and where it does not.
use Prim.Native.Nat.{ℕ, ◌<◌, ◌≤◌, min}
use mathlib.Core.Path.{◌≡◌, refl, sym, ap, subst, ◌∙◌}
use mathlib.Core.Bool.{Bool, true, false, cond}
use mathlib.Core.List.{List}
use native.Mathlib.Omega.{arith}
use borrow.Author.Tests.{ltb-true, ltb-false}
use lib.Dec.{ltb}
use lib.ListN.{length, take}
use Rattle.std.specs.Prelude.{Option, None, Some, Result, Ok, Err}
use Rattle.model.specs.Model.{Job}
use Rattle.model.specs.Decisions.{Held}
use Rattle.model.specs.LowerBound.{plan_at}
use Rattle.model.specs.Promise.{BestPlan, Any}
use Rattle.shares.specs.Shares.{Shares, FairShares}
use Rattle.shares.specs.Certificate.{NoneUnder}
use Rattle.shares.specs.Dolls.{LiftedFrom}
use Rattle.share_walk.specs.declared.State.{State}
use Rattle.share_walk.specs.State.{name_size, view, course_under}
use Rattle.share_walk.specs.Courses.{job_course}
use Rattle.share_walk.proofs.Worth.{found_best, nothing_less, cut_longer}
use Rattle.cutoffs.specs.declared.found.Over.{Over}
use Rattle.cutoffs.specs.declared.Risen.{Risen}
use Rattle.cutoffs.specs.Ends.{plain, seen, ended_s}
use Rattle.cutoffs.specs.Risen.{last_of, RisenRight}
use Rattle.cutoffs.proofs.Names.{take_min}

-- what is found by numbers alone
abbrev pub Told : Type 0
Told = Result (Option (ℕ × ℕ)) Over

-- the end by its numbers, by what the walk's state says
abbrev pub End : ℕ → ℕ → State → Bool → Bool → Option (Told × ℕ)
End k floor s over under = cond over (Some (Err (record {}), floor)) (cond under (Some (Ok (Some (s.cost, min s.size name_size)), floor)) None)

module _ (k floor : ℕ) (s : State) (job : Job) (shares : Shares) (fair : FairShares job shares) (lanes : List Held) (lift : ℕ → ℕ) (lifted : LiftedFrom job shares 0 lift) (limit : ℕ) (best : List Bool) (v : view s best ≡ course_under job shares (job_course lanes lift) k limit) where
  -- where it does not, no plan costs less than its cutoff
  pub walks_on : seen None ≡ ended_s k floor s → NoneUnder job k
  unfolding seen
  walks_on e = go s.over (ltb s.cost k) refl refl e
    where
      go : (b l : Bool) → s.over ≡ b → ltb s.cost k ≡ l → None ≡ End k floor s b l → NoneUnder job k
      go true l o g h = let z : ◌≡◌ {A = ℕ} 0 1 = cc in absurd (omega arith)
      go false true o g h = let z : ◌≡◌ {A = ℕ} 0 1 = cc in absurd (omega arith)
      go false false o g h = nothing_less job shares fair lanes lift lifted k limit best s v o (ltb-false s.cost k g)

  -- where it does, the end is right, where no plan costs less than `known`
  pub walks_end : (known : ℕ) (in_hand : Option ℕ) (r : Risen) → seen (Some r) ≡ ended_s k floor s → length best ≡ name_size → known ≤ floor → floor < k → k ≤ last_of in_hand → NoneUnder job floor → RisenRight job shares lift known in_hand limit best r
  unfolding seen plain
  walks_end known in_hand r e n risen above most none = go s.over (ltb s.cost k) refl refl e
    where
      go : (b l : Bool) → s.over ≡ b → ltb s.cost k ≡ l → Some (plain r.found, r.floor) ≡ End k floor s b l → RisenRight job shares lift known in_hand limit best r
      go true l o g h =
          let c : ◌≡◌ {A = Told × ℕ} (plain r.found, r.floor) (Err (record {}), floor) = cc in
          let a = ap (λ (x : Told × ℕ). x.0) c in
          record {
            plan_found_lem = λ u f. let y = sym (ap plain f) ∙ a in let z : ◌≡◌ {A = ℕ} 0 1 = cc in absurd (omega arith);
            longer = λ _ f. record {
              cutoff = k;
              above = rw (ap (λ (x : Told × ℕ). x.1) c) above;
              most = most;
              longer = cut_longer job shares fair lanes lift lifted k limit best s v o;
            };
            none_under = subst (NoneUnder job) (sym (ap (λ (x : Told × ℕ). x.1) c)) none;
            risen = rw (ap (λ (x : Told × ℕ). x.1) c) risen;
            passed = λ f. let y = sym (ap plain f) ∙ a in let z : ◌≡◌ {A = ℕ} 0 1 = cc in absurd (omega arith);
          }
      go false true o g h =
          let c : ◌≡◌ {A = Told × ℕ} (plain r.found, r.floor) (Ok (Some (s.cost, min s.size name_size)), floor) = cc in
          let a = ap (λ (x : Told × ℕ). x.0) c in
          record {
            plan_found_lem = λ u f.
                let y = sym (ap plain f) ∙ a in
                let m : ◌≡◌ {A = ℕ × ℕ} (s.cost, min s.size name_size) (u.cost, u.size) = cc in
                subst (λ (i : ℕ). BestPlan job Any i (plan_at job (take u.size best))) (ap (λ (x : ℕ × ℕ). x.0) m)
                (subst (λ (p : List Bool). BestPlan job Any s.cost (plan_at job p)) (sym (take_min s.size name_size best n) ∙ ap (λ (x : ℕ × ℕ). take x.1 best) m)
                (found_best job shares fair lanes lift lifted k limit best s v o (ltb-true s.cost k g)));
            longer = λ _ f. let y = sym (ap plain f) ∙ a in let z : ◌≡◌ {A = ℕ} 0 1 = cc in absurd (omega arith);
            none_under = subst (NoneUnder job) (sym (ap (λ (x : Told × ℕ). x.1) c)) none;
            risen = rw (ap (λ (x : Told × ℕ). x.1) c) risen;
            passed = λ f. let y = sym (ap plain f) ∙ a in let z : ◌≡◌ {A = ℕ} 0 1 = cc in absurd (omega arith);
          }
      go false false o g h = let z : ◌≡◌ {A = ℕ} 0 1 = cc in absurd (omega arith)
