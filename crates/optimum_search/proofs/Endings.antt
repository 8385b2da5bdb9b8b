-- What the ends of the walks are worth: of the counted walk with a limit, that there is no plan (`nothing`) or the best of all (`settled`), or that there is a plan, and a floor (`begun`); that walk at the walk number (`counted`);
-- and a walk by shares that is cut, with the counted walk's plan in hand (`cut_short`).
use Prim.Native.Nat.{ℕ, ◌<◌, ◌≤◌, min}
use mathlib.Core.Path.{◌≡◌, refl, sym, ap, subst, ◌∙◌}
use mathlib.Core.Bool.{Bool, true, false}
use mathlib.Core.List.{[]}
use mathlib.Core.Logic.{inl, inr}
use native.Mathlib.Omega.{arith}
use Rattle.std.specs.Prelude.{Option, None, Some}
use Rattle.branch.specs.declared.Bound.{Bound}
use Rattle.branch.specs.declared.Bound.TheVariants.{Missing, Sum}
use Rattle.branch.proofs.Bounds.{sum_inj}
use Rattle.model.specs.Model.{Job, HasPlan}
use Rattle.model.specs.LowerBound.{bound_of}
use Rattle.model.specs.Promise.{PlannerAnswer, no_plan_lem2, cut_none, cut, optimum, Promise, whole_count, answer_of}
use Rattle.model.proofs.Roots.{floor_least}
use Rattle.model.proofs.Promised.{promise}
use Rattle.shares.specs.Certificate.{NoneUnder}
use Rattle.lane_rows.specs.Layout.{inf}
use Rattle.search.specs.declared.Found.{Found}
use Rattle.search_state.specs.Answer.{answer_with}
use Rattle.search.specs.Found.{plan_found, said_in}
use Rattle.cutoffs.specs.Risen.{last_of}
use Rattle.share_search.specs.Sought.{Longer}
use Rattle.optimum_search.specs.Ends.{first_nodes, LookedNodes, Beyond, Ends}

module _ (job : Job) where
  -- no plan costs less than the bound of the first node
  pub none_under : (f : ℕ) → bound_of job [] ≡ Sum f → NoneUnder job f
  none_under f e = λ q k. let l = floor_least job q k in omega (arith, sum_inj (bound_of job []) f l.0 e l.1, l.2)

  -- the planner's floor is no higher than a floor that the bound of the first node is no higher than
  planners : (f low : ℕ) → bound_of job [] ≡ Sum f → f ≤ low → (g : ℕ) → bound_of job [] ≡ Sum g → g ≤ low
  planners f low e l g h = omega (arith, l, sum_inj (bound_of job []) g f h e)

  module _ (walk : ℕ) where
    -- all first nodes up to the walk number are looked at
    all_looked : LookedNodes walk walk
    all_looked = record { least = omega arith; most = omega arith }

    -- the planner's walk at the walk number is cut, where no plan costs less than the last cutoff
    beyond : NoneUnder job inf → (f : ℕ) (in_hand : Option ℕ) → bound_of job [] ≡ Sum f → HasPlan job × (walk < whole_count job) → Beyond job walk f in_hand
    beyond none f in_hand e h = record {
      has_plan = h.0;
      first = omega (arith, h.1);
      none_under = none_under f e;
      planners = planners f f e (omega arith);
      longer = inr (record { longer = h.1; none_under = none });
    }

    -- an answer of the planner there
    promised : NoneUnder job inf → (a : PlannerAnswer) → Promise job walk a → Ends job walk a
    promised none no_plan_lem2 p = p.says_6.0 refl
    promised none (cut_none n f) p = let h = p.says_7.0 refl in (beyond none f None (p.floor h.0) h, record { nodes = walk; looked = all_looked; none = p.plan_for_lem })
    promised none (cut n f c q) p = let h = p.says_7.0 refl in (beyond none f (Some c) (p.floor h.0) h, record { nodes = walk; looked = all_looked; best = p.plan_for_lem })
    promised none (optimum n f c q) p = p.plan_for_lem

    -- the counted walk at the walk number, where no plan costs less than the number for a missing price
    pub counted : (n m : ℕ) (r : Found) → said_in n m r ≡ answer_of job walk → NoneUnder job inf → Ends job walk (said_in n m r)
    counted n m r is none = subst (Ends job walk) (sym is) (promised none (answer_of job walk) (promise job walk))

  module _ (n m : ℕ) (r : Found) (limit : ℕ) (is : said_in n m r ≡ answer_of job limit) (walk : ℕ) where
    -- what it says by the floor, whether there are more nodes, and the cost of the plan, if one was found
    abbrev said_by : Bound → Bool → Option ℕ → PlannerAnswer
    said_by b o t = answer_with (plan_found n m r) r.count b o t

    -- what the counted walk says keeps the planner's promise
    p : Promise job limit (said_in n m r)
    p = subst (Promise job limit) (sym is) (promise job limit)

    -- where the first node has no bound there is no plan
    pub nothing : r.floor ≡ Missing → Ends job walk (said_in n m r)
    nothing e = let q = ap (λ (b : Bound). said_by b r.over r.cost) e in subst (Ends job walk) (sym q) ((subst (Promise job limit) q p).says_6.0 refl)

    module _ (floor : ℕ) (e : r.floor ≡ Sum floor) where
      -- what a walk that is cut says
      abbrev Begun : Type 0
      Begun = HasPlan job × (limit < whole_count job) × (bound_of job [] ≡ Sum floor)

      -- by whether there are more nodes
      by : (o : Bool) → r.over ≡ o → said_in n m r ≡ said_by (Sum floor) o r.cost
      by o f = ap (λ (b : Bound). said_by b r.over r.cost) e ∙ ap (λ (b : Bool). said_by (Sum floor) b r.cost) f

      settled_by : (t : Option ℕ) → Promise job limit (said_by (Sum floor) false t) → Ends job walk (said_by (Sum floor) false t)
      settled_by None x = x.says_6.0 refl
      settled_by (Some c) x = x.plan_for_lem

      -- a walk that ended, at whatever limit
      pub settled : r.over ≡ false → Ends job walk (said_in n m r)
      settled f = let q = by false f in subst (Ends job walk) (sym q) (settled_by r.cost (subst (Promise job limit) q p))

      floor_by : (t : Option ℕ) → Promise job limit (said_by (Sum floor) true t) → Begun
      floor_by None x = let h = x.says_7.0 refl in (h.0, h.1, x.floor h.0)
      floor_by (Some c) x = let h = x.says_7.0 refl in (h.0, h.1, x.floor h.0)

      -- a walk that is cut: there is a plan, the whole walk has more nodes, and the floor is the bound of the first node
      begun_is : r.over ≡ true → Begun
      begun_is f = floor_by r.cost (subst (Promise job limit) (by true f) p)

      -- so no plan costs less than its floor
      pub begun : r.over ≡ true → NoneUnder job floor
      begun f = none_under floor (begun_is f).2

      passed_by : (low : ℕ) → NoneUnder job low → (t : Option ℕ) → last_of t ≤ low → Promise job limit (said_by (Sum floor) true t) → NoneUnder job inf
      passed_by low none None l x = λ q k. omega (arith, none q k, l)
      passed_by low none (Some c) l x =
          let b = x.plan_for_lem in
          λ q k. omega (arith, none q k, l, none (plan_found n m r) b.keeps, b.states)

      -- where no plan costs less than the last cutoff, none costs less than the number for a missing price: a plan in hand would cost less than a cutoff one above it
      pub passed : (low : ℕ) → NoneUnder job low → last_of r.cost ≤ low → r.over ≡ true → NoneUnder job inf
      passed low none l f = passed_by low none r.cost l (subst (Promise job limit) (by true f) p)

      module _ (first : limit ≡ min walk first_nodes) where
        -- the first nodes up to the limit are looked at
        looked : LookedNodes walk limit
        looked = record { least = omega (arith, first); most = omega (arith, first) }

        cut_by : (low : ℕ) (t : Option ℕ) → Beyond job walk low t → Promise job limit (said_by (Sum floor) true t) → Ends job walk (said_by (Sum low) true t)
        cut_by low None b x = (b, record { nodes = limit; looked = looked; none = x.plan_for_lem })
        cut_by low (Some c) b x = (b, record { nodes = limit; looked = looked; best = x.plan_for_lem })

        -- with a higher floor, where a walk by shares is cut too
        pub cut_short : (low : ℕ) → NoneUnder job low → floor ≤ low → Longer job r.cost walk low → r.over ≡ true → Ends job walk (answer_with (plan_found n m r) r.count (Sum low) true r.cost)
        cut_short low none risen longer f =
            let b = begun_is f in
            cut_by low r.cost (record {
              has_plan = b.0;
              first = omega (arith, b.1, first);
              none_under = none;
              planners = planners floor low b.2 risen;
              longer = inl longer;
            })
            (subst (Promise job limit) (by true f) p)
