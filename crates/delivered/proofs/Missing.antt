-- When a point's estimate is missing: exactly where some part can't be kept over its yes and undecided openings. By recursion over the parts; E4's term is missing nowhere else.
use mathlib.Core.Path.{◌≡◌, refl, sym, ap, subst, ◌∙◌}
use mathlib.Core.Bool.{Bool}
use mathlib.Core.List.{List, [], ◌∷◌}
use mathlib.Core.Logic.{◌⊎◌, inl, inr, ◌↔◌}
use Rattle.branch.specs.declared.Bound.{Bound}
use Rattle.branch.specs.declared.Bound.TheVariants.{Missing, Sum}
use Rattle.branch.specs.Lower.{add, total}
use Rattle.branch.proofs.Bounds.{no_sum_lem}
use Rattle.model.specs.Model.{Job}
use Rattle.model.specs.Decisions.{Held, held_parts}
use Rattle.model.specs.LowerBound.{places_at, part_bound, paid_at, stop_cost, bound_of}
use Rattle.model.specs.Estimate.{KeepsOver, LeastOver}
use Rattle.model.proofs.Offers.{part_bound_is}
use Rattle.model.proofs.Sharper.{missing_same}
use Rattle.branch.specs.Search.{In}
use Rattle.delivered.specs.Terms.{SomeLost}
use Rattle.model.proofs.Lower.{add_missing}

-- a sum is missing exactly if one of its bounds is
some_missing : (x y : Bound) → add x y ≡ Missing → (x ≡ Missing) ⊎ (y ≡ Missing)
some_missing Missing y e = inl refl
some_missing (Sum a) Missing e = inr refl
some_missing (Sum a) (Sum b) e = absurd (no_sum_lem (add (Sum a) (Sum b)) _ e refl)

module _ {A : Type 0} (f : A → List Bool → Bound) (p : List Bool) where
  total_missing : (xs : List A) → total f xs p ≡ Missing → (a : A) × In a xs × (f a p ≡ Missing)
  total_missing [] e = absurd (no_sum_lem (Sum 0) 0 e refl)
  total_missing (x ∷ xs) e = go (some_missing (f x p) (total f xs p) e) (total_missing xs)
    where
      go : (f x p ≡ Missing) ⊎ (total f xs p ≡ Missing) → (total f xs p ≡ Missing → (a : A) × In a xs × (f a p ≡ Missing)) → (a : A) × In a (x ∷ xs) × (f a p ≡ Missing)
      go (inl h) more = (x, inl refl, h)
      go (inr h) more = let r = more h in (r.0, inr r.1, r.2)

  missing_total : (xs : List A) (a : A) → In a xs → f a p ≡ Missing → total f xs p ≡ Missing
  missing_total [] a h e = absurd h
  missing_total (x ∷ xs) a (inl h) e = ap (λ (b : Bound). add b (total f xs p)) (ap (λ (c : A). f c p) (sym h) ∙ e)
  missing_total (x ∷ xs) a (inr h) e = ap (add (f x p)) (missing_total xs a h e) ∙ add_missing (f x p)

module _ (job : Job) (p : List Bool) where
  abbrev Lost : Held → Type 0
  Lost held = (cs : List Bool) → KeepsOver job held.part (places_at job held p) cs → ⊥

  abbrev Least : Held → Bound → Type 0
  Least held b = LeastOver job held.part held.part.prices (places_at job held p) b

  least : (held : Held) → Least held (part_bound job held p)
  least held = part_bound_is job held.part held.part.prices (places_at job held p)

  lost : (held : Held) → part_bound job held p ≡ Missing → Lost held
  lost held e = subst (Least held) e (least held)

  lost_missing : (held : Held) → Lost held → part_bound job held p ≡ Missing
  lost_missing held h = go (part_bound job held p) (least held)
    where
      go : (b : Bound) → Least held b → b ≡ Missing
      go Missing l = refl
      go (Sum n) l = absurd (h l.0.0 l.0.1)

  stop_missing : (stop_cost job p ≡ Missing) ↔ SomeLost job p
  unfolding stop_cost
  stop_missing = (
    (λ e. go (some_missing (Sum (paid_at job p)) (total (part_bound job) (held_parts job) p) e)),
    λ s. ap (add (Sum (paid_at job p))) (missing_total (part_bound job) p (held_parts job) s.0 s.1 (lost_missing s.0 s.2)),
  )
    where
      go : (◌≡◌ {A = Bound} (Sum (paid_at job p)) Missing) ⊎ (total (part_bound job) (held_parts job) p ≡ Missing) → SomeLost job p
      go (inl e) = absurd (no_sum_lem (Sum (paid_at job p)) (paid_at job p) e refl)
      go (inr e) = let r = total_missing (part_bound job) p (held_parts job) e in (r.0, r.1, lost r.0 r.2)

  -- W3. "If some part has none, the estimate is missing.", and only then
  pub missing_exactly : (bound_of job p ≡ Missing) ↔ SomeLost job p
  missing_exactly = ((λ e. stop_missing.0 ((missing_same job p).0 e)), λ s. (missing_same job p).1 (stop_missing.1 s))
