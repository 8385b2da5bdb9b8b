-- What is known of an accepted text is a fact: it has one proof at most. By the structure of what is known, and recursion over lists.
use Prim.Native.Nat.{◌≤◌}
use mathlib.Core.List.{List, [], ◌∷◌}
use Rattle.std.proofs.Props.{props}
use Rattle.model.specs.Model.{Part, Each}
use Rattle.bands.specs.Bands.{PricesUpTo}
use Rattle.jobs.specs.Facts as jobs
use Rattle.job_grammar.specs.Grammar.{Given}
use Rattle.job_grammar.specs.Valid.{Valid}

-- of each of two lists, place by place
pub each_fact : {A : Type 0} (P : A → A → Type 0) → ((a b : A) → IsProp (P a b)) → (l m : List A) → IsProp (Each P l m)
each_fact P p [] [] = Prim.hlevel props
each_fact P p [] (y ∷ ys) = Prim.hlevel props
each_fact P p (x ∷ xs) [] = Prim.hlevel props
each_fact P p (x ∷ xs) (y ∷ ys) = Prim.hlevel (props, p, each_fact P p xs ys)

prices_fact : (p q : Part) → IsProp (PricesUpTo p q)
prices_fact p q = each_fact ◌≤◌ (λ a b. Prim.hlevel props) p.prices q.prices

-- that the job which a text means is valid, at the high ends and at the low ends
pub valid_fact : (g : Given) → IsProp (Valid g)
valid_fact g = Prim.hlevel (props, jobs.valid_fact, each_fact PricesUpTo prices_fact g.low.parts g.job.parts)
