-- What a listener hears of a node goes on as more is decided: it is never taken back. By recursion over the agenda.
use mathlib.Core.Path.{◌≡◌, refl, sym, ap, ◌∙◌}
use mathlib.Core.Bool.{Bool, true, false}
use mathlib.Core.List.{List, [], ◌∷◌, ◌++◌, append_assoc}
use Rattle.hall_model.specs.Agenda.{Topic, Agenda, over, raise, hear_then, hear}

module _ (tells : Topic → Bool → List Bool) where
  -- more decisions tell more
  abbrev GoesOn : (List Bool → List Bool) → Type 0
  GoesOn f = (p t : List Bool) → (u : List Bool) × (f (p ++ t) ≡ f p ++ u)

  then_goes_on : (a : Agenda) (rest : List Bool → List Bool) → GoesOn rest → GoesOn (hear_then tells a rest)
  unfolding hear_then
  then_goes_on over rest h p t = h p t
  then_goes_on (raise c inner next) rest h [] t = (hear_then tells (raise c inner next) rest t, refl)
  then_goes_on (raise c inner next) rest h (false ∷ p) t =
      let r = then_goes_on next rest h p t in
      (r.0, ap (λ (l : List Bool). tells c false ++ l) r.1 ∙ sym (append_assoc (tells c false) (hear_then tells next rest p) r.0))
  then_goes_on (raise c inner next) rest h (true ∷ p) t =
      let r = then_goes_on inner (hear_then tells next rest) (λ q v. then_goes_on next rest h q v) p t in
      (r.0, ap (λ (l : List Bool). tells c true ++ l) r.1 ∙ sym (append_assoc (tells c true) (hear_then tells inner (hear_then tells next rest) p) r.0))

  -- what a listener has heard at a node begins what is heard at every node below
  pub goes_on : (a : Agenda) (p t : List Bool) → (u : List Bool) × (hear tells a (p ++ t) ≡ hear tells a p ++ u)
  goes_on a p t = then_goes_on a (λ r. []) (λ q v. ([], refl)) p t
