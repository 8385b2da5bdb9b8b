-- Where the walk stands at a node: the agendas left to ask there, one after the other, what they let a listener hear, and the tree below. For contracts and proofs of code.
use Rattle.std.specs.Prelude.{◌≡◌, Bool, List, [], ◌∷◌, ◌++◌}
use Rattle.branch.specs.declared.Bound.{Bound}
use Rattle.branch.specs.Search.{Tree, full, snoc}
use Rattle.branch.specs.Questions.{ask_from}
use Rattle.hall_model.specs.Agenda.{Topic, Agenda, plain, hear_then, hear}

-- what is heard of the agendas of a list, one after the other
abbrev pub hear_all : (Topic → Bool → List Bool) → List Agenda → List Bool → List Bool
hear_all tells [] p = []
hear_all tells (a ∷ left) p = hear_then tells a (hear_all tells left) p

-- at the node p of an agenda these are left to ask, in order
abbrev pub Stands : Agenda → List Bool → List Agenda → Type 0
Stands all p left = (tells : Topic → Bool → List Bool) (q : List Bool) → hear tells all (p ++ q) ≡ hear tells all p ++ hear_all tells left q

-- and the first question is on the topic t: what each answer lets a listener hear
abbrev pub Asks : Agenda → List Bool → Topic → Type 0
Asks all p t = (tells : Topic → Bool → List Bool) (x : Bool) → hear tells all (snoc p x) ≡ hear tells all p ++ tells t x

-- the questions of the agendas of a list, one after the other, at the node p
unfoldable pub tree_from : (List Bool → Bound) → List Agenda → List Bool → Tree
tree_from bound [] p = full (bound p)
tree_from bound (a ∷ left) p = ask_from bound (plain a) (tree_from bound left) p
