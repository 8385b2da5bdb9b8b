-- Where an open removal is asked, the walk is there already.
use Prim.Native.Nat.{ℕ, ◌<◌}
use mathlib.Core.Path.{◌≡◌, refl, subst}
use mathlib.Core.Bool.{Bool}
use mathlib.Core.List.{List}
use native.Mathlib.Omega.{arith}
use Rattle.hall_model.specs.Hall.{Hall}
use Rattle.hall_lines.specs.declared.Stop.{Stop}
use Rattle.hall_steps.specs.Table.{step_count}
use Rattle.hall_state.specs.declared.Ground.{Ground}
use Rattle.hall_state.specs.declared.Question.TheVariants.{CrewCall, LineStop, PartRemoval}
use Rattle.hall_state.specs.declared.Spot.{Spot}
use Rattle.hall_state.specs.Courses.{Arrays, Course}
use Rattle.hall_state.specs.Spots.{inner_at, line_spot, Stood, Asked}
use Rattle.hall_state.specs.Moves.{Arrived}
use Rattle.hall_state.proofs.Courses.{same_self}
use Rattle.hall_turns.specs.Turns.{StoodAt}

module _ {hall : Hall} {g : Ground} {a : Arrays} {p : Spot} {name : List Bool} {calls : ℕ} {cs : List Course} (st : Stood hall g a p name calls cs) where
  -- it is there, if this is asked
  stays : ((p.asks ≡ CrewCall → p.step ≡ step_count hall → ⊥) → Asked hall g.ats p) → Arrived hall g a a p p name calls cs
  stays ask = record {
    courses = cs;
    stood = st;
    asked = ask;
    tree = refl;
    same = same_self a cs;
    kept = λ a'' k. k;
    measure = omega arith;
  }

  -- where a removal of the stop at hand is open the walk has arrived already, with nothing written
  pub stays_removal : {stop : Stop} → p.asks ≡ PartRemoval stop → stop.next < inner_at hall.jobs p.line → Arrived hall g a a p p name calls cs
  stays_removal {stop} er left = stays (λ _. record { call = λ e. cc; line = λ e. cc; removal = λ r e. let z : stop ≡ r = cc in subst (λ (t : Stop). t.next < inner_at hall.jobs p.line) z left })

-- at a line's question the spot is that of the lines from there on
pub as_lines : (p : Spot) → p.asks ≡ LineStop → p ≡ line_spot p p.line p.total
as_lines p e = λ i. record { asks = e i; step = p.step; line = p.line; total = p.total }

-- where a line's question is asked, the walk stands at the spot of the lines from there on
abbrev pub lines_at : {g : Ground} {a : Arrays} {p : Spot} → p.asks ≡ LineStop → StoodAt g a p → StoodAt g a (line_spot p p.line p.total)
lines_at {g} {a} {p} e k = record { hall = k.hall; name = k.name; calls = k.calls; cs = k.cs; crewed = k.crewed; stood = subst (λ (q : Spot). Stood k.hall g a q k.name k.calls k.cs) (as_lines p e) k.stood }
