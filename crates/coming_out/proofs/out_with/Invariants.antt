use Rattle.model.specs.Model.{Job}
use Rattle.coming_out.specs.Rows.{HeldBy}
use Rattle.coming_out.proofs.Rounds.{Turned}
use Rattle.coming_out.proofs.out_with.Given as goal

abbrev pub invariant-loop : goal.invariant-loop
invariant-loop l = (job : Job) (held : HeldBy job l.m l.holders) → Turned job l.m l.holders held l.q l.counter l.row
