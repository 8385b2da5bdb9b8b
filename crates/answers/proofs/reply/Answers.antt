-- `reply`: what is handed over is an answer that is no text's fault.
use Rattle.answers.specs.Said.{plainly}
use Rattle.answers.proofs.reply.Goals as goal

pub returns : goal.returns
returns g c xs short puts = c.hand_over.ensures (plainly c.args.number xs) c.plain.ensures short puts
