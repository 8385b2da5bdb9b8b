-- `hand_over`: an output that is too short stays; else what is put is handed over.
use mathlib.Core.Path.{refl}
use borrow.Author.Rules.{rules}
use Rattle.line_writing.proofs.Putting.{given_back}
use Rattle.answers.proofs.Replies.{replied, no_room}
use Rattle.answers.proofs.hand_over.Goals as goal

pub returns-then-out-need : goal.returns-then-out-need
returns-then-out-need g c s is short puts = no_room _ _ _ c.if-out-need.true c.no_room.ensures

pub put-requires : goal.put-requires
put-requires g c = c.requires _ refl c.if-out-need.false

pub returns : goal.returns
returns g c s is short puts = let put = puts _ _ refl c.put.ensures in
    replied c.args.need s c.if-out-need.false short (given_back put (search (rules, put.slice))) (rw is refl)
