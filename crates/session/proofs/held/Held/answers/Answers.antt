-- The same chip beside the answer.
use Rattle.session.proofs.Turns.{turn_known}
use Rattle.session.proofs.held.Held.answers.Goals as goal

pub returns : goal.returns
returns c = turn_known _ _
