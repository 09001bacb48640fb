-- The line of the side.
use Rattle.burst.proofs.Run.goes_on.Goals as goal

pub returns : goal.returns
returns c = c.requests.ensures
