-- The mask of RJA is bit 1 of Control 0.
use Rattle.bits.proofs.Laws.{test}
use Rattle.machine.specs.Addresses.{rja, target_on}
use Rattle.action.proofs.target_on.Goals as goal

pub returns-in-Low : goal.returns-in-Low
unfolding target_on rja
returns-in-Low c = rw (c.of_low.ensures, c.in-Low.is, test 1)
