-- Both sides, and the place.
use Rattle.machine.specs.Moves.{moved}
use Rattle.fifo.proofs.move_byte.Goals as goal

pub returns : goal.returns
unfolding moved
returns c = rw (c.move_on-2.ensures, c.move_on.ensures, c.is_one-one.ensures)
