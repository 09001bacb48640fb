-- An accepted byte is counted, and there is room for it.
use native.Mathlib.Omega.{arith}
use Rattle.fifo.proofs.Laws.{room}
use Rattle.machine.specs.Moves.{after_accepted}
use Rattle.fifo.proofs.accept.Goals as goal

pub overflow_add-control : goal.overflow_add-control
overflow_add-control c = record { fits = omega (arith, room _ _ c.requires) }

pub returns : goal.returns
unfolding after_accepted
returns c = c.move_byte.ensures
