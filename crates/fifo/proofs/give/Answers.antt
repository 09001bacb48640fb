-- A given byte is no longer counted, and there is one.
use native.Mathlib.Omega.{arith}
use Rattle.fifo.proofs.Laws.{not_empty, next_place}
use Rattle.machine.specs.Moves.{after_given}
use Rattle.fifo.proofs.give.Goals as goal

pub overflow_sub-control : goal.overflow_sub-control
overflow_sub-control c = omega (arith, not_empty _ _ c.requires)

pub returns : goal.returns
unfolding after_given
returns c = rw (c.move_byte.ensures, next_place)
