-- A byte that moves in or out: in where it is accepted, out where it is given.
use Rattle.std.specs.Prelude.{Bool, cond, Option, Some, None}
use Rattle.machine.specs.declared.Which.{Which}
use Rattle.machine.specs.declared.Control.{Control}
use Rattle.machine.specs.Fifo.{accepted, given}
use Rattle.machine.specs.Moves.{after_accepted, after_given}

abbrev pub may_move : Control → Which → Bool → Bool
may_move c w inward = cond inward (accepted c w) (given c w)

-- the record after it, where it moves; where none moves there is none
unfoldable pub transferred : Control → Which → Bool → Bool → Option Control
transferred c w inward matched = cond (may_move c w inward) (Some (cond inward (after_accepted c w matched) (after_given c w matched))) None
