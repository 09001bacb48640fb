-- By the pins.
use borrow.Author.Tests.{le-leb, lt-leb}
use Rattle.machine.specs.Reset.{started}
use Rattle.chip.proofs.Laws.{start_alike}
use Rattle.chip.proofs.start.Goals as goal

pub returns-then-pins-le2 : goal.returns-then-pins-le2
unfolding started
returns-then-pins-le2 c = start_alike (rw (c.fresh_control.ensures, le-leb _ _ c.if-pins-le2.true))

pub returns : goal.returns
unfolding started
returns c = start_alike (rw (lt-leb _ _ c.if-pins-le2.false))
