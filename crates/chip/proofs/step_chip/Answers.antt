-- The plan, carried out on the chip's own buffer.
use Rattle.machine.specs.Step.{step}
use Rattle.chip.proofs.Laws.{step_alike}
use Rattle.chip.proofs.step_chip.Goals as goal

pub returns : goal.returns
unfolding step
returns c =
    step_alike (rw (c.join.ensures, c.answer_of.ensures, c.change_buffer.ensures, c.byte_in.ensures, c.decide-p.ensures, c.front_of-front.ensures))
