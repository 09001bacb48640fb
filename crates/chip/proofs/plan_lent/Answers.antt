-- The plan, carried out on the lent buffer.
use Rattle.machine.specs.Step.{proceeded}
use Rattle.chip.proofs.Laws.{apart}
use Rattle.chip.proofs.plan_lent.Goals as goal

pub returns : goal.returns
unfolding proceeded
returns c =
    let plan = c.plan_step-p.ensures in
    let front = c.front_of-front.ensures in
    apart _ (rw (c.answer_of.ensures, plan, front)) (rw (c.change_buffer.ensures, c.byte_in.ensures, plan, front))
