-- The lent burst, over the chip's own buffer.
use Rattle.dma.specs.declared.Way.TheVariants.{Out}
use Rattle.dma.specs.Burst.{burst}
use Rattle.chip.proofs.Laws.{together}
use Rattle.burst.proofs.burst_out_chip.Goals as goal

pub returns-clause-burst : goal.returns-clause-burst
returns-clause-burst c =
    let a = c.args in
    let r = c.burst_out_lent-r.ensures.burst in
    rw c.join.ensures (together (burst Out a.k a.side a.memory.now) r.leaves, r.on_paper)
