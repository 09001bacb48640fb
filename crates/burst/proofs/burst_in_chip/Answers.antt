-- The lent burst, over the chip's own buffer.
use Rattle.dma.specs.declared.Way.TheVariants.{In}
use Rattle.dma.specs.Burst.{burst}
use Rattle.chip.proofs.Laws.{together}
use Rattle.burst.proofs.burst_in_chip.Goals as goal

pub returns : goal.returns
returns c =
    let a = c.args in
    let r = c.burst_in_lent-r.ensures in
    rw c.join.ensures (together (burst In a.k a.side a.memory.now) r.leaves, r.on_paper)
