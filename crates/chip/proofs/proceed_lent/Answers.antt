-- A byte that DMA moves needs no plan, and any other step is carried out as it is planned.
use mathlib.Core.Path.{refl}
use Rattle.machine.specs.Record.{payload}
use Rattle.chip.proofs.Moved.{dma_moves}
use Rattle.chip.proofs.Laws.{apart}
use Rattle.chip.proofs.proceed_lent.Goals as goal

pub returns-then-d : goal.returns-then-d
returns-then-d c =
    let a = c.args in
    let x = rw c.front_of-front.ensures at c.choose-byte.ensures in
    let e = dma_moves a.control (payload a.buffer.now) a.s c.in-Some.ensures x c.fits_pattern-matched.ensures c.in-Some-transfer.ensures in
    rw (e, c.if-d.true, c.place_of.ensures) (apart _ refl refl)

pub returns-in-Some-transfer : goal.returns-in-Some-transfer
returns-in-Some-transfer c =
    let a = c.args in
    let x = rw c.front_of-front.ensures at c.choose-byte.ensures in
    let e = dma_moves a.control (payload a.buffer.now) a.s c.in-Some.ensures x c.fits_pattern-matched.ensures c.in-Some-transfer.ensures in
    rw (e, c.if-d.false, ← c.front_of-front.ensures) (apart _ refl refl)
