-- Every row of the table holds, by computation. Assumes nothing.
use mathlib.Core.Path.{refl}
use Rattle.dma.specs.Cases.{observed, table, Cases}

pub cases : Cases
unfolding observed table
cases = (refl, (refl, (refl, (refl, (refl, (refl, (refl, (refl, (refl, (refl, (refl, tt)))))))))))
