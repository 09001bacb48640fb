-- Field by field, as it is defined.
use mathlib.Core.Path.{refl}
use Rattle.chip.proofs.BesideBuffer.join.Goals as goal

pub returns : goal.returns
returns g c = refl
