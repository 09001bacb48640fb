-- The public function's contract leaves one result and one content of what was lent, at every model. Assumes nothing.
use mathlib.Core.Path.{ap}
use seplogic.Ra.Ura.{Ura}
use base.Logic.{SProp}
use prog.Memory.{Memory}
use prog.Routine.{Routine}
use types.Logic.{Logic}
use contract.Monad.{Fun}
use Rattle.machine.specs.declared.Chip.{Chip}
use Rattle.only.specs.Only.{Only}
use Rattle.only.proofs.Alone.{lent_by}
use Rattle.lent.specs.contracts.step_in_place as step_in_place

module _ {M : Type 1} {𝓤 : Ura M} (𝓛 : Logic 𝓤) (mem : Memory → SProp 𝓤) (run : Routine → Fun 𝓤) where
  pub step_in_place_only : Only 𝓛 step_in_place.ended (step_in_place.clauses 𝓛 mem run) (step_in_place.spec 𝓛 mem run)
  step_in_place_only = lent_by (λ κs a x v p. (p.0, ap (λ (k : Chip). (k, (tt, tt))) p.1))
