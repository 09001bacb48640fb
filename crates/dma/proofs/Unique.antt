-- Each public function's contract leaves one result and one content of what was lent, at every model. Assumes nothing.
use mathlib.Core.Path.{refl}
use seplogic.Ra.Ura.{Ura}
use base.Logic.{SProp}
use prog.Memory.{Memory}
use prog.Routine.{Routine}
use types.Logic.{Logic}
use contract.Monad.{Fun}
use Rattle.only.specs.Only.{Only}
use Rattle.only.proofs.Alone.{alone}
use Rattle.dma.specs.contracts.BurstAnswer.number_of as number_of_lem
use Rattle.dma.specs.contracts.BurstAnswer.value_of as value_of_lem

module _ {M : Type 1} {𝓤 : Ura M} (𝓛 : Logic 𝓤) (mem : Memory → SProp 𝓤) (run : Routine → Fun 𝓤) where
  pub number_of_only : Only 𝓛 number_of_lem.ended (number_of_lem.clauses 𝓛 mem run) (number_of_lem.spec 𝓛 mem run)
  number_of_only = alone refl

  pub value_of_only : Only 𝓛 value_of_lem.ended (value_of_lem.clauses 𝓛 mem run) (value_of_lem.spec 𝓛 mem run)
  value_of_only = alone refl
