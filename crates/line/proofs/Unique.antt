-- Each public function's contract leaves one result, at every model. Assumes nothing.
use mathlib.Core.Path.{refl}
use seplogic.Ra.Ura.{Ura}
use base.Logic.{SProp}
use prog.Memory.{Memory}
use prog.Routine.{Routine}
use types.Logic.{Logic}
use contract.Monad.{Fun}
use Rattle.only.specs.Only.{Only}
use Rattle.only.proofs.Alone.{alone}
use Rattle.line.specs.contracts.Fault.refusal_of as refusal_of
use Rattle.line.specs.contracts.Fault.column_of as column_of
use Rattle.line.specs.contracts.number_of as number_of_lem
use Rattle.line.specs.contracts.value_of as value_of_lem

module _ {M : Type 1} {𝓤 : Ura M} (𝓛 : Logic 𝓤) (mem : Memory → SProp 𝓤) (run : Routine → Fun 𝓤) where
  pub refusal_of_only : Only 𝓛 refusal_of.ended (refusal_of.clauses 𝓛 mem run) (refusal_of.spec 𝓛 mem run)
  refusal_of_only = alone refl

  pub column_of_only : Only 𝓛 column_of.ended (column_of.clauses 𝓛 mem run) (column_of.spec 𝓛 mem run)
  column_of_only = alone refl

  pub number_of_only : Only 𝓛 number_of_lem.ended (number_of_lem.clauses 𝓛 mem run) (number_of_lem.spec 𝓛 mem run)
  number_of_only = alone refl

  pub value_of_only : Only 𝓛 value_of_lem.ended (value_of_lem.clauses 𝓛 mem run) (value_of_lem.spec 𝓛 mem run)
  value_of_only = alone refl
