-- Each public function's contract leaves one result and one content of what was lent, at every model. Assumes nothing.
use mathlib.Core.Path.{refl}
use seplogic.Ra.Ura.{Ura}
use base.Logic.{SProp}
use prog.Memory.{Memory}
use prog.Routine.{Routine}
use types.Logic.{Logic}
use contract.Monad.{Fun}
use Rattle.only.specs.Only.{Only}
use Rattle.only.proofs.Alone.{alone}
use Rattle.machine.specs.contracts.Register.of_low as of_low
use Rattle.machine.specs.contracts.Register.of_high as of_high
use Rattle.machine.specs.contracts.Register.of_pointer as of_pointer
use Rattle.machine.specs.contracts.Answer.number_of as number_of_lem
use Rattle.machine.specs.contracts.Answer.value_of as value_of_lem
use Rattle.machine.specs.contracts.Plan.keep as keep

module _ {M : Type 1} {𝓤 : Ura M} (𝓛 : Logic 𝓤) (mem : Memory → SProp 𝓤) (run : Routine → Fun 𝓤) where
  pub of_low_only : Only 𝓛 of_low.ended (of_low.clauses 𝓛 mem run) (of_low.spec 𝓛 mem run)
  of_low_only = alone refl

  pub of_high_only : Only 𝓛 of_high.ended (of_high.clauses 𝓛 mem run) (of_high.spec 𝓛 mem run)
  of_high_only = alone refl

  pub of_pointer_only : Only 𝓛 of_pointer.ended (of_pointer.clauses 𝓛 mem run) (of_pointer.spec 𝓛 mem run)
  of_pointer_only = alone refl

  pub number_of_only : Only 𝓛 number_of_lem.ended (number_of_lem.clauses 𝓛 mem run) (number_of_lem.spec 𝓛 mem run)
  number_of_only = alone refl

  pub value_of_only : Only 𝓛 value_of_lem.ended (value_of_lem.clauses 𝓛 mem run) (value_of_lem.spec 𝓛 mem run)
  value_of_only = alone refl

  pub keep_only : Only 𝓛 keep.ended (keep.clauses 𝓛 mem run) (keep.spec 𝓛 mem run)
  keep_only = alone refl
