-- Each public function's contract leaves one result and one content of what was lent, at every model. Assumes nothing.
use mathlib.Core.Path.{refl}
use seplogic.Ra.Ura.{Ura}
use base.Logic.{SProp}
use prog.Memory.{Memory}
use prog.Routine.{Routine}
use types.Logic.{Logic}
use contract.Monad.{Fun}
use Rattle.only.specs.Only.{Only}
use Rattle.only.proofs.Alone.{alone}
use Rattle.action.specs.contracts.action_of as action_of
use Rattle.action.specs.contracts.byte_in as byte_in
use Rattle.action.specs.contracts.side_in as side_in
use Rattle.action.specs.contracts.closes_step as closes_step

module _ {M : Type 1} {𝓤 : Ura M} (𝓛 : Logic 𝓤) (mem : Memory → SProp 𝓤) (run : Routine → Fun 𝓤) where
  pub action_of_only : Only 𝓛 action_of.ended (action_of.clauses 𝓛 mem run) (action_of.spec 𝓛 mem run)
  action_of_only = alone refl

  pub byte_in_only : Only 𝓛 byte_in.ended (byte_in.clauses 𝓛 mem run) (byte_in.spec 𝓛 mem run)
  byte_in_only = alone refl

  pub side_in_only : Only 𝓛 side_in.ended (side_in.clauses 𝓛 mem run) (side_in.spec 𝓛 mem run)
  side_in_only = alone refl

  pub closes_step_only : Only 𝓛 closes_step.ended (closes_step.clauses 𝓛 mem run) (closes_step.spec 𝓛 mem run)
  closes_step_only = alone refl
