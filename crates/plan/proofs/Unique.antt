-- Each public function's contract leaves one result and one content of what was lent, at every model. Assumes nothing.
use mathlib.Core.Path.{refl}
use seplogic.Ra.Ura.{Ura}
use base.Logic.{SProp}
use prog.Memory.{Memory}
use prog.Routine.{Routine}
use types.Logic.{Logic}
use contract.Monad.{Fun}
use Rattle.only.specs.Only.{Only}
use Rattle.only.proofs.Alone.{alone}
use Rattle.plan.specs.contracts.fresh_control as fresh_control
use Rattle.plan.specs.contracts.plan_step as plan_step
use Rattle.plan.specs.contracts.decide as decide

module _ {M : Type 1} {𝓤 : Ura M} (𝓛 : Logic 𝓤) (mem : Memory → SProp 𝓤) (run : Routine → Fun 𝓤) where
  pub fresh_control_only : Only 𝓛 fresh_control.ended (fresh_control.clauses 𝓛 mem run) (fresh_control.spec 𝓛 mem run)
  fresh_control_only = alone refl

  pub plan_step_only : Only 𝓛 plan_step.ended (plan_step.clauses 𝓛 mem run) (plan_step.spec 𝓛 mem run)
  plan_step_only = alone refl

  pub decide_only : Only 𝓛 decide.ended (decide.clauses 𝓛 mem run) (decide.spec 𝓛 mem run)
  decide_only = alone refl
