-- Each public function's contract leaves one result and one content of what was lent, at every model. Assumes nothing.
use mathlib.Core.Path.{refl, ap}
use mathlib.Core.List.{List}
use Prim.Native.Nat.{ℕ}
use seplogic.Ra.Ura.{Ura}
use base.Logic.{SProp}
use prog.Memory.{Memory}
use prog.Routine.{Routine}
use types.Logic.{Logic}
use denote.RattleType.{RattleType}
use contract.Monad.{Fun}
use Rattle.only.specs.Only.{Only}
use Rattle.only.proofs.Alone.{alone, alone_by, lent_by}
use Rattle.chip.specs.contracts.BesideBuffer.join as join
use Rattle.chip.specs.contracts.start as start
use Rattle.chip.specs.contracts.step_chip as step_chip
use Rattle.chip.specs.contracts.step_lent as step_lent
use Rattle.chip.specs.contracts.proceed_lent as proceed_lent

module _ {M : Type 1} {𝓤 : Ura M} (𝓛 : Logic 𝓤) (mem : Memory → SProp 𝓤) (run : Routine → Fun 𝓤) where
  pub join_only : (A : RattleType) → Only 𝓛 (join.ended A) (join.clauses A 𝓛 mem run) (join.spec A 𝓛 mem run)
  join_only A = alone refl

  pub start_only : Only 𝓛 start.ended (start.clauses 𝓛 mem run) (start.spec 𝓛 mem run)
  start_only = alone_by refl (λ κs a x e p. p.0)

  pub step_chip_only : Only 𝓛 step_chip.ended (step_chip.clauses 𝓛 mem run) (step_chip.spec 𝓛 mem run)
  step_chip_only = alone_by refl (λ κs a x e p. p.0)

  pub step_lent_only : Only 𝓛 step_lent.ended (step_lent.clauses 𝓛 mem run) (step_lent.spec 𝓛 mem run)
  step_lent_only = lent_by (λ κs a x v p. (p.leaves.result, ap (λ (l : List ℕ). (tt, (l, (tt, tt)))) p.leaves.content))

  pub proceed_lent_only : Only 𝓛 proceed_lent.ended (proceed_lent.clauses 𝓛 mem run) (proceed_lent.spec 𝓛 mem run)
  proceed_lent_only = lent_by (λ κs a x v p. (p.leaves.result, ap (λ (l : List ℕ). (tt, (l, (tt, tt)))) p.leaves.content))
