-- Each public function's contract leaves one result and one content of what was lent, at every model. Assumes nothing.
use mathlib.Core.Path.{refl, ap, ap₂}
use mathlib.Core.List.{List}
use Prim.Native.Nat.{ℕ}
use seplogic.Ra.Ura.{Ura}
use base.Logic.{SProp}
use prog.Memory.{Memory}
use prog.Routine.{Routine}
use types.Logic.{Logic}
use contract.Monad.{Fun}
use Rattle.only.specs.Only.{Only}
use Rattle.only.proofs.Alone.{alone_by, lent_by, lent_by_two}
use Rattle.burst.specs.contracts.burst_in_lent as burst_in_lent
use Rattle.burst.specs.contracts.burst_out_lent as burst_out_lent
use Rattle.burst.specs.contracts.burst_in_chip as burst_in_chip
use Rattle.burst.specs.contracts.burst_out_chip as burst_out_chip

module _ {M : Type 1} {𝓤 : Ura M} (𝓛 : Logic 𝓤) (mem : Memory → SProp 𝓤) (run : Routine → Fun 𝓤) where
  pub burst_in_lent_only : Only 𝓛 burst_in_lent.ended (burst_in_lent.clauses 𝓛 mem run) (burst_in_lent.spec 𝓛 mem run)
  burst_in_lent_only = lent_by (λ κs a x v p. (p.leaves.result, ap (λ (l : List ℕ). (tt, (l, (tt, (tt, tt))))) p.leaves.content))

  pub burst_out_lent_only : Only 𝓛 burst_out_lent.ended (burst_out_lent.clauses 𝓛 mem run) (burst_out_lent.spec 𝓛 mem run)
  burst_out_lent_only = lent_by_two (λ κs a x v p m. (p.leaves.result, ap₂ (λ (b n : List ℕ). (tt, (b, (tt, (n, tt))))) p.leaves.content m))

  pub burst_in_chip_only : Only 𝓛 burst_in_chip.ended (burst_in_chip.clauses 𝓛 mem run) (burst_in_chip.spec 𝓛 mem run)
  burst_in_chip_only = alone_by refl (λ κs a x e p. p.0)

  pub burst_out_chip_only : Only 𝓛 burst_out_chip.ended (burst_out_chip.clauses 𝓛 mem run) (burst_out_chip.spec 𝓛 mem run)
  burst_out_chip_only = lent_by_two (λ κs a x v p m. (p.0, ap (λ (n : List ℕ). (tt, (tt, (n, tt)))) m))
