-- Each public function's contract leaves one result and one content of what was lent, at every model. Assumes nothing.
use mathlib.Core.Path.{refl}
use seplogic.Ra.Ura.{Ura}
use base.Logic.{SProp}
use prog.Memory.{Memory}
use prog.Routine.{Routine}
use types.Logic.{Logic}
use contract.Monad.{Fun}
use Rattle.only.specs.Only.{Only}
use Rattle.only.proofs.Alone.{alone}
use Rattle.registers.specs.contracts.empty_fifo as empty_fifo
use Rattle.registers.specs.contracts.read_register as read_register
use Rattle.registers.specs.contracts.after_read as after_read
use Rattle.registers.specs.contracts.write_register as write_register
use Rattle.registers.specs.contracts.release as release
use Rattle.registers.specs.contracts.read_in_reset as read_in_reset

module _ {M : Type 1} {𝓤 : Ura M} (𝓛 : Logic 𝓤) (mem : Memory → SProp 𝓤) (run : Routine → Fun 𝓤) where
  pub empty_fifo_only : Only 𝓛 empty_fifo.ended (empty_fifo.clauses 𝓛 mem run) (empty_fifo.spec 𝓛 mem run)
  empty_fifo_only = alone refl

  pub read_register_only : Only 𝓛 read_register.ended (read_register.clauses 𝓛 mem run) (read_register.spec 𝓛 mem run)
  read_register_only = alone refl

  pub after_read_only : Only 𝓛 after_read.ended (after_read.clauses 𝓛 mem run) (after_read.spec 𝓛 mem run)
  after_read_only = alone refl

  pub write_register_only : Only 𝓛 write_register.ended (write_register.clauses 𝓛 mem run) (write_register.spec 𝓛 mem run)
  write_register_only = alone refl

  pub release_only : Only 𝓛 release.ended (release.clauses 𝓛 mem run) (release.spec 𝓛 mem run)
  release_only = alone refl

  pub read_in_reset_only : Only 𝓛 read_in_reset.ended (read_in_reset.clauses 𝓛 mem run) (read_in_reset.spec 𝓛 mem run)
  read_in_reset_only = alone refl
