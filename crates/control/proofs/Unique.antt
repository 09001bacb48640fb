-- Each public function's contract leaves one result and one content of what was lent, at every model. Assumes nothing.
use mathlib.Core.Path.{refl}
use seplogic.Ra.Ura.{Ura}
use base.Logic.{SProp}
use prog.Memory.{Memory}
use prog.Routine.{Routine}
use types.Logic.{Logic}
use contract.Monad.{Fun}
use Rattle.only.specs.Only.{Only}
use Rattle.only.proofs.Alone.{alone}
use Rattle.control.specs.contracts.side_of as side_of
use Rattle.control.specs.contracts.with_side as with_side
use Rattle.control.specs.contracts.is_named as is_named
use Rattle.control.specs.contracts.is_one as is_one
use Rattle.control.specs.contracts.other_side as other_side
use Rattle.control.specs.contracts.bus_of as bus_of
use Rattle.control.specs.contracts.is_z_bus as is_z_bus
use Rattle.control.specs.contracts.is_non_z_bus as is_non_z_bus
use Rattle.control.specs.contracts.is_connected as is_connected
use Rattle.control.specs.contracts.is_in_reset as is_in_reset
use Rattle.control.specs.contracts.is_live as is_live
use Rattle.control.specs.contracts.raise as raise
use Rattle.control.specs.contracts.is_writer as is_writer
use Rattle.control.specs.contracts.is_clear_1 as is_clear_1
use Rattle.control.specs.contracts.accepts_byte as accepts_byte
use Rattle.control.specs.contracts.gives_byte as gives_byte
use Rattle.control.specs.contracts.would_wait as would_wait
use Rattle.control.specs.contracts.run_after as run_after
use Rattle.control.specs.contracts.run_afresh as run_afresh
use Rattle.control.specs.contracts.requests as requests
use Rattle.control.specs.contracts.interrupts as interrupts
use Rattle.control.specs.contracts.lines_of as lines_of
use Rattle.control.specs.contracts.is_valid as is_valid

module _ {M : Type 1} {𝓤 : Ura M} (𝓛 : Logic 𝓤) (mem : Memory → SProp 𝓤) (run : Routine → Fun 𝓤) where
  pub side_of_only : Only 𝓛 side_of.ended (side_of.clauses 𝓛 mem run) (side_of.spec 𝓛 mem run)
  side_of_only = alone refl

  pub with_side_only : Only 𝓛 with_side.ended (with_side.clauses 𝓛 mem run) (with_side.spec 𝓛 mem run)
  with_side_only = alone refl

  pub is_named_only : Only 𝓛 is_named.ended (is_named.clauses 𝓛 mem run) (is_named.spec 𝓛 mem run)
  is_named_only = alone refl

  pub is_one_only : Only 𝓛 is_one.ended (is_one.clauses 𝓛 mem run) (is_one.spec 𝓛 mem run)
  is_one_only = alone refl

  pub other_side_only : Only 𝓛 other_side.ended (other_side.clauses 𝓛 mem run) (other_side.spec 𝓛 mem run)
  other_side_only = alone refl

  pub bus_of_only : Only 𝓛 bus_of.ended (bus_of.clauses 𝓛 mem run) (bus_of.spec 𝓛 mem run)
  bus_of_only = alone refl

  pub is_z_bus_only : Only 𝓛 is_z_bus.ended (is_z_bus.clauses 𝓛 mem run) (is_z_bus.spec 𝓛 mem run)
  is_z_bus_only = alone refl

  pub is_non_z_bus_only : Only 𝓛 is_non_z_bus.ended (is_non_z_bus.clauses 𝓛 mem run) (is_non_z_bus.spec 𝓛 mem run)
  is_non_z_bus_only = alone refl

  pub is_connected_only : Only 𝓛 is_connected.ended (is_connected.clauses 𝓛 mem run) (is_connected.spec 𝓛 mem run)
  is_connected_only = alone refl

  pub is_in_reset_only : Only 𝓛 is_in_reset.ended (is_in_reset.clauses 𝓛 mem run) (is_in_reset.spec 𝓛 mem run)
  is_in_reset_only = alone refl

  pub is_live_only : Only 𝓛 is_live.ended (is_live.clauses 𝓛 mem run) (is_live.spec 𝓛 mem run)
  is_live_only = alone refl

  pub is_writer_only : Only 𝓛 is_writer.ended (is_writer.clauses 𝓛 mem run) (is_writer.spec 𝓛 mem run)
  is_writer_only = alone refl

  pub is_clear_1_only : Only 𝓛 is_clear_1.ended (is_clear_1.clauses 𝓛 mem run) (is_clear_1.spec 𝓛 mem run)
  is_clear_1_only = alone refl

  pub accepts_byte_only : Only 𝓛 accepts_byte.ended (accepts_byte.clauses 𝓛 mem run) (accepts_byte.spec 𝓛 mem run)
  accepts_byte_only = alone refl

  pub gives_byte_only : Only 𝓛 gives_byte.ended (gives_byte.clauses 𝓛 mem run) (gives_byte.spec 𝓛 mem run)
  gives_byte_only = alone refl

  pub would_wait_only : Only 𝓛 would_wait.ended (would_wait.clauses 𝓛 mem run) (would_wait.spec 𝓛 mem run)
  would_wait_only = alone refl

  pub run_after_only : Only 𝓛 run_after.ended (run_after.clauses 𝓛 mem run) (run_after.spec 𝓛 mem run)
  run_after_only = alone refl

  pub run_afresh_only : Only 𝓛 run_afresh.ended (run_afresh.clauses 𝓛 mem run) (run_afresh.spec 𝓛 mem run)
  run_afresh_only = alone refl

  pub requests_only : Only 𝓛 requests.ended (requests.clauses 𝓛 mem run) (requests.spec 𝓛 mem run)
  requests_only = alone refl

  pub interrupts_only : Only 𝓛 interrupts.ended (interrupts.clauses 𝓛 mem run) (interrupts.spec 𝓛 mem run)
  interrupts_only = alone refl

  pub lines_of_only : Only 𝓛 lines_of.ended (lines_of.clauses 𝓛 mem run) (lines_of.spec 𝓛 mem run)
  lines_of_only = alone refl

  pub is_valid_only : Only 𝓛 is_valid.ended (is_valid.clauses 𝓛 mem run) (is_valid.spec 𝓛 mem run)
  is_valid_only = alone refl

  pub raise_only : Only 𝓛 raise.ended (raise.clauses 𝓛 mem run) (raise.spec 𝓛 mem run)
  raise_only = alone refl
