-- Each public function's contract leaves one result and one content of what was lent, at every model. Assumes nothing.
use mathlib.Core.Path.{refl}
use seplogic.Ra.Ura.{Ura}
use base.Logic.{SProp}
use prog.Memory.{Memory}
use prog.Routine.{Routine}
use types.Logic.{Logic}
use contract.Monad.{Fun}
use Rattle.only.specs.Only.{Only}
use Rattle.only.proofs.Alone.{alone}
use Rattle.side.specs.contracts.mode as mode
use Rattle.side.specs.contracts.status_of as status_of
use Rattle.side.specs.contracts.command_both as command_both
use Rattle.side.specs.contracts.due_source as due_source
use Rattle.side.specs.contracts.serve as serve
use Rattle.side.specs.contracts.give as give
use Rattle.side.specs.contracts.read_vector as read_vector

module _ {M : Type 1} {𝓤 : Ura M} (𝓛 : Logic 𝓤) (mem : Memory → SProp 𝓤) (run : Routine → Fun 𝓤) where
  pub mode_only : Only 𝓛 mode.ended (mode.clauses 𝓛 mem run) (mode.spec 𝓛 mem run)
  mode_only = alone refl

  pub status_of_only : Only 𝓛 status_of.ended (status_of.clauses 𝓛 mem run) (status_of.spec 𝓛 mem run)
  status_of_only = alone refl

  pub command_both_only : Only 𝓛 command_both.ended (command_both.clauses 𝓛 mem run) (command_both.spec 𝓛 mem run)
  command_both_only = alone refl

  pub due_source_only : Only 𝓛 due_source.ended (due_source.clauses 𝓛 mem run) (due_source.spec 𝓛 mem run)
  due_source_only = alone refl

  pub serve_only : Only 𝓛 serve.ended (serve.clauses 𝓛 mem run) (serve.spec 𝓛 mem run)
  serve_only = alone refl

  pub give_only : Only 𝓛 give.ended (give.clauses 𝓛 mem run) (give.spec 𝓛 mem run)
  give_only = alone refl

  pub read_vector_only : Only 𝓛 read_vector.ended (read_vector.clauses 𝓛 mem run) (read_vector.spec 𝓛 mem run)
  read_vector_only = alone refl
