-- Each public function's contract leaves one result and one content of what was lent, at every model. Assumes nothing.
use mathlib.Core.Path.{refl}
use seplogic.Ra.Ura.{Ura}
use base.Logic.{SProp}
use prog.Memory.{Memory}
use prog.Routine.{Routine}
use types.Logic.{Logic}
use contract.Monad.{Fun}
use Rattle.only.specs.Only.{Only}
use Rattle.only.proofs.Alone.{alone}
use Rattle.fifo.specs.contracts.transfer as transfer
use Rattle.fifo.specs.contracts.fits_pattern as fits_pattern
use Rattle.fifo.specs.contracts.place_of as place_of
use Rattle.fifo.specs.contracts.offer as offer
use Rattle.fifo.specs.contracts.take as take

module _ {M : Type 1} {𝓤 : Ura M} (𝓛 : Logic 𝓤) (mem : Memory → SProp 𝓤) (run : Routine → Fun 𝓤) where
  pub transfer_only : Only 𝓛 transfer.ended (transfer.clauses 𝓛 mem run) (transfer.spec 𝓛 mem run)
  transfer_only = alone refl

  pub fits_pattern_only : Only 𝓛 fits_pattern.ended (fits_pattern.clauses 𝓛 mem run) (fits_pattern.spec 𝓛 mem run)
  fits_pattern_only = alone refl

  pub place_of_only : Only 𝓛 place_of.ended (place_of.clauses 𝓛 mem run) (place_of.spec 𝓛 mem run)
  place_of_only = alone refl

  pub offer_only : Only 𝓛 offer.ended (offer.clauses 𝓛 mem run) (offer.spec 𝓛 mem run)
  offer_only = alone refl

  pub take_only : Only 𝓛 take.ended (take.clauses 𝓛 mem run) (take.spec 𝓛 mem run)
  take_only = alone refl
