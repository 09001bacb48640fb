-- Each public function's contract leaves one result and one content of what was lent, at every model. Assumes nothing.
use mathlib.Core.Path.{refl}
use seplogic.Ra.Ura.{Ura}
use base.Logic.{SProp}
use prog.Memory.{Memory}
use prog.Routine.{Routine}
use types.Logic.{Logic}
use denote.RattleType.{RattleType}
use mir.Syntax.{Dict}
use Rattle.std.specs.declared.clone.Clone.{Ghosts}
use contract.Monad.{Fun}
use Rattle.only.specs.Only.{Only}
use Rattle.only.proofs.Alone.{alone}
use Rattle.bits.specs.contracts.bit_of as bit_of
use Rattle.bits.specs.contracts.set_bit as set_bit
use Rattle.bits.specs.contracts.clear_bit as clear_bit
use Rattle.bits.specs.contracts.with_number as with_number
use Rattle.bits.specs.contracts.is_match as is_match
use Rattle.bits.specs.contracts.choose as choose

module _ {M : Type 1} {𝓤 : Ura M} (𝓛 : Logic 𝓤) (mem : Memory → SProp 𝓤) (run : Routine → Fun 𝓤) where
  pub bit_of_only : Only 𝓛 bit_of.ended (bit_of.clauses 𝓛 mem run) (bit_of.spec 𝓛 mem run)
  bit_of_only = alone refl

  pub set_bit_only : Only 𝓛 set_bit.ended (set_bit.clauses 𝓛 mem run) (set_bit.spec 𝓛 mem run)
  set_bit_only = alone refl

  pub clear_bit_only : Only 𝓛 clear_bit.ended (clear_bit.clauses 𝓛 mem run) (clear_bit.spec 𝓛 mem run)
  clear_bit_only = alone refl

  pub with_number_only : Only 𝓛 with_number.ended (with_number.clauses 𝓛 mem run) (with_number.spec 𝓛 mem run)
  with_number_only = alone refl

  pub is_match_only : Only 𝓛 is_match.ended (is_match.clauses 𝓛 mem run) (is_match.spec 𝓛 mem run)
  is_match_only = alone refl

  pub choose_only : (T : RattleType) (g : Ghosts T.Denot) (d : Dict)
      → Only 𝓛 (choose.ended T g d) (choose.clauses T g d 𝓛 mem run) (choose.spec T g d 𝓛 mem run)
  choose_only T g d = alone refl
