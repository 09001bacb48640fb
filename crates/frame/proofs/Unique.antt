-- Each public function's contract leaves one result and one content of what was lent, at every model. Assumes nothing.
use mathlib.Core.Path.{refl}
use seplogic.Ra.Ura.{Ura}
use base.Logic.{SProp}
use prog.Memory.{Memory}
use prog.Routine.{Routine}
use types.Logic.{Logic}
use contract.Monad.{Fun}
use Rattle.only.specs.Only.{Only}
use Rattle.only.proofs.Alone.{alone}
use Rattle.frame.specs.contracts.digit_values as digit_values
use Rattle.frame.specs.contracts.hex_digit as hex_digit
use Rattle.frame.specs.contracts.blank_line as blank_line
use Rattle.frame.specs.contracts.more as more
use Rattle.frame.specs.contracts.is_blank as is_blank
use Rattle.frame.specs.contracts.is_begun as is_begun
use Rattle.frame.specs.contracts.read_partial as read_partial
use Rattle.frame.specs.contracts.read_line as read_line
use Rattle.frame.specs.contracts.write_frame as write_frame

module _ {M : Type 1} {𝓤 : Ura M} (𝓛 : Logic 𝓤) (mem : Memory → SProp 𝓤) (run : Routine → Fun 𝓤) where
  pub digit_values_only : Only 𝓛 digit_values.ended (digit_values.clauses 𝓛 mem run) (digit_values.spec 𝓛 mem run)
  digit_values_only = alone refl

  pub hex_digit_only : Only 𝓛 hex_digit.ended (hex_digit.clauses 𝓛 mem run) (hex_digit.spec 𝓛 mem run)
  hex_digit_only = alone refl

  pub blank_line_only : Only 𝓛 blank_line.ended (blank_line.clauses 𝓛 mem run) (blank_line.spec 𝓛 mem run)
  blank_line_only = alone refl

  pub more_only : Only 𝓛 more.ended (more.clauses 𝓛 mem run) (more.spec 𝓛 mem run)
  more_only = alone refl

  pub is_blank_only : Only 𝓛 is_blank.ended (is_blank.clauses 𝓛 mem run) (is_blank.spec 𝓛 mem run)
  is_blank_only = alone refl

  pub is_begun_only : Only 𝓛 is_begun.ended (is_begun.clauses 𝓛 mem run) (is_begun.spec 𝓛 mem run)
  is_begun_only = alone refl

  pub read_partial_only : Only 𝓛 read_partial.ended (read_partial.clauses 𝓛 mem run) (read_partial.spec 𝓛 mem run)
  read_partial_only = alone refl

  pub read_line_only : Only 𝓛 read_line.ended (read_line.clauses 𝓛 mem run) (read_line.spec 𝓛 mem run)
  read_line_only = alone refl

  pub write_frame_only : Only 𝓛 write_frame.ended (write_frame.clauses 𝓛 mem run) (write_frame.spec 𝓛 mem run)
  write_frame_only = alone refl
