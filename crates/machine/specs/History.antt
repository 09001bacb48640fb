-- The lines, and the history of a list of steps.
use Rattle.std.specs.Prelude.{ℕ, List, [], ◌∷◌}
use Rattle.std.specs.Int.Bits.{bit_or}
use Rattle.bits.specs.Bits.{bit_if}
use Rattle.machine.specs.declared.Which.TheVariants.{One, Two}
use Rattle.machine.specs.declared.Control.{Control}
use Rattle.machine.specs.declared.Chip.{Chip}
use Rattle.machine.specs.declared.Step.{Step}
use Rattle.machine.specs.declared.Answer.{Answer}
use Rattle.machine.specs.Interrupts.{interrupt}
use Rattle.machine.specs.Request.{request}
use Rattle.machine.specs.Step.{step}

-- bit 0 INT 1, 1 REQUEST 1, 2 INT 2, 3 REQUEST 2; 1 active
unfoldable pub lines : Control → ℕ
lines c =
    bit_or (bit_if 0 (interrupt c One)) (bit_or (bit_if 1 (request c One)) (bit_or (bit_if 2 (interrupt c Two)) (bit_if 3 (request c Two))))

-- a step, its answer, and the lines and the record after it
pub record Entry : Type 0 where
  pub asked : Step
  pub answer : Answer
  pub after_lines : ℕ
  pub after : Chip

abbrev pub entry : Chip → Step → Entry
entry k s = record { asked = s; answer = (step k s).answer; after_lines = lines (step k s).chip.control; after = (step k s).chip }

-- what a list of steps does, from any record
unfoldable pub history : Chip → List Step → List Entry
history k [] = []
history k (s ∷ ss) = entry k s ∷ history (step k s).chip ss

-- the record that it leaves
unfoldable pub ran : Chip → List Step → Chip
ran k [] = k
ran k (s ∷ ss) = ran (step k s).chip ss
