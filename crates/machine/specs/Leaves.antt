-- What a call over a lent buffer leaves, as the parts of its contract: its result, which is all but the buffer, and the buffer at exit.
use Rattle.std.specs.Prelude.{◌≡◌, List, ℕ}
use Rattle.machine.specs.declared.Chip.{Chip}
use Rattle.machine.specs.declared.Answer.{Answer}
use Rattle.machine.specs.declared.Stepped.{Stepped}
use Rattle.machine.specs.Answers.{paper}

-- r is what is wanted, and in the buffer are these bytes
pub record Leaves {R : Type 0} (wanted : R) (bytes : List ℕ) (r : R) (buffer : List ℕ) : Type 0 where
  pub result : r ≡ wanted
  pub content : buffer ≡ bytes

-- of a step t over a lent record: its answer, which is the same on paper, and the record
abbrev pub LeavesChip : Stepped Answer → Answer → Chip → Type 0
LeavesChip t r k = (r ≡ t.answer) × (k ≡ t.chip) × (paper r ≡ paper t.answer)
