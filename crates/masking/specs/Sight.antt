-- What may be seen of a history.
use Rattle.std.specs.Prelude.{ℕ, cond, List, [], ◌∷◌}
use Rattle.machine.specs.declared.Chip.{Chip}
use Rattle.machine.specs.declared.Answer.{Answer}
use Rattle.machine.specs.declared.Answer.TheVariants.{Done, Byte, Floating, Waiting, Refused}
use Rattle.machine.specs.History.{Entry}
use Rattle.masking.specs.Premises.{moves_out}

-- what may be seen of an answer: all of it, or that it is a byte taken out of the FIFO
pub data Seen : Type 0 where
  whole : Answer → Seen
  taken_out : Seen

-- a Byte without its value
abbrev pub blanked : Answer → Seen
blanked Done = whole Done
blanked (Byte x) = taken_out
blanked Floating = whole Floating
blanked Waiting = whole Waiting
blanked (Refused n) = whole (Refused n)

-- the answer, the lines and the count after a step
pub record Sight : Type 0 where
  pub answer : Seen
  pub after_lines : ℕ
  pub after_count : ℕ

-- of a step that met the chip k: only the value of a byte taken out of the FIFO is not seen
unfoldable pub sight : Chip → Entry → Sight
sight k e =
    record {
      answer = cond (moves_out k.control e.asked) (blanked e.answer) (whole e.answer);
      after_lines = e.after_lines;
      after_count = e.after.control.count;
    }

-- of a history from the chip k on
unfoldable pub sights : Chip → List Entry → List Sight
sights k [] = []
sights k (e ∷ es) = sight k e ∷ sights e.after es
