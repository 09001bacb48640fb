-- What a line's answer is on paper: its number and the byte beside it.
use Rattle.line.specs.Readings.{LineAnswer}
use Rattle.std.specs.Prelude.{ℕ, ◌+◌, ◌*◌, ◌/◌, ◌%◌, ◌≡◌, List, Ok, Err}
use Rattle.machine.specs.Answers as OfFrames
use Rattle.line.specs.declared.Fault.{Fault}
use Rattle.line.specs.Faults.{refusal, column}
use Rattle.line.specs.Frames.{reading}

-- a line that is no frame is E4
abbrev pub number : LineAnswer → ℕ
number (Err f) = 0xE4
number (Ok a) = OfFrames.number a

-- the column, with the refusal's second digit in its high half. The remainder alters no column of a line; it keeps any other in a byte
abbrev pub value : LineAnswer → ℕ
value (Err f) = refusal f % 10 * 16 + column f % 16
value (Ok a) = OfFrames.value a

-- this paper's number and value of an answer
abbrev pub paper : LineAnswer → ℕ × ℕ
paper a = (number a, value a)

-- the byte tells the refusal and the column
abbrev pub Told : Type 0
Told = (l : List ℕ) (f : Fault) → reading l ≡ Err f → (40 + value (Err f) / 16 ≡ refusal f) × (value (Err f) % 16 ≡ column f)
