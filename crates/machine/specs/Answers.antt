-- What a step's answer is on paper: its number and the byte beside it.
use Rattle.machine.specs.Reset.{Started}
use Rattle.std.specs.Prelude.{ℕ, ◌+◌, ◌%◌, Ok, Err}
use Rattle.machine.specs.declared.Answer.{Answer}
use Rattle.machine.specs.declared.Answer.TheVariants.{Done, Byte, Floating, Waiting, Refused}
use Rattle.machine.specs.declared.Refusal.{Refusal}
use Rattle.machine.specs.declared.Refusal.TheVariants.{NotValid, NoRegister, NoMode, Malformed, NotBegun, MemoryTooLong, NotInRole}

-- 00 Done, 01 Byte, 02 Floating, 03 Waiting, E1 to E5 refused
abbrev pub number : Answer → ℕ
number Done = 0x00
number (Byte b) = 0x01
number Floating = 0x02
number Waiting = 0x03
number (Refused n) = 0xE0 + n % 16

-- the byte, or 00
abbrev pub value : Answer → ℕ
value Done = 0
value (Byte b) = b
value Floating = 0
value Waiting = 0
value (Refused n) = 0

-- this paper's number and value of an answer
abbrev pub paper : Answer → ℕ × ℕ
paper a = (number a, value a)

-- each refusal's number: 1 a record that isn't valid, 2 an address that names no register, 3 pins that are no mode, 4 a line that is no frame
-- or a side's number that no side has, 5 a step before any accepted start; of a burst 6 memory that is too long, 7 a side that isn't in the role
abbrev pub refusal_number : Refusal → ℕ
refusal_number NotValid = 1
refusal_number NoRegister = 2
refusal_number NoMode = 3
refusal_number Malformed = 4
refusal_number NotBegun = 5
refusal_number MemoryTooLong = 6
refusal_number NotInRole = 7

abbrev pub refused : Refusal → Answer
refused r = Refused (refusal_number r)

-- accepted starts give Done, and one that is refused its number
abbrev pub start_answer : Started → Answer
start_answer (Ok c) = Done
start_answer (Err r) = refused r
