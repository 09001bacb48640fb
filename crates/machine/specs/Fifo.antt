-- The FIFO: who writes, who reads, and when a byte is offered, accepted or given, or waits.
use Rattle.std.specs.Prelude.{ℕ, Bool, true, cond, not, ◌&&◌, eqb, ltb}
use Rattle.bits.specs.Bits.{bit}
use Rattle.machine.specs.declared.Which.{Which}
use Rattle.machine.specs.declared.Control.{Control}
use Rattle.machine.specs.declared.Step.{Step}
use Rattle.machine.specs.Record.{side_of, names}
use Rattle.machine.specs.Apart.{on_write, has_byte}
use Rattle.machine.specs.Modes.{connected, live}
use Rattle.machine.specs.Addresses.{target, names_data, aims}

-- Direction 0 sends side 1 to side 2
unfoldable pub writer : Control → Which → Bool
writer c w = names w (bit 4 c.control3)

abbrev pub reader : Control → Which → Bool
reader c w = not (writer c w)

-- CLEAR is 1
unfoldable pub clear : Control → Bool
clear c = bit 6 c.control3

abbrev pub full : ℕ → Bool
full n = eqb n 128

abbrev pub empty : ℕ → Bool
empty n = eqb n 0

-- a byte is offered, taken or not, by a DMA write and by a write on a connected side that names the Data Buffer, directly or through the pointer: by
-- what carries one, and if it is a write, by such a write
unfoldable pub offered : Control → Step → Bool
offered c s = has_byte s && on_write s (λ w a x. connected c w && not (aims c w a) && names_data (target c w a)) true

-- a live side's byte is accepted exactly if it is the writer, CLEAR is 1 and count < 128
unfoldable pub accepted : Control → Which → Bool
accepted c w = live c w && writer c w && clear c && ltb c.count 128

-- a byte is given exactly if the live side is the reader, CLEAR is 1 and count > 0
unfoldable pub given : Control → Which → Bool
given c w = live c w && reader c w && clear c && ltb 0 c.count

-- where a side's way ends: the writer's at 128, the reader's at 0
unfoldable pub at_end : Control → Which → ℕ → Bool
at_end c w n = cond (writer c w) (full n) (empty n)

-- the side's own way, the writer's write or the reader's read of the Data Buffer, is held up: live, line enable 1, REQUEST bit 0, CLEAR 1, and the
-- buffer full for the writer, empty for the reader
unfoldable pub waits : Control → Which → Bool
waits c w = live c w && bit 0 (side_of c w).control1 && not (bit 1 (side_of c w).control1) && clear c && at_end c w c.count
