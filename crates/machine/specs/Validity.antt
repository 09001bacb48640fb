-- Refusal 1: what a valid record is.
use Rattle.std.specs.Prelude.{Bool, not, ◌&&◌, ◌||◌, [], ◌∷◌, eqb, leb}
use Rattle.bits.specs.Bits.{bit, zeros}
use Rattle.machine.specs.declared.Which.{Which}
use Rattle.machine.specs.declared.Which.TheVariants.{One, Two}
use Rattle.machine.specs.declared.Side.{Side}
use Rattle.machine.specs.declared.Control.{Control}
use Rattle.machine.specs.Record.{side_of}
use Rattle.machine.specs.Fifo.{clear, at_end}

-- the bits that document 01 holds at zero: 7, 5 and 4 of Control 1, and in a byte of flags the bit of no source
unfoldable pub zero_side : Side → Bool
zero_side s = zeros (7 ∷ 5 ∷ 4 ∷ []) s.control1 && zeros (0 ∷ []) s.ip && zeros (0 ∷ []) s.ie && zeros (0 ∷ []) s.ius

-- 3-2 of side 2's Control 0, 7-2 of Control 2, 3-0 of Control 3
unfoldable pub zero_shared : Control → Bool
zero_shared c = zeros (3 ∷ 2 ∷ []) c.two.control0 && zeros (7 ∷ 6 ∷ 5 ∷ 4 ∷ 3 ∷ 2 ∷ []) c.control2 && zeros (3 ∷ 2 ∷ 1 ∷ 0 ∷ []) c.control3

-- no Reset bit 1 beside another bit of that Control 0
unfoldable pub alone_in_reset : Side → Bool
alone_in_reset s = not (bit 0 s.control0) || eqb s.control0 1

-- frozen count at most 128, pointer at most 15, the zero bits, Reset alone
unfoldable pub valid_side : Side → Bool
valid_side s = leb s.frozen 128 && leb s.pointer 15 && zero_side s && alone_in_reset s

-- no run flag 1 on the writer at count 128 or the reader at 0
unfoldable pub run_fits : Control → Which → Bool
run_fits c w = not ((side_of c w).run && at_end c w c.count)

-- side 1's Reset bit 1 only with side 2's Reset bit 1 and Control 2 00
unfoldable pub reset_fits : Control → Bool
reset_fits c = not (bit 0 c.one.control0) || (bit 0 c.two.control0 && eqb c.control2 0)

-- start place at most 127, count at most 128, pins at most 2
unfoldable pub in_range : Control → Bool
in_range c = leb c.start 127 && leb c.count 128 && leb c.pins 2

-- no CLEAR 0 with count > 0
unfoldable pub clear_fits : Control → Bool
clear_fits c = clear c || eqb c.count 0

unfoldable pub valid : Control → Bool
valid c = in_range c && valid_side c.one && valid_side c.two && zero_shared c && clear_fits c && run_fits c One && run_fits c Two && reset_fits c
