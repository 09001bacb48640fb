-- REQUEST and the run flag.
use Rattle.std.specs.Prelude.{ℕ, Bool, true, false, cond, not, ◌&&◌, eqb, ltb}
use Rattle.bits.specs.Bits.{bit}
use Rattle.machine.specs.declared.Which.{Which}
use Rattle.machine.specs.declared.Which.TheVariants.{One, Two}
use Rattle.machine.specs.declared.Side.{Side}
use Rattle.machine.specs.declared.Control.{Control}
use Rattle.machine.specs.Record.{side_of, with_run, with_sides}
use Rattle.machine.specs.Modes.{live}
use Rattle.machine.specs.Fifo.{writer, clear, at_end}
use Rattle.machine.specs.Events.{pattern_source}

-- after each moved byte: run 0 at the end of the side's way, else 1 if count = compare, otherwise kept
unfoldable pub run_after : Control → Which → ℕ → Bool
run_after c w n = cond (at_end c w n) false (cond (eqb n (side_of c w).compare) true (side_of c w).run)

-- afresh: writer, count < 128; reader, count > 0 and count = compare
unfoldable pub afresh : Control → Which → Bool
afresh c w = cond (writer c w) (ltb c.count 128) (ltb 0 c.count && eqb c.count (side_of c w).compare)

-- both sides' run flags afresh
abbrev pub both_afresh : Control → Control
both_afresh c = with_sides (with_run (afresh c One) c.one) (with_run (afresh c Two) c.two) c

-- bit 3 set and pattern IP set
unfoldable pub stopped : Side → Bool
stopped s = bit 3 s.control1 && bit pattern_source s.ip

-- bit 2 clear, writer with count < 128 or reader with count > 0; bit 2 set, the run flag
unfoldable pub going : Control → Which → Bool
going c w = cond (bit 2 (side_of c w).control1) (side_of c w).run (cond (writer c w) (ltb c.count 128) (ltb 0 c.count))

-- active if live, Control 1 bits 1-0 are 11, CLEAR is 1, it has not stopped, and it is going
unfoldable pub request : Control → Which → Bool
request c w = live c w && bit 0 (side_of c w).control1 && bit 1 (side_of c w).control1 && clear c && not (stopped (side_of c w)) && going c w
