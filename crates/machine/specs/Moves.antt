-- What a moved byte does to both sides, and the buffer's place that it goes to.
use Rattle.std.specs.Prelude.{ℕ, ◌+◌, ◌-◌, ◌%◌, Bool, not, ◌&&◌, eqb}
use Rattle.std.specs.Int.Bits.{bit_or}
use Rattle.machine.specs.declared.Which.{Which}
use Rattle.machine.specs.declared.Which.TheVariants.{One, Two}
use Rattle.machine.specs.declared.Side.{Side}
use Rattle.machine.specs.declared.Control.{Control}
use Rattle.machine.specs.Record.{side_of, is_one, with_sides, with_place, with_run}
use Rattle.machine.specs.Fifo.{full, empty}
use Rattle.machine.specs.Events.{pattern_source, status_source, full_source, empty_source, source, raised}
use Rattle.machine.specs.Request.{run_after}

-- what a moved byte that leaves the count at n raises on a side: pattern on the side that moves it, if it matches there; status if the count
-- equals that side's compare; full and empty when it makes the count 128 or 0
unfoldable pub events : Bool → ℕ → Side → ℕ
events matched n s =
    bit_or (source pattern_source matched)
    (bit_or (source status_source (eqb n s.compare)) (bit_or (source full_source (full n)) (source empty_source (empty n))))

-- a side after it: its events, and its run flag
unfoldable pub moved_side : Control → Which → Bool → ℕ → Side
moved_side c w matched n = with_run (run_after c w n) (raised c w (events matched n (side_of c w)))

-- after a byte that side w moved, with the start and count that it leaves
unfoldable pub moved : Control → Which → Bool → ℕ → ℕ → Control
moved c w matched start n =
    with_place start n (with_sides (moved_side c One (is_one w && matched) n) (moved_side c Two (not (is_one w) && matched) n) c)

-- an accepted byte is stored at place (start + count) modulo 128
abbrev pub stored_at : Control → ℕ
stored_at c = (c.start + c.count) % 128

-- the record after an accepted byte
unfoldable pub after_accepted : Control → Which → Bool → Control
after_accepted c w matched = moved c w matched c.start (c.count + 1)

-- the record after a given byte, which is the one at start: start moves on by 1 modulo 128
unfoldable pub after_given : Control → Which → Bool → Control
after_given c w matched = moved c w matched ((c.start + 1) % 128) (c.count - 1)
