-- Sides and modes.
use Rattle.std.specs.Prelude.{ℕ, ◌+◌, ◌*◌, Bool, true, false, cond, not, ◌&&◌, List, [], ◌∷◌, ltb, leb, get_or}
use Rattle.bits.specs.Bits.{bit, field}
use Rattle.machine.specs.declared.Which.{Which}
use Rattle.machine.specs.declared.Which.TheVariants.{One, Two}
use Rattle.machine.specs.declared.Bus.{Bus}
use Rattle.machine.specs.declared.Bus.TheVariants.{Low, High, NonZBus, ThreeWire, TwoWire, NoBus}
use Rattle.machine.specs.declared.Row.{Row}
use Rattle.machine.specs.declared.Control.{Control}
use Rattle.machine.specs.Record.{side_of}

abbrev pub row : Bus → Bus → Row
row one two = record { one = one; two = two }

-- the twelve rows of Table 2: four for each of the pins' codes, B running fastest
abbrev pub rows : List Row
rows =
    row Low Low ∷ row Low NonZBus ∷ row Low ThreeWire ∷ row Low TwoWire
    ∷ row High High ∷ row High NonZBus ∷ row High ThreeWire ∷ row High TwoWire
    ∷ row NonZBus Low ∷ row NonZBus NonZBus ∷ row NonZBus ThreeWire ∷ row NonZBus TwoWire ∷ []

abbrev pub no_row : Row
no_row = row NoBus NoBus

-- the row for the pins' code m and for b, which is two bits; no bus for pins above 2
unfoldable pub modes : ℕ → ℕ → Row
modes m b = cond (leb m 2) (get_or rows (m * 4 + field 2 0 b) no_row) no_row

-- B1 B0 are bits 3-2 of side 1's Control 0
unfoldable pub b_of : Control → ℕ
b_of c = field 2 2 c.one.control0

unfoldable pub bus_of : Control → Which → Bus
bus_of c One = (modes c.pins (b_of c)).one
bus_of c Two = (modes c.pins (b_of c)).two

abbrev pub is_z_bus : Bus → Bool
is_z_bus Low = true
is_z_bus High = true
is_z_bus NonZBus = false
is_z_bus ThreeWire = false
is_z_bus TwoWire = false
is_z_bus NoBus = false

abbrev pub is_high : Bus → Bool
is_high Low = false
is_high High = true
is_high NonZBus = false
is_high ThreeWire = false
is_high TwoWire = false
is_high NoBus = false

abbrev pub is_non_z_bus : Bus → Bool
is_non_z_bus Low = false
is_non_z_bus High = false
is_non_z_bus NonZBus = true
is_non_z_bus ThreeWire = false
is_non_z_bus TwoWire = false
is_non_z_bus NoBus = false

-- Side 1 is always connected; side 2 if bit 0 of Control 2 is 1 and B is 0 or 1. Neither with pins above 2
unfoldable pub connected : Control → Which → Bool
connected c One = leb c.pins 2
connected c Two = leb c.pins 2 && bit 0 c.control2 && ltb (b_of c) 2

-- the Reset bit of a side
unfoldable pub in_reset : Control → Which → Bool
in_reset c w = bit 0 (side_of c w).control0

-- a side is live if it is connected and its Reset bit is 0
unfoldable pub live : Control → Which → Bool
live c w = connected c w && not (in_reset c w)
