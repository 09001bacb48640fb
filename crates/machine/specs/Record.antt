-- The record's makers and setters: antt has no record update, so one positional maker for each struct, for the setters here and for laws that go through a
-- side field by field.
use Rattle.std.specs.Prelude.{ℕ, Bool, true, false, not, List}
use Rattle.machine.specs.declared.Which.{Which}
use Rattle.machine.specs.declared.Which.TheVariants.{One, Two}
use Rattle.machine.specs.declared.Side.{Side}
use Rattle.machine.specs.declared.Control.{Control}
use Rattle.machine.specs.declared.Payload.{Payload}
use Rattle.machine.specs.declared.Chip.{Chip}

abbrev pub mk_side : ℕ → ℕ → ℕ → ℕ → ℕ → ℕ → ℕ → ℕ → ℕ → ℕ → Bool → Bool → ℕ → ℕ → Bool → Side
mk_side c0 c1 ip ie ius vector compare pattern mask pointer state1 run frozen message waiting =
    record {
      control0 = c0;
      control1 = c1;
      ip = ip;
      ie = ie;
      ius = ius;
      vector = vector;
      compare = compare;
      pattern = pattern;
      mask = mask;
      pointer = pointer;
      state1 = state1;
      run = run;
      frozen = frozen;
      message = message;
      waiting = waiting;
    }

abbrev pub mk_control : ℕ → Side → Side → ℕ → ℕ → ℕ → ℕ → Control
mk_control pins one two c2 c3 start count = record { pins = pins; one = one; two = two; control2 = c2; control3 = c3; start = start; count = count }

-- what a step moves and the record of it doesn't see: the buffer's 128 bytes
abbrev pub payload : List ℕ → Payload
payload l = record { buffer = l }

abbrev pub with_buffer : List ℕ → Payload → Payload
with_buffer l p = payload l

abbrev pub chip : Control → Payload → Chip
chip c p = record { control = c; payload = p }

-- the chip of a Control by value and a lent buffer
abbrev pub chip_over : Control → List ℕ → Chip
chip_over c l = chip c (payload l)

-- ---- a side with some of its fields anew

-- six setters name the maker, and the others stand on them

abbrev pub with_control0 : ℕ → Side → Side
with_control0 a s =
    mk_side a s.control1 s.ip s.ie s.ius s.vector s.compare s.pattern s.mask
    s.pointer s.state1 s.run s.frozen s.message s.waiting

-- with the frozen count and the run flag
abbrev pub with_control1 : ℕ → ℕ → Bool → Side → Side
with_control1 a b c s =
    mk_side s.control0 a s.ip s.ie s.ius s.vector s.compare s.pattern s.mask
    s.pointer s.state1 c b s.message s.waiting

-- IP, IE, IUS
abbrev pub with_flags : ℕ → ℕ → ℕ → Side → Side
with_flags a b c s =
    mk_side s.control0 s.control1 a b c s.vector s.compare s.pattern s.mask
    s.pointer s.state1 s.run s.frozen s.message s.waiting

-- Vector, Count Compare, Match, Mask
abbrev pub with_own : ℕ → ℕ → ℕ → ℕ → Side → Side
with_own a b c d s =
    mk_side s.control0 s.control1 s.ip s.ie s.ius a b c d
    s.pointer s.state1 s.run s.frozen s.message s.waiting

-- with the state
abbrev pub with_pointer : ℕ → Bool → Side → Side
with_pointer a b s =
    mk_side s.control0 s.control1 s.ip s.ie s.ius s.vector s.compare s.pattern s.mask
    a b s.run s.frozen s.message s.waiting

-- with the waiting flag
abbrev pub with_message : ℕ → Bool → Side → Side
with_message a b s =
    mk_side s.control0 s.control1 s.ip s.ie s.ius s.vector s.compare s.pattern s.mask
    s.pointer s.state1 s.run s.frozen a b

abbrev pub with_ip : ℕ → Side → Side
with_ip a s = with_flags a s.ie s.ius s

abbrev pub with_vector : ℕ → Side → Side
with_vector a s = with_own a s.compare s.pattern s.mask s

abbrev pub with_compare : ℕ → Side → Side
with_compare a s = with_own s.vector a s.pattern s.mask s

abbrev pub with_pattern : ℕ → Side → Side
with_pattern a s = with_own s.vector s.compare a s.mask s

abbrev pub with_mask : ℕ → Side → Side
with_mask a s = with_own s.vector s.compare s.pattern a s

abbrev pub with_state1 : Bool → Side → Side
with_state1 a s = with_pointer s.pointer a s

abbrev pub with_run : Bool → Side → Side
with_run a s = with_control1 s.control1 s.frozen a s

abbrev pub with_waiting : Bool → Side → Side
with_waiting a s = with_message s.message a s

-- ---- the sides of a record

abbrev pub other : Which → Which
other One = Two
other Two = One

abbrev pub is_one : Which → Bool
is_one One = true
is_one Two = false

-- a bit that names a side: 0 is side 1
abbrev pub names : Which → Bool → Bool
names One b = not b
names Two b = b

abbrev pub side_of : Control → Which → Side
side_of c One = c.one
side_of c Two = c.two

abbrev pub with_sides : Side → Side → Control → Control
with_sides a b c = mk_control c.pins a b c.control2 c.control3 c.start c.count

abbrev pub with_side : Which → Side → Control → Control
with_side One s c = with_sides s c.two c
with_side Two s c = with_sides c.one s c

abbrev pub with_control2 : ℕ → Control → Control
with_control2 x c = mk_control c.pins c.one c.two x c.control3 c.start c.count

abbrev pub with_control3 : ℕ → Control → Control
with_control3 x c = mk_control c.pins c.one c.two c.control2 x c.start c.count

abbrev pub with_place : ℕ → ℕ → Control → Control
with_place start count c = mk_control c.pins c.one c.two c.control2 c.control3 start count
