-- Addresses.
use Rattle.std.specs.Prelude.{ℕ, Bool, false, cond, not, ◌&&◌, ◌||◌, eqb, leb, ltb, Some, None, Option}
use Rattle.bits.specs.Bits.{bit, field}
use Rattle.machine.specs.declared.Which.{Which}
use Rattle.machine.specs.declared.Bus.{Bus}
use Rattle.machine.specs.declared.Bus.TheVariants.{Low, High, NonZBus, ThreeWire, TwoWire, NoBus}
use Rattle.machine.specs.declared.Side.{Side}
use Rattle.machine.specs.declared.Control.{Control}
use Rattle.machine.specs.declared.Register.{Register}
use Rattle.machine.specs.declared.Step.{Step}
use Rattle.machine.specs.Record.{side_of}
use Rattle.machine.specs.Apart.{on_write, on_address}
use Rattle.machine.specs.Modes.{bus_of, connected, is_non_z_bus, is_high}

-- ---- the registers' numbers

abbrev pub control0_reg : ℕ
control0_reg = 0

abbrev pub control1_reg : ℕ
control1_reg = 1

abbrev pub status0_reg : ℕ
status0_reg = 2

abbrev pub status1_reg : ℕ
status1_reg = 3

abbrev pub status2_reg : ℕ
status2_reg = 4

abbrev pub status3_reg : ℕ
status3_reg = 5

abbrev pub vector_reg : ℕ
vector_reg = 6

abbrev pub byte_count_reg : ℕ
byte_count_reg = 7

abbrev pub compare_reg : ℕ
compare_reg = 8

abbrev pub control2_reg : ℕ
control2_reg = 9

abbrev pub control3_reg : ℕ
control3_reg = 10

abbrev pub message_out_reg : ℕ
message_out_reg = 11

abbrev pub message_in_reg : ℕ
message_in_reg = 12

abbrev pub match_reg : ℕ
match_reg = 13

abbrev pub mask_reg : ℕ
mask_reg = 14

abbrev pub data_buffer_reg : ℕ
data_buffer_reg = 15

-- ---- what an address names: a register, or nothing (refusal 2)

abbrev pub Target : Type 0
Target = Option Register

abbrev pub register : ℕ → Register
register n = record { number = n }

-- Z-BUS Low with RJA 0: address bits 4-1; RJA 1: bits 3-0
unfoldable pub low : Bool → ℕ → Register
low rja a = cond rja (register (field 4 0 a)) (register (field 4 1 a))

-- High: bits 3-0
unfoldable pub high : ℕ → Register
high a = register (field 4 0 a)

abbrev pub pointed : ℕ → Register
pointed p = register p

abbrev pub data_buffer : Register
data_buffer = register data_buffer_reg

abbrev pub is_data : Register → Bool
is_data r = eqb r.number data_buffer_reg

unfoldable pub rja : Side → Bool
rja s = bit 1 s.control0

-- Non-Z-BUS: the address is C/D. At 0 it is the Data Buffer, at 1 the pointed register
unfoldable pub behind_cd : Side → ℕ → Target
behind_cd s a = cond (eqb a 0) (Some data_buffer) (cond (eqb a 1) (Some (pointed s.pointer)) None)

-- what an address names: above 15 on a High side and above 1 on a Non-Z-BUS side it is nothing
unfoldable pub target_on : Bus → Side → ℕ → Target
target_on Low s a = Some (low (rja s) a)
target_on High s a = cond (leb a 15) (Some (high a)) None
target_on NonZBus s a = behind_cd s a
target_on ThreeWire s a = None
target_on TwoWire s a = None
target_on NoBus s a = None

unfoldable pub target : Control → Which → ℕ → Target
target c w a = target_on (bus_of c w) (side_of c w) a

-- it names the Data Buffer
abbrev pub names_data : Target → Bool
names_data (Some r) = is_data r
names_data None = false

-- a write at C/D 1 in State 0 is to the pointer
unfoldable pub aims : Control → Which → ℕ → Bool
aims c w a = is_non_z_bus (bus_of c w) && eqb a 1 && not (side_of c w).state1

-- on a connected side: Non-Z-BUS and the address is above 1, or Z-BUS High and it is above 15
unfoldable pub beyond : Control → Which → ℕ → Bool
beyond c w a = connected c w && ((is_non_z_bus (bus_of c w) && ltb 1 a) || (is_high (bus_of c w) && ltb 15 a))

-- refusal 2: a read or write so addressed
abbrev pub outside : Control → Step → Bool
outside c s = on_address s (λ w a. beyond c w a) false

-- a write in State 1 returns to State 0: it is at C/D 1 of a connected Non-Z-BUS side
unfoldable pub closes : Control → Step → Bool
closes c s = on_write s (λ w a x. connected c w && is_non_z_bus (bus_of c w) && eqb a 1 && (side_of c w).state1) false
