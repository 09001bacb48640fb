-- Sentences of document 01 that speak of every record or of every step, as statements about the step.
use Rattle.std.specs.Prelude.{ℕ, ◌≡◌, Bool, true, false, not, ◌&&◌, List, [], ◌∷◌, eqb, Some, None}
use Rattle.bits.specs.Bits.{bit}
use Rattle.machine.specs.declared.Which.{Which}
use Rattle.machine.specs.declared.Which.TheVariants.{Two}
use Rattle.machine.specs.declared.Side.{Side}
use Rattle.machine.specs.declared.Control.{Control}
use Rattle.machine.specs.declared.Chip.{Chip}
use Rattle.machine.specs.declared.Step.{Step}
use Rattle.machine.specs.declared.Step.TheVariants.{Write, Reset}
use Rattle.machine.specs.declared.Answer.TheVariants.{Done, Floating}
use Rattle.machine.specs.Record.{chip, side_of, with_side, with_pointer}
use Rattle.machine.specs.Modes.{connected, in_reset, live}
use Rattle.machine.specs.Addresses.{control0_reg, target, aims, Target}
use Rattle.machine.specs.Reset.{reset_side}
use Rattle.machine.specs.Validity.{valid}
use Rattle.machine.specs.Step.{side_in, step}

-- the pins are fixed at the start
abbrev pub PinsFixed : Type 0
PinsFixed = (k : Chip) (s : Step) → (step k s).chip.control.pins ≡ k.control.pins

-- a step on an unconnected side changes nothing and is answered Floating
abbrev pub UnconnectedFloats : Type 0
UnconnectedFloats =
    (k : Chip) (s : Step) → valid k.control ≡ true → connected k.control (side_in s) ≡ false → step k s ≡ record { chip = k; answer = Floating }

-- side 2's reset touches only what side 2 owns
abbrev pub ResetTwoOnly : Type 0
ResetTwoOnly =
    (k : Chip) → valid k.control ≡ true → connected k.control Two ≡ true
    → step k (Reset Two) ≡ record { chip = chip (with_side Two reset_side k.control) k.payload; answer = Done }

-- what a side owns: Control 0 and 1, flags, vector, compare, match, mask, pointer, frozen count, outgoing message byte; state, run flag, waiting flag
abbrev pub own_bytes : Side → List ℕ
own_bytes s =
    s.control0 ∷ s.control1 ∷ s.ip ∷ s.ie ∷ s.ius ∷ s.vector ∷ s.compare ∷ s.pattern ∷ s.mask ∷ s.pointer ∷ s.frozen ∷ s.message ∷ []

abbrev pub own_bits : Side → List Bool
own_bits s = s.state1 ∷ s.run ∷ s.waiting ∷ []

-- all of it zero, but for a Control 0 of 01
pub record Zeroed (s : Side) : Type 0 where
  pub bytes : own_bytes s ≡ 0x01 ∷ 0x00 ∷ 0x00 ∷ 0x00 ∷ 0x00 ∷ 0x00 ∷ 0x00 ∷ 0x00 ∷ 0x00 ∷ 0x00 ∷ 0x00 ∷ 0x00 ∷ []
  pub bits : own_bits s ≡ false ∷ false ∷ false ∷ []

-- reset zeroes what a side owns, then sets Control 0 to 01
abbrev pub ResetZeroes : Type 0
ResetZeroes =
    (k : Chip) (w : Which) → valid k.control ≡ true → connected k.control w ≡ true → Zeroed (side_of (step k (Reset w)).chip.control w)

-- it names Control 0
abbrev pub names_control0 : Target → Bool
names_control0 (Some r) = eqb r.number control0_reg
names_control0 None = false

-- a Control 0 write with bit 0 clear
abbrev pub releases : Control → Which → ℕ → ℕ → Bool
releases c w a x = not (aims c w a) && (names_control0 (target c w a) && not (bit 0 x))

-- on a live side, writing Control 0 with bit 0 set resets; no reset raises an event: the write does all that the side's hardware reset does, and no more
abbrev pub WriteResets : Type 0
WriteResets =
    (k : Chip) (w : Which) (a x : ℕ) → valid k.control ≡ true → live k.control w ≡ true → aims k.control w a ≡ false
    → names_control0 (target k.control w a) ≡ true → bit 0 x ≡ true → step k (Write w a x) ≡ step k (Reset w)

-- all is as in k but a side's pointer and state
abbrev pub AllBut : Which → Chip → Chip → Type 0
AllBut w k l =
    let s : Side = side_of l.control w in
    l ≡ chip (with_side w (with_pointer s.pointer s.state1 (side_of k.control w)) k.control) k.payload

-- while the Reset bit is 1, only a Control 0 write with bit 0 clear acts; pointer and state still work
abbrev pub InResetKeeps : Type 0
InResetKeeps =
    (k : Chip) (w : Which) (a x : ℕ) → in_reset k.control w ≡ true → releases k.control w a x ≡ false → AllBut w k (step k (Write w a x)).chip
