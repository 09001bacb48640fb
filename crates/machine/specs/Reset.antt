-- Reset.
use Rattle.std.specs.Prelude.{ℕ, false, cond, leb, replicate, Ok, Err, Result}
use Rattle.machine.specs.declared.Which.{Which}
use Rattle.machine.specs.declared.Which.TheVariants.{One, Two}
use Rattle.machine.specs.declared.Side.{Side}
use Rattle.machine.specs.declared.Control.{Control}
use Rattle.machine.specs.declared.Refusal.{Refusal}
use Rattle.machine.specs.declared.Refusal.TheVariants.{NoMode}
use Rattle.machine.specs.declared.Payload.{Payload}
use Rattle.machine.specs.declared.Chip.{Chip}
use Rattle.machine.specs.declared.Effect.{Effect}
use Rattle.machine.specs.declared.Effect.TheVariants.{Keep, Wipe}
use Rattle.machine.specs.Record.{payload, chip, with_side, with_sides, with_control2, with_control3, with_place}

-- reset zeroes what a side owns, then sets Control 0 to 01
abbrev pub reset_side : Side
reset_side =
    record {
      control0 = 0x01;
      control1 = 0;
      ip = 0;
      ie = 0;
      ius = 0;
      vector = 0;
      compare = 0;
      pattern = 0;
      mask = 0;
      pointer = 0;
      state1 = false;
      run = false;
      frozen = 0;
      message = 0;
      waiting = false;
    }

-- start and count 0
unfoldable pub emptied : Control → Control
emptied c = with_place 0 0 c

-- side 1's reset also resets side 2, zeroes Control 2 and 3 and sets start and count to 0; side 2's touches only what side 2 owns
unfoldable pub reset : Control → Which → Control
unfolding emptied
reset c One = emptied (with_control2 0 (with_control3 0 (with_sides reset_side reset_side c)))
reset c Two = with_side Two reset_side c

-- side 1's reset zeroes all 128 buffer bytes
abbrev pub wiped : Which → Effect
wiped One = Wipe
wiped Two = Keep

abbrev pub zero_payload : Payload
zero_payload = payload (replicate 128 0)

-- a start leaves the chip as side 1's reset does
abbrev pub fresh : ℕ → Control
fresh pins = record { pins = pins; one = reset_side; two = reset_side; control2 = 0; control3 = 0; start = 0; count = 0 }

abbrev pub new_chip : ℕ → Chip
new_chip pins = chip (fresh pins) zero_payload

-- a start: the new chip's Control, or its refusal and no chip
abbrev pub Started : Type 0
Started = Result Control Refusal

-- refusal 3: a start with pins above 2
unfoldable pub started : ℕ → Started
started pins = cond (leb pins 2) (Ok (fresh pins)) (Err NoMode)
