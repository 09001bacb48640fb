-- A sound chip: its record is valid, and the buffer has its 128 places.
use Rattle.std.specs.Prelude.{◌≡◌, true, List, [], ◌∷◌, length}
use Rattle.machine.specs.declared.Chip.{Chip}
use Rattle.machine.specs.Validity.{valid}
use Rattle.machine.specs.History.{Entry}

pub record Sound (k : Chip) : Type 0 where
  pub fits : valid k.control ≡ true
  pub long : length k.payload.buffer ≡ 128

-- the chip after each step of a history is sound
abbrev pub AllSound : List Entry → Type 0
AllSound [] = Unit {0}
AllSound (e ∷ es) = Sound e.after × AllSound es
