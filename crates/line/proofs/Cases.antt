-- Every row holds, by computation. Assumes nothing.
use mathlib.Core.Path.{refl}
use Rattle.line.specs.Digits.{is_hex, nibble, digit, all_hex, pair}
use Rattle.line.specs.Faults.{misshapen, unused, first}
use Rattle.line.specs.Frames.{on_side, kind_of, byte_at, meant, meaning, reading, kind_on, in_capitals, line_of, written}
use Rattle.line.specs.Cases.{chars, Cases}

pub cases : Cases
unfolding is_hex nibble digit all_hex pair misshapen unused first on_side kind_of byte_at meant meaning reading kind_on in_capitals line_of written chars
cases = record { are_frames = refl; are_not_digits = refl; are_other_lengths = refl; are_meaningless = refl; are_several = refl; on_card = refl; are_written = refl }
