-- Three bytes as the value of six digits. Assumes nothing.
use Prim.Native.Nat.{ℕ, ◌+◌, ◌*◌, ◌/◌, ◌%◌, ◌<◌}
use mathlib.Core.Path.{◌≡◌}
use mathlib.Core.Bool.{false}
use mathlib.Core.List.{[], ◌∷◌}
use mir.Syntax.{w32}
use native.Mathlib.Omega.{arith}
use Rattle.std.specs.Int.{from_be_bytes}
use Rattle.line.specs.Frames.{meaning}
use Rattle.line.specs.Unfinished.{partial, reading_of}

pub three_bytes : (k a d : ℕ) → a < 256 → d < 256 → reading_of (partial (from_be_bytes w32 (0 ∷ k ∷ a ∷ d ∷ [])) 6 false) ≡ meaning k a d
unfolding reading_of
three_bytes k a d ha hd =
    let value : from_be_bytes w32 (0 ∷ k ∷ a ∷ d ∷ []) ≡ k * 0x10000 + a * 0x100 + d = omega arith in
    let kind : (k * 0x10000 + a * 0x100 + d) / 0x10000 ≡ k = omega arith in
    let address : (k * 0x10000 + a * 0x100 + d) / 0x100 % 0x100 ≡ a = omega arith in
    let byte : (k * 0x10000 + a * 0x100 + d) % 0x100 ≡ d = omega arith in
    rw (value, kind, address, byte)
