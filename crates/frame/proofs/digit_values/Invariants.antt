use Prim.Native.Nat.{ℕ, zero, suc}
use mathlib.Core.List.{List}
use lib.Bits.{bit_or}
use lib.ListN.{set, replicate}
use Rattle.line.specs.Digits.{digit}
use mathlib.Core.Path.{◌≡◌}
use Rattle.frame.proofs.digit_values.Given as goal

-- the table with the first n digits
abbrev pub filled : ℕ → List ℕ
filled zero = replicate 256 16
filled (suc n) = set (set (filled n) (digit n) n) (bit_or (digit n) 0x20) n

abbrev pub invariant-loop-n : goal.invariant-loop-n
invariant-loop-n l = l.values ≡ filled l.n
