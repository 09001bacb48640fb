-- The table holds the digit of each number below 16.
use Prim.Native.Nat.{◌%◌}
use mathlib.Core.Path.{◌≡◌, refl}
use mathlib.Core.Bool.{true}
use native.Mathlib.Nat.{mod-lt}
use lib.Dec.{eqb, lit<}
use lib.ListN.{get_or}
use borrow.Author.Tests.{eqb-true}
use Rattle.bits.specs.Bits.{every}
use Rattle.bits.proofs.Laws.{at}
use Rattle.line.specs.Digits.{digit}
use Rattle.frame.specs.declared.TheConstants.{DIGITS}
use Rattle.frame.proofs.hex_digit.Goals as goal

tests : every (λ n. eqb (get_or DIGITS n 0) (digit n)) 16 ≡ true
unfolding every digit
tests = refl

pub returns : goal.returns
returns c = eqb-true _ _ (at (λ n. eqb (get_or DIGITS n 0) (digit n)) 16 tests (c.args.n % 16) (mod-lt c.args.n (lit< tt)))
