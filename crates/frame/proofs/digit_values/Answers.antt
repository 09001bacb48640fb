-- The table with all sixteen digits, by computation.
use mathlib.Core.Path.{◌≡◌, refl, ap, ◌∙◌}
use native.Mathlib.Omega.{arith}
use Rattle.line.specs.Digits.{is_hex, nibble, values_from, digit, digit_values}
use Rattle.frame.proofs.digit_values.Invariants.{filled}
use Rattle.frame.proofs.digit_values.Goals as goal

all : filled 16 ≡ digit_values
unfolding digit values_from is_hex nibble
all = refl

pub returns : goal.returns
returns c = let e : c.loop-n.n ≡ 16 = omega arith in c.loop-n.invariant ∙ ap filled e ∙ all
