-- The remainder is the field from bit 0 up.
use native.Mathlib.Nat.{div-one}
use Rattle.bits.specs.Bits.{field}
use Rattle.machine.specs.Addresses.{high}
use Rattle.machine.proofs.Register.of_high.Goals as goal

pub returns : goal.returns
unfolding high field
returns c = rw (div-one c.args.address)
