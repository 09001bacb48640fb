-- The remainder is the field from bit 0 or 1 up, as RJA says.
use native.Mathlib.Nat.{div-one}
use Rattle.bits.specs.Bits.{field}
use Rattle.machine.specs.Addresses.{low}
use Rattle.machine.proofs.Register.of_low.Goals as goal

pub returns-then-rja : goal.returns-then-rja
unfolding low field
returns-then-rja c = rw (c.if-rja.true, div-one c.args.address)

pub returns : goal.returns
unfolding low field
returns c = rw c.if-rja.false
