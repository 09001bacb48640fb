-- The shift is the mask of that bit, and what a mask leaves lacks its bit.
use native.Mathlib.Nat.{mod-lt}
use lib.Dec.{lit<}
use Rattle.bits.proofs.Laws.{shift, and_not_bit}
use Rattle.bits.proofs.clear_bit.Goals as goal

pub returns : goal.returns
returns c = let h = mod-lt c.args.k (lit< tt) in rw (shift _ h) (and_not_bit _ _ h c.ranges.x.fits)
