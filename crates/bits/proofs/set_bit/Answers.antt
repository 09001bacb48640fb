-- The shift is the mask of that bit, and a mask sets its bit.
use native.Mathlib.Nat.{mod-lt}
use lib.Dec.{lit<}
use Rattle.bits.proofs.Laws.{shift, or_bit}
use Rattle.bits.proofs.set_bit.Goals as goal

pub returns : goal.returns
returns c = rw (shift _ (mod-lt c.args.k (lit< tt))) (or_bit _ _)
