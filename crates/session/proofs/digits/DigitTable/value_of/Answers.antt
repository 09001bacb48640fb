-- Character by character: the values are put one behind the other, and what is gathered of them tells whether each was a hex digit.
use native.Mathlib.Omega.{arith}
use lib.Seq.{take_all}
use Rattle.session.proofs.Sixes.{none_gathered, one_more}
use Rattle.session.proofs.digits.DigitTable.value_of.Goals as goal

pub loop-b-init : goal.loop-b-init
loop-b-init c = none_gathered _

pub loop-b-preserved : goal.loop-b-preserved
loop-b-preserved c = rw c.from.ensures (one_more _ _ _ _ _ c.loop-b-test.true c.value-d.ensures c.loop-b.invariant)

pub returns : goal.returns
returns c =
    let g = c.loop-b.invariant in
    let all = take_all c.loop-b.b-index c.args.digits.now (omega arith) in
    rw (c.then_some.ensures, g.values, g.hex, all)
