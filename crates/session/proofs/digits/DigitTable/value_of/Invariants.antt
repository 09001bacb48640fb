use Rattle.session.proofs.Sixes.{Gathered}
use Rattle.session.proofs.digits.DigitTable.value_of.Given as goal

abbrev pub invariant-loop-b : goal.invariant-loop-b
invariant-loop-b l = Gathered l.digits l.value l.seen l.b-index
