-- The table's entry.
use Rattle.line.proofs.Digits.{value_of_lem}
use Rattle.session.proofs.digits.DigitTable.value.Goals as goal

pub returns : goal.returns
returns c = rw (c.from.ensures, c.args.self.now.whole) (value_of_lem _ c.ranges.b.fits)
