-- What is printed for a line has no part of the buffer but what its answer gives. Assumes nothing.
use mathlib.Core.Path.{refl}
use Rattle.session.specs.Bench.{printed, lines_of, count_of}
use Rattle.whole.specs.Report.{FromControl}

pub from_control : FromControl
unfolding printed lines_of count_of
from_control bytes t = refl
