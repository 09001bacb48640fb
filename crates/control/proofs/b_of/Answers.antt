-- A masked field, moved down, is the field.
use Rattle.bits.proofs.Laws.{field_of}
use Rattle.machine.specs.Modes.{b_of}
use Rattle.control.proofs.b_of.Goals as goal

pub returns : goal.returns
unfolding b_of
returns c = field_of 2 2 _
