-- What a line is: a frame, or its first fault. What it is answered: as its frame is, or that fault.
use Rattle.std.specs.Prelude.{Result}
use Rattle.machine.specs.declared.Answer.{Answer}
use Rattle.line.specs.declared.Frame.{Frame}
use Rattle.line.specs.declared.Fault.{Fault}

abbrev pub Reading : Type 0
Reading = Result Frame Fault

abbrev pub LineAnswer : Type 0
LineAnswer = Result Answer Fault
