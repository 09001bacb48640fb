-- What the code of a line hands back, of what a line does.
use Rattle.line.specs.Readings.{LineAnswer}
use Rattle.std.specs.Prelude.{ℕ, Bool, false, refl, List}
use Rattle.machine.specs.declared.Control.{Control}
use Rattle.machine.specs.Reset.{fresh}
use Rattle.machine.specs.Step.{buffer_of}
use Rattle.machine.specs.Leaves.{Leaves}
use Rattle.machine.specs.Validity.{valid}
use Rattle.line.specs.Unfinished.{blank}
use Rattle.session.specs.declared.Session.{Session}
use Rattle.session.specs.declared.held.Held.{Held}
use Rattle.session.specs.declared.Turn.{Turn}
use Rattle.session.specs.declared.Answered.{Answered}
use Rattle.session.specs.Bench.{Turned, printed}

-- a chip's record, and whether it is valid
abbrev pub held_by : Bool → Control → Held
held_by p c = record { present = p; control = c; ok = valid c; tested = refl }

abbrev pub turn_by : Bool → Control → LineAnswer → Turn
turn_by p c a = record { held = held_by p c; answer = a }

-- all but the buffer, and whether the record is valid
abbrev pub handed : Turned → Turn
handed t = turn_by t.after.present t.after.chip.control t.answer

abbrev pub buffer_after : Turned → List ℕ
buffer_after t = buffer_of t.after.chip

abbrev pub LeavesTurn : Turned → Turn → List ℕ → Type 0
LeavesTurn t r buffer = Leaves (handed t) (buffer_after t) r buffer

-- a session before its first line
abbrev pub unused : Session
unused = record { partial = blank; present = false; control = fresh 0 }

-- a session as a line leaves it; what was read of another line stays
abbrev pub left_by : Session → Turned → Session
left_by s t = record { partial = s.partial; present = t.after.present; control = t.after.chip.control }

-- a whole line, beside the buffer
abbrev pub answered_of : Session → Turned → Answered
answered_of s t = record { before = s; after = left_by s t; answer = t.answer; report = printed t }

abbrev pub LeavesAnswered : Session → Turned → Answered → List ℕ → Type 0
LeavesAnswered s t r buffer = Leaves (answered_of s t) (buffer_after t) r buffer
