-- What is printed for a line is read off its answer and the control fields.
use Rattle.std.specs.Prelude.{◌≡◌}
use Rattle.machine.specs.declared.Payload.{Payload}
use Rattle.session.specs.Bench.{Turned, turn, bench, printed}

-- the same answer, a chip or none alike, the same control fields, and other bytes in the buffer
abbrev pub beside : Payload → Turned → Turned
beside bytes t = turn t.answer (bench t.after.present (record { control = t.after.chip.control; payload = bytes }))

-- whatever the buffer holds, the same line is printed
abbrev pub FromControl : Type 0
FromControl = (bytes : Payload) (t : Turned) → printed (beside bytes t) ≡ printed t
