-- By what the line is.
use Rattle.std.specs.Prelude.{Err}
use Rattle.machine.specs.Record.{chip_over}
use Rattle.session.specs.Bench.{bench}
use Rattle.session.proofs.Turns.{turn_known, no_frame}
use Rattle.session.proofs.held.Held.turn.Goals as goal

pub returns-in-Err : goal.returns-in-Err
returns-in-Err c =
    let a = c.args in
    rw (c.in-Err.is, turn_known a.self (Err c.in-Err.f)) (no_frame (bench a.self.present (chip_over a.self.control a.buffer.now)) _)

pub returns-in-Ok-Begin : goal.returns-in-Ok-Begin
returns-in-Ok-Begin c = let f = c.in-Ok-Begin in let e = rw f.is at f.field-0-is in rw (f.is, e) c.begin.ensures

pub returns-in-Ok-Does : goal.returns-in-Ok-Does
returns-in-Ok-Does c = let f = c.in-Ok-Does in let e = rw f.is at f.field-0-is in rw (f.is, e) c.take_step.ensures
