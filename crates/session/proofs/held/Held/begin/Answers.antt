-- A start as the machine has it, and its record valid.
use mathlib.Core.Path.{sym, ◌∙◌}
use Rattle.machine.specs.Record.{chip_over}
use Rattle.session.specs.Bench.{bench}
use Rattle.session.proofs.Turns.{began, started_valid}
use Rattle.session.proofs.held.Held.begin.Goals as goal

pub invariant_of-held : goal.invariant_of-held
invariant_of-held c = record { tested = sym (started_valid _ _ (sym c.start.ensures.0 ∙ c.in-Ok.is)) }

pub returns-in-Ok : goal.returns-in-Ok
returns-in-Ok c =
    let a = c.args in
    rw c.answers.ensures (began (bench a.self.present (chip_over a.self.control a.buffer.now)) a.pins _ c.start.ensures.0 _ c.in-Ok.is)

pub returns-in-Err : goal.returns-in-Err
returns-in-Err c =
    let a = c.args in
    rw (c.answers-in-Err.ensures, c.into.ensures)
    (began (bench a.self.present (chip_over a.self.control a.buffer.now)) a.pins _ c.start.ensures.0 _ c.in-Err.is)
