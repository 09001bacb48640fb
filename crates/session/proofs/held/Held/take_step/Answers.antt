-- By whether there is a chip, then by whether its record is valid.
use mathlib.Core.Path.{sym, ◌∙◌}
use Rattle.machine.specs.Record.{chip_over}
use Rattle.session.proofs.Turns.{stepped, stays_valid, not_valid, no_chip}
use Rattle.session.proofs.held.Held.take_step.Goals as goal

pub invariant_of-held : goal.invariant_of-held
invariant_of-held c =
    let a = c.args in
    record {
      tested =
          c.if-ok.true ∙ sym (stays_valid (chip_over a.self.control a.buffer.now) a.s _ _ (sym a.self.tested ∙ c.if-ok.true) c.proceed_lent-r.ensures);
    }

pub returns-then-not-present : goal.returns-then-not-present
returns-then-not-present c =
    let a = c.args in
    rw (c.answers.ensures, c.into.ensures, c.if-not-present.true) (no_chip (chip_over a.self.control a.buffer.now) a.s)

pub returns-then-ok : goal.returns-then-ok
returns-then-ok c =
    let a = c.args in
    rw (c.answers-then-ok.ensures, c.if-not-present.false)
    (stepped (chip_over a.self.control a.buffer.now) a.s _ _ (sym a.self.tested ∙ c.if-ok.true) c.proceed_lent-r.ensures)

pub returns : goal.returns
returns c =
    let a = c.args in
    rw (c.answers-2.ensures, c.into-2.ensures, c.if-not-present.false)
    (not_valid (chip_over a.self.control a.buffer.now) a.s (sym a.self.tested ∙ c.if-ok.false))
