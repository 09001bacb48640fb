-- A valid record proceeds, and any other is refused.
use mathlib.Core.Path.{refl, sym, ◌∙◌}
use Rattle.machine.proofs.Refused.{proceeded_is, refused_is}
use Rattle.chip.proofs.Laws.{apart}
use Rattle.chip.proofs.step_lent.Goals as goal

pub returns-then-is_valid : goal.returns-then-is_valid
returns-then-is_valid c =
    let h = sym c.is_valid.ensures ∙ c.if-is_valid.true in
    rw proceeded_is at c.proceed_lent.ensures

pub returns : goal.returns
returns c =
    let h = sym c.is_valid.ensures ∙ c.if-is_valid.false in
    rw (refused_is, c.from.ensures) (apart _ refl refl)
