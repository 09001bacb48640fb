-- `cc` takes the plan of the step from whatever the code calls it.
use Rattle.machine.specs.Step.{decided}
use Rattle.plan.proofs.decide.Goals as goal

pub returns-then-is_valid : goal.returns-then-is_valid
unfolding decided
returns-then-is_valid c = simp (← c.is_valid.ensures, c.if-is_valid.true) (cc)

pub returns : goal.returns
unfolding decided
returns c = simp (← c.is_valid.ensures, c.if-is_valid.false) (cc)
