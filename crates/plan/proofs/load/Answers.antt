-- On a live side the register's byte and what reading it does.
use Rattle.machine.specs.Step.{loading}
use Rattle.plan.proofs.load.Goals as goal

pub returns : goal.returns
unfolding loading
returns c = rw (c.keep-2.ensures, c.after_read.ensures, c.read_register-byte.ensures, ← c.is_in_reset.ensures, c.if-is_in_reset.false)
