-- Each turn goes on from the state of the one before it, where that one went on.
use Rattle.std.proofs.Common.{Ok}
use Rattle.fiobench.specs.declared.Went.TheVariants.{On}
use Rattle.fiobench.specs.Lent.{state_in}
use Rattle.fiobench.specs.Runs.{Turns}
use Rattle.fiobench.proofs.Replay.run.Given as goal

abbrev pub invariant-loop-turns : goal.invariant-loop-turns
invariant-loop-turns g l = Turns l.turns (state_in l.initial.self) (Ok On) (state_in l.self)
