-- Each turn goes on from the state of the one before it, where that one went on.
use Rattle.std.proofs.Common.{refl, rules}
use Rattle.fiobench.specs.Runs.{Turns}
use Rattle.fiobench.proofs.Laws.{one_more}
use Rattle.fiobench.proofs.Replay.run.Goals as goal

pub loop-turns-init : goal.loop-turns-init
unfolding Turns
loop-turns-init g c = (refl, refl)

pub returns-in_default-clause-turns : goal.returns-in_default-clause-turns
returns-in_default-clause-turns g c = one_more _ _ _ _ _ _ _ _ refl c.loop-turns.invariant c.turn.ensures

pub loop-turns-preserved : goal.loop-turns-preserved
loop-turns-preserved g c = one_more _ _ _ _ _ _ _ _ (search rules) c.loop-turns.invariant c.turn.ensures
