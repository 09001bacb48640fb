-- Each feed goes on where the one before it stopped, and takes a byte or more.
use Rattle.std.proofs.Common.{length}
use Rattle.fiobench.specs.Lent.{state_in}
use Rattle.fiobench.proofs.Laws.{FedTo}
use Rattle.fiobench.proofs.Replay.pass.Given as goal

abbrev pub invariant-loop-rest : goal.invariant-loop-rest
invariant-loop-rest g l = FedTo (state_in l.initial.self) l.piece (state_in l.self) l.rest

abbrev pub decreases-loop-rest : goal.decreases-loop-rest
decreases-loop-rest g l = length l.rest
