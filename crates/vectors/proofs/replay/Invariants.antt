-- What came keeps its length, and each feed takes a byte or more.
use Rattle.std.proofs.Common.{◌≡◌, ◌≤◌, length}
use Rattle.vectors.proofs.replay.Given as goal

abbrev pub invariant-loop-rest : goal.invariant-loop-rest
invariant-loop-rest l = (l.done ≤ length l.came) × (length l.came ≡ length l.initial.came)

abbrev pub decreases-loop-rest : goal.decreases-loop-rest
decreases-loop-rest l = length l.rest
