use Prim.Native.Nat.{◌-◌}
use lib.ListN.{length}
use Rattle.session.proofs.Laws.{Underway, state_held}
use Rattle.session.proofs.feed.Given as goal

abbrev pub invariant-loop-i : goal.invariant-loop-i
invariant-loop-i l =
    Underway (state_held l.initial.partial l.initial.held l.initial.buffer) l.input l.initial.output (state_held l.partial l.held l.buffer) l.output l.i l.o

abbrev pub decreases-loop-i : goal.decreases-loop-i
decreases-loop-i l = length l.input - l.i
