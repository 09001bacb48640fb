use Prim.Native.Nat.{◌-◌}
use mathlib.Core.Path.{◌≡◌}
use mathlib.Core.Bool.{true}
use Rattle.machine.specs.Interrupts.{highest}
use Rattle.side.proofs.Laws.{free, none_from}
use Rattle.side.proofs.search.Given as goal

abbrev pub invariant-loop-k : goal.invariant-loop-k
invariant-loop-k l = (none_from l.k l.held ≡ true) × (highest (free l.flags l.held) (l.k - 1) ≡ highest (free l.flags l.held) 7)
