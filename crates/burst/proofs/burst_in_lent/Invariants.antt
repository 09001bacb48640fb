use mathlib.Core.Path.{◌≡◌}
use Rattle.machine.specs.Record.{chip_over}
use Rattle.dma.specs.declared.Way.TheVariants.{In}
use Rattle.burst.proofs.Laws.{Underway}
use Rattle.burst.proofs.burst_in_lent.Given as goal

abbrev pub invariant-loop-byte : goal.invariant-loop-byte
invariant-loop-byte l =
    record {
      underway : Underway In l.side (chip_over l.initial.sent.control l.initial.buffer) l.memory (chip_over l.sent.control l.buffer) l.byte-index;
      counted : l.sent.moved ≡ l.byte-index;
    }
