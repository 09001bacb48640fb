use mathlib.Core.Path.{◌≡◌}
use Rattle.machine.specs.Record.{chip_over}
use Rattle.dma.specs.declared.Way.TheVariants.{Out}
use Rattle.burst.proofs.Laws.{Underway, Filling}
use Rattle.burst.proofs.burst_out_lent.Given as goal

abbrev pub invariant-loop-place : goal.invariant-loop-place
invariant-loop-place l =
    record {
      underway : Underway Out l.side (chip_over l.initial.got.control l.initial.buffer) l.initial.memory (chip_over l.got.control l.buffer) l.place-index;
      filling : Filling l.side (chip_over l.initial.got.control l.initial.buffer) l.initial.memory (chip_over l.got.control l.buffer) l.memory l.place-index;
      counted : l.got.moved ≡ l.place-index;
    }
