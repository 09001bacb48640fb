-- A history by computation: to open it opens the machine.
use Rattle.std.specs.Prelude.{List}
use Rattle.bits.specs.Bits
use Rattle.machine.specs.declared.Chip.{Chip}
use Rattle.machine.specs.declared.Step.{Step}
use Rattle.machine.specs.Modes
use Rattle.machine.specs.Addresses
use Rattle.machine.specs.Fifo
use Rattle.machine.specs.Events
use Rattle.machine.specs.Interrupts
use Rattle.machine.specs.Request
use Rattle.machine.specs.Reset
use Rattle.machine.specs.Moves
use Rattle.machine.specs.Registers
use Rattle.machine.specs.Validity
use Rattle.machine.specs.Step
use Rattle.machine.specs.History
use Rattle.machine.specs.History.{Entry, history}

-- what a list of steps does, from any record
unfoldable pub computed : Chip → List Step → List Entry
unfolding
    Bits.bit_of Bits.bit Bits.place Bits.field Bits.set_bit Bits.clear_bit Bits.every Bits.zeros Bits.numbered Bits.matches
    Modes.modes Modes.b_of Modes.bus_of Modes.connected Modes.in_reset Modes.live
    Addresses.low Addresses.high Addresses.rja Addresses.behind_cd Addresses.target_on Addresses.target Addresses.aims Addresses.closes
    Fifo.writer Fifo.clear Fifo.accepted Fifo.given Fifo.at_end Fifo.waits
    Events.raised_ip
    Interrupts.half Interrupts.status Interrupts.command Interrupts.commanded Interrupts.commands Interrupts.highest Interrupts.any_source Interrupts.pending
    Interrupts.due Interrupts.mie Interrupts.interrupt Interrupts.served Interrupts.vector_of Interrupts.vector_answer Interrupts.vector_read
    Request.run_after Request.afresh Request.stopped Request.going Request.request
    Reset.emptied Reset.reset Reset.started
    Moves.events Moves.moved_side Moves.moved Moves.after_accepted Moves.after_given
    Registers.kept0 Registers.wrote0 Registers.kept1 Registers.frozen_by Registers.wrote1 Registers.read1 Registers.byte_count Registers.wrote2 Registers.read2
    Registers.seen3 Registers.owns Registers.chosen Registers.next3 Registers.turned Registers.told Registers.drained Registers.rerun Registers.set3
    Registers.wrote3 Registers.sent Registers.received Registers.wrote_status Registers.reads Registers.after_read Registers.wrote Registers.released
    Registers.reads_in_reset
    Validity.zero_side Validity.zero_shared Validity.alone_in_reset Validity.valid_side Validity.run_fits Validity.reset_fits Validity.in_range Validity.clear_fits
    Validity.valid
    Step.goes_in Step.by_dma Step.action Step.failed Step.offering Step.taking Step.renewed Step.storing Step.loading Step.aimed Step.granted Step.plan Step.fits
    Step.verdict Step.ended Step.planned Step.decided Step.step
    History.lines History.history History.ran
computed = history
