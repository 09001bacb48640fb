-- A step, in stages: what it asks for, what is planned for that, the end of the step, and the plan carried out on the payload.
use Rattle.std.specs.Prelude.{ℕ, ◌%◌, Bool, true, false, cond, not, ◌&&◌, List, get_or, set, eqb, Some, None}
use Rattle.bits.specs.Bits.{bit, field, matches}
use Rattle.machine.specs.declared.Which.{Which}
use Rattle.machine.specs.declared.Control.{Control}
use Rattle.machine.specs.declared.Payload.{Payload}
use Rattle.machine.specs.declared.Chip.{Chip}
use Rattle.machine.specs.declared.Step.{Step}
use Rattle.machine.specs.declared.Step.TheVariants.{Write, Read, DmaWrite, DmaRead, Acknowledge, Reset}
use Rattle.machine.specs.declared.Answer.{Answer}
use Rattle.machine.specs.declared.Answer.TheVariants.{Done, Byte, Floating, Waiting, Refused}
use Rattle.machine.specs.declared.Action.{Action}
use Rattle.machine.specs.declared.Action.TheVariants.{Offer, Take, Store, Load, Aim, Grant, Renew, Float, Refuse}
use Rattle.machine.specs.declared.Effect.{Effect}
use Rattle.machine.specs.declared.Effect.TheVariants.{Keep, Wipe, Place}
use Rattle.machine.specs.declared.Reply.{Reply}
use Rattle.machine.specs.declared.Reply.TheVariants.{Says, Front}
use Rattle.machine.specs.declared.Plan.{Plan}
use Rattle.machine.specs.declared.Stepped.{Stepped}
use Rattle.machine.specs.Record.{side_of, with_side, with_pointer, with_state1, with_buffer, chip}
use Rattle.machine.specs.Apart.{on_byte, on_move}
use Rattle.machine.specs.Modes.{connected, live, in_reset, bus_of, is_z_bus}
use Rattle.machine.specs.Addresses.{control0_reg, is_data, target, aims, closes, Target}
use Rattle.machine.specs.Fifo.{writer, reader, accepted, given, waits}
use Rattle.machine.specs.Events.{error_source, source, raised}
use Rattle.machine.specs.Interrupts.{interrupt, acknowledged, served, vector_answer}
use Rattle.machine.specs.Reset.{reset, wiped, zero_payload}
use Rattle.machine.specs.Moves.{stored_at, after_accepted, after_given}
use Rattle.machine.specs.Registers.{reads, after_read, wrote, released, reads_in_reset}
use Rattle.machine.specs.Validity.{valid}

-- ---- what a step asks for

abbrev pub writing : Which → ℕ → Target → Action
writing w x (Some r) = cond (is_data r) (Offer false w) (Store w r x)
writing w x None = Refuse 2

abbrev pub reading : Which → Target → Action
reading w (Some r) = cond (is_data r) (Take false w) (Load w r)
reading w None = Refuse 2

-- DMA on a Z-BUS side follows the direction; on a Non-Z-BUS side the step's own way counts
unfoldable pub goes_in : Control → Which → Bool → Bool
goes_in c w own = cond (is_z_bus (bus_of c w)) (writer c w) own

unfoldable pub by_dma : Control → Which → Bool → Action
by_dma c w own = cond (live c w) (cond (goes_in c w own) (Offer true w) (Take true w)) Float

-- a step on an unconnected side is answered Floating, and so are an acknowledge and DMA on a side that isn't live, and an acknowledge with INT inactive
unfoldable pub action : Control → Step → Action
action c (Write w a x) = cond (connected c w) (cond (aims c w a) (Aim w (field 4 0 x)) (writing w x (target c w a))) Float
action c (Read w a) = cond (connected c w) (reading w (target c w a)) Float
action c (DmaWrite w x) = by_dma c w true
action c (DmaRead w) = by_dma c w false
action c (Acknowledge w) = cond (interrupt c w) (Grant w) Float
action c (Reset w) = cond (connected c w) (Renew w) Float

-- the byte that a step carries; a DMA read carries 00
abbrev pub carries : Step → ℕ
carries s = on_byte s (λ make x. x) 0

abbrev pub side_in : Step → Which
side_in (Write w a x) = w
side_in (Read w a) = w
side_in (DmaWrite w x) = w
side_in (DmaRead w) = w
side_in (Acknowledge w) = w
side_in (Reset w) = w

-- ---- what is planned for it

abbrev pub plan3 : Control → Effect → Reply → Plan
plan3 c e r = record { next = c; effect = e; reply = r }

-- the buffer is kept, and an answer is given
abbrev pub quiet : Control → Answer → Plan
quiet c a = plan3 c Keep (Says a)

-- the side that tried gets an error event, and a read gives 00
unfoldable pub failed : Control → Which → Answer → Plan
failed c w a = quiet (with_side w (raised c w (source error_source true)) c) a

-- a byte offered to the FIFO. `matched`: it matches the pattern of the side that offers it
unfoldable pub offering : Control → Bool → Which → Bool → Plan
offering c dma w matched =
    cond (in_reset c w) (quiet c Done)
    (cond (not dma && writer c w && waits c w) (quiet c Waiting)
    (cond (accepted c w) (plan3 (after_accepted c w matched) (Place (stored_at c)) (Says Done))
    (failed c w Done)))

-- a byte asked of the FIFO. `matched`: the one in front matches the pattern of the side that asks
unfoldable pub taking : Control → Bool → Which → Bool → Plan
taking c dma w matched =
    cond (in_reset c w) (quiet c (Byte 0))
    (cond (not dma && reader c w && waits c w) (quiet c Waiting)
    (cond (given c w) (plan3 (after_given c w matched) Keep Front)
    (failed c w (Byte 0))))

-- a reset: side 1's also wipes the buffer
unfoldable pub renewed : Control → Which → Plan
renewed c w = plan3 (reset c w) (wiped w) (Says Done)

-- a register written: on a live side, Control 0 with bit 0 set resets
unfoldable pub storing : Control → Which → ℕ → ℕ → Plan
storing c w n x =
    cond (in_reset c w) (quiet (released c w n x) Done)
    (cond (eqb n control0_reg && bit 0 x) (renewed c w) (quiet (wrote c w n x) Done))

-- a register read, in reset without side effects
unfoldable pub loading : Control → Which → ℕ → Plan
loading c w n = cond (in_reset c w) (quiet c (Byte (reads_in_reset n))) (quiet (after_read c w n) (Byte (reads c w n)))

-- the pointer stored, and State 1 entered
unfoldable pub aimed : Control → Which → ℕ → Control
aimed c w p = with_side w (with_pointer p true (side_of c w)) c

unfoldable pub granted : Control → Which → Plan
granted c w = quiet (with_side w (served (acknowledged (side_of c w)) (side_of c w)) c) (vector_answer (side_of c w) (acknowledged (side_of c w)))

-- `matched` is the one way in which payload reaches the record
unfoldable pub plan : Control → Action → Bool → Plan
plan c (Offer dma w) matched = offering c dma w matched
plan c (Take dma w) matched = taking c dma w matched
plan c (Store w r x) matched = storing c w r.number x
plan c (Load w r) matched = loading c w r.number
plan c (Aim w p) matched = quiet (aimed c w p) Done
plan c (Grant w) matched = granted c w
plan c (Renew w) matched = renewed c w
plan c Float matched = quiet c Floating
plan c (Refuse n) matched = quiet c (Refused n)

-- a byte against a side's Match and Mask
unfoldable pub fits : Control → Which → ℕ → Bool
fits c w x = matches x (side_of c w).pattern (side_of c w).mask

-- whether the byte in hand, the one offered or the one in front, matches the pattern of the side that moves it
unfoldable pub verdict : Control → Action → ℕ → ℕ → Bool
verdict c a x front = on_move a (λ dma w. fits c w x) (λ dma w. fits c w front) false

-- ---- the end of the step

abbrev pub is_waiting : Reply → Bool
is_waiting (Says Done) = false
is_waiting (Says (Byte b)) = false
is_waiting (Says Floating) = false
is_waiting (Says Waiting) = true
is_waiting (Says (Refused n)) = false
is_waiting Front = false

-- a write in State 1 returns its side to State 0, after all else; at Waiting nothing at all changes
unfoldable pub ended : Bool → Which → Plan → Plan
ended back w p =
    cond (back && not (is_waiting p.reply)) (plan3 (with_side w (with_state1 false (side_of p.next w)) p.next) p.effect p.reply) p

-- a step of a valid record, by the byte in front
unfoldable pub planned : Control → Step → ℕ → Plan
planned c s front = ended (closes c s) (side_in s) (plan c (action c s) (verdict c (action c s) (carries s) front))

-- refusal 1 comes first
unfoldable pub decided : Control → Step → ℕ → Plan
decided c s front = cond (valid c) (planned c s front) (quiet c (Refused 1))

-- ---- carried out on the payload

abbrev pub on_payload : Effect → ℕ → Payload → Payload
on_payload Keep x p = p
on_payload Wipe x p = zero_payload
on_payload (Place i) x p = with_buffer (set p.buffer (i % 128) x) p

abbrev pub answered : Reply → ℕ → Answer
answered (Says a) front = a
answered Front front = Byte front

-- the byte at start
abbrev pub front_of : Control → Payload → ℕ
front_of c p = get_or p.buffer (c.start % 128) 0

abbrev pub carried : Plan → ℕ → ℕ → Payload → Stepped Answer
carried p x front m = record { chip = chip p.next (on_payload p.effect x m); answer = answered p.reply front }

abbrev pub buffer_of : Chip → List ℕ
buffer_of k = k.payload.buffer

-- a step without refusal 1's test: of a valid record it is the step
unfoldable pub proceeded : Chip → Step → Stepped Answer
proceeded k s =
    let front : ℕ = front_of k.control k.payload in
    carried (planned k.control s front) (carries s) front k.payload

-- a step of any record
unfoldable pub step : Chip → Step → Stepped Answer
step k s =
    let front : ℕ = front_of k.control k.payload in
    carried (decided k.control s front) (carries s) front k.payload
