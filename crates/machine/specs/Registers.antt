-- Registers: what each of the sixteen reads and what a write to it does, on a live side and in reset.
use Rattle.std.specs.Prelude.{ℕ, ◌^◌, Bool, true, false, cond, not, ◌&&◌, ◌||◌, eqb, leb}
use Rattle.std.specs.Bool.{beq}
use Rattle.std.specs.Int.Bits.{bit_or, bit_xor}
use Rattle.bits.specs.Bits.{bit, place, field, set_bit, clear_bit}
use Rattle.machine.specs.declared.Which.{Which}
use Rattle.machine.specs.declared.Which.TheVariants.{One, Two}
use Rattle.machine.specs.declared.Side.{Side}
use Rattle.machine.specs.declared.Control.{Control}
use Rattle.machine.specs.Record.{side_of, other, is_one, names, with_side, with_sides, with_control0, with_control1, with_control2, with_control3, with_vector}
use Rattle.machine.specs.Record.{with_compare, with_pattern, with_mask, with_message, with_waiting, with_ip}
use Rattle.machine.specs.Addresses.{control0_reg, control1_reg, status0_reg, status1_reg, status2_reg, status3_reg, vector_reg, byte_count_reg, compare_reg}
use Rattle.machine.specs.Addresses.{control2_reg, control3_reg, message_out_reg, message_in_reg, match_reg, mask_reg}
use Rattle.machine.specs.Fifo.{clear}
use Rattle.machine.specs.Events.{message_source, direction_source, pattern_source, status_source, error_source, full_source, empty_source, no_source, source}
use Rattle.machine.specs.Events.{raised}
use Rattle.machine.specs.Interrupts.{status, commands, vector_read}
use Rattle.machine.specs.Request.{afresh, both_afresh}
use Rattle.machine.specs.Reset.{emptied}

-- ---- Control 0 and 1

-- side 2 holds bits 3-2 at zero
unfoldable pub kept0 : Which → ℕ → ℕ
kept0 One x = x
kept0 Two x = clear_bit 2 (clear_bit 3 x)

unfoldable pub wrote0 : Control → Which → ℕ → Control
wrote0 c w x = with_side w (with_control0 (kept0 w x) (side_of c w)) c

-- bits 7, 5 and 4 ignore what is written
unfoldable pub kept1 : ℕ → ℕ
kept1 x = clear_bit 7 (clear_bit 5 (clear_bit 4 x))

-- the count is held when bit 6 goes from 0 to 1
unfoldable pub frozen_by : Control → Which → ℕ → ℕ
frozen_by c w x = cond (bit 6 x && not (bit 6 (side_of c w).control1)) c.count (side_of c w).frozen

-- a Control 1 write sets that side's run afresh
unfoldable pub wrote1 : Control → Which → ℕ → Control
wrote1 c w x = with_side w (with_control1 (kept1 x) (frozen_by c w x) (afresh c w) (side_of c w)) c

-- Control 1 reads back, with message waiting in bit 5
unfoldable pub read1 : Side → ℕ
read1 s = cond s.waiting (set_bit 5 s.control1) s.control1

-- Byte Count reads the count, or with freeze 1 the count held
unfoldable pub byte_count : Control → Which → ℕ
byte_count c w = cond (bit 6 (side_of c w).control1) (side_of c w).frozen c.count

-- ---- Control 2 and 3

-- Control 2 on side 2 reads 00 and ignores writes; bits 7-2 are zero
unfoldable pub wrote2 : Control → Which → ℕ → Control
wrote2 c One x = with_control2 (field 2 0 x) c
wrote2 c Two x = c

unfoldable pub read2 : Control → Which → ℕ
read2 c One = c.control2
read2 c Two = 0

-- side 2 reads and writes bit 4 inverted
unfoldable pub seen3 : Which → ℕ → ℕ
seen3 One x = x
seen3 Two x = bit_xor x (2 ^ 4)

-- owner 0 is side 1: bit k names w as an owner
unfoldable pub owns : Control → Which → ℕ → Bool
owns c w k = names w (bit k c.control3)

-- bit k as it is written if w may, else as it stood
unfoldable pub chosen : Bool → ℕ → ℕ → ℕ → ℕ
chosen may k x old = cond may (place k x) (place k old)

-- only side 1 writes bits 7 and 5; bit 6 or 4 is written only by its owner as it stood before the write
unfoldable pub next3 : Control → Which → ℕ → ℕ
next3 c w x =
    bit_or (chosen (is_one w) 7 x c.control3)
    (bit_or (chosen (owns c w 7) 6 x c.control3)
    (bit_or (chosen (is_one w) 5 x c.control3) (chosen (owns c w 5) 4 x c.control3)))

-- the direction of two values of Control 3 differs
unfoldable pub turned : ℕ → ℕ → Bool
turned old x = not (beq (bit 4 old) (bit 4 x))

-- both sides get the direction event when bit 4 changes
unfoldable pub told : Bool → Control → Control
told change c =
    with_sides (raised c One (source direction_source change)) (raised c Two (source direction_source change)) c

-- a write that leaves CLEAR at 0 sets start and count to 0
unfoldable pub drained : Control → Control
drained c = cond (clear c) c (emptied c)

-- one that changes the direction or leaves CLEAR at 0 sets run afresh on both sides, after emptying
unfoldable pub rerun : Bool → Control → Control
rerun change c = cond (change || not (clear c)) (both_afresh c) c

-- Control 3 at the value x
unfoldable pub set3 : Control → ℕ → Control
set3 c x = rerun (turned c.control3 x) (drained (told (turned c.control3 x) (with_control3 x c)))

unfoldable pub wrote3 : Control → Which → ℕ → Control
wrote3 c w x = set3 c (next3 c w (seen3 w x))

-- ---- messages

-- a write of Message Out sets the writer's waiting flag, and is a message event for the receiver
unfoldable pub sent : Control → Which → ℕ → Control
sent c w x =
    with_side (other w) (raised c (other w) (source message_source true)) (with_side w (with_message x true (side_of c w)) c)

-- reading Message In clears this IP and the waiting flag
unfoldable pub received : Control → Which → Control
received c w =
    with_side (other w) (with_waiting false (side_of c (other w)))
    (with_side w (with_ip (clear_bit message_source (side_of c w).ip) (side_of c w)) c)

-- ---- Interrupt Status 0-3

abbrev pub is_status : ℕ → Bool
is_status n = leb status0_reg n && leb n status3_reg

-- the sources in the halves of each, by the register's number
abbrev pub high_source : ℕ → ℕ
high_source n = cond (eqb n status0_reg) message_source (cond (eqb n status1_reg) direction_source (cond (eqb n status2_reg) status_source full_source))

abbrev pub low_source : ℕ → ℕ
low_source n = cond (eqb n status0_reg) no_source (cond (eqb n status1_reg) pattern_source (cond (eqb n status2_reg) error_source empty_source))

-- a write is commands to them
unfoldable pub wrote_status : Control → Which → ℕ → ℕ → Control
wrote_status c w n x = with_side w (commands (high_source n) (low_source n) x (side_of c w)) c

-- ---- the sixteen

-- what the register numbered n reads on a live side
unfoldable pub reads : Control → Which → ℕ → ℕ
reads c w n =
    cond (eqb n control0_reg) (side_of c w).control0
    (cond (eqb n control1_reg) (read1 (side_of c w))
    (cond (is_status n) (status (high_source n) (low_source n) (side_of c w))
    (cond (eqb n vector_reg) (vector_read (side_of c w))
    (cond (eqb n byte_count_reg) (byte_count c w)
    (cond (eqb n compare_reg) (side_of c w).compare
    (cond (eqb n control2_reg) (read2 c w)
    (cond (eqb n control3_reg) (seen3 w c.control3)
    (cond (eqb n message_out_reg) (side_of c w).message
    (cond (eqb n message_in_reg) (side_of c (other w)).message
    (cond (eqb n match_reg) (side_of c w).pattern
    (cond (eqb n mask_reg) (side_of c w).mask 0)))))))))))

-- what reading it does: Message In is received, the rest stays
unfoldable pub after_read : Control → Which → ℕ → Control
after_read c w n = cond (eqb n message_in_reg) (received c w) c

-- what writing x to the register numbered n does on a live side. Byte Count and Message In ignore writes
unfoldable pub wrote : Control → Which → ℕ → ℕ → Control
wrote c w n x =
    cond (eqb n control0_reg) (wrote0 c w x)
    (cond (eqb n control1_reg) (wrote1 c w x)
    (cond (is_status n) (wrote_status c w n x)
    (cond (eqb n vector_reg) (with_side w (with_vector x (side_of c w)) c)
    (cond (eqb n compare_reg) (with_side w (with_compare x (side_of c w)) c)
    (cond (eqb n control2_reg) (wrote2 c w x)
    (cond (eqb n control3_reg) (wrote3 c w x)
    (cond (eqb n message_out_reg) (sent c w x)
    (cond (eqb n match_reg) (with_side w (with_pattern x (side_of c w)) c)
    (cond (eqb n mask_reg) (with_side w (with_mask x (side_of c w)) c) c)))))))))

-- ---- in reset

-- only a Control 0 write with bit 0 clear acts, and it clears that bit only
unfoldable pub released : Control → Which → ℕ → ℕ → Control
released c w n x = cond (eqb n control0_reg && not (bit 0 x)) (with_side w (with_control0 (clear_bit 0 (side_of c w).control0) (side_of c w)) c) c

-- Control 0 reads 01 and the rest 00
unfoldable pub reads_in_reset : ℕ → ℕ
reads_in_reset n = cond (eqb n control0_reg) 1 0
