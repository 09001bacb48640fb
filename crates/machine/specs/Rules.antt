-- Rows for sentences of document 01 that none of its own cases shows, in the language of `Worked`: what is done, what is looked at, and what the sentence
-- says is there.
use Rattle.std.specs.Prelude.{ℕ, Bool, true, false, ◌≡◌}
use mathlib.Core.List.{List, [], ◌∷◌, ◌++◌, map, flat_map}
use Rattle.machine.specs.declared.Which.{Which}
use Rattle.machine.specs.declared.Which.TheVariants.{One, Two}
use Rattle.machine.specs.declared.Step.{Step}
use Rattle.machine.specs.declared.Step.TheVariants.{Write, Read, DmaWrite, DmaRead, Acknowledge, Reset}
use Rattle.machine.specs.Fifo.{offered}
use Rattle.machine.specs.Events.{message_source, direction_source, empty_source}
use Rattle.machine.specs.Reset.{new_chip}
use Rattle.machine.specs.History.{ran}
use Rattle.machine.specs.Worked.{answer, byte_in, lines, count, control0, control3, run, ip, Sight, ◌is◌, Turn, ◌then◌, Case, from, Worked, awake, byte}
use Rattle.machine.specs.Worked.{filled, through}

-- ---- what rows share

-- Byte with this value
abbrev pub gives : ℕ → List Sight
gives x = answer is 0x01 ∷ byte_in is x ∷ []

-- a read that gives this byte
abbrev pub reads : Which → ℕ → ℕ → Turn
reads w a x = Read w a then gives x

-- each of these addresses reads 00
abbrev pub zero_at : Which → List ℕ → List Turn
zero_at w = map (λ a. reads w a 0x00)

-- a write, and what the same address then reads
abbrev pub back : Which → ℕ → ℕ → ℕ → List Turn
back w a x y = Write w a x then [] ∷ reads w a y ∷ []

-- side 1's Interrupt Status 1 written, and what it then reads
abbrev pub status1 : ℕ → ℕ → List Turn
status1 x y = back One 0x03 x y

-- ---- in reset. With RJA 0 an address is twice the register's number

-- other register writes do nothing, nor does one of Control 0 with bit 0 set: all is 00 once the Reset bit is cleared
abbrev pub in_reset_writes : Case
in_reset_writes =
    from 0
    (Write One 0x02 0x4F ∷ Write One 0x04 0xC0 ∷ Write One 0x06 0xCC ∷ Write One 0x08 0xCC ∷ Write One 0x0A 0xCC ∷ Write One 0x0C 0xFF ∷ Write One 0x10 0x05
    ∷ Write One 0x12 0x03 ∷ Write One 0x14 0x50 ∷ Write One 0x16 0x55 ∷ Write One 0x1A 0x41 ∷ Write One 0x1C 0xFF ∷ [])
    (Write One 0x00 0x03 then (control0 One is 0x01 ∷ [])
    ∷ Write One 0x00 0x00 then (control0 One is 0x00 ∷ control3 is 0x00 ∷ [])
    ∷ zero_at One (0x02 ∷ 0x04 ∷ 0x06 ∷ 0x08 ∷ 0x0A ∷ 0x0C ∷ 0x10 ∷ 0x12 ∷ 0x14 ∷ 0x16 ∷ 0x1A ∷ 0x1C ∷ []))

-- Control 0 reads 01 and the rest 00, where Byte Count is 1, Message In 55 and a byte 41 is in front; without side effects: the message still waits
abbrev pub in_reset_reads : Case
in_reset_reads =
    from 0
    (Write One 0x00 0x00 ∷ Write One 0x00 0x02 ∷ Write One 0x09 0x01 ∷ Write One 0x0A 0x40 ∷ Write One 0x0B 0x55 ∷ byte 0x41 ∷ [])
    (reads Two 0x00 0x01 ∷ zero_at Two (0x0E ∷ 0x14 ∷ 0x18 ∷ 0x1E ∷ []) ++ (reads One 0x01 0x20 ∷ reads One 0x07 0x01 ∷ []))

-- ---- reset

-- side 2's reset zeroes what side 2 owns, touches nothing else and raises no event
abbrev pub reset_two : Case
reset_two =
    from 0
    (awake ++ (byte 0x41 ∷ Write Two 0x00 0x92 ∷ Write Two 0x08 0x01 ∷ Write Two 0x01 0x47 ∷ Write Two 0x06 0xFF ∷ Write Two 0x0D 0x41 ∷ Write Two 0x0E 0xFF
    ∷ Write Two 0x0B 0x55 ∷ Write Two 0x05 0x0C ∷ Write Two 0x05 0x08 ∷ Write Two 0x05 0x04 ∷ []))
    (Write One 0x09 0x03 then (run Two is 1 ∷ ip message_source One is 1 ∷ [])
    ∷ Reset Two then
    (control0 Two is 0x01 ∷ run Two is 0 ∷ count is 1 ∷ control3 is 0x40 ∷ ip message_source One is 1 ∷ ip direction_source One is 0
    ∷ ip empty_source One is 0 ∷ [])
    ∷ reads One 0x09 0x03
    ∷ reads One 0x0C 0x00
    ∷ Write Two 0x00 0x00 then (control0 Two is 0x00 ∷ [])
    ∷ zero_at Two (0x02 ∷ 0x0A ∷ 0x0C ∷ 0x10 ∷ 0x16 ∷ 0x1A ∷ 0x1C ∷ []))

-- ---- registers

-- a register that keeps every bit written
abbrev pub keeps : Which → ℕ → List Turn
keeps w a = back w a 0xA5 0xA5 ++ back w a 0x5A 0x5A

-- all else reads back, but for the zero bits. Control 0: every bit but Reset and B, which side 2 holds at zero. Vector with MIE 0, Compare, Message Out, Match
-- and Mask: every bit. Control 1 has message waiting in bit 5. Control 2 on side 2 reads 00 and ignores writes
abbrev pub reads_back : Case
reads_back =
    from 0 awake
    (back One 0x00 0xF2 0xF2 ++ back One 0x00 0x02 0x02 ++ back Two 0x00 0xFE 0xF2 ++ back Two 0x00 0x02 0x02
    ++ flat_map (keeps One) plain ++ flat_map (keeps Two) plain ++ back One 0x01 0xDF 0x6F ++ back Two 0x01 0xDF 0x6F
    ++ back One 0x09 0xFF 0x03 ++ back Two 0x09 0x00 0x00 ++ (reads One 0x09 0x03 ∷ []))
  where
    plain : List ℕ
    plain = 0x06 ∷ 0x08 ∷ 0x0B ∷ 0x0D ∷ 0x0E ∷ []

-- IUS, IE, IP in bits 7-5, by command: 6 set IE, 4 set IP, 2 set IUS, 0 nothing, 1 clear IP and IUS; then 5 clear IP, 7 clear IE, 3 clear IUS
abbrev pub commands : Case
commands =
    from 0 awake
    (status1 0xC0 0x40 ++ status1 0x80 0x60 ++ status1 0x40 0xE0 ++ status1 0x00 0xE0 ++ status1 0x20 0x40
    ++ status1 0x80 0x60 ++ status1 0x40 0xE0 ++ status1 0xA0 0xC0 ++ status1 0xE0 0x80 ++ status1 0x60 0x00 ++ status1 0x00 0x00)

-- Byte Count with freeze 1 is the count that the side itself held
abbrev pub frozen_own : Case
frozen_own =
    from 0 (awake ++ (Write One 0x01 0x40 ∷ byte 0x41 ∷ Write Two 0x01 0x40 ∷ []))
    (reads One 0x07 0x00 ∷ reads Two 0x07 0x01 ∷ [])

-- REQUEST asks for bits 1-0 of Control 1 both
abbrev pub line_enable : Case
line_enable =
    from 0 awake
    (Write One 0x01 0x02 then (lines is 0x00 ∷ []) ∷ Write One 0x01 0x01 then (lines is 0x00 ∷ []) ∷ Write One 0x01 0x03 then (lines is 0x02 ∷ []) ∷ [])

-- ---- the run flag

-- afresh by a Control 3 write that leaves CLEAR at 0, for both, after emptying: the writer's was 0 at 128, the reader's 1 since 128 is its compare
abbrev pub cleared_afresh : Case
cleared_afresh =
    from 0 (filled 126 ++ (Write Two 0x08 0x80 ∷ []))
    (byte 0x00 then (count is 128 ∷ run One is 0 ∷ run Two is 1 ∷ [])
    ∷ Write One 0x0A 0x00 then (count is 0 ∷ run One is 1 ∷ run Two is 0 ∷ [])
    ∷ [])

-- afresh by a Control 1 write of the reader: with count 1, where compare is 1 and where it is 2. A compare write leaves run. REQUEST goes by it
abbrev pub reader_afresh : Case
reader_afresh =
    from 0 (awake ++ (byte 0x41 ∷ []))
    (Write Two 0x08 0x01 then (count is 1 ∷ run Two is 0 ∷ [])
    ∷ Write Two 0x01 0x07 then (run Two is 1 ∷ lines is 0x08 ∷ [])
    ∷ Write Two 0x08 0x02 then (run Two is 1 ∷ lines is 0x08 ∷ [])
    ∷ Write Two 0x01 0x07 then (run Two is 0 ∷ lines is 0x00 ∷ [])
    ∷ [])

-- afresh by a Control 3 write that changes the direction: side 2 is the writer then, and side 1 the reader, with count 1 and compare 1
abbrev pub turned_afresh : Case
turned_afresh =
    from 0 (awake ++ (byte 0x41 ∷ Write One 0x08 0x01 ∷ []))
    (Write One 0x0A 0x40 then (run One is 0 ∷ run Two is 0 ∷ [])
    ∷ Write One 0x0A 0x50 then (count is 1 ∷ run One is 1 ∷ run Two is 1 ∷ [])
    ∷ [])

-- ---- the table

unfoldable pub rules : List Case
rules = in_reset_writes ∷ in_reset_reads ∷ reset_two ∷ reads_back ∷ commands ∷ frozen_own ∷ line_enable ∷ cleared_afresh ∷ reader_afresh ∷ turned_afresh ∷ []

-- these rows hold of the definitions
abbrev pub Rules : Type 0
Rules = Worked rules

-- ---- a byte is offered, taken or not, by a DMA write and by a write on a connected side that names the Data Buffer, directly or through the pointer

-- after these steps from a start with these pins: steps that offer a byte, and steps that do not
pub record Offering : Type 0 where
  pub pins : ℕ
  pub before : List Step
  pub by : List Step
  pub not_by : List Step

abbrev pub offering : ℕ → List Step → List Step → List Step → Offering
offering m b l n = record { pins = m; before = b; by = l; not_by = n }

-- both sides live, then neither, and side 2 unconnected; on a High side; in State 1 with the pointer at the Data Buffer and at its neighbour, then in State 0
unfoldable pub offerings : List Offering
offerings =
    offering 0 awake (byte 0x41 ∷ Write Two 0x0F 0x41 ∷ DmaWrite One 0x41 ∷ DmaWrite Two 0x41 ∷ [])
    (Write One 0x0E 0x41 ∷ Write One 0x00 0x41 ∷ Read One 0x0F ∷ Read Two 0x0F ∷ DmaRead One ∷ DmaRead Two ∷ Acknowledge One ∷ Reset One ∷ [])
    ∷ offering 0 [] (Write One 0x1E 0x41 ∷ DmaWrite One 0x41 ∷ DmaWrite Two 0x41 ∷ []) (Write One 0x0F 0x41 ∷ Write Two 0x1E 0x41 ∷ [])
    ∷ offering 1 [] (Write One 0x0F 0x41 ∷ []) (Write One 0x1F 0x41 ∷ [])
    ∷ offering 2 (Write One 0x01 0x0F ∷ []) (Write One 0x00 0x41 ∷ Write One 0x01 0x41 ∷ []) (Write One 0x02 0x41 ∷ [])
    ∷ offering 2 (Write One 0x01 0x0E ∷ []) (Write One 0x00 0x41 ∷ []) (Write One 0x01 0x41 ∷ [])
    ∷ offering 2 (through 0x0F 0x41) (Write One 0x00 0x41 ∷ []) (Write One 0x01 0x41 ∷ []) ∷ []

-- which of the steps offer a byte
abbrev pub offers : Offering → List Step → List Bool
offers o = map (offered (ran (new_chip o.pins) o.before).control)

pub record Offers : Type 0 where
  pub these : map (λ o. offers o o.by) offerings ≡ map (λ o. map (λ s. true) o.by) offerings
  pub no_other : map (λ o. offers o o.not_by) offerings ≡ map (λ o. map (λ s. false) o.not_by) offerings
