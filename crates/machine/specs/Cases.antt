-- The cases (a) to (l), the slips and the session of document 01 as one table, in the language of `Worked`: what is done, what is looked at, and what that
-- document says is there.
use Rattle.std.specs.Prelude.{List, [], ◌∷◌, ◌++◌}
use Rattle.machine.specs.declared.Which.TheVariants.{One, Two}
use Rattle.machine.specs.declared.Step.TheVariants.{Write, Read, DmaWrite, DmaRead, Acknowledge}
use Rattle.machine.specs.Worked.{answer, byte_in, count, start, control3, buffer, control0, pointer, state, run, pattern_ip, error_ip, empty_ip, fitting}
use Rattle.machine.specs.Worked.{low_register, ◌is◌, line, ◌then◌, Case, begins, from, Worked, awake, byte, filled, armed, masked, through, stuck}

-- ---- the cases

-- (a) count 127, a byte: 128, Byte Count 80
abbrev pub case_a : Case
case_a =
    from 0 (filled 125)
    (byte 0x00 then (count is 127 ∷ [])
    ∷ byte 0x55 then (answer is 0x00 ∷ count is 128 ∷ buffer 127 is 0x55 ∷ [])
    ∷ Read One 0x07 then (answer is 0x01 ∷ byte_in is 0x80 ∷ [])
    ∷ [])

-- (b) count 128, a DMA byte: error, 128
abbrev pub case_b : Case
case_b =
    from 0 (filled 126)
    (byte 0x00 then (count is 128 ∷ error_ip One is 0 ∷ [])
    ∷ DmaWrite One 0x55 then (answer is 0x00 ∷ error_ip One is 1 ∷ count is 128 ∷ buffer 0 is 0x41 ∷ [])
    ∷ [])

-- (c) Low, RJA 0, address 1E: register 15, which takes the byte; address 14 is Control 3
abbrev pub case_c : Case
case_c =
    from 0 (Write One 0x00 0x00 ∷ Write One 0x14 0x40 ∷ [])
    (Write One 0x1E 0x41 then (low_register One 0x1E is 15 ∷ count is 1 ∷ buffer 0 is 0x41 ∷ []) ∷ [])

-- (d) Non-Z-BUS, address 2: refusal 2, and the pointer and state stay, which address 1 changes
abbrev pub case_d : Case
case_d =
    from 2 (through 0x00 0x00)
    (Write One 0x02 0x0F then (answer is 0xE2 ∷ byte_in is 0x00 ∷ pointer One is 0 ∷ state One is 0 ∷ [])
    ∷ Read One 0x02 then (answer is 0xE2 ∷ byte_in is 0x00 ∷ [])
    ∷ Write One 0x01 0x0F then (answer is 0x00 ∷ pointer One is 15 ∷ state One is 1 ∷ [])
    ∷ [])

-- (e) pins 3: refusal 3, and no chip to look at
abbrev pub case_e : Case
case_e = begins 3 (0xE3 ∷ 0x00 ∷ 0x00 ∷ 0x00 ∷ []) [] []

-- (f) vector FF, number 1: F3
abbrev pub case_f : Case
case_f = from 0 (armed 0xFF 0x05) (Acknowledge One then (answer is 0x01 ∷ byte_in is 0xF3 ∷ []) ∷ [])

-- (g) vector 51, number 5: 5B
abbrev pub case_g : Case
case_g = from 0 (armed 0x51 0x03) (Acknowledge One then (answer is 0x01 ∷ byte_in is 0x5B ∷ []) ∷ [])

-- (h) match 41, mask 20, byte 61: pattern. It and 41 are all that fit
abbrev pub case_h : Case
case_h = from 0 (masked 0x20) (byte 0x61 then (count is 1 ∷ pattern_ip One is 1 ∷ fitting One is 2 ∷ []) ∷ [])

-- (i) same, byte 42: none
abbrev pub case_i : Case
case_i = from 0 (masked 0x20) (byte 0x42 then (count is 1 ∷ pattern_ip One is 0 ∷ []) ∷ [])

-- (j) mask FF: every byte. Both 42 and BE, which is 41 with every bit wrong; pattern IP is cleared in between
abbrev pub case_j : Case
case_j =
    from 0 (masked 0xFF)
    (byte 0x42 then (count is 1 ∷ pattern_ip One is 1 ∷ fitting One is 256 ∷ [])
    ∷ Write One 0x03 0x0A then (pattern_ip One is 0 ∷ [])
    ∷ byte 0xBE then (count is 2 ∷ pattern_ip One is 1 ∷ [])
    ∷ [])

-- (k) acknowledge on a High side: Floating, with all that gives F3 in (f). IE and IP read back, and no IUS
abbrev pub case_k : Case
case_k =
    from 1 (armed 0xFF 0x05)
    (Acknowledge One then (answer is 0x02 ∷ byte_in is 0x00 ∷ control0 One is 0x92 ∷ [])
    ∷ Read One 0x05 then (answer is 0x01 ∷ byte_in is 0x06 ∷ [])
    ∷ [])

-- (l) reader, run 0, compare 0: a moved byte leaves run 0, where the writer's becomes 1. It makes the count 0: empty on both
abbrev pub case_l : Case
case_l =
    from 0 awake
    (byte 0x41 then (count is 1 ∷ run One is 0 ∷ run Two is 0 ∷ empty_ip One is 0 ∷ empty_ip Two is 0 ∷ [])
    ∷ DmaRead Two then (count is 0 ∷ run One is 1 ∷ run Two is 0 ∷ empty_ip One is 1 ∷ empty_ip Two is 1 ∷ [])
    ∷ [])

-- ---- the slips: what a machine that has one of them does not show

-- the count in seven bits: a full buffer would be an empty one
abbrev pub slip_seven_bits : Case
slip_seven_bits =
    from 0 (filled 127)
    (DmaRead Two then (answer is 0x01 ∷ byte_in is 0x41 ∷ count is 127 ∷ error_ip Two is 0 ∷ []) ∷ [])

-- Control 0 programmed by the write that clears Reset: the first such write does not, the second does
abbrev pub slip_release : Case
slip_release =
    from 0 []
    (Write One 0x00 0x92 then (answer is 0x00 ∷ control0 One is 0x00 ∷ [])
    ∷ Write One 0x00 0x92 then (answer is 0x00 ∷ control0 One is 0x92 ∷ [])
    ∷ [])

-- Z-BUS DMA obeying the step's own way: a DMA write on the reader takes a byte, a DMA read on the writer stores 00 where 41 stood
abbrev pub slip_own_way : Case
slip_own_way =
    from 0 (awake ++ (byte 0x41 ∷ []))
    (DmaWrite Two 0x99 then (answer is 0x01 ∷ byte_in is 0x41 ∷ count is 0 ∷ start is 1 ∷ error_ip Two is 0 ∷ [])
    ∷ Write One 0x0A 0x00 then (start is 0 ∷ buffer 0 is 0x41 ∷ [])
    ∷ Write One 0x0A 0x40 then (control3 is 0x40 ∷ [])
    ∷ DmaRead One then (answer is 0x00 ∷ byte_in is 0x00 ∷ count is 1 ∷ buffer 0 is 0x00 ∷ error_ip One is 0 ∷ [])
    ∷ [])

-- Waiting that still returns State 1 to State 0
abbrev pub slip_waiting_state : Case
slip_waiting_state =
    from 2 stuck
    (Write One 0x01 0x55 then (answer is 0x03 ∷ byte_in is 0x00 ∷ state One is 1 ∷ pointer One is 15 ∷ count is 128 ∷ error_ip One is 0 ∷ []) ∷ [])

-- CLEAR judged by the owner bit of the same write: side 1 clears as it gives CLEAR away, and does not set it as it takes it back
abbrev pub slip_clear_owner : Case
slip_clear_owner =
    from 0 (awake ++ (byte 0x41 ∷ []))
    (Write One 0x0A 0x80 then (control3 is 0x80 ∷ count is 0 ∷ [])
    ∷ Write One 0x0A 0x40 then (control3 is 0x00 ∷ [])
    ∷ Write One 0x0A 0x40 then (control3 is 0x40 ∷ [])
    ∷ [])

-- ---- the session: each input line with its output

abbrev pub session : Case
session =
    begins 0 (0x00 ∷ 0x00 ∷ 0x00 ∷ 0x00 ∷ []) []
    (Write One 0x00 0x00 then line 0x00 0x00 0x00 0x00
    ∷ Write One 0x00 0x02 then line 0x00 0x00 0x00 0x00
    ∷ Write One 0x09 0x01 then line 0x00 0x00 0x00 0x00
    ∷ Read Two 0x00 then line 0x01 0x01 0x00 0x00
    ∷ Write Two 0x00 0x00 then line 0x00 0x00 0x00 0x00
    ∷ Write Two 0x00 0x02 then line 0x00 0x00 0x00 0x00
    ∷ Write One 0x0A 0x40 then line 0x00 0x00 0x00 0x00
    ∷ Write One 0x01 0x03 then line 0x00 0x00 0x02 0x00
    ∷ Write Two 0x01 0x03 then line 0x00 0x00 0x02 0x00
    ∷ DmaWrite One 0x41 then line 0x00 0x00 0x0A 0x01
    ∷ DmaRead Two then line 0x01 0x41 0x02 0x00
    ∷ Read Two 0x0F then line 0x01 0x00 0x02 0x00
    ∷ Read Two 0x04 then line 0x01 0x22 0x02 0x00
    ∷ [])

-- ---- the table

unfoldable pub table : List Case
table =
    case_a ∷ case_b ∷ case_c ∷ case_d ∷ case_e ∷ case_f ∷ case_g ∷ case_h ∷ case_i ∷ case_j ∷ case_k ∷ case_l
    ∷ slip_seven_bits ∷ slip_release ∷ slip_own_way ∷ slip_waiting_state ∷ slip_clear_owner ∷ session ∷ []

-- document 01's cases hold of the definitions
abbrev pub Cases : Type 0
Cases = Worked table
