-- T-01's cases as one table: a chip, a burst of it, and what the documents say is there after it, by the looks and sights of the machine's `Worked`.
use Rattle.dma.specs.declared.BurstAnswer.{BurstAnswer}
use Rattle.std.specs.Prelude.{ℕ, cond, List, [], ◌∷◌, ◌++◌, map, eqb, replicate}
use Rattle.machine.specs.declared.Which.{Which}
use Rattle.machine.specs.declared.Which.TheVariants.{One, Two}
use Rattle.machine.specs.declared.Chip.{Chip}
use Rattle.machine.specs.declared.Step.{Step}
use Rattle.machine.specs.declared.Step.TheVariants.{Write, DmaWrite, DmaRead}
use Rattle.machine.specs.declared.Stepped.{Stepped}
use Rattle.machine.specs.Record.{chip, with_place, other}
use Rattle.machine.specs.Reset.{new_chip}
use Rattle.machine.specs.History.{lines, ran}
use Rattle.machine.specs.Computed.{computed}
use Rattle.machine.specs.Worked.{Left, start, control2, buffer, run, pattern_ip, error_ip, full_ip, Sight, ◌is◌, line, seen, to_see, Hold}
use Rattle.dma.specs.declared.Way.{Way}
use Rattle.dma.specs.declared.Way.TheVariants.{In, Out}
use Rattle.dma.specs.Answers.{number, value}
use Rattle.dma.specs.Burst.{begins, while_requested, steps, burst, filled}
use Rattle.dma.specs.Sequences.{memory_after}

-- ---- a row

-- a burst of a chip; then what is to be: the memory that the burst leaves, and what is seen of what else it leaves
pub record Row : Type 0 where
  pub from : Chip
  pub way : Way
  pub side : Which
  pub memory : List ℕ
  pub leaves : List ℕ
  pub sights : List Sight

-- a burst, the line that it prints, the memory that it leaves, and what else is looked at
abbrev pub row : Chip → Way → Which → List ℕ → List Sight → List ℕ → List Sight → Row
row k way w memory p l s = record { from = k; way = way; side = w; memory = memory; leaves = l; sights = p ++ s }

-- a burst that moves nothing: its answer's number, the lines and the count. Memory stays
abbrev pub stays : Chip → Way → Which → List ℕ → ℕ → ℕ → ℕ → Row
stays k way w memory a l c = row k way w memory (line a 0 l c) memory []

-- what a burst leaves
abbrev pub left_by : Stepped BurstAnswer → Left
left_by b = record { number = number b.answer; value = value b.answer; lines = lines b.chip.control; chip = b.chip }

-- what a row shows. To open it opens the machine and the burst
unfoldable pub observed : Row → List (List ℕ)
unfolding begins while_requested steps burst filled computed
observed r = seen r.sights (left_by (burst r.way r.from r.side r.memory)) ∷ memory_after r.way r.from r.side r.memory ∷ []

-- what it is to show
abbrev pub wanted : Row → List (List ℕ)
wanted r = to_see r.sights ∷ r.leaves ∷ []

-- ---- chips. Both sides have one bus, by the pins: 0 Z-BUS Low, 1 Z-BUS High, 2 Non-Z-BUS with B 1

-- a register written: by its number, which is its address with RJA 1 and on a High side; through the pointer of a Non-Z-BUS side
abbrev pub put : ℕ → Which → ℕ → ℕ → List Step
put m w r x = cond (eqb m 2) (Write w 0x01 r ∷ Write w 0x01 x ∷ []) (Write w r x ∷ [])

-- side 1's Control 0: RJA 1, and B
abbrev pub mode : ℕ → ℕ
mode m = cond (eqb m 2) 0x06 0x02

-- Control 3, which side 1 owns: CLEAR 1, and the direction that makes this side the writer
abbrev pub writes : Which → ℕ
writes One = 0x40
writes Two = 0x50

-- both sides live, CLEAR 1, and this side the writer
abbrev pub up : ℕ → Which → List Step
up m v =
    put m One 0x00 0x00 ++ put m One 0x00 (mode m) ++ put m One 0x09 0x01 ++ put m Two 0x00 0x00 ++ put m Two 0x00 0x02 ++ put m One 0x0A (writes v)

-- up with v the writer, which moves bytes in; more steps; then Control 1 of w is x, and of the other side 03, which is REQUEST
abbrev pub made : ℕ → Which → List ℕ → List Step → Which → ℕ → Chip
made m v l ss w x = ran (new_chip m) (up m v ++ map (DmaWrite v) l ++ ss ++ put m (other w) 0x01 0x03 ++ put m w 0x01 x)

-- three bytes in the FIFO
abbrev pub inside : List ℕ
inside = 0x11 ∷ 0x22 ∷ 0x33 ∷ []

-- with side 1 as the writer
abbrev pub holding : List Step → Which → ℕ → Chip
holding ss w x = made 0 One inside ss w x

-- the side that has the role then, and the one that hasn't
abbrev pub right : Way → Which
right In = One
right Out = Two

abbrev pub wrong : Way → Which
wrong way = other (right way)

-- the bit of a side's REQUEST among the lines
abbrev pub asks : Which → ℕ
asks One = 0x02
asks Two = 0x08

-- memory
abbrev pub four : List ℕ
four = 0x44 ∷ 0x22 ∷ 0x66 ∷ 0x77 ∷ []

-- after a burst out that moves all three
abbrev pub three_out : List ℕ
three_out = 0x11 ∷ 0x22 ∷ 0x33 ∷ 0x77 ∷ []

-- 128 bytes, the last of them 55
abbrev pub block : List ℕ
block = replicate 127 0x22 ++ 0x55 ∷ []

-- 4,096 bytes, which begin with it, and 4,097
abbrev pub most : List ℕ
most = block ++ replicate 3968 0x66

abbrev pub too_long : List ℕ
too_long = replicate 4097 0x66

-- ---- on both sides of each bus

-- the side has the role, and its bus makes no difference: DMA on a Z-BUS side follows the direction, which is the way. Into the FIFO while memory remains: each
-- byte at (start + count), and then both REQUESTs are active, the reader's since count > 0. Out of it while REQUEST is active, until the count is 0: start
-- moves on, memory behind the moved bytes keeps its content, and the writer's REQUEST is active
abbrev pub with_role : ℕ → Way → Which → Row
with_role m In w =
    row (made m w inside [] w 0x03) In w four (line 0x00 4 0x0A 7) four
    (buffer 0 is 0x11 ∷ buffer 3 is 0x44 ∷ buffer 4 is 0x22 ∷ buffer 5 is 0x66 ∷ buffer 6 is 0x77 ∷ start is 0 ∷ error_ip w is 0 ∷ [])
with_role m Out w =
    row (made m (other w) inside [] w 0x03) Out w four (line 0x00 3 (asks (other w)) 0) three_out
    (start is 3 ∷ error_ip w is 0 ∷ [])

-- it hasn't: 7, which leaves record and memory, though its REQUEST is active and a Z-BUS side's DMA step would move a byte
abbrev pub without_role : ℕ → Way → Which → Row
without_role m In w = stays (made m (other w) inside [] w 0x03) In w four 0xE7 0x0A 3
without_role m Out w = stays (made m w inside [] w 0x03) Out w four 0xE7 0x0A 3

-- ---- nothing is moved

-- empty memory: none remains; on the wrong side 7 all the same
abbrev pub empty_memory : Way → List Row
empty_memory way =
    stays (holding [] (right way) 0x03) way (right way) [] 0x00 0x0A 3 ∷ stays (holding [] (wrong way) 0x03) way (wrong way) [] 0xE7 0x0A 3 ∷ []

-- REQUEST asks for bits 1-0 of Control 1 both: WAIT mode, and the line disabled. It is asked before the first step
abbrev pub no_request : Way → List Row
no_request way = map (λ x. stays (holding [] (right way) x) way (right way) four 0x00 (asks (wrong way)) 3) (0x01 ∷ 0x02 ∷ [])

-- CLEAR 0, which empties: no REQUEST. The role is by the direction alone
abbrev pub clear_0 : Way → List Row
clear_0 way =
    stays (cleared (right way)) way (right way) four 0x00 0x00 0 ∷ stays (cleared (wrong way)) way (wrong way) four 0xE7 0x00 0 ∷ []
  where
    cleared : Which → Chip
    cleared w = holding (Write One 0x0A 0x00 ∷ []) w 0x03

-- stop on match, and pattern IP is set before (command 4 to the low half of Interrupt Status 1)
abbrev pub stopped_before : Way → List Row
stopped_before way = stays (holding (Write (right way) 0x03 0x08 ∷ []) (right way) 0x0B) way (right way) four 0x00 (asks (wrong way)) 3 ∷ []

-- ---- stop on match

-- Match is 22, Mask 00
abbrev pub matching : Way → ℕ → Chip
matching way x = holding (Write (right way) 0x0D 0x22 ∷ []) (right way) x

-- with bit 3 set, the byte 22 is moved and sets pattern IP of its side, so REQUEST drops: room, or a byte, and memory are left. With bit 3 clear it goes on
abbrev pub stop_on_match : Way → List Row
stop_on_match In =
    row (matching In 0x0B) In One four (line 0x00 2 0x08 5) four (pattern_ip One is 1 ∷ pattern_ip Two is 0 ∷ buffer 4 is 0x22 ∷ buffer 5 is 0x00 ∷ [])
    ∷ row (matching In 0x03) In One four (line 0x00 4 0x0A 7) four (pattern_ip One is 1 ∷ []) ∷ []
stop_on_match Out =
    row (matching Out 0x0B) Out Two four (line 0x00 2 0x02 1) (0x11 ∷ 0x22 ∷ 0x66 ∷ 0x77 ∷ []) (pattern_ip One is 0 ∷ pattern_ip Two is 1 ∷ [])
    ∷ row (matching Out 0x03) Out Two four (line 0x00 3 0x02 0) three_out (pattern_ip Two is 1 ∷ []) ∷ []

-- ---- start on byte count

-- the reader's run is 1, since count 3 is its compare when Control 1 is written; it is kept at 2 and 1 and falls at 0, and REQUEST with it
abbrev pub run_falls : Row
run_falls =
    row (holding (Write Two 0x08 0x03 ∷ []) Two 0x07) Out Two four (line 0x00 3 0x02 0) three_out (run Two is 0 ∷ [])

-- with compare 4 it is 0: no REQUEST, though count > 0
abbrev pub run_not_begun : Row
run_not_begun = stays (holding (Write Two 0x08 0x04 ∷ []) Two 0x07) Out Two four 0x00 0x02 3

-- the writer, with two bytes of room
abbrev pub nearly_full : ℕ → Chip
nearly_full x = made 0 One (replicate 126 0x11) [] One x

-- its Control 1 with start on byte count or without: at 128 the writer's run falls, and count < 128 no longer holds. Full on both, and no error
abbrev pub last_two : ℕ → Row
last_two x =
    row (nearly_full x) In One (0x55 ∷ four) (line 0x00 2 0x08 128) (0x55 ∷ four)
    (buffer 126 is 0x55 ∷ buffer 127 is 0x44 ∷ buffer 0 is 0x11 ∷ run One is 0 ∷ full_ip One is 1 ∷ full_ip Two is 1 ∷ error_ip One is 0 ∷ [])

-- it fell at 128, and is kept at 127, since compare is 0: no REQUEST, though count < 128
abbrev pub run_not_again : Row
run_not_again = stays (ran (nearly_full 0x07) (DmaWrite One 0x11 ∷ DmaWrite One 0x11 ∷ DmaRead Two ∷ [])) In One four 0x00 0x08 127

abbrev pub start_on_count : List Row
start_on_count = run_falls ∷ run_not_begun ∷ last_two 0x07 ∷ run_not_again ∷ []

-- ---- room

-- 128 bytes of room and as many of memory
abbrev pub all_room : Row
all_room =
    row (made 0 One [] [] One 0x03) In One block (line 0x00 128 0x08 128) block
    (buffer 0 is 0x22 ∷ buffer 127 is 0x55 ∷ error_ip One is 0 ∷ [])

-- and of memory the most that is allowed. A byte came and went before, so start is 1: the 128th goes to place (1 + 127) modulo 128
abbrev pub most_memory : Row
most_memory =
    row (made 0 One (0x11 ∷ []) (DmaRead Two ∷ []) One 0x03) In One most (line 0x00 128 0x08 128) most
    (start is 1 ∷ buffer 127 is 0x22 ∷ buffer 0 is 0x55 ∷ buffer 1 is 0x22 ∷ error_ip One is 0 ∷ [])

-- the other side need not be live: it is not connected
abbrev pub alone : Row
alone =
    row (ran (new_chip 0) (Write One 0x00 0x00 ∷ Write One 0x00 0x02 ∷ Write One 0x0A 0x40 ∷ Write One 0x01 0x03 ∷ [])) In One four (line 0x00 4 0x02 4) four []

abbrev pub room : List Row
room = last_two 0x03 ∷ all_room ∷ most_memory ∷ alone ∷ []

-- ---- the order: 1, Floating, 6, 7

-- 6 where all else is fine, and where the side hasn't the role
abbrev pub six : Way → List Row
six way = map (λ w. stays (holding [] w 0x03) way w too_long 0xE6 0x0A 3) (right way ∷ wrong way ∷ [])

-- Floating, with too much memory and without the role: side 1 in reset, side 2 not connected, side 2 connected and in reset
abbrev pub floating : List Row
floating =
    stays (new_chip 0) Out One too_long 0x02 0x00 0 ∷ stays (new_chip 0) In Two too_long 0x02 0x00 0
    ∷ row (ran (new_chip 0) (Write One 0x00 0x00 ∷ Write One 0x12 0x01 ∷ [])) In Two too_long (line 0x02 0 0x00 0) too_long (control2 is 0x01 ∷ []) ∷ []

-- 1, with start 128, on a side that is not connected, with too much memory and without the role
abbrev pub one : Row
one = stays (chip (with_place 128 0 (new_chip 0).control) (new_chip 0).payload) In Two too_long 0xE1 0x00 0

-- ---- the table

abbrev pub each_side : (Way → Which → Row) → List Row
each_side f = f In One ∷ f In Two ∷ f Out One ∷ f Out Two ∷ []

abbrev pub each_bus : (ℕ → Way → Which → Row) → List Row
each_bus f = each_side (f 0) ++ each_side (f 1) ++ each_side (f 2)

abbrev pub each_way : (Way → List Row) → List Row
each_way f = f In ++ f Out

-- by groups
unfoldable pub table : List (List Row)
table =
    each_bus with_role ∷ each_bus without_role
    ∷ each_way empty_memory ∷ each_way no_request ∷ each_way clear_0 ∷ each_way stopped_before
    ∷ each_way stop_on_match ∷ start_on_count ∷ room ∷ (one ∷ floating) ∷ each_way six ∷ []

-- T-01's cases hold of the definitions: each row of each group shows what it is to show
abbrev pub Cases : Type 0
Cases = Hold (map observed) (map wanted) table
