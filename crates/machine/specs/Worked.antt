-- The language of worked cases. A case begins at a start and does steps; behind a step stands what is to be seen of what it leaves:
--     from 0 awake
--     (byte 0x41 then (count is 1 ∷ run One is 0 ∷ [])
--     ∷ DmaRead Two then (answer is 0x01 ∷ byte_in is 0x41 ∷ count is 0 ∷ [])
--     ∷ [])
-- `from` takes the pins, the steps that go before, and the turns. A turn is a step, `then`, and its sights; a sight is a look, `is`, and the number that
-- is to be seen. A look is a function of what is left, so another field of the record is another look, one line here. A new case goes into the table of
-- `Cases` or `Rules`, and one more `refl` into that table's law in proofs: all of it computes. Rows of another form, as those of bursts, have their own
-- `observed` and `wanted` beside the same looks and sights; `Hold` is of any rows.
use Rattle.std.specs.Prelude.{ℕ, zero, suc, ◌+◌, Bool, cond, List, [], ◌∷◌, ◌++◌, map, ◌≡◌, get_or, replicate, Ok, Err}
use Rattle.bits.specs.Bits.{bit_of}
use Rattle.machine.specs.declared.Which.{Which}
use Rattle.machine.specs.declared.Which.TheVariants.{One, Two}
use Rattle.machine.specs.declared.Side.{Side}
use Rattle.machine.specs.declared.Chip.{Chip}
use Rattle.machine.specs.declared.Step.{Step}
use Rattle.machine.specs.declared.Step.TheVariants.{Write}
use Rattle.machine.specs.Record.{side_of}
use Rattle.machine.specs.Answers.{number, value, start_answer}
use Rattle.machine.specs.Addresses.{low, rja}
use Rattle.machine.specs.Events.{pattern_source, error_source, empty_source, full_source}
use Rattle.machine.specs.Reset.{new_chip, started, Started}
use Rattle.machine.specs.Step.{buffer_of, fits}
use Rattle.machine.specs.History
use Rattle.machine.specs.History.{Entry, ran}
use Rattle.machine.specs.Computed.{computed}

-- ---- what is looked at

-- what a step or a burst leaves: its answer's number and the value beside it, the lines, and the chip
pub record Left : Type 0 where
  pub number : ℕ
  pub value : ℕ
  pub lines : ℕ
  pub chip : Chip

-- a number that is seen there
abbrev pub Look : Type 0
Look = Left → ℕ

-- the answer's number, its value, and the lines
abbrev pub answer : Look
answer l = l.number

abbrev pub byte_in : Look
byte_in l = l.value

abbrev pub lines : Look
lines l = l.lines

-- of the record: the count, the start place, Control 2 and Control 3
abbrev pub count : Look
count l = l.chip.control.count

abbrev pub start : Look
start l = l.chip.control.start

abbrev pub control2 : Look
control2 l = l.chip.control.control2

abbrev pub control3 : Look
control3 l = l.chip.control.control3

-- a buffer byte, by its place
abbrev pub buffer : ℕ → Look
buffer i l = get_or (buffer_of l.chip) i 0

-- 1 for true
abbrev pub flag : Bool → ℕ
flag b = cond b 1 0

-- of a side: Control 0, the pointer, the state, the run flag
abbrev pub side_left : Which → Left → Side
side_left w l = side_of l.chip.control w

abbrev pub control0 : Which → Look
control0 w l = (side_left w l).control0

abbrev pub pointer : Which → Look
pointer w l = (side_left w l).pointer

abbrev pub state : Which → Look
state w l = flag (side_left w l).state1

abbrev pub run : Which → Look
run w l = flag (side_left w l).run

-- the IP of a source on a side
abbrev pub ip : ℕ → Which → Look
ip k w l = bit_of k (side_left w l).ip

abbrev pub pattern_ip : Which → Look
pattern_ip = ip pattern_source

abbrev pub error_ip : Which → Look
error_ip = ip error_source

abbrev pub empty_ip : Which → Look
empty_ip = ip empty_source

abbrev pub full_ip : Which → Look
full_ip = ip full_source

-- how many numbers below n there are that p holds of
unfoldable pub how_many : (ℕ → Bool) → ℕ → ℕ
how_many p zero = 0
how_many p (suc n) = flag (p n) + how_many p n

-- how many of the 256 bytes fit a side's Match and Mask
abbrev pub fitting : Which → Look
fitting w l = how_many (fits l.chip.control w) 256

-- the number of the register that an address names on a side that is Z-BUS Low
abbrev pub low_register : Which → ℕ → Look
low_register w a l = (low (rja (side_left w l)) a).number

-- ---- a sight

-- a look, and the number that is to be seen
pub record Sight : Type 0 where
  pub look : Look
  pub wants : ℕ

infix 70 ◌is◌
abbrev pub ◌is◌ : Look → ℕ → Sight
l is n = record { look = l; wants = n }

-- the four fields of a printed line
abbrev pub line : ℕ → ℕ → ℕ → ℕ → List Sight
line a b l n = answer is a ∷ byte_in is b ∷ lines is l ∷ count is n ∷ []

-- what is seen of what is left, and what is to be seen
abbrev pub seen : List Sight → Left → List ℕ
seen ss l = map (λ s. s.look l) ss

abbrev pub to_see : List Sight → List ℕ
to_see = map (λ s. s.wants)

-- each row of a table shows what it is to show
abbrev pub Hold : {R S : Type 0} → (R → S) → (R → S) → List R → Type 0
Hold shows wants [] = Unit {0}
Hold shows wants (r ∷ rs) = (shows r ≡ wants r) × Hold shows wants rs

-- ---- a case

-- a step, and what is to be seen after it
pub record Turn : Type 0 where
  pub does : Step
  pub sights : List Sight

infix 68 ◌then◌
abbrev pub ◌then◌ : Step → List Sight → Turn
s then l = record { does = s; sights = l }

-- the pins of a start and the line that it prints; the steps that go before; the turns
pub record Case : Type 0 where
  pub pins : ℕ
  pub prints : List ℕ
  pub before : List Step
  pub turns : List Turn

-- from a start that prints this line
abbrev pub begins : ℕ → List ℕ → List Step → List Turn → Case
begins m l b ts = record { pins = m; prints = l; before = b; turns = ts }

-- from an accepted start
abbrev pub from : ℕ → List Step → List Turn → Case
from m = begins m (0x00 ∷ 0x00 ∷ 0x00 ∷ 0x00 ∷ [])

-- what a step leaves
abbrev pub left_by : Entry → Left
left_by e = record { number = number e.answer; value = value e.answer; lines = e.after_lines; chip = e.after }

-- what is seen of a history, turn by turn
unfoldable pub views : List Entry → List Turn → List (List ℕ)
views [] ts = []
views (e ∷ es) [] = []
views (e ∷ es) (t ∷ ts) = seen t.sights (left_by e) ∷ views es ts

-- what is seen of turns, from a chip
abbrev pub views_from : Chip → List Turn → List (List ℕ)
views_from k ts = views (computed k (map (λ t. t.does) ts)) ts

-- the line of a start: its answer, and the lines and the count where there is a chip
abbrev pub printed : Started → List ℕ
printed (Ok c) = number (start_answer (Ok c)) ∷ value (start_answer (Ok c)) ∷ History.lines c ∷ c.count ∷ []
printed (Err r) = number (start_answer (Err r)) ∷ value (start_answer (Err r)) ∷ 0 ∷ 0 ∷ []

-- what is seen of a case after a start: its line, and the turns where there is a chip
unfoldable pub seen_from : Case → Started → List (List ℕ)
seen_from x (Ok c) = printed (Ok c) ∷ views_from (ran (new_chip x.pins) x.before) x.turns
seen_from x (Err r) = printed (Err r) ∷ []

-- what is seen of a case. To open it opens the machine
unfoldable pub observed : Case → List (List ℕ)
unfolding how_many views seen_from computed
observed x = seen_from x (started x.pins)

-- what is to be seen of it
abbrev pub wanted : Case → List (List ℕ)
wanted x = x.prints ∷ map (λ t. to_see t.sights) x.turns

-- each case of a table
abbrev pub Worked : List Case → Type 0
Worked = Hold observed wanted

-- ---- what cases begin with. Registers go by their numbers, which are their addresses with RJA 1 and on a High side

-- both sides live with RJA 1, and CLEAR 1: side 1 writes and side 2 reads
abbrev pub awake : List Step
awake = Write One 0x00 0x00 ∷ Write One 0x00 0x02 ∷ Write One 0x09 0x01 ∷ Write Two 0x00 0x00 ∷ Write Two 0x00 0x02 ∷ Write One 0x0A 0x40 ∷ []

-- a byte for side 1's Data Buffer
abbrev pub byte : ℕ → Step
byte x = Write One 0x0F x

-- awake, then the byte 41, then n bytes 00
abbrev pub filled : ℕ → List Step
filled n = awake ++ (byte 0x41 ∷ replicate n (byte 0x00))

-- side 1 with MIE, VIS and a vector, and with IE and IP in the low half of an Interrupt Status
abbrev pub armed : ℕ → ℕ → List Step
armed vector r = awake ++ (Write One 0x00 0x92 ∷ Write One 0x06 vector ∷ Write One r 0x0C ∷ Write One r 0x08 ∷ [])

-- side 1 with Match 41 and a mask
abbrev pub masked : ℕ → List Step
masked m = awake ++ (Write One 0x0D 0x41 ∷ Write One 0x0E m ∷ [])

-- a register written through the pointer of a Non-Z-BUS side 1
abbrev pub through : ℕ → ℕ → List Step
through r x = Write One 0x01 r ∷ Write One 0x01 x ∷ []

-- a Non-Z-BUS side 1, live, CLEAR 1, line enable 1 with WAIT, at a full buffer, in State 1 with the pointer at the Data Buffer
abbrev pub stuck : List Step
stuck = through 0x00 0x00 ++ through 0x0A 0x40 ++ through 0x01 0x01 ++ replicate 128 (Write One 0x00 0x00) ++ (Write One 0x01 0x0F ∷ [])
