-- Sessions that show that the premises can be met and that the sight sees: each is computed.
use Rattle.std.specs.Prelude.{ℕ, ◌≡◌, false, List, [], ◌∷◌, ◌++◌, map}
use Rattle.machine.specs.declared.Which.TheVariants.{One, Two}
use Rattle.machine.specs.declared.Chip.{Chip}
use Rattle.machine.specs.declared.Step.{Step}
use Rattle.machine.specs.declared.Step.TheVariants.{Write, Read, DmaWrite, DmaRead, Acknowledge}
use Rattle.machine.specs.declared.Answer.{Answer}
use Rattle.machine.specs.declared.Answer.TheVariants.{Done, Byte, Floating, Refused}
use Rattle.machine.specs.Fifo.{offered}
use Rattle.machine.specs.Reset.{new_chip}
use Rattle.machine.specs.Record.{chip, with_place}
use Rattle.machine.specs.Step.{carries}
use Rattle.machine.specs.History.{history, ran}
use Rattle.machine.specs.Computed.{computed}
use Rattle.machine.specs.Worked.{awake, through, armed}
use Rattle.masking.specs.Premises.{carrying, SameStep, moves_in, moves_out, SameVerdict, Sessions}
use Rattle.masking.specs.Sight.{Seen, whole, taken_out, Sight, sight, sights}

-- ---- chips. Registers go by their numbers, which are their addresses with RJA 1

-- both sides live, CLEAR 1: side 1 writes and side 2 reads
abbrev pub live : Chip
live = ran (new_chip 0) awake

-- the same, and side 1 with MIE, Match 41 and Mask 20, so that 41 and 61 match, and IE of the pattern
abbrev pub watching : Chip
watching = ran live (Write One 0x00 0x82 ∷ Write One 0x0D 0x41 ∷ Write One 0x0E 0x20 ∷ Write One 0x03 0x0C ∷ [])

-- the same as `live`, and side 2 with MIE, Match 41 and IE of the pattern, with Mask 00; side 1's pattern is the 00 of a reset
abbrev pub expecting : Chip
expecting = ran live (Write Two 0x00 0x82 ∷ Write Two 0x0D 0x41 ∷ Write Two 0x03 0x0C ∷ [])

-- a Non-Z-BUS side 1, live, CLEAR 1, in State 1 with the pointer at the Data Buffer
abbrev pub pointing : Chip
pointing = ran (new_chip 2) (through 0x00 0x00 ++ through 0x0A 0x40 ++ (Write One 0x01 0x0F ∷ []))

-- a record that refusal 1 forbids: both sides live, side 1 watching, and start 128
abbrev pub forbidden : Chip
forbidden = chip (with_place 128 0 watching.control) watching.payload

-- ---- pairs that meet the premises with different bytes

-- a step, and the byte in place of its own in the second session
pub record Twin : Type 0 where
  pub does : Step
  pub instead : ℕ

infix 70 ◌or◌
abbrev pub ◌or◌ : Step → ℕ → Twin
s or y = record { does = s; instead = y }

-- the same step in both
abbrev pub both : Step → Twin
both s = s or carries s

abbrev pub firsts : List Twin → List Step
firsts = map (λ t. t.does)

abbrev pub seconds : List Twin → List Step
seconds = map (λ t. carrying t.instead t.does)

-- the answers to steps, from a chip
abbrev pub answers : Chip → List Step → List Answer
answers k ss = map (λ e. e.answer) (history k ss)

-- step by step: CLEAR 0; a byte that is not accepted, where only the first matches; CLEAR 1; a byte that is accepted, where neither matches; one by DMA,
-- where both do; the first is taken out; a DMA write on the reader takes out the second, and its own byte goes nowhere, where only the first matches on
-- side 2; a read that fails; a byte that is accepted on side 1, where neither matches, though on side 2 the first would
abbrev pub payload : List Twin
payload =
    both (Write One 0x0A 0x00) ∷ Write One 0x0F 0x41 or 0x42 ∷ both (Write One 0x0A 0x40) ∷ Write One 0x0F 0x50 or 0x60 ∷ DmaWrite One 0x41 or 0x61
    ∷ both (DmaRead Two) ∷ DmaWrite Two 0x00 or 0x99 ∷ both (Read Two 0x0F) ∷ Write One 0x0F 0x00 or 0x01 ∷ []

-- its answers, with the two bytes taken out
abbrev pub values : ℕ → ℕ → List Answer
values x y = Done ∷ Done ∷ Done ∷ Done ∷ Done ∷ Byte x ∷ Byte y ∷ Byte 0x00 ∷ Done ∷ []

-- through the pointer, then directly
abbrev pub pointed : List Twin
pointed = Write One 0x01 0x50 or 0x60 ∷ Write One 0x00 0x51 or 0x61 ∷ []

-- of a new chip: on an unconnected side, and on a side in reset; 00 would match and 01 would not
abbrev pub unmoved : List Twin
unmoved = DmaWrite Two 0x00 or 0x01 ∷ Write One 0x1E 0x00 or 0x01 ∷ []

-- where the record is one that refusal 1 forbids, and 41 would match and 42 would not; and where 41 matches on side 2 alone, which doesn't move it yet
abbrev pub one : List Twin
one = DmaWrite One 0x41 or 0x42 ∷ []

abbrev pub Met : Chip → List Twin → Type 0
Met k ts = Sessions k k (firsts ts) (seconds ts)

-- the premises are met, and the answers differ in the bytes taken out
abbrev pub Meets : Type 0
Meets =
    Met watching payload × Met pointing pointed × Met (new_chip 0) unmoved × Met forbidden one × Met expecting one
    × (answers watching (firsts payload) ≡ values 0x50 0x41) × (answers watching (seconds payload) ≡ values 0x60 0x61)

-- ---- what is seen

-- what may be seen of steps from a chip. To open it opens the machine
unfoldable pub seen : Chip → List Step → List Sight
unfolding sight sights moves_in moves_out computed
seen k ss = sights k (computed k ss)

-- steps from a chip, and what is to be seen of them
pub record Row : Type 0 where
  pub from : Chip
  pub steps : List Step
  pub wants : List Sight

abbrev pub row : Chip → List Step → List Sight → Row
row k ss l = record { from = k; steps = ss; wants = l }

-- each row of a list shows what it is to show
abbrev pub Shows : List Row → Type 0
Shows rs = map (λ r. seen r.from r.steps) rs ≡ map (λ r. r.wants) rs

-- the answer, the lines and the count
abbrev pub see : Seen → ℕ → ℕ → Sight
see a l n = record { answer = a; after_lines = l; after_count = n }

-- one step from a chip
abbrev pub sees : Chip → Step → Seen → ℕ → ℕ → Row
sees k s a l n = row k (s ∷ []) (see a l n ∷ [])

-- two that differ only in a line
abbrev pub only_line : List Row
only_line = sees live (Write One 0x01 0x03) (whole Done) 2 0 ∷ sees live (Write One 0x01 0x00) (whole Done) 0 0 ∷ []

-- only in the count
abbrev pub only_count : List Row
only_count = sees live (DmaWrite One 0x41) (whole Done) 0 1 ∷ sees live (Write One 0x0E 0x41) (whole Done) 0 0 ∷ []

-- only in a refusal, and only in its number
abbrev pub only_refusal : List Row
only_refusal =
    sees pointing (Read One 0x02) (whole (Refused 2)) 0 0 ∷ sees pointing (Acknowledge One) (whole Floating) 0 0
    ∷ sees forbidden (Read One 0x02) (whole (Refused 1)) 0 0 ∷ []

-- only in the value of a register read
abbrev pub only_register : List Row
only_register = sees live (Read One 0x00) (whole (Byte 0x02)) 0 0 ∷ sees live (Read One 0x0A) (whole (Byte 0x40)) 0 0 ∷ []

-- only in a vector
abbrev pub only_vector : List Row
only_vector =
    sees (ran (new_chip 0) (armed 0xFF 0x05)) (Acknowledge One) (whole (Byte 0xF3)) 0 0
    ∷ sees (ran (new_chip 0) (armed 0x51 0x05)) (Acknowledge One) (whole (Byte 0x53)) 0 0 ∷ []

-- a byte 00 that is taken out, and the 00 of a failed read
abbrev pub blank_or_00 : List Row
blank_or_00 = sees (ran live (DmaWrite One 0x00 ∷ [])) (DmaRead Two) taken_out 0 0 ∷ sees live (DmaRead Two) (whole (Byte 0x00)) 0 0 ∷ []

-- the first pair above: the bytes taken out are not seen, the 00 of the failed read is
abbrev pub seen_payload : List Row
seen_payload =
    row watching (firsts payload)
    (see (whole Done) 0 0 ∷ see (whole Done) 0 0 ∷ see (whole Done) 0 0 ∷ see (whole Done) 0 1 ∷ see (whole Done) 1 2
    ∷ see taken_out 1 1 ∷ see taken_out 1 0 ∷ see (whole (Byte 0x00)) 1 0 ∷ see (whole Done) 1 1 ∷ []) ∷ []

-- ---- what breaks the premises, and is seen

-- only the premise on verdicts is broken
abbrev pub BreaksVerdict : Chip → Chip → Step → Step → Type 0
BreaksVerdict k l s t = SameStep k.control l.control s t × (SameVerdict k l s t → ⊥)

-- only the premise on steps is broken
abbrev pub BreaksStep : Chip → Chip → Step → Step → Type 0
BreaksStep k l s t = (SameStep k.control l.control s t → ⊥) × SameVerdict k l s t

-- a byte that goes in and matches, and one that doesn't
abbrev pub matching : Step
matching = DmaWrite One 0x41

abbrev pub other : Step
other = DmaWrite One 0x42

-- their lines differ
abbrev pub unlike_in : List Row
unlike_in = sees watching matching (whole Done) 1 1 ∷ sees watching other (whole Done) 0 1 ∷ []

-- the same, where they are judged as they come out
abbrev pub holding : Step → Chip
holding s = ran expecting (s ∷ [])

abbrev pub unlike_out : List Row
unlike_out =
    row expecting (matching ∷ DmaRead Two ∷ []) (see (whole Done) 0 1 ∷ see taken_out 4 0 ∷ [])
    ∷ row expecting (other ∷ DmaRead Two ∷ []) (see (whole Done) 0 1 ∷ see taken_out 0 0 ∷ []) ∷ []

-- the same byte offered on the other side: there a DMA write takes one out, and there is none
abbrev pub elsewhere : Step
elsewhere = DmaWrite Two 0x41

abbrev pub unlike_side : List Row
unlike_side = sees live matching (whole Done) 0 1 ∷ sees live elsewhere (whole (Byte 0x00)) 0 0 ∷ []

-- a write of the compare register, which is no offer, and one with another byte
abbrev pub one_byte : Step
one_byte = Write One 0x08 0x01

abbrev pub another : Step
another = Write One 0x08 0x02

-- they are told apart by a read
abbrev pub read_back : List Row
read_back =
    row live (one_byte ∷ Read One 0x08 ∷ []) (see (whole Done) 0 0 ∷ see (whole (Byte 0x01)) 0 0 ∷ [])
    ∷ row live (another ∷ Read One 0x08 ∷ []) (see (whole Done) 0 0 ∷ see (whole (Byte 0x02)) 0 0 ∷ []) ∷ []

-- in neither is the byte offered
abbrev pub NoOffer : Type 0
NoOffer = (offered live.control one_byte ≡ false) × (offered live.control another ≡ false)

-- what breaks one of the premises is seen
pub record Breaks : Type 0 where
  pub in_seen : Shows unlike_in
  pub in_breaks : BreaksVerdict watching watching matching other
  pub out_seen : Shows unlike_out
  pub out_breaks : BreaksVerdict (holding matching) (holding other) (DmaRead Two) (DmaRead Two)
  pub side_seen : Shows unlike_side
  pub side_breaks : BreaksStep live live matching elsewhere
  pub read_back_seen : Shows read_back
  pub no_offer : NoOffer
  pub read_back_breaks : BreaksStep live live one_byte another

-- ---- all of it

pub record Showings : Type 0 where
  pub lines_seen : Shows only_line
  pub count_seen : Shows only_count
  pub refusals_seen : Shows only_refusal
  pub registers_seen : Shows only_register
  pub vector_seen : Shows only_vector
  pub blank_apart : Shows blank_or_00
  pub payload_blank : Shows seen_payload
  pub meets : Meets
  pub breaks : Breaks
