-- Sequences with bursts that show that the premises can be met and that the sight sees: each is computed.
use Rattle.std.specs.Prelude.{ℕ, ◌≡◌, List, [], ◌∷◌, map, length}
use Rattle.machine.specs.declared.Which.{Which}
use Rattle.machine.specs.declared.Which.TheVariants.{One, Two}
use Rattle.machine.specs.declared.Chip.{Chip}
use Rattle.machine.specs.declared.Step.TheVariants.{Write, DmaWrite}
use Rattle.machine.specs.declared.Answer.TheVariants.{Done}
use Rattle.machine.specs.History.{ran}
use Rattle.dma.specs.declared.Way.{Way}
use Rattle.dma.specs.declared.Way.TheVariants.{In, Out}
use Rattle.dma.specs.declared.BurstAnswer.{BurstAnswer}
use Rattle.dma.specs.declared.BurstAnswer.TheVariants.{Moved, Refused}
use Rattle.dma.specs.Burst.{begins, while_requested, steps, burst, filled}
use Rattle.dma.specs.Sequences.{Deed, Single, Burst, after, OfStep, OfBurst, replies}
use Rattle.masking.specs.Premises.{carrying}
use Rattle.masking.specs.Sight.{whole, taken_out}
use Rattle.masking.specs.Bursts.{SameVerdicts, Sequences, Place, gets, keeps, DeedSight, of_step, of_burst, deed_sight, deed_sights}
use Rattle.masking.specs.Showings.{Twin, ◌or◌, watching, expecting, see, seen}

-- ---- chips

-- side 1 watches for 41 and 61, with REQUEST and stop on match; side 2 with REQUEST
abbrev pub writing : Chip
writing = ran watching (Write One 0x01 0x0B ∷ Write Two 0x01 0x03 ∷ [])

-- side 2 expects 41, with REQUEST and stop on match; side 1 with REQUEST
abbrev pub reading : Chip
reading = ran expecting (Write One 0x01 0x03 ∷ Write Two 0x01 0x0B ∷ [])

-- ---- what may be seen

-- of a sequence from a chip. To open it opens the machine and bursts
unfoldable pub deeds_seen : Chip → List Deed → List DeedSight
unfolding deed_sight deed_sights begins while_requested steps burst filled replies seen
deeds_seen = deed_sights

-- a burst's answer, how many single steps it is, the lines, the count and memory
abbrev pub saw : BurstAnswer → ℕ → ℕ → ℕ → List Place → DeedSight
saw a i l n m = of_burst (record { answer = a; single_steps = i; after_lines = l; after_count = n; memory = m })

-- ---- a pair that meets the premises with different bytes

-- a step with another byte in the second sequence, or a burst with another memory
pub data Pair : Type 0 where
  twin : Twin → Pair
  memories : Way → Which → List ℕ → List ℕ → Pair

abbrev pub first : Pair → Deed
first (twin t) = Single t.does
first (memories way w m n) = Burst way w m

abbrev pub second : Pair → Deed
second (twin t) = Single (carrying t.instead t.does)
second (memories way w m n) = Burst way w n

abbrev pub firsts : List Pair → List Deed
firsts = map first

abbrev pub seconds : List Pair → List Deed
seconds = map second

-- one by one: a burst into the FIFO, of whose memory the first byte doesn't match and the second does, so that REQUEST drops, with another byte behind them,
-- where only the second sequence's matches; a byte by a step; a burst out of the FIFO; and one on side 1, which hasn't the role
abbrev pub payload : List Pair
payload =
    memories In One (0x50 ∷ 0x41 ∷ 0x42 ∷ []) (0x60 ∷ 0x61 ∷ 0x41 ∷ []) ∷ twin (DmaWrite One 0x51 or 0x62)
    ∷ memories Out Two (0x01 ∷ 0x02 ∷ 0x03 ∷ 0x04 ∷ []) (0x05 ∷ 0x06 ∷ 0x07 ∷ 0x08 ∷ []) ∷ memories Out One (0x01 ∷ []) (0x05 ∷ []) ∷ []

-- what is seen of either
abbrev pub seen_payload : List DeedSight
seen_payload =
    saw (Moved 2) 2 9 2 (keeps ∷ keeps ∷ keeps ∷ []) ∷ of_step (see (whole Done) 9 3)
    ∷ saw (Moved 3) 3 1 0 (gets taken_out ∷ gets taken_out ∷ gets taken_out ∷ keeps ∷ []) ∷ saw (Refused 7) 0 1 0 (keeps ∷ []) ∷ []

-- what is handed back differs in the bytes taken out, and in those that memory had
pub record Meets : Type 0 where
  pub met : Sequences writing writing (firsts payload) (seconds payload)
  pub first_replies : replies writing (firsts payload)
      ≡ OfBurst (Moved 2) (0x50 ∷ 0x41 ∷ 0x42 ∷ []) ∷ OfStep Done ∷ OfBurst (Moved 3) (0x50 ∷ 0x41 ∷ 0x51 ∷ 0x04 ∷ [])
      ∷ OfBurst (Refused 7) (0x01 ∷ []) ∷ []
  pub second_replies : replies writing (seconds payload)
      ≡ OfBurst (Moved 2) (0x60 ∷ 0x61 ∷ 0x41 ∷ []) ∷ OfStep Done ∷ OfBurst (Moved 3) (0x60 ∷ 0x61 ∷ 0x62 ∷ 0x08 ∷ [])
      ∷ OfBurst (Refused 7) (0x05 ∷ []) ∷ []
  pub first_seen : deeds_seen writing (firsts payload) ≡ seen_payload
  pub second_seen : deeds_seen writing (seconds payload) ≡ seen_payload

-- ---- what breaks the premises, and is seen

-- memories of equal length, and the verdicts on the bytes moved are not the same
abbrev pub BreaksVerdicts : Chip → Chip → Way → Which → List ℕ → List ℕ → Type 0
BreaksVerdicts k l way w m n = (length m ≡ length n) × (SameVerdicts k l (steps way k w m) (steps way l w n) → ⊥)

-- the verdicts are the same, and the memories' lengths are not
abbrev pub BreaksLength : Chip → Chip → Way → Which → List ℕ → List ℕ → Type 0
BreaksLength k l way w m n = (length m ≡ length n → ⊥) × SameVerdicts k l (steps way k w m) (steps way l w n)

-- a byte that matches in the middle of memory, and one that doesn't
abbrev pub matching : List ℕ
matching = 0x50 ∷ 0x41 ∷ 0x51 ∷ []

abbrev pub other : List ℕ
other = 0x60 ∷ 0x42 ∷ 0x52 ∷ []

-- a memory with fewer bytes
abbrev pub short : List ℕ
short = 0x50 ∷ []

abbrev pub into : List ℕ → List Deed
into m = Burst In One m ∷ []

-- memory for a burst out of the FIFO, where bytes are judged as they come out
abbrev pub room : List ℕ
room = 0x00 ∷ 0x00 ∷ 0x00 ∷ []

abbrev pub across : List ℕ → List Deed
across m = Burst In One m ∷ Burst Out Two room ∷ []

-- the chip that it meets
abbrev pub holding : List ℕ → Chip
holding m = after reading (Burst In One m)

-- a burst stops behind a byte that matches and goes on behind one that doesn't, and ends where memory does
pub record Breaks : Type 0 where
  pub in_stops : deeds_seen writing (into matching) ≡ saw (Moved 2) 2 9 2 (keeps ∷ keeps ∷ keeps ∷ []) ∷ []
  pub in_goes_on : deeds_seen writing (into other) ≡ saw (Moved 3) 3 10 3 (keeps ∷ keeps ∷ keeps ∷ []) ∷ []
  pub in_breaks : BreaksVerdicts writing writing In One matching other
  pub out_stops : deeds_seen reading (across matching)
      ≡ saw (Moved 3) 3 10 3 (keeps ∷ keeps ∷ keeps ∷ []) ∷ saw (Moved 2) 2 6 1 (gets taken_out ∷ gets taken_out ∷ keeps ∷ []) ∷ []
  pub out_goes_on : deeds_seen reading (across other)
      ≡ saw (Moved 3) 3 10 3 (keeps ∷ keeps ∷ keeps ∷ []) ∷ saw (Moved 3) 3 2 0 (gets taken_out ∷ gets taken_out ∷ gets taken_out ∷ []) ∷ []
  pub out_breaks : BreaksVerdicts (holding matching) (holding other) Out Two room room
  pub short_ends : deeds_seen writing (into short) ≡ saw (Moved 1) 1 10 1 (keeps ∷ []) ∷ []
  pub short_breaks : BreaksLength writing writing In One short other

-- ---- all of it

pub record SequenceShowings : Type 0 where
  pub meets : Meets
  pub breaks : Breaks
