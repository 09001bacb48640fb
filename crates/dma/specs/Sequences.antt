-- Demand 2 over sequences that have bursts in them: a burst is read as its single steps.
use Rattle.std.specs.Prelude.{ℕ, ◌≡◌, List, [], ◌∷◌, ◌++◌, map, length, drop}
use Rattle.machine.specs.declared.Which.{Which}
use Rattle.machine.specs.declared.Chip.{Chip}
use Rattle.machine.specs.declared.Step.{Step}
use Rattle.machine.specs.declared.Answer.{Answer}
use Rattle.machine.specs.Step.{step}
use Rattle.machine.specs.History.{Entry, history, ran}
use Rattle.dma.specs.declared.Way.{Way}
use Rattle.dma.specs.declared.Way.TheVariants.{In, Out}
use Rattle.dma.specs.declared.BurstAnswer.{BurstAnswer}
use Rattle.dma.specs.Burst.{begins, steps, answer_of, burst, bytes_of, filled}

-- what is asked of a chip: a step, or a burst on a side with lent memory
pub data Deed : Type 0 where
  Single : Step → Deed
  Burst : Way → Which → List ℕ → Deed

-- the single steps that it is read as
abbrev pub steps_of : Chip → Deed → List Step
steps_of k (Single s) = s ∷ []
steps_of k (Burst way w memory) = steps way k w memory

-- the record after it
abbrev pub after : Chip → Deed → Chip
after k (Single s) = (step k s).chip
after k (Burst way w memory) = (burst way k w memory).chip

-- the memory after a burst: one into the FIFO reads it only
abbrev pub memory_after : Way → Chip → Which → List ℕ → List ℕ
memory_after In k w memory = memory
memory_after Out k w memory = filled k w memory

-- what is handed back: a step's answer, or a burst's answer and the memory that it leaves
pub data Reply : Type 0 where
  OfStep : Answer → Reply
  OfBurst : BurstAnswer → List ℕ → Reply

abbrev pub reply : Chip → Deed → Reply
reply k (Single s) = OfStep (step k s).answer
reply k (Burst way w memory) = OfBurst (burst way k w memory).answer (memory_after way k w memory)

-- ---- a sequence

-- what is handed back, one by one
unfoldable pub replies : Chip → List Deed → List Reply
replies k [] = []
replies k (d ∷ ds) = reply k d ∷ replies (after k d) ds

-- the record that it leaves
unfoldable pub left : Chip → List Deed → Chip
left k [] = k
left k (d ∷ ds) = left (after k d) ds

-- all its single steps in a row
unfoldable pub flat : Chip → List Deed → List Step
flat k [] = []
flat k (d ∷ ds) = steps_of k d ++ flat (after k d) ds

-- each deed's entries: the history of its single steps, from the record that it meets
unfoldable pub entries : Chip → List Deed → List Entry
entries k [] = []
entries k (d ∷ ds) = history k (steps_of k d) ++ entries (after k d) ds

-- ---- the promise

-- memory after a burst whose steps gave these bytes
abbrev pub memory_with : Way → List ℕ → List ℕ → List ℕ
memory_with In bs memory = memory
memory_with Out bs memory = bs ++ drop (length bs) memory

-- what is handed back is read off the entries of the single steps: a step's answer is its entry's; a burst's is their number, or what is answered where it
-- doesn't begin, and its memory has the bytes that they give
abbrev pub ReadOff : Chip → Deed → Reply → List Entry → Type 0
ReadOff k (Single s) (OfStep a) es = map (λ e. e.answer) es ≡ a ∷ []
ReadOff k (Single s) (OfBurst a m) es = ⊥
ReadOff k (Burst way w memory) (OfStep a) es = ⊥
ReadOff k (Burst way w memory) (OfBurst a m) es =
    (a ≡ answer_of (begins way k.control w (length memory)) (length es)) × (m ≡ memory_with way (bytes_of es) memory)

-- one by one, each at the record that it meets
abbrev pub AllReadOff : Chip → List Deed → List Reply → Type 0
AllReadOff k [] [] = Unit {0}
AllReadOff k [] (r ∷ rs) = ⊥
AllReadOff k (d ∷ ds) [] = ⊥
AllReadOff k (d ∷ ds) (r ∷ rs) = ReadOff k d r (history k (steps_of k d)) × AllReadOff (after k d) ds rs

-- from any record: every answer, line and record of a sequence is that of the machine's history of its single steps, and so is the record that it leaves; and
-- what is handed back is read off that history
pub record AsSingles (k : Chip) (ds : List Deed) : Type 0 where
  pub same_entries : entries k ds ≡ history k (flat k ds)
  pub same_left : left k ds ≡ ran k (flat k ds)
  pub read_off : AllReadOff k ds (replies k ds)

abbrev pub SequencesAreSingles : Type 0
SequencesAreSingles = (k : Chip) (ds : List Deed) → AsSingles k ds
