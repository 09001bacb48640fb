-- Demand 3 over sequences that have bursts in them: a burst is read as its single steps, and any byte of its memory may differ.
use Rattle.std.specs.Prelude.{ℕ, ◌≡◌, List, [], ◌∷◌, ◌++◌, map, length, drop}
use Rattle.machine.specs.declared.Which.{Which}
use Rattle.machine.specs.declared.Chip.{Chip}
use Rattle.machine.specs.declared.Step.{Step}
use Rattle.machine.specs.Step.{step}
use Rattle.machine.specs.History.{entry, history, lines}
use Rattle.dma.specs.declared.Way.{Way}
use Rattle.dma.specs.declared.Way.TheVariants.{In, Out}
use Rattle.dma.specs.declared.BurstAnswer.{BurstAnswer}
use Rattle.dma.specs.Burst.{steps, burst}
use Rattle.dma.specs.Sequences.{Deed, Single, Burst, after, memory_after, flat}
use Rattle.masking.specs.Premises.{SameVerdict, Alike}
use Rattle.masking.specs.Sight.{Seen, Sight, sight, sights}
use Rattle.masking.specs.Masking.{controls}

-- ---- the premises

-- of steps in a row: the same-numbered ones agree in the verdict on the bytes that they move, each at the chip that the steps before it left.
-- Where one row has ended, nothing more is asked
abbrev pub SameVerdicts : Chip → Chip → List Step → List Step → Type 0
SameVerdicts k l [] ts = Unit {0}
SameVerdicts k l (s ∷ ss) [] = Unit {0}
SameVerdicts k l (s ∷ ss) (t ∷ ts) = SameVerdict k l s t × SameVerdicts (step k s).chip (step l t).chip ss ts

-- two bursts, at the chips that they meet: the same way and side, memories of equal length, and the same verdicts on the bytes moved. Of the bytes in memory
-- themselves nothing is asked: neither of those offered to the FIFO, nor of those behind them, nor of what a burst out of the FIFO writes over
pub record AlikeBurst (k l : Chip) (p q : Way) (w v : Which) (m n : List ℕ) : Type 0 where
  pub same_way : p ≡ q
  pub same_side : w ≡ v
  pub same_length : length m ≡ length n
  pub same_verdicts : SameVerdicts k l (steps p k w m) (steps q l v n)

-- two steps, or two bursts
abbrev pub AlikeDeed : Chip → Chip → Deed → Deed → Type 0
AlikeDeed k l (Single s) (Single t) = Alike k l s t
AlikeDeed k l (Single s) (Burst q v n) = ⊥
AlikeDeed k l (Burst p w m) (Single t) = ⊥
AlikeDeed k l (Burst p w m) (Burst q v n) = AlikeBurst k l p q w v m n

-- the same-numbered steps and bursts are alike, each at the chip that those before it left
abbrev pub Sequences : Chip → Chip → List Deed → List Deed → Type 0
Sequences k l [] [] = Unit {0}
Sequences k l [] (e ∷ es) = ⊥
Sequences k l (d ∷ ds) [] = ⊥
Sequences k l (d ∷ ds) (e ∷ es) = AlikeDeed k l d e × Sequences (after k d) (after l e) ds es

-- ---- what may be seen

-- of a place of memory after a burst: what a single step handed to it, or that it keeps its content
pub data Place : Type 0 where
  gets : Seen → Place
  keeps : Place

-- of memory after a burst: one into the FIFO reads it only; one out of it fills it with the bytes that its steps give, and behind them what was there stays
-- (`memory_after`, `filled` and `BurstFills` in dma)
abbrev pub places : Way → Chip → Which → List ℕ → List Place
places In k w memory = map (λ x. keeps) memory
places Out k w memory =
    map (λ s. gets s.answer) (sights k (history k (steps Out k w memory))) ++ map (λ x. keeps) (drop (length (steps Out k w memory)) memory)

-- that what is seen is of the memory that is left: as many places, and one that keeps its content has its old byte
abbrev pub Kept : List Place → List ℕ → List ℕ → Type 0
Kept [] [] [] = Unit {0}
Kept [] [] (y ∷ ys) = ⊥
Kept [] (x ∷ xs) ys = ⊥
Kept (p ∷ ps) [] ys = ⊥
Kept (p ∷ ps) (x ∷ xs) [] = ⊥
Kept (gets s ∷ ps) (x ∷ xs) (y ∷ ys) = Kept ps xs ys
Kept (keeps ∷ ps) (x ∷ xs) (y ∷ ys) = (y ≡ x) × Kept ps xs ys

abbrev pub PlacesKeep : Type 0
PlacesKeep = (way : Way) (k : Chip) (w : Which) (memory : List ℕ) → Kept (places way k w memory) memory (memory_after way k w memory)

-- of a burst: its answer, which is the number of bytes moved, Floating or a refusal; how many single steps it is; the lines and the count after it; and memory
pub record BurstSight : Type 0 where
  pub answer : BurstAnswer
  pub single_steps : ℕ
  pub after_lines : ℕ
  pub after_count : ℕ
  pub memory : List Place

-- of a step or of a burst
pub data DeedSight : Type 0 where
  of_step : Sight → DeedSight
  of_burst : BurstSight → DeedSight

unfoldable pub deed_sight : Chip → Deed → DeedSight
deed_sight k (Single s) = of_step (sight k (entry k s))
deed_sight k (Burst way w memory) =
    of_burst
    (record {
      answer = (burst way k w memory).answer;
      single_steps = length (steps way k w memory);
      after_lines = lines (burst way k w memory).chip.control;
      after_count = (burst way k w memory).chip.control.count;
      memory = places way k w memory;
    })

-- of a sequence from the chip k on, one by one
unfoldable pub deed_sights : Chip → List Deed → List DeedSight
deed_sights k [] = []
deed_sights k (d ∷ ds) = deed_sight k d ∷ deed_sights (after k d) ds

-- ---- demand 3

-- from any record, valid or not: of the single steps that the two sequences are read as, all that demand 3 keeps is equal at every step; and so is what may be
-- seen of each step and each burst
pub record Masked (k : Chip) (ds es : List Deed) : Type 0 where
  pub same_sights : sights k (history k (flat k ds)) ≡ sights k (history k (flat k es))
  pub same_controls : controls (history k (flat k ds)) ≡ controls (history k (flat k es))
  pub same_deeds : deed_sights k ds ≡ deed_sights k es

abbrev pub MaskingBursts : Type 0
MaskingBursts = (k : Chip) (ds es : List Deed) → Sequences k k ds es → Masked k ds es
